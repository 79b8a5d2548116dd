-- The laws of the two own rules, and what their test comes to.
use Rattle.std.specs.Prelude.{◌≡◌, Bool, List, ◌∷◌, nat_le}
use Rattle.std.proofs.Common.{sym, ◌∙◌, ⊎_elim, arith}
use Rattle.std.proofs.lemmas.Bool.{cases_Bool, leb-true, leb-false, le-leb, lt-leb}
use Rattle.stops.specs.declared.stop.Stop.{Stop}
use Rattle.fleet.specs.declared.tally.Tally.{Tally}
use Rattle.fleet.specs.Tallies.{tallied, shown}
use Rattle.fleet.specs.Layers.{OwnLaws}
use Rattle.fleet.specs.Slotwise.{slotwise}
use Rattle.fleet.proofs.Slotwise.{slotwise_laws}
use Rattle.layers.specs.declared.rules.byslot.BySlot.{BySlot}
use Rattle.layers.specs.SlotRules.{SlotRule, SlotLaws}
use Rattle.layers.specs.BySlots.{figures_at, by_slot}
use Rattle.layers.specs.OwnRules.{share_rule, reserve, weight_rule, weight}

pub by_slot_laws : {Figures : Type 0} (w : SlotRule Figures) → SlotLaws w → OwnLaws (slotwise (by_slot w))
by_slot_laws w l = slotwise_laws (by_slot w) (record {
  nothing = λ b i. l.nothing (figures_at w b i);
  rises = λ b i. l.rises (figures_at w b i);
})

pub share_laws : SlotLaws share_rule
share_laws = record {
  nothing = λ h. omega (arith, h.within);
  rises = λ h a b p t u. omega arith;
  shows = λ h t k. omega (arith, h.few);
}

pub limit_laws : SlotLaws weight_rule
limit_laws = record {
  nothing = λ h. omega arith;
  rises = λ h a b p t u. u;
  shows = λ h t k. omega (arith, h.few);
}

-- so both own rules keep the laws
pub reserve_laws : OwnLaws (slotwise reserve)
reserve_laws = by_slot_laws share_rule share_laws

pub weight_laws : OwnLaws (slotwise weight)
weight_laws = by_slot_laws weight_rule limit_laws

-- what is shown of the counts decides
shown_decides : {Figures : Type 0} (w : SlotRule Figures) → SlotLaws w → (h : Figures) (t : Tally) → nat_le (w.used h (shown t)) (w.room h) ≡ nat_le (w.used h t) (w.room h)
shown_decides w laws h t =
    ⊎_elim
    (λ e. e ∙ sym (le-leb _ _ (laws.shows h t (leb-true _ _ e))))
    (λ e. e ∙ sym (lt-leb _ _ (omega (arith, leb-false _ _ e, laws.rises h (shown t) t (omega arith) (omega arith) (omega arith)))))
    (cases_Bool (nat_le (w.used h (shown t)) (w.room h)))

-- the test of what is shown with one more stop, against the figures of its slot
pub slot_tested : {Figures : Type 0} (w : SlotRule Figures) → SlotLaws w → (b : BySlot Figures) (h : Figures) (t : Tally) (s : Stop) (l : List Stop) (r : Bool)
    → h ≡ figures_at w b s.slot → t ≡ shown (tallied (s ∷ l) s.slot) → r ≡ nat_le (w.used h t) (w.room h) → r ≡ (slotwise (by_slot w)).admits b l s
slot_tested w laws b h t s l r e f k = k ∙ rw (f, e) (shown_decides w laws (figures_at w b s.slot) (tallied (s ∷ l) s.slot))
