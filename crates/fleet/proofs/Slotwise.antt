-- The laws of an own rule that is kept slot by slot, from two facts on what a tally uses up.
use Rattle.std.proofs.Common.{ℕ, ◌≤◌, eqb, ◌∷◌, subst, ⊎_elim, arith}
use Rattle.std.proofs.lemmas.List.Sums.{sum_by-cons}
use Rattle.std.proofs.lemmas.Bool.{cases_Bool, eqb-true, leb-true, le-leb}
use Rattle.fleet.specs.declared.tally.Tally.{Tally}
use Rattle.fleet.specs.Tallies.{tallied, nothing_held, one_private, one_trade, slot_units}
use Rattle.fleet.specs.Layers.{OwnLaws}
use Rattle.fleet.specs.Slotwise.{Slotwise, slotwise}
use Rattle.fleet.proofs.Counts.{tallied_perm, tallied_elsewhere}

pub record Monotone {Figures : Type 0} (w : Slotwise Figures) : Type 0 where
  -- there is room for nothing
  pub nothing : (f : Figures) (i : ℕ) → w.used f i nothing_held ≤ w.room f i
  -- what is used up rises with each count
  pub rises : (f : Figures) (i : ℕ) (a b : Tally) → a.privates ≤ b.privates → a.trades ≤ b.trades → a.units ≤ b.units → w.used f i a ≤ w.used f i b

pub slotwise_laws : {Figures : Type 0} (w : Slotwise Figures) → Monotone w → OwnLaws (slotwise w)
slotwise_laws w m = record {
  nothing = m.nothing;
  blind = λ f a b h k i. rw (← tallied_perm a b i h) (k i);
  fewer = λ f s l k i.
      let le : w.used f i (tallied l i) ≤ w.used f i (tallied (s ∷ l) i) =
      m.rises f i (tallied l i) (tallied (s ∷ l) i) (omega (arith, sum_by-cons (one_private i) s l)) (omega (arith, sum_by-cons (one_trade i) s l)) (omega (arith, sum_by-cons (slot_units i) s l)) in
      omega (arith, k i);
  sound = λ f l s k e i.
      ⊎_elim
      (λ q. let P : ℕ → Type 0 = λ j. w.used f j (tallied (s ∷ l) j) ≤ w.room f j in subst P (eqb-true s.slot i q) (leb-true _ _ e))
      (λ q. rw (tallied_elsewhere s l i q) (k i))
      (cases_Bool (eqb s.slot i));
  exact = λ f l s k. le-leb _ _ (k s.slot);
}
