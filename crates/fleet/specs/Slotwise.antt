-- Own rules that are kept slot by slot and decided by the tally of a slot.
use Rattle.std.specs.Prelude.{ℕ, ◌≤◌, ◌∷◌, nat_le}
use Rattle.fleet.specs.declared.tally.Tally.{Tally}
use Rattle.fleet.specs.Tallies.{tallied}
use Rattle.fleet.specs.Layers.{Own}

pub record Slotwise (Figures : Type 0) : Type 0 where
  -- how much of a slot a tally uses up
  pub used : Figures → ℕ → Tally → ℕ
  -- how much there is
  pub room : Figures → ℕ → ℕ

-- the rule is kept in each slot; a stop is tested in its own
abbrev pub slotwise : {Figures : Type 0} → Slotwise Figures → Own Figures
slotwise w = record {
  keeps = λ f l. (i : ℕ) → w.used f i (tallied l i) ≤ w.room f i;
  admits = λ f l s. nat_le (w.used f s.slot (tallied (s ∷ l) s.slot)) (w.room f s.slot);
}
