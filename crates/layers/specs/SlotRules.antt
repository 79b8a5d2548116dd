-- What figures of one slot allow to be held there.
use Rattle.std.specs.Prelude.{ℕ, ◌≤◌}
use Rattle.fleet.specs.declared.tally.Tally.{Tally}
use Rattle.fleet.specs.Tallies.{nothing_held, shown}

-- A rule of one slot, over its figures.
pub record SlotRule (Figures : Type 0) : Type 0 where
  -- the figures of a slot past the last, where no stop is
  pub none : Figures
  -- how much of the slot a tally uses up
  pub used : Figures → Tally → ℕ
  -- how much there is
  pub room : Figures → ℕ

-- The laws that each such rule proves.
pub record SlotLaws {Figures : Type 0} (w : SlotRule Figures) : Type 0 where
  -- there is room for nothing
  pub nothing : (h : Figures) → w.used h nothing_held ≤ w.room h
  -- what is used up rises with each count
  pub rises : (h : Figures) (a b : Tally) → a.privates ≤ b.privates → a.trades ≤ b.trades → a.units ≤ b.units → w.used h a ≤ w.used h b
  -- where there is room for what is shown of the counts, there is room for them
  pub shows : (h : Figures) (t : Tally) → w.used h (shown t) ≤ w.room h → w.used h t ≤ w.room h
