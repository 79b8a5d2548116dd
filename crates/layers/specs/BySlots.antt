-- The rule that is kept in each slot, by the slot's figures.
use Rattle.std.specs.Prelude.{ℕ, slice_index_or}
use Rattle.fleet.specs.Slotwise.{Slotwise}
use Rattle.layers.specs.declared.rules.byslot.BySlot.{BySlot}
use Rattle.layers.specs.SlotRules.{SlotRule}

-- the figures of a slot
abbrev pub figures_at : {Figures : Type 0} → SlotRule Figures → BySlot Figures → ℕ → Figures
figures_at w b i = slice_index_or b.figures i w.none

-- what a tally uses up of a slot and how much there is, by its figures
abbrev pub by_slot : {Figures : Type 0} → SlotRule Figures → Slotwise (BySlot Figures)
by_slot w = record {
  used = λ b i t. w.used (figures_at w b i) t;
  room = λ b i. w.room (figures_at w b i);
}
