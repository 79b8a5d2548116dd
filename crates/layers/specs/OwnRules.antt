-- The own rules of the two layers, slot by slot: what a tally uses up of a slot, and how much there is.
use Rattle.std.specs.Prelude.{◌+◌, max}
use Rattle.std.proofs.Common.{lit≤}
use Rattle.fleet.specs.Slotwise.{Slotwise}
use Rattle.layers.specs.declared.rules.byslot.BySlot.{BySlot}
use Rattle.layers.specs.declared.share.Share.{Share}
use Rattle.layers.specs.Figures.{WeightLimit}
use Rattle.layers.specs.SlotRules.{SlotRule}
use Rattle.layers.specs.BySlots.{by_slot}

-- private stops and the greater of kept and trade stops, within the places; past the last slot no places
abbrev pub share_rule : SlotRule Share
share_rule = record {
  none = record { places = 0; kept = 0; within = lit≤ tt; few = lit≤ tt };
  used = λ h t. t.privates + max h.kept t.trades;
  room = λ h. h.places;
}

-- the shares of a day, and that rule in each slot
abbrev pub Reserve : Type 0
Reserve = BySlot Share

abbrev pub reserve : Slotwise Reserve
reserve = by_slot share_rule

-- units, within the limit; past the last slot no units
abbrev pub weight_rule : SlotRule WeightLimit
weight_rule = record {
  none = record { count = 0; few = lit≤ tt };
  used = λ h t. t.units;
  room = λ h. h.count;
}

-- the limits of a day, and that rule in each slot
abbrev pub Weight : Type 0
Weight = BySlot WeightLimit

abbrev pub weight : Slotwise Weight
weight = by_slot weight_rule
