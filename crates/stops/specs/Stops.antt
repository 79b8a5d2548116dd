-- A delivery stop, made by tests.
use Rattle.std.specs.Prelude.{ℕ, Some, Option}
use Rattle.stops.specs.declared.class.Class.{Class}
use Rattle.stops.specs.declared.place.Place.{Place}
use Rattle.stops.specs.declared.slot.Slot.{Slot}
use Rattle.stops.specs.declared.stop.Stop.{Stop}
use Rattle.stops.specs.Limits.{last_slot, unit_limit}
use Rattle.stops.specs.Tests.{when_most}

-- the stop in a slot, with the slot's number from 0 to 11 and 1 to 200 units
abbrev pub stop_of : ℕ → Slot → Place → ℕ → Class → Option Stop
stop_of slot hours place units class =
    when_most slot last_slot (λ k. when_most 1 units (λ s. when_most units unit_limit (λ f.
    Some (record { slot = slot; hours = hours; place = place; units = units; class = class; known = k; some = s; few = f }))))
