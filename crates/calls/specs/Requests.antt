-- The stop that an offer asks for.
use Rattle.std.specs.Prelude.{List, Some, None, Option}
use Rattle.stops.specs.declared.slot.Slot.{Slot}
use Rattle.std.specs.List.{slice_get}
use Rattle.stops.specs.declared.stop.Stop.{Stop}
use Rattle.stops.specs.Places.{place_of}
use Rattle.stops.specs.Stops.{stop_of}
use Rattle.calls.specs.declared.call.Request.{Request}

-- what is made of a value, if there is one
abbrev pub with_some : {X Y : Type 0} → Option X → (X → Option Y) → Option Y
with_some None f = None
with_some (Some x) f = f x

-- the stop at the place and in the slot that a request names, with its units and class: nothing, where the place is off the grid, the slot is not in the table or the units are out of range
abbrev pub stop_for : List Slot → Request → Option Stop
stop_for table q =
    with_some (place_of q.x q.y) (λ place. with_some (slice_get table q.slot) (λ hours.
    stop_of q.slot hours place q.units q.class))
