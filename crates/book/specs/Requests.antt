-- What a request comes to before the numbers and the fleet are looked at.
use Rattle.std.specs.Prelude.{◌≡◌, List, Some, None, Ok, Err, Result}
use Rattle.stops.specs.declared.refusal.Refusal.{Refusal}
use Rattle.stops.specs.declared.slot.Slot.{Slot}
use Rattle.stops.specs.declared.stop.Stop.{Stop}
use Rattle.stops.specs.Refusals.{refused}
use Rattle.calls.specs.declared.call.Request.{Request}
use Rattle.calls.specs.Causes.{first, stop_rows}
use Rattle.calls.specs.Requests.{stop_for}

-- its stop, where no row holds of it, or else the first row that does
abbrev pub Wanted : List Slot → Request → Result Stop Refusal → Type 0
Wanted table q (Ok s) = (first (stop_rows table q) ≡ None) × (stop_for table q ≡ Some s)
Wanted table q (Err e) = first (stop_rows table q) ≡ Some (refused e)
