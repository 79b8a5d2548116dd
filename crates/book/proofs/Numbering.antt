-- The stop of a request, check by check.
use Rattle.std.proofs.Common.{◌≡◌, ◌≤◌, List, length, Some, None, Ok, Err, Option, Result, MatchResult, sym, refl, ◌∙◌, arith}
use Rattle.std.specs.List.{slice_get}
use Rattle.std.proofs.lemmas.Bool.Decides.{nat_tests}
use Rattle.stops.specs.declared.place.Place.{Place}
use Rattle.stops.specs.declared.refusal.Refusal.{Refusal}
use Rattle.stops.specs.declared.slot.Slot.{Slot}
use Rattle.stops.specs.declared.stop.Stop.{Stop}
use Rattle.stops.specs.Limits.{slot_limit, unit_limit}
use Rattle.stops.specs.Places.{place_of}
use Rattle.stops.specs.Refusals.{coded, unless}
use Rattle.stops.specs.Stops.{stop_of}
use Rattle.stops.proofs.Made.{made_some}
use Rattle.calls.specs.declared.call.Request.{Request}
use Rattle.calls.specs.Causes.{first, stop_rows}
use Rattle.calls.specs.Requests.{stop_for}
use Rattle.calls.proofs.Steps.{wanted_stop}
use Rattle.book.specs.Requests.{Wanted}

-- a place that was made, whatever becomes of a refusal
pub placed : (o : Option Place) (r : Result Place Refusal) (p : Place) → coded r ≡ unless 17 o → MatchResult r (λ x. ◌≡◌ {A = Result Place Refusal} (Ok p) (Ok x)) (λ e. ⊥) → o ≡ Some p
placed o (Ok x) p e m = grind (arith, made_some 17 o x e)
placed o (Err k) p e m = absurd m

pub wanted : (table : List Slot) (q : Request) (p : Place) (h : Slot) (r : Result Stop Refusal) → length table ≤ slot_limit → place_of q.x q.y ≡ Some p → slice_get table q.slot ≡ Some h → 1 ≤ q.units → q.units ≤ unit_limit → coded r ≡ unless 17 (stop_of q.slot h p q.units q.class) → Wanted table q r
wanted table q p h r few ep eh low high e =
    let rows : first (stop_rows table q) ≡ None = grind (arith, nat_tests) in
    let same : stop_for table q ≡ stop_of q.slot h p q.units q.class = rw (ep, eh) refl in
    by_result r rows same e
  where
    by_result : (r : Result Stop Refusal) → first (stop_rows table q) ≡ None → stop_for table q ≡ stop_of q.slot h p q.units q.class → coded r ≡ unless 17 (stop_of q.slot h p q.units q.class) → Wanted table q r
    by_result (Ok s) rows same e = (rows, same ∙ made_some 17 _ s e)
    by_result (Err x) rows same e = let w = wanted_stop table q few rows in let made = sym same ∙ w.1 in grind arith
