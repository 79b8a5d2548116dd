use Rattle.std.proofs.Common.{◌≡◌, ℤ, Some, sym, ap, ◌∙◌, arith, w32, to_z, of_z}
use Rattle.std.proofs.lemmas.Int.{ints}
use Rattle.stops.specs.Places.{place_of}
use Rattle.stops.specs.Slots.{slots_of}
use Rattle.book.proofs.Carried.{few_slots}
use Rattle.book.proofs.Numbering.{placed, wanted}
use Rattle.book.proofs.request.stop_for.Goals as goal

pub returns : goal.returns
returns c =
    let t = c.args.table.now in
    let q = c.args.request in
    let x : to_z w32 (of_z w32 q.x) ≡ q.x = omega (arith, ints) in
    let y : to_z w32 (of_z w32 q.y) ≡ q.y = omega (arith, ints) in
    let made = placed _ c.new.result c.in_ok-place.place c.new.ensures c.in_ok-place.ensures.cases in
    let place : place_of q.x q.y ≡ Some c.in_ok-place.place = sym (ap (λ (z : ℤ). place_of z q.y) x) ∙ sym (ap (place_of (to_z w32 (of_z w32 q.x))) y) ∙ made in
    wanted (slots_of t) q c.in_ok-place.place c.in_ok-hours.hours c.new-2.result (few_slots t) place (sym c.slot.ensures ∙ c.in_ok-hours.ensures.ok_part) (omega arith) (omega arith) c.new-2.ensures
