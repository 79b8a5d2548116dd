use Rattle.std.proofs.Common.{◌≡◌, ◌-◌, ◌≤◌, length, heap_items, ◌∙◌, arith}
use lib.ListN.{length-map}
use Rattle.std.specs.Result.{result_unwrap_or}
use Rattle.std.proofs.lemmas.List.{take-append-le, take_all}
use Rattle.queue.specs.Queues.{entries}
use Rattle.sheets.proofs.Listing.{planned_all, planned_ordered}
use Rattle.sheets.proofs.visits.Visits.take_all.Goals as goal

pub returns : goal.returns
returns c =
    let v = c.args.self.now in
    let list = c.plan_into.new.list in
    let long : length list ≡ v.list.len = omega (arith, c.plan_into.auto.list, c.deref_mut.ensures.len) in
    let same : c.deref.result.now ≡ list = c.deref.ensures.value ∙ (take-append-le v.list.len list _ (omega (arith, long)) ∙ take_all v.list.len list (omega (arith, long))) in
    let room : length (entries v.queue) ≤ length c.deref_mut.result.now = omega (arith, length-map (heap_items v.queue.heap) (λ r. r.0), v.queue.heap.«data».ok.0, v.queue.within, v.sized, v.long, c.deref_mut.ensures.len) in
    let count : c.unwrap_or-count.result - 0 ≡ result_unwrap_or c.plan_into.result 0 = omega (arith, c.unwrap_or-count.ensures) in
    let all = planned_all v.queue c.plan_into.new.self c.deref_mut.result.now list c.plan_into.result c.plan_into.ensures v.heaped room in
    record {
      value = rw (same, count) all;
      order = planned_ordered v.queue c.plan_into.new.self c.deref_mut.result.now list c.plan_into.result c.plan_into.ensures v.heaped room;
    }
