-- Quotas of areas and slots, and the rule that they make.
use Rattle.std.specs.Prelude.{ℕ, ◌≤◌, Bool, ◌&&◌, List, length, replicate, count_by, Option, ◌==◌, nat_lt, slice_index_or}
use Rattle.std.proofs.Common.{lit≤}
use Rattle.std.proofs.lemmas.List.{length-replicate}
use Rattle.stops.specs.declared.stop.Stop.{Stop}
use Rattle.stops.specs.declared.atmost.AtMost.{AtMost}
use Rattle.stops.specs.Limits.{slot_limit}
use Rattle.stops.specs.Counts.{at_most}
use Rattle.fleet.specs.Layers.{Own}
use Rattle.areas.specs.declared.areaquotas.AreaQuotas.{AreaQuotas}
use Rattle.areas.specs.declared.quotas.Quotas.{Quotas}
use Rattle.areas.specs.Areas.{area}
use Rattle.areas.specs.Limits.{quota_limit, stop_limit}

-- at most so many stops
abbrev pub Quota : Type 0
Quota = AtMost quota_limit

abbrev pub quota_of : ℕ → Option Quota
quota_of stops = at_most quota_limit stops

-- past the last area and the last slot, where no stop is: no stops
abbrev pub no_stops : Quota
no_stops = record { count = 0; few = lit≤ tt }

abbrev pub no_quotas : AreaQuotas
no_quotas = record { slots = replicate slot_limit no_stops; whole = length-replicate slot_limit no_stops }

-- the quota of an area and a slot
abbrev pub quota_at : Quotas → ℕ → ℕ → ℕ
quota_at q a i = (slice_index_or (slice_index_or q.areas a no_quotas).slots i no_stops).count

-- whether a stop is in an area and a slot
abbrev pub inside : ℕ → ℕ → Stop → Bool
inside a i s = area s.place == a && s.slot == i

-- how many stops are
abbrev pub count : ℕ → ℕ → List Stop → ℕ
count a i l = count_by (inside a i) l

-- At most 256 stops, and in each area and slot at most its quota. A stop is tested in its own area and slot.
abbrev pub quotas : Own Quotas
quotas = record {
  keeps = λ q l. (length l ≤ stop_limit) × ((a i : ℕ) → count a i l ≤ quota_at q a i);
  admits = λ q l s. nat_lt (length l) stop_limit && nat_lt (count (area s.place) s.slot l) (quota_at q (area s.place) s.slot);
}
