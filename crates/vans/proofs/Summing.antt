-- Sums over the rounds.
use Rattle.std.proofs.Common.{◌≡◌, ℕ, zero, suc, ◌+◌, ◌<◌, List, [], ◌∷◌, ◌++◌, length, get_or, take, vec_items, sum_by, min, ◌≤◌, ◌*◌, ap, ◌∙◌, add-one, arith}
use Rattle.std.proofs.lemmas.List.{map-append, length-append, length-map, take_all}
use Rattle.std.proofs.lemmas.List.Sums.{sum_by-append}
use Rattle.stops.specs.declared.stop.Stop.{Stop}
use Rattle.fleet.specs.Loads.{Load, stops_of}
use Rattle.fleet.specs.declared.tally.Tally.{Tally}
use Rattle.fleet.specs.Tallies.{count_limit, one_private, one_trade, shown, slot_units, tallied}
use Rattle.fleet.proofs.Counts.{same_tally, shown_all}
use Rattle.vans.specs.declared.round.Round.{Round}
use Rattle.vans.specs.declared.vanfleet.VanFleet.{VanFleet}
use Rattle.vans.specs.Limits.{stop_limit}
use Rattle.vans.specs.Fleets.{rounds_in, rounds_of, stops_in}
use Rattle.vans.specs.Rule.{load_of}

-- a sum over the stops of one round more
pub load_more : (f : Stop → ℕ) (rs : List Round) (i : ℕ) (r : Round) → i < length rs → r ≡ get_or rs i r → sum_by f (stops_of (load_of (take (i + 1) (rounds_in rs)))) ≡ sum_by f (stops_of (load_of (take i (rounds_in rs)))) + sum_by f (stops_in r)
load_more f rs i r h e = ap (λ n. sum_by f (stops_of (load_of (take n (rounds_in rs))))) (add-one i) ∙ go rs i h e
  where
    split : (k l : Load) → sum_by f (stops_of (k ++ l)) ≡ sum_by f (stops_of k) + sum_by f (stops_of l)
    split k l = ap (sum_by f) (map-append (λ (p : ℕ × Stop). p.1) k l) ∙ sum_by-append f (stops_of k) (stops_of l)

    go : (rs : List Round) (i : ℕ) → i < length rs → r ≡ get_or rs i r → sum_by f (stops_of (load_of (take (suc i) (rounds_in rs)))) ≡ sum_by f (stops_of (load_of (take i (rounds_in rs)))) + sum_by f (stops_in r)
    go [] i h e = absurd (omega arith)
    go (x ∷ rs) zero h e =
        let g : sum_by f (stops_in r) ≡ sum_by f (stops_in x) = ap (λ (y : Round). sum_by f (stops_in y)) e in
        omega (arith, split (vec_items x.visits) [])
    go (x ∷ rs) (suc i) h e =
        omega (arith, split (vec_items x.visits) (load_of (take (suc i) (rounds_in rs))), split (vec_items x.visits) (load_of (take i (rounds_in rs))), go rs i (omega arith) e)

-- one turn of a loop that sums up
pub shown_more : (rs : List Round) (i j : ℕ) (r : Round) (t one q : Tally) → i < length rs → r ≡ get_or rs i r → t ≡ shown (tallied (stops_of (load_of (take i (rounds_in rs)))) j) → one ≡ tallied (stops_in r) j
    → q.privates ≡ min (t.privates + one.privates) count_limit → q.trades ≡ min (t.trades + one.trades) count_limit → q.units ≡ min (t.units + one.units) count_limit → q ≡ shown (tallied (stops_of (load_of (take (i + 1) (rounds_in rs)))) j)
shown_more rs i j r t one q h e k o a b d =
    same_tally _ _
    (omega (arith, ap (λ (y : Tally). y.privates) k, ap (λ (y : Tally). y.privates) o, load_more (one_private j) rs i r h e))
    (omega (arith, ap (λ (y : Tally). y.trades) k, ap (λ (y : Tally). y.trades) o, load_more (one_trade j) rs i r h e))
    (omega (arith, ap (λ (y : Tally). y.units) k, ap (λ (y : Tally). y.units) o, load_more (slot_units j) rs i r h e))

load_short : (rs : List Round) → length (load_of (rounds_in rs)) ≤ stop_limit * length rs
load_short [] = omega arith
load_short (r ∷ rs) = omega (arith, length-append (vec_items r.visits) (load_of (rounds_in rs)), load_short rs, r.short, r.visits.ok.0)

-- the load of a fleet is short enough to be shown whole
pub all_shown : (f : VanFleet) (n j : ℕ) (t : Tally) → length (vec_items f.rounds) ≤ n → t ≡ shown (tallied (stops_of (load_of (take n (rounds_of f)))) j) → t ≡ tallied (stops_of (load_of (rounds_of f))) j
all_shown f n j t h e =
    let rs = vec_items f.rounds in
    let m : length (rounds_in rs) ≤ n = omega (arith, length-map rs (λ (r : Round). vec_items r.visits)) in
    shown_all t (load_of (rounds_in rs)) j (e ∙ ap (λ (l : List Load). shown (tallied (stops_of (load_of l)) j)) (take_all n (rounds_in rs) m)) (omega (arith, load_short rs, f.few, f.rounds.ok.0))
