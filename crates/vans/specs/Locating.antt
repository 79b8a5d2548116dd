-- The search for a number in the rounds.
use Rattle.std.specs.Prelude.{◌≡◌, ℕ, zero, suc, ◌+◌, ◌<◌, true, false, cond, ◌||◌, List, [], ◌∷◌, ◌++◌, length, take, Some, vec_items, slice_index, slice_index_or, slice_set}
use Rattle.std.proofs.Common.{sym, ap, subst, ◌∙◌, add-zero, add-one, arith}
use Rattle.stops.specs.Places.{depot}
use Rattle.fleet.specs.Loads.{Load, held, without}
use Rattle.fleet.proofs.Positions.{held_append}
use Rattle.std.proofs.lemmas.Bool.{or_parts}
use Rattle.vans.specs.declared.round.Round.{Round}
use Rattle.vans.specs.Rounds.{begins}
use Rattle.vans.specs.Rule.{load_of}
use Rattle.vans.specs.Fleets.{stops_in, vans_in, rounds_in, taken_from}
use Rattle.vans.specs.Meaning.{begin_of, visit_from}
use Rattle.vans.specs.Locations.{begin_at}

-- a number that is in neither part
pub in_neither : (n : ℕ) (r l : Load) → held n (r ++ l) ≡ false → (held n r ≡ false) × (held n l ≡ false)
in_neither n r l h = or_parts (held n r) (held n l) (sym (held_append n r l) ∙ h)

-- a number of one round, and of none before it
pub found_in : (n : ℕ) (rs : List Load) (i : ℕ) → i < length rs → held n (load_of (take i rs)) ≡ false → held n (slice_index_or rs i []) ≡ true → (held n (load_of rs) ≡ true) × (slice_set rs i (without n (slice_index_or rs i [])) ≡ taken_from n rs)
found_in n [] i h f t = absurd (omega arith)
found_in n (r ∷ rs) zero h f t =
    (held_append n r (load_of rs) ∙ ap (λ b. b || held n (load_of rs)) t, sym (ap (λ b. cond b (without n r ∷ rs) (r ∷ taken_from n rs)) t))
found_in n (r ∷ rs) (suc i) h f t =
    let q = in_neither n r (load_of (take i rs)) f in
    let w = found_in n rs i (omega arith) q.1 t in
    (held_append n r (load_of rs) ∙ (ap (λ b. b || held n (load_of rs)) q.0 ∙ w.0), ap (λ (m : List Load). r ∷ m) w.1 ∙ sym (ap (λ b. cond b (without n r ∷ rs) (r ∷ taken_from n rs)) q.0))

-- a number of none of the rounds so far, nor of the next
pub not_yet : (n : ℕ) (rs : List Load) (i : ℕ) → i < length rs → held n (load_of (take i rs)) ≡ false → held n (slice_index_or rs i []) ≡ false → held n (load_of (take (i + 1) rs)) ≡ false
not_yet n rs i h f t = rw (add-one i) (go rs i h f t)
  where
    go : (rs : List Load) (i : ℕ) → i < length rs → held n (load_of (take i rs)) ≡ false → held n (slice_index_or rs i []) ≡ false → held n (load_of (take (suc i) rs)) ≡ false
    go [] i h f t = absurd (omega arith)
    go (r ∷ rs) zero h f t = held_append n r [] ∙ ap (λ b. b || false) t
    go (r ∷ rs) (suc i) h f t =
        let q = in_neither n r (load_of (take i rs)) f in
        held_append n r (load_of (take (suc i) rs)) ∙ (ap (λ b. b || held n (load_of (take (suc i) rs))) q.0 ∙ go rs i (omega arith) q.1 t)

-- the visit of a number of one round, and of none before it
pub found_visit : (n : ℕ) (rs : List Round) (i w : ℕ) (r : Round) → i < length rs → r ≡ slice_index_or rs i r → held n (load_of (take i (rounds_in rs))) ≡ false → held n (vec_items r.visits) ≡ true → visit_from w (vans_in rs) (rounds_in rs) n ≡ Some (record { van = w + i; minute = begin_of r.van (vec_items r.visits) n })
found_visit n [] i w r h e f t = absurd (omega arith)
found_visit n (x ∷ rs) zero w r h e f t =
    subst (λ (y : Round). visit_from w (x.van ∷ vans_in rs) (vec_items x.visits ∷ rounds_in rs) n ≡ Some (record { van = w + 0; minute = begin_of y.van (vec_items y.visits) n })) (sym e)
    (ap (λ b. cond b (Some (record { van = w; minute = begin_of x.van (vec_items x.visits) n })) (visit_from (w + 1) (vans_in rs) (rounds_in rs) n)) (ap (λ (y : Round). held n (vec_items y.visits)) (sym e) ∙ t)
    ∙ ap (λ k. Some (record { van = k; minute = begin_of x.van (vec_items x.visits) n })) (sym (add-zero w)))
found_visit n (x ∷ rs) (suc i) w r h e f t =
    let q = in_neither n (vec_items x.visits) (load_of (take i (rounds_in rs))) f in
    let k : w + 1 + i ≡ w + suc i = omega arith in
    ap (λ b. cond b (Some (record { van = w; minute = begin_of x.van (vec_items x.visits) n })) (visit_from (w + 1) (vans_in rs) (rounds_in rs) n)) q.0
    ∙ (found_visit n rs i (w + 1) r (omega arith) e q.1 t ∙ ap (λ k. Some (record { van = k; minute = begin_of r.van (vec_items r.visits) n })) k)

-- the begin at a position of one round
pub begin_here : (rs : List Round) (w k : ℕ) (r : Round) → w < length rs → r ≡ slice_index_or rs w r → slice_index (begins r.van depot r.van.start (stops_in r)) k ≡ begin_at (vans_in rs) (rounds_in rs) w k
begin_here [] w k r h e = absurd (omega arith)
begin_here (x ∷ rs) zero k r h e = ap (λ (y : Round). slice_index (begins y.van depot y.van.start (stops_in y)) k) e
begin_here (x ∷ rs) (suc w) k r h e = begin_here rs w k r (omega arith) e
