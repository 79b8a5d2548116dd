-- The backward pass over a round.
use Rattle.std.proofs.Common.{◌≡◌, ℕ, ◌+◌, ◌<◌, ◌≤◌, List, [], ◌∷◌, ◌++◌, length, get_or, take, drop, set, replicate, vec_items, sym, refl, ap, ◌∙◌, arith}
use native.Mathlib.Decide.{dec_lt}
use Rattle.std.proofs.Math.Seq.{take-append_seam, take-length}
use Rattle.std.proofs.lemmas.List.{drop_more, drop_all, take_more, length-take-le, length_push, length-map, length-set, get_or_push, get_or-set_same, get_or-set_other}
use Rattle.stops.specs.declared.stop.Stop.{Stop}
use Rattle.fleet.specs.Loads.{Load}
use Rattle.vans.specs.declared.leg.Arrival.{Arrival}
use Rattle.vans.specs.declared.round.Round.{Round}
use Rattle.vans.specs.declared.van.Van.{Van}
use Rattle.vans.specs.Fleets.{stops_in}
use Rattle.vans.specs.Insertions.{arrival, latest, latest_begin}
use Rattle.vans.specs.Limits.{stop_limit}
use Rattle.vans.specs.RoundFacts.{visit_stop}

-- the last of what is left of a list
last_left : (xs rest new : Load) (x : ℕ × Stop) → rest ≡ new ++ x ∷ [] → rest ≡ take (length rest) xs → length rest ≤ length xs → (new ≡ take (length new) xs) × (length new < length xs) × (x ≡ get_or xs (length new) x) × (length rest ≡ length new + 1)
last_left xs rest new x e t h =
    let n : length rest ≡ length new + 1 = ap length e ∙ length_push new x in
    let lt : length new < length xs = omega arith in
    let all : new ++ x ∷ [] ≡ take (length new) xs ++ get_or xs (length new) x ∷ [] = sym e ∙ (t ∙ (ap (λ k. take k xs) n ∙ take_more xs (length new) x lt)) in
    let m : length (take (length new) xs) ≡ length new = length-take-le (length new) xs (omega arith) in (
      sym (take-append_seam new (x ∷ [])) ∙ (ap (take (length new)) all ∙ (ap (λ k. take k (take (length new) xs ++ get_or xs (length new) x ∷ [])) (sym m) ∙ take-append_seam (take (length new) xs) (get_or xs (length new) x ∷ []))),
      lt,
      sym (get_or_push new x x (length new) refl) ∙ (ap (λ (l : Load). get_or l (length new) x) all ∙ get_or_push (take (length new) xs) (get_or xs (length new) x) x (length new) m),
      n,
    )

arrival_more : (v : Van) (l : List Stop) (i : ℕ) (x : Stop) → i < length l → ((d : Stop) → x ≡ get_or l i d) → arrival v (drop i l) ≡ record { to = x.place; by = latest_begin v x (arrival v (drop (i + 1) l)).to (arrival v (drop (i + 1) l)).by }
arrival_more v l i x h e =
    let n = arrival v (drop (i + 1) l) in
    ap (arrival v) (drop_more l i x h) ∙ ap (λ (y : Stop). record { to = y.place; by = latest_begin v y n.to n.by }) (sym (e x))

-- the pass has come to the front part of a round, whose visits are counted from n; a has the latest begins of the stops behind
abbrev pub Passed : Round → ℕ → Load → Arrival → List ℕ → Type 0
Passed r n front next a =
    (n ≡ 0)
    × (front ≡ take (length front) (vec_items r.visits))
    × (length front ≤ length (vec_items r.visits))
    × (length a ≡ stop_limit)
    × (next ≡ arrival r.van (drop (length front) (stops_in r)))
    × ((k : ℕ) → length front ≤ k → k < length (vec_items r.visits) → get_or a k 0 ≡ latest r.van (drop k (stops_in r)))

module _ (r : Round) where
  pub pass_begins : (n : ℕ) (front : Load) (next : Arrival) → n ≡ 0 → front ≡ vec_items r.visits → next ≡ arrival r.van [] → Passed r n front next (replicate stop_limit 0)
  pass_begins n front next z f e = (
    z,
    f ∙ sym (ap (λ (l : Load). take (length l) (vec_items r.visits)) f ∙ take-length (vec_items r.visits)),
    omega (arith, ap length f),
    refl,
    e ∙ sym (ap (arrival r.van) (drop_all (length front) (stops_in r) (omega (arith, ap length f, length-map (vec_items r.visits) (λ (y : ℕ × Stop). y.1))))),
    λ k low high. absurd (omega (arith, ap length f)),
  )

  pub pass_goes : (n m i : ℕ) (front rest : Load) (x : ℕ × Stop) (next new : Arrival) (a : List ℕ) → m ≡ n → front ≡ rest ++ x ∷ [] → i ≡ n + length rest → new ≡ record { to = x.1.place; by = latest_begin r.van x.1 next.to next.by } → Passed r n front next a → Passed r m rest new (set a i new.by)
  pass_goes n m i front rest x next new a same f at e p =
      let b = last_left (vec_items r.visits) front rest x f p.1 p.2 in
      let q : i ≡ length rest = omega (arith, p.0) in
      let l : length rest < length (stops_in r) = omega (arith, b.1, length-map (vec_items r.visits) (λ (y : ℕ × Stop). y.1)) in
      let before : next ≡ arrival r.van (drop (length rest + 1) (stops_in r)) = p.4 ∙ ap (λ k. arrival r.van (drop k (stops_in r))) b.3 in
      let is : new ≡ arrival r.van (drop (length rest) (stops_in r)) =
      e ∙ (ap (λ (y : Arrival). record { to = x.1.place; by = latest_begin r.van x.1 y.to y.by }) before ∙ sym (arrival_more r.van (stops_in r) (length rest) x.1 l (λ d. visit_stop (vec_items r.visits) (length rest) x d b.1 b.2))) in (
        same ∙ p.0,
        b.0,
        omega (arith, b.1),
        length-set a i new.by ∙ p.3,
        is,
        λ k low high. elim (dec_lt i k) [
          | yes lt ↦ get_or-set_other a i k new.by 0 (λ z. absurd (omega arith)) ∙ p.5 k (omega (arith, b.3)) high
          | no ge ↦ let z : k ≡ i = omega arith in rw z (get_or-set_same a i new.by 0 (omega (arith, p.3, b.1, r.short, r.visits.ok.0)) ∙ (ap (λ (y : Arrival). y.by) is ∙ ap (λ j. latest r.van (drop j (stops_in r))) (sym q)))
        ],
      )
