-- The search for the cheapest position in one round.
use Rattle.std.proofs.Common.{◌≡◌, ℕ, ◌+◌, ◌<◌, ◌≤◌, List, [], ◌∷◌, ◌++◌, length, get_or, take, drop, vec_items, slice_index, None, Option, sym, refl, ap, ◌∙◌, subst, arith}
use Rattle.std.specs.List.{insert}
use Rattle.std.proofs.lemmas.List.{drop_all, length-map, take_more, take-append-drop}
use Rattle.std.proofs.lemmas.List.Edits.{length-insert}
use Rattle.std.proofs.lemmas.List.Sums.{sum_by-append, sum_by-cons, sum_by-take-drop}
use Rattle.stops.specs.declared.place.Place.{Place}
use Rattle.stops.specs.declared.stop.Stop.{Stop}
use Rattle.stops.specs.Limits.{last_minute}
use Rattle.stops.specs.Places.{depot}
use Rattle.vans.specs.declared.leg.Arrival.{Arrival}
use Rattle.vans.specs.declared.leg.Departure.{Departure}
use Rattle.vans.specs.declared.round.Round.{Round}
use Rattle.vans.specs.declared.van.Van.{Van}
use Rattle.vans.specs.declared.choice.Insertion.{Insertion}
use Rattle.vans.specs.Begins.{begin_is}
use Rattle.vans.specs.Figures.{service}
use Rattle.vans.specs.Fleets.{stops_in}
use Rattle.vans.specs.Better.{Least, Offers, better}
use Rattle.vans.specs.Insertions.{Best, Insertable, arrival, latest, leaving}
use Rattle.vans.specs.Limits.{stop_limit}
use Rattle.vans.specs.Rounds.{Lawful, OnTime, added_travel, begin, begins, detour, last_place, next_place, total_units}
use Rattle.vans.specs.OnTime.{rest_on_time, by_latest, latest_end, insertion_exact}
use Rattle.vans.specs.RoundFacts.{next_more, round_on_time, visit_stop}
use Rattle.vans.specs.Least.{least_more, least_same, offers_like}

-- the cheapest for a stop s among the first n positions of a round, as far as time goes
abbrev pub Searched : Van → List Stop → Stop → ℕ → Option (Insertion ℕ) → Type 0
Searched v l s n r = Least (λ k. (k < n) × OnTime v depot v.start (insert l k s)) (λ k. added_travel v l k s) ◌<◌ r

last_push : (k : List Stop) (x : Stop) (p : Place) → last_place p (k ++ x ∷ []) ≡ x.place
last_push [] x p = refl
last_push (y ∷ k) x p = last_push k x y.place

leaving_push : (v : Van) (k : List Stop) (x : Stop) (p : Place) (t : ℕ) → leaving v p t (k ++ x ∷ []) ≡ begin v (last_place p k) (leaving v p t k) x + service v x
leaving_push v [] x p t = refl
leaving_push v (y ∷ k) x p t = leaving_push v k x _ _

pub last_place_more : (l : List Stop) (i : ℕ) (x : Stop) → i < length l → ((d : Stop) → x ≡ get_or l i d) → x.place ≡ last_place depot (take (i + 1) l)
last_place_more l i x h e = ap (λ (s : Stop). s.place) (e x) ∙ sym (ap (last_place depot) (take_more l i x h) ∙ last_push (take i l) (get_or l i x) depot)

pub leaving_more : (v : Van) (l : List Stop) (i : ℕ) (x : Stop) (p : Place) (t : ℕ) → i < length l → ((d : Stop) → x ≡ get_or l i d) → p ≡ last_place depot (take i l) → t ≡ leaving v depot v.start (take i l) → begin v p t x + service v x ≡ leaving v depot v.start (take (i + 1) l)
leaving_more v l i x p t h e ep et =
    let m : take (i + 1) l ≡ take i l ++ x ∷ [] = take_more l i x h ∙ ap (λ (s : Stop). take i l ++ s ∷ []) (sym (e x)) in
    simp (ep, et) (sym (ap (leaving v depot v.start) m ∙ leaving_push v (take i l) x depot v.start))

units_inserted : (l : List Stop) (k : ℕ) (s : Stop) → total_units (insert l k s) ≡ total_units l + s.units
units_inserted l k s =
    let f : Stop → ℕ = λ (x : Stop). x.units in
    omega (arith, sum_by-append f (take k l) (s ∷ drop k l), sum_by-cons f s (drop k l), sum_by-take-drop f l k)

pub no_room_best : (v : Van) (l : List Stop) (s : Stop) (n : ℕ) → length l ≡ n → ((n < stop_limit) × (total_units l + s.units ≤ v.limit) → ⊥) → Best v l s None
no_room_best v l s n e h k p = h (omega (arith, length-insert l k s p.0, p.1.short), omega (arith, units_inserted l k s, p.1.light))

pub finish : (v : Van) (l : List Stop) (s : Stop) (b : Option (Insertion ℕ)) → length l < stop_limit → total_units l + s.units ≤ v.limit → Searched v l s (length l + 1) b → Best v l s b
finish v l s b short light h =
    least_same (λ k. (k < length l + 1) × OnTime v depot v.start (insert l k s)) (λ k. (k ≤ length l) × Lawful v (insert l k s)) (λ k. added_travel v l k s) ◌<◌
    (λ k p. let le : k ≤ length l = omega arith in (le, record { short = omega (arith, length-insert l k s le); light = omega (arith, units_inserted l k s); timely = p.1 }))
    (λ k p. (omega arith, p.1.timely))
    b h

module _ (v : Van) (l : List Stop) (s : Stop) (g : OnTime v depot v.start l) where
  parts : (i : ℕ) → OnTime v depot v.start (take i l ++ drop i l)
  parts i = subst (OnTime v depot v.start) (sym (take-append-drop i l)) g

  pub leaving_day : (i : ℕ) → leaving v depot v.start (take i l) ≤ last_minute
  leaving_day i =
      omega (arith, by_latest v (drop i l) _ _ (rest_on_time v (take i l) (drop i l) depot v.start (parts i)), latest_end v (drop i l), v.day)

-- what leaves a round after its first i stops
abbrev pub Left : Round → ℕ → Departure → Type 0
Left r i d = (d.from ≡ last_place depot (take i (stops_in r))) × (d.minute ≡ leaving r.van depot r.van.start (take i (stops_in r)))

-- the next visit of a round
module _ (r : Round) (i : ℕ) (x : ℕ × Stop) (d : Departure) (h : i < length (vec_items r.visits)) (e : x ≡ get_or (vec_items r.visits) i x) (left : Left r i d) where
  within : i < length (stops_in r)
  within = omega (arith, length-map (vec_items r.visits) (λ (y : ℕ × Stop). y.1))

  pub stop_there : (s : Stop) → x.1 ≡ get_or (stops_in r) i s
  stop_there s = visit_stop (vec_items r.visits) i x s h e

  leaves : begin r.van d.from d.minute x.1 + service r.van x.1 ≡ leaving r.van depot r.van.start (take (i + 1) (stops_in r))
  leaves = leaving_more r.van (stops_in r) i x.1 d.from d.minute within stop_there left.0 left.1

  pub left_day : begin r.van d.from d.minute x.1 + service r.van x.1 ≤ last_minute
  left_day = omega (arith, leaves, leaving_day r.van (stops_in r) x.1 (round_on_time r) (i + 1))

  pub left_more : (n : Departure) → n.from ≡ x.1.place → n.minute ≡ begin r.van d.from d.minute x.1 + service r.van x.1 → Left r (i + 1) n
  left_more n from minute = (from ∙ last_place_more (stops_in r) i x.1 within stop_there, minute ∙ leaves)

  pub arrives : (b : ℕ) → b ≡ latest r.van (drop i (stops_in r)) → record { to = x.1.place; by = b } ≡ arrival r.van (drop i (stops_in r))
  arrives b m =
      let n = next_more (stops_in r) i x.1 within ∙ ap (λ (s : Stop). s.place) (sym (stop_there x.1)) in
      ap (λ y. record { to = x.1.place; by = y }) m ∙ ap (λ (p : Place). record { to = p; by = latest r.van (drop i (stops_in r)) }) (sym n)

  pub begin_there : (n : ℕ) → n ≡ begin r.van d.from d.minute x.1 → n ≡ slice_index (begins r.van depot r.van.start (stops_in r)) i
  begin_there n m = begin_is r.van (stops_in r) i x.1 d.from d.minute n within stop_there left.0 left.1 m

-- behind the last visit
pub arrives_last : (r : Round) (i : ℕ) (a : Arrival) → length (stops_in r) ≤ i → a ≡ arrival r.van [] → a ≡ arrival r.van (drop i (stops_in r))
arrives_last r i a h e = e ∙ sym (ap (arrival r.van) (drop_all i (stops_in r) h))

-- one turn of the search
pub turn : (r : Round) (s : Stop) (i : ℕ) (d : Departure) (a : Arrival) (b f o : Option (Insertion ℕ)) → Left r i d → a ≡ arrival r.van (drop i (stops_in r)) → Offers (Insertable r.van d.from d.minute s a.to a.by) i (detour r.van d.from s a.to) f → o ≡ better b f → Searched r.van (stops_in r) s i b → Searched r.van (stops_in r) s (i + 1) o
turn r s i d a b f o left is offers eo h =
    let v = r.van in
    let l = stops_in r in
    let g : Offers (Insertable v (last_place depot (take i l)) (leaving v depot v.start (take i l)) s (next_place (drop i l)) (latest v (drop i l))) i (added_travel v l i s) f = simp (left.0, left.1, is) at offers in
    let e = insertion_exact v s (take i l) (drop i l) depot v.start (parts v l s (round_on_time r) i) in
    let m = least_more (λ k. OnTime v depot v.start (insert l k s)) (λ k. added_travel v l k s) i b f h (offers_like i (added_travel v l i s) (added_travel v l i s) e.0 e.1 refl f g) in
    subst (λ (x : Option (Insertion ℕ)). Searched v l s (i + 1) x) (sym eo) m
