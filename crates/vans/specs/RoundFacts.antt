-- What holds of a round, and of lists of visits.
use Rattle.std.specs.Prelude.{◌≡◌, ℕ, suc, ◌+◌, ◌<◌, ◌≤◌, List, [], ◌∷◌, ◌++◌, length, get_or, take, drop, vec_items, vec_len, vec_capacity, slice_index_or}
use Rattle.std.proofs.Common.{sym, ap, subst, ◌∙◌, add-one, arith}
use Rattle.std.proofs.Math.Logic.{∥∥₁_elim}
use mathlib.Core.HLevel.{×_prop}
use Rattle.std.proofs.Math.Bridge.{le_prop}
use Rattle.std.specs.List.{insert, remove}
use Rattle.std.proofs.lemmas.List.{drop_more, drop_all, get_or-map, map-append, take-map, drop-map, take-append-drop, length-map, length-append}
use Rattle.std.proofs.lemmas.List.Edits.{length-insert}
use Rattle.std.proofs.lemmas.List.Sums.{sum_by-append, sum_by-cons, sum_by_more, sum_by-take-le}
use Rattle.stops.specs.declared.place.Place.{Place}
use Rattle.stops.specs.declared.stop.Stop.{Stop}
use Rattle.stops.specs.Places.{depot}
use Rattle.fleet.specs.Loads.{Load, stops_of}
use Rattle.vans.specs.declared.van.Van.{Van}
use Rattle.vans.specs.declared.round.Round.{Round}
use Rattle.vans.specs.Fleets.{stops_in}
use Rattle.vans.specs.Insertions.{latest, latest_begin}
use Rattle.vans.specs.Rounds.{Lawful, OnTime, next_place, total_units}
use Rattle.vans.specs.FigureLaws.{travel_self, window_prop}
use Rattle.vans.specs.OnTime.{on_time_without}

on_time_prop : (v : Van) (l : List Stop) (p : Place) (t : ℕ) → IsProp (OnTime v p t l)
on_time_prop v [] p t = le_prop
on_time_prop v (s ∷ l) p t = ×_prop (window_prop v s _) (on_time_prop v l _ _)

pub known : (v : Van) (l : List Stop) (p : Place) (t : ℕ) → ∥ OnTime v p t l ∥₁ → OnTime v p t l
known v l p t h = ∥∥₁_elim h (on_time_prop v l p t) (λ g. g)

-- an empty round
pub empty_on_time : (v : Van) → OnTime v depot v.start []
empty_on_time v = omega (arith, travel_self v depot)

pub next_more : (l : List Stop) (i : ℕ) (d : Stop) → i < length l → next_place (drop i l) ≡ (get_or l i d).place
next_more l i d h = ap next_place (drop_more l i d h)

pub next_all : (l : List Stop) (i : ℕ) → length l ≤ i → next_place (drop i l) ≡ depot
next_all l i h = ap next_place (drop_all i l h)

pub stops_inserted : (l : Load) (i : ℕ) (x : ℕ × Stop) → stops_of (insert l i x) ≡ insert (stops_of l) i x.1
stops_inserted l i x = simp (map-append, take-map, drop-map)

pub stops_removed : (l : Load) (i : ℕ) → stops_of (remove l i) ≡ remove (stops_of l) i
stops_removed l i = simp (map-append, take-map, drop-map)

pub units_more : (l : List Stop) (i : ℕ) (x : Stop) → i < length l → ((d : Stop) → x ≡ slice_index_or l i d) → total_units (take (i + 1) l) ≡ total_units (take i l) + x.units
units_more l i x h e = sum_by_more (λ (s : Stop). s.units) l i x h ∙ ap (λ (s : Stop). total_units (take i l) + s.units) (sym (e x))

pub units_front : (l : List Stop) (i : ℕ) → total_units (take i l) ≤ total_units l
units_front l i = sum_by-take-le (λ (s : Stop). s.units) l i

-- the latest begins, from the last position back
pub latest_more : (v : Van) (l : List Stop) (i : ℕ) (x : Stop) → i < length l → ((d : Stop) → x ≡ slice_index_or l i d) → latest v (drop i l) ≡ latest_begin v x (next_place (drop (i + 1) l)) (latest v (drop (i + 1) l))
latest_more v l i x h e =
    ap (latest v) (drop_more l i x h) ∙ ap (λ (y : Stop). latest_begin v y (next_place (drop (i + 1) l)) (latest v (drop (i + 1) l))) (sym (e x))

pub round_length : (r : Round) → length (stops_in r) ≡ vec_len r.visits
round_length r = length-map (vec_items r.visits) (λ (x : ℕ × Stop). x.1) ∙ sym r.visits.ok.0

pub round_on_time : (r : Round) → OnTime r.van depot r.van.start (stops_in r)
round_on_time r = known r.van (stops_in r) depot r.van.start r.timely

-- a lawful round without any one of its stops
pub lawful_without : (v : Van) (k : List Stop) (s : Stop) (l : List Stop) → Lawful v (k ++ s ∷ l) → Lawful v (k ++ l)
lawful_without v k s l w =
    let f : Stop → ℕ = λ (x : Stop). x.units in
    record {
      short = omega (arith, w.short, length-append k l, length-append k (s ∷ l));
      light = omega (arith, w.light, sum_by-append f k l, sum_by-append f k (s ∷ l), sum_by-cons f s l);
      timely = on_time_without v k s l _ _ w.timely;
    }

split_at : (l : List Stop) (i : ℕ) (d : Stop) → i < length l → l ≡ take i l ++ slice_index_or l i d ∷ drop (suc i) l
split_at l i d h = sym (take-append-drop i l) ∙ ap (λ (m : List Stop). take i l ++ m) (drop_more l i d h ∙ rw add-one)

pub lawful_removed : (v : Van) (l : List Stop) (i : ℕ) → i < length l → Lawful v l → Lawful v (remove l i)
lawful_removed v (s ∷ l) i h w =
    lawful_without v (take i (s ∷ l)) (slice_index_or (s ∷ l) i s) (drop (suc i) (s ∷ l)) (subst (Lawful v) (split_at (s ∷ l) i s h) w)
lawful_removed v [] i h w = absurd (omega arith)

pub round_lawful : (r : Round) → Lawful r.van (stops_in r)
round_lawful r = record { short = omega (arith, round_length r, r.short); light = r.light; timely = round_on_time r }

-- an empty round is lawful
pub lawful_none : (v : Van) → Lawful v []
lawful_none v = record { short = omega arith; light = omega arith; timely = empty_on_time v }

-- what the ghost fields of a round ask of its visits
pub visits_none : (v : Van) (ys : Load) → ys ≡ [] → Lawful v (stops_of ys)
visits_none v ys e = subst (Lawful v) (sym (ap stops_of e)) (lawful_none v)

pub visits_inserted : (v : Van) (xs ys : Load) (k : ℕ) (x : ℕ × Stop) → ys ≡ insert xs k x → Lawful v (insert (stops_of xs) k x.1) → Lawful v (stops_of ys)
visits_inserted v xs ys k x e w = subst (Lawful v) (sym (ap stops_of e ∙ stops_inserted xs k x)) w

pub visits_removed : (v : Van) (xs ys : Load) (k : ℕ) → ys ≡ remove xs k → k < length (stops_of xs) → Lawful v (stops_of xs) → Lawful v (stops_of ys)
visits_removed v xs ys k e h w = subst (Lawful v) (sym (ap stops_of e ∙ stops_removed xs k)) (lawful_removed v (stops_of xs) k h w)

-- the stop of a visit
pub visit_stop : (l : Load) (i : ℕ) (x : ℕ × Stop) (d : Stop) → i < length l → x ≡ slice_index_or l i x → x.1 ≡ slice_index_or (stops_of l) i d
visit_stop l i x d h e = ap (λ (y : ℕ × Stop). y.1) e ∙ sym (get_or-map (λ (y : ℕ × Stop). y.1) l i x d h)

-- a round that is lawful with one more stop has memory for it
pub room_inserted : (r : Round) (k : ℕ) (s : Stop) → k ≤ vec_len r.visits → Lawful r.van (insert (stops_in r) k s) → vec_len r.visits < vec_capacity r.visits
room_inserted r k s le w = omega (arith, round_length r, length-insert (stops_in r) k s (omega (arith, round_length r)), w.short, r.room)
