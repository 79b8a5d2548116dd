-- Rounds on time: a stop less, a stop more.
use Rattle.std.specs.Prelude.{ℕ, ◌+◌, ◌≤◌, List, [], ◌∷◌, ◌++◌}
use Rattle.std.proofs.Common.{arith}
use Rattle.stops.specs.declared.place.Place.{Place}
use Rattle.stops.specs.declared.stop.Stop.{Stop}
use Rattle.stops.specs.Places.{depot}
use Rattle.vans.specs.declared.van.Van.{Van}
use Rattle.vans.specs.Figures.{service, travel}
use Rattle.vans.specs.Insertions.{Insertable, latest, leaving}
use Rattle.vans.specs.Rounds.{OnTime, begin, last_place, next_place}
use Rattle.vans.specs.FigureLaws.{travel_triangle, travel_self, window_earlier, window_last, window_within}

module _ (v : Van) where
  begin_earlier : (p q : Place) (t u : ℕ) (s : Stop) → t + travel v p q ≤ u → begin v p t s ≤ begin v q u s
  unfolding begin
  begin_earlier p q t u s h = omega (arith, travel_triangle v p q s.place)

  -- a van that could reach q by minute u drives what one that leaves q at u drives
  pub earlier : (l : List Stop) (p q : Place) (t u : ℕ) → OnTime v q u l → t + travel v p q ≤ u → OnTime v p t l
  earlier [] p q t u g h = omega (arith, travel_triangle v p q depot)
  earlier (s ∷ l) p q t u g h =
      let b = begin_earlier p q t u s h in
      (window_earlier v s _ _ g.0 b, earlier l s.place s.place _ _ g.1 (omega (arith, travel_self v s.place)))

  pub skip : (s : Stop) (l : List Stop) (p : Place) (t : ℕ) → OnTime v p t (s ∷ l) → OnTime v p t l
  unfolding begin
  skip s l p t g = earlier l p s.place t (begin v p t s + service v s) g.1 (omega arith)

  -- a round stays on time without any one of its stops
  pub on_time_without : (k : List Stop) (s : Stop) (l : List Stop) (p : Place) (t : ℕ) → OnTime v p t (k ++ s ∷ l) → OnTime v p t (k ++ l)
  on_time_without [] s l p t g = skip s l p t g
  on_time_without (x ∷ k) s l p t g = (g.0, on_time_without k s l _ _ g.1)

  pub latest_end : (l : List Stop) → latest v l ≤ v.end
  latest_end [] = omega arith
  latest_end (s ∷ l) = omega (arith, latest_end l)

  -- the latest begin is exact
  pub by_latest : (l : List Stop) (p : Place) (t : ℕ) → OnTime v p t l → t + travel v p (next_place l) ≤ latest v l
  unfolding begin
  by_latest [] p t g = g
  by_latest (s ∷ l) p t g = omega (arith, window_last v s _ g.0, by_latest l _ _ g.1)

  pub from_latest : (l : List Stop) (p q : Place) (t u : ℕ) → OnTime v q u l → t + travel v p (next_place l) ≤ latest v l → OnTime v p t l
  unfolding begin
  from_latest [] p q t u g h = h
  from_latest (s ∷ l) p q t u g h =
      let c = window_last v s _ g.0 in
      let r = by_latest l _ _ g.1 in
      (window_within v s _ _ g.0 (omega arith), from_latest l s.place s.place _ _ g.1 (omega arith))

  -- the first stops of a round, and the rest
  pub rest_on_time : (k l : List Stop) (p : Place) (t : ℕ) → OnTime v p t (k ++ l) → OnTime v (last_place p k) (leaving v p t k) l
  rest_on_time [] l p t g = g
  rest_on_time (x ∷ k) l p t g = rest_on_time k l _ _ g.1

  pub front_on_time : (k l m : List Stop) (p : Place) (t : ℕ) → OnTime v p t (k ++ l) → OnTime v (last_place p k) (leaving v p t k) m → OnTime v p t (k ++ m)
  front_on_time [] l m p t g h = h
  front_on_time (x ∷ k) l m p t g h = (g.0, front_on_time k l m _ _ g.1 h)

  -- the test of one position is exact
  pub admits_on_time : (s : Stop) (l : List Stop) (p : Place) (t : ℕ) → OnTime v p t l → Insertable v p t s (next_place l) (latest v l) → OnTime v p t (s ∷ l)
  admits_on_time s l p t g a = (a.0, from_latest l s.place p _ t g a.1)

  pub on_time_admits : (s : Stop) (l : List Stop) (p : Place) (t : ℕ) → OnTime v p t (s ∷ l) → Insertable v p t s (next_place l) (latest v l)
  on_time_admits s l p t g = (g.0, by_latest l _ _ g.1)

  pub insertion_exact : (s : Stop) (k l : List Stop) (p : Place) (t : ℕ) → OnTime v p t (k ++ l) → (Insertable v (last_place p k) (leaving v p t k) s (next_place l) (latest v l) → OnTime v p t (k ++ s ∷ l)) × (OnTime v p t (k ++ s ∷ l) → Insertable v (last_place p k) (leaving v p t k) s (next_place l) (latest v l))
  insertion_exact s k l p t g = (
    λ a. front_on_time k l (s ∷ l) p t g (admits_on_time s l _ _ (rest_on_time k l p t g) a),
    λ h. on_time_admits s l _ _ (rest_on_time k (s ∷ l) p t h),
  )
