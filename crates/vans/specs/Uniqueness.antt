-- The choice that the specification computes is the cheapest, and no other is.
use Rattle.std.specs.Prelude.{◌≡◌, ℕ, zero, suc, ◌<◌, ◌≤◌, cond, List, [], ◌∷◌, length, Some, None, Option, refl}
use Rattle.std.specs.Option.{option_map}
use Rattle.std.proofs.Common.{⊎_elim, inl, inr, sym, ap, subst, add-one}
use native.Mathlib.Omega.{arith}
use Rattle.std.proofs.Math.Decide.{dec_lt}
use Rattle.std.specs.List.{insert}
use Rattle.stops.specs.declared.stop.Stop.{Stop}
use Rattle.stops.specs.Places.{depot}
use Rattle.fleet.specs.Loads.{Load, stops_of}
use Rattle.vans.specs.declared.van.Van.{Van}
use Rattle.vans.specs.declared.choice.Insertion.{Insertion}
use Rattle.vans.specs.declared.choice.Location.{Location}
use Rattle.vans.specs.Limits.{stop_limit}
use Rattle.vans.specs.Better.{better, moved, Offers, Least}
use Rattle.vans.specs.Cheapest.{Choice, Cheapest, Fits}
use Rattle.vans.specs.Chosen.{best, best_below, candidate, chosen, decided, first_van, later_van, lawful}
use Rattle.vans.specs.Insertions.{Best}
use Rattle.vans.specs.Rounds.{Lawful, OnTime, total_units, added_travel}
use Rattle.vans.specs.Least.{least_better, least_moved, least_more, least_same, least_unique}
use Rattle.vans.specs.LeastChoice.{Before, Lawfully, apart, cost, least_cheapest, cheapest_least}

candidate_offers : (v : Van) (l : List Stop) (s : Stop) (k : ℕ) → Offers (Lawful v (insert l k s)) k (added_travel v l k s) (candidate v l s k)
candidate_offers v l s k = go (lawful v (insert l k s))
  where
    go : (d : Dec ((length (insert l k s) ≤ stop_limit) × ((total_units (insert l k s) ≤ v.limit) × OnTime v depot v.start (insert l k s)))) → Offers (Lawful v (insert l k s)) k (added_travel v l k s) (cond (decided d) (Some (record { at = k; added = added_travel v l k s })) None)
    go (yes p) = (record { short = p.0; light = p.1.0; timely = p.1.1 }, refl, refl)
    go (no q) = λ w. q (w.short, (w.light, w.timely))

least_below : (v : Van) (l : List Stop) (s : Stop) (n : ℕ) → Least (λ k. (k < n) × Lawful v (insert l k s)) (λ k. added_travel v l k s) ◌<◌ (best_below v l s n)
least_below v l s zero = λ k p. omega arith
least_below v l s (suc n) =
    subst (λ m. Least (λ k. (k < m) × Lawful v (insert l k s)) (λ k. added_travel v l k s) ◌<◌ (best_below v l s (suc n))) (add-one n)
    (least_more (λ k. Lawful v (insert l k s)) (λ k. added_travel v l k s) n (best_below v l s n) (candidate v l s n) (least_below v l s n) (candidate_offers v l s n))

pub best_is_best : (v : Van) (l : List Stop) (s : Stop) → Best v l s (best v l s)
best_is_best v l s =
    least_same (λ k. (k < suc (length l)) × Lawful v (insert l k s)) (λ k. (k ≤ length l) × Lawful v (insert l k s)) (λ k. added_travel v l k s) ◌<◌
    (λ k p. (omega arith, p.1))
    (λ k p. (omega arith, p.1))
    (best v l s) (least_below v l s (suc (length l)))

-- a location is of the first van, or of a later one
module _ (v : Van) (vs : List Van) (r : Load) (rs : List Load) (s : Stop) where
  OfFirst : Location → Type 0
  OfFirst t = (t.van ≡ zero) × Lawfully (v ∷ vs) (r ∷ rs) s t

  OfLater : Location → Type 0
  OfLater t = (zero < t.van) × Lawfully (v ∷ vs) (r ∷ rs) s t

  at_first : (t : Location) → OfFirst t → (k : ℕ) × ((k ≤ length (stops_of r)) × Lawful v (insert (stops_of r) k s)) × (first_van k ≡ t)
  unfolding OfFirst
  at_first t q = (t.position, subst (λ w. Fits (v ∷ vs) (r ∷ rs) s w t.position) q.0 q.1, ap (λ w. record { van = w; position = t.position }) (sym q.0))

  at_later : (w k : ℕ) → zero < w → Fits (v ∷ vs) (r ∷ rs) s w k → (u : Location) × Lawfully vs rs s u × (later_van u ≡ record { van = w; position = k })
  at_later zero k l f = absurd (omega arith)
  at_later (suc w) k l f = (record { van = w; position = k }, f, refl)

  least_first : (b : Option (Insertion ℕ)) → Best v (stops_of r) s b → Least OfFirst (cost (v ∷ vs) (r ∷ rs) s) Before (option_map (moved first_van) b)
  unfolding OfFirst
  least_first b h =
      least_moved first_van (λ k. (k ≤ length (stops_of r)) × Lawful v (insert (stops_of r) k s)) (λ k. added_travel v (stops_of r) k s) ◌<◌ OfFirst (cost (v ∷ vs) (r ∷ rs) s) Before
      (λ k p. (refl, p))
      at_first
      (λ k p. refl)
      (λ k j e. ⊎_elim (λ l. absurd (omega arith)) (λ w. w.1) e)
      b h

  least_later : (o : Option Choice) → Least (Lawfully vs rs s) (cost vs rs s) Before o → Least OfLater (cost (v ∷ vs) (r ∷ rs) s) Before (option_map (moved later_van) o)
  unfolding OfLater
  least_later o h =
      least_moved later_van (Lawfully vs rs s) (cost vs rs s) Before OfLater (cost (v ∷ vs) (r ∷ rs) s) Before
      (λ t p. (omega arith, p))
      (λ t q. at_later t.van t.position q.0 q.1)
      (λ t p. refl)
      (λ t u e. ⊎_elim (λ l. inl (omega arith)) (λ w. inr (omega arith, w.1)) e)
      o h

  least_both : (b : Option (Insertion ℕ)) (o : Option Choice) → Best v (stops_of r) s b → Least (Lawfully vs rs s) (cost vs rs s) Before o → Least (Lawfully (v ∷ vs) (r ∷ rs) s) (cost (v ∷ vs) (r ∷ rs) s) Before (better (option_map (moved first_van) b) (option_map (moved later_van) o))
  unfolding OfFirst OfLater
  least_both b o h k =
      least_better (cost (v ∷ vs) (r ∷ rs) s) Before OfFirst OfLater (Lawfully (v ∷ vs) (r ∷ rs) s)
      (λ t f. elim (dec_lt zero t.van) [ yes l ↦ inr (l, f) | no l ↦ inl (omega arith, f) ])
      (λ t q. q.1)
      (λ t q. q.1)
      (λ t u p q e. ⊎_elim (λ l. omega (arith, p.0, q.0)) (λ w. omega (arith, p.0, q.0, w.0)) e)
      (option_map (moved first_van) b) (option_map (moved later_van) o) (least_first b h) (least_later o k)

chosen_least : (vs : List Van) (rs : List Load) (s : Stop) → Least (Lawfully vs rs s) (cost vs rs s) Before (chosen vs rs s)
chosen_least [] [] s = λ t f. f
chosen_least [] (r ∷ rs) s = λ t f. f
chosen_least (v ∷ vs) [] s = λ t f. f
chosen_least (v ∷ vs) (r ∷ rs) s = least_both v vs r rs s (best v (stops_of r) s) (chosen vs rs s) (best_is_best v (stops_of r) s) (chosen_least vs rs s)

-- what is computed is the cheapest choice
pub chosen_cheapest : (vs : List Van) (rs : List Load) (s : Stop) → Cheapest vs rs s (chosen vs rs s)
chosen_cheapest vs rs s = least_cheapest vs rs s (chosen vs rs s) (chosen_least vs rs s)

-- and no other is
pub chosen_is : (vs : List Van) (rs : List Load) (s : Stop) (o : Option Choice) → Cheapest vs rs s o → o ≡ chosen vs rs s
chosen_is vs rs s o h = least_unique (Lawfully vs rs s) (cost vs rs s) Before apart o (chosen vs rs s) (cheapest_least vs rs s o h) (chosen_least vs rs s)
