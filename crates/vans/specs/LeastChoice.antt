-- The cheapest choice is the first of the cheapest locations.
use Rattle.std.specs.Prelude.{◌≡◌, ℕ, zero, suc, ◌<◌, ◌≤◌, ◌⊎◌, List, [], ◌∷◌, length, Some, None, Option, refl}
use Rattle.std.proofs.Common.{⊎_elim, inl, inr, sym, ap, subst, ◌∙◌, arith}
use Rattle.std.proofs.Math.Decide.{dec_lt}
use Rattle.stops.specs.declared.stop.Stop.{Stop}
use Rattle.fleet.specs.Loads.{Load}
use Rattle.vans.specs.declared.van.Van.{Van}
use Rattle.vans.specs.declared.choice.Location.{Location}
use Rattle.vans.specs.Better.{Least}
use Rattle.vans.specs.Cheapest.{Choice, Fits, added_at, Cheapest}

-- locations are in order of their vans, and then of their positions
abbrev pub Before : Location → Location → Type 0
Before x y = (x.van < y.van) ⊎ ((x.van ≡ y.van) × (x.position < y.position))

neither : (a b : ℕ) → (a < b → ⊥) → (b < a → ⊥) → a ≡ b
neither a b f g = omega arith

-- of two locations one is the earlier
pub apart : (x y : Location) → (Before x y → ⊥) → (Before y x → ⊥) → x ≡ y
apart x y f g =
    let e : x.van ≡ y.van = neither x.van y.van (λ l. f (inl l)) (λ l. g (inl l)) in
    let k : x.position ≡ y.position = neither x.position y.position (λ l. f (inr (e, l))) (λ l. g (inr (sym e, l))) in
    ap (λ n. record { van = n; position = x.position }) e ∙ ap (λ n. record { van = y.van; position = n }) k

-- a position is of some van
pub fits_van : (vs : List Van) (rs : List Load) (s : Stop) (w k : ℕ) → Fits vs rs s w k → w < length vs
fits_van [] [] s w k f = absurd f
fits_van [] (r ∷ rs) s w k f = absurd f
fits_van (v ∷ vs) [] s w k f = absurd f
fits_van (v ∷ vs) (r ∷ rs) s zero k f = omega arith
fits_van (v ∷ vs) (r ∷ rs) s (suc w) k f = omega (arith, fits_van vs rs s w k f)

module _ (vs : List Van) (rs : List Load) (s : Stop) where
  -- a location where s may lawfully stand
  abbrev pub Lawfully : Location → Type 0
  Lawfully t = Fits vs rs s t.van t.position

  -- the travel that it adds there
  abbrev pub cost : Location → ℕ
  cost t = added_at vs rs s t.van t.position

  pub least_cheapest : (r : Option Choice) → Least Lawfully cost Before r → Cheapest vs rs s r
  least_cheapest None h = λ w k f. h (record { van = w; position = k }) f
  least_cheapest (Some b) h =
      let m : (w k : ℕ) → Fits vs rs s w k → (b.added ≤ added_at vs rs s w k) × (Before (record { van = w; position = k }) b.at → b.added < added_at vs rs s w k) = λ w k f. h.2 (record { van = w; position = k }) f in
      record {
        fits = h.0;
        added = h.1;
        least = λ w k f. (m w k f).0;
        lowest = λ w k f e. elim (dec_lt w b.at.van) [ yes l ↦ absurd (omega (arith, e, (m w k f).1 (inl l))) | no l ↦ omega arith ];
        earliest = λ k f e. elim (dec_lt k b.at.position) [ yes l ↦ absurd (omega (arith, e, (m b.at.van k f).1 (inr (refl, l)))) | no l ↦ omega arith ];
      }

  pub cheapest_least : (r : Option Choice) → Cheapest vs rs s r → Least Lawfully cost Before r
  cheapest_least None h = λ t f. h t.van t.position f
  cheapest_least (Some b) h = (
    h.fits,
    h.added,
    λ t f. (
      h.least t.van t.position f,
      λ e. elim (dec_lt b.added (cost t)) [
        | yes z ↦ z
        | no z ↦ absurd (let q : cost t ≡ b.added = omega (arith, h.least t.van t.position f) in
            ⊎_elim
            (λ l. omega (arith, h.lowest t.van t.position f q))
            (λ w. omega (arith, w.1, h.earliest t.position (subst (λ n. Fits vs rs s n t.position) w.0 f) (subst (λ n. added_at vs rs s n t.position ≡ b.added) w.0 q)))
            e)
      ],
    ),
  )
