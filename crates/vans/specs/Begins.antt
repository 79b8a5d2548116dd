-- The begin of a stop in its round.
use Rattle.std.specs.Prelude.{◌≡◌, ℕ, zero, suc, ◌<◌, ◌≤◌, List, [], ◌∷◌, length, get_or, take, slice_index, slice_index_or, refl}
use Rattle.std.proofs.Common.{sym, ap, ◌∙◌, arith}
use Rattle.stops.specs.declared.place.Place.{Place}
use Rattle.stops.specs.declared.stop.Stop.{Stop}
use Rattle.stops.specs.Places.{depot}
use Rattle.vans.specs.declared.van.Van.{Van}
use Rattle.vans.specs.Figures.{InWindow}
use Rattle.vans.specs.Insertions.{leaving}
use Rattle.vans.specs.Rounds.{OnTime, begin, begins, last_place}
use Rattle.vans.specs.FigureLaws.{window_close}

begin_there : (v : Van) (l : List Stop) (i : ℕ) (d : Stop) (p : Place) (t : ℕ) → i < length l → slice_index (begins v p t l) i ≡ begin v (last_place p (take i l)) (leaving v p t (take i l)) (slice_index_or l i d)
begin_there v [] i d p t h = absurd (omega arith)
begin_there v (s ∷ l) zero d p t h = refl
begin_there v (s ∷ l) (suc i) d p t h = begin_there v l i d _ _ (omega arith)

window_at : (v : Van) (l : List Stop) (i : ℕ) (d : Stop) (p : Place) (t : ℕ) → i < length l → OnTime v p t l → InWindow v (slice_index_or l i d) (begin v (last_place p (take i l)) (leaving v p t (take i l)) (slice_index_or l i d))
window_at v [] i d p t h g = absurd (omega arith)
window_at v (s ∷ l) zero d p t h g = g.0
window_at v (s ∷ l) (suc i) d p t h g = window_at v l i d _ _ (omega arith) g.1

opens_begin : (v : Van) (p : Place) (t : ℕ) (s : Stop) → s.hours.opens ≤ begin v p t s
unfolding begin
opens_begin v p t s = omega arith

-- the begin at a position is within the slot of the stop there
pub begin_within : (v : Van) (l : List Stop) (i : ℕ) (d : Stop) → i < length l → OnTime v depot v.start l → ((get_or l i d).hours.opens ≤ slice_index (begins v depot v.start l) i) × (slice_index (begins v depot v.start l) i ≤ (get_or l i d).hours.closes)
begin_within v l i d h g =
    let e = begin_there v l i d depot v.start h in
    (omega (arith, e, opens_begin v (last_place depot (take i l)) (leaving v depot v.start (take i l)) (slice_index_or l i d)), omega (arith, e, window_close v (slice_index_or l i d) _ (window_at v l i d depot v.start h g)))

module _ (v : Van) (l : List Stop) (i : ℕ) (x : Stop) (p : Place) (t r : ℕ) (h : i < length l) (e : (d : Stop) → x ≡ slice_index_or l i d) (ep : p ≡ last_place depot (take i l)) (et : t ≡ leaving v depot v.start (take i l)) (er : r ≡ begin v p t x) where
  begun : (d : Stop) → r ≡ begin v (last_place depot (take i l)) (leaving v depot v.start (take i l)) (slice_index_or l i d)
  begun d = er ∙ (ap (λ (y : Stop). begin v p t y) (e d) ∙ (ap (λ (q : Place). begin v q t (slice_index_or l i d)) ep ∙ ap (λ m. begin v (last_place depot (take i l)) m (slice_index_or l i d)) et))

  pub begin_is : r ≡ slice_index (begins v depot v.start l) i
  begin_is = begun x ∙ sym (begin_there v l i x depot v.start h)
