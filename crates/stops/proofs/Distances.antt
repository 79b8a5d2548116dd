-- The laws of the distance.
use Rattle.std.proofs.Common.{◌≡◌, ℕ, ◌+◌, ◌≤◌, ℤ, ◌-ℤ◌, nat_abs, sym, ap, ◌∙◌, arith}
use Rattle.std.proofs.lemmas.Int.{ints}
use Rattle.stops.specs.declared.place.Place.{Place}
use Rattle.stops.specs.Places.{distance, Metric}

gap_triangle : (a b c : ℤ) → nat_abs (a -ℤ c) ≤ nat_abs (a -ℤ b) + nat_abs (b -ℤ c)
gap_triangle a b c = omega (arith, ints)

gap_sym : (a b : ℤ) → nat_abs (a -ℤ b) ≡ nat_abs (b -ℤ a)
gap_sym a b = omega (arith, ints)

pub distance_triangle : (p q r : Place) → distance p r ≤ distance p q + distance q r
unfolding distance
distance_triangle p q r = omega (arith, gap_triangle p.x q.x r.x, gap_triangle p.y q.y r.y)

pub distance_sym : (p q : Place) → distance p q ≡ distance q p
unfolding distance
distance_sym p q = omega (arith, gap_sym p.x q.x, gap_sym p.y q.y)

pub distance_self : (p : Place) → distance p p ≡ 0
unfolding distance
distance_self p = omega (arith, ints)

pub distance_small : (p q : Place) → distance p q ≤ 398
unfolding distance
distance_small p q = omega (arith, ints)

pub metric : (p q : Place) (d : ℕ) → d ≡ distance p q → Metric p q d
metric p q d e =
    record {
      same = λ s. e ∙ ap (λ (m : Place). distance p m) (sym s) ∙ distance_self p;
      back = e ∙ distance_sym p q;
      direct = λ m. omega (arith, e, distance_triangle p m q);
      bound = omega (arith, e, distance_small p q);
    }
