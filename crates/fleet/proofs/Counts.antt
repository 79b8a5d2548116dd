-- The counts of a slot.
use Rattle.std.proofs.Common.{◌≡◌, ℕ, ◌+◌, ◌*◌, min, ◌<◌, ◌≤◌, false, cond, eqb, List, [], ◌∷◌, length, get_or, take, sum_by, refl, ap, ◌∙◌, arith}
use mathlib.Core.List.{Perm}
use Rattle.std.proofs.lemmas.List.{take_more, map-append, length-map}
use Rattle.std.proofs.lemmas.List.Sums.{sum_by-cons, sum_by_push}
use Rattle.std.proofs.lemmas.Bool.{cond-true, cond-false, eq-eqb, ne_eqb}
use Rattle.std.proofs.lemmas.Bool.Decides.{nat_tests}
use Rattle.stops.specs.declared.class.Class.TheVariants.{Private, Trade}
use Rattle.stops.specs.declared.stop.Stop.{Stop}
use Rattle.stops.specs.Limits.{last_slot, unit_limit}
use Rattle.fleet.specs.declared.tally.Tally.{Tally}
use Rattle.fleet.specs.Loads.{Load, stops_of}
use Rattle.fleet.specs.Tallies.{private_count, trade_count, unit_count, count_limit, shown, tallied, nothing_held, one_private, one_trade, slot_units}
use Rattle.fleet.specs.Orders.{sum_perm}

abbrev pub tally_of : ℕ → ℕ → ℕ → Tally
tally_of p t u = record { privates = p; trades = t; units = u }

-- a tally is its three counts
pub same_tally : (a b : Tally) → a.privates ≡ b.privates → a.trades ≡ b.trades → a.units ≡ b.units → a ≡ b
same_tally a b p t u = let e : tally_of a.privates a.trades a.units ≡ tally_of b.privates b.trades b.units = cc in e

-- the order of the stops does not count
pub tallied_perm : (a b : List Stop) (i : ℕ) → Perm a b → tallied a i ≡ tallied b i
tallied_perm a b i h = same_tally _ _ (sum_perm (one_private i) a b h) (sum_perm (one_trade i) a b h) (sum_perm (slot_units i) a b h)

-- one more stop adds what it counts
pub tallied_more : (s : Stop) (l : List Stop) (i : ℕ) → tallied (s ∷ l) i ≡ tally_of (one_private i s + private_count l i) (one_trade i s + trade_count l i) (slot_units i s + unit_count l i)
tallied_more s l i = same_tally _ _ (sum_by-cons (one_private i) s l) (sum_by-cons (one_trade i) s l) (sum_by-cons (slot_units i) s l)

-- as a sum shows it
pub shown_cons : (s : Stop) (l : List Stop) (i : ℕ) (t one r : Tally) → t ≡ tallied l i → one.privates ≡ one_private i s → one.trades ≡ one_trade i s → one.units ≡ slot_units i s
    → r.privates ≡ min (t.privates + one.privates) count_limit → r.trades ≡ min (t.trades + one.trades) count_limit → r.units ≡ min (t.units + one.units) count_limit → r ≡ shown (tallied (s ∷ l) i)
shown_cons s l i t one r k p q u a b d =
    same_tally _ _
    (omega (arith, ap (λ (y : Tally). y.privates) k, sum_by-cons (one_private i) s l))
    (omega (arith, ap (λ (y : Tally). y.trades) k, sum_by-cons (one_trade i) s l))
    (omega (arith, ap (λ (y : Tally). y.units) k, sum_by-cons (slot_units i) s l))

-- a stop counts its units in its own slot
pub units_here : (s : Stop) → slot_units s.slot s ≡ s.units
units_here s = cond-true (eqb s.slot s.slot) s.units 0 (eq-eqb s.slot s.slot refl)

one_elsewhere : (s : Stop) (i : ℕ) → eqb s.slot i ≡ false → (one_private i s ≡ 0) × (one_trade i s ≡ 0)
one_elsewhere s i e = elim s.class as (λ k. (◌≡◌ {A = ℕ} (elim k [ Private ↦ cond (eqb s.slot i) 1 0 | Trade ↦ 0 ]) 0) × (◌≡◌ {A = ℕ} (elim k [ Private ↦ 0 | Trade ↦ cond (eqb s.slot i) 1 0 ]) 0))
    [ Private ↦ (cond-false (eqb s.slot i) 1 0 e, refl) | Trade ↦ (refl, cond-false (eqb s.slot i) 1 0 e) ]

-- nor does a stop of another slot
pub tallied_elsewhere : (s : Stop) (l : List Stop) (i : ℕ) → eqb s.slot i ≡ false → tallied (s ∷ l) i ≡ tallied l i
tallied_elsewhere s l i e =
    let z = one_elsewhere s i e in
    let y : slot_units i s ≡ 0 = cond-false (eqb s.slot i) s.units 0 e in
    tallied_more s l i ∙ same_tally _ _ (omega (arith, z.0)) (omega (arith, z.1)) (omega arith)

-- no stop is in a slot above the last
pub nothing_above : (l : List Stop) (i : ℕ) → last_slot < i → tallied l i ≡ nothing_held
nothing_above [] i h = refl
nothing_above (s ∷ l) i h = tallied_elsewhere s l i (ne_eqb s.slot i (λ e. omega (arith, s.known))) ∙ nothing_above l i h

-- so a tally's second clause follows from its first
pub tally_above : (t : Tally) (l : List Stop) (i : ℕ) → t ≡ tallied l i → last_slot < i → t ≡ nothing_held
tally_above t l i e h = e ∙ nothing_above l i h

-- what one stop adds at most
pub one_at_most : (i : ℕ) (s : Stop) → (one_private i s ≤ 1) × (one_trade i s ≤ 1) × (slot_units i s ≤ unit_limit)
one_at_most i s = grind (arith, nat_tests)

-- what stops count at most
pub tallied_few : (l : List Stop) (i : ℕ) → (private_count l i ≤ length l) × (trade_count l i ≤ length l) × (unit_count l i ≤ unit_limit * length l)
tallied_few [] i = (omega arith, omega arith, omega arith)
tallied_few (s ∷ l) i =
    let b = one_at_most i s in
    let r = tallied_few l i in (
      omega (arith, sum_by-cons (one_private i) s l, b.0, r.0),
      omega (arith, sum_by-cons (one_trade i) s l, b.1, r.1),
      omega (arith, sum_by-cons (slot_units i) s l, b.2, r.2),
    )

-- one more stop of a load
pub sum_more : (f : Stop → ℕ) (l : Load) (i : ℕ) (x : ℕ × Stop) → i < length l → x ≡ get_or l i x → sum_by f (stops_of (take (i + 1) l)) ≡ sum_by f (stops_of (take i l)) + f x.1
sum_more f l i x h e = rw (take_more l i x h, map-append (λ (p : ℕ × Stop). p.1) (take i l) (get_or l i x ∷ []), sum_by_push f (stops_of (take i l)) (get_or l i x).1, ← e) refl

-- one turn of a loop that sums up
pub shown_more : (l : Load) (i j : ℕ) (x : ℕ × Stop) (t one r : Tally) → i < length l → x ≡ get_or l i x → t ≡ shown (tallied (stops_of (take i l)) j) → one.privates ≡ one_private j x.1 → one.trades ≡ one_trade j x.1 → one.units ≡ slot_units j x.1
    → r.privates ≡ min (t.privates + one.privates) count_limit → r.trades ≡ min (t.trades + one.trades) count_limit → r.units ≡ min (t.units + one.units) count_limit → r ≡ shown (tallied (stops_of (take (i + 1) l)) j)
shown_more l i j x t one r h e k p q u a b d =
    same_tally _ _
    (omega (arith, ap (λ (y : Tally). y.privates) k, sum_more (one_private j) l i x h e))
    (omega (arith, ap (λ (y : Tally). y.trades) k, sum_more (one_trade j) l i x h e))
    (omega (arith, ap (λ (y : Tally). y.units) k, sum_more (slot_units j) l i x h e))

-- what is shown of a load is not above what its stops count at most
pub shown_few : (t : Tally) (l : Load) (j : ℕ) → t ≡ shown (tallied (stops_of l) j) → (t.privates ≤ length l) × (t.trades ≤ length l) × (t.units ≤ unit_limit * length l)
shown_few t l j e =
    let b = tallied_few (stops_of l) j in
    let n : length (stops_of l) ≡ length l = length-map l (λ (p : ℕ × Stop). p.1) in
    rw e (omega (arith, b.0), omega (arith, b.1), omega (arith, b.2))

-- and shows all where they are few
pub shown_all : (t : Tally) (l : Load) (j : ℕ) → t ≡ shown (tallied (stops_of l) j) → length l ≤ 65536 → t ≡ tallied (stops_of l) j
shown_all t l j e h =
    let b = tallied_few (stops_of l) j in
    let n : length (stops_of l) ≡ length l = length-map l (λ (p : ℕ × Stop). p.1) in
    e ∙ same_tally _ _ (omega (arith, b.0)) (omega (arith, b.1)) (omega (arith, b.2))
