-- What the makers' tests come to.
use Rattle.std.proofs.Common.{◌≡◌, ℕ, ◌<◌, ◌≤◌, Bool, true, false, T, ltb, leb, ℤ, ◌≤ℤ◌, Some, None, Ok, vec_len, Option, sym, ap, ◌∙◌, arith, le→leb, lt→ltb}
use native.Mathlib.Bridge.{le_prop}
use lib.Dec.{T_prop}
use lib.Signed.{le_z}
use Rattle.stops.specs.declared.class.Class.{Class}
use Rattle.stops.specs.declared.place.Place.{Place}
use Rattle.stops.specs.declared.slot.Slot.{Slot}
use Rattle.stops.specs.declared.table.SlotTable.{SlotTable}
use Rattle.stops.specs.Limits.{grid_least, grid_most, last_minute, last_slot, slot_limit, unit_limit}
use Rattle.stops.specs.Places.{place_of}
use Rattle.stops.specs.Refusals.{unless}
use Rattle.stops.specs.Slots.{slot_of, table_of}
use Rattle.stops.specs.Stops.{stop_of}
use Rattle.stops.specs.Tests.{when, when_below, when_most, when_mostZ}

when_yes : {P X : Type 0} → IsProp P → (b : Bool) (shows : T b → P) (f : P → Option X) → T b → (p : P) → when b shows f ≡ f p
when_yes u true shows f t p = ap f (u (shows tt) p)
when_yes u false shows f t p = absurd t

-- a test that passes leaves what it allows
pub most : {X : Type 0} (m n : ℕ) (f : m ≤ n → Option X) (p : m ≤ n) → when_most m n f ≡ f p
most m n f p = when_yes le_prop (leb m n) _ f (le→leb m n p) p

pub below : {X : Type 0} (m n : ℕ) (f : m < n → Option X) (p : m < n) → when_below m n f ≡ f p
below m n f p = when_yes le_prop (ltb m n) _ f (lt→ltb m n p) p

leZ_prop : (a b : ℤ) → IsProp (a ≤ℤ b)
leZ_prop a b x y = ap (λ t. record { le = t }) (T_prop (le_z a b) x.le y.le)

pub mostZ : {X : Type 0} (a b : ℤ) (f : a ≤ℤ b → Option X) (p : a ≤ℤ b) → when_mostZ a b f ≡ f p
mostZ a b f p = when_yes (leZ_prop a b) (le_z a b) _ f p.le p

-- a maker that made something
pub made_some : {X : Type 0} (n : ℕ) (o : Option X) (x : X) → Ok x ≡ unless n o → o ≡ Some x
made_some n None x e = let z : ◌≡◌ {A = ℕ} 0 1 = cc in absurd (omega arith)
made_some n (Some y) x e = let q : y ≡ x = cc in ap Some q

-- each value is what its maker makes of its own figures
pub place_made : (x y : ℤ) (p : Place) → p.x ≡ x → p.y ≡ y → place_of x y ≡ Some p
place_made x y p a b =
    ap (λ (u : ℤ). place_of u y) (sym a) ∙ ap (λ (v : ℤ). place_of p.x v) (sym b)
    ∙ (mostZ grid_least p.x _ p.west ∙ (mostZ p.x grid_most _ p.east ∙ (mostZ grid_least p.y _ p.south ∙ mostZ p.y grid_most _ p.north)))

pub slot_made : (s : Slot) → slot_of s.opens s.closes ≡ Some s
slot_made s = below s.opens s.closes _ s.apart ∙ most s.closes last_minute _ s.day

pub table_made : (t : SlotTable) → table_of t.slots ≡ Some t
table_made t = most 1 (vec_len t.slots) _ t.some ∙ most (vec_len t.slots) slot_limit _ t.few

pub stop_made : (n u : ℕ) (h : Slot) (p : Place) (k : Class) (a : n ≤ last_slot) (b : 1 ≤ u) (f : u ≤ unit_limit) → stop_of n h p u k ≡ Some (record { slot = n; hours = h; place = p; units = u; class = k; known = a; some = b; few = f })
stop_made n u h p k a b f = most n last_slot _ a ∙ (most 1 u _ b ∙ most u unit_limit _ f)
