-- Laws of the records: reading one by its number, changing one state, adding one.
use Rattle.std.proofs.Common.{◌≡◌, ℕ, zero, suc, ◌-◌, ◌<◌, ◌≤◌, false, ◌⊎◌, List, [], ◌∷◌, ◌++◌, length, get_or, set, Some, None, Ok, refl, sym, subst, ap, inl, inr, arith}
use Rattle.std.proofs.lemmas.Option.{slice_get_read, slice_get_past}
use Rattle.offers.specs.declared.change.Change.{Change}
use Rattle.calls.specs.declared.record.Record.{Record}
use Rattle.calls.specs.declared.state.State.{State}
use Rattle.calls.specs.declared.state.State.TheVariants.{Open}
use Rattle.calls.proofs.Marks.{placed_at}
use Rattle.offers.specs.Changes.{changed}
use Rattle.calls.specs.Records.{record_of, state_at, state_of, mark, is_open}

-- the record of a number that was given, and that there is none past the last
pub record_read : (rs : List Record) (n j : ℕ) (r : Record) → n ≡ suc j → j < length rs → r ≡ get_or rs j r → Some r ≡ record_of rs n
record_read rs n j r e h w = subst (λ k. Some r ≡ record_of rs k) (sym e) (sym (slice_get_read rs (length rs) j r refl h w))

pub record_past : (rs : List Record) (n j : ℕ) → n ≡ suc j → length rs ≤ j → None ≡ record_of rs n
record_past rs n j e h = subst (λ k. None ≡ record_of rs k) (sym e) (sym (slice_get_past rs j h))

-- a number that was given
pub given : (rs : List Record) (n : ℕ) (s : State) → state_of rs n ≡ Some s → (1 ≤ n) × (n - 1 < length rs)
given rs zero s e = cc
given rs (suc i) s e = let k = placed_at rs i s e in (omega arith, omega arith)

-- ---- one state made another
pub set_mark : (rs : List Record) (i : ℕ) (x : Record) (s : State) → x ≡ get_or rs i x → i < length rs → set rs i (record { stop = x.stop; state = s }) ≡ mark rs i s
set_mark [] i x s e h = refl
set_mark (r ∷ rs) zero x s e h = grind arith
set_mark (r ∷ rs) (suc i) x s e h = let k : i < length rs = omega arith in ap (λ y. r ∷ y) (set_mark rs i x s e k)

pub never_open : (s : State) → is_open (Some s) ≡ false → (e : ℕ) → s ≡ Open e → ⊥
never_open s h e q = grind arith

-- no change leaves a number open
pub changed_closed : (k : Change) (minute : ℕ) (s t : State) → Ok t ≡ changed k minute s → is_open (Some t) ≡ false
changed_closed k minute s t e = grind arith

-- what is open once a state was closed was open before, at another place
pub open_mark : (rs : List Record) (i : ℕ) (s : State) → is_open (Some s) ≡ false → (j e : ℕ) → state_at (mark rs i s) j ≡ Some (Open e) → (state_at rs j ≡ Some (Open e)) × (j ≡ i → ⊥)
open_mark [] i s c j e q = cc
open_mark (r ∷ rs) zero s c zero e q = grind arith
open_mark (r ∷ rs) zero s c (suc j) e q = (q, λ w. omega arith)
open_mark (r ∷ rs) (suc i) s c zero e q = (q, λ w. omega arith)
open_mark (r ∷ rs) (suc i) s c (suc j) e q = grind (arith, open_mark rs i s c j e q)

-- ---- one record more
pub state_at_push : (rs : List Record) (r : Record) (j : ℕ) (s : State) → state_at (rs ++ r ∷ []) j ≡ Some s → (state_at rs j ≡ Some s) ⊎ ((j ≡ length rs) × (r.state ≡ s))
state_at_push [] r zero s e = inr (refl, cc)
state_at_push [] r (suc j) s e = cc
state_at_push (x ∷ rs) r zero s e = inl e
state_at_push (x ∷ rs) r (suc j) s e = grind (arith, state_at_push rs r j s e)

pub state_at_last : (rs : List Record) (r : Record) → state_at (rs ++ r ∷ []) (length rs) ≡ Some r.state
state_at_last [] r = refl
state_at_last (x ∷ rs) r = state_at_last rs r
