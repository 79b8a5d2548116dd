-- What the records hold, as a load.
use Rattle.std.proofs.Common.{◌≡◌, ℕ, zero, suc, ◌+◌, ◌<◌, ◌≤◌, true, false, List, [], ◌∷◌, ◌++◌, length, Some, refl, arith}
use mathlib.Core.List.Permᴰ
use mathlib.Core.List.{Perm, Mem, mem-cons_self, mem-cons_of_mem}
use Rattle.std.proofs.lemmas.Bool.Decides.{nat_tests}
use Rattle.stops.specs.declared.stop.Stop.{Stop}
use Rattle.fleet.specs.Loads.{Load, held, without}
use Rattle.calls.specs.declared.record.Record.{Record}
use Rattle.calls.specs.declared.state.State.{State}
use Rattle.calls.specs.Records.{held_from, holding, mark, record_at, state_at}

-- one stop more, in front or at the end
pub front_back : (l : Load) (p : ℕ × Stop) → Perm (p ∷ l) (l ++ p ∷ [])
front_back l p = ∣ Permᴰ.append_comm (p ∷ []) l ∣₁

-- a number that was not given is not held
pub unheld : (n k : ℕ) (rs : List Record) → k + length rs ≤ n → held n (held_from k rs) ≡ false
unheld n k [] h = refl
unheld n k (r ∷ rs) h = grind (arith, nat_tests, unheld n (suc k) rs (omega arith))

-- a number that is open or confirmed is
pub held_at : (k i : ℕ) (rs : List Record) (s : State) → state_at rs i ≡ Some s → holding s ≡ true → held (k + i) (held_from k rs) ≡ true
held_at k i [] s e h = cc
held_at k zero (x ∷ rs) s e h = grind (arith, nat_tests)
held_at k (suc i) (x ∷ rs) s e h = grind (arith, nat_tests, held_at (suc k) i rs s e h)

-- a number that holds its stop
pub held_mem : (k i : ℕ) (rs : List Record) (r : Record) → record_at rs i ≡ Some r → holding r.state ≡ true → Mem (k + i, r.stop) (held_from k rs)
held_mem k i [] r e h = cc
held_mem k zero (x ∷ rs) r e h =
    let l : held_from k (x ∷ rs) ≡ (k, x.stop) ∷ held_from (suc k) rs = grind arith in
    let f : ◌≡◌ {A = ℕ × Stop} (k + 0, r.stop) (k, x.stop) = grind arith in
    rw (l, f) mem-cons_self
held_mem k (suc i) (x ∷ rs) r e h = grind (arith, mem-cons_of_mem, held_mem (suc k) i rs r e h)

-- a state that holds the stop as the one before did
pub held_same : (k : ℕ) (rs : List Record) (i : ℕ) (s s' : State) → state_at rs i ≡ Some s → holding s ≡ holding s' → held_from k (mark rs i s') ≡ held_from k rs
held_same k [] i s s' e h = refl
held_same k (r ∷ rs) zero s s' e h = grind arith
held_same k (r ∷ rs) (suc i) s s' e h = grind (arith, held_same (suc k) rs i s s' e h)

before : (n k : ℕ) (rs : List Record) → n < k → without n (held_from k rs) ≡ held_from k rs
before n k [] h = refl
before n k (r ∷ rs) h = grind (arith, nat_tests, before n (suc k) rs (omega arith))

-- a number that no longer holds its stop
pub held_without : (n k : ℕ) (rs : List Record) (i : ℕ) (s : State) → n ≡ k + i → i < length rs → holding s ≡ false → without n (held_from k rs) ≡ held_from k (mark rs i s)
held_without n k [] i s e l h = absurd (omega arith)
held_without n k (r ∷ rs) zero s e l h = grind (arith, nat_tests, before n (suc k) rs (omega arith))
held_without n k (r ∷ rs) (suc i) s e l h = grind (arith, nat_tests, held_without n (suc k) rs i s (omega arith) (omega arith) h)

-- a number more
pub held_push : (k : ℕ) (rs : List Record) (r : Record) → holding r.state ≡ true → held_from k (rs ++ r ∷ []) ≡ held_from k rs ++ (k + length rs, r.stop) ∷ []
held_push k [] r h = grind arith
held_push k (x ∷ rs) r h = grind (arith, held_push (suc k) rs r h)
