-- A value that is made only where a test passes.
use Rattle.std.specs.Prelude.{ℕ, ◌<◌, ◌≤◌, Bool, true, false, T, ℤ, ◌≤ℤ◌, None, Option, int_le, nat_le, nat_lt}
use Rattle.std.proofs.Common.{leb→le, ltb→lt}

-- what a test that passes allows, and else nothing
abbrev pub when : {P X : Type 0} (b : Bool) → (T b → P) → (P → Option X) → Option X
when true shows f = f (shows tt)
when false shows f = None

-- where m < n
abbrev pub when_below : {X : Type 0} (m n : ℕ) → (m < n → Option X) → Option X
when_below m n f = when (nat_lt m n) (ltb→lt m n) f

-- where m ≤ n
abbrev pub when_most : {X : Type 0} (m n : ℕ) → (m ≤ n → Option X) → Option X
when_most m n f = when (nat_le m n) (leb→le m n) f

-- the same of signed numbers
abbrev pub when_mostZ : {X : Type 0} (a b : ℤ) → (a ≤ℤ b → Option X) → Option X
when_mostZ a b f = when (int_le a b) (λ t. record { le = t }) f
