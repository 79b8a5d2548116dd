-- What the first row that holds tells of each row.
use Rattle.std.proofs.Common.{◌≡◌, ℕ, Bool, true, false, List, [], ◌∷◌, ◌++◌, Some, None, Option, refl, arith}
use Rattle.std.specs.List.{AllByRecursion}
use Rattle.calls.specs.Causes.{Code, row, first}
use Rattle.calls.specs.Requests.{with_some}

-- where no row of the front holds, the rest decides
pub past : (xs ys : List (Option Code)) → first xs ≡ None → first (xs ++ ys) ≡ first ys
past [] ys e = refl
past (None ∷ xs) ys e = past xs ys e
past (Some k ∷ xs) ys e = cc

-- a row of the front that holds decides
pub ahead : (xs ys : List (Option Code)) (k : Code) → first xs ≡ Some k → first (xs ++ ys) ≡ Some k
ahead [] ys k e = cc
ahead (None ∷ xs) ys k e = ahead xs ys k e
ahead (Some j ∷ xs) ys k e = e

first_none : (o : Option Code) (rows : List (Option Code)) → first (o ∷ rows) ≡ None → (o ≡ None) × (first rows ≡ None)
first_none None rows e = (refl, e)
first_none (Some k) rows e = cc

-- where no row decides, none holds
pub none_each : (rows : List (Option Code)) → first rows ≡ None → AllByRecursion (λ o. o ≡ None) rows
none_each [] e = tt
none_each (o ∷ rows) e = let f = first_none o rows e in (f.0, none_each rows f.1)

-- and where none holds, none decides
pub each_none : (rows : List (Option Code)) → AllByRecursion (λ o. o ≡ None) rows → first rows ≡ None
each_none [] h = refl
each_none (o ∷ rows) h = grind (arith, each_none rows h.1)

-- a row that does not hold: its condition is false
pub row_none : (k : ℕ) (b : Bool) → row k b ≡ None → b ≡ false
row_none k true e = cc
row_none k false e = refl

-- two tests that agree on each value
pub with_same : {X Y : Type 0} (o : Option X) (f g : X → Option Y) → ((x : X) → f x ≡ g x) → with_some o f ≡ with_some o g
with_same None f g h = refl
with_same (Some x) f g h = h x
