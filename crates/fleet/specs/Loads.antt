-- A load: the stops that a fleet holds, each under its number.
use Rattle.std.specs.Prelude.{◌≡◌, ℕ, zero, suc, ◌<◌, Bool, true, false, cond, ◌||◌, List, [], ◌∷◌, map, length, count_by, ◌==◌, nat_eq}
use Rattle.std.specs.List.{remove}
use Rattle.stops.specs.declared.stop.Stop.{Stop}

abbrev pub Load : Type 0
Load = List (ℕ × Stop)

-- the stops of a load, without their numbers
abbrev pub stops_of : Load → List Stop
stops_of l = map (λ (p : ℕ × Stop). p.1) l

-- whether a number is held
abbrev pub held : ℕ → Load → Bool
held n [] = false
held n (p ∷ l) = p.0 == n || held n l

-- how often it is
abbrev pub times : ℕ → Load → ℕ
times n l = count_by (λ (p : ℕ × Stop). nat_eq p.0 n) l

-- a load without the first stop under a number
abbrev pub without : ℕ → Load → Load
without n [] = []
without n (p ∷ l) = cond (p.0 == n) l (p ∷ without n l)

-- the position of the first stop under a number; the length, where there is none
abbrev pub index : ℕ → Load → ℕ
index n [] = zero
index n (p ∷ l) = cond (p.0 == n) zero (suc (index n l))

-- the first stop under the number n is at position k
pub record First (n : ℕ) (l : Load) (k : ℕ) : Type 0 where
  -- the position is in the list
  pub within : k < length l
  -- the number is held
  pub there : held n l ≡ true
  -- it is the first position of that number
  pub first : k ≡ index n l
  -- without that position the list is the load without the number
  pub rest : remove l k ≡ without n l
