-- Entries in order, under a total order of their kind.
use Rattle.std.specs.Prelude.{◌≡◌, ℕ, ◌+◌, ◌*◌, ◌<◌, ◌≤◌, false, List, [], ◌∷◌, length, slice_index_or}
use Rattle.std.specs.declared.cmp.Ordering.{Ordering}
use Rattle.std.specs.Cmp.{IsTotalOrder}
use Rattle.std.specs.Ordering.{is_lt}
use Rattle.std.specs.List.{AllByRecursion}

-- a list in order: each entry stands in this relation to all behind it
abbrev pub InOrder : {X : Type 0} → (X → X → Type 0) → List X → Type 0
InOrder L [] = Unit {0}
InOrder L (x ∷ xs) = AllByRecursion (L x) xs × InOrder L xs

module _ {X : Type 0} {R : X → X → Ordering} (o : IsTotalOrder R) where
  -- x does not come after y
  abbrev pub NotAfter : X → X → Type 0
  NotAfter x y = is_lt (R y x) ≡ false

  -- x is a least one: it comes after none of the entries
  abbrev pub Least : X → List X → Type 0
  Least x xs = AllByRecursion (NotAfter x) xs

  -- the entries stand as a heap: none comes before its parent, which for place k is (k - 1) / 2;
  -- `at` is the parent's place, the entry's place, and what is read past the end
  abbrev pub Heaped : List X → Type 0
  Heaped xs = (at : ℕ × ℕ × X) → (at.0 * 2 + 1 ≤ at.1) × (at.1 ≤ at.0 * 2 + 2) × (at.1 < length xs) → NotAfter (slice_index_or xs at.0 at.2) (slice_index_or xs at.1 at.2)

-- x is a least one of the entries, if they stand as a heap
abbrev pub FirstOf : {X : Type 0} → (X → X → Ordering) → X → List X → Type 0
FirstOf R x xs = (o : IsTotalOrder R) → Heaped o xs → Least o x xs
