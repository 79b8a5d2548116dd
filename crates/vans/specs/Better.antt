-- Where one more stop may go, with the travel that it adds there: the better of two, and the best of all.
use Rattle.std.specs.Prelude.{◌≡◌, ℕ, ◌<◌, ◌≤◌, cond, Some, None, Option, nat_lt}
use Rattle.vans.specs.declared.choice.Insertion.{Insertion}

-- the better of the best so far and a later one, which must add less
abbrev pub better : {X : Type 0} → Option (Insertion X) → Option (Insertion X) → Option (Insertion X)
better None c = c
better (Some b) None = Some b
better (Some b) (Some c) = cond (nat_lt c.added b.added) (Some c) (Some b)

-- the same travel at a place of another kind
abbrev pub moved : {X Y : Type 0} → (X → Y) → Insertion X → Insertion Y
moved f b = record { at = f b.at; added = b.added }

-- r is place n with the travel a, exactly if P holds
abbrev pub Offers : {X : Type 0} → Type 0 → X → ℕ → Option (Insertion X) → Type 0
Offers P n a None = P → ⊥
Offers P n a (Some b) = P × (b.at ≡ n) × (b.added ≡ a)

-- r is the first of the cheapest places where P holds, or there is none: c is the cost of a place, and B x y says that x comes before y
abbrev pub Least : {X : Type 0} → (X → Type 0) → (X → ℕ) → (X → X → Type 0) → Option (Insertion X) → Type 0
Least P c B None = (x : _) → P x → ⊥
Least P c B (Some b) = P b.at × (b.added ≡ c b.at) × ((x : _) → P x → (b.added ≤ c x) × (B x b.at → b.added < c x))
