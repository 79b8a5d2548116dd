-- What lapsing means in words.
use Rattle.std.specs.Prelude.{◌≡◌, ℕ, ◌<◌, ◌≤◌, true, ◌⊎◌, List, [], ◌∷◌, ◌++◌, Some, None, Option}
use Rattle.queue.specs.declared.due.Due.{Due}
use Rattle.queue.specs.Orders.{InOrder}
use Rattle.calls.specs.declared.record.Record.{Record}
use Rattle.calls.specs.declared.state.State.TheVariants.{Open, Lapsed}
use Rattle.calls.specs.Lapses.{lapses, due}
use Rattle.offers.specs.Queued.{queued}
use Rattle.calls.specs.Records.{state_of, mark_of}

-- x lapses before y: by deadline, then by number
abbrev pub Sooner : Due → Due → Type 0
Sooner x y = (x.deadline < y.deadline) ⊎ ((x.deadline ≡ y.deadline) × (x.number < y.number))

-- the numbers that lapse at a minute, in the order in which they lapse
pub record LapseLaws (minute : ℕ) (rs : List Record) : Type 0 where
  -- they are in order of deadline and number, and none comes twice
  pub ordered : InOrder Sooner (due minute rs)
  -- each is open, and its deadline has come
  pub only : (d n : ℕ) → queued (due minute rs) d n ≡ true → (state_of rs n ≡ Some (Open d)) × (d ≤ minute)
  -- each open number whose deadline has come is there
  pub every : (d n : ℕ) → state_of rs n ≡ Some (Open d) → d ≤ minute → queued (due minute rs) d n ≡ true
  -- to lapse up to an earlier minute first lets the same numbers lapse in the same order
  pub numbers : (earlier : ℕ) → earlier ≤ minute → due earlier rs ++ due minute (lapses earlier rs) ≡ due minute rs
  -- and leaves the same records
  pub records : (earlier : ℕ) → earlier ≤ minute → lapses minute (lapses earlier rs) ≡ lapses minute rs

-- One step of lapsing at a minute, from the records rs and the clock c to ps and b.
-- Some: the first of the due numbers lapses, no other record changes, and the rest are still due.
-- None: no number is due, all stays, and the clock moves to the minute.
abbrev pub Lapsing : ℕ → List Record → ℕ → Option ℕ → List Record → ℕ → Type 0
Lapsing minute rs c (Some n) ps b = (d : ℕ) × (due minute rs ≡ record { deadline = d; number = n } ∷ due minute ps) × (ps ≡ mark_of rs n (Lapsed d)) × (lapses minute ps ≡ lapses minute rs) × (b ≡ c)
Lapsing minute rs c None ps b = (due minute rs ≡ []) × (ps ≡ rs) × (lapses minute rs ≡ rs) × (b ≡ minute)
