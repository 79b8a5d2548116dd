-- The due numbers as a list: what is in it, in which order, and how it joins with that of a later minute.
use Rattle.std.proofs.Common.{◌≡◌, ℕ, zero, suc, ◌+◌, ◌<◌, ◌≤◌, Bool, true, false, cond, leb, List, [], ◌∷◌, ◌++◌, Some, sym, refl, ap, subst, arith}
use Rattle.std.specs.List.{AllByRecursion}
use Rattle.std.proofs.ByRecursion.{All-weaker}
use Rattle.queue.specs.declared.due.Due.{Due}
use Rattle.queue.specs.Orders.{InOrder}
use Rattle.calls.specs.declared.record.Record.{Record}
use Rattle.calls.specs.declared.state.State.{State}
use Rattle.calls.specs.declared.state.State.TheVariants.{Open, Lapsed}
use Rattle.calls.specs.Lapses.{lapsed, lapses, insert, with_due, due_from, due}
use Rattle.offers.specs.Laws.{Sooner, LapseLaws}
use Rattle.offers.specs.Queued.{queued, Undue}
use Rattle.calls.specs.Records.{state_at, state_of}

abbrev pub entry : ℕ → ℕ → Due
entry d n = record { deadline = d; number = n }

-- ---- what is in the list
pub all_insert : (P : Due → Type 0) (d n : ℕ) (l : List Due) → P (entry d n) → AllByRecursion P l → AllByRecursion P (insert d n l)
all_insert P d n [] p h = (p, tt)
all_insert P d n (x ∷ l) p h = grind (arith, all_insert P d n l p h.1)

with_due_keeps : (P : List Due → Type 0) (c : ℕ) (s : State) (n : ℕ) (l : List Due) → ((d : ℕ) → s ≡ Open d → d ≤ c → P (insert d n l)) → P l → P (with_due c s n l)
with_due_keeps P c (Open d) n l h p = grind arith
with_due_keeps P c _ n l h p = p

-- an entry of an open number whose deadline has come, where the first record is that of number k
abbrev pub Drawn : ℕ → ℕ → List Record → Due → Type 0
Drawn c k rs x = (i : ℕ) × (x.number ≡ k + i) × (state_at rs i ≡ Some (Open x.deadline)) × (x.deadline ≤ c)

pub all_drawn : (c k : ℕ) (rs : List Record) → AllByRecursion (Drawn c k rs) (due_from c k rs)
all_drawn c k [] = tt
all_drawn c k (r ∷ rs) =
    let l : List Due = due_from c (suc k) rs in
    let h : AllByRecursion (Drawn c k (r ∷ rs)) l = All-weaker (Drawn c (suc k) rs) (Drawn c k (r ∷ rs)) (λ x g. (suc g.0, omega (arith, g.1), g.2, g.3)) l (all_drawn c (suc k) rs) in
    with_due_keeps (AllByRecursion (Drawn c k (r ∷ rs))) c r.state k l (λ d e le. all_insert (Drawn c k (r ∷ rs)) d k l (0, omega arith, ap Some e, le) h) h

queued_insert_here : (d n : ℕ) (l : List Due) → queued (insert d n l) d n ≡ true
queued_insert_here d n [] = grind arith
queued_insert_here d n (x ∷ l) = grind (arith, queued_insert_here d n l)

queued_insert_more : (e k : ℕ) (l : List Due) (d n : ℕ) → queued l d n ≡ true → queued (insert e k l) d n ≡ true
queued_insert_more e k [] d n h = cc
queued_insert_more e k (x ∷ l) d n h = grind (arith, queued_insert_more e k l d n)

all_found : (c k : ℕ) (rs : List Record) (i d : ℕ) → state_at rs i ≡ Some (Open d) → d ≤ c → queued (due_from c k rs) d (k + i) ≡ true
all_found c k [] i d e le = cc
all_found c k (r ∷ rs) zero d e le = grind (arith, queued_insert_here d k (due_from c (suc k) rs))
all_found c k (r ∷ rs) (suc i) d e le = grind (arith, queued_insert_more, all_found c (suc k) rs i d e le)

queued_is : (P : Due → Type 0) (l : List Due) (d n : ℕ) → AllByRecursion P l → queued l d n ≡ true → (x : Due) × P x × (x.deadline ≡ d) × (x.number ≡ n)
queued_is P [] d n all h = cc
queued_is P (x ∷ l) d n all h = grind (arith, queued_is P l d n all.1)

due_only : (c : ℕ) (rs : List Record) (d n : ℕ) → queued (due c rs) d n ≡ true → (state_of rs n ≡ Some (Open d)) × (d ≤ c)
due_only c rs d n h = grind (arith, queued_is, all_drawn)

due_every : (c : ℕ) (rs : List Record) (d n : ℕ) → state_of rs n ≡ Some (Open d) → d ≤ c → queued (due c rs) d n ≡ true
due_every c rs d zero e le = cc
due_every c rs d (suc i) e le = let k : 1 + i ≡ suc i = omega arith in subst (λ m. queued (due c rs) d m ≡ true) k (all_found c 1 rs i d e le)

-- ---- in order
insert_ordered : (d n : ℕ) (l : List Due) → AllByRecursion (λ x. n < x.number) l → InOrder Sooner l → InOrder Sooner (insert d n l)
insert_ordered d n [] h o = (tt, tt)
insert_ordered d n (x ∷ l) h o = grind (arith, All-weaker, all_insert, insert_ordered d n l h.1 o.1)

due_ordered : (c k : ℕ) (rs : List Record) → InOrder Sooner (due_from c k rs)
due_ordered c k [] = tt
due_ordered c k (r ∷ rs) = grind (arith, insert_ordered, All-weaker, all_drawn, due_ordered c (suc k) rs)

-- ---- an earlier minute first
pub insert_front : (d k : ℕ) (l : List Due) → AllByRecursion (λ x. d ≤ x.deadline) l → insert d k l ≡ entry d k ∷ l
insert_front d k [] h = refl
insert_front d k (x ∷ l) h = grind arith

insert_left : (d k : ℕ) (xs ys : List Due) → AllByRecursion (λ x. d ≤ x.deadline) ys → insert d k xs ++ ys ≡ insert d k (xs ++ ys)
insert_left d k [] ys h = sym (insert_front d k ys h)
insert_left d k (x ∷ xs) ys h = grind (arith, insert_left d k xs ys h)

insert_right : (d k : ℕ) (xs ys : List Due) → AllByRecursion (λ x. x.deadline < d) xs → xs ++ insert d k ys ≡ insert d k (xs ++ ys)
insert_right d k [] ys h = refl
insert_right d k (x ∷ xs) ys h = grind (arith, insert_right d k xs ys h.1)

-- what is open after the lapses has a later deadline
pub lapses_undue : (c : ℕ) (rs : List Record) → Undue c (lapses c rs)
lapses_undue c [] at e = cc
lapses_undue c (r ∷ rs) (zero, d) e = grind arith
lapses_undue c (r ∷ rs) (suc i, d) e = lapses_undue c rs (i, d) e

module _ (a b : ℕ) (le : a ≤ b) where
  join_open : (k d : ℕ) (xs ys l : List Due) → xs ++ ys ≡ l → AllByRecursion (λ x. x.deadline ≤ a) xs → AllByRecursion (λ x. a < x.deadline) ys → (t : Bool) → leb d a ≡ t → cond t (insert d k xs) xs ++ with_due b (cond t (Lapsed d) (Open d)) k ys ≡ with_due b (Open d) k l
  join_open k d xs ys l e low high true q = grind (arith, insert_left, All-weaker)
  join_open k d xs ys l e low high false q = grind (arith, insert_right, All-weaker)

  join_state : (k : ℕ) (s : State) (xs ys l : List Due) → xs ++ ys ≡ l → AllByRecursion (λ x. x.deadline ≤ a) xs → AllByRecursion (λ x. a < x.deadline) ys → with_due a s k xs ++ with_due b (lapsed a s) k ys ≡ with_due b s k l
  join_state k (Open d) xs ys l e low high = grind (arith, join_open)
  join_state k _ xs ys l e low high = e

  due_join : (k : ℕ) (rs : List Record) → due_from a k rs ++ due_from b k (lapses a rs) ≡ due_from b k rs
  due_join k [] = refl
  due_join k (r ∷ rs) =
      join_state k r.state (due_from a (suc k) rs) (due_from b (suc k) (lapses a rs)) (due_from b (suc k) rs) (due_join (suc k) rs)
      (All-weaker (Drawn a (suc k) rs) (λ x. x.deadline ≤ a) (λ x g. g.3) _ (all_drawn a (suc k) rs))
      (All-weaker (Drawn b (suc k) (lapses a rs)) (λ x. a < x.deadline) (λ x g. lapses_undue a rs (g.0, x.deadline) g.2) _ (all_drawn b (suc k) (lapses a rs)))

  lapses_join : (rs : List Record) → lapses b (lapses a rs) ≡ lapses b rs
  lapses_join [] = refl
  lapses_join (r ∷ rs) = grind (arith, lapses_join rs)

-- the laws of lapsing hold of any records
pub lapse_laws : (minute : ℕ) (rs : List Record) → LapseLaws minute rs
lapse_laws minute rs = record {
  ordered = due_ordered minute 1 rs;
  only = due_only minute rs;
  every = due_every minute rs;
  numbers = λ earlier le. due_join earlier minute le 1 rs;
  records = λ earlier le. lapses_join earlier minute le rs;
}
