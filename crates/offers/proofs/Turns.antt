-- The first entry of the agenda is that of the first due number, or of a number that is settled.
use Rattle.std.proofs.Common.{◌≡◌, ℕ, zero, suc, ◌+◌, ◌<◌, ◌≤◌, true, ◌⊎◌, List, [], ◌∷◌, Some, None, Ok, Err, Option, sym, refl, ap, ◌∙◌, inl, inr, ⊎_elim, arith}
use mathlib.Core.List.{Perm}
use Rattle.std.specs.List.{AllByRecursion}
use Rattle.std.proofs.ByRecursion.{All-weaker}
use Rattle.std.proofs.lemmas.Bool.Decides.{nat_tests}
use Rattle.std.proofs.lemmas.Bool.{cond-true, le-leb}
use Rattle.queue.specs.declared.due.Due.{Due}
use Rattle.queue.specs.Deadlines.{if_due}
use Rattle.queue.specs.Entries.{DueNoLater}
use Rattle.offers.specs.declared.agenda.Agenda.{Agenda}
use Rattle.offers.specs.declared.change.Change.TheVariants.{Lapse}
use Rattle.calls.specs.declared.record.Record.{Record}
use Rattle.calls.specs.declared.state.State.{State}
use Rattle.calls.specs.declared.state.State.TheVariants.{Open, Lapsed}
use Rattle.offers.specs.Agendas.{awaited, next, Skipped}
use Rattle.calls.specs.Lapses.{lapsed, lapses, with_due, due_from, due}
use Rattle.offers.specs.Laws.{Lapsing}
use Rattle.offers.specs.Queued.{queued, fits, Listed, Undue}
use Rattle.offers.specs.Changes.{asked, numbered, put}
use Rattle.calls.specs.Records.{state_at, state_of, mark, mark_of}
use Rattle.offers.proofs.Dues.{entry, Drawn, all_drawn, insert_front}
use Rattle.calls.proofs.Marks.{lapses_mark}
use Rattle.offers.proofs.Marks.{open_mark}

-- ---- the first due number
-- no open number comes before that of deadline d at place i
abbrev Soonest : List Record → ℕ → ℕ → Type 0
Soonest rs i d = (j e : ℕ) → state_at rs j ≡ Some (Open e) → (d < e) ⊎ ((d ≡ e) × (i ≤ j))

with_due_past : (c : ℕ) (s : State) (k : ℕ) (x : Due) (l : List Due) → ((e : ℕ) → s ≡ Open e → x.deadline < e) → with_due c s k (x ∷ l) ≡ x ∷ with_due c s k l
with_due_past c (Open e) k x l h = grind (arith, nat_tests, h e refl)
with_due_past c _ k x l h = refl

due_least : (c k : ℕ) (rs : List Record) (i d : ℕ) → state_at rs i ≡ Some (Open d) → d ≤ c → Soonest rs i d → due_from c k rs ≡ record { deadline = d; number = k + i } ∷ due_from c k (mark rs i (Lapsed d))
due_least c k [] i d e h least = cc
due_least c k (r ∷ rs) zero d e h least =
    let s : r.state ≡ Open d = cc in
    let l : List Due = due_from c (suc k) rs in
    let front : AllByRecursion (λ x. d ≤ x.deadline) l = All-weaker (Drawn c (suc k) rs) (λ x. d ≤ x.deadline) (λ x g. ⊎_elim (λ a. omega arith) (λ b. omega (arith, b.0)) (least (suc g.0) x.deadline g.2)) l (all_drawn c (suc k) rs) in
    let n : k ≡ k + 0 = omega arith in
    ap (λ y. with_due c y k l) s ∙ cond-true _ _ _ (le-leb d c h) ∙ insert_front d k l front ∙ ap (λ (m : ℕ). entry d m ∷ l) n
due_least c k (r ∷ rs) (suc i) d e h least =
    let below : Soonest rs i d = λ j x q. ⊎_elim (λ a. inl a) (λ b. inr (b.0, omega (arith, b.1))) (least (suc j) x q) in
    let ih = due_least c (suc k) rs i d e h below in
    let past : (x : ℕ) → r.state ≡ Open x → d < x = λ x q. let o : state_at (r ∷ rs) 0 ≡ Some (Open x) = ap Some q in ⊎_elim (λ a. a) (λ b. absurd (omega (arith, b.1))) (least 0 x o) in
    let l : List Due = due_from c k (r ∷ mark rs i (Lapsed d)) in
    let n : suc k + i ≡ k + suc i = omega arith in
    ap (with_due c r.state k) ih ∙ with_due_past c r.state k (record { deadline = d; number = suc k + i }) _ past ∙ ap (λ (m : ℕ). entry d m ∷ l) n

first_turn : (c : ℕ) (rs : List Record) (x : Due) (n : ℕ) → x.number ≡ n → state_of rs n ≡ Some (Open x.deadline) → x.deadline ≤ c → ((j e : ℕ) → state_at rs j ≡ Some (Open e) → (x.deadline < e) ⊎ ((x.deadline ≡ e) × (n ≤ suc j))) → (due c rs ≡ x ∷ due c (mark_of rs n (Lapsed x.deadline))) × (lapses c (mark_of rs n (Lapsed x.deadline)) ≡ lapses c rs)
first_turn c rs x zero w e h least = cc
first_turn c rs x (suc i) w e h least = grind (arith, due_least, lapses_mark)

-- ---- what the agenda says of the records
no_later : (x : Due) (xs : List Due) (e n : ℕ) → AllByRecursion (DueNoLater x) xs → queued xs e n ≡ true → (x.deadline < e) ⊎ ((x.deadline ≡ e) × (x.number ≤ n))
no_later x [] e n all q = cc
no_later x (y ∷ ys) e n all q = grind (arith, no_later x ys e n all.1)

after : (c : ℕ) (xs : List Due) (e n : ℕ) → AllByRecursion (λ y. c < y.deadline) xs → queued xs e n ≡ true → c < e
after c [] e n all q = cc
after c (y ∷ ys) e n all q = grind (arith, after c ys e n all.1)

-- where no entry is due, no number is
pub none_undue : (c : ℕ) (rs : List Record) (xs : List Due) → Listed rs xs → AllByRecursion (λ y. c < y.deadline) xs → Undue c rs
none_undue c rs xs listed all at e = grind (arith, after)

none_drawn : (c k : ℕ) (rs : List Record) → Undue c rs → (l : List Due) → AllByRecursion (Drawn c k rs) l → l ≡ []
none_drawn c k rs h [] all = refl
none_drawn c k rs h (x ∷ l) all = let g = all.0 in absurd (omega (arith, h (g.0, x.deadline) g.2, g.3))

still : (c : ℕ) (s : State) → ((d : ℕ) → s ≡ Open d → c < d) → lapsed c s ≡ s
still c (Open d) h = grind arith
still c _ h = refl

lapses_none : (c : ℕ) (rs : List Record) → Undue c rs → lapses c rs ≡ rs
lapses_none c [] h = refl
lapses_none c (r ∷ rs) h = ap (λ (s : State). record { stop = r.stop; state = s } ∷ lapses c rs) (still c r.state (λ d e. h (0, d) (ap Some e))) ∙ ap (λ l. r ∷ l) (lapses_none c rs (λ at e. h (suc at.0, at.1) e))

pub lapsing_none : (c : ℕ) (rs ps : List Record) (clock : ℕ) → Undue c ps → ps ≡ rs → Lapsing c rs clock None ps c
lapsing_none c rs ps clock h w = grind (arith, none_drawn, all_drawn, lapses_none)

-- ---- what the first entry's number comes to
outcome : (o : Option State) (d m : ℕ) → fits o d ≡ true → ((o ≡ Some (Open d)) × (asked Lapse m o ≡ Ok (Lapsed d))) ⊎ (((e : ℕ) → o ≡ Some (Open e) → ⊥) × (asked Lapse m o ≡ Err (9, [])))
outcome None d m h = cc
outcome (Some (Open e)) d m h = grind arith
outcome _ d m h = inr (λ x q. cc, refl)

marked_closed : (rs : List Record) (n d : ℕ) → (e : ℕ) → state_of (mark_of rs n (Lapsed d)) n ≡ Some (Open e) → ⊥
marked_closed rs zero d e q = cc
marked_closed rs (suc i) d e q = grind (arith, open_mark)

module _ (rs ps : List Record) (x : Due) (clock : ℕ) (known : fits (state_of rs x.number) x.deadline ≡ true) (w : ps ≡ put rs x.number (asked Lapse clock (state_of rs x.number))) where
  -- it is not open any more
  pub closed_after : (e : ℕ) → state_of ps x.number ≡ Some (Open e) → ⊥
  closed_after e q = grind (arith, marked_closed)

  -- it is the first due number, and lapses
  pub lapsing_some : (c n : ℕ) (xs : List Due) → Ok n ≡ numbered x.number (asked Lapse clock (state_of rs x.number)) → Listed rs xs → AllByRecursion (DueNoLater x) xs → x.deadline ≤ c → Lapsing c rs clock (Some n) ps clock
  lapsing_some c n xs said listed all le = ⊎_elim
      (λ a. let e = said ∙ ap (numbered x.number) a.1 in
      let same : n ≡ x.number = cc in
      let m : ps ≡ mark_of rs x.number (Lapsed x.deadline) = w ∙ ap (put rs x.number) a.1 in
      let t = first_turn c rs x x.number refl a.0 le (λ j e q. no_later x xs e (suc j) all (listed (j, e) q)) in
      rw same (x.deadline, t.0 ∙ ap (λ (l : List Record). x ∷ due c l) (sym m), m, ap (lapses c) m ∙ t.1, refl))
      (λ b. let e = said ∙ ap (numbered x.number) b.1 in cc)
      (outcome (state_of rs x.number) x.deadline clock known)

-- it is taken off the agenda, which stayed as it was until then
pub first_taken : (a b : Agenda) (x : Due) (ys : List Due) (minute : ℕ) → Some x ≡ if_due minute (next a) → b ≡ a → Skipped (awaited b) (next b) ys → Perm (awaited b) (x ∷ ys) × Perm (awaited a) (x ∷ ys)
first_taken a b x ys minute e w s = grind arith

-- a step from records and a clock that are the same as others
pub carried : (c : ℕ) (rs rs₀ ps : List Record) (k k₀ b n : ℕ) → rs ≡ rs₀ → k ≡ k₀ → b ≡ k → Lapsing c rs k (Some n) ps k → Lapsing c rs₀ k₀ (Some n) ps b
carried c rs rs₀ ps k k₀ b n e f g t = grind arith
