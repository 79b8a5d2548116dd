-- Laws of the records: reading one by its number, changing one state, adding one, letting the due ones lapse.
use Rattle.std.proofs.Common.{◌≡◌, ℕ, zero, suc, ◌+◌, ◌<◌, true, false, cond, leb, List, [], ◌∷◌, length, Some, refl, ap, ◌∙◌, arith}
use Rattle.std.proofs.lemmas.Bool.Decides.{nat_tests}
use Rattle.std.proofs.lemmas.Bool.{cond_both, cond-false, cond-true}
use Rattle.stops.specs.declared.stop.Stop.{Stop}
use Rattle.queue.specs.declared.due.Due.{Due}
use Rattle.calls.specs.declared.record.Record.{Record}
use Rattle.calls.specs.declared.state.State.{State}
use Rattle.calls.specs.declared.state.State.TheVariants.{Open, Lapsed}
use Rattle.calls.specs.Lapses.{lapsed, lapses, insert, with_due, due_from}
use Rattle.calls.specs.Records.{mark, state_at}

pub placed_at : (rs : List Record) (i : ℕ) (s : State) → state_at rs i ≡ Some s → i < length rs
placed_at [] i s e = cc
placed_at (r ∷ rs) zero s e = omega arith
placed_at (r ∷ rs) (suc i) s e = grind (arith, placed_at rs i s e)

pub lapses_mark : (c : ℕ) (rs : List Record) (i d : ℕ) → state_at rs i ≡ Some (Open d) → leb d c ≡ true → lapses c (mark rs i (Lapsed d)) ≡ lapses c rs
lapses_mark c [] i d e h = refl
lapses_mark c (r ∷ rs) zero d e h = grind arith
lapses_mark c (r ∷ rs) (suc i) d e h = grind (arith, lapses_mark c rs i d e h)

-- the first due entry x, and the due entries l once its number has lapsed
pub record FirstDue (c k : ℕ) (rs : List Record) (x : Due) (l : List Due) : Type 0 where
  pub place : ℕ
  pub number : x.number ≡ k + place
  pub opened : state_at rs place ≡ Some (Open x.deadline)
  pub come : leb x.deadline c ≡ true
  pub rest : due_from c k (mark rs place (Lapsed x.deadline)) ≡ l

abbrev pub Split : ℕ → ℕ → List Record → List Due → Type 0
Split c k rs [] = lapses c rs ≡ rs
Split c k rs (x ∷ l) = FirstDue c k rs x l

shift : (c k : ℕ) (x : Stop) (s : State) (rs : List Record) → ((l : List Due) → with_due c s k l ≡ l) → lapsed c s ≡ s → (l : List Due) → Split c (suc k) rs l → Split c k (record { stop = x; state = s } ∷ rs) l
shift c k x s rs idle still [] e = grind (arith, nat_tests)
shift c k x s rs idle still (p ∷ l) f = record { place = suc f.place; number = omega (arith, f.number); opened = f.opened; come = f.come; rest = idle _ ∙ f.rest }

split_insert : (c k : ℕ) (x : Stop) (d : ℕ) (rs : List Record) → leb d c ≡ true → (l : List Due) → due_from c (suc k) rs ≡ l → Split c (suc k) rs l → Split c k (record { stop = x; state = Open d } ∷ rs) (insert d k l)
split_insert c k x d rs come [] e f = grind (arith, nat_tests)
split_insert c k x d rs come (q ∷ l) e f =
    elim (leb d q.deadline) as (λ b. Split c k (record { stop = x; state = Open d } ∷ rs) (cond b (record { deadline = d; number = k } ∷ (q ∷ l)) (q ∷ insert d k l))) [
      | true ↦ record { place = 0; number = omega arith; opened = refl; come = come; rest = e }
      | false ↦ record { place = suc f.place; number = omega (arith, f.number); opened = f.opened; come = f.come; rest = cond-true _ _ _ come ∙ ap (insert d k) f.rest }
    ]

split_state : (c k : ℕ) (x : Stop) (s : State) (rs : List Record) → Split c (suc k) rs (due_from c (suc k) rs) → Split c k (record { stop = x; state = s } ∷ rs) (with_due c s k (due_from c (suc k) rs))
split_state c k x (Open d) rs f =
    cond_both (leb d c) (insert d k (due_from c (suc k) rs)) (due_from c (suc k) rs) (λ l. Split c k (record { stop = x; state = Open d } ∷ rs) l)
    (λ e. split_insert c k x d rs e _ refl f)
    (λ e. shift c k x (Open d) rs (λ l. cond-false _ _ _ e) (cond-false _ _ _ e) _ f)
split_state c k x s rs f = grind (arith, shift)

-- the due entries, the first split off
pub due_split : (c k : ℕ) (rs : List Record) → Split c k rs (due_from c k rs)
due_split c k [] = refl
due_split c k (r ∷ rs) = split_state c k r.stop r.state rs (due_split c (suc k) rs)
