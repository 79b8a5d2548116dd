-- The records and the due entries still go together after each move of the table.
use Rattle.std.proofs.Common.{◌≡◌, ℕ, zero, suc, ◌<◌, true, false, eqb, List, [], ◌∷◌, ◌++◌, length, Some, sym, refl, ap, ◌∙◌, subst, ⊎_elim, arith}
use mathlib.Core.Logic.{∥∥₁_elim}
use mathlib.Core.List.{Perm, Permᴰ}
use mathlib.Core.Bool.{Bool-set}
use Rattle.std.proofs.lemmas.Bool.Decides.{nat_tests}
use Rattle.std.proofs.lemmas.Bool.{eqb-true, eq-eqb, and_parts, and_from, or_cases, or_left, or_right}
use Rattle.queue.specs.declared.due.Due.{Due}
use Rattle.calls.specs.declared.record.Record.{Record}
use Rattle.calls.specs.declared.state.State.{State}
use Rattle.calls.specs.declared.state.State.TheVariants.{Open}
use Rattle.calls.specs.Records.{state_at, state_of, mark, is_open}
use Rattle.offers.specs.Additions.{overdue}
use Rattle.offers.specs.Queued.{matches, queued, fits, Listed, Known, Undue}
use Rattle.offers.proofs.Marks.{open_mark, state_at_push, state_at_last}

-- ---- entries in another order
queued_as : (d n : ℕ) (xs ys : List Due) → Permᴰ xs ys → queued xs d n ≡ queued ys d n
queued_as d n _ _ Permᴰ.nil = refl
queued_as d n _ _ (Permᴰ.cons {a} {b} {l₁} {l₂} e p) = grind (arith, queued_as d n l₁ l₂ p)
queued_as d n _ _ (Permᴰ.swap {a} {b} {a'} {b'} {l} e f) = grind arith
queued_as d n _ _ (Permᴰ.trans {l₁} {l₂} {l₃} p q) = queued_as d n l₁ l₂ p ∙ queued_as d n l₂ l₃ q

queued_perm : (d n : ℕ) (xs ys : List Due) → Perm xs ys → queued xs d n ≡ queued ys d n
queued_perm d n xs ys s = ∥∥₁_elim s (Bool-set (queued xs d n) (queued ys d n)) (queued_as d n xs ys)

listed_perm : (rs : List Record) (xs ys : List Due) → Perm xs ys → Listed rs xs → Listed rs ys
listed_perm rs xs ys s h at e = grind (arith, queued_perm)

known_perm : (rs : List Record) (xs ys : List Due) → Perm xs ys → Known rs xs → Known rs ys
known_perm rs xs ys s h at e = h at (queued_perm at.0 at.1 xs ys s ∙ e)

-- ---- the first entry goes
-- it may, where its number is not open
pub listed_skip : (rs : List Record) (x : Due) (xs ys : List Due) → Perm xs (x ∷ ys) → ((e : ℕ) → state_of rs x.number ≡ Some (Open e) → ⊥) → Listed rs xs → Listed rs ys
listed_skip rs x xs ys p not-open h at e =
    ⊎_elim
    (λ m. let a = and_parts (eqb x.deadline at.1) (eqb x.number (suc at.0)) m in
    let n : x.number ≡ suc at.0 = eqb-true x.number (suc at.0) a.1 in
    absurd (not-open at.1 (ap (state_of rs) n ∙ e)))
    (λ q. q)
    (or_cases (matches x at.1 (suc at.0)) (queued ys at.1 (suc at.0)) (listed_perm rs xs (x ∷ ys) p h at e))

pub known_skip : (rs : List Record) (x : Due) (xs ys : List Due) → Perm xs (x ∷ ys) → Known rs xs → Known rs ys
known_skip rs x xs ys p h at e = grind (arith, known_perm)

has_first : (x : Due) (xs ys : List Due) → Perm xs (x ∷ ys) → queued xs x.deadline x.number ≡ true
has_first x xs ys s = grind (arith, nat_tests, queued_perm x.deadline x.number xs (x ∷ ys) s)

-- it fits the record of its number
pub first_fits : (rs : List Record) (x : Due) (xs ys : List Due) → Perm xs (x ∷ ys) → Known rs xs → fits (state_of rs x.number) x.deadline ≡ true
first_fits rs x xs ys p h = h (x.deadline, x.number) (has_first x xs ys p)

-- ---- a state is closed
fits_closed : (s : State) → is_open (Some s) ≡ false → (x : ℕ) → fits (Some s) x ≡ true
fits_closed (Open d) h x = cc
fits_closed _ h x = refl

fits_mark_at : (rs : List Record) (i : ℕ) (s : State) → is_open (Some s) ≡ false → (j d : ℕ) → fits (state_at rs j) d ≡ true → fits (state_at (mark rs i s) j) d ≡ true
fits_mark_at (r ∷ rs) zero s c zero d q = fits_closed s c d
fits_mark_at (r ∷ rs) (suc i) s c (suc j) d q = fits_mark_at rs i s c j d q
fits_mark_at rs i s c j d q = q

fits_mark : (rs : List Record) (i : ℕ) (s : State) → is_open (Some s) ≡ false → (n d : ℕ) → fits (state_of rs n) d ≡ true → fits (state_of (mark rs i s) n) d ≡ true
fits_mark rs i s c zero d q = q
fits_mark rs i s c (suc j) d q = fits_mark_at rs i s c j d q

module _ (rs rs' : List Record) (i : ℕ) (s : State) (closed : is_open (Some s) ≡ false) (w : rs' ≡ mark rs i s) where
  pub known_mark : (q : List Due) → Known rs q → Known rs' q
  known_mark q h = grind (arith, fits_mark)

  pub listed_mark : (q : List Due) → Listed rs q → Listed rs' q
  listed_mark q h = grind (arith, open_mark)

  pub undue_mark : (minute : ℕ) → Undue minute rs → Undue minute rs'
  undue_mark minute h = grind (arith, open_mark)

-- ---- a record more
-- one that is not overdue is open only with a later deadline
pub in_time : (clock : ℕ) (s : State) → overdue clock s ≡ false → (d : ℕ) → s ≡ Open d → clock < d
in_time clock s h d e = grind arith

fits_push_at : (rs : List Record) (r : Record) (j d : ℕ) → fits (state_at rs j) d ≡ true → fits (state_at (rs ++ r ∷ []) j) d ≡ true
fits_push_at [] r j d e = cc
fits_push_at (x ∷ rs) r zero d e = e
fits_push_at (x ∷ rs) r (suc j) d e = fits_push_at rs r j d e

fits_push : (rs : List Record) (r : Record) (n d : ℕ) → fits (state_of rs n) d ≡ true → fits (state_of (rs ++ r ∷ []) n) d ≡ true
fits_push rs r zero d e = e
fits_push rs r (suc j) d e = fits_push_at rs r j d e

module _ (rs rs' : List Record) (r : Record) (w : rs' ≡ rs ++ r ∷ []) where
  pub undue_push : (minute : ℕ) → ((d : ℕ) → r.state ≡ Open d → minute < d) → Undue minute rs → Undue minute rs'
  undue_push minute later h = grind (arith, state_at_push)

  -- one that is not open
  pub listed_push : (q : List Due) → ((e : ℕ) → r.state ≡ Open e → ⊥) → Listed rs q → Listed rs' q
  listed_push q c h = grind (arith, state_at_push)

  pub known_push : (q : List Due) → Known rs q → Known rs' q
  known_push q h = grind (arith, fits_push)

  -- an open one, with its entry
  module _ (x : Due) (q q' : List Due) (s : r.state ≡ Open x.deadline) (n : x.number ≡ suc (length rs)) (p : Perm (x ∷ q) q') where
    pub listed_open : Listed rs q → Listed rs' q'
    listed_open h = listed_perm rs' (x ∷ q) q' p (subst (λ (y : List Record). Listed y (x ∷ q)) (sym w) (λ at e.
        ⊎_elim
        (λ a. or_right (matches x at.1 (suc at.0)) (queued q at.1 (suc at.0)) (h at a))
        (λ b. let o : Open x.deadline ≡ Open at.1 = sym s ∙ b.1 in
        let d : x.deadline ≡ at.1 = cc in
        or_left (matches x at.1 (suc at.0)) (queued q at.1 (suc at.0)) (and_from _ _ (eq-eqb x.deadline at.1 d) (eq-eqb x.number (suc at.0) (omega (arith, n, b.0)))))
        (state_at_push rs r at.0 (Open at.1) e)))

    pub known_open : Known rs q → Known rs' q'
    known_open h = grind (arith, known_perm, eqb-true, state_at_last, fits_push, or_cases)
