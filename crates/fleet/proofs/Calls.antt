-- What the answers of a fleet's calls say of its standing and its load, for code over any fleet.
use Rattle.std.proofs.Common.{◌≡◌, ℕ, Bool, true, false, cond, List, [], ◌∷◌, Some, None, Ok, Err, Option, Result, sym, refl, ap, ◌∙◌, subst, arith, MatchResult}
use mathlib.Core.List.Perm
use mathlib.Core.List.{Perm}
use Rattle.std.proofs.lemmas.Bool.{cond-true, eq-eqb}
use Rattle.stops.specs.declared.refusal.Refusal.{Refusal}
use Rattle.stops.specs.declared.stop.Stop.{Stop}
use Rattle.stops.specs.Refusals.{coded}
use Rattle.fleet.specs.Loads.{Load, held, without}
use Rattle.fleet.specs.Meaning.{Meaning, place_answer, remove_answer, after, unless_objected}
use Rattle.fleet.specs.Laws.{Laws, Reached, start, place, remove}
use Rattle.fleet.specs.Held.{times_perm, times_here, some_held, held_perm, held_others, gone, others, without_perm}

-- what a call leaves, by the code of its answer
pub after_steps : {X : Type 0} (r : Result (Unit {0}) Refusal) (a : Result (Unit {0}) (ℕ × List ℕ)) (w new old : X) → coded r ≡ a → w ≡ after r new old → w ≡ after a new old
after_steps {X} r a w new old c e = e ∙ (by_code r ∙ ap (λ (x : Result (Unit {0}) (ℕ × List ℕ)). after x new old) c)
  where
    by_code : (x : Result (Unit {0}) Refusal) → after x new old ≡ after (coded x) new old
    by_code (Ok y) = refl
    by_code (Err y) = refl

free_and_admitted : (b : Bool) (o : Option ℕ) (x : Unit {0}) → Ok x ≡ cond b (Err (19, [])) (unless_objected o) → (b ≡ false) × (o ≡ None)
free_and_admitted true o x e = let z : ◌≡◌ {A = ℕ} 0 1 = cc in absurd (omega arith)
free_and_admitted false None x e = (refl, refl)
free_and_admitted false (Some d) x e = let z : ◌≡◌ {A = ℕ} 0 1 = cc in absurd (omega arith)

was_held : (b : Bool) (x : Unit {0}) → ◌≡◌ {A = Result (Unit {0}) (ℕ × List ℕ)} (Ok x) (cond b (Ok tt) (Err (20, []))) → b ≡ true
was_held true x e = refl
was_held false x e = let z : ◌≡◌ {A = ℕ} 0 1 = cc in absurd (omega arith)

-- a fleet that was made or cleared
pub clear_reached : {Setup Standing : Type 0} (m : Meaning Setup Standing) (u v : Setup) (w : Standing) → v ≡ u → w ≡ m.cleared u → Reached m v w
clear_reached m u v w a e = rw (a, e) start

module _ {Setup Standing : Type 0} (m : Meaning Setup Standing) (u : Setup) (t : Standing) (n : ℕ) (s : Stop) where
  -- a place that was done: the number was not held, and there was no objection
  pub place_done : (x : Unit {0}) → Ok x ≡ place_answer m u t n s → (held n (m.load t) ≡ false) × (m.objection u t s ≡ None)
  place_done x e = free_and_admitted (held n (m.load t)) (m.objection u t s) x e

  -- the standing after a place, by what was before it
  pub place_steps : (r : Result (Unit {0}) Refusal) (w : Standing) → coded r ≡ place_answer m u t n s → w ≡ after r (m.placed u t n s) t → w ≡ after (place_answer m u t n s) (m.placed u t n s) t
  place_steps r w c e = after_steps r (place_answer m u t n s) w (m.placed u t n s) t c e

  placed_or_not : (b : Bool) (o : Option ℕ) → held n (m.load t) ≡ b → m.objection u t s ≡ o → Reached m u t → Reached m u (after (cond b (Err (19, [])) (unless_objected o)) (m.placed u t n s) t)
  placed_or_not true o e f h = h
  placed_or_not false None e f h = place h e f
  placed_or_not false (Some d) e f h = h

  -- it is a reached one, whatever the answer
  pub placed_reached : Reached m u t → Reached m u (after (place_answer m u t n s) (m.placed u t n s) t)
  placed_reached h = placed_or_not (held n (m.load t)) (m.objection u t s) refl refl h

  -- the same from the clauses of the call
  pub place_reached : (r : Result (Unit {0}) Refusal) (v : Setup) (w : Standing) → v ≡ u → coded r ≡ place_answer m u t n s → w ≡ after r (m.placed u t n s) t → Reached m u t → Reached m v w
  place_reached r v w a c e h = rw (a, place_steps r w c e) (placed_reached h)

  module _ (l : Laws m) (r : Reached m u t) (h : held n (m.load t) ≡ false) (o : m.objection u t s ≡ None) where
    -- the load after a place that was done, where the load before is known up to order
    pub placed_load : (k : Load) → Perm (m.load t) k → Perm (m.load (m.placed u t n s)) ((n, s) ∷ k)
    placed_load k p = Perm.trans (Perm.symm (l.gains u t n s r h o)) (Perm.cons (n, s) p)

    -- the number is held
    pub placed_held : held n (m.load (m.placed u t n s)) ≡ true
    placed_held =
        some_held n (m.load (m.placed u t n s))
        (omega (arith, times_perm ((n, s) ∷ m.load t) (m.load (m.placed u t n s)) n (l.gains u t n s r h o), times_here (n, s) (m.load t) n (eq-eqb n n refl)))

    -- any other is held as before
    pub placed_others : (k : ℕ) → (n ≡ k → ⊥) → held k (m.load (m.placed u t n s)) ≡ held k (m.load t)
    placed_others k apart = sym (held_perm ((n, s) ∷ m.load t) (m.load (m.placed u t n s)) k (l.gains u t n s r h o)) ∙ held_others n s k (m.load t) apart

  -- a place by its answer: where it was done the load gains just that stop, and else nothing changes
  pub place_cases : Laws m → Reached m u t → (r : Result (Unit {0}) Refusal) (w : Standing) → coded r ≡ place_answer m u t n s → w ≡ after r (m.placed u t n s) t → MatchResult r (λ _. (held n (m.load t) ≡ false) × (w ≡ m.placed u t n s) × Perm (m.load w) ((n, s) ∷ m.load t)) (λ _. w ≡ t)
  place_cases l h (Ok x) w c e =
      let d = place_done x c in
      (d.0, e, subst (λ (z : Standing). Perm (m.load z) ((n, s) ∷ m.load t)) (sym e) (Perm.symm (l.gains u t n s h d.0 d.1)))
  place_cases l h (Err x) w c e = e

module _ {Setup Standing : Type 0} (m : Meaning Setup Standing) (u : Setup) (t : Standing) (n : ℕ) where
  -- a number that is held is removed
  pub remove_held : held n (m.load t) ≡ true → Ok tt ≡ remove_answer m t n
  remove_held h = sym (cond-true (held n (m.load t)) (Ok tt) (Err (20, [])) h)

  -- a remove that was done: the number was held
  pub remove_done : (x : Unit {0}) → Ok x ≡ remove_answer m t n → held n (m.load t) ≡ true
  remove_done x e = was_held (held n (m.load t)) x e

  -- the standing after a remove, by what was before it
  pub remove_steps : (r : Result (Unit {0}) Refusal) (w : Standing) → coded r ≡ remove_answer m t n → w ≡ after r (m.removed u t n) t → w ≡ after (remove_answer m t n) (m.removed u t n) t
  remove_steps r w c e = after_steps r (remove_answer m t n) w (m.removed u t n) t c e

  removed_or_not : (b : Bool) → held n (m.load t) ≡ b → Reached m u t → Reached m u (after {E = ℕ × List ℕ} (cond b (Ok tt) (Err (20, []))) (m.removed u t n) t)
  removed_or_not true e h = remove h e
  removed_or_not false e h = h

  -- it is a reached one, whatever the answer
  pub removed_reached : Reached m u t → Reached m u (after (remove_answer m t n) (m.removed u t n) t)
  removed_reached h = removed_or_not (held n (m.load t)) refl h

  -- the same from the clauses of the call
  pub remove_reached : (r : Result (Unit {0}) Refusal) (v : Setup) (w : Standing) → v ≡ u → coded r ≡ remove_answer m t n → w ≡ after r (m.removed u t n) t → Reached m u t → Reached m v w
  remove_reached r v w a c e h = rw (a, remove_steps r w c e) (removed_reached h)

  module _ (l : Laws m) (r : Reached m u t) (h : held n (m.load t) ≡ true) where
    -- the load after a remove that was done, where the load before is known up to order
    pub removed_load : (k : Load) → Perm (m.load t) k → Perm (m.load (m.removed u t n)) (without n k)
    removed_load k p = Perm.trans (Perm.symm (l.loses u t n r h)) (without_perm n (m.load t) k p (l.single u t n r))

    -- the number is no longer held
    pub removed_gone : held n (m.load (m.removed u t n)) ≡ false
    removed_gone = sym (held_perm (without n (m.load t)) (m.load (m.removed u t n)) n (l.loses u t n r h)) ∙ gone n (m.load t) (l.single u t n r)

    -- any other is held as before
    pub removed_others : (k : ℕ) → (n ≡ k → ⊥) → held k (m.load (m.removed u t n)) ≡ held k (m.load t)
    removed_others k apart = sym (held_perm (without n (m.load t)) (m.load (m.removed u t n)) k (l.loses u t n r h)) ∙ others n k (m.load t) apart

  -- a remove by its answer: where it was done the load loses just that stop, and else nothing changes
  pub remove_cases : Laws m → Reached m u t → (r : Result (Unit {0}) Refusal) (w : Standing) → coded r ≡ remove_answer m t n → w ≡ after r (m.removed u t n) t → MatchResult r (λ _. (held n (m.load t) ≡ true) × (w ≡ m.removed u t n) × Perm (m.load w) (without n (m.load t))) (λ _. w ≡ t)
  remove_cases l h (Ok x) w c e =
      let d = remove_done x c in
      (d, e, subst (λ (z : Standing). Perm (m.load z) (without n (m.load t))) (sym e) (Perm.symm (l.loses u t n h d)))
  remove_cases l h (Err x) w c e = e
