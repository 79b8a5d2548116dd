-- A fleet stays in step with the history: its load is what the open and confirmed numbers hold.
use Rattle.std.proofs.Common.{◌≡◌, ℕ, zero, suc, ◌+◌, true, false, List, [], ◌∷◌, ◌++◌, length, Some, None, sym, refl, ap, ◌∙◌, subst, arith}
use mathlib.Core.List.Perm
use mathlib.Core.List.{Perm}
use Rattle.stops.specs.declared.slot.Slot.{Slot}
use Rattle.stops.specs.declared.stop.Stop.{Stop}
use Rattle.queue.specs.declared.due.Due.{Due}
use Rattle.fleet.specs.Loads.{Load, held}
use Rattle.fleet.specs.Meaning.{Meaning}
use Rattle.fleet.specs.Laws.{Laws, Reached, start, place, remove}
use Rattle.fleet.proofs.Calls.{placed_load, removed_load}
use Rattle.fleet.specs.Held.{held_perm}
use Rattle.calls.specs.declared.record.Record.{Record}
use Rattle.calls.specs.declared.state.State.{State}
use Rattle.calls.specs.declared.state.State.TheVariants.{Open, Lapsed}
use Rattle.calls.specs.Histories.{next_number}
use Rattle.calls.specs.Lapses.{due, lapses}
use Rattle.calls.specs.Records.{held_from, holding, mark, mark_of, state_at, state_of}
use Rattle.calls.specs.Steps.{Goes, Leave}
use Rattle.calls.specs.Views.{taken, taken_all}
use Rattle.calls.proofs.Loads.{front_back, held_at, held_push, held_same, held_without, unheld}
use Rattle.calls.proofs.Marks.{FirstDue, Split, due_split, lapses_mark, placed_at}

module _ {Setup Standing : Type 0} (m : Meaning Setup Standing) (laws : Laws m) (table : List Slot) (u : Setup) where
  -- the standing is one that calls lead to, and the load is what the records hold
  pub record Sound (rs : List Record) (t : Standing) : Type 0 where
    pub reached : Reached m u t
    pub linked : Perm (m.load t) (held_from 1 rs)

  pub begun_sound : Sound [] (m.cleared u)
  begun_sound = record { reached = start; linked = subst (λ (l : Load). Perm l []) (sym (laws.empty u)) (Perm.refl []) }

  module _ (rs : List Record) (t : Standing) (ok : Sound rs t) where
    -- the next number is not held
    pub next_free : held (next_number rs) (m.load t) ≡ false
    next_free = held_perm (m.load t) (held_from 1 rs) (next_number rs) ok.linked ∙ unheld (next_number rs) 1 rs (omega arith)

    -- a number that is open or confirmed is held
    pub there_at : (n i : ℕ) (s : State) → n ≡ 1 + i → state_at rs i ≡ Some s → holding s ≡ true → held n (m.load t) ≡ true
    there_at n i s k e h = held_perm (m.load t) (held_from 1 rs) n ok.linked ∙ ap (λ j. held j (held_from 1 rs)) k ∙ held_at 1 i rs s e h

    go_at : (n i : ℕ) (s s' : State) (v : Standing) → n ≡ 1 + i → state_at rs i ≡ Some s → holding s' ≡ false → Goes m table u n t v → Sound (mark rs i s') v
    go_at n i s s' v k e h g = subst (λ (x : Standing). Sound (mark rs i s') x) (sym g.removed) (record {
      reached = remove ok.reached g.there;
      linked = subst (λ (l : Load). Perm (m.load (m.removed u t n)) l) (held_without n 1 rs i s' k (placed_at rs i s e) h) (removed_load m u t n laws ok.reached g.there (held_from 1 rs) ok.linked);
    })

    stay_at : (i : ℕ) (s s' : State) → state_at rs i ≡ Some s → holding s ≡ holding s' → Sound (mark rs i s') t
    stay_at i s s' e h = record { reached = ok.reached; linked = subst (λ (l : Load). Perm (m.load t) l) (sym (held_same 1 rs i s s' e h)) ok.linked }

  -- the stop of a number goes, and its state no longer holds it
  pub go_sound : (rs : List Record) (t v : Standing) (n : ℕ) (s s' : State) → Sound rs t → state_of rs n ≡ Some s → holding s' ≡ false → Goes m table u n t v → Sound (mark_of rs n s') v
  go_sound rs t v zero s s' ok e h g = cc
  go_sound rs t v (suc i) s s' ok e h g = go_at rs t ok (suc i) i s s' v (omega arith) e h g

  -- the state of a number changes, and still holds its stop
  pub stay_sound : (rs : List Record) (t : Standing) (n : ℕ) (s s' : State) → Sound rs t → state_of rs n ≡ Some s → holding s ≡ holding s' → Sound (mark_of rs n s') t
  stay_sound rs t zero s s' ok e h = cc
  stay_sound rs t (suc i) s s' ok e h = stay_at rs t ok i s s' e h

  pub there : (rs : List Record) (t : Standing) (n : ℕ) (s : State) → Sound rs t → state_of rs n ≡ Some s → holding s ≡ true → held n (m.load t) ≡ true
  there rs t zero s ok e h = cc
  there rs t (suc i) s ok e h = grind (arith, there_at)

  -- a stop comes under the next number
  pub come_sound : (rs : List Record) (t : Standing) (s : Stop) (st : State) → Sound rs t → holding st ≡ true → m.objection u t s ≡ None → Sound (rs ++ record { stop = s; state = st } ∷ []) (m.placed u t (next_number rs) s)
  come_sound rs t s st ok h open-to =
      let n : 1 + length rs ≡ next_number rs = omega arith in
      let r : Record = record { stop = s; state = st } in
      let free = next_free rs t ok in
      let w : held_from 1 (rs ++ r ∷ []) ≡ held_from 1 rs ++ (next_number rs, s) ∷ [] = held_push 1 rs r h ∙ ap (λ k. held_from 1 rs ++ (k, s) ∷ []) n in
      record {
        reached = place ok.reached free open-to;
        linked = subst (λ (l : Load). Perm (m.load (m.placed u t (next_number rs) s)) l) (sym w) (Perm.trans (placed_load m u t (next_number rs) s laws ok.reached free open-to (held_from 1 rs) ok.linked) (front_back (held_from 1 rs) (next_number rs, s)));
      }

  -- to take a number that is held is to remove it
  pub take_held : (t : Standing) (n : ℕ) → held n (m.load t) ≡ true → taken m u t n ≡ m.removed u t n
  take_held t n h = grind arith

  module _ (c : ℕ) where
    -- the first due number is held
    first_there : (x : Due) (l : List Due) (rs : List Record) (t : Standing) → FirstDue c 1 rs x l → Sound rs t → held x.number (m.load t) ≡ true
    first_there x l rs t f ok = grind (arith, there_at)

    -- and goes
    first_gone : (x : Due) (l : List Due) (rs : List Record) (t : Standing) → FirstDue c 1 rs x l → (f : held x.number (m.load t) ≡ true) → Sound rs t → (place : ℕ) → x.number ≡ 1 + place → state_at rs place ≡ Some (Open x.deadline) → Sound (mark rs place (Lapsed x.deadline)) (m.removed u t x.number)
    first_gone x l rs t f h ok i k o = go_at rs t ok x.number i (Open x.deadline) (Lapsed x.deadline) (m.removed u t x.number) k o refl (record { there = h; removed = refl })

    -- the due numbers leave one by one
    leave_from : (l : List Due) (rs : List Record) (t v : Standing) → due c rs ≡ l → Leave m table u l t v → Sound rs t → Sound (lapses c rs) v
    leave_from [] rs t v e g ok = grind (arith, due_split)
    leave_from (x ∷ l) rs t v e g ok =
        let f : FirstDue c 1 rs x l = subst (λ l. Split c 1 rs l) e (due_split c 1 rs) in
        subst (λ (y : List Record). Sound y v) (lapses_mark c rs f.place x.deadline f.opened f.come)
        (leave_from l (mark rs f.place (Lapsed x.deadline)) (m.removed u t x.number) v f.rest g.1 (first_gone x l rs t f g.0 ok f.place f.number f.opened))

    pub leave_sound : (rs : List Record) (t v : Standing) → Leave m table u (due c rs) t v → Sound rs t → Sound (lapses c rs) v
    leave_sound rs t v g ok = leave_from (due c rs) rs t v refl g ok

    -- each is held, so to take it where it is held is to remove it
    taken_from : (l : List Due) (rs : List Record) (t : Standing) → due c rs ≡ l → Sound rs t → Leave m table u l t (taken_all m u t l)
    taken_from [] rs t e ok = refl
    taken_from (x ∷ l) rs t e ok = grind (arith, due_split, first_there, first_gone, taken_from l)

    pub lapse_leaves : (rs : List Record) (t : Standing) → Sound rs t → Leave m table u (due c rs) t (taken_all m u t (due c rs))
    lapse_leaves rs t ok = taken_from (due c rs) rs t refl ok
