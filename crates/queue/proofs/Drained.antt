-- Taking the least entry off until nothing is left: what was taken is in order, and it is all that was held.
use Rattle.std.proofs.Common.{◌≡◌, ℕ, ◌+◌, ◌<◌, ◌≤◌, List, [], ◌∷◌, ◌++◌, length, take, drop, set, Some, None, Ordering, sym, refl, ap, ◌∙◌, subst, append_assoc, append-nil, arith, length-append, length-take, take_at}
use mathlib.Core.Bool.{Bool-set}
use mathlib.Core.List.Perm
use mathlib.Core.List.{Perm}
use Rattle.std.specs.Cmp.{IsTotalOrder}
use Rattle.std.specs.List.{AllByRecursion}
use Rattle.std.proofs.ByRecursion.{All-push, All-weaker}
use Rattle.std.proofs.lemmas.List.{drop_at, nil_from_length, take_all, take_more_set}
use Rattle.std.specs.declared.cmp.Ord as Ord
use Rattle.std.specs.declared.cmp.PartialEq as PartialEq
use Rattle.std.specs.declared.cmp.PartialOrd as PartialOrd
use Rattle.queue.specs.declared.queue.Queue.{Queue}
use Rattle.queue.specs.Orders.{InOrder, Heaped, Least, NotAfter}
use Rattle.queue.specs.Queues.{entries, Taken, Sorted, Empty}
use Rattle.queue.proofs.Heaps.{none_heaped}
use Rattle.queue.proofs.Permuted.{all_perm, length_perm}

in_order_push : {X : Type 0} (L : X → X → Type 0) (done : List X) (x : X) → InOrder L done → AllByRecursion (λ d. L d x) done → InOrder L (done ++ x ∷ [])
in_order_push L [] x o h = (tt, tt)
in_order_push L (d ∷ done) x o h = (All-push (L d) done x o.0 h.0, in_order_push L done x o.1 h.1)

least_perm : {X : Type 0} {R : X → X → Ordering} (o : IsTotalOrder R) (x : X) (a b : List X) → Perm a b → Least o x a → Least o x b
least_perm o x a b p h = all_perm (NotAfter o x) (λ y. Bool-set _ _) a b p h

module _ {X : Type 0} {ord : Ord.Ghosts X} {equal : PartialEq.Ghosts X} {partial : PartialOrd.Ghosts X} (R : X → X → Ordering) where
  -- done was taken off p, and q is left
  pub record TakenOff (p : Queue X ord equal partial) (done : List X) (q : Queue X ord equal partial) : Type 0 where
    -- no entry is lost and none is added
    pub same : Perm (entries p) (done ++ entries q)
    pub room : q.room ≡ p.room
    -- what was taken is in order, and none of it comes after what is left
    pub ordered : (o : IsTotalOrder R) → Heaped o (entries p) → InOrder (NotAfter o) done × AllByRecursion (λ d. Least o d (entries q)) done × Heaped o (entries q)

  pub begun : (p : Queue X ord equal partial) → TakenOff p [] p
  begun p = record { same = Perm.refl (entries p); room = refl; ordered = λ o h. (tt, tt, h) }

  pub one_more : (p : Queue X ord equal partial) (done : List X) (q : Queue X ord equal partial) (x : X) (s : Queue X ord equal partial) → TakenOff p done q → Taken R q (Some x) s → TakenOff p (done ++ x ∷ []) s
  one_more p done q x s f t = record {
    same = subst (Perm (entries p)) (sym (append_assoc done (x ∷ []) (entries s))) (Perm.trans f.same (Perm.append_left done t.0));
    room = t.1 ∙ f.room;
    ordered = λ o h.
        let k = f.ordered o h in
        let over = All-weaker (λ d. Least o d (entries q)) (λ d. Least o d (x ∷ entries s)) (λ d. least_perm o d (entries q) (x ∷ entries s) t.0) done k.1 in (
          in_order_push (NotAfter o) done x k.0 (All-weaker _ (λ d. NotAfter o d x) (λ d a. a.0) done over),
          All-push _ done x (All-weaker _ (λ d. Least o d (entries s)) (λ d a. a.1) done over) (least_perm o x (entries q) (x ∷ entries s) t.0 (t.3 o k.2)).1,
          t.2 o k.2,
        );
  }

  pub ended : (p : Queue X ord equal partial) (done : List X) (q s : Queue X ord equal partial) → TakenOff p done q → Taken R q None s → Sorted R p done × Empty R p.room s
  ended p done q s f t =
      ((subst (Perm (entries p)) (ap (λ l. done ++ l) t.0 ∙ append-nil done) f.same, λ o h. (f.ordered o h).0), (t.1.0, t.1.1 ∙ f.room, t.1.2))

  -- the same, with what was taken in the first places of a list that has as many as there were entries
  module _ (p : Queue X ord equal partial) (places : List X) (k : ℕ) (q : Queue X ord equal partial) (enough : length places ≡ length (entries p)) (f : TakenOff p (take k places) q) where
    counted : length (take k places) + length (entries q) ≡ length (entries p)
    counted = omega (arith, length_perm (entries p) (take k places ++ entries q) f.same, length-append (take k places) (entries q))

    pub one_placed : (x : X) (s : Queue X ord equal partial) → k < length places → Taken R q (Some x) s → TakenOff p (take (k + 1) (set places k x)) s
    one_placed x s lt t = rw (take_more_set places k x lt) (one_more p (take k places) q x s f t)

    pub more_left : (s : Queue X ord equal partial) → k < length places → Taken R q None s → ⊥
    more_left s lt t = omega (arith, counted, length-take k places, ap length t.0)

    -- as the checker reads the list behind the loop, of which places are the first n
    pub all_placed : (old : List X) (n : ℕ) → length places ≡ n → length places ≤ k → (n ≡ length (entries p)) × Sorted R p (take n (places ++ drop n old)) × (drop n (places ++ drop n old) ≡ drop n old) × Empty R p.room q
    all_placed old n long end =
        let whole = take_all k places end in
        let none = nil_from_length (entries q) (omega (arith, counted, ap length whole)) in
        let all = ended p places q q (rw whole at f) (none, (none, refl, none_heaped (entries q) none)) in
        rw (take_at places (drop n old) n long, drop_at places (drop n old) n long) (omega arith, all.0, refl, all.1)
