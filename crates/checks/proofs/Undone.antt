-- A place that is undone by a remove, on any lawful fleet.
use Rattle.std.proofs.Common.{◌≡◌, ℕ, false, eqb, List, ◌∷◌, None, Ok, Err, Result, sym, refl, ap, ◌∙◌, subst}
use mathlib.Core.List.Perm
use mathlib.Core.List.{Perm}
use Rattle.std.proofs.lemmas.Bool.{cond-true, eq-eqb}
use Rattle.stops.specs.declared.refusal.Refusal.{Refusal}
use Rattle.stops.specs.declared.stop.Stop.{Stop}
use Rattle.stops.specs.Refusals.{coded}
use Rattle.fleet.specs.Laws.{Laws, Reached, place}
use Rattle.fleet.specs.Loads.{Load, held, without}
use Rattle.fleet.specs.Meaning.{Meaning, place_answer, remove_answer, after}
use Rattle.fleet.proofs.Calls.{place_done, place_reached, placed_load, placed_held, remove_held, remove_steps, remove_reached, removed_load}
use Rattle.checks.specs.Trials.{Tried}

-- the first stop under a number, when it goes
without_first : (n : ℕ) (s : Stop) (l : Load) → without n ((n, s) ∷ l) ≡ l
without_first n s l = cond-true (eqb n n) l ((n, s) ∷ without n l) (eq-eqb n n refl)

module _ {Setup Standing : Type 0} (m : Meaning Setup Standing) (laws : Laws m) (u : Setup) (t : Standing) (n : ℕ) (s : Stop) (r : Reached m u t) where
  -- a remove after a place that was done leaves the load that was, up to order
  same_load : held n (m.load t) ≡ false → m.objection u t s ≡ None → Perm (m.load (m.removed u (m.placed u t n s) n)) (m.load t)
  same_load h o =
      subst (λ (l : Load). Perm (m.load (m.removed u (m.placed u t n s) n)) l) (without_first n s (m.load t))
      (removed_load m u (m.placed u t n s) n laws (place r h o) (placed_held m u t n s laws r h o) ((n, s) ∷ m.load t) (placed_load m u t n s laws r h o (m.load t) (Perm.refl (m.load t))))

  -- and it is done
  removed_again : (x : Standing) → held n (m.load t) ≡ false → m.objection u t s ≡ None → x ≡ m.placed u t n s → Ok tt ≡ remove_answer m x n
  removed_again x h o e = remove_held m u x n (ap (λ (z : Standing). held n (m.load z)) e ∙ placed_held m u t n s laws r h o)

  module _ (a : Result (Unit {0}) Refusal) (v : Setup) (x : Standing) (e : v ≡ u) (c : coded a ≡ place_answer m u t n s) (p : x ≡ after a (m.placed u t n s) t) where
    -- the place was done, and then the remove
    pub tried_done : a ≡ Ok tt → (b : Result (Unit {0}) Refusal) (w : Setup) (y : Standing) → w ≡ v → coded b ≡ remove_answer m x n → y ≡ after b (m.removed v x n) x → Tried m u t n s a w y
    tried_done i b w y f d q =
        let done = place_done m u t n s tt (sym (ap coded i) ∙ c) in
        let placed : x ≡ m.placed u t n s = p ∙ ap (λ (z : Result (Unit {0}) Refusal). after z (m.placed u t n s) t) i in
        let gone : y ≡ m.removed u (m.placed u t n s) n =
        remove_steps m v x n b y d q ∙ (ap (λ (z : Result (Unit {0}) (ℕ × List ℕ)). after z (m.removed v x n) x) (sym (removed_again x done.0 done.1 placed)) ∙ (ap (λ (z : Setup). m.removed z x n) e ∙ ap (λ (z : Standing). m.removed u z n) placed)) in
        let reached : Reached m w y = remove_reached m v x n b w y f d q (place_reached m u t n s a v x e c p r) in
        record {
          stands = gone ∙ sym (ap (λ (z : Result (Unit {0}) Refusal). after z (m.removed u (m.placed u t n s) n) t) i);
          same = subst (λ (z : Standing). Perm (m.load z) (m.load t)) (sym gone) (same_load done.0 done.1);
          reached = reached;
          kept = laws.keeps w y reached;
        }

    -- the place was refused
    pub tried_refused : (z : Refusal) → a ≡ Err z → Tried m u t n s a v x
    tried_refused z i =
        let stays : x ≡ t = p ∙ ap (λ (k : Result (Unit {0}) Refusal). after k (m.placed u t n s) t) i in
        let reached : Reached m v x = place_reached m u t n s a v x e c p r in
        record {
          stands = stays ∙ sym (ap (λ (k : Result (Unit {0}) Refusal). after k (m.removed u (m.placed u t n s) n) t) i);
          same = subst (λ (k : Standing). Perm (m.load k) (m.load t)) (sym stays) (Perm.refl (m.load t));
          reached = reached;
          kept = laws.keeps v x reached;
        }
