-- The laws of a fleet that holds its load in a list, from those of its admission rule.
use Rattle.std.specs.Prelude.{◌≡◌, ℕ, Bool, true, false, cond, [], ◌∷◌, ◌++◌, Some, None, Option, ◌==◌, refl}
use mathlib.Core.List.Perm
use mathlib.Core.List.{perm_append_singleton}
use Rattle.std.specs.List.{remove}
use Rattle.std.proofs.Common.{subst, ap, ◌∙◌, arith}
use Rattle.std.proofs.lemmas.Bool.{or_parts, false_from_ne_true, cond-true, cond-false, eq-eqb, false≢true}
use Rattle.stops.specs.declared.stop.Stop.{Stop}
use Rattle.fleet.specs.Laws.{Laws}
use Rattle.fleet.specs.Layers.{Own, OwnLaws}
use Rattle.fleet.specs.Loads.{First, Load, held, stops_of, without}
use Rattle.fleet.specs.Lawful.{laws_from}
use Rattle.areas.specs.HeldLoads.{load_holding, HoldingTheorem}

no_objection : (b : Bool) → cond {A = Option ℕ} b None (Some 0) ≡ None → b ≡ true
no_objection true e = refl
no_objection false e = let z : ◌≡◌ {A = ℕ} 0 1 = cc in absurd (omega arith)

-- the test of the list that is held
pub tested : {Figures : Type 0} (o : Own Figures) (u : Figures) (s : Stop) (k l : Load) (b : Bool) → k ≡ l → b ≡ o.admits u (stops_of k) s → b ≡ o.admits u (stops_of l) s
tested o u s k l b e f = f ∙ ap (λ (x : Load). o.admits u (stops_of x) s) e

-- the stop at the position that was found is taken out
pub taken_out : (n : ℕ) (k l out : Load) (i : ℕ) → k ≡ l → First n k i → out ≡ remove l i → (held n l ≡ true) × (out ≡ without n l)
taken_out n k l out i e f g = let first = subst (λ (x : Load). First n x i) e f in (first.there, g ∙ first.rest)

-- what was added at the end is taken out again
restored : (n : ℕ) (s : Stop) (l : Load) → held n l ≡ false → without n (l ++ (n, s) ∷ []) ≡ l
restored n s [] h = cond-true (n == n) [] ((n, s) ∷ []) (eq-eqb n n refl)
restored n s (p ∷ l) h =
    let q = or_parts (p.0 == n) (held n l) h in
    cond-false (p.0 == n) (l ++ (n, s) ∷ []) (p ∷ without n (l ++ (n, s) ∷ [])) q.0 ∙ ap (λ (k : Load). p ∷ k) (restored n s l q.1)

module _ {Figures : Type 0} (o : Own Figures) (ol : OwnLaws o) where
  admitted : (u : Figures) (t : Load) (s : Stop) → o.keeps u (s ∷ stops_of t) → (load_holding o).objection u t s ≡ None
  admitted u t s k = cond-true (o.admits u (stops_of t) s) None (Some 0) (ol.exact u (stops_of t) s k)

  pub holding_laws : Laws (load_holding o)
  holding_laws = laws_from (load_holding o) (record {
    empty = λ u. refl;
    nothing = ol.nothing;
    gains = λ u t n s r h e. Perm.symm (perm_append_singleton (n, s) t);
    loses = λ u t n r h. Perm.refl (without n t);
    blind = ol.blind;
    fewer = ol.fewer;
    admits = λ u t s r k e. ol.sound u (stops_of t) s k (no_objection (o.admits u (stops_of t) s) e);
    alone = λ u t s r e k. admitted u t s (rw e k);
    visits = λ u t n s y r h m. absurd (false≢true y);
    strays = λ u t n y r h. refl;
  })

  pub holding_theorem : HoldingTheorem o
  holding_theorem = record {
    admitted = λ u t s r k. admitted u t s k;
    objected = λ u t s r b.
        cond-false (o.admits u (stops_of t) s) None (Some 0)
        (false_from_ne_true (o.admits u (stops_of t) s) (λ e. b (ol.sound u (stops_of t) s (holding_laws.keeps u t r) e)));
    restored = λ u t n s h. restored n s t h;
  }
