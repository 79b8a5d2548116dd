-- Each held number has a visit within the slot of its stop.
use Rattle.std.specs.Prelude.{◌≡◌, ℕ, zero, suc, ◌+◌, ◌<◌, ◌≤◌, Bool, true, false, cond, List, [], ◌∷◌, ◌++◌, length, Some, None, Option, ◌==◌, slice_index_or, refl}
use mathlib.Core.List.Memᴰ
use mathlib.Core.List.{Mem, Memᴰ}
use Rattle.std.proofs.Math.Logic.{∥∥₁_elim}
use Rattle.std.proofs.Common.{⊎_elim, sym, ap, subst, ◌∙◌, arith}
use mathlib.Core.HLevel.{×_prop, ⊥_prop}
use Rattle.std.proofs.Math.Bridge.{le_prop}
use Rattle.std.proofs.lemmas.List.Sums.{sum_by-append}
use Rattle.std.proofs.lemmas.Bool.{cond-true, cond-false, eq-eqb}
use Rattle.stops.specs.declared.stop.Stop.{Stop}
use Rattle.fleet.specs.declared.visit.Visit.{Visit}
use Rattle.fleet.specs.Laws.{Within}
use Rattle.fleet.specs.Loads.{Load, held, index, stops_of, times}
use Rattle.fleet.specs.Held.{times_here, times_there, some_held, none_held, mem_times}
use Rattle.vans.specs.declared.van.Van.{Van}
use Rattle.vans.specs.Meaning.{begin_of, visit_from}
use Rattle.vans.specs.Rounds.{Lawful}
use Rattle.vans.specs.Rule.{LawfulRounds, bare_rounds, load_of}
use Rattle.vans.specs.Locating.{in_neither}
use Rattle.vans.specs.Begins.{begin_within}

within_prop : (s : Stop) (o : Option Visit) → IsProp (Within s o)
within_prop s None = ⊥_prop
within_prop s (Some v) = ×_prop le_prop le_prop

-- the stop under a number that stands once
Found : ℕ → Stop → Load → ℕ → Type 0
Found n s l i = (i < length (stops_of l)) × ((d : Stop) → slice_index_or (stops_of l) i d ≡ s)

found_step : (n : ℕ) (s : Stop) (p : ℕ × Stop) (l : Load) (b : Bool) → (p.0 == n) ≡ b → (b ≡ true → p.1 ≡ s) → (b ≡ false → Found n s l (index n l)) → Found n s (p ∷ l) (cond b zero (suc (index n l)))
unfolding Found
found_step n s p l true e f g = (omega arith, λ d. f refl)
found_step n s p l false e f g = let r = g refl in (omega (arith, r.0), r.1)

found : (n : ℕ) (s : Stop) (l : Load) → times n l ≤ 1 → Memᴰ (n, s) l → Found n s l (index n l)
found n s [] o m = absurd (Memᴰ.not-nil m)
found n s (p ∷ l) o (Memᴰ.head e) =
    found_step n s p l (p.0 == n) refl (λ _. sym (ap (λ (x : ℕ × Stop). x.1) e))
    (λ f. let t = eq-eqb p.0 n (sym (ap (λ (x : ℕ × Stop). x.0) e)) in let z : ◌≡◌ {A = ℕ} 0 1 = cc in absurd (omega arith))
found n s (p ∷ l) o (Memᴰ.tail m) =
    found_step n s p l (p.0 == n) refl
    (λ e. absurd (omega (arith, times_here p l n e, mem_times n s l m)))
    (λ e. found n s l (omega (arith, times_there p l n e)) m)

here : (v : Van) (r : Load) (n : ℕ) (s : Stop) → Lawful v (stops_of r) → times n r ≤ 1 → Memᴰ (n, s) r → (s.hours.opens ≤ begin_of v r n) × (begin_of v r n ≤ s.hours.closes)
unfolding Found
here v r n s w o m =
    let f = found n s r o m in
    subst (λ (x : Stop). (x.hours.opens ≤ begin_of v r n) × (begin_of v r n ≤ x.hours.closes)) (f.1 s) (begin_within v (stops_of r) (index n r) s f.0 w.timely)

times_append : (n : ℕ) (k l : Load) → times n (k ++ l) ≡ times n k + times n l
times_append n k l = sum_by-append (λ (p : ℕ × Stop). cond (p.0 == n) 1 0) k l

at : (vs : List Van) (rs : List Load) (n : ℕ) (s : Stop) (w : ℕ) → LawfulRounds vs (bare_rounds rs) → times n (load_of rs) ≤ 1 → Memᴰ (n, s) (load_of rs) → Within s (visit_from w vs rs n)
at [] [] n s w k o m = absurd (Memᴰ.not-nil m)
at [] (r ∷ rs) n s w k o m = absurd k
at (v ∷ vs) [] n s w k o m = absurd k
at (v ∷ vs) (r ∷ rs) n s w k o m =
    let t = times_append n r (load_of rs) in
    let here_is : Visit = record { van = w; minute = begin_of v r n } in
    ⊎_elim
    (λ x.
    let e = some_held n r (mem_times n s r x) in
    let u : times n r ≤ 1 = omega arith in
    subst (Within s) (sym (cond-true (held n r) (Some here_is) (visit_from (w + 1) vs rs n) e)) (here v r n s k.0 u x))
    (λ x.
    let g = mem_times n s (load_of rs) x in
    let e = none_held n r (omega arith) in
    let u : times n (load_of rs) ≤ 1 = omega arith in
    subst (Within s) (sym (cond-false (held n r) (Some here_is) (visit_from (w + 1) vs rs n) e)) (at vs rs n s (w + 1) k.1 u x))
    (Memᴰ.append_cases r m)

pub visited : (vs : List Van) (rs : List Load) (n : ℕ) (s : Stop) (w : ℕ) → LawfulRounds vs (bare_rounds rs) → times n (load_of rs) ≤ 1 → Mem (n, s) (load_of rs) → Within s (visit_from w vs rs n)
visited vs rs n s w k o m = ∥∥₁_elim m (within_prop s (visit_from w vs rs n)) (λ x. at vs rs n s w k o x)

pub not_visited : (vs : List Van) (rs : List Load) (n : ℕ) (w : ℕ) → held n (load_of rs) ≡ false → visit_from w vs rs n ≡ None
not_visited [] [] n w h = refl
not_visited [] (r ∷ rs) n w h = refl
not_visited (v ∷ vs) [] n w h = refl
not_visited (v ∷ vs) (r ∷ rs) n w h =
    let q = in_neither n r (load_of rs) h in
    cond-false (held n r) (Some (record { van = w; minute = begin_of v r n })) (visit_from (w + 1) vs rs n) q.0 ∙ not_visited vs rs n (w + 1) q.1
