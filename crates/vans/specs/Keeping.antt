-- What place and remove keep: lawful rounds, and the load but for one stop.
use Rattle.std.specs.Prelude.{◌≡◌, ℕ, zero, suc, ◌<◌, Bool, true, false, cond, ◌||◌, List, [], ◌∷◌, ◌++◌, length, Some, None, Decides, Option, ◌==◌, ◌≢◌, refl}
use mathlib.Core.List.Memᴰ
use mathlib.Core.List.Perm
use mathlib.Core.List.{Perm, Memᴰ, mem-cons_self}
use Rattle.std.proofs.Math.Logic.{∥∥₁_elim}
use Rattle.std.proofs.Common.{⊎_elim, sym, ap, subst, ◌∙◌, arith}
use Rattle.std.proofs.lemmas.Bool.Decides.{Decides-eqb}
use Rattle.std.proofs.lemmas.List.{map-append}
use Rattle.stops.specs.declared.stop.Stop.{Stop}
use Rattle.fleet.specs.Loads.{Load, held, stops_of, without}
use Rattle.std.proofs.lemmas.Bool.{or_parts}
use Rattle.vans.specs.declared.van.Van.{Van}
use Rattle.vans.specs.Cheapest.{Choice, Cheapest, Fits}
use Rattle.vans.specs.Chosen.{chosen}
use Rattle.vans.specs.Fleets.{cleared, taken_from, with_stop}
use Rattle.vans.specs.Rounds.{Lawful}
use Rattle.vans.specs.Rule.{LawfulRounds, Rule, bare_rounds, load_of, together}
use Rattle.vans.specs.RoundFacts.{lawful_without}
use Rattle.vans.specs.Uniqueness.{chosen_cheapest}
use Rattle.vans.specs.Dealing.{placed_lawful, placed_gains, split_mem}

-- what is known of a choice
at_choice : (vs : List Van) (rs : List Load) (s : Stop) (c : Choice) → chosen vs rs s ≡ Some c → Fits vs rs s c.at.van c.at.position
at_choice vs rs s c e = (subst (λ (o : Option Choice). Cheapest vs rs s o) e (chosen_cheapest vs rs s)).fits

pub place_keeps : (vs : List Van) (rs : List Load) (n : ℕ) (s : Stop) → LawfulRounds vs (bare_rounds rs) → LawfulRounds vs (bare_rounds (with_stop rs (chosen vs rs s) n s))
place_keeps vs rs n s k = go (chosen vs rs s) (chosen_cheapest vs rs s)
  where
    go : (o : Option Choice) → Cheapest vs rs s o → LawfulRounds vs (bare_rounds (with_stop rs o n s))
    go None h = k
    go (Some c) h = placed_lawful vs rs c.at.van c.at.position (n, s) k h.fits

fits_round : (vs : List Van) (rs : List Load) (s : Stop) (w k : ℕ) → Fits vs rs s w k → w < length rs
fits_round [] [] s w k f = absurd f
fits_round [] (r ∷ rs) s w k f = absurd f
fits_round (v ∷ vs) [] s w k f = absurd f
fits_round (v ∷ vs) (r ∷ rs) s zero k f = omega arith
fits_round (v ∷ vs) (r ∷ rs) s (suc w) k f = omega (arith, fits_round vs rs s w k f)

pub place_gains : (vs : List Van) (rs : List Load) (n : ℕ) (s : Stop) (c : Choice) → chosen vs rs s ≡ Some c → Perm (load_of (with_stop rs (Some c) n s)) ((n, s) ∷ load_of rs)
place_gains vs rs n s c e = placed_gains rs c.at.van c.at.position (n, s) (fits_round vs rs s c.at.van c.at.position (at_choice vs rs s c e))

-- a held number's visit in its round
Split : ℕ → Load → Load → Type 0
Split n l t = (k : Load) × (s : Stop) × (m : Load) × (l ≡ k ++ (n, s) ∷ m) × (t ≡ k ++ m)

split_step : (n : ℕ) (x : ℕ × Stop) (l : Load) (b : Bool) → Decides b (x.0 ≡ n) → (b || held n l) ≡ true → (held n l ≡ true → Split n l (without n l)) → Split n (x ∷ l) (cond b l (x ∷ without n l))
unfolding Split
split_step n x l true d q f = ([], x.1, l, ap (λ z. (z, x.1) ∷ l) (d.0 refl), refl)
split_step n x l false d q f = let r = f q in (x ∷ r.0, r.1, r.2, ap (λ (y : Load). x ∷ y) r.3, ap (λ (y : Load). x ∷ y) r.4)

split_held : (n : ℕ) (l : Load) → held n l ≡ true → Split n l (without n l)
split_held n [] h = absurd (let z : ◌≡◌ {A = ℕ} 0 1 = cc in omega arith)
split_held n (x ∷ l) h = split_step n x l (x.0 == n) (Decides-eqb x.0 n) h (λ q. split_held n l q)

lawful_taken : (v : Van) (n : ℕ) (r : Load) → held n r ≡ true → Lawful v (stops_of r) → Lawful v (stops_of (without n r))
unfolding Split
lawful_taken v n r h w =
    let p = split_held n r h in
    let f : ℕ × Stop → Stop = λ (x : ℕ × Stop). x.1 in
    subst (Lawful v) (sym (ap stops_of p.4 ∙ map-append f p.0 p.2))
    (lawful_without v (stops_of p.0) p.1 (stops_of p.2) (subst (Lawful v) (ap stops_of p.3 ∙ map-append f p.0 ((n, p.1) ∷ p.2)) w))

keep_step : (v : Van) (vs : List Van) (n : ℕ) (r : Load) (rs : List Load) (b : Bool) → held n r ≡ b → LawfulRounds (v ∷ vs) (bare_rounds (r ∷ rs)) → LawfulRounds vs (bare_rounds (taken_from n rs)) → LawfulRounds (v ∷ vs) (bare_rounds (cond b (without n r ∷ rs) (r ∷ taken_from n rs)))
keep_step v vs n r rs true e k f = (lawful_taken v n r e k.0, k.1)
keep_step v vs n r rs false e k f = (k.0, f)

pub remove_keeps : (vs : List Van) (rs : List Load) (n : ℕ) → LawfulRounds vs (bare_rounds rs) → LawfulRounds vs (bare_rounds (taken_from n rs))
remove_keeps [] [] n k = k
remove_keeps [] (r ∷ rs) n k = absurd k
remove_keeps (v ∷ vs) [] n k = absurd k
remove_keeps (v ∷ vs) (r ∷ rs) n k = keep_step v vs n r rs (held n r) refl k (remove_keeps vs rs n k.1)

-- a load loses what its round loses
without_front : (n : ℕ) (k l : Load) → held n k ≡ true → without n (k ++ l) ≡ without n k ++ l
without_front n [] l h = absurd (let z : ◌≡◌ {A = ℕ} 0 1 = cc in omega arith)
without_front n (x ∷ k) l h =
    elim (x.0 == n) as (λ b. (b || held n k) ≡ true → cond b (k ++ l) (x ∷ without n (k ++ l)) ≡ cond b k (x ∷ without n k) ++ l)
    [ true ↦ λ _. refl | false ↦ λ q. ap (λ (m : Load). x ∷ m) (without_front n k l q) ] h

without_rest : (n : ℕ) (k l : Load) → held n k ≡ false → without n (k ++ l) ≡ k ++ without n l
without_rest n [] l h = refl
without_rest n (x ∷ k) l h =
    let q = or_parts (x.0 == n) (held n k) h in
    ap (λ b. cond b (k ++ l) (x ∷ without n (k ++ l))) q.0 ∙ ap (λ (m : Load). x ∷ m) (without_rest n k l q.1)

loses_step : (n : ℕ) (r : Load) (rs : List Load) (b : Bool) → held n r ≡ b → without n (load_of rs) ≡ load_of (taken_from n rs) → without n (r ++ load_of rs) ≡ load_of (cond b (without n r ∷ rs) (r ∷ taken_from n rs))
loses_step n r rs true e f = without_front n r (load_of rs) e
loses_step n r rs false e f = without_rest n r (load_of rs) e ∙ ap (λ (m : Load). r ++ m) f

pub remove_loses : (n : ℕ) (rs : List Load) → without n (load_of rs) ≡ load_of (taken_from n rs)
remove_loses n [] = refl
remove_loses n (r ∷ rs) = loses_step n r rs (held n r) refl (remove_loses n rs)

stops_together : (rs : List Load) → stops_of (together rs) ≡ together (bare_rounds rs)
stops_together [] = refl
stops_together (r ∷ rs) = map-append (λ (x : ℕ × Stop). x.1) r (together rs) ∙ ap (λ (l : List Stop). stops_of r ++ l) (stops_together rs)

pub keeps : (vs : List Van) (rs : List Load) → LawfulRounds vs (bare_rounds rs) → Rule vs (stops_of (load_of rs))
keeps vs rs k = ∣ (bare_rounds rs, k, subst (λ (l : List Stop). Perm (together (bare_rounds rs)) l) (sym (stops_together rs)) (Perm.refl (together (bare_rounds rs)))) ∣₁

only_front : (v : Van) (k l : List Stop) → Lawful v (k ++ l) → Lawful v l
only_front v [] l w = w
only_front v (x ∷ k) l w = only_front v k l (lawful_without v [] x (k ++ l) w)

only : (v : Van) (s : Stop) (l : List Stop) → Lawful v (s ∷ l) → Lawful v (s ∷ [])
only v s [] w = w
only v s (x ∷ l) w = only v s l (lawful_without v (s ∷ []) x l w)

single : (v : Van) (p : List Stop) (s : Stop) → Memᴰ s p → Lawful v p → Lawful v (s ∷ [])
single v p s m w = let r = split_mem p m in only v s r.1 (only_front v r.0 (s ∷ r.1) (subst (Lawful v) r.2 w))

place_alone : (vs : List Van) (ps : List (List Stop)) (s : Stop) → LawfulRounds vs ps → Memᴰ s (together ps) → (w : ℕ) × Fits vs (cleared vs) s w zero
place_alone [] [] s k m = absurd (Memᴰ.not-nil m)
place_alone [] (p ∷ ps) s k m = absurd k
place_alone (v ∷ vs) [] s k m = absurd k
place_alone (v ∷ vs) (p ∷ ps) s k m =
    ⊎_elim (λ h. (zero, (omega arith, single v p s h k.0))) (λ t. let r = place_alone vs ps s k.1 t in (suc r.0, r.1)) (Memᴰ.append_cases p m)

pub alone : (vs : List Van) (s : Stop) → Rule vs (s ∷ []) → chosen vs (cleared vs) s ≢ None
alone vs s r e =
    let c : Cheapest vs (cleared vs) s None = subst (λ (o : Option Choice). Cheapest vs (cleared vs) s o) e (chosen_cheapest vs (cleared vs) s) in
    ∥∥₁_elim r (λ x. absurd x) (λ w. ∥∥₁_elim ((Perm.mem_iff w.2).1 mem-cons_self) (λ x. absurd x) (λ m.
    let f = place_alone vs w.0 s w.1 m in c f.0 zero f.1))
