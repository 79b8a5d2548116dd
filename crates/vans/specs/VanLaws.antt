-- A van fleet is a lawful fleet.
use Rattle.std.specs.Prelude.{◌≡◌, ℕ, List, [], ◌∷◌, ◌++◌, Some, None, Option, ◌≢◌, refl}
use mathlib.Core.List.Perm
use mathlib.Core.List.{Perm}
use Rattle.std.proofs.Common.{ap, subst, ◌∙◌, arith}
use Rattle.stops.specs.declared.stop.Stop.{Stop}
use Rattle.fleet.specs.Laws.{Laws, Reached, place, remove, start}
use Rattle.fleet.specs.Loads.{Load, stops_of, without}
use Rattle.fleet.specs.Orders.{map_perm}
use Rattle.fleet.specs.Lawful.{Core, laws_from}
use Rattle.vans.specs.declared.van.Van.{Van}
use Rattle.vans.specs.Cheapest.{Choice}
use Rattle.vans.specs.Chosen.{chosen}
use Rattle.vans.specs.Fleets.{cleared, with_stop}
use Rattle.vans.specs.Meaning.{objection_of, van_meaning}
use Rattle.vans.specs.Rule.{LawfulRounds, Rule, bare_rounds, load_of}
use Rattle.vans.specs.RoundFacts.{lawful_none}
use Rattle.vans.specs.Dealing.{rule_blind, rule_fewer, rule_empty}
use Rattle.vans.specs.Keeping.{place_keeps, place_gains, remove_keeps, remove_loses, keeps, alone}
use Rattle.vans.specs.Visiting.{visited, not_visited}

cleared_empty : (vs : List Van) → load_of (cleared vs) ≡ []
cleared_empty [] = refl
cleared_empty (v ∷ vs) = cleared_empty vs

cleared_lawful : (vs : List Van) → LawfulRounds vs (bare_rounds (cleared vs))
cleared_lawful [] = tt
cleared_lawful (v ∷ vs) = (lawful_none v, cleared_lawful vs)

reached_lawful : (vs : List Van) {rs : List Load} → Reached van_meaning vs rs → LawfulRounds vs (bare_rounds rs)
reached_lawful vs start = cleared_lawful vs
reached_lawful vs (place {t} {n} {s} r h e) = place_keeps vs t n s (reached_lawful vs r)
reached_lawful vs (remove {t} {n} r h) = remove_keeps vs t n (reached_lawful vs r)

-- rounds that hold nothing are those of a cleared fleet
no_stops : (r : Load) (l : Load) → r ++ l ≡ [] → (r ≡ []) × (l ≡ [])
no_stops [] l e = (refl, e)
no_stops (x ∷ r) l e = let z : ◌≡◌ {A = ℕ} 0 1 = cc in absurd (omega arith)

nothing_cleared : (vs : List Van) (rs : List Load) → LawfulRounds vs (bare_rounds rs) → load_of rs ≡ [] → rs ≡ cleared vs
nothing_cleared [] [] k e = refl
nothing_cleared [] (r ∷ rs) k e = absurd k
nothing_cleared (v ∷ vs) [] k e = absurd k
nothing_cleared (v ∷ vs) (r ∷ rs) k e =
    let p = no_stops r (load_of rs) e in
    ap (λ (q : Load). q ∷ rs) p.0 ∙ ap (λ (q : List Load). [] ∷ q) (nothing_cleared vs rs k.1 p.1)

-- without an objection there is a choice
some_choice : (P : Option Choice → Type 0) (o : Option Choice) → objection_of o ≡ None → ((c : Choice) → o ≡ Some c → P (Some c)) → P o
some_choice P None e f = absurd (let z : ◌≡◌ {A = ℕ} 0 1 = cc in omega arith)
some_choice P (Some c) e f = f c refl

no_objection : (o : Option Choice) → (o ≢ None) → objection_of o ≡ None
no_objection None f = absurd (f refl)
no_objection (Some c) f = refl

gains : (vs : List Van) (rs : List Load) (n : ℕ) (s : Stop) → objection_of (chosen vs rs s) ≡ None → Perm ((n, s) ∷ load_of rs) (load_of (with_stop rs (chosen vs rs s) n s))
gains vs rs n s e = some_choice (λ (o : Option Choice). Perm ((n, s) ∷ load_of rs) (load_of (with_stop rs o n s))) (chosen vs rs s) e (λ c q. Perm.symm (place_gains vs rs n s c q))

admits : (vs : List Van) (rs : List Load) (s : Stop) → LawfulRounds vs (bare_rounds rs) → objection_of (chosen vs rs s) ≡ None → Rule vs (s ∷ stops_of (load_of rs))
admits vs rs s k e =
    rule_blind vs (stops_of (load_of (with_stop rs (chosen vs rs s) 0 s))) (s ∷ stops_of (load_of rs))
    (Perm.symm (map_perm (λ (p : ℕ × Stop). p.1) ((0, s) ∷ load_of rs) (load_of (with_stop rs (chosen vs rs s) 0 s)) (gains vs rs 0 s e)))
    (keeps vs (with_stop rs (chosen vs rs s) 0 s) (place_keeps vs rs 0 s k))

van_core : Core van_meaning
van_core = record {
  empty = cleared_empty;
  gains = λ vs rs n s r h e. gains vs rs n s e;
  loses = λ vs rs n r h. subst (λ (l : Load). Perm (without n (load_of rs)) l) (remove_loses n rs) (Perm.refl (without n (load_of rs)));
  nothing = rule_empty;
  blind = rule_blind;
  fewer = rule_fewer;
  admits = λ vs rs s r k e. admits vs rs s (reached_lawful vs r) e;
  alone = λ vs rs s r n k. let c = nothing_cleared vs rs (reached_lawful vs r) n in rw c (no_objection (chosen vs (cleared vs) s) (alone vs s k));
  visits = λ vs rs n s y r o h. visited vs rs n s 0 (reached_lawful vs r) o h;
  strays = λ vs rs n y r h. not_visited vs rs n 0 h;
}

pub van_laws : Laws van_meaning
van_laws = laws_from van_meaning van_core
