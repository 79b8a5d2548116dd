-- Dealing stops into rounds.
use Rattle.std.specs.Prelude.{◌≡◌, ℕ, zero, suc, ◌<◌, List, [], ◌∷◌, ◌++◌, length, take, drop, slice_index_or, slice_set, refl}
use mathlib.Core.List.Memᴰ
use mathlib.Core.List.Perm
use mathlib.Core.List.{Perm, perm_middle, Memᴰ, mem-cons_self}
use Rattle.std.proofs.Common.{⊎_elim, sym, ap, subst, arith}
use Rattle.std.proofs.Math.Logic.{∥∥₁_elim, ∥∥₁_prop, ∥∥₁_map}
use Rattle.std.specs.List.{insert}
use Rattle.std.proofs.lemmas.List.{take-append-drop}
use Rattle.stops.specs.declared.stop.Stop.{Stop}
use Rattle.fleet.specs.Loads.{Load}
use Rattle.vans.specs.declared.van.Van.{Van}
use Rattle.vans.specs.Cheapest.{Fits}
use Rattle.vans.specs.Rounds.{Lawful}
use Rattle.vans.specs.Rule.{LawfulRounds, Rule, bare_rounds, load_of, together}
use Rattle.vans.specs.RoundFacts.{lawful_without, lawful_none, stops_inserted}

pub rule_blind : (vs : List Van) (a b : List Stop) → Perm a b → Rule vs a → Rule vs b
rule_blind vs a b p h = ∥∥₁_map {B = (ps : List (List Stop)) × LawfulRounds vs ps × Perm (together ps) b} h (λ w. (w.0, w.1, Perm.trans w.2 p))

pub split_mem : {s : Stop} (p : List Stop) → Memᴰ s p → (k : List Stop) × (l : List Stop) × (p ≡ k ++ s ∷ l)
split_mem {s} [] m = elim m [ ]
split_mem (x ∷ p) (Memᴰ.head e) = ([], p, ap (λ (y : Stop). y ∷ p) (sym e))
split_mem (x ∷ p) (Memᴰ.tail m) = let r = split_mem p m in (x ∷ r.0, r.1, ap (λ (q : List Stop). x ∷ q) r.2)

-- one stop out of its round
Without : List Van → List (List Stop) → Stop → Type 0
Without vs ps s = (qs : List (List Stop)) × LawfulRounds vs qs × Perm (together ps) (s ∷ together qs)

here : (v : Van) (vs : List Van) (p : List Stop) (ps : List (List Stop)) (s : Stop) → LawfulRounds (v ∷ vs) (p ∷ ps) → Memᴰ s p → Without (v ∷ vs) (p ∷ ps) s
unfolding Without
here v vs p ps s k m =
    let r = split_mem p m in (
      (r.0 ++ r.1) ∷ ps,
      (lawful_without v r.0 s r.1 (subst (Lawful v) r.2 k.0), k.1),
      subst (λ (q : List Stop). Perm (q ++ together ps) (s ∷ ((r.0 ++ r.1) ++ together ps))) (sym r.2) (Perm.append_right (together ps) (perm_middle r.0 r.1)),
    )

there : (v : Van) (vs : List Van) (p : List Stop) (ps : List (List Stop)) (s : Stop) → LawfulRounds (v ∷ vs) (p ∷ ps) → Without vs ps s → Without (v ∷ vs) (p ∷ ps) s
unfolding Without
there v vs p ps s k w = (p ∷ w.0, (k.0, w.1), Perm.trans (Perm.append_left p w.2) (perm_middle p (together w.0)))

take_one : (vs : List Van) (ps : List (List Stop)) (s : Stop) → LawfulRounds vs ps → Memᴰ s (together ps) → Without vs ps s
take_one [] [] s k m = absurd (Memᴰ.not-nil m)
take_one [] (p ∷ ps) s k m = absurd k
take_one (v ∷ vs) [] s k m = absurd k
take_one (v ∷ vs) (p ∷ ps) s k m =
    ⊎_elim (λ h. here v vs p ps s k h) (λ t. there v vs p ps s k (take_one vs ps s k.1 t)) (Memᴰ.append_cases p m)

pub rule_fewer : (vs : List Van) (s : Stop) (l : List Stop) → Rule vs (s ∷ l) → Rule vs l
unfolding Without
rule_fewer vs s l h =
    ∥∥₁_elim h ∥∥₁_prop (λ w.
    ∥∥₁_elim ((Perm.mem_iff w.2).1 mem-cons_self) ∥∥₁_prop (λ m.
    let o = take_one vs w.0 s w.1 m in
    ∣ (o.0, o.1, Perm.cons_inv (Perm.trans (Perm.symm o.2) w.2)) ∣₁))

-- no stops
empties : List Van → List (List Stop)
empties [] = []
empties (v ∷ vs) = [] ∷ empties vs

empties_lawful : (vs : List Van) → LawfulRounds vs (empties vs)
unfolding empties
empties_lawful [] = tt
empties_lawful (v ∷ vs) = (lawful_none v, empties_lawful vs)

empties_none : (vs : List Van) → together (empties vs) ≡ []
unfolding empties
empties_none [] = refl
empties_none (v ∷ vs) = empties_none vs

pub rule_empty : (vs : List Van) → Rule vs []
rule_empty vs = ∣ (empties vs, empties_lawful vs, subst (λ (l : List Stop). Perm l []) (sym (empties_none vs)) (Perm.refl [])) ∣₁

-- a visit placed where it fits keeps the rounds lawful, and the load gains just it
pub placed_lawful : (vs : List Van) (rs : List Load) (w k : ℕ) (x : ℕ × Stop) → LawfulRounds vs (bare_rounds rs) → Fits vs rs x.1 w k → LawfulRounds vs (bare_rounds (slice_set rs w (insert (slice_index_or rs w []) k x)))
placed_lawful [] [] w k x h f = absurd f
placed_lawful [] (r ∷ rs) w k x h f = absurd f
placed_lawful (v ∷ vs) [] w k x h f = absurd f
placed_lawful (v ∷ vs) (r ∷ rs) zero k x h f = (subst (Lawful v) (sym (stops_inserted r k x)) f.1, h.1)
placed_lawful (v ∷ vs) (r ∷ rs) (suc w) k x h f = (h.0, placed_lawful vs rs w k x h.1 f)

pub placed_gains : (rs : List Load) (w k : ℕ) (x : ℕ × Stop) → w < length rs → Perm (load_of (slice_set rs w (insert (slice_index_or rs w []) k x))) (x ∷ load_of rs)
placed_gains [] w k x h = absurd (omega arith)
placed_gains (r ∷ rs) zero k x h =
    subst (λ (q : Load). Perm (insert r k x ++ load_of rs) (x ∷ (q ++ load_of rs))) (take-append-drop k r) (Perm.append_right (load_of rs) (perm_middle (take k r) (drop k r)))
placed_gains (r ∷ rs) (suc w) k x h = Perm.trans (Perm.append_left r (placed_gains rs w k x (omega arith))) (perm_middle r (load_of rs))
