-- The laws of a fleet, from the few that each kind shows for itself.
use Rattle.std.specs.Prelude.{◌≡◌, ℕ, ◌≤◌, true, false, List, [], ◌∷◌, None}
use mathlib.Core.List.Perm
use mathlib.Core.List.{Perm, Mem}
use Rattle.std.proofs.Common.{arith}
use Rattle.stops.specs.declared.stop.Stop.{Stop}
use Rattle.fleet.specs.Loads.{stops_of, times, held, without}
use Rattle.fleet.specs.Meaning.{Meaning}
use Rattle.fleet.specs.Laws.{Reached, Laws, Within, start, place, remove}
use Rattle.fleet.specs.Orders.{map_perm}
use Rattle.fleet.specs.Held.{times_perm, times_cons, taken, single_more}

-- What a kind of fleet shows for itself. Of what is reached it may use what is derived from the rest: each law is asked as weakly as it can be.
pub record Core {Setup Standing : Type 0} (m : Meaning Setup Standing) : Type 0 where
  -- clearing leaves an empty load, and that keeps the rule
  pub empty : (u : Setup) → m.load (m.cleared u) ≡ []
  pub nothing : (u : Setup) → m.rule u []
  -- place gains that stop, remove loses that stop
  pub gains : (u : Setup) (t : Standing) (n : ℕ) (s : Stop) → Reached m u t → held n (m.load t) ≡ false → m.objection u t s ≡ None → Perm ((n, s) ∷ m.load t) (m.load (m.placed u t n s))
  pub loses : (u : Setup) (t : Standing) (n : ℕ) → Reached m u t → held n (m.load t) ≡ true → Perm (without n (m.load t)) (m.load (m.removed u t n))
  -- the rule is blind to order, and fewer stops keep it
  pub blind : (u : Setup) (a b : List Stop) → Perm a b → m.rule u a → m.rule u b
  pub fewer : (u : Setup) (s : Stop) (l : List Stop) → m.rule u (s ∷ l) → m.rule u l
  -- a load that keeps the rule keeps it with a stop that is admitted
  pub admits : (u : Setup) (t : Standing) (s : Stop) → Reached m u t → m.rule u (stops_of (m.load t)) → m.objection u t s ≡ None → m.rule u (s ∷ stops_of (m.load t))
  -- an empty load admits each stop that keeps the rule alone
  pub alone : (u : Setup) (t : Standing) (s : Stop) → Reached m u t → m.load t ≡ [] → m.rule u (s ∷ []) → m.objection u t s ≡ None
  -- if routed: a visit within the slot for each number that is held, where none is held twice, and no visit for others
  pub visits : (u : Setup) (t : Standing) (n : ℕ) (s : Stop) → m.routed ≡ true → Reached m u t → times n (m.load t) ≤ 1 → Mem (n, s) (m.load t) → Within s (m.visit u t n)
  pub strays : (u : Setup) (t : Standing) (n : ℕ) → m.routed ≡ true → Reached m u t → held n (m.load t) ≡ false → m.visit u t n ≡ None

module _ {Setup Standing : Type 0} (m : Meaning Setup Standing) (c : Core m) (u : Setup) where
  -- the load before a remove: the stop that goes, and the load after
  parted : (t : Standing) (n : ℕ) → Reached m u t → held n (m.load t) ≡ true → (s : Stop) × Perm (m.load t) ((n, s) ∷ m.load (m.removed u t n))
  parted t n r h = let p = taken n (m.load t) h in (p.0, Perm.trans p.1 (Perm.cons (n, p.0) (c.loses u t n r h)))

  -- no number twice, from call to call
  single : (t : Standing) (n : ℕ) → Reached m u t → times n (m.load t) ≤ 1
  single _ n start = rw (c.empty u) (omega arith)
  single _ n (place {t} {n = k} {s} r h o) =
      omega (arith, times_perm ((k, s) ∷ m.load t) (m.load (m.placed u t k s)) n (c.gains u t k s r h o), single_more k s (m.load t) n h (single t n r))
  single _ n (remove {t} {n = k} r h) =
      let e = parted t k r h in
      omega (arith, times_perm (m.load t) ((k, e.0) ∷ m.load (m.removed u t k)) n e.1, times_cons (k, e.0) (m.load (m.removed u t k)) n, single t n r)

  -- the load keeps the rule, from call to call
  keeps : (t : Standing) → Reached m u t → m.rule u (stops_of (m.load t))
  keeps _ start = rw (c.empty u) (c.nothing u)
  keeps _ (place {t} {n = k} {s} r h o) =
      c.blind u (s ∷ stops_of (m.load t)) (stops_of (m.load (m.placed u t k s)))
      (map_perm (λ (p : ℕ × Stop). p.1) ((k, s) ∷ m.load t) (m.load (m.placed u t k s)) (c.gains u t k s r h o))
      (c.admits u t s r (keeps t r) o)
  keeps _ (remove {t} {n = k} r h) =
      let e = parted t k r h in
      c.fewer u e.0 (stops_of (m.load (m.removed u t k)))
      (c.blind u (stops_of (m.load t)) (e.0 ∷ stops_of (m.load (m.removed u t k)))
      (map_perm (λ (p : ℕ × Stop). p.1) (m.load t) ((k, e.0) ∷ m.load (m.removed u t k)) e.1) (keeps t r))

-- all laws
pub laws_from : {Setup Standing : Type 0} (m : Meaning Setup Standing) → Core m → Laws m
laws_from m c = record {
  empty = c.empty;
  gains = c.gains;
  loses = c.loses;
  single = λ u t n r. single m c u t n r;
  blind = c.blind;
  fewer = c.fewer;
  keeps = λ u t r. keeps m c u t r;
  admits = λ u t s r o. c.admits u t s r (keeps m c u t r) o;
  alone = λ u t s r n. (c.alone u t s r n, λ o. rw n at (c.admits u t s r (keeps m c u t r) o));
  visits = λ u t n s y r h. c.visits u t n s y r (single m c u t n r) h;
  strays = c.strays;
}
