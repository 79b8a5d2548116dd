-- The laws of a layer, from those of the fleet below and those of its own rule.
use Rattle.std.specs.Prelude.{◌≡◌, ℕ, ◌+◌, ◌<◌, Bool, true, false, cond, [], ◌∷◌, Some, None, Option, refl}
use Rattle.std.proofs.Common.{⊎_elim, ap, ◌∙◌, arith}
use Rattle.std.proofs.lemmas.Bool.{cases_Bool, cond-true, cond-false}
use Rattle.stops.specs.declared.stop.Stop.{Stop}
use Rattle.fleet.specs.Loads.{stops_of}
use Rattle.fleet.specs.Meaning.{Meaning}
use Rattle.fleet.specs.Laws.{Reached, Laws, start, place, remove}
use Rattle.fleet.specs.Layers.{Own, OwnLaws, layered, deeper, up, Objects, LayerTheorem}
use Rattle.fleet.specs.Lawful.{Core, laws_from}

-- a layer that does not object: neither does its own rule nor the fleet below
both_admit : (b : Bool) (o : Option ℕ) → cond b (deeper o) (Some 0) ≡ None → (b ≡ true) × (o ≡ None)
both_admit true None e = (refl, refl)
both_admit true (Some d) e = let z : ◌≡◌ {A = ℕ} 0 1 = cc in absurd (omega arith)
both_admit false o e = let z : ◌≡◌ {A = ℕ} 0 1 = cc in absurd (omega arith)

raised : (d : ℕ) → d < 255 → up d ≡ d + 1
raised d h = omega arith

module _ {Figures Setup Standing : Type 0} (o : Own Figures) (m : Meaning Setup Standing) (ol : OwnLaws o) (ml : Laws m) where
  admitted : (u : Figures × Setup) (t : Standing) (s : Stop) → (layered o m).objection u t s ≡ None → (o.admits u.0 (stops_of (m.load t)) s ≡ true) × (m.objection u.1 t s ≡ None)
  admitted u t s e = both_admit (o.admits u.0 (stops_of (m.load t)) s) (m.objection u.1 t s) e

  reached_below : (u : Figures × Setup) (t : Standing) → Reached (layered o m) u t → Reached m u.1 t
  reached_below u _ start = start
  reached_below u _ (place {t} {n} {s} r h e) = place (reached_below u t r) h (admitted u t s e).1
  reached_below u _ (remove {t} {n} r h) = remove (reached_below u t r) h

  core : Core (layered o m)
  core = record {
    empty = λ u. ml.empty u.1;
    gains = λ u t n s r h e. ml.gains u.1 t n s (reached_below u t r) h (admitted u t s e).1;
    loses = λ u t n r h. ml.loses u.1 t n (reached_below u t r) h;
    nothing = λ u. (ol.nothing u.0, rw (ml.empty u.1) at (ml.keeps u.1 (m.cleared u.1) start));
    blind = λ u a b h k. (ol.blind u.0 a b h k.0, ml.blind u.1 a b h k.1);
    fewer = λ u s l k. (ol.fewer u.0 s l k.0, ml.fewer u.1 s l k.1);
    admits = λ u t s r k e. (ol.sound u.0 (stops_of (m.load t)) s k.0 (admitted u t s e).0, ml.admits u.1 t s (reached_below u t r) (admitted u t s e).1);
    alone = λ u t s r n k.
        let a : o.admits u.0 (stops_of (m.load t)) s ≡ true = rw n (ol.exact u.0 [] s k.0) in
        let b = (ml.alone u.1 t s (reached_below u t r) n).0 k.1 in
        rw (a, b);
    visits = λ u t n s y r o h. ml.visits u.1 t n s y (reached_below u t r) h;
    strays = λ u t n y r h. ml.strays u.1 t n y (reached_below u t r) h;
  }

  pub layered_laws : Laws (layered o m)
  layered_laws = laws_from (layered o m) core

  module _ (u : Figures × Setup) (t : Standing) (s : Stop) where
    -- where the own rule is kept, the objection below decides
    from_below : o.keeps u.0 (s ∷ stops_of (m.load t)) → (x : Option ℕ) → m.objection u.1 t s ≡ x → (layered o m).objection u t s ≡ deeper x
    from_below k x e = cond-true (o.admits u.0 (stops_of (m.load t)) s) (deeper (m.objection u.1 t s)) (Some 0) (ol.exact u.0 (stops_of (m.load t)) s k) ∙ ap deeper e

    objects : Reached (layered o m) u t → Objects o m u t s
    objects r = record {
      broken = λ b. cond-false (o.admits u.0 (stops_of (m.load t)) s) (deeper (m.objection u.1 t s)) (Some 0)
          (⊎_elim (λ e. absurd (b (ol.sound u.0 (stops_of (m.load t)) s (layered_laws.keeps u t r).0 e))) (λ e. e) (cases_Bool (o.admits u.0 (stops_of (m.load t)) s)));
      admitted = λ k e. from_below k None e;
      raised = λ k d h e. from_below k (Some d) e ∙ ap Some (raised d h);
      deepest = λ k e. from_below k (Some 255) e;
    }

  pub layer_theorem : LayerTheorem o m
  layer_theorem = record {
    objects = objects;
    implies = λ u l k. k.1;
    below = reached_below;
  }
