-- The search over the vans.
use Rattle.std.proofs.Common.{◌≡◌, ℕ, zero, suc, ◌+◌, ◌<◌, ◌≤◌, List, [], ◌∷◌, length, get_or, set, take, false, slice_index, vec_items, Some, Option, sym, refl, ap, ◌∙◌, zero-add, subst, ⊎_elim, inl, inr, arith}
use native.Mathlib.Decide.{dec_lt}
use Rattle.std.specs.List.{insert, remove}
use Rattle.std.specs.Option.{option_map}
use Rattle.std.proofs.lemmas.List.{length-map}
use Rattle.stops.specs.declared.stop.Stop.{Stop}
use Rattle.stops.specs.Places.{depot}
use Rattle.fleet.specs.Loads.{Load, First, held, without}
use Rattle.vans.specs.declared.choice.Insertion.{Insertion}
use Rattle.vans.specs.declared.round.Round.{Round}
use Rattle.vans.specs.Better.{Least, better, moved}
use Rattle.vans.specs.Cheapest.{Cheapest, Choice, Fits, added_at}
use Rattle.vans.specs.Fleets.{rounds_in, stops_in, vans_in}
use Rattle.vans.specs.Insertions.{Best}
use Rattle.vans.specs.Locating.{begin_here, found_in, found_visit, not_yet}
use Rattle.vans.specs.Locations.{HeldAt}
use Rattle.vans.specs.Meaning.{begin_of}
use Rattle.vans.specs.Rounds.{Lawful, added_travel, begins}
use Rattle.vans.specs.Rule.{load_of}
use Rattle.vans.specs.Least.{least_better, least_moved, least_same}
use Rattle.vans.proofs.OneRound.{round_here}
use Rattle.vans.specs.LeastChoice.{Before, Lawfully, cost, fits_van, least_cheapest}

-- the van at w, with its round
pub fits_here : (rs : List Round) (s : Stop) (w k : ℕ) (r : Round) → w < length rs → r ≡ get_or rs w r → Fits (vans_in rs) (rounds_in rs) s w k → (k ≤ length (stops_in r)) × Lawful r.van (insert (stops_in r) k s)
fits_here [] s w k r h e f = absurd f
fits_here (x ∷ rs) s zero k r h e f = subst (λ (y : Round). (k ≤ length (stops_in y)) × Lawful y.van (insert (stops_in y) k s)) (sym e) f
fits_here (x ∷ rs) s (suc w) k r h e f = fits_here rs s w k r (omega arith) e f

here_fits : (rs : List Round) (s : Stop) (w k : ℕ) (r : Round) → w < length rs → r ≡ get_or rs w r → k ≤ length (stops_in r) → Lawful r.van (insert (stops_in r) k s) → Fits (vans_in rs) (rounds_in rs) s w k
here_fits [] s w k r h e le f = absurd (omega arith)
here_fits (x ∷ rs) s zero k r h e le f = subst (λ (y : Round). (k ≤ length (stops_in y)) × Lawful y.van (insert (stops_in y) k s)) e (le, f)
here_fits (x ∷ rs) s (suc w) k r h e le f = here_fits rs s w k r (omega arith) e le f

added_here : (rs : List Round) (s : Stop) (w k : ℕ) (r : Round) → w < length rs → r ≡ get_or rs w r → added_at (vans_in rs) (rounds_in rs) s w k ≡ added_travel r.van (stops_in r) k s
added_here [] s w k r h e = absurd (omega arith)
added_here (x ∷ rs) s zero k r h e = ap (λ (y : Round). added_travel y.van (stops_in y) k s) (sym e)
added_here (x ∷ rs) s (suc w) k r h e = added_here rs s w k r (omega arith) e

-- the best position of one round is that of its van
of_round : (rs : List Round) (s : Stop) (w : ℕ) (r : Round) (b : Option (Insertion ℕ)) → w < length rs → r ≡ get_or rs w r → Best r.van (stops_in r) s b → Least (λ t. (t.van ≡ w) × Lawfully (vans_in rs) (rounds_in rs) s t) (cost (vans_in rs) (rounds_in rs) s) Before (option_map (moved (λ k. record { van = w; position = k })) b)
of_round rs s w r b h e x =
    let vs = vans_in rs in
    let ls = rounds_in rs in
    least_moved (λ k. record { van = w; position = k }) (λ k. (k ≤ length (stops_in r)) × Lawful r.van (insert (stops_in r) k s)) (λ k. added_travel r.van (stops_in r) k s) ◌<◌ (λ t. (t.van ≡ w) × Lawfully vs ls s t) (cost vs ls s) Before
    (λ k p. (refl, here_fits rs s w k r h e p.0 p.1))
    (λ t q. (t.position, fits_here rs s w t.position r h e (subst (λ n. Fits vs ls s n t.position) q.0 q.1), ap (λ n. record { van = n; position = t.position }) (sym q.0)))
    (λ k p. sym (added_here rs s w k r h e))
    (λ k j f. ⊎_elim (λ l. absurd (omega arith)) (λ m. m.1) f)
    b x

-- the first of the cheapest among the vans below n
abbrev pub LeastBelow : List Round → Stop → ℕ → Option Choice → Type 0
LeastBelow rs s n o = Least (λ t. (t.van < n) × Lawfully (vans_in rs) (rounds_in rs) s t) (cost (vans_in rs) (rounds_in rs) s) Before o

pub vans_more : (rs : List Round) (s : Stop) (w : ℕ) (r : Round) (o q : Option Choice) (b : Option (Insertion ℕ)) → w < length rs → r ≡ get_or rs w r → Best r.van (stops_in r) s b → q ≡ better o (option_map (moved (λ k. record { van = w; position = k })) b) → LeastBelow rs s w o → LeastBelow rs s (w + 1) q
vans_more rs s w r o q b h e x eq f =
    let vs = vans_in rs in
    let ls = rounds_in rs in
    let m = least_better (cost vs ls s) Before (λ t. (t.van < w) × Lawfully vs ls s t) (λ t. (t.van ≡ w) × Lawfully vs ls s t) (λ t. (t.van < w + 1) × Lawfully vs ls s t)
    (λ t p. elim (dec_lt t.van w) [ yes l ↦ inl (l, p.1) | no l ↦ inr (omega arith, p.1) ])
    (λ t p. (omega arith, p.1))
    (λ t p. (omega arith, p.1))
    (λ t u p y g. ⊎_elim (λ l. omega (arith, p.0, y.0)) (λ m. omega (arith, p.0, y.0, m.0)) g)
    o (option_map (moved (λ k. record { van = w; position = k })) b) f (of_round rs s w r b h e x) in
    subst (LeastBelow rs s (w + 1)) (sym eq) m

-- where no van is left
pub all_below : (rs : List Round) (s : Stop) (n : ℕ) (o : Option Choice) → length rs ≤ n → LeastBelow rs s n o → Cheapest (vans_in rs) (rounds_in rs) s o
all_below rs s n o h f =
    let vs = vans_in rs in
    let ls = rounds_in rs in
    least_cheapest vs ls s o
    (least_same (λ t. (t.van < n) × Lawfully vs ls s t) (Lawfully vs ls s) (cost vs ls s) Before (λ t p. p.1) (λ t p. (omega (arith, fits_van vs ls s t.van t.position p, length-map rs (λ (r : Round). r.van)), p)) o f)

-- a choice that was made
pub chosen_here : (rs : List Round) (s : Stop) (o : Option Choice) (b : Choice) → o ≡ Some b → Cheapest (vans_in rs) (rounds_in rs) s o → (b.at.van < length rs) × ((r : Round) → r ≡ get_or rs b.at.van r → (b.at.position ≤ length (stops_in r)) × Lawful r.van (insert (stops_in r) b.at.position s))
chosen_here rs s o b e h =
    let f = (subst (Cheapest (vans_in rs) (rounds_in rs) s) e h).fits in
    let n : b.at.van < length rs = omega (arith, fits_van (vans_in rs) (rounds_in rs) s b.at.van b.at.position f, length-map rs (λ (r : Round). r.van)) in
    (n, λ r is. fits_here rs s b.at.van b.at.position r n is f)

-- a number that a round holds, and none before it
pub found_at : (n : ℕ) (rs : List Round) (i k : ℕ) (r : Round) → i < length rs → r ≡ get_or rs i r → held n (load_of (take i (rounds_in rs))) ≡ false → First n (vec_items r.visits) k → HeldAt n (vans_in rs) (rounds_in rs) (record { van = i; position = k })
found_at n rs i k r h e before f =
    let m : i < length (rounds_in rs) = omega (arith, length-map rs (λ (r : Round). vec_items r.visits)) in
    let t = round_here rs i r h e in
    let g = found_in n (rounds_in rs) i m before (sym (ap (held n) t) ∙ f.there) in
    let b = ap (slice_index (begins r.van depot r.van.start (stops_in r))) (sym f.first) ∙ begin_here rs i k r h e in
    record {
      there = g.0;
      van = m;
      position = subst (λ (l : Load). k < length l) t f.within;
      rest = ap (set (rounds_in rs) i) (subst (λ (l : Load). remove l k ≡ without n l) t f.rest) ∙ g.1;
      visit = found_visit n rs i 0 r h e before f.there ∙ (ap (λ w. Some (record { van = w; minute = begin_of r.van (vec_items r.visits) n })) (zero-add i) ∙ ap (λ t. Some (record { van = i; minute = t })) b);
    }

-- nor that round
pub not_at : (n : ℕ) (rs : List Round) (i : ℕ) (r : Round) → i < length rs → r ≡ get_or rs i r → held n (load_of (take i (rounds_in rs))) ≡ false → held n (vec_items r.visits) ≡ false → held n (load_of (take (i + 1) (rounds_in rs))) ≡ false
not_at n rs i r h e before f =
    not_yet n (rounds_in rs) i (omega (arith, length-map rs (λ (r : Round). vec_items r.visits))) before (sym (ap (held n) (round_here rs i r h e)) ∙ f)
