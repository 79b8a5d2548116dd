-- A fleet with one round changed.
use Rattle.std.proofs.Common.{◌≡◌, ℕ, ◌<◌, List, [], length, get_or, set, vec_items, sym, ap, ◌∙◌}
use Rattle.std.proofs.lemmas.List.{map-set, get_or-map}
use Rattle.fleet.specs.Loads.{Load}
use Rattle.vans.specs.declared.round.Round.{Round}
use Rattle.vans.specs.Fleets.{rounds_in}

pub rounds_set : (g : Load → Load) (rs : List Round) (i : ℕ) (r q : Round) → i < length rs → r ≡ get_or rs i r → vec_items q.visits ≡ g (vec_items r.visits) → rounds_in (set rs i q) ≡ set (rounds_in rs) i (g (get_or (rounds_in rs) i []))
rounds_set g rs i r q h e v =
    let f : Round → Load = λ (x : Round). vec_items x.visits in
    map-set f rs i q ∙ ap (set (rounds_in rs) i) (v ∙ (ap (λ (x : Round). g (f x)) e ∙ ap g (sym (get_or-map f rs i r [] h))))

-- the round of the van at i
pub round_here : (rs : List Round) (i : ℕ) (r : Round) → i < length rs → r ≡ get_or rs i r → vec_items r.visits ≡ get_or (rounds_in rs) i []
round_here rs i r h e =
    let f : Round → Load = λ (x : Round). vec_items x.visits in
    ap f e ∙ sym (get_or-map f rs i r [] h)
