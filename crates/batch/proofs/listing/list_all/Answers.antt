use Rattle.std.proofs.Common.{◌≡◌, ℕ, ◌+◌, ◌<◌, List, ◌∷◌, ◌++◌, length, get_or, drop, Err, sym, ap, ◌∙◌, subst, add-one}
use Rattle.std.proofs.lemmas.List.{drop_more, at_drop_all}
use Rattle.std.proofs.lemmas.Result.{err_from_is_err_and}
use Rattle.text.proofs.Growing.{Left, ended, next_added, next_refused, partly}
use Rattle.batch.specs.Listing.{numbered}
use Rattle.batch.proofs.listing.list_all.Goals as goal

-- what is left to list is a line and the lines behind it
at_item : {X : Type 0} (line : ℕ → X → List ℕ) (xs : List X) (n : ℕ) (x : X) → n < length xs → x ≡ get_or xs n x → numbered line n (drop n xs) ≡ line n x ++ numbered line (n + 1) (drop (n + 1) xs)
at_item line xs n x lt e = ap (numbered line n) (drop_more xs n x lt ∙ ap (λ y. y ∷ drop (n + 1) xs) (sym e)) ∙ ap (λ k. line n x ++ numbered line k (drop (n + 1) xs)) (sym (add-one n))

pub returns-in_err-list : goal.returns-in_err-list
returns-in_err-list g c =
    let p = err_from_is_err_and c.from_residual.result c.from_residual.ensures.1 in
    let n = c.loop-n.n in
    let item = c.index-items-n.result in
    let line = g.T.Listed.line n item in
    let step = at_item g.T.Listed.line c.args.items.now n item c.loop-n-test.true c.index-items-n.is in
    let refused = partly line c.loop-n.text (Err c.in_err-list.field-0.0) c.list.new.text c.in_err-list.ensures in
    rw (p.1, p.2) (next_refused c.args.text.now (numbered g.T.Listed.line 0 c.args.items.now) c.loop-n.text c.list.new.text line c.in_err-list.field-0.0 _ _ c.loop-n.invariant step refused)

pub loop-n-preserved : goal.loop-n-preserved
loop-n-preserved g c =
    let n = c.loop-n.n in
    let item = c.index-items-n.result in
    let step = at_item g.T.Listed.line c.args.items.now n item c.loop-n-test.true c.index-items-n.is in
    next_added c.args.text.now (numbered g.T.Listed.line 0 c.args.items.now) c.loop-n.text c.list.new.text (g.T.Listed.line n item) tt _ _ c.loop-n.invariant step c.in_ok-list.ensures

pub returns : goal.returns
returns g c =
    let n = c.loop-n.n in
    let items = c.args.items.now in
    let all = numbered g.T.Listed.line 0 items in
    ended c.args.text.now all c.loop-n.text tt (subst (λ (t : List ℕ). Left c.args.text.now all c.loop-n.text t) (at_drop_all (numbered g.T.Listed.line n) items n c.loop-n-test.false) c.loop-n.invariant)
