use Rattle.std.proofs.Common.{refl}
use Rattle.std.proofs.lemmas.Result.{err_from_is_err_and}
use Rattle.checks.proofs.Undone.{tried_done, tried_refused}
use Rattle.checks.proofs.trial.try_out.Goals as goal

pub returns-in_err-place-clause-trial : goal.returns-in_err-place-clause-trial
returns-in_err-place-clause-trial g c =
    let e = err_from_is_err_and c.from_residual.result c.from_residual.ensures.1 in
    let p = c.in_err-place.ensures in
    rw (e.1, e.2) (λ r. tried_refused g.F.Fleet.meaning g.met.F.Fleet.lawful _ _ c.args.number c.args.stop.now r _ _ _ p.setup p.answer p.standing _ refl)

pub returns-clause-trial : goal.returns-clause-trial
returns-clause-trial g c =
    let p = c.in_ok-place.ensures in
    let q = c.remove.ensures in
    λ r. tried_done g.F.Fleet.meaning g.met.F.Fleet.lawful _ _ c.args.number c.args.stop.now r _ _ _ p.setup p.answer p.standing refl _ _ _ q.setup q.answer q.standing
