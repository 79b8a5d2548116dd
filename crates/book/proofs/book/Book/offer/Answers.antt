use Rattle.std.proofs.Common.{Ok, sym, ap, subst}
use Rattle.calls.specs.declared.answer.Answer.TheVariants.{Offered}
use Rattle.calls.specs.declared.call.Action.TheVariants.{Offer}
use Rattle.book.specs.declared.slip.Slip.{Slip}
use Rattle.book.specs.Books.{Does, call_at}
use Rattle.book.proofs.Carried.{made}
use Rattle.book.proofs.book.Book.offer.Goals as goal

pub returns-in-Ok : goal.returns-in-Ok
returns-in-Ok g c =
    let f = g.F.Fleet in
    let same = ap (λ (s : Slip). s.number) (sym c.live.ensures) in
    record {
      call = made f g.met.F.Fleet.lawful _ _ _ _
          (subst (λ n. Does f c.args.self.now (call_at c.args.minute (Offer c.args.request)) (Ok (Offered n c.in-Ok.held.until)) c.hold_at.new.self) same c.in-Ok.ensures);
      slip = let e = c.live.ensures in cc;
    }

pub returns-in-Err : goal.returns-in-Err
returns-in-Err g c = record { call = made g.F.Fleet g.met.F.Fleet.lawful _ _ _ _ c.in-Err.ensures; slip = c.none.ensures }
