-- What the calls of a queue of due entries come to.
use Rattle.std.proofs.Common.{◌≡◌, ℕ, leb, Some, None, Option, IfSome, Bor}
use Rattle.std.specs.Option.{option_map}
use Rattle.std.proofs.lemmas.Bool.{cond_both, leb-true, leb-false}
use Rattle.queue.specs.contracts.due.DueOrd.TheImpl as due-ord
use Rattle.queue.specs.declared.due.Due.{Due}
use Rattle.queue.specs.Entries.{by_due, DueQueue}
use Rattle.queue.specs.Deadlines.{if_due, FirstDue}
use Rattle.queue.specs.Orders.{FirstOf, Heaped}
use Rattle.queue.specs.Queues.{entries, front}
use Rattle.queue.proofs.TakenDue.{due_first, not_yet, nothing}

-- the first entry, if its deadline has come; else no deadline of them has
pub first_come : (minute : ℕ) (p : DueQueue) (r : Option (Bor Due)) → option_map (λ x. x.now) r ≡ front p → IfSome r (λ x. FirstOf (due-ord.ghosts).cmp x.now (entries p)) → Heaped by_due (entries p) → FirstDue minute (entries p) (if_due minute (front p))
first_come minute p None e f h = rw (← e) ((nothing minute (entries p) e).1 h)
first_come minute p (Some x) e f h =
    rw (← e) (cond_both (leb x.now.deadline minute) (Some x.now) None (FirstDue minute (entries p))
    (λ t. (leb-true x.now.deadline minute t, due_first x.now (entries p) f h))
    (λ t. (not_yet minute p x.now e (leb-false x.now.deadline minute t) f).1 h))
