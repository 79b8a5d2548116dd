use Rattle.std.proofs.Common.{◌≡◌, suc, ◌≤◌, true, List, ◌∷◌, length, vec_len, arith}
use mathlib.Core.List.{Perm}
use Rattle.queue.proofs.Permuted.{length_perm}
use Rattle.queue.specs.declared.due.Due.{Due}
use Rattle.offers.specs.Agendas.{awaited}
use Rattle.offers.specs.Queued.{fits, Undue}
use Rattle.calls.specs.Records.{state_of}
use Rattle.offers.specs.Tables.{rows}
use Rattle.offers.proofs.Dues.{lapse_laws}
use Rattle.offers.proofs.Fitting.{listed_skip, known_skip, first_fits}
use Rattle.offers.proofs.Turns.{first_taken, closed_after, lapsing_some, lapsing_none, none_undue, carried}
use Rattle.offers.proofs.offers.Offers.lapse_first.Goals as goal
use Rattle.offers.proofs.offers.Offers.lapse_first.Goals.{After-skip_first, In_default}

-- the first entry is off: that of the agenda after the change, and so of the one before
off : (c : After-skip_first) → Perm (awaited c.change_given-lapsed.new.self.agenda) (c.in-Some.first ∷ awaited c.skip_first.new.self) × Perm (awaited c.loop-first.self.agenda) (c.in-Some.first ∷ awaited c.skip_first.new.self)
off c = first_taken c.loop-first.self.agenda c.change_given-lapsed.new.self.agenda c.in-Some.first (awaited c.skip_first.new.self) c.args.minute c.in-Some.ensures.value c.change_given-lapsed.ensures.rest.1 c.skip_first.ensures

-- it fitted its record
fitted : (c : After-skip_first) → fits (state_of (rows c.loop-first.self) c.in-Some.first.number) c.in-Some.first.deadline ≡ true
fitted c = first_fits (rows c.loop-first.self) c.in-Some.first (awaited c.loop-first.self.agenda) (awaited c.skip_first.new.self) (off c).1 c.loop-first.self.known

pub invariant_of-self : goal.invariant_of-self
invariant_of-self c =
    let o = c.loop-first.self in
    let p = c.change_given-lapsed.new.self in
    let x : Due = c.in-Some.first in
    let xs : List Due = awaited p.agenda in
    let ys : List Due = awaited c.skip_first.new.self in
    let long : length xs ≡ suc (length ys) = length_perm xs (x ∷ ys) (off c).0 in
    let short : length ys ≤ vec_len p.records = omega (arith, long, p.short) in
    record { few = p.few; room = p.room; short = short; listed = listed_skip (rows p) x xs ys (off c).0 (closed_after (rows o) (rows p) x o.clock (fitted c) (rw c.from.ensures at c.change_given-lapsed.ensures.records)) p.listed; known = known_skip (rows p) x xs ys (off c).0 p.known; undue = p.undue }

pub returns-in-Ok : goal.returns-in-Ok
returns-in-Ok c =
    let o = c.loop-first.self in
    let p = c.change_given-lapsed.new.self in
    let first = c.in-Some.ensures.first in
    let step = lapsing_some (rows o) (rows p) c.in-Some.first o.clock (fitted (goal.at.returns-in-Ok c).After-skip_first) (rw c.from.ensures at c.change_given-lapsed.ensures.records) c.args.minute c.in-Ok.number (awaited o.agenda) (rw c.from.ensures at c.in-Ok.ensures.answer) o.listed first.1 first.0 in
    record {
      step = carried c.args.minute (rows o) (rows c.args.self.now) (rows p) o.clock c.args.self.now.clock p.clock c.in-Ok.number c.loop-first.invariant.0 c.loop-first.invariant.1 c.change_given-lapsed.ensures.rest.0 step;
      laws = lapse_laws c.args.minute (rows c.args.self.now);
    }

pub loop-first-smaller : goal.loop-first-smaller
loop-first-smaller c =
    let xs : List Due = awaited c.loop-first.self.agenda in
    let ys : List Due = awaited c.skip_first.new.self in
    let long : length xs ≡ suc (length ys) = length_perm xs (c.in-Some.first ∷ ys) (off (goal.at.loop-first-smaller c).After-skip_first).1 in
    let less : suc (length ys) ≤ length xs = omega (arith, long) in
    less

-- no entry is due, so no number is
spent : (c : In_default) → Undue c.args.minute (rows c.loop-first.self)
spent c = none_undue c.args.minute (rows c.loop-first.self) (awaited c.loop-first.self.agenda) c.loop-first.self.listed c.in_default.ensures.first

pub invariant_of-self-2 : goal.invariant_of-self-2
invariant_of-self-2 c =
    let o = c.loop-first.self in
    record { few = o.few; room = o.room; short = o.short; listed = o.listed; known = o.known; undue = spent (goal.at.invariant_of-self-2 c).In_default }

pub returns : goal.returns
returns c =
    record {
      step = lapsing_none c.args.minute (rows c.args.self.now) (rows c.loop-first.self) c.args.self.now.clock (spent (goal.at.returns c).In_default) c.loop-first.invariant.0;
      laws = lapse_laws c.args.minute (rows c.args.self.now);
    }
