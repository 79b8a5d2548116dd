use Rattle.std.proofs.Common.{◌≡◌, ◌-◌, ◌<◌, ◌≤◌, false, List, length, set, Some, vec_items, sym, ap, ◌∙◌, arith}
use Rattle.std.specs.Option.{option_map}
use Rattle.queue.specs.declared.due.Due.{Due}
use Rattle.calls.specs.declared.record.Record.{Record}
use Rattle.offers.specs.Agendas.{awaited}
use Rattle.calls.specs.Records.{is_open, mark}
use Rattle.offers.proofs.Marks.{given, changed_closed, set_mark}
use Rattle.offers.proofs.Fitting.{known_mark, listed_mark, undue_mark}
use Rattle.offers.proofs.offers.Offers.change_given.Goals as goal
use Rattle.offers.proofs.offers.Offers.change_given.Goals.{In_ok-record, After-index_mut}

-- the number was given
there : (c : In_ok-record) → (1 ≤ c.args.number) × (c.args.number - 1 < length (vec_items c.args.self.now.records))
there c = given (vec_items c.args.self.now.records) c.args.number c.in_ok-record.record.state (ap (option_map (λ (r : Record). r.state)) (sym c.record.ensures ∙ c.in_ok-record.ensures.ok_part))

-- the one state made another
marked : (c : After-index_mut) → set (vec_items c.args.self.now.records) (c.args.number - 1) (record { stop = c.index_mut.result.now.stop; state = c.in_ok-state.state }) ≡ mark (vec_items c.args.self.now.records) (c.args.number - 1) c.in_ok-state.state
marked c = set_mark (vec_items c.args.self.now.records) (c.args.number - 1) c.index_mut.result.now c.in_ok-state.state c.index_mut.ensures.value (there (goal.at.After-index_mut c).In_ok-record).1

pub returns-clause-records : goal.returns-clause-records
returns-clause-records c = let w = marked (goal.at.returns-clause-records c).After-index_mut in grind (arith, w)

pub invariant_of-self : goal.invariant_of-self
invariant_of-self c =
    let o = c.args.self.now in
    let rs : List Record = vec_items o.records in
    let xs : List Due = awaited o.agenda in
    let s = c.in_ok-state.state in
    let i = c.args.number - 1 in
    let w = marked (goal.at.invariant_of-self c).After-index_mut in
    let closed : is_open (Some s) ≡ false = changed_closed c.args.change o.clock c.in_ok-record.record.state s c.in_ok-state.ensures in
    record {
      few = o.few;
      room = o.room;
      short = o.short;
      listed = listed_mark rs _ i s closed w xs o.listed;
      known = known_mark rs _ i s closed w xs o.known;
      undue = undue_mark rs _ i s closed w o.clock o.undue;
    }
