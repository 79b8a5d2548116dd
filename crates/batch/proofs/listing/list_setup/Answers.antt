use Rattle.std.proofs.Common.{codes, vec_items}
use Rattle.std.proofs.lemmas.Result.{err_from_is_err_and}
use Rattle.text.proofs.Growing.{both_added, first_refused}
use Rattle.batch.specs.Listing.{section, slot_line, van_line}
use Rattle.batch.proofs.listing.list_setup.Goals as goal

pub returns-in_err-list_section : goal.returns-in_err-list_section
returns-in_err-list_section c =
    let p = err_from_is_err_and c.from_residual.result c.from_residual.ensures.1 in
    let slots = section (codes "slots ") slot_line (vec_items c.args.sheet.now.slots) in
    rw (p.1, p.2) (first_refused slots (section (codes "vans ") van_line (vec_items c.args.sheet.now.vans)) c.args.text.now c.list_section.new.text c.in_err-list_section.field-0.0 (rw c.slots.ensures at c.in_err-list_section.ensures))

pub returns : goal.returns
returns c =
    let slots = section (codes "slots ") slot_line (vec_items c.args.sheet.now.slots) in
    both_added slots (section (codes "vans ") van_line (vec_items c.args.sheet.now.vans)) c.args.text.now c.list_section.new.text tt c.list_section-2.result c.list_section-2.new.text (rw c.slots.ensures at c.in_ok-list_section.ensures) (rw c.vans.ensures at c.list_section-2.ensures)
