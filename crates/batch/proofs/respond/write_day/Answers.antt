use Rattle.std.proofs.Common.{◌+◌, ◌++◌, length, drop, vec_items, ap, ◌∙◌, append_assoc, arith, length-append, length-drop}
use Rattle.std.specs.List.{flat_map}
use Rattle.text.specs.Buffers.{content}
use Rattle.text.specs.Parts.{lines}
use Rattle.batch.specs.Heard.{heard}
use Rattle.batch.specs.Listing.{listing}
use Rattle.batch.proofs.Responses.{lines_few, listing_short}
use Rattle.batch.proofs.respond.write_day.Goals as goal

pub returns-in_err-list_setup : goal.returns-in_err-list_setup
returns-in_err-list_setup c =
    absurd (omega (arith, c.in_err-list_setup.ensures.1, listing_short c.args.sheet.now, ap length c.requires.blank, c.requires.room))

pub hear_all-requires : goal.hear_all-requires
hear_all-requires c =
    let wrote = c.in_ok-list_setup.ensures in
    let sheet = c.args.sheet.now in
    omega (arith, ap length wrote.0, length-append (content c.args.text.now) (listing (vec_items sheet.slots) (vec_items sheet.vans)), ap length c.requires.blank, wrote.1, listing_short sheet, lines_few c.args.input.now, length-drop (length c.slots.result.now + length c.vans.result.now) (lines c.args.input.now), c.requires.input, c.requires.room)

pub returns : goal.returns
returns c =
    let wrote = c.in_ok-list_setup.ensures in
    let sheet = c.args.sheet.now in
    let behind = flat_map heard (drop (length (vec_items sheet.slots) + length (vec_items sheet.vans)) (lines c.args.input.now)) in
    let said = rw (c.slots.ensures, c.vans.ensures) at c.hear_all.ensures in
    (said.0, said.1 ∙ ap (λ t. t ++ behind) wrote.0 ∙ append_assoc (content c.args.text.now) (listing (vec_items sheet.slots) (vec_items sheet.vans)) behind, said.2 ∙ wrote.1)
