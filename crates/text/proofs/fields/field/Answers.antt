use Rattle.std.proofs.Common.{◌≡◌, [], Some, None, Option, unwrap_or, refl, ap, ◌∙◌, rules, tests}
use Rattle.std.specs.Option.{option_map}
use Rattle.std.proofs.lemmas.Iterator.Consumers.{nth_from_yields_List}
use Rattle.std.proofs.lemmas.Option.{unwrap_or-slice_get}
use Rattle.text.specs.Parts.{fields}
use Rattle.text.proofs.Split.{fields_given}
use Rattle.text.proofs.fields.field.Goals as goal

read : {A B : Type 0} (f : A → B) (o : Option A) (d : A) → f (unwrap_or o d) ≡ unwrap_or (option_map f o) (f d)
read f (Some x) d = refl
read f None d = refl

pub returns : goal.returns
returns c =
    let line = c.args.line.now in
    let found = nth_from_yields_List c.nth.result _ _ c.nth.ensures.ran (fields_given _ line c.split.ensures.rest c.split.ensures.done c.split.ensures.closure (λ x b q k. search (rules, tests))) in
    ap (λ x. x.now) c.unwrap_or.ensures ∙ read (λ x. x.now) c.nth.result _ ∙ ap (λ o. unwrap_or o []) found ∙ unwrap_or-slice_get (fields line) c.args.index []
