-- The fields of a line are what the library's `split` gives.
use Rattle.std.proofs.Common.{◌≡◌, ℕ, Bool, false, cond, eqb, List, [], ◌∷◌, Bor, refl, ap, ◌∙◌}
use denote.Param.Members.{Mut}
use Rattle.std.specs.Fn.{CalledAt}
use Rattle.std.specs.List.{slice_split, onto_first}
use Rattle.std.specs.Slice.Iter.{split_steps, split_rest, split_done, split_callee}
use Rattle.std.proofs.lemmas.Iterator.{YieldsList}
use Rattle.std.proofs.lemmas.Iterator.Splits.{YieldsList-from_slice_split}
use Rattle.text.specs.Parts.{ahead, fields}

in_front : (c : ℕ) (ps : List (List ℕ)) → ahead c ps ≡ onto_first c ps
in_front c [] = refl
in_front c (p ∷ ps) = refl

pub fields_split : (line : List ℕ) → fields line ≡ slice_split (λ b. eqb b 32) line
fields_split [] = refl
fields_split (c ∷ cs) =
    ap (λ ps. cond (eqb c 32) ([] ∷ ps) (ahead c ps)) (fields_split cs) ∙ ap (cond (eqb c 32) ([] ∷ slice_split (λ b. eqb b 32) cs)) (in_front c (slice_split (λ b. eqb b 32) cs))

pub fields_given : {F : Type 0} {s : _} (g : Mut F (Bor ℕ × Unit {0}) Bool) {f : F} (line : List ℕ) → split_rest s ≡ line → split_done s ≡ false → split_callee s ≡ f
    → ((x : ℕ) (b : Bool) (q : F) → CalledAt g f x b q → (q ≡ f) × (b ≡ eqb x 32)) → YieldsList (split_steps g) (λ x. x.now) s (fields line)
fields_given g line r d c h = rw (fields_split line) (YieldsList-from_slice_split g (λ b. eqb b 32) line r d c h)
