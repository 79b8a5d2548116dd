-- The lines of an input behind those at the front.
use Rattle.std.proofs.Common.{◌≡◌, ℕ, ◌+◌, List, [], ◌∷◌, ◌++◌, length, drop, Some, None, Option, Bor, sym, ap, ◌∙◌, subst, arith}
use Rattle.std.specs.Iterator.{Yields}
use Rattle.std.specs.Iterator.Adapters.{skip_count, skip_source, skip_steps}
use Rattle.std.specs.declared.iter.Skip.{Skip}
use Rattle.std.specs.List.{slice_get}
use Rattle.std.specs.Option.{option_map}
use Rattle.std.proofs.lemmas.Iterator.{YieldsList}
use Rattle.std.proofs.lemmas.Iterator.Adapters.{YieldsList-from_skip}
use Rattle.std.proofs.lemmas.Iterator.Consumers.{YieldsList-end, YieldsList-from_shown, YieldsList-turn}
use Rattle.std.proofs.lemmas.List.{drop_all, drop_more, length_push}
use Rattle.text.specs.declared.lines.Lines.{Lines}
use Rattle.text.specs.Lines.{lines_left}
use Rattle.commands.proofs.Sections.{first_is, none_left}

abbrev pub line : Bor (List ℕ) → List ℕ
line l = l.now

-- what a reader of lines gives
abbrev pub gives : Lines → Option (Bor (List ℕ)) → Lines → Type 0
gives s r t = (option_map (λ (x : Bor (List ℕ)). x.now) r ≡ slice_get (lines_left s) 0) × (lines_left t ≡ drop 1 (lines_left s))

given : (s : Lines) → YieldsList gives line s (lines_left s)
given s = YieldsList-from_shown gives line lines_left (λ s t h. ap length (none_left (lines_left s) h.0)) (λ s x t h. first_is (lines_left s) x.now h.0 ∙ ap (λ ls. x.now ∷ ls) (sym h.1)) s

pub behind : (s : Skip Lines) (l : Lines) (n : ℕ) (ls : List (List ℕ)) → skip_source s ≡ l → skip_count s ≡ n → lines_left l ≡ ls → YieldsList (skip_steps gives) line s (drop n ls)
behind s l n ls source count is = YieldsList-from_skip n (subst (YieldsList gives line (skip_source s)) (ap lines_left source ∙ is) (given (skip_source s))) count

-- the line that comes is the first of those left
pub next_behind : {s : Skip Lines} {ls : List (List ℕ)} (road : YieldsList (skip_steps gives) line s ls) (xs : List (Bor (List ℕ))) (t : Skip Lines) → Yields (skip_steps gives) s xs t → (r : Option (Bor (List ℕ))) (u : Skip Lines) (x : Bor (List ℕ)) → r ≡ Some x → skip_steps gives t r u → drop (length xs) ls ≡ x.now ∷ drop (length (xs ++ x ∷ [])) ls
next_behind {s} {ls} road xs t by r u x is steps =
    let turn = YieldsList-turn road xs t by r u x is steps in
    drop_more ls (length xs) x.now turn.0 ∙ ap (λ y. y ∷ drop (length xs + 1) ls) (sym turn.1) ∙ ap (λ k. x.now ∷ drop k ls) (sym (length_push xs x))

pub none_behind : {s : Skip Lines} {ls : List (List ℕ)} (road : YieldsList (skip_steps gives) line s ls) (xs : List (Bor (List ℕ))) (t : Skip Lines) → Yields (skip_steps gives) s xs t → (r : Option (Bor (List ℕ))) (u : Skip Lines) → r ≡ None → skip_steps gives t r u → drop (length xs) ls ≡ []
none_behind {s} {ls} road xs t by r u is steps = drop_all (length xs) ls (omega (arith, (YieldsList-end road xs t by r u is steps).1))
