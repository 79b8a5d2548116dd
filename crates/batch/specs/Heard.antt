-- What is written of a command line: the call as it was read, or the refusal.
use Rattle.std.specs.Prelude.{ℕ, cond, List, [], ◌∷◌, ◌++◌, Ok, Err, codes, decimal, Result, ◌==◌}
use Rattle.calls.specs.declared.call.Call.{Call}
use Rattle.commands.specs.Calls.{call_line, command}

-- refused R, with the depth of 7 and the field of 13
abbrev pub refusal_line : ℕ → List ℕ → List ℕ
refusal_line number [] = codes "refused " ++ (decimal number ++ 10 ∷ [])
refusal_line number (v ∷ vs) = codes "refused " ++ (decimal number ++ (cond (number == 7) (codes " depth ") (codes " field ") ++ (decimal v ++ 10 ∷ [])))

abbrev pub answer_line : Result Call (ℕ × List ℕ) → List ℕ
answer_line (Ok c) = call_line c
answer_line (Err e) = refusal_line e.0 e.1

abbrev pub heard : List ℕ → List ℕ
heard line = answer_line (command line)
