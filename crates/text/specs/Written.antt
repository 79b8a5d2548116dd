-- A writer that puts a whole text at the front of the caller's buffer, or nothing.
use Rattle.std.specs.Prelude.{◌≡◌, ℕ, ◌<◌, ◌≤◌, List, [], ◌++◌, length, drop, Ok, Err, Result}
use Rattle.stops.specs.declared.refusal.Refusal.{Refusal}
use Rattle.stops.specs.Refusals.{refused}

-- Done: the answer is the text's length, the text stands in front and the bytes behind it are as they were.
-- Refused with 18, exactly where the buffer is shorter than the text: the buffer is as it was.
abbrev pub Wrote : List ℕ → List ℕ → Result ℕ Refusal → List ℕ → Type 0
Wrote text old (Ok k) new = (k ≡ length text) × (k ≤ length old) × (new ≡ text ++ drop k old)
Wrote text old (Err e) new = (refused e ≡ (18, [])) × (length old < length text) × (new ≡ old)
