-- A text that grows in reserved memory.
use Rattle.std.specs.Prelude.{◌≡◌, ℕ, ◌+◌, ◌<◌, List, [], ◌++◌, length, take, Ok, Err, vec_items, Result, IfOk}
use Rattle.std.specs.declared.alloc.AllocError.{AllocError}
use Rattle.stops.specs.declared.refusal.Refusal.{Refusal}
use Rattle.stops.specs.Refusals.{refused}
use Rattle.text.specs.declared.buffer.Buffer.{Buffer}

-- what a buffer holds
abbrev pub content : Buffer → List ℕ
content b = vec_items b.bytes

-- Done: the text stands behind what the buffer held.
-- Refused with 18, exactly where the room is too short for it: the buffer holds what it held. The room stays.
abbrev pub Added : List ℕ → Buffer → Result (Unit {0}) Refusal → Buffer → Type 0
Added text old (Ok u) new = (content new ≡ content old ++ text) × (new.room ≡ old.room)
Added text old (Err e) new = (refused e ≡ (18, [])) × (old.room < length (content old) + length text) × (content new ≡ content old) × (new.room ≡ old.room)

-- The same, but where it is refused a part of the text may stand behind what the buffer held.
abbrev pub Partly : List ℕ → Buffer → Result (Unit {0}) Refusal → Buffer → Type 0
Partly text old (Ok u) new = (content new ≡ content old ++ text) × (new.room ≡ old.room)
Partly text old (Err e) new = (refused e ≡ (18, [])) × (old.room < length (content old) + length text) × (take (length (content old)) (content new) ≡ content old) × (new.room ≡ old.room)

-- Reserved: a buffer that holds nothing, with this room. Else memory was wanting.
abbrev pub Reserved : ℕ → Result Buffer AllocError → Type 0
Reserved room r = IfOk r (λ b. (content b ≡ []) × (b.room ≡ room))
