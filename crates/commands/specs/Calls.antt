-- What a command line asks for, and how a call is written as a line.
use Rattle.std.specs.Prelude.{◌≡◌, ℕ, ◌+◌, ◌<◌, cond, List, [], ◌∷◌, length, ℤ, Some, None, Ok, Err, codes, decimal, Option, Result, nat_lt}
use Rattle.std.specs.Int.Signed.{mag}
use Rattle.std.specs.Fmt.{signed_decimal}
use Rattle.calls.specs.declared.call.Action.{Action}
use Rattle.calls.specs.declared.call.Action.TheVariants as act
use Rattle.calls.specs.declared.call.Call.{Call}
use Rattle.calls.specs.declared.call.Request.{Request}
use Rattle.stops.specs.declared.refusal.Refusal.{Refusal}
use Rattle.stops.specs.Classes.{letter}
use Rattle.stops.specs.Refusals.{and_then, coded}
use Rattle.text.specs.Parts.{fields}
use Rattle.text.specs.Spaced.{spaced, spaced_line}
use Rattle.commands.specs.declared.line.verb.Verb.{Verb}
use Rattle.commands.specs.declared.line.verb.Verb.TheVariants as verb
use Rattle.commands.specs.Entries.{counted}
use Rattle.commands.specs.Limits.{line_bytes}
use Rattle.commands.specs.Values.{class_at, letter_of, number_at, signed_at}
use Rattle.commands.specs.Verbs.{arity, verb_of}

-- class, slot, x, y and units, in the fields 2 to 6
abbrev pub request_of : List (List ℕ) → Result Request (ℕ × List ℕ)
request_of fs =
    and_then (class_at fs 2) (λ class. and_then (number_at fs 3) (λ slot. and_then (signed_at fs 4) (λ x. and_then (signed_at fs 5) (λ y. and_then (number_at fs 6) (λ units.
    Ok (record { class = class; slot = slot; x = x; y = y; units = units }))))))

-- what stands behind letter and minute
abbrev pub action_of : List (List ℕ) → Verb → Result Action (ℕ × List ℕ)
action_of fs verb.Offer = and_then (request_of fs) (λ q. Ok (act.Offer q))
action_of fs verb.Book = and_then (request_of fs) (λ q. Ok (act.Book q))
action_of fs verb.Confirm = and_then (number_at fs 2) (λ n. Ok (act.Confirm n))
action_of fs verb.Release = and_then (number_at fs 2) (λ n. Ok (act.Release n))
action_of fs verb.Withdraw = and_then (number_at fs 2) (λ n. Ok (act.Withdraw n))
action_of fs verb.Tick = Ok act.Tick

-- 11 for an unknown letter, 12 for the count of fields, then 13 at the first bad field, from the minute on
abbrev pub call_of : List (List ℕ) → Option Verb → Result Call (ℕ × List ℕ)
call_of fs None = Err (11, [])
call_of fs (Some v) = counted (arity v) fs (and_then (number_at fs 1) (λ minute. and_then (action_of fs v) (λ action. Ok (record { minute = minute; action = action }))))

-- 14 for more than 80 bytes comes first
abbrev pub command : List ℕ → Result Call (ℕ × List ℕ)
command line = cond (nat_lt line_bytes (length line)) (Err (14, [])) (call_of (fields line) (verb_of (letter_of (fields line))))

-- ---- how a call is written
abbrev pub asked : ℕ → Request → List (List ℕ)
asked minute q = decimal minute ∷ (letter q.class ∷ (decimal q.slot ∷ (signed_decimal q.x ∷ (signed_decimal q.y ∷ (decimal q.units ∷ [])))))

abbrev pub named : ℕ → ℕ → List (List ℕ)
named minute number = decimal minute ∷ (decimal number ∷ [])

-- what stands behind the letter
abbrev pub words : ℕ → Action → List (List ℕ)
words minute (act.Offer q) = asked minute q
words minute (act.Book q) = asked minute q
words minute (act.Confirm n) = named minute n
words minute (act.Release n) = named minute n
words minute (act.Withdraw n) = named minute n
words minute act.Tick = decimal minute ∷ []

abbrev pub action_letter : Action → List ℕ
action_letter (act.Offer q) = codes "O"
action_letter (act.Book q) = codes "B"
action_letter (act.Confirm n) = codes "C"
action_letter (act.Release n) = codes "G"
action_letter (act.Withdraw n) = codes "W"
action_letter act.Tick = codes "T"

-- the letter, the minute, and what the call names
abbrev pub call_text : Call → List ℕ
call_text c = spaced (action_letter c.action) (words c.minute c.action)

-- the same with byte 10 at its end
abbrev pub call_line : Call → List ℕ
call_line c = spaced_line (action_letter c.action) (words c.minute c.action)

-- ---- calls whose numbers have at most six figures
abbrev pub Few : ℕ → Type 0
Few n = n < 1000000

abbrev pub FewZ : ℤ → Type 0
FewZ z = mag z + 1 < 1000000

abbrev pub Plain : Action → Type 0
Plain (act.Offer q) = Few q.slot × FewZ q.x × FewZ q.y × Few q.units
Plain (act.Book q) = Few q.slot × FewZ q.x × FewZ q.y × Few q.units
Plain (act.Confirm n) = Few n
Plain (act.Release n) = Few n
Plain (act.Withdraw n) = Few n
Plain act.Tick = Unit {0}

-- A line that is a call, as it is written, is read as that call.
abbrev pub ReadBack : List ℕ → Result Call Refusal → Type 0
ReadBack line r = (c : Call) → Few c.minute → Plain c.action → line ≡ call_text c → coded r ≡ Ok c
