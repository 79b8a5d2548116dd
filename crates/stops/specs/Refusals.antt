-- Refusals by number and values, as every contract that can refuse speaks of them.
use Rattle.std.specs.Prelude.{ℕ, List, [], ◌∷◌, ◌++◌, Some, None, Ok, Err, codes, decimal, Option, Result}
use Rattle.stops.specs.declared.refusal.Refusal.{Refusal}
use Rattle.stops.specs.declared.refusal.Refusal.TheVariants.{ClockPassed, MinuteTooLate, OffTheGrid, UnitsOutOfRange, UnknownSlot, NumbersExhausted, NoRoom, UnknownNumber, NotOpen, NotConfirmed, UnknownCommand, FieldCount, BadField, TooLong, MissingLine, TooManyLines, OutOfRange, TooShort, NumberHeld, NumberNotHeld, NoMemory}

-- the number in the table of refusals; 0 for want of memory, which is not in it
abbrev pub number : Refusal → ℕ
number ClockPassed = 1
number MinuteTooLate = 2
number OffTheGrid = 3
number UnitsOutOfRange = 4
number UnknownSlot = 5
number NumbersExhausted = 6
number (NoRoom d) = 7
number UnknownNumber = 8
number NotOpen = 9
number NotConfirmed = 10
number UnknownCommand = 11
number FieldCount = 12
number (BadField k) = 13
number TooLong = 14
number MissingLine = 15
number TooManyLines = 16
number OutOfRange = 17
number TooShort = 18
number NumberHeld = 19
number NumberNotHeld = 20
number NoMemory = 0

-- the values that a refusal carries: the depth of 7, the field of 13
abbrev pub values : Refusal → List ℕ
values ClockPassed = []
values MinuteTooLate = []
values OffTheGrid = []
values UnitsOutOfRange = []
values UnknownSlot = []
values NumbersExhausted = []
values (NoRoom d) = d ∷ []
values UnknownNumber = []
values NotOpen = []
values NotConfirmed = []
values UnknownCommand = []
values FieldCount = []
values (BadField k) = k ∷ []
values TooLong = []
values MissingLine = []
values TooManyLines = []
values OutOfRange = []
values TooShort = []
values NumberHeld = []
values NumberNotHeld = []
values NoMemory = []

abbrev pub refused : Refusal → ℕ × List ℕ
refused e = (number e, values e)

-- an answer, with its refusal by number and values
abbrev pub coded : {X : Type 0} → Result X Refusal → Result X (ℕ × List ℕ)
coded (Ok x) = Ok x
coded (Err e) = Err (refused e)

-- the value, if there is one, or else the refusal of that number
abbrev pub unless : {X : Type 0} → ℕ → Option X → Result X (ℕ × List ℕ)
unless n None = Err (n, [])
unless n (Some x) = Ok x

-- what is done with a value, unless there was a refusal
abbrev pub and_then : {X Y E : Type 0} → Result X E → (X → Result Y E) → Result Y E
and_then (Ok x) f = f x
and_then (Err e) f = Err e

-- what is written of a refusal
abbrev pub plain : ℕ → List ℕ
plain n = codes "refused " ++ decimal n

abbrev pub text : Refusal → List ℕ
text ClockPassed = plain 1
text MinuteTooLate = plain 2
text OffTheGrid = plain 3
text UnitsOutOfRange = plain 4
text UnknownSlot = plain 5
text NumbersExhausted = plain 6
text (NoRoom d) = codes "refused " ++ (decimal 7 ++ (codes " depth " ++ decimal d))
text UnknownNumber = plain 8
text NotOpen = plain 9
text NotConfirmed = plain 10
text UnknownCommand = plain 11
text FieldCount = plain 12
text (BadField k) = codes "refused " ++ (decimal 13 ++ (codes " field " ++ decimal k))
text TooLong = plain 14
text MissingLine = plain 15
text TooManyLines = plain 16
text OutOfRange = plain 17
text TooShort = plain 18
text NumberHeld = plain 19
text NumberNotHeld = plain 20
text NoMemory = codes "out of memory"
