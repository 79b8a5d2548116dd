-- A refusal is fixed by its number and values.
use Rattle.std.proofs.Common.{◌≡◌, ℕ, List, [], ◌∷◌, get_or, Ok, Err, Result, sym, refl, ap, ◌∙◌, arith}
use Rattle.stops.specs.declared.refusal.Refusal.{Refusal}
use Rattle.stops.specs.declared.refusal.Refusal.TheVariants.{ClockPassed, MinuteTooLate, OffTheGrid, UnitsOutOfRange, UnknownSlot, NumbersExhausted, NoRoom, UnknownNumber, NotOpen, NotConfirmed, UnknownCommand, FieldCount, BadField, TooLong, MissingLine, TooManyLines, OutOfRange, TooShort, NumberHeld, NumberNotHeld, NoMemory}
use Rattle.stops.specs.Refusals.{refused, coded}

-- the refusals by number, the value put in
table : ℕ → List Refusal
table v = NoMemory ∷ ClockPassed ∷ MinuteTooLate ∷ OffTheGrid ∷ UnitsOutOfRange ∷ UnknownSlot ∷ NumbersExhausted ∷ NoRoom v ∷ UnknownNumber ∷ NotOpen ∷ NotConfirmed ∷ UnknownCommand ∷ FieldCount ∷ BadField v ∷ TooLong ∷ MissingLine ∷ TooManyLines ∷ OutOfRange ∷ TooShort ∷ NumberHeld ∷ NumberNotHeld ∷ []

refusal : ℕ × List ℕ → Refusal
refusal t = get_or (table (get_or t.1 0 0)) t.0 NoMemory

back : (e : Refusal) → refusal (refused e) ≡ e
unfolding refusal table
back ClockPassed = refl
back MinuteTooLate = refl
back OffTheGrid = refl
back UnitsOutOfRange = refl
back UnknownSlot = refl
back NumbersExhausted = refl
back (NoRoom d) = refl
back UnknownNumber = refl
back NotOpen = refl
back NotConfirmed = refl
back UnknownCommand = refl
back FieldCount = refl
back (BadField k) = refl
back TooLong = refl
back MissingLine = refl
back TooManyLines = refl
back OutOfRange = refl
back TooShort = refl
back NumberHeld = refl
back NumberNotHeld = refl
back NoMemory = refl

pub one_refusal : (a b : Refusal) → refused a ≡ refused b → a ≡ b
one_refusal a b h = sym (back a) ∙ (ap refusal h ∙ back b)

-- and an answer by its code
pub one_answer : {X : Type 0} (a b : Result X Refusal) → coded a ≡ coded b → a ≡ b
one_answer (Ok x) (Ok y) h = cc
one_answer (Ok x) (Err e) h = absurd (let z : ◌≡◌ {A = ℕ} 0 1 = cc in omega arith)
one_answer (Err d) (Ok y) h = absurd (let z : ◌≡◌ {A = ℕ} 0 1 = cc in omega arith)
one_answer (Err d) (Err e) h = ap Err (one_refusal d e (let q : refused d ≡ refused e = cc in q))
