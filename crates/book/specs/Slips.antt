-- The slip that comes with an offer.
use Rattle.std.specs.Prelude.{ℕ, true, false, Ok, Err, Result}
use Rattle.stops.specs.declared.refusal.Refusal.{Refusal}
use Rattle.calls.specs.declared.answer.Answer.{Answer}
use Rattle.calls.specs.declared.answer.Answer.TheVariants.{Offered}
use Rattle.calls.specs.Answers.{result_map}
use Rattle.book.specs.declared.slip.Held.{Held}
use Rattle.book.specs.declared.slip.Slip.{Slip}

-- the answer of an offer by direct call: its deadline, and the number on its slip
abbrev pub offered_or : Result ℕ Refusal → Slip → Result Answer Refusal
offered_or r slip = result_map (λ deadline. Offered slip.number deadline) r

-- the same of a number that is held
abbrev pub held_or : Result Held Refusal → Result Answer Refusal
held_or r = result_map (λ h. Offered h.number h.until) r

-- a live slip for an offer; that of a refused one has the number 0 and owes nothing
abbrev pub slip_of : Result ℕ Refusal → Slip → Slip
slip_of (Ok deadline) slip = record { number = slip.number; live = true }
slip_of (Err e) slip = record { number = 0; live = false }
