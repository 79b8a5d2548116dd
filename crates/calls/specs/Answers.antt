-- What an answer means in numbers and values, and how it is written.
use Rattle.std.specs.Prelude.{ℕ, List, [], ◌∷◌, ◌++◌, Ok, Err, codes, decimal, Result}
use Rattle.stops.specs.declared.refusal.Refusal.{Refusal}
use Rattle.stops.specs.Refusals.{refused, text}
use Rattle.calls.specs.declared.answer.Answer.{Answer}
use Rattle.calls.specs.declared.answer.Answer.TheVariants.{Offered, Booked, Done}

-- the number and the deadline of an offer, the number of a booking, nothing for a call that is done; a refusal by number and values
abbrev pub answer_code : Result Answer Refusal → Result (List ℕ) (ℕ × List ℕ)
answer_code (Ok (Offered number until)) = Ok (number ∷ (until ∷ []))
answer_code (Ok (Booked number)) = Ok (number ∷ [])
answer_code (Ok Done) = Ok []
answer_code (Err e) = Err (refused e)

-- What a call is told: the number and the deadline of an offer, the number of a booking, that it is done, or a refusal by its number and values.
pub data Reply : Type 0 where
  offer : ℕ → ℕ → Reply
  booked : ℕ → Reply
  done : Reply
  refusal : ℕ × List ℕ → Reply

abbrev pub reply : Result Answer Refusal → Reply
reply (Ok (Offered number until)) = offer number until
reply (Ok (Booked number)) = booked number
reply (Ok Done) = done
reply (Err e) = refusal (refused e)

-- what is made of a value, unless there was a refusal
abbrev pub result_map : {X Y E : Type 0} → (X → Y) → Result X E → Result Y E
result_map f (Ok x) = Ok (f x)
result_map f (Err e) = Err e

-- the answer of a call that gives a number, and of one that gives nothing
abbrev pub booked_or : Result ℕ Refusal → Result Answer Refusal
booked_or r = result_map Booked r

abbrev pub done_or : Result (Unit {0}) Refusal → Result Answer Refusal
done_or r = result_map (λ x. Done) r

-- what is written of an answer that is no refusal
abbrev pub success_text : Answer → List ℕ
success_text (Offered number until) = codes "offer " ++ (decimal number ++ (codes " until " ++ decimal until))
success_text (Booked number) = codes "booked " ++ decimal number
success_text Done = codes "done"

-- and of any answer
abbrev pub answer_text : Result Answer Refusal → List ℕ
answer_text (Ok a) = success_text a
answer_text (Err e) = text e
