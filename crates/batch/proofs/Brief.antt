-- No line that is heard has more than 80 bytes.
use Rattle.std.proofs.Common.{◌≡◌, ℕ, zero, suc, ◌+◌, ◌-◌, ◌*◌, ◌^◌, ◌<◌, ◌≤◌, Bool, true, false, cond, ◌&&◌, ◌||◌, not, eqb, leb, ltb, List, [], ◌∷◌, length, get_or, drop, ℤ, pos, neg_ℤ, Some, None, Ok, Err, decimal, Option, Result, MatchResult, IfSome, refl, pow-suc, add-one, arith, length-append}
use lib.Signed.{mag}
use Rattle.std.proofs.Math.Nat.{pow-le-pow_right}
use Rattle.std.specs.Fmt.{signed_decimal}
use Rattle.std.specs.Option.{option_map}
use Rattle.std.proofs.lemmas.Bool.Decides.{nat_tests}
use Rattle.std.proofs.lemmas.Option.{IfSome_then}
use Rattle.std.proofs.lemmas.Fmt.{length-decimal-le, length_signed_le}
use Rattle.calls.specs.declared.call.Action.{Action}
use Rattle.calls.specs.declared.call.Call.{Call}
use Rattle.calls.specs.declared.call.Request.{Request}
use Rattle.stops.specs.declared.class.Class.{Class}
use Rattle.stops.specs.Refusals.{and_then}
use Rattle.text.specs.Numbers as numbers
use Rattle.text.specs.Numbers.{negative, plain, reading}
use Rattle.text.specs.Parts.{fields}
use Rattle.text.specs.Spaced.{spaced_line}
use Rattle.commands.specs.declared.line.verb.Verb.{Verb}
use Rattle.commands.specs.declared.line.verb.Verb.TheVariants as verb
use Rattle.commands.specs.Calls.{action_letter, action_of, asked, call_line, call_of, command, named, request_of, words}
use Rattle.commands.specs.Limits.{line_bytes}
use Rattle.commands.specs.Values.{class_at, letter_of, number_at, signed_at, valued}
use Rattle.commands.specs.Verbs.{verb_of}
use Rattle.batch.proofs.AnyLine.{asked_fits, named_fits, code_brief}
use Rattle.batch.specs.Heard.{answer_line, heard, refusal_line}

-- ---- what is read has few figures
tested : {X : Type 0} (P : X → Type 0) (b : Bool) (o : Option X) → (b ≡ true → IfSome o P) → IfSome (cond b o None) P
tested P true o h = h refl
tested P false o h = tt

either : {X : Type 0} (P : X → Type 0) (b : Bool) (o p : Option X) → IfSome o P → IfSome p P → IfSome (cond b o p) P
either P true o p h k = h
either P false o p h k = k

mapped : {X Y : Type 0} (P : X → Type 0) (Q : Y → Type 0) (f : X → Y) (o : Option X) → IfSome o P → ((x : X) → P x → Q (f x)) → IfSome (option_map f o) Q
mapped P Q f None h go = tt
mapped P Q f (Some x) h go = go x h

ten_more : (n d i : ℕ) → n < 10 ^ i → d ≤ 9 → n * 10 + d < 10 ^ (i + 1)
ten_more n d i h k = rw (add-one i, pow-suc 10 i) (omega arith)

reading_few : (fs : List ℕ) (n k : ℕ) → n < 10 ^ k → k + length fs ≤ 6 → IfSome (reading n fs) (λ m. m < 1000000)
reading_few [] n k h few = let most : k ≤ 6 = omega arith in omega (arith, pow-le-pow_right {n = 10} (omega arith) most)
reading_few (c ∷ cs) n k h few =
    tested (λ m. m < 1000000) (leb 48 c && leb c 57) (reading (n * 10 + (c - 48)) cs) (λ t. let figure : c - 48 ≤ 9 = grind (arith, nat_tests) in reading_few cs (n * 10 + (c - 48)) (k + 1) (ten_more n (c - 48) k h figure) (omega arith))

plain_few : (fs : List ℕ) → IfSome (plain fs) (λ n. n < 1000000)
plain_few fs =
    tested (λ m. m < 1000000) (leb 1 (length fs) && (leb (length fs) 6 && (eqb (length fs) 1 || not (eqb (get_or fs 0 0) 48)))) (reading 0 fs) (λ t. let few : length fs ≤ 6 = grind (arith, nat_tests) in reading_few fs 0 0 (omega arith) (omega arith))

neg_few : (n : ℕ) → n < 1000000 → mag (neg_ℤ (pos n)) < 1000000
neg_few zero h = h
neg_few (suc n) h = omega arith

signed_few : (fs : List ℕ) → IfSome (numbers.signed fs) (λ z. mag z < 1000000)
signed_few fs =
    either (λ z. mag z < 1000000) (eqb (get_or fs 0 0) 45) (negative (drop 1 fs)) (option_map pos (plain fs))
    (either _ (eqb (get_or (drop 1 fs) 0 0) 48) None (option_map (λ n. neg_ℤ (pos n)) (plain (drop 1 fs))) tt (mapped (λ n. n < 1000000) _ (λ n. neg_ℤ (pos n)) (plain (drop 1 fs)) (plain_few (drop 1 fs)) neg_few))
    (mapped (λ n. n < 1000000) _ pos (plain fs) (plain_few fs) (λ n h. h))

-- ---- and a short line
-- the value has P, or what is written of the refusal is short
abbrev Brief : {X : Type 0} → (X → Type 0) → Result X (ℕ × List ℕ) → Type 0
Brief P r = MatchResult r P (λ e. length (refusal_line e.0 e.1) ≤ 80)

chosen : {X : Type 0} (P : X → Type 0) (b : Bool) (r s : Result X (ℕ × List ℕ)) → Brief P r → Brief P s → Brief P (cond b r s)
chosen P true r s h k = h
chosen P false r s h k = k

both : {X Y : Type 0} (P : X → Type 0) (Q : Y → Type 0) (r : Result X (ℕ × List ℕ)) (f : X → Result Y (ℕ × List ℕ)) → Brief P r → ((x : X) → P x → Brief Q (f x)) → Brief Q (and_then r f)
both P Q (Ok x) f h go = go x h
both P Q (Err e) f h go = h

at : {X : Type 0} (P : X → Type 0) (index : ℕ) (o : Option X) → index < 10 → IfSome o P → Brief P (valued index o)
at P index None few h =
    let a = length-decimal-le 2 13 (omega arith) (omega arith) (omega arith) in
    let b = length-decimal-le 1 index (omega arith) (omega arith) (omega arith) in
    simp length-append (omega arith)
at P index (Some x) few h = h

abbrev Short : ℕ → Type 0
Short n = length (decimal n) ≤ 6

abbrev ShortZ : ℤ → Type 0
ShortZ z = length (signed_decimal z) ≤ 8

number_brief : (fs : List (List ℕ)) (index : ℕ) → index < 10 → Brief Short (number_at fs index)
number_brief fs index few = at Short index _ few (IfSome_then (plain (get_or fs index [])) {P = λ n. n < 1000000} {Q = Short} (plain_few (get_or fs index [])) (λ n h. length-decimal-le 6 n (omega arith) h (omega arith)))

signed_brief : (fs : List (List ℕ)) (index : ℕ) → index < 10 → Brief ShortZ (signed_at fs index)
signed_brief fs index few = at ShortZ index _ few (IfSome_then (numbers.signed (get_or fs index [])) {P = λ z. mag z < 1000000} {Q = ShortZ} (signed_few (get_or fs index [])) (λ z h. length_signed_le 7 z (omega arith) (omega arith)))

abbrev ShortRequest : Request → Type 0
ShortRequest q = Short q.slot × ShortZ q.x × ShortZ q.y × Short q.units

any_class : (o : Option Class) → IfSome o (λ _. Unit {0})
any_class None = tt
any_class (Some k) = tt

request_brief : (fs : List (List ℕ)) → Brief ShortRequest (request_of fs)
request_brief fs =
    both (λ _. Unit {0}) ShortRequest (class_at fs 2) _ (at (λ _. Unit {0}) 2 _ (omega arith) (any_class _)) (λ k _.
    both Short ShortRequest (number_at fs 3) _ (number_brief fs 3 (omega arith)) (λ slot a.
    both ShortZ ShortRequest (signed_at fs 4) _ (signed_brief fs 4 (omega arith)) (λ x b.
    both ShortZ ShortRequest (signed_at fs 5) _ (signed_brief fs 5 (omega arith)) (λ y d.
    both Short ShortRequest (number_at fs 6) _ (number_brief fs 6 (omega arith)) (λ units e. (a, b, d, e))))))

-- whatever its minute is
abbrev ShortAction : Action → Type 0
ShortAction a = (m : ℕ) → Short m → length (spaced_line (action_letter a) (words m a)) ≤ 80

asked_short : (letter : ℕ) (q : Request) → ShortRequest q → (m : ℕ) → Short m → length (spaced_line (letter ∷ []) (asked m q)) ≤ 80
asked_short letter q h m few = asked_fits (letter ∷ []) m q (omega arith) (omega arith) (omega (arith, h.0)) (omega (arith, h.1)) (omega (arith, h.2)) (omega (arith, h.3))

named_short : (letter n : ℕ) → Short n → (m : ℕ) → Short m → length (spaced_line (letter ∷ []) (named m n)) ≤ 80
named_short letter n h m few = named_fits (letter ∷ []) m n (omega arith) (omega arith) (omega arith)

action_brief : (fs : List (List ℕ)) (v : Verb) → Brief ShortAction (action_of fs v)
action_brief fs verb.Offer = both ShortRequest ShortAction (request_of fs) _ (request_brief fs) (asked_short 79)
action_brief fs verb.Book = both ShortRequest ShortAction (request_of fs) _ (request_brief fs) (asked_short 66)
action_brief fs verb.Confirm = both Short ShortAction (number_at fs 2) _ (number_brief fs 2 (omega arith)) (named_short 67)
action_brief fs verb.Release = both Short ShortAction (number_at fs 2) _ (number_brief fs 2 (omega arith)) (named_short 71)
action_brief fs verb.Withdraw = both Short ShortAction (number_at fs 2) _ (number_brief fs 2 (omega arith)) (named_short 87)
action_brief fs verb.Tick = λ m few. simp length-append (omega arith)

abbrev ShortCall : Call → Type 0
ShortCall c = length (call_line c) ≤ 80

call_brief : (fs : List (List ℕ)) (o : Option Verb) → Brief ShortCall (call_of fs o)
call_brief fs None = code_brief 11 (omega arith)
call_brief fs (Some v) =
    chosen ShortCall _ _ (Err (12, []))
    (both Short ShortCall (number_at fs 1) _ (number_brief fs 1 (omega arith)) (λ minute few.
    both ShortAction ShortCall (action_of fs v) _ (action_brief fs v) (λ action short. short minute few)))
    (code_brief 12 (omega arith))

answer_brief : (r : Result Call (ℕ × List ℕ)) → Brief ShortCall r → length (answer_line r) ≤ 80
answer_brief (Ok c) h = h
answer_brief (Err e) h = h

pub heard_short : (line : List ℕ) → length (heard line) ≤ 80
heard_short line =
    let fs = fields line in
    answer_brief (command line) (chosen ShortCall (ltb line_bytes (length line)) (Err (14, [])) (call_of fs (verb_of (letter_of fs))) (code_brief 14 (omega arith)) (call_brief fs (verb_of (letter_of fs))))
