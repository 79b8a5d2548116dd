-- No line of a call or a refusal has more than 80 bytes, with any figures that their types allow, read from a line or not.
use Rattle.std.proofs.Common.{ℕ, ◌^◌, ◌<◌, ◌≤◌, List, [], ◌∷◌, ◌++◌, length, codes, decimal, arith, length-append}
use lib.Signed.{mag}
use Rattle.std.specs.Fmt.{signed_decimal}
use Rattle.std.proofs.lemmas.Fmt.{length-decimal-le, length_signed_le}
use Rattle.calls.specs.declared.call.Request.{Request}
use Rattle.text.specs.Spaced.{spaced_line}
use Rattle.commands.specs.Calls.{asked, named}
use Rattle.commands.proofs.Called.{class_one}

ten : (n : ℕ) → n < 2 ^ 32 → length (decimal n) ≤ 10
ten n h = length-decimal-le 10 n (omega arith) (omega arith) (omega arith)

-- ---- by the lengths of its words
pub asked_fits : (v : List ℕ) (m : ℕ) (q : Request) → length v ≤ 1 → length (decimal m) ≤ 10 → length (decimal q.slot) ≤ 10 → length (signed_decimal q.x) ≤ 11 → length (signed_decimal q.y) ≤ 11 → length (decimal q.units) ≤ 10 → length (spaced_line v (asked m q)) ≤ 80
asked_fits v m q one a c d e f =
    let b = class_one q.class in
    simp length-append (omega arith)

pub named_fits : (v : List ℕ) (m n : ℕ) → length v ≤ 1 → length (decimal m) ≤ 10 → length (decimal n) ≤ 10 → length (spaced_line v (named m n)) ≤ 80
named_fits v m n one a b = simp length-append (omega arith)

-- ---- by its figures
pub asked_brief : (v : List ℕ) (m : ℕ) (q : Request) → length v ≤ 1 → m < 2 ^ 32 → q.slot < 2 ^ 32 → mag q.x < 2 ^ 31 → mag q.y < 2 ^ 31 → q.units < 2 ^ 32 → length (spaced_line v (asked m q)) ≤ 80
asked_brief v m q one fm fs fx fy fu =
    asked_fits v m q one (ten m fm) (ten q.slot fs) (length_signed_le 10 q.x (omega arith) (omega arith)) (length_signed_le 10 q.y (omega arith) (omega arith)) (ten q.units fu)

pub named_brief : (v : List ℕ) (m n : ℕ) → length v ≤ 1 → m < 2 ^ 32 → n < 2 ^ 32 → length (spaced_line v (named m n)) ≤ 80
named_brief v m n one fm fn = named_fits v m n one (ten m fm) (ten n fn)

pub minute_brief : (m : ℕ) → m < 2 ^ 32 → length (spaced_line (codes "T") (decimal m ∷ [])) ≤ 80
minute_brief m fm =
    let a = ten m fm in
    simp length-append (omega arith)

pub value_brief : (n : ℕ) (name : List ℕ) (v : ℕ) → n < 256 → length name ≤ 10 → v < 256 → length (codes "refused " ++ (decimal n ++ (name ++ (decimal v ++ 10 ∷ [])))) ≤ 80
value_brief n name v fn few fv =
    let a = ten n (omega arith) in
    let b = ten v (omega arith) in
    simp length-append (omega arith)

pub code_brief : (n : ℕ) → n < 256 → length (codes "refused " ++ (decimal n ++ 10 ∷ [])) ≤ 80
code_brief n fn =
    let a = ten n (omega arith) in
    simp length-append (omega arith)
