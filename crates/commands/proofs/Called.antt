-- A call that is written as a line is read back.
use Rattle.std.proofs.Common.{◌≡◌, ℕ, ◌≤◌, cond, List, [], ◌∷◌, length, ℤ, Some, Ok, Err, decimal, refl, ap, ◌∙◌, arith, length-append, le-ltb}
use Rattle.std.specs.Fmt.{signed_decimal}
use Rattle.std.specs.List.{AllByRecursion}
use Rattle.std.proofs.lemmas.Fmt.{length-decimal-le, length_signed_le}
use Rattle.calls.specs.declared.call.Action.{Action}
use Rattle.calls.specs.declared.call.Action.TheVariants.{Offer, Book, Confirm, Release, Withdraw, Tick}
use Rattle.calls.specs.declared.call.Request.{Request}
use Rattle.stops.specs.declared.class.Class.{Class}
use Rattle.stops.specs.declared.class.Class.TheVariants.{Private, Trade}
use Rattle.stops.specs.Classes.{letter}
use Rattle.text.specs.Parts.{fields}
use Rattle.text.specs.Spaced.{Bare, spaced}
use Rattle.text.proofs.Back.{bare_decimal, bare_signed, fields_spaced, plain_decimal, signed_back}
use Rattle.commands.specs.Calls.{Few, FewZ, Plain, asked, call_of, call_text, command, named, request_of}
use Rattle.commands.specs.Limits.{line_bytes}
use Rattle.commands.specs.Values.{class_of, letter_of}
use Rattle.commands.specs.Verbs.{verb_of}
use Rattle.commands.proofs.Entered.{letter_bare}

six : (n : ℕ) → Few n → length (decimal n) ≤ 6
six n h = length-decimal-le 6 n (omega arith) h (omega arith)

seven : (z : ℤ) → FewZ z → length (signed_decimal z) ≤ 7
seven z h = length_signed_le 6 z h (omega arith)

bare : (n : ℕ) → Few n → Bare (decimal n)
bare n h = bare_decimal n (omega arith)

class_back : (k : Class) → class_of (letter k) ≡ Some k
class_back Private = refl
class_back Trade = refl

class_bare : (k : Class) → Bare (letter k)
class_bare Private = letter_bare 80 (λ q. omega (arith, q))
class_bare Trade = letter_bare 84 (λ q. omega (arith, q))

pub class_one : (k : Class) → length (letter k) ≤ 1
class_one Private = omega arith
class_one Trade = omega arith

-- a line of these fields says what they say
said : (c : ℕ) (gs : List (List ℕ)) → (c ≡ 32 → ⊥) → AllByRecursion Bare gs → length (spaced (c ∷ []) gs) ≤ line_bytes → command (spaced (c ∷ []) gs) ≡ call_of ((c ∷ []) ∷ gs) (verb_of (Some c))
said c gs not bares few =
    ap (λ b. cond b (Err (14, [])) (call_of (fields (spaced (c ∷ []) gs)) (verb_of (letter_of (fields (spaced (c ∷ []) gs)))))) (le-ltb line_bytes (length (spaced (c ∷ []) gs)) few)
    ∙ ap (λ fs. call_of fs (verb_of (letter_of fs))) (fields_spaced (c ∷ []) gs (letter_bare c not) bares)

-- ---- what is asked for
module _ (m : ℕ) (q : Request) (fs : Few q.slot) (fx : FewZ q.x) (fy : FewZ q.y) (fu : Few q.units) where
  asked_said : (c : ℕ) → (c ≡ 32 → ⊥) → Few m → command (spaced (c ∷ []) (asked m q)) ≡ call_of ((c ∷ []) ∷ asked m q) (verb_of (Some c))
  asked_said c not fm =
      let a = six m fm in
      let b = class_one q.class in
      let d = six q.slot fs in
      let e = seven q.x fx in
      let f = seven q.y fy in
      let g = six q.units fu in
      said c (asked m q) not (bare m fm, (class_bare q.class, (bare q.slot fs, (bare_signed q.x (omega arith), (bare_signed q.y (omega arith), (bare q.units fu, tt)))))) (simp length-append (omega arith))

  request_back : (c : ℕ) → request_of ((c ∷ []) ∷ asked m q) ≡ Ok q
  request_back c = simp (class_back q.class, plain_decimal q.slot fs, signed_back q.x fx, signed_back q.y fy, plain_decimal q.units fu)

named_said : (c m n : ℕ) → (c ≡ 32 → ⊥) → Few m → Few n → command (spaced (c ∷ []) (named m n)) ≡ call_of ((c ∷ []) ∷ named m n) (verb_of (Some c))
named_said c m n not fm fn =
    let a = six m fm in
    let b = six n fn in
    said c (named m n) not (bare m fm, (bare n fn, tt)) (simp length-append (omega arith))

pub action_back : (m : ℕ) (a : Action) → Few m → Plain a → command (call_text (record { minute = m; action = a })) ≡ Ok (record { minute = m; action = a })
action_back m (Offer q) fm h = asked_said m q h.0 h.1 h.2 h.3 79 (λ e. omega (arith, e)) fm ∙ simp (plain_decimal m fm, request_back m q h.0 h.1 h.2 h.3 79)
action_back m (Book q) fm h = asked_said m q h.0 h.1 h.2 h.3 66 (λ e. omega (arith, e)) fm ∙ simp (plain_decimal m fm, request_back m q h.0 h.1 h.2 h.3 66)
action_back m (Confirm n) fm h = named_said 67 m n (λ e. omega (arith, e)) fm h ∙ simp (plain_decimal m fm, plain_decimal n h)
action_back m (Release n) fm h = named_said 71 m n (λ e. omega (arith, e)) fm h ∙ simp (plain_decimal m fm, plain_decimal n h)
action_back m (Withdraw n) fm h = named_said 87 m n (λ e. omega (arith, e)) fm h ∙ simp (plain_decimal m fm, plain_decimal n h)
action_back m Tick fm h =
    let few = six m fm in
    said 84 (decimal m ∷ []) (λ e. omega (arith, e)) (bare m fm, tt) (simp length-append (omega arith)) ∙ simp (plain_decimal m fm)
