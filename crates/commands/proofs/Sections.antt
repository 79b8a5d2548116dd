-- A section of the set-up, line by line.
use Rattle.std.proofs.Common.{◌≡◌, ℕ, ◌+◌, Bool, true, false, cond, List, [], ◌∷◌, ◌++◌, length, drop, Some, None, Ok, Err, IfOk, OnOk, Global, Result, Vec, sym, refl, ap, ◌∙◌, arith, length-append}
use Rattle.std.specs.Bool.{then_some}
use Rattle.std.specs.List.{slice_get}
use Rattle.std.specs.Option.{option_map}
use Rattle.stops.specs.declared.refusal.Refusal.{Refusal}
use Rattle.stops.specs.Refusals.{and_then, coded}
use Rattle.commands.specs.declared.setup.refusal.SetupRefusal.{SetupRefusal}
use Rattle.commands.specs.Setups.{Fault, at_line, begins, entries, faulted, leading, listed, section}

-- the first line
pub first_is : (ls : List (List ℕ)) (l : List ℕ) → Some l ≡ slice_get ls 0 → ls ≡ l ∷ drop 1 ls
first_is [] l e = absurd (let z : ◌≡◌ {A = ℕ} 0 1 = cc in omega arith)
first_is (m ∷ ls) l e = let q : m ≡ l = cc in ap (λ k. k ∷ ls) q

pub none_left : (ls : List (List ℕ)) → None ≡ slice_get ls 0 → ls ≡ []
none_left [] e = refl
none_left (m ∷ ls) e = absurd (let z : ◌≡◌ {A = ℕ} 0 1 = cc in omega arith)

-- the first line, if it begins with the letter, is the first of the kind
pub leading_first : {A : Type 0} (line : A → List ℕ) (letter : ℕ) (ls : List (List ℕ)) (a : A) (b : Bool) → Some (line a) ≡ slice_get ls 0 → b ≡ begins letter (line a) → option_map line (then_some b a) ≡ slice_get (leading letter ls) 0
leading_first line letter ls a b e h =
    ap (λ t. option_map line (then_some t a)) h
    ∙ elim (begins letter (line a)) as (λ t. option_map line (then_some t a) ≡ slice_get (cond t (line a ∷ leading letter (drop 1 ls)) []) 0) [ true ↦ refl | false ↦ refl ]
    ∙ sym (ap (λ ms. slice_get (leading letter ms) 0) (first_is ls (line a) e))

pub leading_none : (letter : ℕ) (ls : List (List ℕ)) → None ≡ slice_get ls 0 → None ≡ slice_get (leading letter ls) 0
leading_none letter ls e = sym (ap (λ ms. slice_get (leading letter ms) 0) (none_left ls e))

pub leading_more : (letter : ℕ) (ls : List (List ℕ)) (l : List ℕ) → Some l ≡ slice_get (leading letter ls) 0 → leading letter ls ≡ l ∷ leading letter (drop 1 ls)
leading_more letter [] l e = absurd (let z : ◌≡◌ {A = ℕ} 0 1 = cc in omega arith)
leading_more letter (m ∷ ls) l e =
    elim (begins letter m) as (λ t. Some l ≡ slice_get (cond t (m ∷ leading letter ls) []) 0 → cond t (m ∷ leading letter ls) [] ≡ l ∷ leading letter ls) [
      | true ↦ λ h. let q : m ≡ l = cc in ap (λ k. k ∷ leading letter ls) q
      | false ↦ λ h. absurd (let z : ◌≡◌ {A = ℕ} 0 1 = cc in omega arith)
    ] e

-- what is left gives the same: one line more, the first bad one, or none
module _ {X : Type 0} (read : ℕ → List ℕ → Result X (ℕ × List ℕ)) (letter first : ℕ) (xs : List X) (ls : List (List ℕ)) (whole : Result (List X) Fault) (same : entries read first xs (leading letter ls) ≡ whole) where
  then_on : Result X Fault → Result (List X) Fault
  then_on r = and_then r (λ y. entries read first (xs ++ y ∷ []) (leading letter (drop 1 ls)))

  -- the answer to the first line, which has the number n and k of its kind before it
  module _ (l : List ℕ) (k n : ℕ) (r : Result X (ℕ × List ℕ)) (e : Some l ≡ slice_get (leading letter ls) 0) (count : k ≡ length xs) (at : n ≡ first + length xs) (says : r ≡ read k l) where
    at_first : then_on (at_line n r) ≡ whole
    unfolding then_on
    at_first =
        ap (λ i. then_on (at_line i r)) at ∙ ap (λ q. then_on (at_line (first + length xs) q)) (says ∙ ap (λ i. read i l) count) ∙ sym (ap (entries read first xs) (leading_more letter ls l e)) ∙ same

    pub line_taken : (x : X) → Ok x ≡ at_line n r → (ys : List X) (ms : List (List ℕ)) → ys ≡ xs ++ x ∷ [] → ms ≡ drop 1 ls → entries read first ys (leading letter ms) ≡ whole
    unfolding then_on
    line_taken x h ys ms p q = ap (λ zs. entries read first zs (leading letter ms)) p ∙ ap (λ ns. entries read first (xs ++ x ∷ []) (leading letter ns)) q ∙ ap then_on h ∙ at_first

    pub line_refused : (f : Fault) → Err f ≡ at_line n r → Err f ≡ whole
    unfolding then_on
    line_refused f h = ap then_on h ∙ at_first

  pub all_taken : None ≡ slice_get (leading letter ls) 0 → Ok xs ≡ whole
  all_taken none = sym (ap (entries read first xs) (none_left (leading letter ls) none)) ∙ same

-- what holds where an entry was read
pub taken_if : {X : Type 0} (P : Type 0) (r : Result X Refusal) (n : ℕ) (x : X) → Ok x ≡ at_line n (coded r) → OnOk r P → P
taken_if P (Ok y) n x e h = h
taken_if P (Err f) n x e h = absurd (let z : ◌≡◌ {A = ℕ} 0 1 = cc in omega arith)

-- a list that was refused
pub list_refused : {X : Type 0} (P : Vec X Global → Type 0) (r : Result (Vec X Global) SetupRefusal) (f : Fault) → faulted r ≡ Err f → (listed r ≡ Err f) × IfOk r P
list_refused P (Ok v) f h = absurd (let z : ◌≡◌ {A = ℕ} 0 1 = cc in omega arith)
list_refused P (Err e) f h = (let q : faulted {X = ℕ} (Err e) ≡ Err f = cc in cc, tt)

-- ---- a section as a whole
module _ {X : Type 0} (read : ℕ → List ℕ → Result X (ℕ × List ℕ)) (first : ℕ) where
  -- a line gives an entry
  pub entries_length : (ys : List X) (ls : List (List ℕ)) (zs : List X) → Ok zs ≡ entries read first ys ls → length zs ≡ length ys + length ls
  entries_length ys [] zs e = let q : zs ≡ ys = cc in omega (arith, ap length q)
  entries_length ys (l ∷ ls) zs e = by_line (at_line (first + length ys) (read (length ys) l)) e (λ x. entries_length (ys ++ x ∷ []) ls zs)
    where
      by_line : (r : Result X Fault) → Ok zs ≡ and_then r (λ x. entries read first (ys ++ x ∷ []) ls) → ((x : X) → Ok zs ≡ entries read first (ys ++ x ∷ []) ls → length zs ≡ length (ys ++ x ∷ []) + length ls) → length zs ≡ length ys + length (l ∷ ls)
      by_line (Ok x) h more = omega (arith, more x h, length-append ys (x ∷ []))
      by_line (Err f) h more = absurd (let z : ◌≡◌ {A = ℕ} 0 1 = cc in omega arith)

  pub section_none : (ls : List (List ℕ)) (zs : List X) → Ok zs ≡ entries read first [] ls → length zs ≡ 0 → Err ((15, []), first) ≡ section read first ls
  section_none [] zs e none = refl
  section_none (l ∷ ls) zs e none = absurd (omega (arith, entries_length [] (l ∷ ls) zs e))
