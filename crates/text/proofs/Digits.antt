-- What one figure more does to a text that a writer has put at the front of a buffer.
use Rattle.std.proofs.Common.{◌≡◌, ℕ, ◌+◌, ◌/◌, ◌%◌, ◌^◌, ◌<◌, ◌≤◌, List, [], ◌∷◌, ◌++◌, length, take, drop, set, Ok, Err, decimal, ap, ◌∙◌, arith, length-append, length-set, length-take, take-append-drop, get_or-set_same}
use Rattle.std.proofs.lemmas.Bool.{cases_eq}
use Rattle.std.proofs.lemmas.Fmt.{decimal_step}
use Rattle.std.proofs.lemmas.List.{same_lists, places}
use Rattle.stops.specs.declared.refusal.Refusal.{Refusal}
use Rattle.text.specs.Written.{Wrote}

-- text is at the front of the first m places, and the rest is as it was
grown : (text old : List ℕ) (m k d : ℕ) → m < length old → k ≤ m → k ≡ length text → set ((text ++ drop k (take m old)) ++ drop m old) k d ≡ (text ++ d ∷ []) ++ drop (k + 1) old
grown text old m k d mo km kt = same_lists _ _ (grind (arith, places, length-set, length-take)) (λ i e h. grind (arith, places, get_or-set_same, cases_eq k i))

module _ (n : ℕ) (old part : List ℕ) (m : ℕ) (big : 10 ≤ n) (fits : n < 2 ^ 64) (mo : m + 1 ≡ length old) where
  pub more_figures : (k : ℕ) → Wrote (decimal (n / 10)) (take m old) (Ok k) part → Wrote (decimal n) old (Ok (k + 1)) (set (part ++ drop m old) k (48 + n % 10))
  more_figures k h =
      rw (decimal_step n big fits) (simp length-append (omega (arith, h.0)), omega (arith, length-take m old, h.1), ap (λ p. set (p ++ drop m old) k (48 + n % 10)) h.2 ∙ grown (decimal (n / 10)) old m k (48 + n % 10) (omega arith) (omega (arith, length-take m old, h.1)) h.0)

  pub too_long : (e : Refusal) → Wrote (decimal (n / 10)) (take m old) (Err e) part → Wrote (decimal n) old (Err e) (part ++ drop m old)
  too_long e h = rw (decimal_step n big fits) (h.0, simp length-append (omega (arith, length-take m old, h.1)), rw h.2 (take-append-drop m old))
