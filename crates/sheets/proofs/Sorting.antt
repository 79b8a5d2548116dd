-- Visits put in by order: what comes out does not depend on the order in which they came, and a list in order stays as it is.
use Rattle.std.proofs.Common.{◌≡◌, ℕ, ◌<◌, Bool, true, false, ◌||◌, ◌&&◌, ◌==◌, ◌⊎◌, List, [], ◌∷◌, nat_le, nat_lt, sym, refl, ap, ◌∙◌, inl, inr, ⊎_elim, true≢false, arith}
use mathlib.Core.List.{is_set}
use mathlib.Core.List.{Perm, Permᴰ}
use mathlib.Core.Logic.{∥∥₁_elim}
use denote.Struct.Props as logic
use Rattle.std.proofs.lemmas.Bool.{cases_Bool, cases_lt, cond-true, cond-false, ltb-true, lt-ltb, eqb-true, eq-eqb, leb-true, le-leb, and_parts, and_from, or_cases, or_left, or_right}
use Rattle.queue.specs.declared.visit.PlannedVisit.{PlannedVisit}
use Rattle.queue.specs.Entries.{VisitNoLater}
use Rattle.queue.specs.Orders.{InOrder}
use Rattle.sheets.specs.Plans.{no_later, put_in, in_order}

-- ---- the test and what it says
-- a number first, and then others
read_next : (m n : ℕ) (rest : Bool) → (nat_lt m n || (m == n && rest)) ≡ true → (m < n) ⊎ ((m ≡ n) × (rest ≡ true))
read_next m n rest h = ⊎_elim (λ a. inl (ltb-true m n a)) (λ b. let k = and_parts (m == n) rest b in inr (eqb-true m n k.0, k.1)) (or_cases (nat_lt m n) (m == n && rest) h)

write_less : (m n : ℕ) (rest : Bool) → m < n → (nat_lt m n || (m == n && rest)) ≡ true
write_less m n rest h = or_left (nat_lt m n) (m == n && rest) (lt-ltb m n h)

write_same : (m n : ℕ) (rest : Bool) → m ≡ n → rest ≡ true → (nat_lt m n || (m == n && rest)) ≡ true
write_same m n rest e h = or_right (nat_lt m n) (m == n && rest) (and_from (m == n) rest (eq-eqb m n e) h)

read : (x y : PlannedVisit) → no_later x y ≡ true → VisitNoLater x y
read x y h =
    ⊎_elim inl
    (λ k. inr (k.0, ⊎_elim inl (λ j. inr (j.0, leb-true x.number y.number j.1)) (read_next x.van y.van (nat_le x.number y.number) k.1)))
    (read_next x.minute y.minute (nat_lt x.van y.van || (x.van == y.van && nat_le x.number y.number)) h)

written : (x y : PlannedVisit) → VisitNoLater x y → no_later x y ≡ true
written x y h =
    let rest : Bool = nat_lt x.van y.van || (x.van == y.van && nat_le x.number y.number) in
    ⊎_elim
    (λ a. write_less x.minute y.minute rest a)
    (λ b. write_same x.minute y.minute rest b.0 (⊎_elim (λ c. write_less x.van y.van (nat_le x.number y.number) c) (λ d. write_same x.van y.van (nat_le x.number y.number) d.0 (le-leb x.number y.number d.1)) b.1))
    h

-- ---- it is a total order
same_or : (m n : ℕ) → (m < n) ⊎ ((m ≡ n) ⊎ (n < m))
same_or m n = ⊎_elim inl (λ h. inr (⊎_elim inr (λ k. inl (omega arith)) (cases_lt n m))) (cases_lt m n)

either : (x y : PlannedVisit) → VisitNoLater x y ⊎ VisitNoLater y x
either x y =
    ⊎_elim (λ a. inl (inl a))
    (⊎_elim
    (λ e. ⊎_elim (λ b. inl (inr (e, inl b))) (⊎_elim (λ f. ⊎_elim (λ c. inl (inr (e, inr (f, omega (arith, c))))) (λ c. inr (inr (sym e, inr (sym f, c)))) (cases_lt x.number y.number)) (λ b. inr (inr (sym e, inl b)))) (same_or x.van y.van))
    (λ a. inr (inl a)))
    (same_or x.minute y.minute)

chain : (x y z : PlannedVisit) → VisitNoLater x y → VisitNoLater y z → VisitNoLater x z
chain x y z h k =
    ⊎_elim
    (λ a. inl (⊎_elim (λ b. omega (arith, a, b)) (λ b. omega (arith, a, b.0)) k))
    (λ a.
    ⊎_elim (λ b. inl (omega (arith, a.0, b)))
    (λ b. inr (
      a.0 ∙ b.0,
      ⊎_elim (λ c. inl (⊎_elim (λ d. omega (arith, c, d)) (λ d. omega (arith, c, d.0)) b.1))
          (λ c. ⊎_elim (λ d. inl (omega (arith, c.0, d))) (λ d. inr (c.0 ∙ d.0, omega (arith, c.1, d.1))) b.1) a.1,
    ))
    k)
    h

equal : (x y : PlannedVisit) → VisitNoLater x y → VisitNoLater y x → x ≡ y
equal x y h k =
    let m : x.minute ≡ y.minute = ⊎_elim (λ a. ⊎_elim (λ b. absurd (omega (arith, a, b))) (λ b. absurd (omega (arith, a, b.0))) k) (λ a. a.0) h in
    let r = ⊎_elim (λ a. absurd (omega (arith, a, m))) (λ a. a.1) h in
    let s = ⊎_elim (λ a. absurd (omega (arith, a, m))) (λ a. a.1) k in
    let v : x.van ≡ y.van = ⊎_elim (λ a. ⊎_elim (λ b. absurd (omega (arith, a, b))) (λ b. absurd (omega (arith, a, b.0))) s) (λ a. a.0) r in
    let n : x.number ≡ y.number = ⊎_elim (λ a. absurd (omega (arith, a, v))) (λ a. ⊎_elim (λ b. absurd (omega (arith, b, v))) (λ b. omega (arith, a.1, b.1)) s) r in
    λ i. record { minute = m i; van = v i; number = n i }

turned : (x y : PlannedVisit) → no_later x y ≡ false → no_later y x ≡ true
turned x y h = ⊎_elim (λ a. absurd (true≢false (sym (written x y a) ∙ h))) (λ b. written y x b) (either x y)

joined : (x y z : PlannedVisit) → no_later x y ≡ true → no_later y z ≡ true → no_later x z ≡ true
joined x y z h k = written x z (chain x y z (read x y h) (read y z k))

apart : (x y z : PlannedVisit) → no_later y z ≡ true → no_later x z ≡ false → no_later x y ≡ false
apart x y z k h = ⊎_elim (λ a. absurd (true≢false (sym (joined x y z a k) ∙ h))) (λ b. b) (cases_Bool (no_later x y))

-- ---- putting in
here : (v x : PlannedVisit) (l : List PlannedVisit) → no_later v x ≡ true → put_in v (x ∷ l) ≡ v ∷ (x ∷ l)
here v x l h = cond-true (no_later v x) (v ∷ (x ∷ l)) (x ∷ put_in v l) h

behind : (v x : PlannedVisit) (l : List PlannedVisit) → no_later v x ≡ false → put_in v (x ∷ l) ≡ x ∷ put_in v l
behind v x l h = cond-false (no_later v x) (v ∷ (x ∷ l)) (x ∷ put_in v l) h

-- two before the rest
two : (a b : PlannedVisit) (l : List PlannedVisit) → put_in a l ≡ a ∷ l → put_in b l ≡ b ∷ l → put_in a (b ∷ l) ≡ put_in b (a ∷ l)
two a b l p q =
    ⊎_elim
    (λ s.
    ⊎_elim
    (λ t. let e = equal a b (read a b s) (read b a t) in λ i. put_in (e i) (sym e i ∷ l))
    (λ t. here a b l s ∙ sym (behind b a l t ∙ ap (λ (m : List PlannedVisit). a ∷ m) q))
    (cases_Bool (no_later b a)))
    (λ s. behind a b l s ∙ ap (λ (m : List PlannedVisit). b ∷ m) p ∙ sym (here b a l (turned a b s)))
    (cases_Bool (no_later a b))

-- one before the rest, and one further on
far : (a b x : PlannedVisit) (l : List PlannedVisit) → no_later a x ≡ true → no_later b x ≡ false → put_in a (put_in b (x ∷ l)) ≡ put_in b (put_in a (x ∷ l))
far a b x l s t =
    ap (put_in a) (behind b x l t) ∙ here a x (put_in b l) s
    ∙ sym (ap (put_in b) (here a x l s) ∙ behind b a (x ∷ l) (apart b a x s t) ∙ ap (λ (m : List PlannedVisit). a ∷ m) (behind b x l t))

swap : (a b : PlannedVisit) (l : List PlannedVisit) → put_in a (put_in b l) ≡ put_in b (put_in a l)
swap a b [] = two a b [] refl refl
swap a b (x ∷ l) =
    ⊎_elim
    (λ s.
    ⊎_elim
    (λ t. ap (put_in a) (here b x l t) ∙ two a b (x ∷ l) (here a x l s) (here b x l t) ∙ sym (ap (put_in b) (here a x l s)))
    (λ t. far a b x l s t)
    (cases_Bool (no_later b x)))
    (λ s.
    ⊎_elim
    (λ t. sym (far b a x l t s))
    (λ t. ap (put_in a) (behind b x l t) ∙ behind a x (put_in b l) s ∙ ap (λ (m : List PlannedVisit). x ∷ m) (swap a b l) ∙ sym (ap (put_in b) (behind a x l s) ∙ behind b x (put_in a l) t))
    (cases_Bool (no_later b x)))
    (cases_Bool (no_later a x))

-- ---- the whole list
in_order_as : {a b : List PlannedVisit} → Permᴰ a b → in_order a ≡ in_order b
in_order_as Permᴰ.nil = refl
in_order_as (Permᴰ.cons e p) = λ i. put_in (e i) (in_order_as p i)
in_order_as (Permᴰ.swap {l = l} e f) = swap _ _ (in_order l) ∙ (λ i. put_in (f i) (put_in (e i) (in_order l)))
in_order_as (Permᴰ.trans p q) = in_order_as p ∙ in_order_as q

visit_set : IsSet PlannedVisit
visit_set = hlevel logic.props

pub in_order_perm : (a b : List PlannedVisit) → Perm a b → in_order a ≡ in_order b
in_order_perm a b p = ∥∥₁_elim p (is_set visit_set (in_order a) (in_order b)) (λ d. in_order_as d)

put_front : (v : PlannedVisit) (l : List PlannedVisit) → InOrder VisitNoLater (v ∷ l) → put_in v l ≡ v ∷ l
put_front v [] h = refl
put_front v (x ∷ l) h = here v x l (written v x h.0.0)

pub in_order_still : (l : List PlannedVisit) → InOrder VisitNoLater l → in_order l ≡ l
in_order_still [] h = refl
in_order_still (v ∷ l) h = ap (put_in v) (in_order_still l h.1) ∙ put_front v l h
