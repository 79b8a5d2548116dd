-- Rows of the account from one number to another.
use Rattle.std.proofs.Common.{◌≡◌, ℕ, zero, suc, ◌+◌, ◌-◌, ◌<◌, ◌≤◌, List, [], ◌∷◌, ◌++◌, length, Some, sym, refl, ap, ◌∙◌, append_assoc, arith}
use Rattle.calls.specs.declared.record.Record.{Record}
use Rattle.calls.specs.Records.{record_at, record_of}
use Rattle.sheets.specs.Accounts.{Joins, account_names, row, row_if, rows_from, rows_of, stretch}

-- the first row of a stretch, and the rest
pub rows_step : (rs : List Record) (n to : ℕ) → n < to → stretch rs n to ≡ row_if n (record_of rs n) ++ stretch rs (n + 1) to
rows_step rs n to h =
    let k : to - n ≡ suc (to - (n + 1)) = omega arith in
    let m : suc n ≡ n + 1 = omega arith in
    ap (rows_of rs n) k ∙ ap (λ j. row_if n (record_of rs n) ++ rows_of rs j (to - (n + 1))) m

pub rows_none : (rs : List Record) (n to : ℕ) → to ≤ n → stretch rs n to ≡ []
rows_none rs n to h = let k : to - n ≡ 0 = omega arith in ap (rows_of rs n) k

-- ---- stretches go together
rows_meet : (rs : List Record) (n a b : ℕ) → rows_of rs n (a + b) ≡ rows_of rs n a ++ rows_of rs (n + a) b
rows_meet rs n zero b = let p : 0 + b ≡ b = omega arith in let q : n ≡ n + 0 = omega arith in ap (rows_of rs n) p ∙ ap (λ k. rows_of rs k b) q
rows_meet rs n (suc a) b =
    let p : suc a + b ≡ suc (a + b) = omega arith in
    let q : suc n + a ≡ n + suc a = omega arith in
    ap (rows_of rs n) p ∙ ap (λ l. row_if n (record_of rs n) ++ l) (rows_meet rs (suc n) a b) ∙ sym (append_assoc (row_if n (record_of rs n)) (rows_of rs (suc n) a) (rows_of rs (suc n + a) b))
    ∙ ap (λ k. (row_if n (record_of rs n) ++ rows_of rs (suc n) a) ++ rows_of rs k b) q

meets : (rs : List Record) (a b c : ℕ) → a ≤ b → b ≤ c → stretch rs a b ++ stretch rs b c ≡ stretch rs a c
meets rs a b c h k =
    let p : a + (b - a) ≡ b = omega arith in
    let q : (b - a) + (c - b) ≡ c - a = omega arith in
    ap (λ x. stretch rs a b ++ rows_of rs x (c - b)) (sym p) ∙ sym (rows_meet rs a (b - a) (c - b)) ∙ ap (rows_of rs a) q

-- the rows of the records behind the first i
rows_behind : (all rs : List Record) (k : ℕ) → ((i : ℕ) → record_of all (k + i) ≡ record_at rs i) → rows_of all k (length rs) ≡ rows_from k rs
rows_behind all [] k h = refl
rows_behind all (r ∷ rs) k h =
    let z : k + 0 ≡ k = omega arith in
    let here : record_of all k ≡ Some r = ap (record_of all) (sym z) ∙ h 0 in
    ap (λ o. row_if k o ++ rows_of all (suc k) (length rs)) here
    ∙ ap (λ l. row k r ++ l) (rows_behind all rs (suc k) (λ i. let s : suc k + i ≡ k + suc i = omega arith in ap (record_of all) s ∙ h (suc i)))

pub joins : (rs : List Record) → Joins rs
joins rs = record {
  meet = meets rs;
  whole =
      let n : length rs + 1 - 1 ≡ length rs = omega arith in
      ap (λ l. account_names ++ l) (ap (rows_of rs 1) n ∙ rows_behind rs rs 1 (λ i. let s : 1 + i ≡ suc i = omega arith in ap (record_of rs) s));
}
