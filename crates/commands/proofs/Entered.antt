-- A line written from an entry is read as that entry.
use Rattle.std.proofs.Common.{◌≡◌, ℕ, ◌<◌, ◌≤◌, true, false, [], ◌∷◌, length, Some, Ok, codes, decimal, ap, ◌∙◌, arith, length-append}
use Rattle.std.proofs.lemmas.Fmt.{length-decimal-le}
use Rattle.layers.specs.Figures.{share_of, weight_of}
use Rattle.layers.specs.Limits.{place_limit, weight_limit}
use Rattle.stops.specs.Limits.{last_minute}
use Rattle.stops.proofs.Made.{most, slot_made}
use Rattle.text.specs.Parts.{fields}
use Rattle.text.specs.Spaced.{Bare}
use Rattle.text.proofs.Back.{bare_decimal, fields_spaced, plain_decimal}
use Rattle.vans.specs.declared.van.Van.{Van}
use Rattle.vans.specs.Limits.{load_limit}
use Rattle.vans.specs.Vans.{van_of}
use Rattle.commands.specs.declared.setup.entry.SlotEntry.{SlotEntry}
use Rattle.commands.specs.Entries.{slot_entry, van_entry}
use Rattle.commands.specs.Setups.{begins, is_letter}
use Rattle.commands.specs.Sheets.{slot_text, van_text}
use Rattle.commands.specs.Values.{letter_of}

-- a letter has no space in it
pub letter_bare : (c : ℕ) → (c ≡ 32 → ⊥) → Bare (c ∷ [])
letter_bare c not Prim.Native.Nat.zero lt e = not e
letter_bare c not (Prim.Native.Nat.suc k) lt e = absurd (omega arith)

-- a figure of a sheet is below 100,000
pub five : (n : ℕ) → n < 100000 → length (decimal n) ≤ 5
five n h = length-decimal-le 5 n (omega arith) h (omega arith)

-- ---- an S line
module _ (e : SlotEntry) where
  opens_few : e.slot.opens < 100000
  opens_few = omega (arith, e.slot.apart, e.slot.day)

  closes_few : e.slot.closes < 100000
  closes_few = omega (arith, e.slot.day)

  places_few : e.share.places < 100000
  places_few = omega (arith, e.share.few)

  kept_few : e.share.kept < 100000
  kept_few = omega (arith, e.share.within, e.share.few)

  units_few : e.weight.count < 100000
  units_few = omega (arith, e.weight.few)

  pub slot_fields_back : fields (slot_text e) ≡ codes "S" ∷ (decimal e.slot.opens ∷ (decimal e.slot.closes ∷ (decimal e.share.places ∷ (decimal e.share.kept ∷ (decimal e.weight.count ∷ [])))))
  slot_fields_back =
      fields_spaced (codes "S") _ (letter_bare 83 (λ q. omega (arith, q)))
      (bare_decimal _ (omega (arith, opens_few)), (bare_decimal _ (omega (arith, closes_few)), (bare_decimal _ (omega (arith, places_few)), (bare_decimal _ (omega (arith, kept_few)), (bare_decimal _ (omega (arith, units_few)), tt)))))

  pub slot_begins : begins 83 (slot_text e) ≡ true
  slot_begins = ap (λ fs. is_letter 83 (letter_of fs)) slot_fields_back

  pub slot_length : length (slot_text e) ≤ 80
  slot_length =
      let a = five e.slot.opens opens_few in
      let b = five e.slot.closes closes_few in
      let c = five e.share.places places_few in
      let d = five e.share.kept kept_few in
      let f = five e.weight.count units_few in
      simp length-append (omega arith)

  pub slot_back : slot_entry (fields (slot_text e)) ≡ Ok e
  slot_back =
      let share : share_of e.share.places e.share.kept ≡ Some e.share = most e.share.kept e.share.places _ e.share.within ∙ most e.share.places place_limit _ e.share.few in
      let weight : weight_of e.weight.count ≡ Some e.weight = most e.weight.count weight_limit _ e.weight.few in
      ap slot_entry slot_fields_back
      ∙ simp (plain_decimal e.slot.opens (omega (arith, opens_few)), plain_decimal e.slot.closes (omega (arith, closes_few)), plain_decimal e.share.places (omega (arith, places_few)), plain_decimal e.share.kept (omega (arith, kept_few)), plain_decimal e.weight.count (omega (arith, units_few)), slot_made e.slot, share, weight)

-- ---- a V line
module _ (v : Van) where
  limit_few : v.limit < 100000
  limit_few = omega (arith, v.most)

  start_few : v.start < 100000
  start_few = omega (arith, v.ordered, v.day)

  end_few : v.end < 100000
  end_few = omega (arith, v.day)

  pub van_fields_back : fields (van_text v) ≡ codes "V" ∷ (decimal v.limit ∷ (decimal v.start ∷ (decimal v.end ∷ [])))
  van_fields_back =
      fields_spaced (codes "V") _ (letter_bare 86 (λ q. omega (arith, q)))
      (bare_decimal _ (omega (arith, limit_few)), (bare_decimal _ (omega (arith, start_few)), (bare_decimal _ (omega (arith, end_few)), tt)))

  pub van_begins : begins 86 (van_text v) ≡ true
  van_begins = ap (λ fs. is_letter 86 (letter_of fs)) van_fields_back

  -- it ends the S lines
  pub van_other : begins 83 (van_text v) ≡ false
  van_other = ap (λ fs. is_letter 83 (letter_of fs)) van_fields_back

  pub van_length : length (van_text v) ≤ 80
  van_length =
      let a = five v.limit limit_few in
      let b = five v.start start_few in
      let c = five v.end end_few in
      simp length-append (omega arith)

  pub van_back : van_entry (fields (van_text v)) ≡ Ok v
  van_back =
      let van : van_of v.limit v.start v.end ≡ Some v = most 1 v.limit _ v.some ∙ (most v.limit load_limit _ v.most ∙ (most v.start v.end _ v.ordered ∙ most v.end last_minute _ v.day)) in
      ap van_entry van_fields_back
      ∙ simp (plain_decimal v.limit (omega (arith, limit_few)), plain_decimal v.start (omega (arith, start_few)), plain_decimal v.end (omega (arith, end_few)), van)
