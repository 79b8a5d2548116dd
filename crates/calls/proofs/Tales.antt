-- What one call tells the history, by how it was answered.
use Rattle.std.proofs.Common.{◌≡◌, ℕ, zero, suc, ◌+◌, true, false, cond, List, [], ◌∷◌, ◌++◌, length, Some, None, Option, sym, refl, ap, ◌∙◌, subst, append-nil, arith}
use Rattle.stops.specs.declared.slot.Slot.{Slot}
use Rattle.stops.specs.declared.stop.Stop.{Stop}
use Rattle.fleet.specs.Meaning.{Meaning}
use Rattle.fleet.specs.Laws.{Laws}
use Rattle.calls.specs.declared.call.Action.{Action}
use Rattle.calls.specs.declared.call.Action.TheVariants.{Offer, Book, Confirm, Release, Withdraw, Tick}
use Rattle.calls.specs.declared.call.Call.{Call}
use Rattle.calls.specs.declared.call.Request.{Request}
use Rattle.calls.specs.declared.record.Record.{Record}
use Rattle.calls.specs.declared.state.State.{State}
use Rattle.calls.specs.declared.state.State.TheVariants.{Open, Confirmed, Released, Withdrawn}
use Rattle.calls.specs.Answers.{Reply, refusal}
use Rattle.calls.specs.Causes.{Code, action_rows, first, no_room, time_rows}
use Rattle.calls.specs.Histories.{History, acted, added, next_number, passed, untimely}
use Rattle.calls.specs.Lapses.{lapses}
use Rattle.calls.specs.Records.{holding, mark, mark_of, record_at, record_of, state_at, state_of}
use Rattle.calls.specs.Requests.{stop_for}
use Rattle.calls.specs.Steps.{Admits, Answered, Comes, Moves, at_once, in_turn, fully}
use Rattle.calls.specs.Theorem.{counting, number_in}
use Rattle.calls.specs.Views.{success}
use Rattle.calls.proofs.Sound.{Sound, come_sound, go_sound, leave_sound, stay_sound}

-- one call and its reply, as `told` has them
abbrev pub told_by : List Slot → History → Call → Reply → History
told_by table h c a = cond (untimely a) h (acted table (passed c.minute h) c.action a)

-- ---- what is told
-- a refusal of an action does not come at once
later : (table : List Slot) (rs : List Record) (object : Stop → Option ℕ) (a : Action) (k : Code) → first (action_rows table rs (λ s. no_room (object s)) a) ≡ Some k → untimely (refusal k) ≡ false
later table rs object Tick k e = cc
later table rs object _ k e = grind arith

module _ (table : List Slot) (h : History) (c : Call) where
  pub told_at_once : (a : Reply) (k : Code) → first (time_rows h.clock c.minute) ≡ Some k → a ≡ refusal k → told_by table h c a ≡ h
  told_at_once a k e w = grind arith

  pub told_in_turn : (object : Stop → Option ℕ) (a : Reply) (k : Code) → first (action_rows table (passed c.minute h).records (λ s. no_room (object s)) c.action) ≡ Some k → a ≡ refusal k → told_by table h c a ≡ passed c.minute h
  told_in_turn object a k e w = grind (arith, later)

  pub told_fully : (a : Reply) → a ≡ success table c.minute (passed c.minute h).records c.action → told_by table h c a ≡ acted table (passed c.minute h) c.action (success table c.minute (passed c.minute h).records c.action)
  told_fully a w = grind arith

-- ---- the numbers that are given
counting_lapses : (c k : ℕ) (rs : List Record) → counting k (lapses c rs) ≡ counting k rs
counting_lapses c k [] = refl
counting_lapses c k (r ∷ rs) = ap (λ l. k ∷ l) (counting_lapses c (suc k) rs)

counting_mark : (k : ℕ) (rs : List Record) (i : ℕ) (s : State) → counting k (mark rs i s) ≡ counting k rs
counting_mark k [] i s = refl
counting_mark k (r ∷ rs) zero s = refl
counting_mark k (r ∷ rs) (suc i) s = ap (λ l. k ∷ l) (counting_mark (suc k) rs i s)

counting_mark_of : (rs : List Record) (n : ℕ) (s : State) → counting 1 (mark_of rs n s) ≡ counting 1 rs ++ []
counting_mark_of rs zero s = sym (append-nil (counting 1 rs))
counting_mark_of rs (suc i) s = counting_mark 1 rs i s ∙ sym (append-nil (counting 1 rs))

counting_push : (k : ℕ) (rs : List Record) (r : Record) → counting k (rs ++ r ∷ []) ≡ counting k rs ++ (length rs + k) ∷ []
counting_push k [] r = grind arith
counting_push k (x ∷ rs) r = grind (arith, counting_push (suc k) rs r)

-- ---- what is settled stays
module _ (r : Record) (over : holding r.state ≡ false) where
  lapse_at : (c : ℕ) (rs : List Record) (i : ℕ) → record_at rs i ≡ Some r → record_at (lapses c rs) i ≡ Some r
  lapse_at c [] i e = e
  lapse_at c (x ∷ rs) zero e = grind arith
  lapse_at c (x ∷ rs) (suc i) e = lapse_at c rs i e

  lapse_of : (c : ℕ) (rs : List Record) (n : ℕ) → record_of rs n ≡ Some r → record_of (lapses c rs) n ≡ Some r
  lapse_of c rs zero e = e
  lapse_of c rs (suc i) e = lapse_at c rs i e

  push_at : (rs : List Record) (x : Record) (i : ℕ) → record_at rs i ≡ Some r → record_at (rs ++ x ∷ []) i ≡ Some r
  push_at [] x i e = cc
  push_at (y ∷ rs) x zero e = e
  push_at (y ∷ rs) x (suc i) e = push_at rs x i e

  push_of : (h : History) (o : Option Stop) (s : State) (n : ℕ) → record_of h.records n ≡ Some r → record_of (added h o s).records n ≡ Some r
  push_of h None s n e = e
  push_of h (Some x) s zero e = e
  push_of h (Some x) s (suc i) e = push_at h.records _ i e

  mark_at : (rs : List Record) (j i : ℕ) (s s' : State) → state_at rs j ≡ Some s → holding s ≡ true → record_at rs i ≡ Some r → record_at (mark rs j s') i ≡ Some r
  mark_at (x ∷ rs) zero zero s s' a h e = grind arith
  mark_at (x ∷ rs) (suc j) (suc i) s s' a h e = mark_at rs j i s s' a h e
  mark_at rs j i s s' a h e = e

  mark_of_number : (rs : List Record) (j n : ℕ) (s s' : State) → state_of rs j ≡ Some s → holding s ≡ true → record_of rs n ≡ Some r → record_of (mark_of rs j s') n ≡ Some r
  mark_of_number rs zero n s s' a h e = e
  mark_of_number rs (suc j) zero s s' a h e = cc
  mark_of_number rs (suc j) (suc i) s s' a h e = mark_at rs j i s s' a h e

module _ {Setup Standing : Type 0} (m : Meaning Setup Standing) (laws : Laws m) (table : List Slot) (u : Setup) where
  -- an open number, a confirmed one, as the rows want it
  pub found_open : (rs : List Record) (n : ℕ) → first (action_rows table rs (λ s. None) (Confirm n)) ≡ None → (d : ℕ) × (state_of rs n ≡ Some (Open d))
  found_open rs n e = grind arith

  pub found_confirmed : (rs : List Record) (n : ℕ) → first (action_rows table rs (λ s. None) (Withdraw n)) ≡ None → (d : ℕ) × (state_of rs n ≡ Some (Confirmed d))
  found_confirmed rs n e = grind arith

  -- the fleet had nothing against the stop
  unobjected : (h : History) (w : Standing) (q : Request) (s : Stop) → Admits m table u h w (Offer q) → stop_for table q ≡ Some s → m.objection u w s ≡ None
  unobjected h w q s e o = grind arith

  come : (h : History) (w v : Standing) (q : Request) (st : State) → holding st ≡ true → Sound m laws table u h.records w → Admits m table u h w (Offer q) → Comes m table u h q w v → Sound m laws table u (added h (stop_for table q) st).records v
  come h w v q st k ok e g =
      subst (λ (x : Option Stop). Sound m laws table u (added h x st).records v) (sym g.offered)
      (subst (λ (x : Standing). Sound m laws table u (added h (Some g.stop) st).records x) (sym g.placed)
      (come_sound m laws table u h.records w g.stop st ok k (unobjected h w q g.stop e g.offered)))

  act_sound : (h : History) (w v : Standing) (a : Action) → Sound m laws table u h.records w → Admits m table u h w a → Moves m table u h a w v → Sound m laws table u (acted table h a (success table h.clock h.records a)).records v
  act_sound h w v (Offer q) ok e g = come h w v q _ refl ok e g
  act_sound h w v (Book q) ok e g = come h w v q _ refl ok e g
  act_sound h w v (Confirm n) ok e g = let f = found_open h.records n e in subst (λ (x : Standing). Sound m laws table u (mark_of h.records n (Confirmed h.clock)) x) (sym g) (stay_sound m laws table u h.records w n (Open f.0) (Confirmed h.clock) ok f.1 refl)
  act_sound h w v (Release n) ok e g = let f = found_open h.records n e in go_sound m laws table u h.records w v n (Open f.0) (Released h.clock) ok f.1 refl g
  act_sound h w v (Withdraw n) ok e g = let f = found_confirmed h.records n e in go_sound m laws table u h.records w v n (Confirmed f.0) (Withdrawn h.clock) ok f.1 refl g
  act_sound h w v Tick ok e g = grind arith

  -- the fleet stays in step over a call
  pub step_sound : (h : History) (t : Standing) (c : Call) (a : Reply) (v : Standing) → Answered m table u h t c a v → Sound m laws table u h.records t → Sound m laws table u (told_by table h c a).records v
  step_sound h t c a v (at_once k e w g) ok = grind arith
  step_sound h t c a v (in_turn k e l r w) ok =
      subst (λ (x : History). Sound m laws table u x.records v) (sym (told_in_turn table h c (m.objection u v) a k r w)) (leave_sound m laws table u c.minute h.records t v l ok)
  step_sound h t c a v (fully s e l n w g) ok =
      subst (λ (x : History). Sound m laws table u x.records v) (sym (told_fully table h c a w)) (act_sound (passed c.minute h) s v c.action (leave_sound m laws table u c.minute h.records t s l ok) n g)

  -- ---- numbers
  abbrev Counts : History → Reply → History → Type 0
  Counts h a g = counting 1 g.records ≡ counting 1 h.records ++ number_in a

  come_counts : (h : History) (w v : Standing) (q : Request) (st : State) → Comes m table u h q w v → counting 1 (added h (stop_for table q) st).records ≡ counting 1 h.records ++ next_number h.records ∷ []
  come_counts h w v q st g = grind (arith, counting_push)

  act_counts : (h : History) (w v : Standing) (a : Action) → Moves m table u h a w v → Counts h (success table h.clock h.records a) (acted table h a (success table h.clock h.records a))
  act_counts h w v (Offer q) g = come_counts h w v q _ g
  act_counts h w v (Book q) g = come_counts h w v q _ g
  act_counts h w v Tick g = sym (append-nil (counting 1 h.records))
  act_counts h w v _ g = grind (arith, counting_mark_of)

  passed_counts : (minute : ℕ) (h : History) → counting 1 (passed minute h).records ≡ counting 1 h.records
  passed_counts minute h = counting_lapses minute 1 h.records

  -- a call gives the number that its reply names
  pub step_counts : (h : History) (t : Standing) (c : Call) (a : Reply) (v : Standing) → Answered m table u h t c a v → Counts h a (told_by table h c a)
  step_counts h t c a v (at_once k e w g) = ap (λ (x : History). counting 1 x.records) (told_at_once table h c a k e w) ∙ sym (append-nil (counting 1 h.records)) ∙ sym (ap (λ x. counting 1 h.records ++ number_in x) w)
  step_counts h t c a v (in_turn k e l r w) =
      ap (λ (x : History). counting 1 x.records) (told_in_turn table h c (m.objection u v) a k r w) ∙ passed_counts c.minute h ∙ sym (append-nil (counting 1 h.records)) ∙ sym (ap (λ x. counting 1 h.records ++ number_in x) w)
  step_counts h t c a v (fully s e l n w g) = grind (arith, act_counts, passed_counts)

  -- ---- settled numbers
  module _ (r : Record) (over : holding r.state ≡ false) (n : ℕ) where
    act_settled : (h : History) (w : Standing) (a : Action) → Admits m table u h w a → record_of h.records n ≡ Some r → record_of (acted table h a (success table h.clock h.records a)).records n ≡ Some r
    act_settled h w (Offer q) e k = grind (arith, push_of)
    act_settled h w (Book q) e k = grind (arith, push_of)
    act_settled h w Tick e k = k
    act_settled h w _ e k = grind (arith, mark_of_number)

    -- a number that is released, lapsed or withdrawn keeps its record over a call
    pub step_settled : (h : History) (t : Standing) (c : Call) (a : Reply) (v : Standing) → Answered m table u h t c a v → record_of h.records n ≡ Some r → record_of (told_by table h c a).records n ≡ Some r
    step_settled h t c a v (at_once k e w g) f = grind arith
    step_settled h t c a v (in_turn k e l q w) f = grind (arith, lapse_of)
    step_settled h t c a v (fully s e l o w g) f = ap (λ (x : History). record_of x.records n) (told_fully table h c a w) ∙ act_settled (passed c.minute h) s c.action o (lapse_of r over c.minute h.records n f)
