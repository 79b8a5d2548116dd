-- What a call is defined to answer and to leave is what the relation over histories and standings asks, where the fleet is in step.
use Rattle.std.proofs.Common.{◌≡◌, ℕ, ◌≤◌, Bool, true, false, cond, not, leb, List, [], ◌∷◌, ◌++◌, length, is_some, Some, None, Err, Option, sym, refl, ap, ◌∙◌, arith}
use Rattle.std.specs.List.{slice_get}
use Rattle.std.specs.Result.{result_err}
use Rattle.std.proofs.lemmas.Option.{slice_get_within}
use Rattle.std.proofs.lemmas.Bool.Decides.{nat_tests}
use Rattle.stops.specs.declared.place.Place.{Place}
use Rattle.stops.specs.declared.slot.Slot.{Slot}
use Rattle.stops.specs.declared.stop.Stop.{Stop}
use Rattle.stops.specs.Limits.{last_slot, slot_limit, unit_limit}
use Rattle.stops.specs.Places.{place_of}
use Rattle.stops.specs.Stops.{stop_of}
use Rattle.stops.proofs.Made.{stop_made}
use Rattle.fleet.specs.Loads.{held}
use Rattle.fleet.specs.Laws.{Laws}
use Rattle.fleet.specs.Meaning.{Meaning, unless_objected}
use Rattle.calls.specs.declared.call.Action.{Action}
use Rattle.calls.specs.declared.call.Action.TheVariants.{Offer, Book, Release, Withdraw}
use Rattle.calls.specs.declared.call.Call.{Call}
use Rattle.calls.specs.declared.call.Request.{Request}
use Rattle.calls.specs.declared.state.State.{State}
use Rattle.calls.specs.Answers.{Reply, refusal}
use Rattle.calls.specs.Causes.{Code, action_rows, first, no_room, offer_rows, row, stop_rows, time_rows}
use Rattle.calls.specs.Histories.{History, acted, next_number}
use Rattle.calls.specs.Limits.{number_limit}
use Rattle.calls.specs.Records.{holding, state_of}
use Rattle.calls.specs.Requests.{stop_for, with_some}
use Rattle.calls.specs.Steps.{Admits, Answered, Comes, Goes, Moves, at_once, in_turn, fully}
use Rattle.calls.specs.Views.{View, act_leaves, act_reply, call_leaves, call_reply, done_by, passed_to, place_next, success, taken, unless_refused, why, with_number}
use Rattle.calls.proofs.Rows.{each_none, none_each, row_none, with_same}
use Rattle.calls.proofs.Sound.{Sound, lapse_leaves, leave_sound, next_free, take_held, there}
use Rattle.calls.proofs.Tales.{found_confirmed, found_open, told_at_once, told_by, told_fully, told_in_turn}

-- ---- a request of which no row holds has a stop
some_of : {X : Type 0} (o : Option X) → not (is_some o) ≡ false → (x : X) × (o ≡ Some x)
some_of None e = cc
some_of (Some x) e = (x, refl)

pub wanted_stop : (table : List Slot) (q : Request) → length table ≤ slot_limit → first (stop_rows table q) ≡ None → (s : Stop) × (stop_for table q ≡ Some s)
wanted_stop table q few e =
    let each = none_each (stop_rows table q) e in
    let p = some_of (place_of q.x q.y) (row_none 3 _ each.0) in
    let h = some_of (slice_get table q.slot) (row_none 5 _ each.1.1.0) in
    let units = row_none 4 _ each.1.0 in
    let a : q.slot ≤ last_slot = let w = slice_get_within table q.slot h.0 h.1 in omega arith in
    let b : 1 ≤ q.units = grind (arith, nat_tests) in
    let c : q.units ≤ unit_limit = grind (arith, nat_tests) in
    let made = stop_made q.slot q.units h.0 p.0 q.class a b c in (
      _,
      ap (λ (o : Option Place). with_some o (λ place. with_some (slice_get table q.slot) (λ hours. stop_of q.slot hours place q.units q.class))) p.1
          ∙ ap (λ (o : Option Slot). with_some o (λ hours. stop_of q.slot hours p.0 q.units q.class)) h.1 ∙ made,
    )

-- where a number is not held, a place is refused just for the objection
failed_place : (b : Bool) (o : Option ℕ) → b ≡ false → result_err (cond b (Err (19, [])) (unless_objected o)) ≡ no_room o
failed_place true o e = cc
failed_place false None e = refl
failed_place false (Some d) e = refl

module _ {Setup Standing : Type 0} (m : Meaning Setup Standing) (laws : Laws m) where
  -- the history that goes with a book
  abbrev pub history_of : View Setup Standing → History
  history_of b = record { clock = b.clock; records = b.records }

  -- the fleet of a book is in step with its records
  abbrev pub SoundBook : View Setup Standing → Type 0
  SoundBook b = Sound m laws b.table b.setup b.records b.standing

  module _ (b : View Setup Standing) (ok : SoundBook b) where
    abbrev against : Stop → Option Code
    against s = no_room (m.objection b.setup b.standing s)

    same_offer : (q : Request) → first (offer_rows b.table b.records (place_next m b) q) ≡ first (offer_rows b.table b.records against q)
    same_offer q =
        ap (λ x. first (stop_rows b.table q ++ (row 6 (leb number_limit (length b.records)) ∷ (x ∷ []))))
        (with_same (stop_for b.table q) (place_next m b) against (λ s. failed_place (held (next_number b.records) (m.load b.standing)) (m.objection b.setup b.standing s) (next_free m laws b.table b.setup b.records b.standing ok)))

    -- the rows of the definition are those of the relation
    same_rows : (a : Action) → why m b a ≡ first (action_rows b.table b.records against a)
    same_rows (Offer q) = same_offer q
    same_rows (Book q) = same_offer q
    same_rows _ = refl

    module _ (few : length b.table ≤ slot_limit) where
      comes : (q : Request) (s : State) → Admits m b.table b.setup (history_of b) b.standing (Offer q) → Comes m b.table b.setup (history_of b) q b.standing (with_number m b (stop_for b.table q) s).standing
      comes q s e =
          let none = none_each (offer_rows b.table b.records against q) e in
          let w = wanted_stop b.table q few (each_none (stop_rows b.table q) (none.0, (none.1.0, (none.1.1.0, tt)))) in
          record {
            stop = w.0;
            offered = w.1;
            fresh = next_free m laws b.table b.setup b.records b.standing ok;
            placed = ap (λ (o : Option Stop). (with_number m b o s).standing) w.1;
          }

      goes : (n : ℕ) (s : State) → state_of b.records n ≡ Some s → holding s ≡ true → Goes m b.table b.setup n b.standing (taken m b.setup b.standing n)
      goes n s e h = let t = there m laws b.table b.setup b.records b.standing n s ok e h in record { there = t; removed = take_held m laws b.table b.setup b.standing n t }

      -- the standing moves as the relation asks
      moves : (a : Action) → Admits m b.table b.setup (history_of b) b.standing a → Moves m b.table b.setup (history_of b) a b.standing (done_by m b a).standing
      moves (Offer q) e = comes q _ e
      moves (Book q) e = comes q _ e
      moves (Release n) e = grind (arith, found_open, goes)
      moves (Withdraw n) e = grind (arith, found_confirmed, goes)
      moves _ e = refl

    -- and the records as the history tells
    done_history : (a : Action) → acted b.table (history_of b) a (success b.table b.clock b.records a) ≡ history_of (done_by m b a)
    done_history (Offer q) = grind arith
    done_history (Book q) = grind arith
    done_history _ = refl

  done_kept : (b : View Setup Standing) (a : Action) → ((done_by m b a).table ≡ b.table) × ((done_by m b a).setup ≡ b.setup)
  done_kept b (Offer q) = grind arith
  done_kept b (Book q) = grind arith
  done_kept b _ = (refl, refl)

  -- What a call with this reply comes to, from b to g.
  pub record Stepped (b : View Setup Standing) (c : Call) (a : Reply) (g : View Setup Standing) : Type 0 where
    pub answered : Answered m b.table b.setup (history_of b) b.standing c a g.standing
    pub tells : told_by b.table (history_of b) c a ≡ history_of g
    pub kept : (g.table ≡ b.table) × (g.setup ≡ b.setup)

  module _ (b : View Setup Standing) (c : Call) (ok : SoundBook b) (few : length b.table ≤ slot_limit) where
    abbrev lapsed_book : View Setup Standing
    lapsed_book = passed_to m c.minute b

    lapsed_ok : SoundBook lapsed_book
    lapsed_ok = leave_sound m laws b.table b.setup c.minute b.records b.standing lapsed_book.standing (lapse_leaves m laws b.table b.setup c.minute b.records b.standing ok) ok

    by_rows : first (time_rows b.clock c.minute) ≡ None → (o : Option Code) → why m lapsed_book c.action ≡ o → Stepped b c (unless_refused o refusal (success b.table c.minute lapsed_book.records c.action)) (unless_refused o (λ k. lapsed_book) (done_by m lapsed_book c.action))
    by_rows e (Some k) w =
        let r = sym (same_rows lapsed_book lapsed_ok c.action) ∙ w in
        record {
          answered = in_turn k e (lapse_leaves m laws b.table b.setup c.minute b.records b.standing ok) r refl;
          tells = told_in_turn b.table (history_of b) c (m.objection b.setup lapsed_book.standing) (refusal k) k r refl;
          kept = (refl, refl);
        }
    by_rows e None w =
        let r = sym (same_rows lapsed_book lapsed_ok c.action) ∙ w in
        record {
          answered = fully lapsed_book.standing e (lapse_leaves m laws b.table b.setup c.minute b.records b.standing ok) r refl (moves lapsed_book lapsed_ok few c.action r);
          tells = told_fully b.table (history_of b) c _ refl ∙ done_history lapsed_book lapsed_ok c.action;
          kept = done_kept lapsed_book c.action;
        }

    by_time : (o : Option Code) → first (time_rows b.clock c.minute) ≡ o → Stepped b c (unless_refused o refusal (act_reply m lapsed_book c.action)) (unless_refused o (λ k. b) (act_leaves m lapsed_book c.action))
    by_time (Some k) e = record { answered = at_once k e refl refl; tells = told_at_once b.table (history_of b) c (refusal k) k e refl; kept = (refl, refl) }
    by_time None e = by_rows e (why m lapsed_book c.action) refl

    -- every call of a book whose fleet is in step
    pub call_steps : Stepped b c (call_reply m b c) (call_leaves m b c)
    call_steps = by_time (first (time_rows b.clock c.minute)) refl
