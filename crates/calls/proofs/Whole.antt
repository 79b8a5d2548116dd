-- The whole theorem, from how the run goes; for an opened book, and from call to call.
use Rattle.std.proofs.Common.{◌≡◌, ℕ, zero, suc, ◌+◌, ◌≤◌, true, false, List, [], ◌∷◌, ◌++◌, length, Some, Result, sym, refl, ap, ◌∙◌, subst, append_assoc, append-nil, arith}
use mathlib.Core.List.Perm
use Rattle.std.proofs.lemmas.Bool.{or_right}
use Rattle.stops.specs.declared.refusal.Refusal.{Refusal}
use Rattle.stops.specs.declared.slot.Slot.{Slot}
use Rattle.stops.specs.Limits.{slot_limit}
use Rattle.fleet.specs.Laws.{Laws, Within}
use Rattle.fleet.specs.Meaning.{Meaning}
use Rattle.calls.specs.declared.answer.Answer.{Answer}
use Rattle.calls.specs.declared.call.Call.{Call}
use Rattle.calls.specs.declared.entry.Entry.{Entry}
use Rattle.calls.specs.declared.record.Record.{Record}
use Rattle.calls.specs.Answers.{Reply, reply}
use Rattle.calls.specs.Histories.{History, begun, history, onward, told}
use Rattle.calls.specs.Records.{holding, is_confirmed, is_open, record_of}
use Rattle.calls.specs.Steps.{Answered, Follows}
use Rattle.calls.specs.Theorem.{Theorem, counting, number_in, numbers_in}
use Rattle.calls.specs.Views.{View, call_leaves, call_reply, opened}
use Rattle.calls.proofs.Loads.{held_mem}
use Rattle.calls.proofs.Sound.{Sound, begun_sound}
use Rattle.calls.proofs.Steps.{Stepped, call_steps, history_of}
use Rattle.calls.proofs.Tales.{step_counts, step_settled, step_sound}

module _ {Setup Standing : Type 0} (m : Meaning Setup Standing) (laws : Laws m) (table : List Slot) (u : Setup) where
  -- ---- over a whole log
  run_sound : (log : List Entry) (h : History) (t v : Standing) → Follows m table u h t log v → Sound m laws table u h.records t → Sound m laws table u (onward table h log).records v
  run_sound [] h t v f ok = grind arith
  run_sound (e ∷ log) h t v f ok = run_sound log (told table h e) f.0 v f.2 (step_sound m laws table u h t e.call (reply e.answer) f.0 f.1 ok)

  run_counts : (log : List Entry) (h : History) (t v : Standing) → Follows m table u h t log v → counting 1 h.records ++ numbers_in log ≡ counting 1 (onward table h log).records
  run_counts [] h t v f = append-nil (counting 1 h.records)
  run_counts (e ∷ log) h t v f =
      sym (append_assoc (counting 1 h.records) (number_in (reply e.answer)) (numbers_in log))
      ∙ ap (λ l. l ++ numbers_in log) (sym (step_counts m laws table u h t e.call (reply e.answer) f.0 f.1)) ∙ run_counts log (told table h e) f.0 v f.2

  run_settled : (r : Record) → holding r.state ≡ false → (n : ℕ) (log : List Entry) (h : History) (t v : Standing) → Follows m table u h t log v → record_of h.records n ≡ Some r → record_of (onward table h log).records n ≡ Some r
  run_settled r over n [] h t v f e = e
  run_settled r over n (x ∷ log) h t v f e = run_settled r over n log (told table h x) f.0 v f.2 (step_settled m laws table u r over n h t x.call (reply x.answer) f.0 f.1 e)

  -- a log that is cut in two
  onward_cut : (before behind : List Entry) (h : History) → onward table h (before ++ behind) ≡ onward table (onward table h before) behind
  onward_cut [] behind h = refl
  onward_cut (e ∷ before) behind h = onward_cut before behind (told table h e)

  run_cut : (before behind : List Entry) (h : History) (t v : Standing) → Follows m table u h t (before ++ behind) v → (w : Standing) × Follows m table u (onward table h before) w behind v
  run_cut [] behind h t v f = (t, f)
  run_cut (e ∷ before) behind h t v f = run_cut before behind (told table h e) f.0 v f.2

  -- one entry more
  run_more : (log : List Entry) (e : Entry) (h : History) (t w v : Standing) → Follows m table u h t log w → Answered m table u (onward table h log) w e.call (reply e.answer) v → Follows m table u h t (log ++ e ∷ []) v
  run_more [] e h t w v f a = (v, subst (λ (x : Standing). Answered m table u h x e.call (reply e.answer) v) f a, refl)
  run_more (x ∷ log) e h t w v f a = (f.0, f.1, run_more log e (told table h x) f.0 w v f.2 a)

  seen_by : (t : Standing) (rs : List Record) → Sound m laws table u rs t → m.routed ≡ true → (n : ℕ) (r : Record) → record_of rs n ≡ Some r → is_confirmed (Some r.state) ≡ true → Within r.stop (m.visit u t n)
  seen_by t rs ok y zero r e h = cc
  seen_by t rs ok y (suc i) r e h =
      let k : 1 + i ≡ suc i = omega arith in
      subst (λ n. Within r.stop (m.visit u t n)) k (laws.visits u t (1 + i) r.stop y ok.reached ((Perm.mem_iff ok.linked).1 (held_mem 1 i rs r e (or_right (is_open (Some r.state)) (is_confirmed (Some r.state)) h))))

  -- the theorem follows from how the run goes
  pub whole : (log : List Entry) (b : View Setup Standing) → b.table ≡ table → b.setup ≡ u → history_of m laws b ≡ history table log → Follows m table u begun (m.cleared u) log b.standing → Theorem m table u log b
  whole log b et eu eh f =
      let ok : Sound m laws table u (history table log).records b.standing = run_sound log begun (m.cleared u) b.standing f (begun_sound m laws table u) in
      let er : b.records ≡ (history table log).records = ap (λ (h : History). h.records) eh in
      record {
        kept = (et, eu);
        clocked = ap (λ (h : History). h.clock) eh;
        answered = f;
        given = run_counts log begun (m.cleared u) b.standing f ∙ sym (ap (counting 1) er);
        recorded = er;
        settled = λ before behind n r cut e over.
            let g : Follows m table u begun (m.cleared u) (before ++ behind) b.standing = subst (λ (l : List Entry). Follows m table u begun (m.cleared u) l b.standing) cut f in
            let part = run_cut before behind begun (m.cleared u) b.standing g in
            ap (λ (l : List Record). record_of l n) er ∙ ap (λ (l : List Entry). record_of (history table l).records n) cut ∙ ap (λ (h : History). record_of h.records n) (onward_cut before behind begun)
            ∙ run_settled r over n behind (history table before) part.0 b.standing part.1 e;
        held = ok.linked;
        ruled = laws.keeps u b.standing ok.reached;
        visited = λ y n r e c. seen_by b.standing (history table log).records ok y n r e c;
      }

  -- a newly opened book
  pub whole_opened : Theorem m table u [] (opened m table u)
  whole_opened = whole [] (opened m table u) refl refl refl refl

module _ {Setup Standing : Type 0} (m : Meaning Setup Standing) (laws : Laws m) where
  -- over the book's own table and set-up
  own_passes : (b g : View Setup Standing) (c : Call) (a : Result Answer Refusal) (log : List Entry) → length b.table ≤ slot_limit → reply a ≡ call_reply m b c → g ≡ call_leaves m b c → Theorem m b.table b.setup log b → Theorem m b.table b.setup (log ++ record { call = c; answer = a } ∷ []) g
  own_passes b g c a log few ea eg t =
      let eh : history_of m laws b ≡ history b.table log = λ i. record { clock = t.clocked i; records = t.recorded i } in
      let ok : Sound m laws b.table b.setup b.records b.standing = subst (λ (h : History). Sound m laws b.table b.setup h.records b.standing) (sym eh) (run_sound m laws b.table b.setup log begun (m.cleared b.setup) b.standing t.answered (begun_sound m laws b.table b.setup)) in
      let s : Stepped m laws b c (reply a) g = subst (λ (x : View Setup Standing). Stepped m laws b c (reply a) x) (sym eg) (subst (λ (x : Reply). Stepped m laws b c x (call_leaves m b c)) (sym ea) (call_steps m laws b c ok few)) in
      let e : Entry = record { call = c; answer = a } in
      whole m laws b.table b.setup (log ++ e ∷ []) g s.kept.0 s.kept.1
      (sym s.tells ∙ ap (λ (h : History). told b.table h e) eh ∙ sym (onward_cut m laws b.table b.setup log (e ∷ []) begun))
      (run_more m laws b.table b.setup log e begun (m.cleared b.setup) b.standing g.standing t.answered
      (subst (λ (h : History). Answered m b.table b.setup h b.standing c (reply a) g.standing) eh s.answered))

  -- what holds for a log passes on to the log with one more call and its answer
  pub passes : (b g : View Setup Standing) (c : Call) (a : Result Answer Refusal) → length b.table ≤ slot_limit → reply a ≡ call_reply m b c → g ≡ call_leaves m b c → (table : List Slot) (u : Setup) (log : List Entry) → Theorem m table u log b → Theorem m table u (log ++ record { call = c; answer = a } ∷ []) g
  passes b g c a few ea eg table u log t =
      subst (λ (x : List Slot). Theorem m x u (log ++ record { call = c; answer = a } ∷ []) g) t.kept.0
      (subst (λ (x : Setup). Theorem m b.table x (log ++ record { call = c; answer = a } ∷ []) g) t.kept.1
      (own_passes b g c a log few ea eg
      (subst (λ (x : List Slot). Theorem m x b.setup log b) (sym t.kept.0) (subst (λ (x : Setup). Theorem m table x log b) (sym t.kept.1) t))))
