-- One call more in a log.
use Rattle.std.proofs.Common.{◌≡◌, ℕ, ◌+◌, ◌<◌, List, [], ◌∷◌, ◌++◌, length, get_or, take, Result, ap, ◌∙◌}
use Rattle.std.proofs.lemmas.List.{map-append, take_more}
use Rattle.stops.specs.declared.refusal.Refusal.{Refusal}
use Rattle.fleet.specs.declared.interface.Fleet.{Ghosts}
use Rattle.calls.specs.declared.answer.Answer.{Answer}
use Rattle.calls.specs.declared.call.Call.{Call}
use Rattle.calls.specs.declared.entry.Entry.{Entry}
use Rattle.calls.specs.Answers.{reply}
use Rattle.calls.specs.Theorem.{Theorem}
use Rattle.calls.specs.Views.{View, call_leaves, call_reply, run_leaves, run_replies}
use Rattle.calls.proofs.Runs.{leaves_more, replies_more}
use Rattle.book.specs.declared.book.Book.{Book}
use Rattle.book.specs.Books.{Does, Passes, view}
use Rattle.book.specs.Runs.{calls_of, replies_of}

module _ {F : Type 0} (f : Ghosts F) (b : View f.Setup f.Standing) where
  -- what is promised of a log and a book, where these calls were made from b on
  pub record Upto (log : List Entry) (book : Book F) (calls : List Call) : Type 0 where
    pub logged : calls_of log ≡ calls
    pub theorem : Theorem f.meaning b.table b.setup log (view f book)
    pub replies : replies_of log ≡ run_replies f.meaning b calls
    pub leaves : view f book ≡ run_leaves f.meaning b calls

  pub one_more : (log more : List Entry) (old new : Book F) (calls : List Call) (i : ℕ) (d : Call) (a : Result Answer Refusal) → i < length calls → more ≡ log ++ record { call = get_or calls i d; answer = a } ∷ [] → Does f old (get_or calls i d) a new → Passes f old (get_or calls i d) a new → Upto log old (take i calls) → Upto more new (take (i + 1) calls)
  one_more log more old new calls i d a h e does passes up =
      let c : Call = get_or calls i d in
      let m = f.meaning in
      let w : take (i + 1) calls ≡ take i calls ++ c ∷ [] = take_more calls i d h in
      let done : List Call = take i calls in
      record {
        logged = rw (e, w) (map-append (λ (x : Entry). x.call) log (record { call = c; answer = a } ∷ []) ∙ ap (λ l. l ++ c ∷ []) up.logged);
        theorem = rw e (passes b.table b.setup log up.theorem);
        replies = rw (e, w, replies_more m b done c) (map-append (λ (x : Entry). reply x.answer) log (record { call = c; answer = a } ∷ []) ∙ ap (λ l. l ++ reply a ∷ []) up.replies ∙ ap (λ x. run_replies m b done ++ x ∷ []) (does.answered ∙ ap (λ v. call_reply m v c) up.leaves));
        leaves = rw (w, leaves_more m b done c) (does.left ∙ ap (λ v. call_leaves m v c) up.leaves);
      }
