-- One call more at the end of a run.
use Rattle.std.proofs.Common.{◌≡◌, List, [], ◌∷◌, ◌++◌, refl, ap}
use Rattle.fleet.specs.Meaning.{Meaning}
use Rattle.calls.specs.declared.call.Call.{Call}
use Rattle.calls.specs.Views.{View, call_leaves, call_reply, run_leaves, run_replies}

module _ {Setup Standing : Type 0} (m : Meaning Setup Standing) where
  pub leaves_more : (b : View Setup Standing) (cs : List Call) (c : Call) → run_leaves m b (cs ++ c ∷ []) ≡ call_leaves m (run_leaves m b cs) c
  leaves_more b [] c = refl
  leaves_more b (x ∷ cs) c = leaves_more (call_leaves m b x) cs c

  pub replies_more : (b : View Setup Standing) (cs : List Call) (c : Call) → run_replies m b (cs ++ c ∷ []) ≡ run_replies m b cs ++ call_reply m (run_leaves m b cs) c ∷ []
  replies_more b [] c = refl
  replies_more b (x ∷ cs) c = ap (λ l. call_reply m b x ∷ l) (replies_more (call_leaves m b x) cs c)
