-- A log: the calls of a run with their answers.
use Rattle.std.specs.Prelude.{◌≡◌, ℕ, List, [], IfOk, vec_items, Result}
use Rattle.std.specs.declared.alloc.AllocError.{AllocError}
use Rattle.calls.specs.declared.entry.Entry.{Entry}
use Rattle.book.specs.declared.log.Log.{Log}

-- the entries of a log, the first call first
abbrev pub entries_in : Log → List Entry
entries_in l = vec_items l.entries

-- what is reserved has no entry, and this many places
abbrev pub Reserved : ℕ → Result Log AllocError → Type 0
Reserved room r = IfOk r (λ l. (entries_in l ≡ []) × (l.room ≡ room))
