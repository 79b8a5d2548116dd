-- The due entries of a book.
use Rattle.std.specs.Prelude.{◌≡◌, List, [], ◌∷◌, Some, None, Option}
use mathlib.Core.List.{Perm}
use Rattle.queue.specs.declared.due.Due.{Due}
use Rattle.queue.specs.Queues.{entries, front}
use Rattle.offers.specs.declared.agenda.Agenda.{Agenda}

-- the entries, with the first in order in front
abbrev pub awaited : Agenda → List Due
awaited a = entries a.due

abbrev pub next : Agenda → Option Due
next a = front a.due

-- the first entry is taken off, if there is one
abbrev pub Skipped : List Due → Option Due → List Due → Type 0
Skipped xs (Some x) ys = Perm xs (x ∷ ys)
Skipped xs None ys = ys ≡ []
