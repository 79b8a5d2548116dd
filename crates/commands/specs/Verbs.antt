-- The letters of command lines.
use Rattle.std.specs.Prelude.{ℕ, cond, Some, None, Option, ◌==◌}
use Rattle.commands.specs.declared.line.verb.Verb.{Verb}
use Rattle.commands.specs.declared.line.verb.Verb.TheVariants.{Offer, Book, Confirm, Release, Withdraw, Tick}

-- O, B, C, G, W and T; any other first field is unknown
abbrev pub verb_of : Option ℕ → Option Verb
verb_of None = None
verb_of (Some c) =
    cond (c == 79) (Some Offer) (cond (c == 66) (Some Book) (cond (c == 67) (Some Confirm) (cond (c == 71) (Some Release) (cond (c == 87) (Some Withdraw) (cond (c == 84) (Some Tick) None)))))

-- how many fields a command has, its letter counted
abbrev pub arity : Verb → ℕ
arity Offer = 7
arity Book = 7
arity Confirm = 3
arity Release = 3
arity Withdraw = 3
arity Tick = 2
