-- The counts of one slot.
use Rattle.std.specs.Prelude.{ℕ, min, cond, List, sum_by, ◌==◌}
use Rattle.stops.specs.declared.class.Class.TheVariants.{Private, Trade}
use Rattle.stops.specs.declared.stop.Stop.{Stop}
use Rattle.fleet.specs.declared.tally.Tally.{Tally}

-- 1 for a private stop of slot i, and 0 for any other stop
abbrev pub one_private : ℕ → Stop → ℕ
one_private i s = elim s.class [ Private ↦ cond (s.slot == i) 1 0 | Trade ↦ 0 ]

-- 1 for a trade stop of slot i, and 0 for any other stop
abbrev pub one_trade : ℕ → Stop → ℕ
one_trade i s = elim s.class [ Private ↦ 0 | Trade ↦ cond (s.slot == i) 1 0 ]

-- the units of a stop of slot i, and 0 for any other stop
abbrev pub slot_units : ℕ → Stop → ℕ
slot_units i s = cond (s.slot == i) s.units 0

-- their sums over a list of stops
abbrev pub private_count : List Stop → ℕ → ℕ
private_count l i = sum_by (one_private i) l

abbrev pub trade_count : List Stop → ℕ → ℕ
trade_count l i = sum_by (one_trade i) l

abbrev pub unit_count : List Stop → ℕ → ℕ
unit_count l i = sum_by (slot_units i) l

-- the tally of slot i
abbrev pub tallied : List Stop → ℕ → Tally
tallied l i = record { privates = private_count l i; trades = trade_count l i; units = unit_count l i }

-- the tally of no stops
abbrev pub nothing_held : Tally
nothing_held = record { privates = 0; trades = 0; units = 0 }

-- the greatest count that a tally can show
abbrev pub count_limit : ℕ
count_limit = 4294967295

-- a tally as it is shown
abbrev pub shown : Tally → Tally
shown t = record { privates = min t.privates count_limit; trades = min t.trades count_limit; units = min t.units count_limit }
