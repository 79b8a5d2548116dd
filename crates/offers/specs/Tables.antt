-- An offers table: its records and its clock.
use Rattle.std.specs.Prelude.{List, vec_items}
use Rattle.offers.specs.declared.offers.Offers.{Offers}
use Rattle.calls.specs.declared.record.Record.{Record}

-- the records, number 1 first
abbrev pub rows : Offers → List Record
rows o = vec_items o.records
