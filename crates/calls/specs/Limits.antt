-- The figures of a book, each named once.
use Rattle.std.specs.Prelude.{ℕ}

-- a book gives out at most 512 numbers, from 1
abbrev pub number_limit : ℕ
number_limit = 512

-- the booking minutes are 0 to 100,000
abbrev pub last_booking_minute : ℕ
last_booking_minute = 100000

-- an offer is held for 10 minutes to a private customer
abbrev pub private_hold : ℕ
private_hold = 10

-- and for 30 to a trade customer
abbrev pub trade_hold : ℕ
trade_hold = 30
