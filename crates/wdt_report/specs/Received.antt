-- What is counted of a receiver's history.
use Rattle.std.specs.Prelude.{ℕ, Bool, true, false, if◌then◌else◌, List, count_by, sum_by}
use Rattle.wdt_logfmt.specs.Beginning.{length_of}
use Rattle.wdt_receiver_fsm.specs.ReceiverHistory.{landed_of}
use Rattle.wdt_receiver_fsm.specs.declared.events.RecvEvent.{RecvEvent}
use Rattle.wdt_receiver_fsm.specs.declared.events.RecvEvent.TheVariants.{Take, Land, Close}

-- a block landed
abbrev pub is_landing : RecvEvent → Bool
is_landing (Land l) = true
is_landing _ = false

-- a lane was closed
abbrev pub is_closing : RecvEvent → Bool
is_closing (Close l) = true
is_closing _ = false

-- 1 for a block that landed
abbrev pub one_landing : RecvEvent → ℕ
one_landing e = if is_landing e then 1 else 0

-- 1 for a lane that was closed
abbrev pub one_closing : RecvEvent → ℕ
one_closing e = if is_closing e then 1 else 0

-- how many blocks landed
abbrev pub blocks_in : List RecvEvent → ℕ
blocks_in g = count_by is_landing g

-- how many bytes they have
abbrev pub bytes_in : List RecvEvent → ℕ
bytes_in g = sum_by length_of (landed_of g)

-- how many lanes were closed
abbrev pub closed_in : List RecvEvent → ℕ
closed_in g = count_by is_closing g

-- a connection was taken
abbrev pub is_taking : RecvEvent → Bool
is_taking (Take l c) = true
is_taking _ = false

-- 1 for a connection
abbrev pub one_taking : RecvEvent → ℕ
one_taking e = if is_taking e then 1 else 0

-- how many connections were taken
abbrev pub taken_in : List RecvEvent → ℕ
taken_in g = count_by is_taking g
