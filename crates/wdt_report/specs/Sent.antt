-- What is counted of a sender's history.
use Rattle.std.specs.Prelude.{ℕ, ◌+◌, ◌-◌, Bool, true, false, if◌then◌else◌, List, [], ◌∷◌, length, count_by, sum_by, take, zero, suc, Option, Some, None}
use Rattle.wdt_claims.specs.LaneWords.{Claims, no_claims}
use Rattle.wdt_units.specs.declared.limits.TheConstants.{MAX_LANES}
use Rattle.wdt_logfmt.specs.Beginning.{length_of}
use Rattle.wdt_sender_fsm.specs.SenderHistory.{claims_after, past_of}
use Rattle.wdt_sender_fsm.specs.declared.events.SendEvent.{SendEvent}
use Rattle.wdt_sender_fsm.specs.declared.events.SendEvent.TheVariants.{Linked, Greet, Global}

-- a connection was made
abbrev pub is_linked : SendEvent → Bool
is_linked (Linked l c) = true
is_linked _ = false

-- 1 for a connection
abbrev pub one_linked : SendEvent → ℕ
one_linked e = if is_linked e then 1 else 0

-- how many connections were made
abbrev pub connections_in : List SendEvent → ℕ
connections_in h = count_by is_linked h

-- how many blocks a lane's list has beyond the first n
abbrev pub beyond : ℕ → Claims → ℕ
beyond n s = length s.kept - n

-- how many are taken off where the lane is closed: a lane is closed once
abbrev pub taken_closing : Option ℕ → ℕ → Claims → ℕ
taken_closing None n s = beyond n s
taken_closing (Some before) n s = 0

-- how many blocks an entry takes off lists, where the lanes have claimed so much
abbrev pub taken_off : (ℕ → Claims) → SendEvent → ℕ
taken_off claims (Greet k n) = beyond n (claims k.0)
taken_off claims (Global k c n) = taken_closing (claims c.0).closed n (claims c.0)
taken_off claims _ = 0

-- what the lanes have claimed behind an entry
abbrev pub all_after : (ℕ → Claims) → SendEvent → ℕ → Claims
all_after claims e l = claims_after l (claims l) e

-- how many blocks some entries take off lists, one after another
abbrev pub requeued_from : (ℕ → Claims) → List SendEvent → ℕ
requeued_from claims [] = 0
requeued_from claims (e ∷ es) = taken_off claims e + requeued_from (all_after claims e) es

-- how many blocks a history takes off lists
abbrev pub requeued_in : List SendEvent → ℕ
requeued_in h = requeued_from (λ l. no_claims) h

-- ---- what has surely landed

-- a number of each lane below n, added up
abbrev pub over_lanes : (ℕ → ℕ) → ℕ → ℕ
over_lanes number zero = 0
over_lanes number (suc n) = over_lanes number n + number n

-- how many blocks of a lane have surely landed
abbrev pub sure_of : List SendEvent → ℕ → ℕ
sure_of h l = (past_of h l).claims.sure

-- how many bytes they have
abbrev pub sure_bytes_of : List SendEvent → ℕ → ℕ
sure_bytes_of h l = sum_by length_of (take (past_of h l).claims.sure (past_of h l).claims.kept)

-- how many blocks have surely landed on the lanes that a transfer may have
abbrev pub sure_blocks_in : List SendEvent → ℕ
sure_blocks_in h = over_lanes (sure_of h) MAX_LANES

-- how many bytes they have
abbrev pub sure_bytes_in : List SendEvent → ℕ
sure_bytes_in h = over_lanes (sure_bytes_of h) MAX_LANES
