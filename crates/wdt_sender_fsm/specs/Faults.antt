-- What a receiver may not say, with the counts of blocks that it tells.
use Rattle.std.specs.Prelude.{ℕ, ◌==◌, ◌||◌, not, nat_le, Bool, true, false, List, [], ◌∷◌, Option, Some, None, option_map}
use Rattle.std.specs.List.{list_any}
use Rattle.wdt_claims.specs.LaneWords.{Claims}
use Rattle.wdt_claims.specs.Checks.{fault_of}
use Rattle.wdt_claims.specs.declared.check.CheckFail.{CheckFail}
use Rattle.wdt_claims.specs.declared.check.CheckFail.TheVariants as fails
use Rattle.wdt_codec.specs.declared.frames.Frame.{Frame}
use Rattle.wdt_codec.specs.declared.frames.Mark.{Mark}
use Rattle.wdt_sender_fsm.specs.declared.events.SendEvent.{SendEvent}
use Rattle.wdt_sender_fsm.specs.declared.inputs.SendIn.TheVariants.{Got}
use Rattle.wdt_sender_fsm.specs.declared.peers.PeerKind.{PeerKind}
use Rattle.wdt_sender_fsm.specs.declared.peers.PeerKind.TheVariants.{BadCheckpoint, Differs, Unexpected as UnexpectedFrame}
use Rattle.wdt_sender_fsm.specs.declared.states.SendState.{SendState}
use Rattle.wdt_sender_fsm.specs.Rows.{Row, Unexpected, Greeted, DoneAtOnce, Marked, row_of, place_of, command_of}
use Rattle.wdt_sender_fsm.specs.SenderHistory.{past_of}

-- a frame that may not come in a state
abbrev pub unexpected_in : SendState → Frame → PeerKind
unexpected_in state frame = UnexpectedFrame (place_of state) (command_of frame)

-- ---- counts

-- a count that can't be right, as the end tells it
abbrev pub kind_of : CheckFail → PeerKind
kind_of (fails.BadCheckpoint n low high) = BadCheckpoint n low high
kind_of (fails.Differs n before) = Differs n before

-- what is wrong with a count of a lane's blocks
abbrev pub count_fault : Claims → ℕ → Option PeerKind
count_fault s n = option_map kind_of (fault_of s n)

-- the first fault of two
abbrev pub or_else : Option PeerKind → Option PeerKind → Option PeerKind
or_else None later = later
or_else (Some kind) later = Some kind

-- what is wrong with the first wrong count of a list, none of which is taken before
abbrev pub marks_fault : List SendEvent → List Mark → Option PeerKind
marks_fault h [] = None
marks_fault h (m ∷ ms) = or_else (count_fault (past_of h m.lane.0).claims m.count) (marks_fault h ms)

-- ---- lanes

-- a mark is of a lane that isn't there, or of the lane that reads it
abbrev pub is_stranger : ℕ → ℕ → Mark → Bool
is_stranger n l m = nat_le n m.lane.0 || m.lane.0 == l

-- one of some marks is so
abbrev pub has_stranger : ℕ → ℕ → List Mark → Bool
has_stranger n l ms = list_any (is_stranger n l) ms

-- of n lanes lane l reads what has no row: a frame that the table doesn't name, a count of another lane
-- for the settings, the last word for them before anything was planned, or marks of strangers
abbrev pub is_unexpected : ℕ → ℕ → Bool → Row → Bool
is_unexpected n l is_listed (Unexpected state command) = true
is_unexpected n l is_listed (Greeted m) = not (m.lane.0 == l)
is_unexpected n l is_listed DoneAtOnce = not is_listed
is_unexpected n l is_listed (Marked ms) = has_stranger n l ms
is_unexpected n l is_listed _ = false

-- the same of a frame that is read where a lane stands in a state
abbrev pub has_no_row : ℕ → ℕ → Bool → SendState → Frame → Bool
has_no_row n l is_listed state frame = is_unexpected n l is_listed (row_of state (Got frame))
