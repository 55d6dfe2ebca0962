use Rattle.std.proofs.Common.{◌≡◌, take}
use Rattle.wdt_sender_fsm.specs.SenderHistory.{past_of}
use Rattle.wdt_report.specs.Kept.{kept_of}
use Rattle.wdt_report.proofs.kept.follow.Given as goal

-- what is kept is that of the claims behind the entries so far
abbrev pub invariant-loop-event : goal.invariant-loop-event
invariant-loop-event l = l.kept ≡ kept_of (past_of (take l.event-index l.history) l.lane.0).claims
