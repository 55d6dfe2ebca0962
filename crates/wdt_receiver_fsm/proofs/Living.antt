-- A lane that stands is neither closed nor given up nor acknowledged.
use Rattle.std.proofs.Common.{◌≡◌, ℕ, Bool, false}
use Rattle.wdt_sender_fsm.specs.Rules.{is_failure}
use Rattle.wdt_receiver_fsm.specs.declared.states.RecvLane.{RecvLane}
use Rattle.wdt_receiver_fsm.specs.declared.states.RecvState.{RecvState}
use Rattle.wdt_receiver_fsm.specs.declared.states.RecvState.TheVariants as states
use Rattle.wdt_receiver_fsm.specs.PlainReceiver.{PlainReceiver, is_ended, lane_at, past_at, state_at}
use Rattle.wdt_receiver_fsm.specs.Receiver.{Fares, FaresAt}
use Rattle.wdt_receiver_fsm.specs.ReceiverHistory.{EndPast, RecvPast, end_of}

-- a lane that hasn't ended is neither closed nor given up nor acknowledged
live_not : (f : Bool) (state : RecvState) (lane : RecvLane) (p : RecvPast) (e : EndPast) → Fares f state lane p e → is_ended state ≡ false → (p.is_closed ≡ false) × (p.has_quit ≡ false) × (p.is_acked ≡ false)
live_not f states.Ended lane p e h is = absurd (cc)
live_not f states.Listen lane p e h is = (h.goes_on.closed, h.goes_on.quit, h.goes_on.acked)
live_not f states.ReadSettings lane p e h is = (h.0.goes_on.closed, h.0.goes_on.quit, h.0.goes_on.acked)
live_not f states.SendLocalCheckpoint lane p e h is = (h.0.goes_on.closed, h.0.goes_on.quit, h.0.goes_on.acked)
live_not f states.SendFileChunks lane p e h is = (h.0.goes_on.closed, h.0.goes_on.quit, h.0.goes_on.acked)
live_not f states.ReadNextCmd lane p e h is = (h.0.goes_on.closed, h.0.goes_on.quit, h.0.goes_on.acked)
live_not f states.TakeBlock lane p e h is = (h.0.goes_on.closed, h.0.goes_on.quit, h.0.goes_on.acked)
live_not f states.SendWait lane p e h is = (h.0.goes_on.closed, h.0.goes_on.quit, h.0.goes_on.acked)
live_not f states.WaitForFinish lane p e h is = (h.0.goes_on.closed, h.0.goes_on.quit, h.0.goes_on.acked)
live_not f states.SendGlobalCheckpoint lane p e h is = (h.0.goes_on.closed, h.0.goes_on.quit, h.0.goes_on.acked)
live_not f states.SendDone lane p e h is = (h.goes_on.closed, h.goes_on.quit, h.goes_on.acked)
live_not f states.ReadAck lane p e h is = (h.goes_on.closed, h.goes_on.quit, h.goes_on.acked)
live_not f states.SendAbort lane p e h is = (h.goes_on.closed, h.goes_on.quit, h.goes_on.acked)

pub live_lane : (r : PlainReceiver) (l : ℕ) → FaresAt r l → is_ended (state_at r l) ≡ false → ((past_at r l).is_closed ≡ false) × ((past_at r l).has_quit ≡ false) × ((past_at r l).is_acked ≡ false)
live_lane r l fares lives = live_not (is_failure r.answer) (state_at r l) (lane_at r l) (past_at r l) (end_of r.history) fares lives
