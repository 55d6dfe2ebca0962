-- How the answer of an end follows from its lanes.
use Rattle.std.specs.Prelude.{◌≡◌, ◌&&◌, Bool, true, false, List}
use Rattle.std.specs.List.{Contains}
use Rattle.wdt_units.specs.declared.numbers.Lane.{Lane}
use Rattle.wdt_sender_fsm.specs.declared.answers.EndAnswer.{EndAnswer}
use Rattle.wdt_sender_fsm.specs.declared.answers.EndAnswer.TheVariants as answers
use Rattle.wdt_sender_fsm.specs.Rules.{is_failure}
use Rattle.wdt_receiver_fsm.specs.declared.events.RecvEvent.{RecvEvent}
use Rattle.wdt_receiver_fsm.specs.declared.events.RecvEvent.TheVariants as events
use Rattle.wdt_receiver_fsm.specs.PlainReceiver.{PlainReceiver, answer_of, every_lane, has_finish, is_done_with, is_out}

-- the finish has come, and each lane is acknowledged or closed
abbrev pub has_all_done : PlainReceiver → Bool
has_all_done r = has_finish r && every_lane r is_done_with

-- it hasn't failed, that isn't so, and each lane has ended
pub record HasNoLane (r : PlainReceiver) : Type 0 where
  pub sound : is_failure r.answer ≡ false
  pub undone : has_all_done r ≡ false
  pub out : every_lane r is_out ≡ true

-- Where the answer is that the sender said what it may not say, or that it has failed, a lane noted it. No receiver
-- fails for a source or by a refusal.
abbrev pub IsHeard : EndAnswer → List RecvEvent → Type 0
IsHeard answers.Source history = ⊥
IsHeard (answers.Peer kind) history = (l : Lane) × Contains history (events.Peer l kind)
IsHeard (answers.Aborted code) history = (l : Lane) × Contains history (events.Abort l code)
IsHeard (answers.Refused kind) history = ⊥
IsHeard _ history = Unit {0}

-- A failure stays the answer, and else it follows from the lanes. An end that failed has a lane that is neither
-- acknowledged nor closed, or the finish hasn't come.
pub record IsAnswered (r : PlainReceiver) : Type 0 where
  pub follows : r.answer ≡ answer_of r
  pub unfinished : is_failure r.answer ≡ true → has_all_done r ≡ false
  pub heard : IsHeard r.answer r.history
