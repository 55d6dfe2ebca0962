-- What a step of a lane comes to, in one word: which entries it notes, what it makes of the plan and of
-- the answer, how the lane stands behind it, and which act the lane gets.
use Rattle.std.specs.Prelude.{◌≡◌, ℕ, ◌<◌, not, Bool, true, false, List, [], ◌∷◌, ◌++◌, length, is_some, Option, Some, None, IfSome}
use Rattle.wdt_units.specs.Have.{HaveFile}
use Rattle.wdt_units.specs.declared.blocks.Block.{Block}
use Rattle.wdt_units.specs.declared.numbers.Lane.{Lane}
use Rattle.wdt_codec.specs.declared.frames.Frame.TheVariants as frames
use Rattle.wdt_rest.specs.RestOf.{rest_of}
use Rattle.wdt_sender_fsm.specs.declared.acts.SendAct.TheVariants as acts
use Rattle.wdt_sender_fsm.specs.declared.answers.EndAnswer.{EndAnswer}
use Rattle.wdt_sender_fsm.specs.declared.answers.EndAnswer.TheVariants as answers
use Rattle.wdt_sender_fsm.specs.declared.events.SendEvent.{SendEvent}
use Rattle.wdt_sender_fsm.specs.declared.events.SendEvent.TheVariants as events
use Rattle.wdt_sender_fsm.specs.declared.states.SendLane.{SendLane}
use Rattle.wdt_sender_fsm.specs.declared.states.SendState.{SendState}
use Rattle.wdt_sender_fsm.specs.declared.states.SendState.TheVariants as states
use Rattle.wdt_sender_fsm.specs.PlainSender.{PlainSender, lane_at, past_at, header_of, noted, goes, failed}
use Rattle.wdt_sender_fsm.specs.Rules.{is_failure, by_voice}
use Rattle.wdt_sender_fsm.specs.SenderHistory.{past_from, end_from, end_of}
use Rattle.wdt_sender_fsm.specs.Turn.{Step, rests, leaves, tells_failure, writes, reads, next_conn, introduces, writes_size, greeted_by, with_plan}

-- ---- the outcomes

-- what a step of a lane comes to
pub data Outcome : Type 0 where
  -- nothing changes, and the lane does nothing more
  Rested : Outcome
  -- nothing changes, and the lane reads on
  Waited : Outcome
  -- the lane ends
  Left : Outcome
  -- the end had failed, and the lane tells the receiver
  Warned : Outcome
  -- the end fails with this answer; then the lane ends, or tells the receiver
  Failed : EndAnswer → Bool → Outcome
  -- behind these entries the lane is given up
  GivenUp : List SendEvent → Outcome
  -- behind these entries it dials
  Redialed : List SendEvent → Outcome
  -- its connection stands, and it writes what the sender says of itself
  Introduced : Outcome
  -- that is written, and it reads its count
  Presented : Outcome
  -- it was told this count: it reads what the destination has, where it asked, and else writes what is
  -- sent in all
  Greeted : ℕ → Outcome
  -- it read again what the destination has, and writes what is sent in all
  Listed : Outcome
  -- it read first what the destination has: the blocks that it lacks are planned
  Planned : List HaveFile → Outcome
  -- behind these entries it takes this block, and writes it
  Claimed : List SendEvent → Block → Outcome
  -- behind these entries no block waits, and it writes that nothing more is to come
  Emptied : List SendEvent → Outcome
  -- that is written, and it reads what the receiver says
  Concluded : Outcome
  -- it read the receiver's last word, and answers it
  Finished : Outcome
  -- that is answered: the lane is acknowledged, and ends
  Acknowledged : Outcome

-- the entry that tells of a failure, where there is one
abbrev pub failure_entries : Lane → EndAnswer → List SendEvent
failure_entries l (answers.Aborted code) = events.Abort l code ∷ []
failure_entries l (answers.Peer kind) = events.Peer l kind ∷ []
failure_entries l answer = []

-- the entries that a step notes
abbrev pub entries_of : PlainSender → Lane → Outcome → List SendEvent
entries_of s l (Failed answer mute) = failure_entries l answer
entries_of s l (GivenUp es) = es ++ events.Quit l ∷ []
entries_of s l (Redialed es) = es
entries_of s l Introduced = events.Linked l (next_conn s l) ∷ []
entries_of s l (Greeted count) = events.Greet l count ∷ []
entries_of s l Listed = events.Chunks l ∷ []
entries_of s l (Planned have) = events.Chunks l ∷ []
entries_of s l (Claimed es b) = es ++ events.Claim l b ∷ []
entries_of s l (Emptied es) = es
entries_of s l Concluded = events.Done l ∷ []
entries_of s l Finished = events.Finish l ∷ []
entries_of s l Acknowledged = events.Acked l ∷ []
entries_of s l _ = []

-- the end fails with this answer, and the entry that tells of it is noted
abbrev pub failing : PlainSender → Lane → EndAnswer → PlainSender
failing s l (answers.Aborted code) = failed (noted s (events.Abort l code ∷ [])) (answers.Aborted code)
failing s l (answers.Peer kind) = failed (noted s (events.Peer l kind ∷ [])) (answers.Peer kind)
failing s l answer = failed s answer

-- the act and the plain sender that an outcome is
abbrev pub came_to : PlainSender → Lane → Outcome → Step
came_to s l Rested = rests s
came_to s l Waited = reads s
came_to s l Left = leaves s l
came_to s l Warned = tells_failure s l
came_to s l (Failed answer mute) = by_voice mute (leaves (failing s l answer) l) (tells_failure (failing s l answer) l)
came_to s l (GivenUp es) = (acts.Stop, goes (noted s (es ++ events.Quit l ∷ [])) l states.Ended)
came_to s l (Redialed es) = (acts.Dial (next_conn (noted s es) l), goes (noted s es) l states.Connect)
came_to s l Introduced = introduces s l
came_to s l Presented = reads (goes s l states.ReadLocalCheckpoint)
came_to s l (Greeted count) = greeted_by (noted s (events.Greet l count ∷ [])) l (lane_at s l.0).ask
came_to s l Listed = writes_size (noted s (events.Chunks l ∷ [])) l
came_to s l (Planned have) = writes_size (noted (with_plan s have) (events.Chunks l ∷ [])) l
came_to s l (Claimed es b) = (acts.SendBlock (header_of s b), goes (noted s (es ++ events.Claim l b ∷ [])) l states.SendBlocks)
came_to s l (Emptied es) = writes (goes (noted s es) l states.SendDone) frames.Done
came_to s l Concluded = reads (goes (noted s (events.Done l ∷ [])) l states.ReadReceiverCmd)
came_to s l Finished = writes (goes (noted s (events.Finish l ∷ [])) l states.AnswerDone) frames.Done
came_to s l Acknowledged = leaves (noted s (events.Acked l ∷ [])) l

-- what is known of the destination behind an outcome
abbrev pub have_behind : PlainSender → Outcome → Option (List HaveFile)
have_behind s (Planned have) = Some have
have_behind s o = s.have

-- the plan behind it
abbrev pub planned_behind : PlainSender → Outcome → Option (List Block)
planned_behind s (Planned have) = Some (rest_of s.manifest have s.block)
planned_behind s o = s.planned

-- where a failure leaves its lane, which tells it or can't
abbrev pub failed_state : Bool → SendState
failed_state true = states.Ended
failed_state false = states.SendAbort

-- where a count leaves its lane, which asked what the destination has or didn't
abbrev pub greeted_state : Bool → SendState
greeted_state true = states.ReadFileChunks
greeted_state false = states.SendSize

-- the lane in another state
abbrev pub in_state : SendLane → SendState → SendLane
in_state lane state = record { state = state; ask = lane.ask }

-- how the lane stands behind an outcome, by how it stood and whether it is known what the destination has
abbrev pub lane_behind : Bool → SendLane → Outcome → SendLane
lane_behind known lane Rested = lane
lane_behind known lane Waited = lane
lane_behind known lane Left = in_state lane states.Ended
lane_behind known lane Warned = in_state lane states.SendAbort
lane_behind known lane (Failed answer mute) = in_state lane (failed_state mute)
lane_behind known lane (GivenUp es) = in_state lane states.Ended
lane_behind known lane (Redialed es) = in_state lane states.Connect
lane_behind known lane Introduced = record { state = states.SendSettings; ask = not known }
lane_behind known lane Presented = in_state lane states.ReadLocalCheckpoint
lane_behind known lane (Greeted count) = in_state lane (greeted_state lane.ask)
lane_behind known lane Listed = in_state lane states.SendSize
lane_behind known lane (Planned have) = in_state lane states.SendSize
lane_behind known lane (Claimed es b) = in_state lane states.SendBlocks
lane_behind known lane (Emptied es) = in_state lane states.SendDone
lane_behind known lane Concluded = in_state lane states.ReadReceiverCmd
lane_behind known lane Finished = in_state lane states.AnswerDone
lane_behind known lane Acknowledged = in_state lane states.Ended

-- the answer that an end fails with, if it fails anew
abbrev pub failure_by : Outcome → Option EndAnswer
failure_by (Failed answer mute) = Some answer
failure_by o = None

-- what an outcome makes of a plain sender: its entries stand in the history, so each past goes on by them
pub record Makes (s : PlainSender) (l : Lane) (o : Outcome) (t : PlainSender) : Type 0 where
  pub history : t.history ≡ s.history ++ entries_of s l o
  pub pasts : (k : ℕ) → past_at t k ≡ past_from k (past_at s k) (entries_of s l o)
  pub end : end_of t.history ≡ end_from (end_of s.history) (entries_of s l o)
  pub have : t.have ≡ have_behind s o
  pub planned : t.planned ≡ planned_behind s o
  pub lane : l.0 < length s.lanes → lane_at t l.0 ≡ lane_behind (is_some s.have) (lane_at s l.0) o
  pub fails : IfSome (failure_by o) (λ answer. is_failure answer ≡ true → t.answer ≡ answer)
