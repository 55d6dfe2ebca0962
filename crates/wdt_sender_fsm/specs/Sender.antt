-- What every plain sender keeps: how each lane stands in its state, that the history is legal, and why
-- the end has its answer.
use Rattle.std.specs.Prelude.{◌≡◌, refl, ◌⊎◌, ℕ, ◌<◌, ◌≤◌, Bool, true, false, List, [], ◌∷◌, ◌++◌, length, is_some, Option, Some, None, IfSome, ◌||◌}
use Rattle.std.specs.Option.{option_map}
use Rattle.wdt_units.specs.Have.{HaveFile}
use Rattle.wdt_units.specs.declared.blocks.Block.{Block}
use Rattle.wdt_units.specs.declared.limits.TheConstants.{MAX_CONNECTIONS, MAX_TRIES}
use Rattle.wdt_codec.specs.Chunks.{FitsChunks}
use Rattle.wdt_codec.specs.Frames.{Fits}
use Rattle.wdt_tree.specs.declared.entry.Entry.{Entry}
use Rattle.wdt_rest.specs.RestOf.{rest_of}
use Rattle.wdt_sender_fsm.specs.declared.answers.EndAnswer.{EndAnswer}
use Rattle.wdt_sender_fsm.specs.declared.answers.EndAnswer.TheVariants as answers
use Rattle.wdt_sender_fsm.specs.declared.events.SendEvent.{SendEvent}
use Rattle.wdt_sender_fsm.specs.declared.events.SendEvent.TheVariants.{Abort, Peer}
use Rattle.wdt_sender_fsm.specs.declared.inputs.SendIn.{SendIn}
use Rattle.wdt_sender_fsm.specs.declared.inputs.SendIn.TheVariants as inputs
use Rattle.wdt_sender_fsm.specs.declared.states.SendState.{SendState}
use Rattle.wdt_sender_fsm.specs.declared.states.SendState.TheVariants as states
use Rattle.wdt_sender_fsm.specs.Chunks.{unordered_at, refusal}
use Rattle.wdt_sender_fsm.specs.Legal.{IsLegal}
use Rattle.wdt_sender_fsm.specs.PlainSender.{PlainSender, lane_at, state_at, past_at, blocks_of, answer_of, every_lane, is_done_with}
use Rattle.wdt_sender_fsm.specs.Rules.{is_failure, code_of}
use Rattle.wdt_sender_fsm.specs.SenderHistory.{LanePast, EndPast, end_of}

-- ---- a lane that isn't closed

-- it was neither given up nor acknowledged, and has a connection or none
pub record GoesOn (past : LanePast) (is_up : Bool) : Type 0 where
  pub quit : past.has_quit ≡ false
  pub acked : past.is_acked ≡ false
  pub link : past.is_up ≡ is_up

-- it dials: it may have a further connection, and a further try may fail
pub record Dials (past : LanePast) : Type 0 where
  pub goes_on : GoesOn past false
  pub connections : past.connections < MAX_CONNECTIONS
  pub failed_tries : past.failed_tries < MAX_TRIES

-- it has said what the sender is and wasn't told its count; where it didn't ask what the destination
-- has, that is known
pub record Asks (ask : Bool) (past : LanePast) (end : EndPast) : Type 0 where
  pub goes_on : GoesOn past true
  pub greeted : past.is_greeted ≡ false
  pub known : ask ≡ false → end.is_listed ≡ true

-- it was told its count and reads what the destination has
pub record Learns (past : LanePast) : Type 0 where
  pub goes_on : GoesOn past true
  pub greeted : past.is_greeted ≡ true
  pub held : past.claims.held ≡ false

-- it was told its count, what the destination has is known, and its last block is being written or not
pub record Sends (past : LanePast) (end : EndPast) (is_held : Bool) : Type 0 where
  pub goes_on : GoesOn past true
  pub greeted : past.is_greeted ≡ true
  pub held : past.claims.held ≡ is_held
  pub known : end.is_listed ≡ true

-- it read the receiver's last word on this connection
pub record Answers (past : LanePast) (end : EndPast) : Type 0 where
  pub goes_on : GoesOn past true
  pub held : past.claims.held ≡ false
  pub finish : past.has_finish ≡ true
  pub end_finish : end.has_finish ≡ true

-- it has a connection, and writes that the end has failed
pub record Warns (past : LanePast) (has_failed : Bool) : Type 0 where
  pub goes_on : GoesOn past true
  pub failed : has_failed ≡ true

-- how a lane that isn't closed stands in each state: by whether the end has failed, whether the lane asked
-- on its connection what the destination has, its past, and the end's
abbrev pub Fares : Bool → SendState → Bool → LanePast → EndPast → Type 0
Fares failed states.Connect ask past end = Dials past
Fares failed states.SendSettings ask past end = Asks ask past end
Fares failed states.ReadLocalCheckpoint ask past end = Asks ask past end
Fares failed states.ReadFileChunks ask past end = Learns past
Fares failed states.SendSize ask past end = Sends past end false
Fares failed states.SendBlocks ask past end = Sends past end true
Fares failed states.SendDone ask past end = Sends past end false
Fares failed states.ReadReceiverCmd ask past end = Sends past end false
Fares failed states.AnswerDone ask past end = Answers past end
Fares failed states.SendAbort ask past end = Warns past failed
Fares failed states.Ended ask past end = (failed ≡ true) ⊎ ((past.has_quit ≡ true) ⊎ (past.is_acked ≡ true))

-- a lane stands as its state says
abbrev pub FaresAt : PlainSender → ℕ → Type 0
FaresAt s l = Fares (is_failure s.answer) (state_at s l) (lane_at s l).ask (past_at s l) (end_of s.history)

-- ---- the plan

-- what a destination has is in the grammar's ranges and told in order, and the tree is sent to it
pub record IsAccepted (manifest : List Entry) (block : ℕ) (have : List HaveFile) : Type 0 where
  pub fits : FitsChunks have
  pub ordered : unordered_at have ≡ None
  pub sent : refusal manifest have block ≡ None

-- what is to be sent to a destination that has so much
abbrev pub plan_of : List Entry → ℕ → Option (List HaveFile) → Option (List Block)
plan_of manifest block have = option_map (λ files. rest_of manifest files block) have

-- what the destination has is known once a lane has read it, and the plan is what it lacks
pub record IsPlanned (s : PlainSender) : Type 0 where
  pub listed : is_some s.have ≡ (end_of s.history).is_listed
  pub planned : s.planned ≡ plan_of s.manifest s.block s.have
  pub accepted : IfSome s.have (IsAccepted s.manifest s.block)

-- ---- the answer

-- what a lane read last of a failure: that the receiver has failed, or what no receiver may say
abbrev pub failure_after : Option EndAnswer → SendEvent → Option EndAnswer
failure_after s (Abort l code) = Some (answers.Aborted code)
failure_after s (Peer l kind) = Some (answers.Peer kind)
failure_after s _ = s

-- the same behind some entries
abbrev pub failure_from : Option EndAnswer → List SendEvent → Option EndAnswer
failure_from s [] = s
failure_from s (e ∷ es) = failure_from (failure_after s e) es

-- what a history says of a failure, read last
unfoldable pub failure_in : List SendEvent → Option EndAnswer
failure_in h = failure_from None h

failure_from-more : (s : Option EndAnswer) (h : List SendEvent) (e : SendEvent) → failure_from s (h ++ e ∷ []) ≡ failure_after (failure_from s h) e
failure_from-more s [] e = refl
failure_from-more s (d ∷ h) e = failure_from-more (failure_after s d) h e

-- a history that grows by an entry
pub failure_in-more : (h : List SendEvent) (e : SendEvent) → failure_in (h ++ e ∷ []) ≡ failure_after (failure_in h) e
unfolding failure_in
failure_in-more h e = failure_from-more None h e

-- nothing has happened
pub failure_in-none : failure_in [] ≡ None
unfolding failure_in
failure_in-none = refl

-- an answer for which an entry of the history stands
abbrev pub noted_failure : EndAnswer → Option EndAnswer
noted_failure (answers.Aborted code) = Some (answers.Aborted code)
noted_failure (answers.Peer kind) = Some (answers.Peer kind)
noted_failure _ = None

-- the answer follows from the lanes where the end hasn't failed; it is the receiver's failure or fault
-- exactly where the history says so; its code is one byte; and an end that has failed has a lane that is
-- neither acknowledged nor closed
pub record IsAnswered (s : PlainSender) : Type 0 where
  pub follows : s.answer ≡ answer_of s
  pub noted : noted_failure s.answer ≡ failure_in s.history
  pub code : code_of s.answer ≤ 255
  pub unfinished : is_failure s.answer ≡ true → every_lane s is_done_with ≡ false

-- ---- the sender

-- a lane that was given up or acknowledged
abbrev pub is_over : LanePast → Bool
is_over past = past.has_quit || past.is_acked

-- such a lane has ended, closed or not
abbrev pub AllEnded : PlainSender → Type 0
AllEnded s = (l : ℕ) → l < length s.lanes → is_over (past_at s l) ≡ true → state_at s l ≡ states.Ended

-- each lane that isn't closed stands as its state says
abbrev pub AllFare : PlainSender → Type 0
AllFare s = (l : ℕ) → l < length s.lanes → (past_at s l).claims.closed ≡ None → FaresAt s l

-- a plain sender as steps leave it. On an end that hasn't failed no lane read that the receiver has, or
-- what no receiver may say.
pub record IsSender (s : PlainSender) : Type 0 where
  pub legal : IsLegal (length s.lanes) (blocks_of s) s.history
  pub plan : IsPlanned s
  pub answer : IsAnswered s
  pub lanes : AllFare s
  pub ended : AllEnded s
  pub faultless : is_failure s.answer ≡ false → (end_of s.history).has_fault ≡ false

-- what is read is in the grammar's ranges
abbrev pub FitsIn : SendIn → Type 0
FitsIn (inputs.Got frame) = Fits frame
FitsIn _ = Unit {0}
