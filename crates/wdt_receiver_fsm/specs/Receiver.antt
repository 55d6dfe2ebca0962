-- What every plain receiver keeps, also one that has failed.
use Rattle.std.specs.Prelude.{◌≡◌, ◌≢◌, ◌⊎◌, ℕ, ◌<◌, ◌≤◌, Bool, true, false, [], length, map, Option, Some, None}
use Rattle.wdt_units.specs.declared.limits.TheConstants.{MAX_CONNECTIONS, MAX_TRIES}
use Rattle.wdt_units.specs.declared.blocks.Block.{Block}
use Rattle.wdt_sender_fsm.specs.Rules.{is_failure}
use Rattle.wdt_receiver_fsm.specs.declared.states.RecvLane.{RecvLane}
use Rattle.wdt_receiver_fsm.specs.declared.states.RecvState.{RecvState}
use Rattle.wdt_receiver_fsm.specs.declared.states.RecvState.TheVariants as states
use Rattle.wdt_receiver_fsm.specs.Legal.{IsLegal, Terms}
use Rattle.wdt_receiver_fsm.specs.PlainReceiver.{PlainReceiver, has_finish, lane_at, past_at}
use Rattle.wdt_receiver_fsm.specs.ReceiverHistory.{EndPast, RecvPast, end_of}

-- the greatest number of a connection that was read on a lane
abbrev pub conn_of : RecvLane → ℕ
conn_of lane = lane.conn

-- what its history is judged by
abbrev pub terms_of : PlainReceiver → Terms
terms_of r = record { lanes = length r.lanes; opening = r.opening; known = r.known; conns = map conn_of r.lanes }

-- ---- a lane

-- it is neither closed nor given up nor acknowledged, and has a connection or none
pub record GoesOn (past : RecvPast) (is_up : Bool) : Type 0 where
  pub closed : past.is_closed ≡ false
  pub quit : past.has_quit ≡ false
  pub acked : past.is_acked ≡ false
  pub link : past.is_up ≡ is_up

-- it has no connection, and no block that is begun; it took fewer connections than it may have, and fewer
-- tries failed
pub record Listens (past : RecvPast) : Type 0 where
  pub goes_on : GoesOn past false
  pub begun : past.begun ≡ None
  pub idle : past.is_idle ≡ false
  pub takes : past.takes < MAX_CONNECTIONS
  pub tries : past.failed_tries < MAX_TRIES

-- it has a connection on which nothing was read yet
pub record Meets (past : RecvPast) : Type 0 where
  pub goes_on : GoesOn past true
  pub begun : past.begun ≡ None
  pub idle : past.is_idle ≡ false

-- the sender said what it is, the finish hasn't come, and more may come of it
pub record Serves (past : RecvPast) (end : EndPast) : Type 0 where
  pub goes_on : GoesOn past true
  pub idle : past.is_idle ≡ false
  pub met : end.met ≢ None
  pub finish : end.has_finish ≡ false

-- the totals were read on its connection
abbrev pub IsSized : Bool → EndPast → Type 0
IsSized sized end = sized ≡ true → end.sized ≢ None

-- so many bytes of the block that is begun are left
abbrev pub HasLeft : Option Block → ℕ → Type 0
HasLeft None left = ⊥
HasLeft (Some b) left = (0 < left) × (left ≤ b.length)

-- the sender said that nothing more is to come
pub record Waits (past : RecvPast) (end : EndPast) : Type 0 where
  pub goes_on : GoesOn past true
  pub begun : past.begun ≡ None
  pub idle : past.is_idle ≡ true
  pub met : end.met ≢ None
  pub sized : end.sized ≢ None

-- it says the last word, or waits for the answer
pub record Concludes (past : RecvPast) (end : EndPast) : Type 0 where
  pub goes_on : GoesOn past true
  pub begun : past.begun ≡ None
  pub finish : end.has_finish ≡ true

-- it has a connection, and writes that the end has failed
pub record Warns (past : RecvPast) (has_failed : Bool) : Type 0 where
  pub goes_on : GoesOn past true
  pub failed : has_failed ≡ true

-- how a lane stands in each state: by whether the end has failed, what is kept of the lane, its past and
-- the end's
abbrev pub Fares : Bool → RecvState → RecvLane → RecvPast → EndPast → Type 0
Fares failed states.Listen lane past end = Listens past
Fares failed states.ReadSettings lane past end = Meets past × (lane.is_sized ≡ false)
Fares failed states.SendLocalCheckpoint lane past end = Serves past end × (past.begun ≡ None) × (lane.is_sized ≡ false)
Fares failed states.SendFileChunks lane past end = Serves past end × (past.begun ≡ None) × (lane.is_sized ≡ false)
Fares failed states.ReadNextCmd lane past end = Serves past end × (past.begun ≡ None) × IsSized lane.is_sized end
Fares failed states.TakeBlock lane past end = Serves past end × HasLeft past.begun lane.left × (lane.is_sized ≡ true) × (end.sized ≢ None)
Fares failed states.SendWait lane past end = Waits past end × (lane.is_sized ≡ true)
Fares failed states.WaitForFinish lane past end = Waits past end × (lane.is_sized ≡ true)
Fares failed states.SendGlobalCheckpoint lane past end = Serves past end × (past.begun ≡ None) × (lane.is_sized ≡ true) × (end.sized ≢ None) × (past.telling ≢ [])
Fares failed states.SendDone lane past end = Concludes past end
Fares failed states.ReadAck lane past end = Concludes past end
Fares failed states.SendAbort lane past end = Warns past failed
Fares failed states.Ended lane past end = (failed ≡ true) ⊎ ((past.is_closed ≡ true) ⊎ ((past.has_quit ≡ true) ⊎ (past.is_acked ≡ true)))

-- a lane stands as its state says
abbrev pub FaresAt : PlainReceiver → ℕ → Type 0
FaresAt r l = Fares (is_failure r.answer) (lane_at r l).state (lane_at r l) (past_at r l) (end_of r.history)

-- a plain receiver as steps leave it. On an end that hasn't failed no lane read that the sender has, or
-- what no sender may say.
pub record IsReceiver (r : PlainReceiver) : Type 0 where
  pub few : length r.lanes ≤ 16
  pub legal : IsLegal (terms_of r) r.history
  pub lanes : (l : ℕ) → l < length r.lanes → FaresAt r l
  pub faultless : is_failure r.answer ≡ false → (end_of r.history).has_fault ≡ false
  pub finished : has_finish r ≡ true → r.unlogged ≡ []
