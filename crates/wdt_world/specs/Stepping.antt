-- A step of a lane is the event of its world.
use Rattle.std.specs.Prelude.{◌≡◌, ℕ, ◌<◌, ◌≤◌, false, length, Option, None}
use Rattle.wdt_units.specs.declared.limits.TheConstants.{PIECE}
use Rattle.wdt_sender_fsm.specs.PlainSender.{PlainSender}
use Rattle.wdt_sender_fsm.specs.Sender.{FitsIn}
use Rattle.wdt_receiver_fsm.specs.declared.states.RecvState.TheVariants as states
use Rattle.wdt_receiver_fsm.specs.PlainReceiver.{PlainReceiver, lane_at, state_at}
use Rattle.wdt_receiver_fsm.specs.Turn.{Given}
use Rattle.wdt_receiver_fsm.specs.Writes.{FitsPut}
use Rattle.wdt_pact.specs.Pairs.{Pair, RecvDoes}
use Rattle.wdt_pact.specs.Progress.{is_parked}
use Rattle.wdt_pact.specs.World.{PlainWorld, Receives, Sends, happens, pair_at}
use Rattle.wdt_world.specs.declared.hands.RecvHand.{RecvHand}
use Rattle.wdt_world.specs.declared.hands.RecvHand.TheVariants as recv
use Rattle.wdt_world.specs.declared.hands.SendHand.{SendHand}
use Rattle.wdt_world.specs.declared.hands.SendHand.TheVariants as send
use Rattle.wdt_world.specs.Acting.{HasTaken, HasTop, MayReceive, MaySend}
use Rattle.wdt_world.specs.Hands.{recv_held, send_held}
use Rattle.wdt_world.specs.Lines.{LinesView, top_wire}
use Rattle.wdt_world.specs.Pairing.{ShowsLines}

-- what the sender's lane holds may be performed, or handed in
abbrev pub MayStep : SendHand → LinesView → Type 0
MayStep (send.Does act) v = MaySend act (top_wire v)
MayStep (send.Has input) v = FitsIn input

-- where it writes it has a connection
abbrev pub CanStep : SendHand → Pair → Type 0
CanStep (send.Does act) p = HasTop act p
CanStep (send.Has input) p = Unit {0}

-- The sender's lane of this world took a step, and holds this: the end and the lane are those behind that event. The
-- source may have failed in its block, for this reason alone.
pub record StepsSend (Fails : Type 0) (w : PlainWorld) (l : ℕ) (s : PlainSender) (hand : SendHand) (v : LinesView) : Type 0 where
  pub lost : Option ℕ
  pub cause : (lost ≡ None → ⊥) → Fails
  pub sender : (happens w (Sends l lost)).sender ≡ s
  pub held : send_held hand ≡ (pair_at (happens w (Sends l lost)) l).send
  pub other : (pair_at (happens w (Sends l lost)) l).recv ≡ (pair_at w l).recv
  pub shows : ShowsLines v (pair_at (happens w (Sends l lost)) l)

-- ---- the receiver's lane

-- bytes that a lane took are a piece of the block that it takes, and no more than are left
pub record TakesPiece (r : PlainReceiver) (l n : ℕ) : Type 0 where
  pub here : state_at r l ≡ states.TakeBlock
  pub some : 0 < n
  pub most : n ≤ PIECE
  pub within : n ≤ (lane_at r l).left

-- what the receiver's lane holds may be performed, or handed in
abbrev pub MayStepRecv : PlainReceiver → ℕ → RecvHand → LinesView → Type 0
MayStepRecv r l (recv.Does act) v = MayReceive act v.taken
MayStepRecv r l (recv.Has input) v = FitsPut (Given input)
MayStepRecv r l (recv.Took bytes) v = TakesPiece r l (length bytes.items)

-- it doesn't wait for other lanes, where it writes it has taken a connection, and what it reads or takes comes next there
abbrev pub CanStepRecv : RecvHand → Pair → Type 0
CanStepRecv (recv.Does act) p = HasTaken act p × (is_parked (RecvDoes act) ≡ false)
CanStepRecv (recv.Has input) p = Unit {0}
CanStepRecv (recv.Took bytes) p = Unit {0}

-- The receiver's lane of this world took a step, and holds this: the end and the lane are those behind that event. One
-- program of its calls on the disk may have failed, for this reason alone.
pub record StepsRecv (Fails : Type 0) (w : PlainWorld) (l : ℕ) (r : PlainReceiver) (hand : RecvHand) (v : LinesView) : Type 0 where
  pub broken : Option ℕ
  pub cause : (broken ≡ None → ⊥) → Fails
  pub receiver : (happens w (Receives l broken)).receiver ≡ r
  pub held : recv_held hand ≡ (pair_at (happens w (Receives l broken)) l).recv
  pub other : (pair_at (happens w (Receives l broken)) l).send ≡ (pair_at w l).send
  pub shows : ShowsLines v (pair_at (happens w (Receives l broken)) l)
