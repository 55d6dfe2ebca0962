-- What the lanes hold, as a lane by messages holds it, and what came of an act.
use Rattle.std.specs.Prelude.{◌≡◌, Bool, true, false, length, Option, Some, None}
use Rattle.wdt_sender_fsm.specs.declared.acts.SendAct.TheVariants as acts
use Rattle.wdt_sender_fsm.specs.declared.inputs.SendIn.{SendIn}
use Rattle.wdt_sender_fsm.specs.declared.inputs.SendIn.TheVariants as inputs
use Rattle.wdt_receiver_fsm.specs.declared.acts.RecvAct.{RecvAct}
use Rattle.wdt_receiver_fsm.specs.declared.acts.RecvAct.TheVariants as recv_acts
use Rattle.wdt_receiver_fsm.specs.declared.inputs.RecvIn.{RecvIn}
use Rattle.wdt_pact.specs.Pairs.{Pair, RecvDoes, RecvHas, RecvHold, RecvTook, SendDoes, SendHas, SendHold}
use Rattle.wdt_world.specs.declared.hands.RecvHand.{RecvHand}
use Rattle.wdt_world.specs.declared.hands.RecvHand.TheVariants as recv
use Rattle.wdt_world.specs.declared.hands.SendHand.{SendHand}
use Rattle.wdt_world.specs.declared.hands.SendHand.TheVariants as send
use Rattle.wdt_world.specs.Lines.{LinesView}
use Rattle.wdt_world.specs.Pairing.{ShowsLines}

-- what a sender's lane holds
abbrev pub send_held : SendHand → SendHold
send_held (send.Does act) = SendDoes act
send_held (send.Has input) = SendHas input

-- what a receiver's lane holds: of a piece its length
abbrev pub recv_held : RecvHand → RecvHold
recv_held (recv.Does act) = RecvDoes act
recv_held (recv.Has input) = RecvHas input
recv_held (recv.Took bytes) = RecvTook (length bytes.items)

-- what a lane holds behind an act of which this came, or nothing
abbrev pub send_behind : SendHold → Option SendIn → SendHold
send_behind old None = old
send_behind old (Some input) = SendHas input

-- the same of the receiver's
abbrev pub recv_behind : RecvHold → Option RecvHand → RecvHold
recv_behind old None = old
recv_behind old (Some hand) = recv_held hand

-- this came of an act of the sender's lane: it is what the pair behind it holds, and the connections are the pair's
pub record Sends (old : SendHold) (answer : Option SendIn) (v : LinesView) (q : Pair) : Type 0 where
  pub told : q.send ≡ send_behind old answer
  pub shows : ShowsLines v q

-- the same of the receiver's lane
pub record Receives (old : RecvHold) (answer : Option RecvHand) (v : LinesView) (q : Pair) : Type 0 where
  pub told : q.recv ≡ recv_behind old answer
  pub shows : ShowsLines v q

-- ---- what a lane holds then

-- the sender's lane behind a try to make a connection
abbrev pub dial_hand : Bool → SendHand
dial_hand true = send.Has inputs.Linked
dial_hand false = send.Has inputs.NoLink

-- behind a read
abbrev pub send_hand : Option SendIn → SendHand
send_hand None = send.Does acts.Read
send_hand (Some input) = send.Has input

-- the receiver's lane behind a try to take a connection
abbrev pub accept_hand : Option RecvIn → RecvHand
accept_hand None = recv.Does recv_acts.Accept
accept_hand (Some input) = recv.Has input

-- behind a read, for which it held this act
abbrev pub recv_hand : RecvAct → Option RecvHand → RecvHand
recv_hand act None = recv.Does act
recv_hand act (Some hand) = hand
