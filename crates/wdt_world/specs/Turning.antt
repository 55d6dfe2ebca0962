-- What handing in comes to.
use Rattle.std.specs.Prelude.{◌≡◌, ℕ, Bool, Option, None}
use Rattle.wdt_units.specs.declared.numbers.Lane.{Lane}
use Rattle.wdt_sender_fsm.specs.declared.acts.SendAct.{SendAct}
use Rattle.wdt_sender_fsm.specs.declared.inputs.SendIn.{SendIn}
use Rattle.wdt_sender_fsm.specs.PlainSender.{PlainSender}
use Rattle.wdt_sender_fsm.specs.Turn.{send_turn}
use Rattle.wdt_receiver_fsm.specs.declared.acts.RecvAct.{RecvAct}
use Rattle.wdt_receiver_fsm.specs.PlainReceiver.{PlainReceiver}
use Rattle.wdt_receiver_fsm.specs.Turn.{Put}
use Rattle.wdt_pact.specs.Pairs.{Pair, recv_gets, send_takes}
use Rattle.wdt_pact.specs.World.{recv_turn}
use Rattle.wdt_world.specs.Lines.{LinesView}
use Rattle.wdt_world.specs.Pairing.{ShowsLines}

-- the sender's lane of this pair handed in an input, which came to this act of the definition, and the connections are those
-- of the pair behind it, whether or not the lane was told its count
pub record TurnsSend (s : PlainSender) (l : Lane) (p : Pair) (input : SendIn) (act : SendAct) (t : PlainSender) (v : LinesView) : Type 0 where
  pub step : send_turn s l input ≡ (act, t)
  pub shows : (is_greeted : Bool) → ShowsLines v (send_takes p input is_greeted act)

-- The receiver's lane of this pair handed something in, which came to this act of the definition; one of its programs of
-- calls on the disk may have failed, for this reason alone.
pub record TurnsRecv (Fails : Type 0) (r : PlainReceiver) (l : Lane) (p : Pair) (put : Put) (act : RecvAct) (t : PlainReceiver) (v : LinesView) : Type 0 where
  pub broken : Option ℕ
  pub cause : (broken ≡ None → ⊥) → Fails
  pub step : recv_turn r l.0 put broken ≡ (act, t)
  pub shows : ShowsLines v (recv_gets p act)
