-- What a lane has of what it found.
use Rattle.std.specs.Prelude.{Option, Some, None}
use Rattle.wdt_sender_fsm.specs.declared.inputs.SendIn.{SendIn}
use Rattle.wdt_sender_fsm.specs.declared.inputs.SendIn.TheVariants as inputs
use Rattle.wdt_receiver_fsm.specs.declared.inputs.RecvIn.TheVariants as recv_inputs
use Rattle.wdt_wire.specs.declared.taken.Taken.{Taken}
use Rattle.wdt_wire.specs.declared.taken.Taken.TheVariants as found
use Rattle.wdt_world.specs.declared.hands.RecvHand.{RecvHand}
use Rattle.wdt_world.specs.declared.hands.RecvHand.TheVariants as recv

-- the sender's lane
abbrev pub heard_up : Taken → Option SendIn
heard_up (found.Frame frame) = Some (inputs.Got frame)
heard_up (found.Piece bytes) = None
heard_up found.Nothing = None
heard_up found.Lost = Some inputs.Lost

-- the receiver's lane
abbrev pub heard_down : Taken → Option RecvHand
heard_down (found.Frame frame) = Some (recv.Has (recv_inputs.Got frame))
heard_down (found.Piece bytes) = Some (recv.Took bytes)
heard_down found.Nothing = None
heard_down found.Lost = Some (recv.Has recv_inputs.Lost)
