-- The worked steps, by computation.
use Rattle.std.specs.Prelude.{◌≡◌, refl, [], ◌∷◌}
use Rattle.wdt_units.specs.LaneSets.{lanes_with, only_lane}
use Rattle.wdt_codec.specs.declared.frames.Frame.TheVariants as frames
use Rattle.wdt_logfmt.specs.Adding.{can_cover}
use Rattle.wdt_logfmt.specs.Marks.{marks_of}
use Rattle.wdt_sender_fsm.specs.declared.peers.PeerKind.TheVariants.{Overlap, SizeDiffers}
use Rattle.wdt_receiver_fsm.specs.declared.inputs.RecvIn.TheVariants as inputs
use Rattle.wdt_receiver_fsm.specs.PlainReceiver.{mark_of}
use Rattle.wdt_receiver_fsm.specs.ReceiverHistory.{confirm_of, end_of, landed_of, past_of}
use Rattle.wdt_receiver_fsm.specs.Turn.{recv_plan, take_plan, turn_plan}
use Rattle.wdt_receiver_fsm.specs.Worked.{lane, header, one_lane, one_begun, named_landed, two_lanes, two_waiting, half_closed, makes_the_file, writes_the_bytes, finishes, two_faulted, tells, waits, parks}

pub makes : recv_plan one_lane (lane 0) (inputs.Got (frames.Block (header 2))) ≡ makes_the_file
unfolding turn_plan past_of end_of landed_of marks_of
makes = refl

pub writes : take_plan one_begun (lane 0) (104 ∷ 105 ∷ []) ≡ writes_the_bytes
unfolding turn_plan past_of end_of landed_of marks_of
writes = refl

pub finished : recv_plan named_landed (lane 0) (inputs.Got frames.Done) ≡ finishes
unfolding turn_plan past_of end_of landed_of marks_of confirm_of can_cover
finished = refl

pub overlaps : recv_plan two_lanes (lane 1) (inputs.Got (frames.Block (header 2))) ≡ two_faulted (Overlap 0)
unfolding turn_plan past_of end_of landed_of marks_of
overlaps = refl

pub differs : recv_plan two_lanes (lane 1) (inputs.Got (frames.Block (header 3))) ≡ two_faulted (SizeDiffers 2 0 3 0)
unfolding turn_plan past_of end_of landed_of marks_of
differs = refl

pub told : recv_plan half_closed (lane 1) (inputs.Got frames.Done) ≡ tells
unfolding turn_plan past_of end_of landed_of confirm_of mark_of only_lane lanes_with
told = refl

pub waited : recv_plan two_lanes (lane 1) (inputs.Got frames.Done) ≡ waits
unfolding turn_plan past_of end_of landed_of confirm_of
waited = refl

pub parked : recv_plan two_waiting (lane 1) inputs.Wrote ≡ parks
unfolding turn_plan past_of end_of landed_of confirm_of
parked = refl
