-- The worked steps, by computation.
use Rattle.std.specs.Prelude.{◌≡◌, refl, [], ◌∷◌}
use Rattle.wdt_codec.specs.declared.frames.Frame.TheVariants as frames
use Rattle.wdt_sender_fsm.specs.declared.inputs.SendIn.TheVariants as inputs
use Rattle.wdt_sender_fsm.specs.Places.{planned_now}
use Rattle.wdt_sender_fsm.specs.SenderHistory.{past_of, end_of}
use Rattle.wdt_sender_fsm.specs.Turn.{send_turn}
use Rattle.wdt_sender_fsm.specs.Worked.{lane, mark, one_lane, wrongly_greeted, rightly_greeted, two_lanes, done_early, two_unlisted, done_before_a_plan, half_lost, taken_over}

pub greeted_wrongly : send_turn one_lane (lane 0) (inputs.Got (frames.Greeting (mark 0 1))) ≡ wrongly_greeted
unfolding send_turn past_of end_of planned_now
greeted_wrongly = refl

pub greeted_rightly : send_turn one_lane (lane 0) (inputs.Got (frames.Greeting (mark 0 0))) ≡ rightly_greeted
unfolding send_turn past_of end_of planned_now
greeted_rightly = refl

pub finished_early : send_turn two_lanes (lane 1) (inputs.Got frames.Done) ≡ done_early
unfolding send_turn past_of end_of planned_now
finished_early = refl

pub finished_before_a_plan : send_turn two_unlisted (lane 1) (inputs.Got frames.Done) ≡ done_before_a_plan
unfolding send_turn past_of end_of planned_now
finished_before_a_plan = refl

pub took_over : send_turn half_lost (lane 1) (inputs.Got (frames.ErrMarks (mark 0 0 ∷ []))) ≡ taken_over
unfolding send_turn past_of end_of planned_now
took_over = refl
