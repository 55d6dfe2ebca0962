-- The three ways in which a lane comes to the choice of an idle lane.
use Rattle.std.specs.Prelude.{List, [], ◌∷◌, ◌++◌}
use Rattle.wdt_units.specs.declared.numbers.Lane.{Lane}
use Rattle.wdt_receiver_fsm.specs.declared.events.RecvEvent.{RecvEvent}
use Rattle.wdt_receiver_fsm.specs.declared.events.RecvEvent.TheVariants as events
use Rattle.wdt_receiver_fsm.specs.Plan.{Plan}
use Rattle.wdt_receiver_fsm.specs.PlainReceiver.{PlainReceiver}
use Rattle.wdt_receiver_fsm.specs.Rows.{Row, Done, WaitWritten, Woken}
use Rattle.wdt_receiver_fsm.specs.Turn.{Step, idle_plan, idles_lane, waited_lane}
use Rattle.wdt_receiver_fsm.specs.declared.idling.Idling.{Idling}
use Rattle.wdt_receiver_fsm.specs.declared.idling.Idling.TheVariants as ways

-- the row that it is
abbrev pub row_of_way : Idling → Row
row_of_way ways.Done = Done
row_of_way ways.WaitWritten = WaitWritten
row_of_way ways.Woken = Woken

-- the receiver as it chooses
abbrev pub idled : Idling → PlainReceiver → Lane → PlainReceiver
idled ways.Done r l = idles_lane r l
idled ways.WaitWritten r l = waited_lane r l
idled ways.Woken r l = r

-- the history as it chooses
abbrev pub idled_history : Idling → List RecvEvent → Lane → List RecvEvent
idled_history ways.Done g l = g ++ events.Idle l ∷ []
idled_history ways.WaitWritten g l = g
idled_history ways.Woken g l = g

-- the choice
abbrev pub choice_plan : Idling → PlainReceiver → Lane → Plan Step
choice_plan way r l = idle_plan r.history (idled way r l) l (row_of_way way)
