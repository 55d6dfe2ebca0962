-- What a receiver's entries are for its finish.
use Rattle.std.specs.Prelude.{List, [], ◌∷◌}
use Rattle.std.specs.List.{flat_map}
use Rattle.wdt_funnel.specs.Happenings.{Happening}
use Rattle.wdt_funnel.specs.Happenings as funnel
use Rattle.wdt_receiver_fsm.specs.declared.events.RecvEvent.{RecvEvent}
use Rattle.wdt_receiver_fsm.specs.declared.events.RecvEvent.TheVariants.{Take, Dropped, Idle, Told, Close}

-- what an entry is for the finish: nothing, but for those that take or lose a connection, that say or
-- tell something between the ends, or that close a lane
abbrev pub happening_of : RecvEvent → List Happening
happening_of (Take l c) = funnel.Took l.0 ∷ []
happening_of (Dropped l) = funnel.Dropped l.0 ∷ []
happening_of (Idle l) = funnel.Idled l.0 ∷ []
happening_of (Told l set) = funnel.Told l.0 set ∷ []
happening_of (Close l) = funnel.Closed l.0 ∷ []
happening_of _ = []

-- what a history is for the finish
abbrev pub happenings_of : List RecvEvent → List Happening
happenings_of g = flat_map happening_of g
