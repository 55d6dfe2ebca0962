-- A funnel as the code keeps it.
use Rattle.std.specs.Prelude.{◌<◌, ◌≤◌, ◌^◌}
use Rattle.wdt_funnel.specs.declared.funnel.Funnel.TheInside.{Inside}
use Rattle.wdt_funnel.specs.Barrier.{Barrier}

-- what a funnel is seen as: all that it keeps
abbrev pub seen : Inside → Barrier
seen f = record { lanes = f.lanes; closed = f.closed; idle = f.idle; heard = f.heard; named = f.named; telling = f.telling }

-- the funnel that is seen as this
abbrev pub kept_of : Barrier → Inside
kept_of b = record { lanes = b.lanes; closed = b.closed; idle = b.idle; heard = b.heard; named = b.named; telling = b.telling }

-- there are few lanes, and none beyond them is closed or idle
pub record IsFunnel (f : Inside) : Type 0 where
  pub few : f.lanes ≤ 16
  pub closed : f.closed.0 < 2 ^ f.lanes
  pub idle : f.idle.0 < 2 ^ f.lanes
