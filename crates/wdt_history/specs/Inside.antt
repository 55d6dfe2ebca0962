-- A lane's claims as the code keeps them.
use Rattle.std.specs.Prelude.{◌-◌, vec_len, vec_capacity}
use Rattle.wdt_history.specs.declared.lane.LaneClaims.TheInside.{Inside}
use Rattle.wdt_history.specs.Slots.{Slot}

-- what a lane is seen as: its claims, and how many more blocks its list takes without memory
abbrev pub seen : Inside → Slot
seen lane =
    record {
      claims = record { kept = lane.kept.items; sure = lane.sure; held = lane.held; closed = lane.closed };
      room = vec_capacity lane.kept - vec_len lane.kept;
    }
