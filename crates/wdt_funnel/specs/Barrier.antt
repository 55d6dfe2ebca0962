-- What stands between a receiver and its finish, lane by lane: a funnel is seen as this.
use Rattle.std.specs.Prelude.{ℕ, ◌&&◌, ◌||◌, not, Bool, List, [], ◌∷◌, replicate, slice_index_or, slice_set}
use Rattle.wdt_units.specs.declared.numbers.LaneSet.{LaneSet}
use Rattle.wdt_units.specs.LaneSets.{has_lane, no_lanes, only_lane, lanes_with, lanes_without}
use Rattle.wdt_funnel.specs.Happenings.{Happening, Took, Dropped, Idled, Told, Closed, every, some}

-- what stands between a receiver and its finish
pub record Barrier : Type 0 where
  -- how many lanes there are, at most 16
  pub lanes : ℕ
  -- those that were given up
  pub closed : LaneSet
  -- those on which the sender has nothing more to send
  pub idle : LaneSet
  -- those of which the sender knows that they are closed
  pub heard : LaneSet
  -- for each of 16 lanes, those of which it told on its last connection
  pub named : List LaneSet
  -- for each of 16 lanes, those of which it told and wasn't idle since
  pub telling : List LaneSet

-- nothing has happened
abbrev pub no_barrier : ℕ → Barrier
no_barrier lanes =
    record {
      lanes = lanes;
      closed = no_lanes;
      idle = no_lanes;
      heard = no_lanes;
      named = replicate 16 no_lanes;
      telling = replicate 16 no_lanes;
    }

-- what stands for a lane in a list with a set for each
abbrev pub set_at : List LaneSet → ℕ → LaneSet
set_at sets lane = slice_index_or sets lane no_lanes

-- one thing more has happened
abbrev pub after : Barrier → Happening → Barrier
after b (Took l) = record b { named = slice_set b.named l no_lanes }
after b (Dropped l) = record b { idle = lanes_without b.idle (only_lane l); telling = slice_set b.telling l no_lanes }
after b (Idled l) =
    record b {
      idle = lanes_with b.idle (only_lane l);
      heard = lanes_with b.heard (set_at b.telling l);
      telling = slice_set b.telling l no_lanes;
    }
after b (Told l set) =
    record b {
      idle = lanes_without b.idle (only_lane l);
      named = slice_set b.named l (lanes_with (set_at b.named l) set);
      telling = slice_set b.telling l (lanes_with (set_at b.telling l) set);
    }
after b (Closed l) = record b { closed = lanes_with b.closed (only_lane l) }

-- what a barrier is behind a list of happenings
abbrev pub barrier_from : Barrier → List Happening → Barrier
barrier_from b [] = b
barrier_from b (e ∷ history) = barrier_from (after b e) history

-- what stands between a receiver of so many lanes and its finish behind all that happened
unfoldable pub barrier_of : ℕ → List Happening → Barrier
barrier_of lanes history = barrier_from (no_barrier lanes) history

-- the closed lanes that are untold for a lane: not confirmed, and not told on its connection
abbrev pub untold : Barrier → ℕ → LaneSet
untold b lane = lanes_without (lanes_without b.closed b.heard) (set_at b.named lane)

-- every lane is idle or closed, one is idle, and every closed lane is confirmed
abbrev pub is_open : Barrier → Bool
is_open b =
    every b.lanes (λ l. has_lane b.idle l || has_lane b.closed l) && some b.lanes (has_lane b.idle)
    && every b.lanes (λ l. not (has_lane b.closed l) || has_lane b.heard l)
