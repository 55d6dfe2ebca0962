-- The connections of a lane in bytes, and what becomes of them.
use Rattle.std.specs.Prelude.{◌≡◌, ℕ, ◌-◌, nat_lt, ◌||◌, not, Bool, true, false, if◌then◌else◌, List, [], ◌∷◌, ◌++◌, is_some, map, Option, Some, None, option_map}
use Rattle.wdt_receiver_fsm.specs.declared.inputs.RecvIn.{RecvIn}
use Rattle.wdt_receiver_fsm.specs.declared.inputs.RecvIn.TheVariants as inputs
use Rattle.wdt_wire.specs.declared.side.Side.{Side}
use Rattle.wdt_wire.specs.declared.side.Side.TheVariants.{Down, Up}
use Rattle.wdt_wire.specs.declared.taken.Taken.{Taken}
use Rattle.wdt_wire.specs.declared.taken.Taken.TheVariants as found
use Rattle.wdt_wire.specs.Wires.{PlainWire, can_write, left_by, new_wire}

-- The connection that the receiver's lane took last, those that wait for it, the oldest first, but for the newest,
-- and the newest, which is the sender's; where none waits, that is the taken one. So many further tries to make one
-- fail, and so many to take one.
pub record LinesView : Type 0 where
  pub taken : Option PlainWire
  pub between : List PlainWire
  pub newest : Option PlainWire
  pub denies : ℕ
  pub refusals : ℕ

-- a lane that has no connection yet
abbrev pub no_lines : LinesView
no_lines = record { taken = None; between = []; newest = None; denies = 0; refusals = 0 }

-- ---- the sender's connection

-- the newest that waits, or the one that was taken
abbrev pub top_by : Option PlainWire → Option PlainWire → Option PlainWire
top_by None taken = taken
top_by (Some wire) taken = Some wire

-- the sender's
abbrev pub top_wire : LinesView → Option PlainWire
top_wire v = top_by v.newest v.taken

-- the taken one, where the sender's becomes so
abbrev pub taken_by : (PlainWire → PlainWire) → Option PlainWire → Option PlainWire → Option PlainWire
taken_by f None taken = option_map f taken
taken_by f (Some wire) taken = taken

-- the newest that waits, where the sender's becomes so
abbrev pub newest_by : (PlainWire → PlainWire) → Option PlainWire → Option PlainWire
newest_by f newest = option_map f newest

-- the sender's connection becomes so
abbrev pub on_top : (PlainWire → PlainWire) → LinesView → LinesView
on_top f v = record v { taken = taken_by f v.newest v.taken; newest = newest_by f v.newest }

-- ---- an end leaves

-- the sender leaves a connection
abbrev pub left_down : PlainWire → PlainWire
left_down wire = left_by wire Down

-- the receiver does
abbrev pub left_up : PlainWire → PlainWire
left_up wire = left_by wire Up

-- the receiver leaves all
abbrev pub all_left_up : LinesView → LinesView
all_left_up v = record v { taken = option_map left_up v.taken; between = map left_up v.between; newest = option_map left_up v.newest }

-- ---- a connection is made

-- one that may be there, as a list, left by the sender
abbrev pub waiting : Option PlainWire → List PlainWire
waiting None = []
waiting (Some wire) = left_down wire ∷ []

-- a connection is made, which is the sender's: it leaves the one before
abbrev pub made : LinesView → LinesView
made v = record v { taken = taken_by left_down v.newest v.taken; between = v.between ++ waiting v.newest; newest = Some new_wire }

-- a try to make one works: none is to fail, and the receiver's lane hasn't stopped
abbrev pub can_dial : ℕ → Bool → Bool
can_dial denies has_stopped = not (nat_lt 0 denies || has_stopped)

-- behind a try to make one
abbrev pub dialed : Bool → LinesView → LinesView
dialed has_stopped v = if nat_lt 0 v.denies then record v { denies = v.denies - 1 } else (if has_stopped then v else made v)

-- ---- a connection is taken

-- one waits
abbrev pub has_waiting : List PlainWire → Option PlainWire → Bool
has_waiting [] newest = is_some newest
has_waiting (wire ∷ wires) newest = true

-- which is taken, where some wait
abbrev pub first_of : List PlainWire → (newest taken : Option PlainWire) → Option PlainWire
first_of [] None taken = taken
first_of [] (Some wire) taken = Some wire
first_of (wire ∷ wires) newest taken = Some wire

-- those that wait on
abbrev pub behind_first : List PlainWire → List PlainWire
behind_first [] = []
behind_first (wire ∷ wires) = wires

-- the newest that waits on
abbrev pub newest_behind : List PlainWire → Option PlainWire → Option PlainWire
newest_behind [] newest = None
newest_behind (wire ∷ wires) newest = newest

-- the one that has waited longest is taken
abbrev pub taken_next : LinesView → LinesView
taken_next v = record v { taken = first_of v.between v.newest v.taken; between = behind_first v.between; newest = newest_behind v.between v.newest }

-- what came of a try to take one: it was refused, one was taken, or none will come; or nothing
abbrev pub accepts : (is_refused waits has_stopped : Bool) → Option RecvIn
accepts true waits has_stopped = Some inputs.NoLink
accepts false true has_stopped = Some inputs.Linked
accepts false false true = Some inputs.NoLink
accepts false false false = None

-- behind a try to take one
abbrev pub accepted : LinesView → LinesView
accepted v = if nat_lt 0 v.refusals then record v { refusals = v.refusals - 1 } else taken_next v

-- ---- what is read

-- a frame was looked for on a connection that may be there, towards this end
abbrev pub FindsOn : (Taken → PlainWire → PlainWire → Type 0) → Taken → Option PlainWire → Option PlainWire → Type 0
FindsOn Finds taken None new = (taken ≡ found.Nothing) × (new ≡ None)
FindsOn Finds taken (Some old) None = ⊥
FindsOn Finds taken (Some old) (Some new) = Finds taken old new

-- ---- what becomes of one connection

-- the taken one, where the sender's is now this
abbrev pub put_taken : Option PlainWire → (top taken : Option PlainWire) → Option PlainWire
put_taken None top taken = top
put_taken (Some wire) top taken = taken

-- the newest that waits, where the sender's is now this
abbrev pub put_newest : Option PlainWire → Option PlainWire → Option PlainWire
put_newest None top = None
put_newest (Some wire) top = top

-- the sender's connection is now this
abbrev pub with_top_wire : Option PlainWire → LinesView → LinesView
with_top_wire top v = record v { taken = put_taken v.newest top v.taken; newest = put_newest v.newest top }

-- the taken one is now this
abbrev pub with_taken : Option PlainWire → LinesView → LinesView
with_taken taken v = record v { taken = taken }

-- a write in this direction works, where there is a connection
abbrev pub can_write_on : Option PlainWire → Side → Bool
can_write_on None side = false
can_write_on (Some wire) side = can_write wire side

-- the taken one becomes so
abbrev pub taken_on : (PlainWire → PlainWire) → LinesView → LinesView
taken_on f v = record v { taken = option_map f v.taken }
