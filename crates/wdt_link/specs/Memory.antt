-- What a wire in memory is seen as, and what gives links over a list of them.
use Rattle.std.specs.Prelude.{◌≡◌, ℕ, List, [], ◌∷◌, take, drop, Option, Some, None, Result, Ok, Err}
use Rattle.wdt_units.specs.Schedule.{Schedule}
use Rattle.wdt_link.specs.declared.fails.LinkFail.{LinkFail}
use Rattle.wdt_link.specs.declared.fails.LinkFail.TheVariants.{Failed, NoMemory}
use Rattle.wdt_link.specs.declared.mem_wire.MemWire.{MemWire}
use Rattle.wdt_link.specs.Links.{ByteLinkView}
use Rattle.wdt_link.specs.Talk.{Connection, joined}
use Rattle.wdt_link.specs.Wires.{Cable, begun}

-- ---- a wire

-- the bytes of a wire in memory
abbrev pub cable_of : MemWire → Cable
cable_of wire = record { read = take wire.taken wire.bytes.items; left = drop wire.taken wire.bytes.items; written = wire.written.items }

-- which of its calls fail
abbrev pub schedule_of : MemWire → Schedule
schedule_of wire = record { fails = wire.fails.items; calls = wire.calls }

-- how often a call failed
abbrev pub faults_of : MemWire → ℕ
faults_of wire = wire.faults

-- ---- a list of wires

-- the wires that are still to be given, how many links are out, the counts, and the talk of the links
-- that were taken back
pub record MemLinesView : Type 0 where
  pub left : List Cable
  pub out : ℕ
  pub faults : ℕ
  pub alarms : ℕ
  pub slips : ℕ
  pub talk : Option (List Connection)

-- the next wire is given, as a link that has carried nothing; a call fails exactly where none is left
abbrev pub GivesNext : Result ByteLinkView LinkFail → List Cable → List Cable → Type 0
GivesNext (Ok link) [] left = ⊥
GivesNext (Ok link) (cable ∷ cables) left = (link.told ≡ Some (begun cable)) × (left ≡ cables)
GivesNext (Err Failed) old left = (old ≡ []) × (left ≡ [])
GivesNext (Err NoMemory) old left = left ≡ old

-- the talk of links that were taken back, in order, where each tells its bytes
abbrev pub talk_of : List ByteLinkView → Option (List Connection)
talk_of [] = Some []
talk_of (link ∷ links) = joined link.told (talk_of links)

-- no link was given yet, and none taken back
abbrev pub new_lines : List Cable → MemLinesView
new_lines cables = record { left = cables; out = 0; faults = 0; alarms = 0; slips = 0; talk = Some [] }
