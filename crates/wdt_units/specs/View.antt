-- What the objects of this crate show of themselves: bytes, counts, and which calls fail.
use Rattle.std.specs.Prelude.{ℕ, ◌||◌, List, drop, Result, is_ok, if◌then◌else◌}
use Rattle.wdt_units.specs.declared.inputs.MemInput.{MemInput}
use Rattle.wdt_units.specs.declared.inputs.FromRead.{FromRead}
use Rattle.wdt_units.specs.declared.sinks.MemSink.{MemSink}
use Rattle.wdt_units.specs.declared.sinks.ToWrite.{ToWrite}
use Rattle.wdt_units.specs.Schedule.{Schedule, is_due, numbered}

-- ---- numbered calls

-- a schedule of which no call was made
abbrev pub new_schedule : List ℕ → Schedule
new_schedule fails = record { fails = fails; calls = 0 }

-- a schedule behind a call that had to succeed or to have a number that fails: one that is refused for
-- want of memory gets no number
abbrev pub schedule_behind : {T E : Type 0} → Result T E → Schedule → Schedule
schedule_behind result s = if is_due s || is_ok result then numbered s else s

-- ---- an input in memory

-- what is left of an input
abbrev pub left_in : MemInput → List ℕ
left_in input = drop input.taken input.bytes.items

-- which of its calls fail
abbrev pub schedule_of_input : MemInput → Schedule
schedule_of_input input = record { fails = input.fails.items; calls = input.calls }

-- how often a call failed
abbrev pub faults_of_input : MemInput → ℕ
faults_of_input input = input.faults

-- ---- a sink in memory

-- what was written to a sink
abbrev pub written_in : MemSink → List ℕ
written_in sink = sink.bytes.items

-- which of its calls fail
abbrev pub schedule_of_sink : MemSink → Schedule
schedule_of_sink sink = record { fails = sink.fails.items; calls = sink.calls }

-- how often a call failed
abbrev pub faults_of_sink : MemSink → ℕ
faults_of_sink sink = sink.faults

-- ---- std's readers and writers

-- how often a call failed
abbrev pub faults_of_reader : {T : Type 0} → FromRead T → ℕ
faults_of_reader input = input.faults

-- the same of a writer
abbrev pub faults_of_writer : {W : Type 0} → ToWrite W → ℕ
faults_of_writer sink = sink.faults
