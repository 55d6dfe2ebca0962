-- What a script says.
use Rattle.std.specs.Prelude.{◌≡◌, ℕ, ◌+◌, nat_le, List, [], ◌∷◌, ◌++◌, Result, Ok, Err, Vec, if◌then◌else◌}
use Rattle.std.specs.declared.alloc.Global.{Global}
use Rattle.wdt_script.specs.declared.event.Event.{Event}
use Rattle.wdt_script.specs.declared.fail.ScriptFail.{ScriptFail}
use Rattle.wdt_script.specs.declared.fail.ScriptFail.TheVariants.{BadScript, NoMemory}
use Rattle.wdt_script.specs.declared.reading.Reading.{Reading}
use Rattle.wdt_script.specs.declared.reading.Reading.TheVariants.{Passed, Says, Unread}
use Rattle.wdt_script.specs.declared.script.TheConstants.{MAX_LINES}
use Rattle.wdt_script.specs.Events.{read_line}
use Rattle.wdt_script.specs.Lines.{lines_of}

-- one more event in front
abbrev pub with_event : Event → Result (List Event) ℕ → Result (List Event) ℕ
with_event event (Ok events) = Ok (event ∷ events)
with_event event (Err line) = Err line

-- what a line says, of this number, in front of what those behind it say
abbrev pub in_front : ℕ → Reading → Result (List Event) ℕ → Result (List Event) ℕ
in_front line Passed more = more
in_front line (Says event) more = with_event event more
in_front line Unread more = Err line

-- the events of lines behind so many others, in their order; or the number of the first that has no
-- reading, or that is one too many
unfoldable pub script_behind : ℕ → ℕ → List (List ℕ) → Result (List Event) ℕ
script_behind lanes count [] = Ok []
script_behind lanes count (line ∷ lines) =
    if nat_le MAX_LINES count then Err (count + 1)
    else in_front (count + 1) (read_line lanes line) (script_behind lanes (count + 1) lines)

-- the events of a script; or the number of its first line, from 1, that has no reading
abbrev pub script_of : ℕ → List ℕ → Result (List Event) ℕ
script_of lanes bytes = script_behind lanes 0 (lines_of bytes)

-- events that were read, in front of what the lines behind them say
abbrev pub with_events : List Event → Result (List Event) ℕ → Result (List Event) ℕ
with_events front (Ok events) = Ok (front ++ events)
with_events front (Err line) = Err line

-- a failure says why
abbrev pub Fails : ScriptFail → Result (List Event) ℕ → Type 0
Fails (BadScript line) script = script ≡ Err line
Fails NoMemory script = Unit {0}

-- what was returned is what the script says, or memory ran out
abbrev pub Gives : Result (Vec Event Global) ScriptFail → Result (List Event) ℕ → Type 0
Gives (Ok events) script = script ≡ Ok events.items
Gives (Err fail) script = Fails fail script
