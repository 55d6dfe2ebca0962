-- What a line says.
use Rattle.std.specs.Prelude.{ℕ, Bool, true, ◌==◌, ◌&&◌, nat_le, nat_lt, List, [], ◌∷◌, length, Option, Some, None, if◌then◌else◌}
use Rattle.wdt_units.specs.declared.numbers.Lane.{Lane}
use Rattle.wdt_script.specs.declared.event.Event.{Event}
use Rattle.wdt_script.specs.declared.event.Event.TheVariants as events
use Rattle.wdt_script.specs.declared.numbers.Numbers.{Numbers}
use Rattle.wdt_script.specs.declared.numbers.Numbers.TheVariants.{Zero, One, Two, Three}
use Rattle.wdt_script.specs.declared.reading.Reading.{Reading}
use Rattle.wdt_script.specs.declared.reading.Reading.TheVariants.{Passed, Says, Unread}
use Rattle.wdt_script.specs.declared.reading.TheConstants.{MAX_AMOUNT, MAX_STEPS}
use Rattle.wdt_script.specs.declared.script.TheConstants.{MAX_LINE}
use Rattle.wdt_script.specs.declared.word.Word.{Word}
use Rattle.wdt_script.specs.declared.word.Word.TheVariants as words
use Rattle.wdt_script.specs.Lines.{fields_of}
use Rattle.wdt_script.specs.Numbers.{numbers_of}
use Rattle.wdt_script.specs.Words.{word_of}

-- ---- what a number may be

-- a lane of so many
abbrev pub lane_of : ℕ → ℕ → Option Lane
lane_of lanes n = if nat_lt n lanes then Some (record { 0 = n }) else None

-- a number of steps, or of calls
abbrev pub steps_of : ℕ → Option ℕ
steps_of n = if nat_le 1 n && nat_le n MAX_STEPS then Some n else None

-- a number of bytes, or a pick
abbrev pub amount_of : ℕ → Option ℕ
amount_of n = if nat_le n MAX_AMOUNT then Some n else None

-- ---- the forms

-- an event of a lane
abbrev pub on_lane : (Lane → Event) → Option Lane → Option Event
on_lane make (Some lane) = Some (make lane)
on_lane make None = None

-- an event of a lane and a number
abbrev pub with_steps : (Lane → ℕ → Event) → Option Lane → Option ℕ → Option Event
with_steps make (Some lane) (Some n) = Some (make lane n)
with_steps make (Some lane) None = None
with_steps make None n = None

-- a cut
abbrev pub cut_of : Option Lane → Option ℕ → Option ℕ → Option Event
cut_of (Some lane) (Some down) (Some up) = Some (events.Cut lane down up)
cut_of (Some lane) (Some down) None = None
cut_of (Some lane) None up = None
cut_of None down up = None

-- a stop
abbrev pub stop_of : Option ℕ → Option ℕ → Option Event
stop_of (Some calls) (Some pick) = Some (events.Stop calls pick)
stop_of (Some calls) None = None
stop_of None pick = None

-- the event of a word and the numbers behind it, one form a line
abbrev pub event_for : ℕ → Word → Numbers → Option Event
event_for lanes words.S (One lane) = with_steps events.S (lane_of lanes lane) (Some 1)
event_for lanes words.S (Two lane times) = with_steps events.S (lane_of lanes lane) (steps_of times)
event_for lanes words.R (One lane) = with_steps events.R (lane_of lanes lane) (Some 1)
event_for lanes words.R (Two lane times) = with_steps events.R (lane_of lanes lane) (steps_of times)
event_for lanes words.Cut (Three lane down up) = cut_of (lane_of lanes lane) (amount_of down) (amount_of up)
event_for lanes words.Deny (One lane) = on_lane events.Deny (lane_of lanes lane)
event_for lanes words.Refuse (One lane) = on_lane events.Refuse (lane_of lanes lane)
event_for lanes words.Stop (Two calls pick) = stop_of (steps_of calls) (amount_of pick)
event_for lanes words.Settle Zero = Some events.Settle
event_for lanes words.Resume Zero = Some events.Resume
event_for lanes word numbers = None

-- the same where both are there
abbrev pub event_with : ℕ → Option Word → Option Numbers → Option Event
event_with lanes (Some word) (Some numbers) = event_for lanes word numbers
event_with lanes (Some word) None = None
event_with lanes None numbers = None

-- the event of a line's fields: a word, and numbers
abbrev pub event_in : ℕ → List (List ℕ) → Option Event
event_in lanes [] = None
event_in lanes (word ∷ fields) = event_with lanes (word_of word) (numbers_of fields)

-- the event of a line
abbrev pub event_of : ℕ → List ℕ → Option Event
event_of lanes line = event_in lanes (fields_of line)

-- ---- lines

-- a line that is passed over: an empty one, or one that begins with `#`
abbrev pub is_passed : List ℕ → Bool
is_passed [] = true
is_passed (first ∷ more) = first == 35

-- an event that a line says, or no reading
abbrev pub said_by : Option Event → Reading
said_by None = Unread
said_by (Some event) = Says event

-- what a line says, without the byte that ends it
abbrev pub read_line : ℕ → List ℕ → Reading
read_line lanes line =
    if nat_lt MAX_LINE (length line) then Unread
    else if is_passed line then Passed
    else said_by (event_of lanes line)
