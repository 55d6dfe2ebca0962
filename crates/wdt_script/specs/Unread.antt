-- Lines that have no reading.
use Rattle.std.specs.Prelude.{◌≡◌, ℕ, ◌+◌, ◌<◌, Bool, true, false, not, ◌&&◌, nat_le, List, slice_get, Some}
use Rattle.wdt_script.specs.declared.reading.Reading.{Reading}
use Rattle.wdt_script.specs.declared.reading.Reading.TheVariants.{Passed, Says, Unread}
use Rattle.wdt_script.specs.declared.script.TheConstants.{MAX_LINES}
use Rattle.wdt_script.specs.Events.{read_line}

-- it is passed over, or says an event
abbrev pub is_reading : Reading → Bool
is_reading Passed = true
is_reading (Says event) = true
is_reading Unread = false

-- a line behind so many others has a reading: it isn't one too many, and is passed over or says an event
abbrev pub has_reading : ℕ → ℕ → List ℕ → Bool
has_reading lanes count line = not (nat_le MAX_LINES count) && is_reading (read_line lanes line)

-- of lines that stand behind so many others, the one at a place has no reading, and those before it have
pub record IsUnreadAt (lanes count : ℕ) (lines : List (List ℕ)) (k : ℕ) : Type 0 where
  pub line : List ℕ
  pub there : slice_get lines k ≡ Some line
  pub unread : has_reading lanes (count + k) line ≡ false
  pub before : (j : ℕ) (other : List ℕ) → j < k → slice_get lines j ≡ Some other → has_reading lanes (count + j) other ≡ true

-- the line of this number, from 1, has no reading, and those before it have
abbrev pub IsFirstUnread : ℕ → List (List ℕ) → ℕ → Type 0
IsFirstUnread lanes lines n = (k : ℕ) × (n ≡ k + 1) × IsUnreadAt lanes 0 lines k

-- of lines that stand behind so many others each has a reading
abbrev pub AreReadBehind : ℕ → ℕ → List (List ℕ) → Type 0
AreReadBehind lanes count lines = (k : ℕ) (line : List ℕ) → slice_get lines k ≡ Some line → has_reading lanes (count + k) line ≡ true

-- each line has a reading
abbrev pub AreRead : ℕ → List (List ℕ) → Type 0
AreRead lanes lines = AreReadBehind lanes 0 lines
