-- Which file an entry touches, and room for the spans of blocks that are still to land.
use Rattle.std.specs.Prelude.{◌≡◌, ◌⊎◌, ℕ, ◌+◌, ◌≤◌, List, [], ◌∷◌, sum_by}
use Rattle.wdt_units.specs.declared.limits.TheConstants.{MAX_SPANS, MAX_TOTAL}
use Rattle.wdt_logfmt.specs.declared.entry.LogEntry.{LogEntry}
use Rattle.wdt_logfmt.specs.declared.entry.LogEntry.TheVariants.{File, Covered}
use Rattle.wdt_logfmt.specs.View.{NamedFile, spans_in, bytes_in}

-- the file is one of these
abbrev pub IsAmong : NamedFile → List NamedFile → Type 0
IsAmong f [] = ⊥
IsAmong f (g ∷ gs) = (g ≡ f) ⊎ IsAmong f gs

-- the number of the file that an entry names, or of which it covers a span
abbrev pub entry_number : LogEntry → ℕ
entry_number (File number path size stamp) = number
entry_number (Covered number offset count) = number

-- with so many spans and covered bytes more the files stay within the limits of a log
pub record HasRoomFor (fs : List NamedFile) (spans bytes : ℕ) : Type 0 where
  pub spans_fit : sum_by spans_in fs + spans ≤ MAX_SPANS
  pub bytes_fit : sum_by bytes_in fs + bytes ≤ MAX_TOTAL
