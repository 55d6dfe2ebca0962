-- What contracts see of an open log.
use Rattle.std.specs.Prelude.{ℕ, Bool, List, IsSome}
use Rattle.wdt_depot.specs.Disk.{Disk}
use Rattle.wdt_depot.specs.Moments.{IfTold}
use Rattle.wdt_depot.specs.State.{State}
use Rattle.wdt_logfmt.specs.declared.entry.LogEntry.{LogEntry}
use Rattle.wdt_logfmt.specs.Adding.{all_added}
use Rattle.wdt_logfmt.specs.View.{Meaning, NamedFile}
use Rattle.wdt_good.specs.LogState.{LogOf}

-- the log's version, what it means, and whether a call on it failed
pub record OpenLog : Type 0 where
  pub version : ℕ
  pub meaning : Meaning
  pub shut : Bool

-- the entries of a batch of a log of this version continue the files lawfully
abbrev pub Continues : ℕ → List NamedFile → List LogEntry → Type 0
Continues version fs es = IsSome (all_added version fs es)

-- the log is at rest on the disk
abbrev pub Rests : OpenLog → Disk → Type 0
Rests log d = LogOf log.version log.meaning.files log.meaning.end d

-- the same of the disk that is told now
abbrev pub RestsIn : OpenLog → State → Type 0
RestsIn log s = IfTold (λ t. Rests log t.now) s.told
