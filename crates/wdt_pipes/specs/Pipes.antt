-- What one end of a connection inside a process is seen as.
use Rattle.std.specs.Prelude.{ℕ, None}
use Rattle.wdt_link.specs.Owing.{Owing}

-- its counts, the last block that it received, and what is owed of that
pub record PipeView : Type 0 where
  pub faults : ℕ
  pub alarms : ℕ
  pub slips : ℕ
  pub owing : Owing

-- a link over which nothing was said
abbrev pub unused : PipeView
unused = record { faults = 0; alarms = 0; slips = 0; owing = record { block = None; owed = 0 } }
