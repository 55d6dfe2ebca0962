-- When what landed may be logged, as it stands on the disk.
use Rattle.std.specs.Prelude.{List, Option}
use Rattle.wdt_units.specs.Tree.{File}
use Rattle.wdt_depot.specs.Disk.{Disk, seen_of}
use Rattle.wdt_logfmt.specs.Beginning.{KnownFile}
use Rattle.wdt_good.specs.Good.{Each, GoodFiles}
use Rattle.wdt_good.specs.Logged.{AllFit}
use Rattle.wdt_log.specs.OpenLog.{OpenLog, Rests}
use Rattle.wdt_writer.specs.PlainWriter.{PlainWriter}
use Rattle.wdt_dock.specs.DockGood.{IfKnown, StandsWithin}

-- Each image is good for the tree, the log is at rest, and what landed is the tree's as it is read.
pub record IsBooked (T : List File) (log : OpenLog) (w : PlainWriter) (d : Disk) : Type 0 where
  pub fit : AllFit T d
  pub rests : Rests log d
  pub reads : GoodFiles T (seen_of d) w.files

-- each known file stands, no longer than its size
abbrev pub KnownStand : List (Option KnownFile) → Disk → Type 0
KnownStand known d = Each (IfKnown (StandsWithin d)) known
