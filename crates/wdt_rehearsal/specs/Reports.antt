-- What a run counts.
use Rattle.std.specs.Prelude.{◌≡◌, ℕ, List, [], length, sum_by, Option, IfSome}
use Rattle.wdt_units.specs.declared.blocks.Block.{Block}
use Rattle.wdt_units.specs.declared.limits.TheConstants.{DEFAULT_BLOCK}
use Rattle.wdt_tree.specs.declared.entry.Entry.{Entry}
use Rattle.wdt_tree.specs.Listing.{IsAccepted, Orders, size_of}
use Rattle.wdt_tree.specs.Rest.{IsRest}
use Rattle.wdt_rehearsal.specs.declared.report.Report.{Report}

-- what a run counts of these files, sent in so many blocks
abbrev pub report_of : List Entry → ℕ → Report
report_of entries blocks = record { files = length entries; blocks = blocks; bytes = sum_by size_of entries }

-- A run counted a tree's files, in the order of their paths: those of the listing, where it is told,
-- which then was accepted.
-- Its blocks are what was to be sent of them to a destination that has nothing, in blocks of the length
-- that stands where nothing else is said.
pub record IsReportFor (listing : Option (List Entry)) (report : Report) : Type 0 where
  pub entries : List Entry
  pub accepted : IfSome listing IsAccepted
  pub order : IfSome listing (λ listed. Orders listed entries)
  pub blocks : List Block
  pub rest : IsRest entries [] DEFAULT_BLOCK blocks
  pub is : report ≡ report_of entries (length blocks)
