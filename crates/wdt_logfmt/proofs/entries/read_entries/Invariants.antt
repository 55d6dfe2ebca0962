use Rattle.std.proofs.Common.{◌-◌, ◌≤◌, length}
use Rattle.wdt_logfmt.proofs.EntryReading.{Leads}
use Rattle.wdt_logfmt.proofs.entries.read_entries.Given as goal

abbrev pub invariant-loop-at : goal.invariant-loop-at
invariant-loop-at l = record {
  within : l.at ≤ length l.body;
  leads : Leads l.place l.initial.files l.body l.at l.files;
}

abbrev pub decreases-loop-at : goal.decreases-loop-at
decreases-loop-at l = length l.body - l.at
