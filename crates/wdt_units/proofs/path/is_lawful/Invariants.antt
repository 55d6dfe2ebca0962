use Rattle.std.proofs.Common.{◌-◌, length, drop}
use Rattle.wdt_units.specs.declared.scan.PathScan.TheVariants.{Start}
use Rattle.wdt_units.proofs.lemmas.PathBytes.{Ends}
use Rattle.wdt_units.proofs.path.is_lawful.Given as goal

abbrev pub invariant-loop-k : goal.invariant-loop-k
invariant-loop-k l = record {
  goes : Ends (length l.bytes) Start l.bytes → Ends (length l.bytes - l.k) l.scan (drop l.k l.bytes);
  comes : Ends (length l.bytes - l.k) l.scan (drop l.k l.bytes) → Ends (length l.bytes) Start l.bytes;
}
