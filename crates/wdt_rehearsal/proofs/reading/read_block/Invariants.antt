use Rattle.std.proofs.Common.{◌≡◌, ◌≤◌, ◌-◌, IfSome}
use Rattle.wdt_rehearsal.specs.Landing.{AddsBlock}
use Rattle.wdt_rehearsal.proofs.reading.read_block.Given as goal

abbrev pub invariant-loop-done : goal.invariant-loop-done
invariant-loop-done g l = record {
  within : l.done ≤ l.length;
  added : AddsBlock (g.S.Source.told l.initial.source) l.path l.offset l.done l.initial.into.items l.into.items;
  told : g.S.Source.told l.source ≡ g.S.Source.told l.initial.source;
  listing : g.S.Source.listing l.source ≡ g.S.Source.listing l.initial.source;
  faults : g.S.Source.faults l.initial.source ≤ g.S.Source.faults l.source;
  slips : IfSome (g.S.Source.told l.initial.source) (λ files. g.S.Source.slips l.source ≡ g.S.Source.slips l.initial.source);
}

abbrev pub decreases-loop-done : goal.decreases-loop-done
decreases-loop-done g l = l.length - l.done
