use Rattle.std.proofs.Common.{◌≡◌, ◌<◌, ◌≤◌, drop, IfSome}
use Rattle.wdt_rehearsal.specs.Received.{progress, nothing_held}
use Rattle.wdt_rehearsal.specs.Sending.{Follow}
use Rattle.wdt_rehearsal.proofs.Fronts.{Front}
use Rattle.wdt_rehearsal.proofs.session.send_file.Given as goal

abbrev pub invariant-loop-block : goal.invariant-loop-block
invariant-loop-block g l = record {
  begun : 0 < l.entry.size → 0 < l.offset;
  follow : Follow l.offset l.entry.size (drop l.block-index l.others);
  idle : l.receiver.reader ≡ nothing_held;
  front : Front (g.S.Source.told l.fn.source) l.entry (progress l.fn.receiver) (progress l.receiver) l.offset;
  told : g.S.Source.told l.source ≡ g.S.Source.told l.fn.source;
  faults : g.S.Source.faults l.fn.source ≤ g.S.Source.faults l.source;
  slips : IfSome (g.S.Source.told l.fn.source) (λ files. g.S.Source.slips l.source ≡ g.S.Source.slips l.fn.source);
}
