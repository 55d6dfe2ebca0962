use Rattle.std.proofs.Common.{◌≡◌, ◌≤◌, ◌-◌, IfSome, length, map, take, drop, sum_by}
use Rattle.wdt_tree.specs.Cuts.{cuts_from}
use Rattle.wdt_tree.specs.Listing.{size_of}
use Rattle.wdt_tree.specs.Shown.{entry_of_file}
use Rattle.wdt_rehearsal.specs.declared.receiver.Stage.TheVariants.{Blocks}
use Rattle.wdt_rehearsal.specs.Received.{progress, nothing_held}
use Rattle.wdt_rehearsal.proofs.Landed.{AreFirst}
use Rattle.wdt_rehearsal.proofs.session.send_files.Given as goal

abbrev pub invariant-loop-at : goal.invariant-loop-at
invariant-loop-at g l = record {
  left : l.left ≡ cuts_from 16777216 l.at (drop l.at l.manifest);
  entries : map entry_of_file (progress l.receiver).landed ≡ take l.at l.manifest;
  stage : (progress l.receiver).stage ≡ Blocks (length l.manifest - l.at) (sum_by size_of l.manifest - sum_by size_of (take l.at l.manifest));
  first : AreFirst (g.S.Source.told l.fn.source) l.at (progress l.receiver).landed;
  idle : l.receiver.reader ≡ nothing_held;
  told : g.S.Source.told l.source ≡ g.S.Source.told l.fn.source;
  faults : g.S.Source.faults l.fn.source ≤ g.S.Source.faults l.source;
  slips : IfSome (g.S.Source.told l.fn.source) (λ files. g.S.Source.slips l.source ≡ g.S.Source.slips l.fn.source);
}
