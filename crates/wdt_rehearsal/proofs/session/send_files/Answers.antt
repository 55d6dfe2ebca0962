use Rattle.std.proofs.Common.{◌≡◌, ◌∙◌, ◌+◌, List, length, map, Option, IfSome, sym, ap, refl, subst, arith}
use Rattle.wdt_units.specs.Tree.{File, file_of}
use Rattle.wdt_tree.specs.Shown.{entry_of_file}
use Rattle.wdt_rehearsal.specs.declared.receiver.Stage.{Stage}
use Rattle.wdt_rehearsal.specs.Landing.{HasSize}
use Rattle.wdt_rehearsal.specs.Received.{progress}
use Rattle.wdt_rehearsal.specs.Sending.{AreBlocks, LandsFile, HasRoom, less, file_with}
use Rattle.wdt_rehearsal.proofs.Counted.{room-left, less-left, none-left}
use Rattle.wdt_rehearsal.proofs.Follows.{own-blocks}
use Rattle.wdt_rehearsal.proofs.Landed.{AreFirst, told-size, first-more, first-all, entries-more, all-entries}
use Rattle.wdt_rehearsal.proofs.Pieces.{stood}
use Rattle.wdt_rehearsal.proofs.session.send_files.Goals as goal

pub send_file-requires-clause-size : goal.send_file-requires-clause-size
send_file-requires-clause-size g c =
    let entry = c.entry-entry.result.now in
    subst (λ (t : Option (List File)). IfSome t (λ files. HasSize (file_of files entry.path) entry.size)) (sym c.loop-at.invariant.told)
    (told-size (g.S.Source.told c.args.source.now) c.args.manifest.now c.loop-at.at entry (g.met.S.Source.told_is_tree c.args.source.now) c.requires.told c.entry-entry.ensures.entry)

pub send_file-requires-clause-room : goal.send_file-requires-clause-room
send_file-requires-clause-room g c =
    subst (λ (s : Stage). HasRoom s c.entry-entry.result.now.size) (sym c.loop-at.invariant.stage) (room-left c.args.manifest.now c.loop-at.at c.entry-entry.result.now c.entry-entry.ensures.entry)

pub split_at-requires : goal.split_at-requires
split_at-requires g c = (own-blocks c.loop-at.left.now c.args.manifest.now c.loop-at.at c.entry-entry.result.now c.blocks_in.result c.entry-entry.ensures.entry c.loop-at.invariant.left c.blocks_in.ensures).0

pub send_file-requires-clause-blocks : goal.send_file-requires-clause-blocks
send_file-requires-clause-blocks g c =
    subst (AreBlocks c.entry-entry.result.now) (sym c.split_at.ensures.front) (own-blocks c.loop-at.left.now c.args.manifest.now c.loop-at.at c.entry-entry.result.now c.blocks_in.result c.entry-entry.ensures.entry c.loop-at.invariant.left c.blocks_in.ensures).1

pub loop-at-preserved : goal.loop-at-preserved
loop-at-preserved g c =
    let told = g.S.Source.told c.args.source.now in
    let manifest = c.args.manifest.now in
    let entry = c.entry-entry.result.now in
    let here = c.entry-entry.ensures.entry in
    let old = progress c.loop-at.receiver in
    let new = progress c.send_file.new.receiver in
    let sent = c.in_ok-send_file.ensures in
    let lands = subst (λ (t : Option (List File)). LandsFile t entry old new) c.loop-at.invariant.told sent.landed in
    let file = file_with entry lands.bytes in
    let own = own-blocks c.loop-at.left.now manifest c.loop-at.at entry c.blocks_in.result here c.loop-at.invariant.left c.blocks_in.ensures in
    record {
      left = c.split_at.ensures.back ∙ own.2;
      entries = ap (map entry_of_file) lands.landed ∙ entries-more old.landed file manifest c.loop-at.at entry c.loop-at.invariant.entries here refl refl lands.long;
      stage = lands.stage ∙ ap (λ (s : Stage). less s entry.size) c.loop-at.invariant.stage ∙ less-left manifest c.loop-at.at entry here;
      first = subst (λ (l : List File). AreFirst told (c.loop-at.at + 1) l) (sym lands.landed)
          (first-more told manifest c.loop-at.at old.landed entry file (g.met.S.Source.told_is_tree c.args.source.now) c.requires.told here c.loop-at.invariant.first refl refl lands.whole);
      idle = sent.idle;
      told = sent.told ∙ c.loop-at.invariant.told;
      faults = omega (arith, sent.cause.later);
      slips = stood told _ _ _ c.loop-at.invariant.slips
          (subst (λ (t : Option (List File)). IfSome t (λ files. g.S.Source.slips c.send_file.new.source ≡ g.S.Source.slips c.loop-at.source)) c.loop-at.invariant.told sent.slips);
    }

pub returns-clause-landed : goal.returns-clause-landed
returns-clause-landed g c =
    let told = g.S.Source.told c.args.source.now in
    let manifest = c.args.manifest.now in
    let end : c.loop-at.at ≡ length manifest = omega (arith, c.count-at-end.ensures.count) in
    record {
      stage = c.loop-at.invariant.stage ∙ none-left manifest c.loop-at.at end;
      same = all-entries manifest c.loop-at.at _ end c.loop-at.invariant.entries;
      tree = first-all told manifest c.loop-at.at (progress c.loop-at.receiver).landed end c.requires.told c.loop-at.invariant.first;
    }
