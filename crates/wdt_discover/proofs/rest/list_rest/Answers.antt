use Rattle.std.proofs.Common.{map}
use Rattle.wdt_ranges.specs.Files.{have_file}
use Rattle.wdt_discover.proofs.lemmas.Counting.{walk_more}
use Rattle.wdt_discover.proofs.rest.list_rest.Goals as goal

pub loop-at-preserved : goal.loop-at-preserved
loop-at-preserved c =
    walk_more (map have_file c.args.files.now) c.args.block c.args.manifest.now c.loop-at.at c.loop-at.blocks.items c.push_file.new.blocks.items c.entry.result.now c.entry.ensures.entry
    c.in_ok-push_file.ensures c.loop-at.invariant
