use Rattle.std.proofs.Common.{map}
use Rattle.wdt_ranges.specs.Files.{have_file}
use Rattle.wdt_discover.proofs.lemmas.Counting.{tally_more}
use Rattle.wdt_discover.proofs.rest.count_rest.Goals as goal

pub loop-at-preserved : goal.loop-at-preserved
loop-at-preserved c =
    tally_more (map have_file c.args.files.now) c.args.block c.args.manifest.now c.loop-at.at c.loop-at.count c.in_ok-count.field-0 c.entry.result.now c.entry.ensures.entry
    (c.in_ok-count.ensures.count c.loop-at.at) c.in_ok-count.ensures.few c.loop-at.invariant
