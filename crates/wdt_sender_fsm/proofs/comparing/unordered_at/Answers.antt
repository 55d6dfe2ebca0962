use Rattle.std.proofs.Common.{map, sym, ◌∙◌, arith}
use Rattle.std.proofs.lemmas.List.{length-map}
use Rattle.wdt_ranges.specs.Files.{have_file}
use Rattle.wdt_ranges.proofs.ForCallers.{neighbours}
use Rattle.wdt_sender_fsm.proofs.lemmas.Compares.{ordered_all, ordered_more, ordered_start, unordered_here}
use Rattle.wdt_sender_fsm.proofs.comparing.unordered_at.Goals as goal

pub loop-at-init : goal.loop-at-init
loop-at-init c = ordered_start (map have_file c.args.files.now)

pub returns-then-not-is_before : goal.returns-then-not-is_before
returns-then-not-is_before c =
    unordered_here (map have_file c.args.files.now) c.loop-at.at (have_file c.index-files-at.result) c.loop-at.invariant (omega (arith, c.loop-at-test.true, length-map c.args.files.now have_file))
    (neighbours c.args.files.now c.loop-at.at c.index-files-at.result c.index-files-at-in-loop-at.result c.loop-at.invariant.some c.loop-at-test.true (have_file c.index-files-at.result) ∙ sym c.is_before.ensures ∙ c.if-not-is_before.true)

pub loop-at-preserved : goal.loop-at-preserved
loop-at-preserved c =
    ordered_more (map have_file c.args.files.now) c.loop-at.at (have_file c.index-files-at.result) c.loop-at.invariant (omega (arith, c.loop-at-test.true, length-map c.args.files.now have_file))
    (neighbours c.args.files.now c.loop-at.at c.index-files-at.result c.index-files-at-in-loop-at.result c.loop-at.invariant.some c.loop-at-test.true (have_file c.index-files-at.result) ∙ sym c.is_before.ensures ∙ c.if-not-is_before.false)

pub returns : goal.returns
returns c = ordered_all (map have_file c.args.files.now) c.loop-at.at c.loop-at.invariant (omega (arith, length-map c.args.files.now have_file))
