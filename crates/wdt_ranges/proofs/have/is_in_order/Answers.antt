use Rattle.std.proofs.Common.{arith, map, sym, ◌∙◌}
use Rattle.wdt_ranges.specs.Files.{have_file}
use Rattle.wdt_ranges.proofs.InOrder.{not_in_order, neighbours, walk_more, all_in_order}
use Rattle.wdt_ranges.proofs.have.is_in_order.Goals as goal

pub returns-then-not-is_before : goal.returns-then-not-is_before
returns-then-not-is_before c =
    sym (not_in_order c.args.files.now c.loop-at.at c.index-files-at.result c.index-files-at-in-loop-at.result (omega arith) (omega arith)
    (sym c.is_before.ensures ∙ c.if-not-is_before.true))

pub loop-at-preserved : goal.loop-at-preserved
loop-at-preserved c =
    walk_more (map have_file c.args.files.now) c.loop-at.at c.loop-at.invariant
    (λ d. neighbours c.args.files.now c.loop-at.at c.index-files-at.result c.index-files-at-in-loop-at.result (omega arith) (omega arith) d
    ∙ sym c.is_before.ensures ∙ c.if-not-is_before.false)

pub returns : goal.returns
returns c = sym (all_in_order c.args.files.now c.loop-at.at c.loop-at.invariant (omega arith))
