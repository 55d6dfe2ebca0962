use Rattle.std.proofs.Common.{◌≡◌, ℕ, length, map, Some, sym, ap, ◌∙◌, inl, inr, arith}
use Rattle.std.proofs.lemmas.Bool.{cases_lt}
use Rattle.std.proofs.lemmas.List.{length-map}
use Rattle.wdt_ranges.specs.Files.{have_file}
use Rattle.wdt_sender_fsm.proofs.lemmas.Compares.{differ_here, differ_longer, differ_none, differ_on, differ_shorter, same_files}
use Rattle.wdt_sender_fsm.proofs.comparing.different_at.Goals as goal

pub returns-then-not-is_same_file : goal.returns-then-not-is_same_file
returns-then-not-is_same_file c =
    sym (c.loop-at.invariant ∙ differ_here (map have_file c.args.first.now) (map have_file c.args.later.now) c.loop-at.at (have_file c.index-first-at.result) (omega (arith, c.loop-at-test.true, c.min-both.ensures, length-map c.args.first.now have_file)) (omega (arith, c.loop-at-test.true, c.min-both.ensures, length-map c.args.later.now have_file))
    (same_files c.args.first.now c.args.later.now c.loop-at.at c.index-first-at.result c.index-later-at.result (have_file c.index-first-at.result) (omega (arith, c.loop-at-test.true, c.min-both.ensures)) (omega (arith, c.loop-at-test.true, c.min-both.ensures)) c.index-first-at.is c.index-later-at.is ∙ sym c.is_same_file.ensures ∙ c.if-not-is_same_file.true))

pub loop-at-preserved : goal.loop-at-preserved
loop-at-preserved c =
    c.loop-at.invariant ∙ differ_on (map have_file c.args.first.now) (map have_file c.args.later.now) c.loop-at.at (have_file c.index-first-at.result) (omega (arith, c.loop-at-test.true, c.min-both.ensures, length-map c.args.first.now have_file)) (omega (arith, c.loop-at-test.true, c.min-both.ensures, length-map c.args.later.now have_file))
    (same_files c.args.first.now c.args.later.now c.loop-at.at c.index-first-at.result c.index-later-at.result (have_file c.index-first-at.result) (omega (arith, c.loop-at-test.true, c.min-both.ensures)) (omega (arith, c.loop-at-test.true, c.min-both.ensures)) c.index-first-at.is c.index-later-at.is ∙ sym c.is_same_file.ensures ∙ c.if-not-is_same_file.false)

pub returns-then-first-later : goal.returns-then-first-later
returns-then-first-later c =
    sym (c.loop-at.invariant ∙ differ_none (map have_file c.args.first.now) (map have_file c.args.later.now) c.loop-at.at (omega (arith, c.loop-at-test.false, c.min-both.ensures, c.if-first-later.true, length-map c.args.first.now have_file)) (omega (arith, c.loop-at-test.false, c.min-both.ensures, c.if-first-later.true, length-map c.args.later.now have_file)))

pub returns-else-first-later : goal.returns-else-first-later
returns-else-first-later c =
    let here : c.loop-at.at ≡ c.min-both.result = omega (arith, c.loop-at-test.false, c.loop-at.auto.at-end) in
    elim (cases_lt (length c.args.first.now) (length c.args.later.now)) [
      | inl less ↦ sym (c.loop-at.invariant ∙ differ_shorter (map have_file c.args.first.now) (map have_file c.args.later.now) c.loop-at.at (omega (arith, here, less, c.min-both.ensures, length-map c.args.first.now have_file)) (omega (arith, here, less, c.min-both.ensures, length-map c.args.later.now have_file)) ∙ ap (λ (n : ℕ). Some n) here)
      | inr more ↦ sym (c.loop-at.invariant ∙ differ_longer (map have_file c.args.first.now) (map have_file c.args.later.now) c.loop-at.at (omega (arith, here, more, c.if-first-later.false, c.min-both.ensures, length-map c.args.first.now have_file)) (omega (arith, here, more, c.min-both.ensures, length-map c.args.later.now have_file)) ∙ ap (λ (n : ℕ). Some n) here)
    ]
