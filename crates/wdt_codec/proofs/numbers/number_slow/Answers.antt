use Rattle.std.proofs.Common.{◌≡◌, ◌-◌, sym, ◌∙◌, arith}
use Rattle.std.proofs.lemmas.List.{take_rest}
use Rattle.wdt_codec.proofs.Digits.{turn-short, turn-low, turn-high, turn-goes, turn-done, digits-room}
use Rattle.wdt_codec.proofs.numbers.number_slow.Goals as goal

pub returns-then-k-bytes : goal.returns-then-k-bytes
returns-then-k-bytes c = sym c.loop-k.invariant.so_far ∙ turn-short c.args.low c.args.high c.args.width c.loop-k.k c.loop-k.before c.args.bytes.now c.loop-k-test.true c.if-k-bytes.true

pub returns-then-next-low : goal.returns-then-next-low
returns-then-next-low c = sym c.loop-k.invariant.so_far ∙ turn-low c.args.low c.args.high c.args.width c.loop-k.k c.loop-k.before c.args.bytes.now c.loop-k-test.true c.if-k-bytes.false c.if-next-low.true

pub returns-then-next-high : goal.returns-then-next-high
returns-then-next-high c = sym c.loop-k.invariant.so_far ∙ turn-high c.args.low c.args.high c.args.width c.loop-k.k c.loop-k.before c.args.bytes.now c.loop-k-test.true c.if-k-bytes.false c.if-next-high.true

pub loop-k-preserved : goal.loop-k-preserved
loop-k-preserved c = record {
  so_far = turn-goes c.args.low c.args.high c.args.width c.loop-k.k c.loop-k.before c.args.bytes.now c.loop-k-test.true c.if-k-bytes.false c.if-next-low.false c.if-next-high.false ∙ c.loop-k.invariant.so_far;
  room = λ more. digits-room c.args.high (c.args.width - 1 - c.loop-k.k) _ (omega arith) c.if-next-high.false;
  reached = omega arith;
}

pub returns : goal.returns
returns c =
    let same : c.loop-k.k ≡ c.args.width = omega arith in
    let at_end = rw same at c.loop-k.invariant.so_far in
    rw take_rest (sym at_end ∙ turn-done c.args.low c.args.high c.args.width c.args.width c.loop-k.before _ (omega arith))
