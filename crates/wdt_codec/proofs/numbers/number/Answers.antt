use Rattle.std.proofs.Common.{arith}
use Rattle.std.proofs.lemmas.List.{take_rest}
use Rattle.wdt_codec.proofs.Field.{AreBytes-from_index}
use Rattle.wdt_codec.proofs.Digits.{number-at_once, Answers-ranged}
use Rattle.wdt_codec.proofs.numbers.number.Goals as goal

pub returns-then-value-high-clause-reads : goal.returns-then-value-high-clause-reads
returns-then-value-high-clause-reads c =
    let value = c.read_uint-value.ensures in
    rw (take_rest, value) (number-at_once c.args.width c.args.low c.args.high c.args.bytes.now c.requires.fits (AreBytes-from_index c.args.bytes.now (λ i. omega (arith, c.type_inv.bytes i))) c.if-width-bytes.true (rw value at c.if-low-value.true) (rw value at c.if-value-high.true))

pub returns-clause-ranged : goal.returns-clause-ranged
returns-clause-ranged c = Answers-ranged c.args.width c.args.low c.args.high c.args.bytes.now c.requires.ranged c.requires.fits (AreBytes-from_index c.args.bytes.now (λ i. omega (arith, c.type_inv.bytes i))) (λ x. (x.0, x.1.now)) c.number_slow.result c.number_slow.ensures
