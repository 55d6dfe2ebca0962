use Rattle.std.proofs.Common.{arith}
use Rattle.std.proofs.lemmas.Result.{err_from_is_err_and}
use Rattle.wdt_codec.proofs.Field.{AreBytes-from_index}
use Rattle.wdt_codec.proofs.PartialFiles.{part-begins, part-none}
use Rattle.wdt_codec.proofs.chunks.begin.Goals as goal

pub returns-in_err-count-clause-fails : goal.returns-in_err-count-clause-fails
returns-in_err-count-clause-fails c =
    let p = err_from_is_err_and c.from_residual.result c.from_residual.ensures.1 in
    rw (p.1, p.2) (part-none c.args.bytes.now c.in_err-count.field-0.0 c.in_err-count.ensures.reads)

pub overflow_sub-result : goal.overflow_sub-result
overflow_sub-result c = (part-begins c.args.bytes.now c.in_ok-count.count c.in_ok-count.rest.now (AreBytes-from_index c.args.bytes.now (λ i. omega (arith, c.type_inv.bytes i))) c.in_ok-count.ensures.reads).0

pub returns-clause-stands : goal.returns-clause-stands
returns-clause-stands c =
    let r = part-begins c.args.bytes.now c.in_ok-count.count c.in_ok-count.rest.now (AreBytes-from_index c.args.bytes.now (λ i. omega (arith, c.type_inv.bytes i))) c.in_ok-count.ensures.reads in
    record { within = omega arith; used = omega arith; few = rw c.new.ensures.items (omega (arith, c.in_ok-count.ensures.ranged)); goes = λ u. rw c.new.ensures.items (r.1 u) }
