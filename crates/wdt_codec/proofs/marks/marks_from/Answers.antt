use Rattle.std.proofs.Common.{◌≡◌, ◌+◌, suc, ◌-◌, [], ◌∷◌, length, ap, arith}
use Rattle.std.proofs.lemmas.List.{length-append}
use Rattle.std.proofs.lemmas.Result.{err_from_is_err_and}
use Rattle.wdt_codec.specs.Frames.{mark_step, lane_after, marks_from}
use Rattle.wdt_codec.proofs.Field.{times-goes, times-stops, times-ends}
use Rattle.wdt_codec.proofs.marks.marks_from.Goals as goal

pub returns-in_err-mark : goal.returns-in_err-mark
returns-in_err-mark c =
    let p = err_from_is_err_and c.from_residual.result c.from_residual.ensures.1 in
    let more : c.args.count - c.loop-k.k ≡ suc (c.args.count - 1 - c.loop-k.k) = omega arith in
    rw (p.1, p.2) (times-stops mark_step lane_after c.loop-k.marks (c.args.count - c.loop-k.k) (c.args.count - 1 - c.loop-k.k) c.loop-k.low c.loop-k.rest.now (marks_from c.args.count 0 c.args.bytes.now) c.loop-k.invariant.so_far c.in_err-mark.field-0.0 more c.in_err-mark.ensures.reads)

pub loop-k-preserved : goal.loop-k-preserved
loop-k-preserved c =
    let m = c.in_ok-mark.mark in
    let more : c.args.count - c.loop-k.k ≡ suc (c.args.count - 1 - c.loop-k.k) = omega arith in
    let less : c.args.count - (c.loop-k.k + 1) ≡ c.args.count - 1 - c.loop-k.k = omega arith in
    record {
      so_far = rw (c.push.ensures, less) (times-goes mark_step lane_after c.loop-k.marks (c.args.count - c.loop-k.k) (c.args.count - 1 - c.loop-k.k) c.loop-k.low c.loop-k.rest.now (marks_from c.args.count 0 c.args.bytes.now) c.loop-k.invariant.so_far m c.in_ok-mark.after.now more c.in_ok-mark.ensures.reads);
      room = omega (arith, c.in_ok-mark.ensures.ranged);
      few = omega (arith, ap length c.push.ensures, length-append c.loop-k.marks (m ∷ []), c.loop-k.invariant.few);
    }

pub returns : goal.returns
returns c =
    times-ends mark_step lane_after c.loop-k.marks (c.args.count - c.loop-k.k) 0 c.loop-k.low c.loop-k.rest.now (marks_from c.args.count 0 c.args.bytes.now) c.loop-k.invariant.so_far (omega arith)
