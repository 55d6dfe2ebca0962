use Rattle.std.proofs.Common.{◌≡◌, ◌+◌, suc, ◌-◌, [], ◌∷◌, ◌++◌, map, arith}
use Rattle.std.proofs.lemmas.Result.{err_from_is_err_and}
use Rattle.std.proofs.lemmas.List.{map_push}
use Rattle.wdt_codec.specs.Chunks.{span_at, span_after, spans_at}
use Rattle.wdt_ranges.specs.Spans.{plain_span}
use Rattle.wdt_codec.proofs.Field.{AreBytes-from_index, times-goes, times-stops, times-ends}
use Rattle.wdt_codec.proofs.Failing.{fails-by}
use Rattle.wdt_codec.proofs.SpansRead.{spans-apart}
use Rattle.wdt_codec.proofs.spans.span_list.Goals as goal

pub returns-in_err-span-clause-reads : goal.returns-in_err-span-clause-reads
returns-in_err-span-clause-reads c =
    let p = err_from_is_err_and c.from_residual.result c.from_residual.ensures.1 in
    let more : c.args.count - c.loop-k.k ≡ suc (c.args.count - 1 - c.loop-k.k) = omega arith in
    rw (p.1, p.2) (fails-by c.in_err-span.field-0.0 _ (times-stops (span_at c.args.size) span_after (map plain_span c.loop-k.spans.items) (c.args.count - c.loop-k.k) (c.args.count - 1 - c.loop-k.k) c.loop-k.least c.loop-k.rest.now (spans_at c.args.size c.args.count 0 c.args.bytes.now) c.loop-k.invariant.so_far c.in_err-span.field-0.0 more c.in_err-span.ensures.reads))

pub loop-k-preserved : goal.loop-k-preserved
loop-k-preserved c =
    let s = c.in_ok-span.span in
    let more : c.args.count - c.loop-k.k ≡ suc (c.args.count - 1 - c.loop-k.k) = omega arith in
    let less : c.args.count - (c.loop-k.k + 1) ≡ c.args.count - 1 - c.loop-k.k = omega arith in
    let e : map plain_span c.push.new.self.items ≡ map plain_span c.loop-k.spans.items ++ plain_span s ∷ [] = rw c.in_ok-push.ensures.items (map_push _ c.loop-k.spans.items s) in
    record {
      so_far = rw (e, less) (times-goes (span_at c.args.size) span_after (map plain_span c.loop-k.spans.items) (c.args.count - c.loop-k.k) (c.args.count - 1 - c.loop-k.k) c.loop-k.least c.loop-k.rest.now (spans_at c.args.size c.args.count 0 c.args.bytes.now) c.loop-k.invariant.so_far (plain_span s) c.in_ok-span.after.now more c.in_ok-span.ensures.reads);
      room = omega (arith, c.in_ok-span.ensures.within);
    }

pub returns-clause-reads : goal.returns-clause-reads
returns-clause-reads c =
    times-ends (span_at c.args.size) span_after (map plain_span c.loop-k.spans.items) (c.args.count - c.loop-k.k) 0 c.loop-k.least c.loop-k.rest.now (spans_at c.args.size c.args.count 0 c.args.bytes.now) c.loop-k.invariant.so_far (omega arith)

pub returns-clause-apart : goal.returns-clause-apart
returns-clause-apart c =
    let e = times-ends (span_at c.args.size) span_after (map plain_span c.loop-k.spans.items) (c.args.count - c.loop-k.k) 0 c.loop-k.least c.loop-k.rest.now (spans_at c.args.size c.args.count 0 c.args.bytes.now) c.loop-k.invariant.so_far (omega arith) in
    (spans-apart c.args.size c.args.count c.args.bytes.now _ _ c.requires.small c.requires.room (AreBytes-from_index c.args.bytes.now (λ i. omega (arith, c.type_inv.bytes i))) e).1

pub returns-clause-whole : goal.returns-clause-whole
returns-clause-whole c =
    let e = times-ends (span_at c.args.size) span_after (map plain_span c.loop-k.spans.items) (c.args.count - c.loop-k.k) 0 c.loop-k.least c.loop-k.rest.now (spans_at c.args.size c.args.count 0 c.args.bytes.now) c.loop-k.invariant.so_far (omega arith) in
    (spans-apart c.args.size c.args.count c.args.bytes.now _ _ c.requires.small c.requires.room (AreBytes-from_index c.args.bytes.now (λ i. omega (arith, c.type_inv.bytes i))) e).0
