use Rattle.std.proofs.Common.{◌≡◌, ◌-◌, ◌+◌, ◌<◌, length, get_or, ap, ◌∙◌, arith}
use Rattle.std.proofs.lemmas.List.{length-map}
use Rattle.wdt_ranges.specs.Chunks.{all_of, count_before}
use Rattle.wdt_ranges.specs.Spans.{plain_span}
use Rattle.wdt_ranges.proofs.Chunked.{read_chunk, span_in, spot_chunk}
use Rattle.wdt_ranges.proofs.chunks.before.Goals as goal

pub returns-clause-span : goal.returns-clause-span
returns-clause-span c = λ d.
    let lt : c.args.spot.chunk < length c.args.chunks.now = spot_chunk c.args.chunks.now c.args.spot c.requires (omega arith) in
    let same = c.spans.ensures ∙ read_chunk c.args.chunks.now c.args.spot.chunk c.index-chunks-spot.result lt c.index-chunks-spot.is in
    ap (λ n. get_or (all_of c.args.chunks.now) n d) (omega arith)
    ∙ span_in c.args.chunks.now c.args.spot.chunk (c.args.spot.at - 1) c.spans.result.now d (record { offset = 0; length = 0 }) lt same (omega (arith, ap length same, length-map c.spans.result.now plain_span, c.requires.at))
