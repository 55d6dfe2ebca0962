use Rattle.std.proofs.Common.{◌≡◌, ◌<◌, length, get_or, sym, ap, ◌∙◌, arith}
use Rattle.std.proofs.lemmas.List.{length-map}
use Rattle.wdt_ranges.specs.Chunks.{all_of, chunk_at}
use Rattle.wdt_ranges.specs.Spans.{plain_span}
use Rattle.wdt_ranges.proofs.Chunked.{read_chunk, span_in, count_within}
use Rattle.wdt_ranges.proofs.chunks.behind.Goals as goal

pub returns-clause-some : goal.returns-clause-some
returns-clause-some c =
    let lt : c.next_spot-next.result.chunk < length c.args.chunks.now = omega (arith, c.next_spot-next.ensures.chunk, c.if-next-chunks.false) in
    omega (arith, c.next_spot-next.ensures.within lt, c.next_spot-next.ensures.place, count_within c.args.chunks.now c.next_spot-next.result.chunk lt)

pub returns-clause-span : goal.returns-clause-span
returns-clause-span c = λ d.
    let lt : c.next_spot-next.result.chunk < length c.args.chunks.now = omega (arith, c.next_spot-next.ensures.chunk, c.if-next-chunks.false) in
    let same = c.spans.ensures ∙ read_chunk c.args.chunks.now c.next_spot-next.result.chunk c.index-chunks-next.result lt c.index-chunks-next.is in
    ap (λ n. get_or (all_of c.args.chunks.now) n d) (sym c.next_spot-next.ensures.place)
    ∙ span_in c.args.chunks.now c.next_spot-next.result.chunk c.next_spot-next.result.at c.spans.result.now d (record { offset = 0; length = 0 }) lt same
    (omega (arith, ap length same, length-map c.spans.result.now plain_span, c.next_spot-next.ensures.within lt))
