use Rattle.std.proofs.Common.{◌≡◌, ◌-◌, ◌+◌, ◌++◌, ◌∷◌, [], length, take, drop, ap, ◌∙◌, arith}
use Rattle.wdt_ranges.specs.Chunks.{all_of, count_before, chunk_at}
use Rattle.wdt_ranges.specs.Spans.{plain_span}
use Rattle.wdt_ranges.proofs.Chunked.{read_chunk, edited, filled_edited}
use Rattle.wdt_ranges.proofs.chunks.set_before.Goals as goal

pub returns-clause-filled : goal.returns-clause-filled
returns-clause-filled c =
    filled_edited c.args.chunks.now.items c.args.spot.chunk (take (c.args.spot.at - 1) c.index_mut.result.now) (drop (c.args.spot.at - 1 + 1) c.index_mut.result.now) c.set.new.self (plain_span c.args.span) c.requires.filled c.set.ensures

pub returns-clause-items : goal.returns-clause-items
returns-clause-items c =
    let same = read_chunk c.args.chunks.now.items c.args.spot.chunk c.index_mut.result.now c.requires.chunk c.index_mut.ensures.value in
    edited c.args.chunks.now.items c.args.spot.chunk (c.args.spot.at - 1) (c.args.spot.at - 1 + 1) (count_before c.args.chunks.now.items c.args.spot.chunk + c.args.spot.at - 1) (count_before c.args.chunks.now.items c.args.spot.chunk + c.args.spot.at)
    (plain_span c.args.span ∷ []) c.index_mut.result.now c.set.new.self c.requires.chunk c.index_mut.ensures.value (omega (arith, ap length same, c.requires.at)) (omega (arith, ap length same, c.requires.at, c.requires.some)) c.set.ensures
    (omega (arith, c.requires.some)) (omega (arith, c.requires.some))
