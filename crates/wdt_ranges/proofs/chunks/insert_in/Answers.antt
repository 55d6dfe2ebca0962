use Rattle.std.proofs.Common.{◌∷◌, [], ap, length, refl, arith}
use Rattle.wdt_ranges.specs.Chunks.{place_of}
use Rattle.wdt_ranges.specs.Spans.{plain_span}
use Rattle.wdt_ranges.proofs.Chunked.{read_chunk, edited, filled_inserted, map_ok}
use Rattle.wdt_ranges.proofs.chunks.insert_in.Goals as goal

pub returns-clause-filled : goal.returns-clause-filled
returns-clause-filled c =
    filled_inserted c.insert.result c.args.chunks.now.items c.args.spot.chunk c.args.spot.at (plain_span c.args.span) c.index_mut.result.now c.insert.new.self c.requires.filled c.index_mut.ensures.value c.insert.ensures.inserted c.insert.ensures.unchanged

pub returns-clause-items : goal.returns-clause-items
returns-clause-items c =
    let cs = c.args.chunks.now.items in
    let x = c.index_mut.result.now in
    let same = read_chunk cs c.args.spot.chunk x c.requires.chunk c.index_mut.ensures.value in
    map_ok c.insert.result
    (λ done. edited cs c.args.spot.chunk c.args.spot.at c.args.spot.at (place_of cs c.args.spot) (place_of cs c.args.spot) (plain_span c.args.span ∷ []) x c.insert.new.self c.requires.chunk c.index_mut.ensures.value
    (omega (arith, ap length same, c.requires.at)) (omega (arith, ap length same, c.requires.at)) done refl refl)
    c.insert.ensures.inserted
