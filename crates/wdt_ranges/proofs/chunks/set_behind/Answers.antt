use Rattle.std.proofs.Common.{◌≡◌, List, ◌+◌, ◌<◌, ◌++◌, ◌∷◌, [], length, take, drop, sym, ap, ◌∙◌, arith, subst}
use Rattle.wdt_units.specs.Have.{PlainSpan}
use Rattle.wdt_ranges.specs.Chunks.{chunk_at, place_of, IsNext}
use Rattle.wdt_ranges.specs.Spans.{plain_span}
use Rattle.wdt_ranges.proofs.Chunked.{read_chunk, edited, filled_edited, next_chunk}
use Rattle.wdt_ranges.proofs.chunks.set_behind.Goals as goal

pub returns-clause-filled : goal.returns-clause-filled
returns-clause-filled c =
    filled_edited c.args.chunks.now.items c.next_spot-next.result.chunk (take c.next_spot-next.result.at c.index_mut.result.now) (drop (c.next_spot-next.result.at + 1) c.index_mut.result.now) c.set.new.self (plain_span c.args.span) c.requires.filled c.set.ensures

pub returns-clause-items : goal.returns-clause-items
returns-clause-items c =
    let cs = c.args.chunks.now.items in
    let next = c.next_spot-next.result in
    let is : IsNext cs c.args.spot next = subst (λ (xs : List (List PlainSpan)). IsNext xs c.args.spot next) c.deref.ensures.value c.next_spot-next.ensures in
    let lt : next.chunk < length cs = next_chunk cs c.args.spot next is c.requires.there in
    let same = read_chunk cs next.chunk c.index_mut.result.now lt c.index_mut.ensures.value in
    edited cs next.chunk next.at (next.at + 1) (place_of cs c.args.spot) (place_of cs c.args.spot + 1) (plain_span c.args.span ∷ []) c.index_mut.result.now c.set.new.self lt c.index_mut.ensures.value
    (omega (arith, ap length same, is.within lt)) (omega (arith, ap length same, is.within lt)) c.set.ensures (omega (arith, is.place)) (omega (arith, is.place))
