use Rattle.std.proofs.Common.{◌≡◌, List, true, ◌+◌, ◌<◌, ◌++◌, [], suc, length, set, take, drop, sym, ap, ◌∙◌, arith, subst}
use Rattle.std.proofs.lemmas.List.{length-append, length-take-le, length-drop}
use Rattle.wdt_units.specs.Have.{PlainSpan}
use Rattle.wdt_ranges.specs.Chunks.{all_of, are_filled, chunk_at, count_before, is_filled, place_of, IsNext}
use Rattle.wdt_ranges.proofs.Chunked.{read_chunk, edited, filled_set, filled_removed, filled_without, next_chunk, all_removed, count_removed, count_set, kept_at}
use Rattle.wdt_ranges.proofs.chunks.remove_behind.Goals as goal

pub returns-then-len-eq1-clause-filled : goal.returns-then-len-eq1-clause-filled
returns-then-len-eq1-clause-filled c = ap are_filled c.remove.ensures.items ∙ filled_removed c.args.chunks.now.items c.next_spot-next.result.chunk c.requires.filled

pub returns-then-len-eq1-clause-items : goal.returns-then-len-eq1-clause-items
returns-then-len-eq1-clause-items c =
    let cs = c.args.chunks.now.items in
    let next = c.next_spot-next.result in
    let is : IsNext cs c.args.spot next = subst (λ (xs : List (List PlainSpan)). IsNext xs c.args.spot next) c.deref.ensures.value c.next_spot-next.ensures in
    let lt : next.chunk < length cs = next_chunk cs c.args.spot next is c.requires.there in
    let one : length (chunk_at cs next.chunk) ≡ 1 = sym (ap length (read_chunk cs next.chunk c.index.result.now lt c.index.ensures)) ∙ sym c.len.ensures ∙ c.if-len-eq1.true in
    ap all_of c.remove.ensures.items ∙ all_removed cs next.chunk lt
    ∙ ap (λ n. take n (all_of cs) ++ drop (count_before cs next.chunk + length (chunk_at cs next.chunk)) (all_of cs)) (omega (arith, is.place, is.within lt, one))
    ∙ ap (λ n. take (place_of cs c.args.spot) (all_of cs) ++ drop n (all_of cs)) (omega (arith, is.place, is.within lt, one))

pub returns-then-len-eq1-clause-place : goal.returns-then-len-eq1-clause-place
returns-then-len-eq1-clause-place c =
    let cs = c.args.chunks.now.items in
    let next = c.next_spot-next.result in
    let is : IsNext cs c.args.spot next = subst (λ (xs : List (List PlainSpan)). IsNext xs c.args.spot next) c.deref.ensures.value c.next_spot-next.ensures in
    ap (λ (xs : List (List PlainSpan)). place_of xs c.args.spot) c.remove.ensures.items
    ∙ ap (λ n. n + c.args.spot.at) (count_removed cs next.chunk c.args.spot.chunk is.least (next_chunk cs c.args.spot next is c.requires.there))

pub returns-else-len-eq1-clause-filled : goal.returns-else-len-eq1-clause-filled
returns-else-len-eq1-clause-filled c =
    let cs = c.args.chunks.now.items in
    let next = c.next_spot-next.result in
    let is : IsNext cs c.args.spot next = subst (λ (xs : List (List PlainSpan)). IsNext xs c.args.spot next) c.deref.ensures.value c.next_spot-next.ensures in
    let lt : next.chunk < length cs = next_chunk cs c.args.spot next is c.requires.there in
    let same = read_chunk cs next.chunk c.index_mut.result.now lt c.index_mut.ensures.value in
    let many = sym (ap length (read_chunk cs next.chunk c.index.result.now lt c.index.ensures)) ∙ sym c.len.ensures in
    filled_set cs next.chunk c.remove-else-len-eq1.new.self c.requires.filled
    (ap is_filled c.remove-else-len-eq1.ensures ∙ filled_without c.index_mut.result.now next.at (omega (arith, ap length same, many, is.within lt, c.if-len-eq1.false)) (omega (arith, ap length same, is.within lt)))

pub returns-else-len-eq1-clause-items : goal.returns-else-len-eq1-clause-items
returns-else-len-eq1-clause-items c =
    let cs = c.args.chunks.now.items in
    let next = c.next_spot-next.result in
    let is : IsNext cs c.args.spot next = subst (λ (xs : List (List PlainSpan)). IsNext xs c.args.spot next) c.deref.ensures.value c.next_spot-next.ensures in
    let lt : next.chunk < length cs = next_chunk cs c.args.spot next is c.requires.there in
    let same = read_chunk cs next.chunk c.index_mut.result.now lt c.index_mut.ensures.value in
    edited cs next.chunk next.at (next.at + 1) (place_of cs c.args.spot) (place_of cs c.args.spot + 1) [] c.index_mut.result.now c.remove-else-len-eq1.new.self lt c.index_mut.ensures.value
    (omega (arith, ap length same, is.within lt)) (omega (arith, ap length same, is.within lt)) c.remove-else-len-eq1.ensures (omega (arith, is.place)) (omega (arith, is.place))

pub returns-else-len-eq1-clause-at : goal.returns-else-len-eq1-clause-at
returns-else-len-eq1-clause-at c =
    let cs = c.args.chunks.now.items in
    let next = c.next_spot-next.result in
    let is : IsNext cs c.args.spot next = subst (λ (xs : List (List PlainSpan)). IsNext xs c.args.spot next) c.deref.ensures.value c.next_spot-next.ensures in
    let lt : next.chunk < length cs = next_chunk cs c.args.spot next is c.requires.there in
    let x = c.index_mut.result.now in
    let same = read_chunk cs next.chunk x lt c.index_mut.ensures.value in
    kept_at cs c.args.spot next c.remove-else-len-eq1.new.self c.requires.spot is lt
    (omega (
      arith,
      ap length c.remove-else-len-eq1.ensures,
      length-append (take next.at x) (drop (next.at + 1) x),
      length-take-le next.at x (omega (arith, ap length same, is.within lt)),
      length-drop (next.at + 1) x,
      ap length same,
      is.within lt,
    ))

pub returns-else-len-eq1-clause-place : goal.returns-else-len-eq1-clause-place
returns-else-len-eq1-clause-place c =
    let cs = c.args.chunks.now.items in
    let next = c.next_spot-next.result in
    let is : IsNext cs c.args.spot next = subst (λ (xs : List (List PlainSpan)). IsNext xs c.args.spot next) c.deref.ensures.value c.next_spot-next.ensures in
    ap (λ n. n + c.args.spot.at) (count_set cs next.chunk c.args.spot.chunk c.remove-else-len-eq1.new.self is.least)
