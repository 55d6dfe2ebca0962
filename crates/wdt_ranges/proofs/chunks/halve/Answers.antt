use Rattle.std.proofs.Common.{◌≡◌, List, true, ◌+◌, ◌-◌, ◌/◌, ◌≤◌, suc, length, take, drop, sym, ap, ◌∙◌, arith, add-one, subst}
use Rattle.std.proofs.lemmas.List.{length-take-le, length-drop}
use Rattle.wdt_units.specs.Have.{PlainSpan}
use Rattle.wdt_ranges.specs.Chunks.{all_of, are_filled, chunk_at, count_before}
use Rattle.wdt_ranges.proofs.Chunked.{read_chunk, halved_is, filled_halved, filled_some}
use Rattle.wdt_ranges.proofs.chunks.halve.Goals as goal

pub returns-then-spot-half-clause-all : goal.returns-then-spot-half-clause-all
returns-then-spot-half-clause-all c = ap all_of c.in_ok-cut.ensures.halved ∙ (halved_is c.args.chunks.now.items c.args.spot.chunk (c.len-half.result / 2) c.requires.chunk).all

pub returns-then-spot-half-clause-filled : goal.returns-then-spot-half-clause-filled
returns-then-spot-half-clause-filled c =
    let cs = c.args.chunks.now.items in
    let size : c.len-half.result ≡ length (chunk_at cs c.args.spot.chunk) = c.len-half.ensures ∙ ap length (read_chunk cs c.args.spot.chunk c.index.result.now c.requires.chunk c.index.ensures) in
    ap are_filled c.in_ok-cut.ensures.halved
    ∙ filled_halved cs c.args.spot.chunk (c.len-half.result / 2) c.requires.filled c.requires.chunk
    (filled_some (take (c.len-half.result / 2) (chunk_at cs c.args.spot.chunk)) (omega (arith, length-take-le (c.len-half.result / 2) (chunk_at cs c.args.spot.chunk) (omega (arith, size)), size, c.requires.many)))
    (filled_some (drop (c.len-half.result / 2) (chunk_at cs c.args.spot.chunk)) (omega (arith, length-drop (c.len-half.result / 2) (chunk_at cs c.args.spot.chunk), size, c.requires.many)))

pub returns-then-spot-half-clause-place : goal.returns-then-spot-half-clause-place
returns-then-spot-half-clause-place c =
    ap (λ (xs : List (List PlainSpan)). count_before xs c.args.spot.chunk + c.args.spot.at) c.in_ok-cut.ensures.halved
    ∙ ap (λ n. n + c.args.spot.at) (halved_is c.args.chunks.now.items c.args.spot.chunk (c.len-half.result / 2) c.requires.chunk).count

pub returns-then-spot-half-clause-chunk : goal.returns-then-spot-half-clause-chunk
returns-then-spot-half-clause-chunk c =
    omega (arith, ap (λ (xs : List (List PlainSpan)). length xs) c.in_ok-cut.ensures.halved, (halved_is c.args.chunks.now.items c.args.spot.chunk (c.len-half.result / 2) c.requires.chunk).size, c.requires.chunk)

pub returns-then-spot-half-clause-at : goal.returns-then-spot-half-clause-at
returns-then-spot-half-clause-at c =
    let cs = c.args.chunks.now.items in
    let size : c.len-half.result ≡ length (chunk_at cs c.args.spot.chunk) = c.len-half.ensures ∙ ap length (read_chunk cs c.args.spot.chunk c.index.result.now c.requires.chunk c.index.ensures) in
    let low = ap (λ (xs : List (List PlainSpan)). chunk_at xs c.args.spot.chunk) c.in_ok-cut.ensures.halved ∙ (halved_is cs c.args.spot.chunk (c.len-half.result / 2) c.requires.chunk).low in
    omega (arith, ap length low, length-take-le (c.len-half.result / 2) (chunk_at cs c.args.spot.chunk) (omega (arith, size)), c.if-spot-half.true)

pub returns-clause-all : goal.returns-clause-all
returns-clause-all c = ap all_of c.in_ok-cut.ensures.halved ∙ (halved_is c.args.chunks.now.items c.args.spot.chunk (c.len-half.result / 2) c.requires.chunk).all

pub returns-clause-filled : goal.returns-clause-filled
returns-clause-filled c =
    let cs = c.args.chunks.now.items in
    let size : c.len-half.result ≡ length (chunk_at cs c.args.spot.chunk) = c.len-half.ensures ∙ ap length (read_chunk cs c.args.spot.chunk c.index.result.now c.requires.chunk c.index.ensures) in
    ap are_filled c.in_ok-cut.ensures.halved
    ∙ filled_halved cs c.args.spot.chunk (c.len-half.result / 2) c.requires.filled c.requires.chunk
    (filled_some (take (c.len-half.result / 2) (chunk_at cs c.args.spot.chunk)) (omega (arith, length-take-le (c.len-half.result / 2) (chunk_at cs c.args.spot.chunk) (omega (arith, size)), size, c.requires.many)))
    (filled_some (drop (c.len-half.result / 2) (chunk_at cs c.args.spot.chunk)) (omega (arith, length-drop (c.len-half.result / 2) (chunk_at cs c.args.spot.chunk), size, c.requires.many)))

pub returns-clause-place : goal.returns-clause-place
returns-clause-place c =
    let cs = c.args.chunks.now.items in
    let size : c.len-half.result ≡ length (chunk_at cs c.args.spot.chunk) = c.len-half.ensures ∙ ap length (read_chunk cs c.args.spot.chunk c.index.result.now c.requires.chunk c.index.ensures) in
    let next = ap (λ (xs : List (List PlainSpan)). count_before xs (suc c.args.spot.chunk)) c.in_ok-cut.ensures.halved ∙ (halved_is cs c.args.spot.chunk (c.len-half.result / 2) c.requires.chunk).next in
    omega (arith, ap (count_before c.cut.new.chunks.items) (add-one c.args.spot.chunk), next, length-take-le (c.len-half.result / 2) (chunk_at cs c.args.spot.chunk) (omega (arith, size)), c.if-spot-half.false)

pub returns-clause-chunk : goal.returns-clause-chunk
returns-clause-chunk c =
    omega (arith, ap (λ (xs : List (List PlainSpan)). length xs) c.in_ok-cut.ensures.halved, (halved_is c.args.chunks.now.items c.args.spot.chunk (c.len-half.result / 2) c.requires.chunk).size, c.requires.chunk)

pub returns-clause-at : goal.returns-clause-at
returns-clause-at c =
    let cs = c.args.chunks.now.items in
    let size : c.len-half.result ≡ length (chunk_at cs c.args.spot.chunk) = c.len-half.ensures ∙ ap length (read_chunk cs c.args.spot.chunk c.index.result.now c.requires.chunk c.index.ensures) in
    let high = ap (λ (xs : List (List PlainSpan)). chunk_at xs (suc c.args.spot.chunk)) c.in_ok-cut.ensures.halved ∙ (halved_is cs c.args.spot.chunk (c.len-half.result / 2) c.requires.chunk).high in
    omega (arith, ap (λ n. length (chunk_at c.cut.new.chunks.items n)) (add-one c.args.spot.chunk), ap length high, length-drop (c.len-half.result / 2) (chunk_at cs c.args.spot.chunk), c.requires.at, size)
