use Rattle.std.proofs.Common.{◌≡◌, rules, List, [], ℕ, ◌+◌, ◌-◌, ◌<◌, ◌≤◌, true, nat_le, suc, length, get_or, sym, ap, ◌∙◌, arith, subst}
use Rattle.std.proofs.lemmas.Bool.{leb-true, leb-false}
use Rattle.std.proofs.lemmas.List.{get_or_default}
use Rattle.std.proofs.lemmas.List.Sorted.{IsPartitionPoint-from_clause, IsPartitionedBy-leb}
use Rattle.wdt_units.specs.Have.{PlainSpan}
use Rattle.wdt_ranges.specs.Chunks.{all_of, begin_of, chunk_at, count_before}
use Rattle.wdt_ranges.specs.Places.{IsPlace}
use Rattle.wdt_ranges.specs.Spans.{are_apart}
use Rattle.wdt_ranges.proofs.Chunked.{read_chunk, chunk_rise, chunk_apart, count_first, place_first, place_in, spot_in}
use Rattle.wdt_ranges.proofs.chunks.spot_of.Goals as goal

pub returns-then-behind-eq0-clause-place : goal.returns-then-behind-eq0-clause-place
returns-then-behind-eq0-clause-place c =
    let cs = c.args.chunks.now in
    let parted = IsPartitionPoint-from_clause (λ (ch : List PlainSpan). nat_le (begin_of ch) c.args.offset) cs c.partition_point-behind.result c.partition_point-behind.ensures.partitioned
    (IsPartitionedBy-leb (λ (ch : List PlainSpan). begin_of ch) cs c.args.offset (chunk_rise cs c.requires.apart c.requires.filled)) (λ a r f' k. search rules) in
    subst (IsPlace (all_of cs) c.args.offset) (count_first cs)
    (place_first cs c.args.offset c.requires.filled (λ some. omega (arith, leb-false (begin_of (chunk_at cs 0)) c.args.offset (parted.1 0 [] (omega (arith, c.if-behind-eq0.true)) some))))

pub place-requires : goal.place-requires
place-requires c =
    let cs = c.args.chunks.now in
    let k = c.partition_point-behind.result - 1 in
    let lt : k < length cs = omega (arith, c.partition_point-behind.ensures.bound, c.if-behind-eq0.false) in
    ap are_apart (c.spans.ensures ∙ read_chunk cs k c.index-chunks-behind.result lt c.index-chunks-behind.is) ∙ chunk_apart 0 cs k c.requires.apart lt

pub returns-clause-place : goal.returns-clause-place
returns-clause-place c =
    let cs = c.args.chunks.now in
    let parted = IsPartitionPoint-from_clause (λ (ch : List PlainSpan). nat_le (begin_of ch) c.args.offset) cs c.partition_point-behind.result c.partition_point-behind.ensures.partitioned
    (IsPartitionedBy-leb (λ (ch : List PlainSpan). begin_of ch) cs c.args.offset (chunk_rise cs c.requires.apart c.requires.filled)) (λ a r f' k. search rules) in
    let k = c.partition_point-behind.result - 1 in
    let lt : k < length cs = omega (arith, c.partition_point-behind.ensures.bound, c.if-behind-eq0.false) in
    let same = c.spans.ensures ∙ read_chunk cs k c.index-chunks-behind.result lt c.index-chunks-behind.is in
    place_in cs k c.place.result c.args.offset c.requires.filled lt
    (leb-true (begin_of (chunk_at cs k)) c.args.offset (parted.0 k [] (omega arith) (omega (arith, c.if-behind-eq0.false))))
    (λ next. omega (arith, leb-false (begin_of (chunk_at cs (suc k))) c.args.offset (parted.1 (suc k) [] (omega (arith, c.if-behind-eq0.false)) next)))
    (subst (λ (ss : List PlainSpan). IsPlace ss c.args.offset c.place.result) same c.place.ensures)

pub returns-clause-spot : goal.returns-clause-spot
returns-clause-spot c =
    let cs = c.args.chunks.now in
    let parted = IsPartitionPoint-from_clause (λ (ch : List PlainSpan). nat_le (begin_of ch) c.args.offset) cs c.partition_point-behind.result c.partition_point-behind.ensures.partitioned
    (IsPartitionedBy-leb (λ (ch : List PlainSpan). begin_of ch) cs c.args.offset (chunk_rise cs c.requires.apart c.requires.filled)) (λ a r f' k. search rules) in
    let k = c.partition_point-behind.result - 1 in
    let lt : k < length cs = omega (arith, c.partition_point-behind.ensures.bound, c.if-behind-eq0.false) in
    let same = c.spans.ensures ∙ read_chunk cs k c.index-chunks-behind.result lt c.index-chunks-behind.is in
    spot_in cs k c.place.result c.args.offset c.requires.filled lt
    (leb-true (begin_of (chunk_at cs k)) c.args.offset (parted.0 k [] (omega arith) (omega (arith, c.if-behind-eq0.false))))
    (subst (λ (ss : List PlainSpan). IsPlace ss c.args.offset c.place.result) same c.place.ensures)
