use Rattle.std.proofs.Common.{◌≡◌, ◌≤◌, ◌+◌, ◌^◌, ◌<◌, true, drop, arith, ap, subst, sym}
use Rattle.wdt_units.specs.Have.{PlainSpan}
use Rattle.wdt_ranges.specs.Chunks.{all_of, place_of}
use Rattle.wdt_ranges.specs.Places.{begins_from, IsJoined}
use Rattle.wdt_ranges.specs.Spans.{plain_span, end_of}
use Rattle.wdt_ranges.proofs.Apart.{bounds_of, span_parts}
use Rattle.wdt_ranges.proofs.Parts.{nothing, begins_here, begins_read, next_begins}
use Rattle.wdt_ranges.proofs.Joins.{joins_behind}
use Rattle.wdt_ranges.proofs.joining.joined_behind.Goals as goal

pub returns-then-span-behind-clause-behind : goal.returns-then-span-behind-clause-behind
returns-then-span-behind-clause-behind c =
    let at = place_of c.args.chunks.now c.args.spot in
    let e : at ≡ at + 0 = omega arith in
    subst (λ n. begins_from (end_of (plain_span c.args.span) + 1) (drop n (all_of c.args.chunks.now)) ≡ true) e
    (begins_here (end_of (plain_span c.args.span) + 1) (all_of c.args.chunks.now) at nothing (λ lt. omega (arith, ap (λ (q : PlainSpan). q.offset) (c.in-Some.ensures.span nothing), c.if-span-behind.true)))

pub overflow_add-joined : goal.overflow_add-joined
overflow_add-joined c =
    omega (
      arith,
      (bounds_of (all_of c.args.chunks.now) (place_of c.args.chunks.now c.args.spot) nothing c.in-Some.behind c.requires.apart c.in-Some.ensures.some (c.in-Some.ensures.span nothing)).limit,
      (span_parts (plain_span c.args.span) c.requires.span).limit,
    )

pub returns-clause-behind : goal.returns-clause-behind
returns-clause-behind c =
    let at = place_of c.args.chunks.now c.args.spot in
    let same = c.in-Some.ensures.span nothing in
    let touch = begins_read (end_of (plain_span c.args.span)) (all_of c.args.chunks.now) at nothing c.in-Some.ensures.some c.requires.room in
    next_begins (all_of c.args.chunks.now) at nothing (c.args.span.offset + (c.args.span.length + c.in-Some.behind.length)) c.requires.apart c.in-Some.ensures.some
    (omega (arith, ap end_of same, ap (λ (q : PlainSpan). q.offset) same, touch, c.if-span-behind.false))

pub returns-clause-joined : goal.returns-clause-joined
returns-clause-joined c =
    let at = place_of c.args.chunks.now c.args.spot in
    let same = c.in-Some.ensures.span nothing in
    let touch = begins_read (end_of (plain_span c.args.span)) (all_of c.args.chunks.now) at nothing c.in-Some.ensures.some c.requires.room in
    subst (λ (q : PlainSpan). end_of (plain_span c.args.span) ≡ q.offset → end_of q ≤ 2 ^ 40 → IsJoined (all_of c.args.chunks.now) at (at + 1) (plain_span c.args.span) (record { offset = c.args.span.offset; count = c.args.span.length + q.count })) same
    (joins_behind (all_of c.args.chunks.now) at (plain_span c.args.span) nothing c.requires.span c.in-Some.ensures.some)
    (omega (arith, ap (λ (q : PlainSpan). q.offset) same, touch, c.if-span-behind.false))
    (bounds_of (all_of c.args.chunks.now) at nothing c.in-Some.behind c.requires.apart c.in-Some.ensures.some same).limit
