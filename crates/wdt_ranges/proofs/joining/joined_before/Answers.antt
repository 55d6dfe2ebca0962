use Rattle.std.proofs.Common.{◌≡◌, ◌≤◌, ◌+◌, ◌-◌, ◌<◌, length, take, arith, ap, subst}
use Rattle.wdt_units.specs.Have.{PlainSpan}
use Rattle.wdt_ranges.specs.Chunks.{all_of, place_of}
use Rattle.wdt_ranges.specs.Places.{least_behind, IsJoined}
use Rattle.wdt_ranges.specs.Spans.{plain_span, end_of}
use Rattle.wdt_ranges.proofs.Apart.{bounds_of, span_parts}
use Rattle.wdt_ranges.proofs.Parts.{nothing, behind_last, behind_at}
use Rattle.wdt_ranges.proofs.Joins.{joins_before}
use Rattle.wdt_ranges.proofs.joining.joined_before.Goals as goal

pub overflow_add-before : goal.overflow_add-before
overflow_add-before c =
    omega (arith, (bounds_of (all_of c.args.chunks.now) (place_of c.args.chunks.now c.args.spot - 1) nothing c.in-Some.before c.requires.apart (omega (arith, c.requires.place, c.in-Some.ensures.some)) (c.in-Some.ensures.span nothing)).limit)

pub returns-then-before-span-clause-before : goal.returns-then-before-span-clause-before
returns-then-before-span-clause-before c =
    let at = place_of c.args.chunks.now c.args.spot in
    let e : at ≡ at - 0 = omega arith in
    subst (λ n. least_behind 0 (take n (all_of c.args.chunks.now)) ≤ c.args.span.offset) e
    (omega (arith, behind_last 0 (all_of c.args.chunks.now) at nothing (omega (arith, c.in-Some.ensures.some)) c.requires.place, ap end_of (c.in-Some.ensures.span nothing), c.if-before-span.true))

pub overflow_add-joined : goal.overflow_add-joined
overflow_add-joined c =
    omega (
      arith,
      (bounds_of (all_of c.args.chunks.now) (place_of c.args.chunks.now c.args.spot - 1) nothing c.in-Some.before c.requires.apart (omega (arith, c.requires.place, c.in-Some.ensures.some)) (c.in-Some.ensures.span nothing)).limit,
      (span_parts (plain_span c.args.span) c.requires.span).limit,
    )

pub returns-clause-end : goal.returns-clause-end
returns-clause-end c =
    omega (
      arith,
      behind_last 0 (all_of c.args.chunks.now) (place_of c.args.chunks.now c.args.spot) nothing (omega (arith, c.in-Some.ensures.some)) c.requires.place,
      ap end_of (c.in-Some.ensures.span nothing),
      c.requires.room,
      c.if-before-span.false,
    )

pub returns-clause-before : goal.returns-clause-before
returns-clause-before c =
    omega (
      arith,
      behind_at 0 (all_of c.args.chunks.now) (place_of c.args.chunks.now c.args.spot - 1) nothing c.requires.apart (omega (arith, c.requires.place, c.in-Some.ensures.some)),
      ap (λ (p : PlainSpan). p.offset) (c.in-Some.ensures.span nothing),
    )

pub returns-clause-joined : goal.returns-clause-joined
returns-clause-joined c =
    let same = c.in-Some.ensures.span nothing in
    subst (λ (p : PlainSpan). end_of p ≡ c.args.span.offset → IsJoined (all_of c.args.chunks.now) (place_of c.args.chunks.now c.args.spot - 1) (place_of c.args.chunks.now c.args.spot) (plain_span c.args.span) (record { offset = p.offset; count = p.count + c.args.span.length })) same
    (joins_before (all_of c.args.chunks.now) (place_of c.args.chunks.now c.args.spot) (plain_span c.args.span) nothing c.requires.span (omega (arith, c.in-Some.ensures.some)) c.requires.place)
    (omega (
      arith,
      behind_last 0 (all_of c.args.chunks.now) (place_of c.args.chunks.now c.args.spot) nothing (omega (arith, c.in-Some.ensures.some)) c.requires.place,
      ap end_of same,
      c.requires.room,
      c.if-before-span.false,
    ))
