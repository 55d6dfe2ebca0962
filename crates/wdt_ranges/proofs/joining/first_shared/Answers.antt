use Rattle.std.proofs.Common.{◌≡◌, ◌≤◌, ◌+◌, ◌<◌, take, arith, ap, subst}
use Rattle.wdt_units.specs.Have.{PlainSpan}
use Rattle.wdt_ranges.specs.Adding.{IsFirstShared}
use Rattle.wdt_ranges.specs.Chunks.{all_of, place_of}
use Rattle.wdt_ranges.specs.Places.{least_behind}
use Rattle.wdt_ranges.specs.Spans.{plain_span, end_of}
use Rattle.wdt_ranges.proofs.Apart.{bounds_of}
use Rattle.wdt_ranges.proofs.Parts.{nothing, shared_before, shared_behind, room_before, begins_here, begins_past}
use Rattle.wdt_ranges.proofs.joining.first_shared.Goals as goal

pub returns-then-span-end_before-clause-first : goal.returns-then-span-end_before-clause-first
returns-then-span-end_before-clause-first c =
    shared_before (all_of c.args.chunks.now) (place_of c.args.chunks.now c.args.spot) c.end_before.result (plain_span c.args.span) c.requires.span c.requires.place
    (record { none = c.end_before.ensures.none; last = c.end_before.ensures.end }) c.if-span-end_before.true

pub returns-in-Some-clause-first : goal.returns-in-Some-clause-first
returns-in-Some-clause-first c =
    let same = c.in-Some.ensures.span nothing in
    let low : least_behind 0 (take (place_of c.args.chunks.now c.args.spot) (all_of c.args.chunks.now)) ≤ c.args.span.offset + 1 =
    room_before (all_of c.args.chunks.now) (place_of c.args.chunks.now c.args.spot) nothing c.args.span.offset c.requires.place.within (λ some. omega (arith, c.end_before.ensures.end nothing some)) in
    subst (λ (q : PlainSpan). q.offset < end_of (plain_span c.args.span) → 0 < q.count → IsFirstShared (all_of c.args.chunks.now) (plain_span c.args.span) q.offset) same
    (shared_behind (all_of c.args.chunks.now) (place_of c.args.chunks.now c.args.spot) (plain_span c.args.span) nothing c.requires.apart c.requires.place low c.in-Some.ensures.some)
    c.if-behind-span.true (bounds_of (all_of c.args.chunks.now) (place_of c.args.chunks.now c.args.spot) nothing c.in-Some.behind c.requires.apart c.in-Some.ensures.some same).some

pub returns-in_default-clause-none : goal.returns-in_default-clause-none
returns-in_default-clause-none c = record {
  before = room_before (all_of c.args.chunks.now) (place_of c.args.chunks.now c.args.spot) nothing c.args.span.offset c.requires.place.within (λ some. omega (arith, c.end_before.ensures.end nothing some));
  behind = begins_here (end_of (plain_span c.args.span)) (all_of c.args.chunks.now) (place_of c.args.chunks.now c.args.spot) nothing
      (λ lt. omega (arith, ap (λ (q : PlainSpan). q.offset) (c.in-Some.ensures.span nothing), c.if-behind-span.false));
}

pub returns-in_default-2-clause-none : goal.returns-in_default-2-clause-none
returns-in_default-2-clause-none c = record {
  before = room_before (all_of c.args.chunks.now) (place_of c.args.chunks.now c.args.spot) nothing c.args.span.offset c.requires.place.within (λ some. omega (arith, c.end_before.ensures.end nothing some));
  behind = begins_past (end_of (plain_span c.args.span)) (all_of c.args.chunks.now) (place_of c.args.chunks.now c.args.spot) c.in_default.ensures.none;
}
