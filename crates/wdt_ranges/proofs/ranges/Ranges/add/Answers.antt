use Rattle.std.proofs.Common.{List, arith, subst}
use Rattle.wdt_units.specs.Have.{PlainSpan}
use Rattle.wdt_ranges.specs.Adding.{HasNoneOf}
use Rattle.wdt_ranges.specs.Chunks.{all_of, place_of}
use Rattle.wdt_ranges.specs.Places.{HasRoom}
use Rattle.wdt_ranges.specs.Spans.{plain_span}
use Rattle.wdt_ranges.proofs.Apart.{few_spans, span_parts, total_within}
use Rattle.wdt_ranges.proofs.Parts.{none_shared}
use Rattle.wdt_ranges.proofs.ranges.Ranges.add.Goals as goal

pub overflow_add-self : goal.overflow_add-self
overflow_add-self c =
    let ss = all_of c.self.inside.chunks.items in
    omega (arith, c.self.invariant.2, few_spans 0 ss c.self.invariant.0, total_within 0 ss c.self.invariant.0)

pub overflow_add-self-in-Ok : goal.overflow_add-self-in-Ok
overflow_add-self-in-Ok c = omega (arith, c.self.invariant.3, total_within 0 (all_of c.self.inside.chunks.items) c.self.invariant.0, (span_parts (plain_span c.args.span) c.requires).limit)

pub returns-in-Ok-clause-none_shared : goal.returns-in-Ok-clause-none_shared
returns-in-Ok-clause-none_shared c =
    let room = subst (λ (xs : List (List PlainSpan)). HasRoom (all_of xs) (place_of xs c.spot_of-spot.result) (plain_span c.args.span)) c.deref-2.ensures.value c.in_default.ensures.none in
    subst (λ (ss : List PlainSpan). HasNoneOf ss (plain_span c.args.span)) c.self.view_is
    (none_shared (all_of c.self.inside.chunks.items) (place_of c.self.inside.chunks.items c.spot_of-spot.result) (plain_span c.args.span) c.self.invariant.0 room)
