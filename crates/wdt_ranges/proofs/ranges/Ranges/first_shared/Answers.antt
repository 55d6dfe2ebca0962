use Rattle.std.proofs.Common.{List, Option, Some, None, IfNone, subst, ℕ}
use Rattle.wdt_units.specs.Have.{PlainSpan}
use Rattle.wdt_ranges.specs.Adding.{HasNoneOf}
use Rattle.wdt_ranges.specs.Chunks.{all_of, place_of}
use Rattle.wdt_ranges.specs.Places.{HasRoom}
use Rattle.wdt_ranges.specs.Spans.{plain_span}
use Rattle.wdt_ranges.proofs.Parts.{none_shared}
use Rattle.wdt_ranges.proofs.ranges.Ranges.first_shared.Goals as goal

pub returns-clause-none : goal.returns-clause-none
returns-clause-none c = map_none c.first_shared.result shared c.first_shared.ensures.none
  where
    map_none : {P Q : Type 0} (o : Option ℕ) → (P → Q) → IfNone o P → IfNone o Q
    map_none None f p = f p
    map_none (Some x) f p = tt

    shared : HasRoom (all_of c.deref-2.result.now) (place_of c.deref-2.result.now c.spot_of-spot.result) (plain_span c.args.span) → HasNoneOf c.args.self.now (plain_span c.args.span)
    shared room =
        let here = subst (λ (xs : List (List PlainSpan)). HasRoom (all_of xs) (place_of xs c.spot_of-spot.result) (plain_span c.args.span)) c.deref-2.ensures.value room in
        subst (λ (ss : List PlainSpan). HasNoneOf ss (plain_span c.args.span)) c.self.view_is
        (none_shared (all_of c.self.inside.chunks.items) (place_of c.self.inside.chunks.items c.spot_of-spot.result) (plain_span c.args.span) c.self.invariant.0 here)
