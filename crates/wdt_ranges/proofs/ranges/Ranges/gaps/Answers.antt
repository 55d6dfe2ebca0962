use Rattle.std.proofs.Common.{◌≡◌, ◌+◌, ◌∷◌, ◌++◌, min, true, arith, map, sym, ap, ◌∙◌, subst, List}
use Rattle.std.proofs.lemmas.Grind.{common_steps}
use Rattle.std.proofs.lemmas.List.{append_assoc}
use Rattle.wdt_units.specs.Have.{PlainSpan}
use Rattle.wdt_ranges.specs.Spans.{plain_span, end_of, are_apart, are_apart_from, has, span_between, gaps_from, gaps_of}
use Rattle.wdt_ranges.proofs.Apart.{apart_parts, apart_lower}
use Rattle.wdt_ranges.proofs.Gaps.{gaps_apart, gaps_lack}
use Rattle.wdt_ranges.proofs.ranges.Ranges.gaps.Goals as goal

pub overflow_add-least : goal.overflow_add-least
overflow_add-least c =
    let s = plain_span c.in-Some.span in
    let step : c.loop-span.span-iterator ≡ s ∷ c.next.new.self = c.in-Some.ensures.steps in
    omega (arith, (apart_parts c.loop-span.least s c.next.new.self (ap (are_apart_from c.loop-span.least) (sym step) ∙ c.loop-span.invariant.apart)).span.limit)

pub loop-span-preserved : goal.loop-span-preserved
loop-span-preserved c =
    let s = plain_span c.in-Some.span in
    let step : c.loop-span.span-iterator ≡ s ∷ c.next.new.self = c.in-Some.ensures.steps in
    let pushed : map plain_span c.push_between.new.spans.items ≡ map plain_span c.loop-span.gaps.items ++ span_between c.loop-span.least (min s.offset c.args.size) = grind (arith, common_steps) in
    record {
      gaps = ap (λ gs. gs ++ gaps_from (end_of s) c.args.size c.next.new.self) pushed
          ∙ append_assoc (map plain_span c.loop-span.gaps.items) (span_between c.loop-span.least (min s.offset c.args.size)) (gaps_from (end_of s) c.args.size c.next.new.self)
          ∙ ap (λ ss. map plain_span c.loop-span.gaps.items ++ gaps_from c.loop-span.least c.args.size ss) (sym step)
          ∙ c.loop-span.invariant.gaps;
      apart = apart_lower (end_of s) (end_of s + 1) c.next.new.self (omega arith) (apart_parts c.loop-span.least s c.next.new.self (ap (are_apart_from c.loop-span.least) (sym step) ∙ c.loop-span.invariant.apart)).rest;
    }

pub returns-clause-apart : goal.returns-clause-apart
returns-clause-apart c =
    let whole : map plain_span c.push_between-2.new.spans.items ≡ gaps_of c.args.self.now c.args.size = grind (arith, common_steps) in
    let apart = subst (λ (ss : List PlainSpan). are_apart ss ≡ true) c.self.view_is c.self.invariant.0 in
    subst (λ (ss : List PlainSpan). are_apart ss ≡ true) (sym whole) (gaps_apart 0 c.args.size c.args.self.now c.requires apart)

pub returns-clause-lacks : goal.returns-clause-lacks
returns-clause-lacks c = λ x.
    let whole : map plain_span c.push_between-2.new.spans.items ≡ gaps_of c.args.self.now c.args.size = grind (arith, common_steps) in
    let apart = subst (λ (ss : List PlainSpan). are_apart ss ≡ true) c.self.view_is c.self.invariant.0 in
    ap (λ (ss : List PlainSpan). has ss x) whole ∙ gaps_lack c.args.size x c.args.self.now apart
