use Rattle.std.proofs.Common.{◌≡◌, ◌+◌, ◌-◌, ◌≤◌, true, List, take, drop, arith, sym, subst}
use Rattle.wdt_units.specs.Have.{PlainSpan}
use Rattle.wdt_ranges.specs.Adding.{IsAdded}
use Rattle.wdt_ranges.specs.Chunks.{all_of, place_of}
use Rattle.wdt_ranges.specs.Places.{least_behind, begins_from, IsJoined}
use Rattle.wdt_ranges.specs.Spans.{plain_span, end_of}
use Rattle.wdt_ranges.proofs.Joins.{added, far, on_err}
use Rattle.wdt_ranges.proofs.joining.join.Goals as goal

pub returns-in_err-put-clause-far : goal.returns-in_err-put-clause-far
returns-in_err-put-clause-far c =
    let cs = c.args.chunks.now.items in
    let at = place_of cs c.args.spot in
    let b = c.joined_before-before.result in
    let t = c.joined_behind-behind.result in
    let before : least_behind 0 (take (at - b.0) (all_of cs)) ≤ b.1.offset = subst (λ (xs : List (List PlainSpan)). least_behind 0 (take (place_of xs c.args.spot - b.0) (all_of xs)) ≤ b.1.offset) c.deref.ensures.value c.joined_before-before.ensures.before in
    let one : IsJoined (all_of cs) (at - b.0) at (plain_span c.args.span) (plain_span b.1) = subst (λ (xs : List (List PlainSpan)). IsJoined (all_of xs) (place_of xs c.args.spot - b.0) (place_of xs c.args.spot) (plain_span c.args.span) (plain_span b.1)) c.deref.ensures.value c.joined_before-before.ensures.joined in
    let behind : begins_from (end_of (plain_span t.1) + 1) (drop (at + t.0) (all_of cs)) ≡ true = subst (λ (xs : List (List PlainSpan)). begins_from (end_of (plain_span t.1) + 1) (drop (place_of xs c.args.spot + t.0) (all_of xs)) ≡ true) c.deref-2.ensures.value c.joined_behind-behind.ensures.behind in
    let two : IsJoined (all_of cs) at (at + t.0) (plain_span b.1) (plain_span t.1) = subst (λ (xs : List (List PlainSpan)). IsJoined (all_of xs) (place_of xs c.args.spot) (place_of xs c.args.spot + t.0) (plain_span b.1) (plain_span t.1)) c.deref-2.ensures.value c.joined_behind-behind.ensures.joined in
    on_err c.from_residual.result
    (far (all_of cs) (at - b.0) at (at + t.0) (plain_span c.args.span) (plain_span b.1) (plain_span t.1) c.requires.apart (omega arith) (omega arith)
    (omega (arith, c.in_err-put.ensures.alone.0, c.in_err-put.ensures.alone.1)) before c.joined_before-before.ensures.end one c.joined_behind-behind.ensures.offset behind two)

pub returns-clause-added : goal.returns-clause-added
returns-clause-added c =
    let cs = c.args.chunks.now.items in
    let at = place_of cs c.args.spot in
    let b = c.joined_before-before.result in
    let t = c.joined_behind-behind.result in
    let before : least_behind 0 (take (at - b.0) (all_of cs)) ≤ b.1.offset = subst (λ (xs : List (List PlainSpan)). least_behind 0 (take (place_of xs c.args.spot - b.0) (all_of xs)) ≤ b.1.offset) c.deref.ensures.value c.joined_before-before.ensures.before in
    let one : IsJoined (all_of cs) (at - b.0) at (plain_span c.args.span) (plain_span b.1) = subst (λ (xs : List (List PlainSpan)). IsJoined (all_of xs) (place_of xs c.args.spot - b.0) (place_of xs c.args.spot) (plain_span c.args.span) (plain_span b.1)) c.deref.ensures.value c.joined_before-before.ensures.joined in
    let behind : begins_from (end_of (plain_span t.1) + 1) (drop (at + t.0) (all_of cs)) ≡ true = subst (λ (xs : List (List PlainSpan)). begins_from (end_of (plain_span t.1) + 1) (drop (place_of xs c.args.spot + t.0) (all_of xs)) ≡ true) c.deref-2.ensures.value c.joined_behind-behind.ensures.behind in
    let two : IsJoined (all_of cs) at (at + t.0) (plain_span b.1) (plain_span t.1) = subst (λ (xs : List (List PlainSpan)). IsJoined (all_of xs) (place_of xs c.args.spot) (place_of xs c.args.spot + t.0) (plain_span b.1) (plain_span t.1)) c.deref-2.ensures.value c.joined_behind-behind.ensures.joined in
    subst (IsAdded (all_of cs) (plain_span c.args.span)) (sym c.in_ok-put.ensures.items)
    (added (all_of cs) (at - b.0) at (at + t.0) (plain_span c.args.span) (plain_span b.1) (plain_span t.1) c.requires.apart (omega arith) (omega arith) before one c.joined_behind-behind.ensures.offset behind two)
