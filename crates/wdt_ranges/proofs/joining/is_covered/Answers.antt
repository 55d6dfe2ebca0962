use Rattle.std.proofs.Common.{◌+◌, inl, inr}
use Rattle.std.proofs.lemmas.Bool.{leb-true, le-leb, cases_lt}
use Rattle.wdt_ranges.specs.Chunks.{all_of, place_of}
use Rattle.wdt_ranges.specs.Spans.{plain_span}
use Rattle.wdt_ranges.proofs.Parts.{IsEndBefore, covered_at, not_covered}
use Rattle.wdt_ranges.proofs.joining.is_covered.Goals as goal

pub returns : goal.returns
returns c =
    let before : IsEndBefore (all_of c.args.chunks.now) (place_of c.args.chunks.now c.spot_of-spot.result) c.end_before.result = record { none = c.end_before.ensures.none; last = c.end_before.ensures.end } in (
      λ le. covered_at (all_of c.args.chunks.now) (place_of c.args.chunks.now c.spot_of-spot.result) c.end_before.result (plain_span c.args.span) c.requires.span c.spot_of-spot.ensures.place before
          (leb-true (c.args.span.offset + c.args.span.length) c.end_before.result le),
      λ all. elim (cases_lt c.end_before.result (c.args.span.offset + c.args.span.length)) [
        | inl lt ↦ absurd (not_covered (all_of c.args.chunks.now) (place_of c.args.chunks.now c.spot_of-spot.result) c.end_before.result (plain_span c.args.span) c.requires.apart c.requires.span c.spot_of-spot.ensures.place before lt all)
        | inr le ↦ le-leb (c.args.span.offset + c.args.span.length) c.end_before.result le
      ],
    )
