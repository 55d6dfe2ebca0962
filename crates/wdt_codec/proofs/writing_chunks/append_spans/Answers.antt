use Rattle.std.proofs.Common.{◌≡◌, ◌++◌, ◌∷◌, length, take, sym, ap, ◌∙◌}
use Rattle.std.proofs.lemmas.List.{append_assoc}
use Rattle.wdt_codec.specs.Chunks.{spell_span, spell_spans}
use Rattle.wdt_ranges.specs.Spans.{plain_span}
use Rattle.wdt_codec.proofs.Appending.{begun-at, begun-longer}
use Rattle.wdt_codec.proofs.writing_chunks.append_spans.Goals as goal

pub loop-span-preserved : goal.loop-span-preserved
loop-span-preserved c =
    let s = plain_span c.in-Some.span in
    let step : c.loop-span.span-iterator ≡ s ∷ c.next.new.self = c.in-Some.ensures.steps in
    let more : c.append.new.into.items ≡ c.loop-span.into.items ++ spell_span s = c.in_ok-append.ensures.spelled ∙ ap (λ w. c.loop-span.into.items ++ w) c.span_text.ensures in
    record {
      so_far = ap (λ w. w ++ spell_spans c.next.new.self) more ∙ append_assoc c.loop-span.into.items (spell_span s) (spell_spans c.next.new.self)
          ∙ ap (λ ss. c.loop-span.into.items ++ spell_spans ss) (sym step) ∙ c.loop-span.invariant.so_far;
      begun = begun-longer c.args.into.now.items c.loop-span.into.items (spell_span s) c.append.new.into.items c.loop-span.invariant.begun more;
    }
