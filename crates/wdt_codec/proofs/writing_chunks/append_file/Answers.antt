use Rattle.std.proofs.Common.{◌≡◌, ℕ, List, ◌++◌, length, ◌∙◌, ap, append_assoc}
use Rattle.byteorder.specs.Endian.{big_bytes}
use Rattle.wdt_units.specs.Have.{HaveFile}
use Rattle.wdt_ranges.specs.Files.{have_file}
use Rattle.wdt_codec.specs.Chunks.{spell_spans, spell_file}
use Rattle.wdt_codec.proofs.Failing.{on-ok}
use Rattle.wdt_codec.proofs.writing_chunks.append_file.Goals as goal

-- what stands between the path and the spans
abbrev part : HaveFile → List ℕ
part f = big_bytes 8 f.size ++ (big_bytes 8 f.stamp ++ big_bytes 4 (length f.spans))

joined : (old mid new front path back : List ℕ) (f : HaveFile) → mid ≡ old ++ (front ++ (path ++ back)) → front ≡ big_bytes 2 (length path) → path ≡ f.path → back ≡ part f → new ≡ mid ++ spell_spans f.spans → new ≡ old ++ spell_file f
joined old mid new front path back f m fr p b e =
    let m' : mid ≡ old ++ (big_bytes 2 (length f.path) ++ (f.path ++ part f)) =
    m ∙ ap (λ w. old ++ (w ++ (path ++ back))) fr ∙ ap (λ w. old ++ (big_bytes 2 (length path) ++ (path ++ w))) b ∙ ap (λ w. old ++ (big_bytes 2 (length w) ++ (w ++ part f))) p in
    e ∙ ap (λ w. w ++ spell_spans f.spans) m' ∙ append_assoc old (big_bytes 2 (length f.path) ++ (f.path ++ part f)) (spell_spans f.spans)
    ∙ ap (λ w. old ++ (big_bytes 2 (length f.path) ++ w)) (append_assoc f.path (part f) (spell_spans f.spans))

pub returns-clause-spelled : goal.returns-clause-spelled
returns-clause-spelled c =
    let f = have_file c.args.file.now in
    on-ok c.append_spans.result
    (λ e. joined c.args.into.now.items c.append_all.new.into.items c.append_spans.new.into.items c.length_text.result c.bytes-path.result.now c.file_text.result f c.in_ok-append_all.ensures.spelled c.length_text.ensures c.bytes-path.ensures.value
    (c.file_text.ensures ∙ ap (λ k. big_bytes 8 f.size ++ (big_bytes 8 f.stamp ++ big_bytes 4 k)) c.count.ensures.count) (e ∙ ap (λ w. c.append_all.new.into.items ++ spell_spans w) c.spans.ensures))
    c.append_spans.ensures.spelled
