use Rattle.std.proofs.Common.{◌≡◌, ◌∙◌, true, ap, sym, subst}
use Rattle.wdt_ranges.specs.Files.{have_file}
use Rattle.wdt_ranges.specs.Spans.{are_apart, plain_span}
use Rattle.wdt_logfmt.specs.declared.view.LogFile.{LogFile}
use Rattle.wdt_logfmt.specs.Adding.{have_with}
use Rattle.wdt_logfmt.specs.View.{named_files}
use Rattle.wdt_log.proofs.Adding.{on_ok}
use Rattle.wdt_log.proofs.Laying.{apart_at, covered_at}
use Rattle.wdt_log.proofs.extending.cover.Goals as goal

pub cover_file-requires-clause-apart : goal.cover_file-requires-clause-apart
cover_file-requires-clause-apart c =
    let us = c.take_up.new.touched.items in
    subst (λ (f : LogFile). are_apart f.have.spans ≡ true) (sym c.index_mut.ensures.value)
    (apart_at c.args.number c.in_ok-at.at c.args.touched.now.items us (named_files c.args.files.now) c.index_mut.result.now c.in_ok-at.ensures.same c.in_ok-at.ensures.at c.requires.apart)

pub returns-clause-rising : goal.returns-clause-rising
returns-clause-rising c =
    on_ok c.cover_file.result _ _ c.cover_file.ensures.have (λ have.
    (covered_at c.args.number c.in_ok-at.at (plain_span c.args.span) c.args.touched.now.items c.take_up.new.touched.items (named_files c.args.files.now) c.cover_file.new.file c.index_mut.result.now c.in_ok-at.ensures.same c.in_ok-at.ensures.at c.in_ok-at.ensures.rising
    (c.cover_file.ensures.number ∙ ap (λ (f : LogFile). f.number) c.index_mut.ensures.value)
    (have ∙ ap (λ (f : LogFile). have_with (plain_span c.args.span) (have_file f.have)) c.index_mut.ensures.value)).rising)

pub returns-clause-files : goal.returns-clause-files
returns-clause-files c =
    on_ok c.cover_file.result _ _ c.cover_file.ensures.have (λ have.
    (covered_at c.args.number c.in_ok-at.at (plain_span c.args.span) c.args.touched.now.items c.take_up.new.touched.items (named_files c.args.files.now) c.cover_file.new.file c.index_mut.result.now c.in_ok-at.ensures.same c.in_ok-at.ensures.at c.in_ok-at.ensures.rising
    (c.cover_file.ensures.number ∙ ap (λ (f : LogFile). f.number) c.index_mut.ensures.value)
    (have ∙ ap (λ (f : LogFile). have_with (plain_span c.args.span) (have_file f.have)) c.index_mut.ensures.value)).files)
