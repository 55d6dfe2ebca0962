use Rattle.std.proofs.Common.{◌≡◌, List, sym, subst, true}
use Rattle.wdt_logfmt.specs.declared.view.LogFile.{LogFile}
use Rattle.wdt_logfmt.specs.Spelling.{written_version}
use Rattle.wdt_logfmt.specs.View.{is_rising, named_files}
use Rattle.wdt_logfmt.proofs.ForCallers.{view_parts}
use Rattle.wdt_log.specs.Touched.{AreAdded, SameFiles, laid, numbered}
use Rattle.wdt_log.proofs.Laying.{all_laid}
use Rattle.wdt_log.proofs.writing.append_to_view.Goals as goal

pub lay_all-requires-clause-rising : goal.lay_all-requires-clause-rising
lay_all-requires-clause-rising g c = subst (λ (fs : List LogFile). is_rising (named_files fs) ≡ true) (sym c.reserve.ensures.items) (view_parts (named_files c.args.view.now.files.items) c.requires.view).rising

pub returns-clause-files : goal.returns-clause-files
returns-clause-files g c =
    let fs = c.args.view.now.files.items in
    (all_laid written_version (named_files fs) (named_files c.lay_all.new.files.items) c.args.batch.now (laid (named_files c.in_ok-touched.touched.items) (named_files fs)) c.requires.view c.requires.continues
    (subst (λ (gs : List LogFile). AreAdded written_version (named_files gs) c.args.batch.now (laid (named_files c.in_ok-touched.touched.items) (named_files gs))) c.deref.ensures.value c.in_ok-touched.ensures.files) c.lay_all.ensures.rising
    (subst (λ (gs : List LogFile). SameFiles (laid (named_files c.in_ok-touched.touched.items) (named_files gs)) (λ n. numbered n (named_files c.lay_all.new.files.items))) c.reserve.ensures.items c.lay_all.ensures.files)).0

pub returns-clause-view : goal.returns-clause-view
returns-clause-view g c =
    let fs = c.args.view.now.files.items in
    (all_laid written_version (named_files fs) (named_files c.lay_all.new.files.items) c.args.batch.now (laid (named_files c.in_ok-touched.touched.items) (named_files fs)) c.requires.view c.requires.continues
    (subst (λ (gs : List LogFile). AreAdded written_version (named_files gs) c.args.batch.now (laid (named_files c.in_ok-touched.touched.items) (named_files gs))) c.deref.ensures.value c.in_ok-touched.ensures.files) c.lay_all.ensures.rising
    (subst (λ (gs : List LogFile). SameFiles (laid (named_files c.in_ok-touched.touched.items) (named_files gs)) (λ n. numbered n (named_files c.lay_all.new.files.items))) c.reserve.ensures.items c.lay_all.ensures.files)).1
