use Rattle.std.proofs.Common.{◌≡◌, ◌∙◌, List, None, ap, arith, length, refl, subst, true}
use Rattle.std.specs.List.{insert}
use Rattle.wdt_logfmt.specs.declared.view.LogFile.{LogFile}
use Rattle.wdt_logfmt.specs.View.{is_rising, named_files}
use Rattle.wdt_log.specs.Places.{IsPlace, is_at}
use Rattle.wdt_log.specs.Touched.{numbered}
use Rattle.wdt_log.proofs.Laying.{when_ok}
use Rattle.wdt_log.proofs.Numbered.{insert_at, set_at}
use Rattle.wdt_log.proofs.extending.lay.Goals as goal

pub index_mut-requires : goal.index_mut-requires
index_mut-requires c = let lt = c.in-Ok.ensures.within in omega (arith, lt, c.deref.ensures.len, ap length c.deref.ensures.value)

pub insert-requires : goal.insert-requires
insert-requires c = let le = c.in-Err.ensures.room in omega (arith, le, c.deref.ensures.len, ap length c.deref.ensures.value)

pub returns-in-Ok-clause-rising : goal.returns-in-Ok-clause-rising
returns-in-Ok-clause-rising c =
    (set_at c.args.file c.args.file.number c.in-Ok.at c.args.files.now.items (subst (λ (fs : List LogFile). is_at c.args.file.number c.in-Ok.at (named_files fs) ≡ true) c.deref.ensures.value c.in-Ok.ensures.found) c.requires.rising refl).rising

pub returns-in-Ok-clause-files : goal.returns-in-Ok-clause-files
returns-in-Ok-clause-files c =
    (set_at c.args.file c.args.file.number c.in-Ok.at c.args.files.now.items (subst (λ (fs : List LogFile). is_at c.args.file.number c.in-Ok.at (named_files fs) ≡ true) c.deref.ensures.value c.in-Ok.ensures.found) c.requires.rising refl).files

pub returns-in-Err-clause-rising : goal.returns-in-Err-clause-rising
returns-in-Err-clause-rising c =
    let fs = c.args.files.now.items in
    let is = when_ok c.insert.result c.insert.new.self.items (insert fs c.in-Err.at c.args.file) fs (c.insert.ensures.succeeds c.requires.room) c.insert.ensures.items in
    ap (λ (gs : List LogFile). is_rising (named_files gs)) is
    ∙ (insert_at c.args.file c.in-Err.at fs (subst (λ (gs : List LogFile). IsPlace c.args.file.number (named_files gs) c.in-Err.at) c.deref.ensures.value c.in-Err.ensures.place) c.requires.rising
    (subst (λ (gs : List LogFile). numbered c.args.file.number (named_files gs) ≡ None) c.deref.ensures.value c.in-Err.ensures.none)).rising

pub returns-in-Err-clause-files : goal.returns-in-Err-clause-files
returns-in-Err-clause-files c n =
    let fs = c.args.files.now.items in
    let is = when_ok c.insert.result c.insert.new.self.items (insert fs c.in-Err.at c.args.file) fs (c.insert.ensures.succeeds c.requires.room) c.insert.ensures.items in
    ap (λ (gs : List LogFile). numbered n (named_files gs)) is
    ∙ (insert_at c.args.file c.in-Err.at fs (subst (λ (gs : List LogFile). IsPlace c.args.file.number (named_files gs) c.in-Err.at) c.deref.ensures.value c.in-Err.ensures.place) c.requires.rising
    (subst (λ (gs : List LogFile). numbered c.args.file.number (named_files gs) ≡ None) c.deref.ensures.value c.in-Err.ensures.none)).files n
