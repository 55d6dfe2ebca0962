use Rattle.std.proofs.Common.{◌≡◌, None, subst, sym}
use Rattle.wdt_logfmt.specs.declared.entry.LogEntry.{LogEntry}
use Rattle.wdt_logfmt.specs.Adding.{just_named}
use Rattle.wdt_logfmt.specs.Spelling.{written_version}
use Rattle.wdt_logfmt.specs.View.{NamedFile, named_files}
use Rattle.wdt_logfmt.proofs.ForCallers.{view_parts}
use Rattle.wdt_log.specs.Touched.{CanEnter, SameFiles, entered, laid, numbered}
use Rattle.wdt_log.proofs.Adding.{on_ok}
use Rattle.wdt_log.proofs.Laying.{cover_there, named_at, named_fresh}
use Rattle.wdt_log.proofs.Numbered.{numbered_none}
use Rattle.wdt_log.proofs.extending.touch.Goals as goal

pub put-requires-clause-new : goal.put-requires-clause-new
put-requires-clause-new c =
    let ts = named_files c.args.touched.now.items in
    let fs = named_files c.args.files.now in
    numbered_none c.in-File.number ts (named_fresh written_version ts fs c.in-File.number c.in-File.path c.in-File.size c.in-File.stamp (subst (λ e. CanEnter written_version (laid ts fs) e) c.in-File.is c.requires.continues))

pub returns-in_ok-copy-in-File-clause-rising : goal.returns-in_ok-copy-in-File-clause-rising
returns-in_ok-copy-in-File-clause-rising c =
    let ts = named_files c.args.touched.now.items in
    let us = named_files c.put.new.files.items in
    let fs = named_files c.args.files.now in
    let n = c.in-File.number in
    let size = c.in-File.size in
    let stamp = c.in-File.stamp in
    let x : NamedFile = record { number = n; have = record { path = c.in_ok-copy-in-File.field-0; size = size; stamp = stamp; spans = c.none.result } } in
    let is : x ≡ just_named n c.in-File.path size stamp = λ i. record { number = n; have = record { path = c.in_ok-copy-in-File.ensures i; size = size; stamp = stamp; spans = c.none.ensures i } } in
    let fresh : numbered n ts ≡ None = named_fresh written_version ts fs n c.in-File.path size stamp (subst (λ (e : LogEntry). CanEnter written_version (laid ts fs) e) c.in-File.is c.requires.continues) in
    on_ok c.put.result _ _ c.put.ensures.files (λ put. (named_at n c.in-File.path size stamp x ts us fs is put c.requires.rising fresh).rising)

pub returns-in_ok-copy-in-File-clause-files : goal.returns-in_ok-copy-in-File-clause-files
returns-in_ok-copy-in-File-clause-files c =
    let ts = named_files c.args.touched.now.items in
    let us = named_files c.put.new.files.items in
    let fs = named_files c.args.files.now in
    let n = c.in-File.number in
    let size = c.in-File.size in
    let stamp = c.in-File.stamp in
    let x : NamedFile = record { number = n; have = record { path = c.in_ok-copy-in-File.field-0; size = size; stamp = stamp; spans = c.none.result } } in
    let is : x ≡ just_named n c.in-File.path size stamp = λ i. record { number = n; have = record { path = c.in_ok-copy-in-File.ensures i; size = size; stamp = stamp; spans = c.none.ensures i } } in
    let fresh : numbered n ts ≡ None = named_fresh written_version ts fs n c.in-File.path size stamp (subst (λ (e : LogEntry). CanEnter written_version (laid ts fs) e) c.in-File.is c.requires.continues) in
    on_ok c.put.result _ _ c.put.ensures.files (λ put.
    subst (λ (e : LogEntry). SameFiles (entered e (laid ts fs)) (laid us fs)) (sym c.in-File.is) (named_at n c.in-File.path size stamp x ts us fs is put c.requires.rising fresh).files)

pub cover-requires : goal.cover-requires
cover-requires c =
    let fs = named_files c.args.files.now in
    let can = cover_there written_version (laid (named_files c.args.touched.now.items) fs) c.in-Covered.number c.in-Covered.offset c.in-Covered.length (subst (λ e. CanEnter written_version (laid (named_files c.args.touched.now.items) fs) e) c.in-Covered.is c.requires.continues) in
    record { rising_files = (view_parts fs c.requires.view).rising; rising = c.requires.rising; there = can.there; apart = can.apart; span = can.span }
