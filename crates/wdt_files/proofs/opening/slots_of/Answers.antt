use Rattle.std.proofs.Common.{◌+◌, ◌∷◌, List, drop, ap, sym, ◌∙◌, subst, arith}
use Rattle.std.proofs.lemmas.List.{drop_all, drop_more}
use Rattle.wdt_units.specs.Have.{HaveFile}
use Rattle.wdt_logfmt.specs.declared.view.LogFile.{LogFile}
use Rattle.wdt_logfmt.specs.View.{named_files}
use Rattle.wdt_logfmt.proofs.ForCallers.{view_parts}
use Rattle.wdt_files.proofs.Named.{file_of}
use Rattle.wdt_files.proofs.Opened.{IsOpened, opened_files, opened_more, opened_none}
use Rattle.wdt_files.proofs.opening.slots_of.Goals as goal

pub loop-file-init : goal.loop-file-init
loop-file-init c = opened_none c.new-slots.result.items (named_files c.args.files.now) c.new-slots.ensures.items (view_parts (named_files c.args.files.now) c.requires).rising

pub push_at-requires : goal.push_at-requires
push_at-requires c =
    let next = drop_more c.args.files.now c.loop-file.file-index c.file-item.result (omega arith) ∙ ap (λ f. f ∷ drop (c.loop-file.file-index + 1) c.args.files.now) (sym c.file-item.is) in
    let opened = subst (λ (fs : List LogFile). IsOpened c.loop-file.slots.items (named_files fs) (named_files c.args.files.now)) next c.loop-file.invariant in
    omega (arith, (opened.above).0)

pub loop-file-preserved : goal.loop-file-preserved
loop-file-preserved c =
    let next = drop_more c.args.files.now c.loop-file.file-index c.file-item.result (omega arith) ∙ ap (λ f. f ∷ drop (c.loop-file.file-index + 1) c.args.files.now) (sym c.file-item.is) in
    let opened = subst (λ (fs : List LogFile). IsOpened c.loop-file.slots.items (named_files fs) (named_files c.args.files.now)) next c.loop-file.invariant in
    let copied = subst (λ (h : HaveFile). IsOpened c.loop-file.slots.items (file_of c.file-item.result.number h ∷ named_files (drop (c.loop-file.file-index + 1) c.args.files.now)) (named_files c.args.files.now)) (sym c.in_ok-copy.ensures) opened in
    opened_more c.loop-file.slots.items (named_files (drop (c.loop-file.file-index + 1) c.args.files.now)) (named_files c.args.files.now) c.file-item.result.number c.in_ok-copy.field-0 copied
    c.push_at.new.slots.items c.in_ok-push_at.ensures

pub returns-clause-files : goal.returns-clause-files
returns-clause-files c =
    let none = drop_all c.loop-file.file-index c.args.files.now (omega arith) in
    opened_files c.loop-file.slots.items (named_files c.args.files.now) (subst (λ (fs : List LogFile). IsOpened c.loop-file.slots.items (named_files fs) (named_files c.args.files.now)) none c.loop-file.invariant)

pub returns-clause-bare : goal.returns-clause-bare
returns-clause-bare c = c.loop-file.invariant.bare
