use Rattle.std.proofs.Common.{arith, ap, ◌∙◌, ◌≤◌, refl, length}
use Rattle.std.proofs.lemmas.List.{take_all}
use Rattle.wdt_logfmt.specs.View.{named_files}
use Rattle.wdt_logfmt.specs.Slots.{files_in}
use Rattle.wdt_logfmt.proofs.Slots.{listed_none, listed_more}
use Rattle.wdt_logfmt.proofs.files.list_of.Goals as goal

pub loop-number-init : goal.loop-number-init
loop-number-init c = listed_none _ _ _ refl (ap named_files c.new-files.ensures.items)

pub loop-number-preserved : goal.loop-number-preserved
loop-number-preserved c =
    listed_more c.args.slots.items c.loop-number.slots.items c.take_file-file.new.slots.items c.loop-number.number _ _ c.take_file-file.result (omega arith) c.take_file-file.ensures.file c.take_file-file.ensures.taken c.in_ok-push_file.ensures c.loop-number.invariant

pub returns : goal.returns
returns c =
    let le : length c.args.slots.items ≤ c.loop-number.number = omega arith in
    c.loop-number.invariant.files ∙ ap (files_in 0) (take_all c.loop-number.number c.args.slots.items le)
