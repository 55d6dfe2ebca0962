use Rattle.wdt_ranges.specs.Files.{have_file}
use Rattle.wdt_files.proofs.Landing.{is_laid, not_shared}
use Rattle.wdt_files.proofs.slots.lay.Goals as goal

pub unreachable-requires : goal.unreachable-requires
unreachable-requires c =
    let h = c.in-Err-Overlap.ensures.refused in
    not_shared c.args.block (have_file c.args.file.now) c.in-Err-Overlap.field-0-0 c.if-block-eq0.false c.requires.room (rw c.in-Err-Overlap.field-0-is at h)

pub returns-in-Ok-clause-laid : goal.returns-in-Ok-clause-laid
returns-in-Ok-clause-laid c =
    is_laid c.args.block (have_file c.args.file.now) c.add.new.self c.if-block-eq0.false c.requires.small c.requires.room c.count-before.ensures.apart c.count-now.ensures.apart c.in-Ok.ensures.none_shared c.in-Ok.ensures.positions
