use Rattle.std.proofs.Common.{sym, ap, ◌∙◌}
use Rattle.wdt_writer.specs.PlainWriter.{part_of}
use Rattle.wdt_writer.proofs.Landed.{begun_part}
use Rattle.wdt_writer.proofs.writer.Writer.begun.Goals as goal

pub file-requires : goal.file-requires
file-requires c =
    let i = c.self.inside in
    let there = ap (λ ps. part_of ps c.args.lane.0) (sym c.deref.ensures.value) ∙ sym c.in_ok-part.ensures in
    (begun_part i.files i.unlogged.items i.unlogged_bytes i.parts.items i.last c.args.lane.0 c.in_ok-part.part c.self.invariant there).known_as

pub place_of-requires-clause-left : goal.place_of-requires-clause-left
place_of-requires-clause-left c =
    let i = c.self.inside in
    let there = ap (λ ps. part_of ps c.args.lane.0) (sym c.deref.ensures.value) ∙ sym c.in_ok-part.ensures in
    (begun_part i.files i.unlogged.items i.unlogged_bytes i.parts.items i.last c.args.lane.0 c.in_ok-part.part c.self.invariant there).left

pub place_of-requires-clause-within : goal.place_of-requires-clause-within
place_of-requires-clause-within c =
    let i = c.self.inside in
    let there = ap (λ ps. part_of ps c.args.lane.0) (sym c.deref.ensures.value) ∙ sym c.in_ok-part.ensures in
    (begun_part i.files i.unlogged.items i.unlogged_bytes i.parts.items i.last c.args.lane.0 c.in_ok-part.part c.self.invariant there).within
