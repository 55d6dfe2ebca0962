use Rattle.std.proofs.Common.{◌≤◌, ◌+◌, ap, sym, ◌∙◌}
use Rattle.wdt_writer.specs.declared.parts.Part.{Part}
use Rattle.wdt_writer.specs.PlainWriter.{PlainWriter, part_of}
use Rattle.wdt_writer.proofs.Keeping.{left_writes, of_part}
use Rattle.wdt_writer.proofs.writer.Writer.unpiece.Goals as goal

pub invariant_of-self : goal.invariant_of-self
invariant_of-self c =
    let i = c.self.inside in
    let there = ap (λ ps. part_of ps c.args.lane.0) (sym c.deref.ensures.value) ∙ sym c.in-Some.ensures in
    left_writes i.files i.unlogged.items i.unlogged_bytes i.parts.items i.last c.keep_landed.new.last c.args.lane.0 c.in-Some.part (c.in-Some.part.left + c.args.count) c.self.invariant c.keep_landed.ensures there
    (of_part (λ (p : Part). p.left + c.args.count ≤ p.block.length) c.args.self.now i.parts.items c.args.lane.0 c.in-Some.part (ap (λ (w : PlainWriter). w.parts) c.self.view_is) there c.requires.written)
