use Rattle.std.proofs.Common.{ℕ, ◌-◌, length, Ok, sym, ap, ◌∙◌, arith}
use Rattle.wdt_depot.specs.Disk.{wrote}
use Rattle.wdt_good.specs.Calls.{run_piece}
use Rattle.wdt_logfmt.specs.Batches.{path_at}
use Rattle.wdt_writer.specs.Calls.{CanWrite, UsesDisk}
use Rattle.wdt_writer.specs.PlainWriter.{part_of}
use Rattle.wdt_writer.proofs.Keeping.{left_writes}
use Rattle.wdt_writer.proofs.Landed.{begun_part}
use Rattle.wdt_writer.proofs.OnParts.{part_below}
use Rattle.wdt_writer.proofs.Started.{at_part}
use Rattle.wdt_writer.proofs.Using.{as_err, as_ok}
use Rattle.wdt_writer.proofs.writer.Writer.piece.Goals as goal

pub place_of-requires-clause-left : goal.place_of-requires-clause-left
place_of-requires-clause-left g c =
    let i = c.self.inside in
    let there = ap (λ ps. part_of ps c.args.lane.0) (sym c.deref.ensures.value) ∙ sym c.in-Some.ensures in
    (begun_part i.files i.unlogged.items i.unlogged_bytes i.parts.items i.last c.args.lane.0 c.in-Some.part c.self.invariant there).left

pub place_of-requires-clause-within : goal.place_of-requires-clause-within
place_of-requires-clause-within g c =
    let i = c.self.inside in
    let there = ap (λ ps. part_of ps c.args.lane.0) (sym c.deref.ensures.value) ∙ sym c.in-Some.ensures in
    (begun_part i.files i.unlogged.items i.unlogged_bytes i.parts.items i.last c.args.lane.0 c.in-Some.part c.self.invariant there).within

pub write_to-requires-clause-known : goal.write_to-requires-clause-known
write_to-requires-clause-known g c =
    let i = c.self.inside in
    let there = ap (λ ps. part_of ps c.args.lane.0) (sym c.deref.ensures.value) ∙ sym c.in-Some.ensures in
    (begun_part i.files i.unlogged.items i.unlogged_bytes i.parts.items i.last c.args.lane.0 c.in-Some.part c.self.invariant there).known_as

pub write_to-requires-clause-place : goal.write_to-requires-clause-place
write_to-requires-clause-place g c =
    let i = c.self.inside in
    let there = ap (λ ps. part_of ps c.args.lane.0) (sym c.deref.ensures.value) ∙ sym c.in-Some.ensures in
    let begun = (begun_part i.files i.unlogged.items i.unlogged_bytes i.parts.items i.last c.args.lane.0 c.in-Some.part c.self.invariant there) in
    omega (arith, c.place_of.ensures, begun.ends, begun.left)

pub index_mut-requires : goal.index_mut-requires
index_mut-requires g c =
    let i = c.self.inside in
    let there = ap (λ ps. part_of ps c.args.lane.0) (sym c.deref.ensures.value) ∙ sym c.in-Some.ensures in
    omega (arith, part_below i.parts.items c.args.lane.0 c.in-Some.part there)

pub returns-in_err-write_to-clause-disk : goal.returns-in_err-write_to-clause-disk
returns-in_err-write_to-clause-disk g c =
    let i = c.self.inside in
    let there = ap (λ ps. part_of ps c.args.lane.0) (sym c.deref.ensures.value) ∙ sym c.in-Some.ensures in
    let s0 = g.D.Depot.state c.args.depot.now in
    let s1 = g.D.Depot.state c.write_to.new.depot in
    let bytes = c.args.bytes.now in
    at_part i.files i.pending.items i.unlogged.items i.parts.items i.last c.args.self.now c.args.lane.0 c.in-Some.part c.self.view_is there (λ path place. UsesDisk (CanWrite path place (length bytes)) (wrote path place bytes) (run_piece path place bytes) c.from_residual.result s0 s1)
    c.place_of.result c.place_of.ensures
    (as_err (CanWrite (path_at i.files.known c.in-Some.part.block.file) c.place_of.result (length bytes)) (wrote (path_at i.files.known c.in-Some.part.block.file) c.place_of.result bytes) (run_piece (path_at i.files.known c.in-Some.part.block.file) c.place_of.result bytes) s0 s1
    c.from_residual.result c.in_err-write_to.field-0.0 c.from_residual.ensures.1 c.in_err-write_to.ensures.disk)

pub returns-clause-disk : goal.returns-clause-disk
returns-clause-disk g c =
    let i = c.self.inside in
    let there = ap (λ ps. part_of ps c.args.lane.0) (sym c.deref.ensures.value) ∙ sym c.in-Some.ensures in
    let s0 = g.D.Depot.state c.args.depot.now in
    let s1 = g.D.Depot.state c.write_to.new.depot in
    let bytes = c.args.bytes.now in
    let left : ℕ = c.in-Some.part.left - length bytes in
    at_part i.files i.pending.items i.unlogged.items i.parts.items i.last c.args.self.now c.args.lane.0 c.in-Some.part c.self.view_is there (λ path place. UsesDisk (CanWrite path place (length bytes)) (wrote path place bytes) (run_piece path place bytes) (Ok left) s0 s1)
    c.place_of.result c.place_of.ensures
    (as_ok (CanWrite (path_at i.files.known c.in-Some.part.block.file) c.place_of.result (length bytes)) (wrote (path_at i.files.known c.in-Some.part.block.file) c.place_of.result bytes) (run_piece (path_at i.files.known c.in-Some.part.block.file) c.place_of.result bytes) s0 s1
    c.in_ok-write_to.field-0 left c.in_ok-write_to.ensures.disk)

pub invariant_of-self : goal.invariant_of-self
invariant_of-self g c =
    let i = c.self.inside in
    let there = ap (λ ps. part_of ps c.args.lane.0) (sym c.deref.ensures.value) ∙ sym c.in-Some.ensures in
    let begun = begun_part i.files i.unlogged.items i.unlogged_bytes i.parts.items i.last c.args.lane.0 c.in-Some.part c.self.invariant there in
    left_writes i.files i.unlogged.items i.unlogged_bytes i.parts.items i.last c.keep_landed.new.last c.args.lane.0 c.in-Some.part (c.in-Some.part.left - length c.args.bytes.now) c.self.invariant c.keep_landed.ensures there (omega (arith, begun.left))
