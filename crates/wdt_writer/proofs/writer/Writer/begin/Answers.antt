use Rattle.std.proofs.Common.{◌≡◌, ℕ, ◌<◌, List, length, map, Option, None, Ok, Err, sym, ap, subst, ◌∙◌}
use Rattle.wdt_units.specs.declared.blocks.Block.{Block}
use Rattle.wdt_logfmt.specs.Beginning.{BeginFault, KnownFile, begin_fault}
use Rattle.wdt_logfmt.specs.Marks.{marked_of}
use Rattle.wdt_writer.specs.declared.parts.Part.{Part}
use Rattle.wdt_writer.specs.Answers.{IsAnswered}
use Rattle.wdt_writer.specs.Calls.{CanMake, UsesDisk}
use Rattle.wdt_writer.specs.PlainWriter.{PlainWriter, begun_on, blocks_of, part_at, run_begin, whole}
use Rattle.wdt_writer.proofs.Landed.{settled_writes}
use Rattle.wdt_writer.proofs.Started.{begun_writes, fault_seen, known_seen, no_fault, refused_as}
use Rattle.wdt_writer.proofs.Using.{as_err, as_ok}
use Rattle.wdt_writer.proofs.writer.Writer.begin.Goals as goal

pub returns-in-Some-clause-refused : goal.returns-in-Some-clause-refused
returns-in-Some-clause-refused g c =
    let i = c.self.inside in
    let h = c.args.header.now in
    let files = c.settle.new.files in
    let fault = begin_fault files.known (map marked_of files.named) (blocks_of c.deref.result.now) h in
    let same = fault_seen i.files files i.pending.items i.unlogged.items i.parts.items c.deref.result.now i.last c.args.self.now h c.in_ok-settle.ensures.laid c.self.view_is c.deref.ensures.value in
    subst (λ (o : Option BeginFault). IsAnswered {T = Block} o (Err c.in-Some.fail)) (sym same) (refused_as Block fault c.in-Some.fail c.in-Some.ensures)

pub returns-in_err-number-clause-disk : goal.returns-in_err-number-clause-disk
returns-in_err-number-clause-disk g c none =
    let i = c.self.inside in
    let h = c.args.header.now in
    let s0 = g.D.Depot.state c.args.depot.now in
    let s1 = g.D.Depot.state c.number_for.new.depot in
    let known = known_seen i.files c.settle.new.files i.pending.items i.unlogged.items i.parts.items i.last c.args.self.now c.in_ok-settle.ensures.laid c.self.view_is in
    subst (λ (k : List (Option KnownFile)). UsesDisk (CanMake k h) (begun_on k h) (run_begin k h) c.from_residual-in_err-number.result s0 s1) (sym known)
    (as_err (CanMake c.settle.new.files.known h) (begun_on c.settle.new.files.known h) (run_begin c.settle.new.files.known h) s0 s1 c.from_residual-in_err-number.result c.in_err-number.field-0.0 c.from_residual-in_err-number.ensures.1 c.in_err-number.ensures.disk)

pub returns-clause-disk : goal.returns-clause-disk
returns-clause-disk g c none =
    let i = c.self.inside in
    let h = c.args.header.now in
    let s0 = g.D.Depot.state c.args.depot.now in
    let s1 = g.D.Depot.state c.number_for.new.depot in
    let known = known_seen i.files c.settle.new.files i.pending.items i.unlogged.items i.parts.items i.last c.args.self.now c.in_ok-settle.ensures.laid c.self.view_is in
    let block : Block = record { file = c.in_ok-number.number; offset = h.offset; length = h.length } in
    subst (λ (k : List (Option KnownFile)). UsesDisk (CanMake k h) (begun_on k h) (run_begin k h) (Ok block) s0 s1) (sym known)
    (as_ok (CanMake c.settle.new.files.known h) (begun_on c.settle.new.files.known h) (run_begin c.settle.new.files.known h) s0 s1 c.in_ok-number.number block c.in_ok-number.ensures.disk)

pub invariant_of-self-2 : goal.invariant_of-self-2
invariant_of-self-2 g c =
    let i = c.self.inside in
    let h = c.args.header.now in
    let files = c.settle.new.files in
    let now = settled_writes i.files files i.unlogged.items i.unlogged_bytes i.parts.items i.last c.self.invariant c.in_ok-settle.ensures.laid c.in_ok-settle.ensures.lawful in
    let lane = subst (λ (w : PlainWriter). c.args.lane.0 < length w.parts) (sym c.self.view_is) c.requires.lane in
    let idle = subst (λ (w : PlainWriter). part_at w c.args.lane.0 ≡ None) (sym c.self.view_is) c.requires.idle in
    let fault = λ (ps : List (Option Part)). begin_fault files.known (map marked_of files.named) (blocks_of ps) h in
    let none = ap fault (sym c.deref.ensures.value) ∙ no_fault (fault c.deref.result.now) (sym c.fault.ensures ∙ c.in_default.is) in
    begun_writes files c.number_for.new.files i.unlogged.items i.unlogged_bytes i.parts.items c.settle.new.last h c.args.lane.0 c.whole.result now c.requires.header lane idle none c.in_ok-number.ensures.known c.in_ok-number.ensures.lawful
    c.in_ok-settle.ensures.last (c.whole.ensures ∙ ap (λ (n : ℕ). whole (record { file = n; offset = h.offset; length = h.length })) c.in_ok-number.ensures.number)
