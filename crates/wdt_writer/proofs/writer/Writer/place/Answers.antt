use Rattle.std.proofs.Common.{◌≡◌, ℕ, ◌<◌, List, [], ◌∷◌, ◌++◌, length, map, Option, None, Ok, sym, ap, subst, ◌∙◌, arith}
use Rattle.wdt_units.specs.declared.blocks.Block.{Block}
use Rattle.wdt_logfmt.specs.declared.entry.LogEntry.TheVariants.{File}
use Rattle.wdt_logfmt.specs.Beginning.{KnownFile, begin_fault, block_of}
use Rattle.wdt_logfmt.specs.Marks.{marked_of}
use Rattle.wdt_files.specs.PlainFiles.{PlainFiles}
use Rattle.wdt_writer.specs.declared.landing.Last.{Last}
use Rattle.wdt_writer.specs.declared.parts.Part.{Part}
use Rattle.wdt_writer.specs.Kept.{IsWriting}
use Rattle.wdt_writer.specs.Calls.{CanMake, UsesDisk}
use Rattle.wdt_writer.specs.PlainWriter.{PlainWriter, begins, begun_on, blocks_of, lands, part_at, run_begin}
use Rattle.wdt_writer.proofs.Landed.{settled_writes}
use Rattle.wdt_writer.proofs.Placed.{placed_view, placed_writes}
use Rattle.wdt_writer.proofs.Started.{known_seen, no_fault}
use Rattle.wdt_writer.proofs.Using.{as_err, as_ok}
use Rattle.wdt_writer.proofs.writer.Writer.place.Goals as goal

pub returns-in_err-number-clause-disk : goal.returns-in_err-number-clause-disk
returns-in_err-number-clause-disk g c none =
    let i = c.self.inside in
    let h = c.args.header.now in
    let s0 = g.D.Depot.state c.args.depot.now in
    let s1 = g.D.Depot.state c.number_for.new.depot in
    let known = known_seen i.files c.settle.new.files i.pending.items i.unlogged.items i.parts.items i.last c.args.self.now c.in_ok-settle.ensures.laid c.self.view_is in
    subst (λ (k : List (Option KnownFile)). UsesDisk (CanMake k h) (begun_on k h) (run_begin k h) c.from_residual-in_err-number.result s0 s1) (sym known)
    (as_err (CanMake c.settle.new.files.known h) (begun_on c.settle.new.files.known h) (run_begin c.settle.new.files.known h) s0 s1 c.from_residual-in_err-number.result c.in_err-number.field-0.0 c.from_residual-in_err-number.ensures.1 c.in_err-number.ensures.disk)

pub returns-clause-disk : goal.returns-clause-disk
returns-clause-disk g c none =
    let i = c.self.inside in
    let h = c.args.header.now in
    let s0 = g.D.Depot.state c.args.depot.now in
    let s1 = g.D.Depot.state c.number_for.new.depot in
    let known = known_seen i.files c.settle.new.files i.pending.items i.unlogged.items i.parts.items i.last c.args.self.now c.in_ok-settle.ensures.laid c.self.view_is in
    let block : Block = record { file = c.in_ok-number.number; offset = h.offset; length = h.length } in
    subst (λ (k : List (Option KnownFile)). UsesDisk (CanMake k h) (begun_on k h) (run_begin k h) (Ok block) s0 s1) (sym known)
    (as_ok (CanMake c.settle.new.files.known h) (begun_on c.settle.new.files.known h) (run_begin c.settle.new.files.known h) s0 s1 c.in_ok-number.number block c.in_ok-number.ensures.disk)

pub invariant_of-self-2 : goal.invariant_of-self-2
invariant_of-self-2 g c =
    let i = c.self.inside in
    let h = c.args.header.now in
    let fresh = c.settle.new.files in
    let lane = subst (λ (w : PlainWriter). c.args.lane.0 < length w.parts) (sym c.self.view_is) c.requires.lane in
    let idle = subst (λ (w : PlainWriter). part_at w c.args.lane.0 ≡ None) (sym c.self.view_is) c.requires.idle in
    let fault = λ (ps : List (Option Part)). begin_fault fresh.known (map marked_of fresh.named) (blocks_of ps) h in
    let none = ap fault (sym c.deref.ensures.value) ∙ no_fault (fault c.deref.result.now) (sym c.fault.ensures ∙ c.in_default.is) in
    let block : Block = record { file = c.in_ok-number.number; offset = h.offset; length = h.length } in
    let block_is : block ≡ block_of fresh.known h = ap (λ (n : ℕ). record { file = n; offset = h.offset; length = h.length }) c.in_ok-number.ensures.number in
    let us_is = c.push_reserved-2.ensures.items ∙ (λ k. c.reserve-2.ensures.items k ++ block ∷ []) in
    let blocks_is : c.len-2.result ≡ length i.unlogged.items = omega (arith, i.unlogged.ok.0, c.len-2.ensures, c.reserve-2.ensures.len) in
    let now = settled_writes i.files fresh i.unlogged.items i.unlogged_bytes i.parts.items i.last c.self.invariant c.in_ok-settle.ensures.laid c.in_ok-settle.ensures.lawful in
    placed_writes i.files fresh c.number_for.new.files i.pending.items c.push_reserved.new.self.items i.unlogged.items c.push_reserved-2.new.self.items i.unlogged_bytes c.len.result c.len-2.result i.parts.items i.last h c.args.lane block
    c.in_ok-settle.ensures.laid c.in_ok-number.ensures.known lane idle c.requires.empty none block_is us_is blocks_is now c.requires.header c.in_ok-number.ensures.lawful

pub returns-clause-placed : goal.returns-clause-placed
returns-clause-placed g c =
    let i = c.self.inside in
    let h = c.args.header.now in
    let fresh = c.settle.new.files in
    let lane = subst (λ (w : PlainWriter). c.args.lane.0 < length w.parts) (sym c.self.view_is) c.requires.lane in
    let idle = subst (λ (w : PlainWriter). part_at w c.args.lane.0 ≡ None) (sym c.self.view_is) c.requires.idle in
    let fault = λ (ps : List (Option Part)). begin_fault fresh.known (map marked_of fresh.named) (blocks_of ps) h in
    let none = ap fault (sym c.deref.ensures.value) ∙ no_fault (fault c.deref.result.now) (sym c.fault.ensures ∙ c.in_default.is) in
    let block : Block = record { file = c.in_ok-number.number; offset = h.offset; length = h.length } in
    let block_is : block ≡ block_of fresh.known h = ap (λ (n : ℕ). record { file = n; offset = h.offset; length = h.length }) c.in_ok-number.ensures.number in
    let us_is = c.push_reserved-2.ensures.items ∙ (λ k. c.reserve-2.ensures.items k ++ block ∷ []) in
    let blocks_is : c.len-2.result ≡ length i.unlogged.items = omega (arith, i.unlogged.ok.0, c.len-2.ensures, c.reserve-2.ensures.len) in
    placed_view i.files fresh c.number_for.new.files i.pending.items c.push_reserved.new.self.items i.unlogged.items c.push_reserved-2.new.self.items i.unlogged_bytes c.len.result c.len-2.result i.parts.items i.last h c.args.lane block
    c.in_ok-settle.ensures.laid c.in_ok-number.ensures.known lane idle c.requires.empty none block_is us_is blocks_is
    (c.push_reserved.ensures.items ∙ (λ k. c.reserve.ensures.items k ++ File c.in_ok-number.number (c.in_ok-path.ensures k) h.size h.stamp ∷ [])) (omega (arith, i.pending.ok.0, c.len.ensures, c.reserve.ensures.len))
    ∙ ap (λ (w : PlainWriter). lands (begins w c.args.lane.0 h) c.args.lane.0 (block_of w.known h)) c.self.view_is

pub invariant_of-self-in_err-number : goal.invariant_of-self-in_err-number
invariant_of-self-in_err-number g c =
    let i = c.self.inside in
    let fresh = c.settle.new.files in
    let now = settled_writes i.files fresh i.unlogged.items i.unlogged_bytes i.parts.items i.last c.self.invariant c.in_ok-settle.ensures.laid c.in_ok-settle.ensures.lawful in
    subst (λ (fs : PlainFiles). IsWriting fs c.reserve-2.new.self.items i.unlogged_bytes i.parts.items c.settle.new.last) (sym c.in_err-number.ensures.unchanged)
    (subst (λ (us : List Block). IsWriting fresh us i.unlogged_bytes i.parts.items c.settle.new.last) (sym c.reserve-2.ensures.items)
    (subst (λ (o : Option Last). IsWriting fresh i.unlogged.items i.unlogged_bytes i.parts.items o) (sym c.in_ok-settle.ensures.last) now))
