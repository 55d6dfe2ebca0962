use Rattle.std.proofs.Common.{◌≡◌, ◌∷◌, [], ◌++◌, sym, ap, ◌∙◌, arith}
use Rattle.wdt_writer.specs.declared.parts.Part.{Part}
use Rattle.wdt_writer.specs.PlainWriter.{PlainWriter, begun_at, lands, part_of}
use Rattle.wdt_writer.proofs.Keeping.{of_part}
use Rattle.wdt_writer.proofs.Landed.{can_lay, landed_kept, landed_view, settled_writes}
use Rattle.wdt_writer.proofs.OnParts.{part_below}
use Rattle.wdt_writer.proofs.writer.Writer.land.Goals as goal

pub append_entries-requires : goal.append_entries-requires
append_entries-requires c =
    let i = c.self.inside in
    let there = ap (λ ps. part_of ps c.args.lane.0) (sym c.deref.ensures.value) ∙ sym c.in-Some.ensures in
    let none = of_part (λ (p : Part). p.left ≡ 0) c.args.self.now i.parts.items c.args.lane.0 c.in-Some.part (ap (λ (w : PlainWriter). w.parts) c.self.view_is) there c.requires.whole in
    let now = settled_writes i.files c.settle.new.files i.unlogged.items i.unlogged_bytes i.parts.items i.last c.self.invariant c.in_ok-settle.ensures.laid c.in_ok-settle.ensures.lawful in
    record { known = (can_lay c.settle.new.files i.unlogged.items i.unlogged_bytes i.parts.items now c.args.lane c.in-Some.part there none).known }

pub index_mut-requires : goal.index_mut-requires
index_mut-requires c =
    let i = c.self.inside in
    let there = ap (λ ps. part_of ps c.args.lane.0) (sym c.deref.ensures.value) ∙ sym c.in-Some.ensures in
    omega (arith, part_below i.parts.items c.args.lane.0 c.in-Some.part there)

pub invariant_of-self-2 : goal.invariant_of-self-2
invariant_of-self-2 c =
    let i = c.self.inside in
    let there = ap (λ ps. part_of ps c.args.lane.0) (sym c.deref.ensures.value) ∙ sym c.in-Some.ensures in
    let none = of_part (λ (p : Part). p.left ≡ 0) c.args.self.now i.parts.items c.args.lane.0 c.in-Some.part (ap (λ (w : PlainWriter). w.parts) c.self.view_is) there c.requires.whole in
    let now = settled_writes i.files c.settle.new.files i.unlogged.items i.unlogged_bytes i.parts.items i.last c.self.invariant c.in_ok-settle.ensures.laid c.in_ok-settle.ensures.lawful in
    landed_kept c.settle.new.files i.unlogged.items c.push_reserved.new.self.items i.unlogged_bytes c.from.result c.len-entries.result c.len.result i.parts.items c.args.lane c.in-Some.part now there none
    (c.push_reserved.ensures.items ∙ (λ k. c.reserve.ensures.items k ++ c.in-Some.part.block ∷ [])) c.from.ensures (omega (arith, i.unlogged.ok.0, c.len.ensures, c.reserve.ensures.len))

pub returns-clause-landed : goal.returns-clause-landed
returns-clause-landed c =
    let i = c.self.inside in
    let there = ap (λ ps. part_of ps c.args.lane.0) (sym c.deref.ensures.value) ∙ sym c.in-Some.ensures in
    let none = of_part (λ (p : Part). p.left ≡ 0) c.args.self.now i.parts.items c.args.lane.0 c.in-Some.part (ap (λ (w : PlainWriter). w.parts) c.self.view_is) there c.requires.whole in
    landed_view i.files c.settle.new.files i.pending.items c.append_entries.new.pending.items i.unlogged.items c.push_reserved.new.self.items i.parts.items i.last c.args.lane c.in-Some.part c.len-entries.result c.len.result i.unlogged_bytes
    c.in_ok-settle.ensures.laid there none c.in_ok-append_entries.ensures.entries (c.push_reserved.ensures.items ∙ (λ k. c.reserve.ensures.items k ++ c.in-Some.part.block ∷ []))
    (omega (arith, i.pending.ok.0, c.len-entries.ensures)) (omega (arith, i.unlogged.ok.0, c.len.ensures, c.reserve.ensures.len)) ∙ ap (λ (w : PlainWriter). lands w c.args.lane.0 (begun_at w c.args.lane.0).block) c.self.view_is
