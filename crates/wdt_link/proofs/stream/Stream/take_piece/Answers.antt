use Rattle.std.proofs.Common.{◌≡◌, ℕ, ◌++◌, take, subst, vec_items, Global}
use Rattle.wdt_link.specs.Streams.{StreamView, traffic}
use Rattle.wdt_link.specs.Traffic.{Keeps, Receives}
use Rattle.wdt_link.proofs.Flow.{took_by}
use Rattle.wdt_link.proofs.stream.Stream.take_piece.Goals as goal

pub invariant_of-self : goal.invariant_of-self
invariant_of-self g c =
    let s = c.self.inside in (
      c.self.invariant.0,
      (took_by (vec_items {X = ℕ} {Z = Global}) (λ v. s.reader.untaken ≡ v.items ++ c.piece.new.self.untaken) s.reader c.piece.new.self (take s.waiting s.buffer.items) (g.W.ByteWire.told s.wire) c.piece.result (λ x p. p) c.piece.ensures.taken c.piece.ensures.unchanged c.self.invariant.1).1,
    )

pub returns-clause-told : goal.returns-clause-told
returns-clause-told g c =
    let s = c.self.inside in
    let P : StreamView → Type 0 = λ v. Keeps (Receives (vec_items {X = ℕ} {Z = Global}) c.piece.result) v.told (traffic (c.piece.new.self.untaken ++ take s.waiting s.buffer.items) (g.W.ByteWire.told s.wire)) in
    subst P c.self.view_is (took_by (vec_items {X = ℕ} {Z = Global}) (λ v. s.reader.untaken ≡ v.items ++ c.piece.new.self.untaken) s.reader c.piece.new.self (take s.waiting s.buffer.items) (g.W.ByteWire.told s.wire) c.piece.result (λ x p. p) c.piece.ensures.taken c.piece.ensures.unchanged c.self.invariant.1).0
