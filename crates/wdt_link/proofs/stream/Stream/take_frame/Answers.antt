use Rattle.std.proofs.Common.{ℕ, List, ◌++◌, take, Option, Some, None, Result, Ok, Err, subst}
use Rattle.std.specs.Prelude.{IfErr}
use Rattle.wdt_codec.specs.declared.frames.Frame.{Frame}
use Rattle.wdt_codec.specs.declared.fails.NextFail.{NextFail}
use Rattle.wdt_codec.specs.declared.fails.NextFail.TheVariants as nexts
use Rattle.wdt_codec.specs.Frames.{spell}
use Rattle.wdt_codec.specs.Grammar.{IsFrame, IsReason}
use Rattle.wdt_link.specs.Reasons.{IsBadNext}
use Rattle.wdt_link.specs.Streams.{StreamView, traffic}
use Rattle.wdt_link.specs.Traffic.{Keeps, Receives}
use Rattle.wdt_link.specs.Wires.{Cable}
use Rattle.wdt_link.proofs.Flow.{took_by, bad_in}
use Rattle.wdt_link.proofs.stream.Stream.take_frame.Goals as goal

pub invariant_of-self : goal.invariant_of-self
invariant_of-self g c =
    let s = c.self.inside in (
      c.self.invariant.0,
      (took_by spell (λ f. IsFrame s.reader.untaken f c.next.new.self.untaken) s.reader c.next.new.self (take s.waiting s.buffer.items) (g.W.ByteWire.told s.wire) c.next.result (λ x p. p.1) c.next.ensures.found c.next.ensures.unchanged c.self.invariant.1).1,
    )

pub returns-clause-told : goal.returns-clause-told
returns-clause-told g c =
    let s = c.self.inside in
    let P : StreamView → Type 0 = λ v. Keeps (Receives spell c.next.result) v.told (traffic (c.next.new.self.untaken ++ take s.waiting s.buffer.items) (g.W.ByteWire.told s.wire)) in
    subst P c.self.view_is (took_by spell (λ f. IsFrame s.reader.untaken f c.next.new.self.untaken) s.reader c.next.new.self (take s.waiting s.buffer.items) (g.W.ByteWire.told s.wire) c.next.result (λ x p. p.1) c.next.ensures.found c.next.ensures.unchanged c.self.invariant.1).0

bad_by : (untaken waiting : List ℕ) (told : Option Cable) (result : Result Frame NextFail) → IfErr result (λ e. IsReason untaken e) → IfErr result (λ e. IsBadNext e (traffic (untaken ++ waiting) told))
bad_by untaken waiting told (Ok f) h = tt
bad_by untaken waiting told (Err nexts.NoMemory) h = tt
bad_by untaken waiting told (Err nexts.NotYet) h = tt
bad_by untaken waiting None (Err (nexts.Bad at)) h = tt
bad_by untaken waiting (Some c) (Err (nexts.Bad at)) h = bad_in untaken waiting c.left at h

pub returns-clause-bad : goal.returns-clause-bad
returns-clause-bad g c =
    let s = c.self.inside in
    let P : StreamView → Type 0 = λ v. IfErr c.next.result (λ e. IsBadNext e v.told) in
    subst P c.self.view_is (bad_by s.reader.untaken (take s.waiting s.buffer.items) (g.W.ByteWire.told s.wire) c.next.result c.next.ensures.reason)
