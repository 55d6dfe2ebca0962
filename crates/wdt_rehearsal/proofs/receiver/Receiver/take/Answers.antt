use Rattle.std.proofs.Common.{◌≡◌, ◌++◌, List, ℕ, Err, ap, ◌∙◌, arith}
use Rattle.std.proofs.lemmas.Grind.{common_steps}
use Rattle.wdt_codec.specs.Stream.{Held}
use Rattle.wdt_rehearsal.specs.Received.{nothing_held, progress}
use Rattle.wdt_rehearsal.specs.declared.receiver.TakeFail.{TakeFail}
use Rattle.wdt_rehearsal.proofs.Receiving.{leaves-step, took-step, took-end, took-bad}
use Rattle.wdt_rehearsal.proofs.receiver.Receiver.take.Goals as goal

-- the bytes that were fed are all that the reader has
all-fed : (old new : Held) (bytes fed : List ℕ) → new.untaken ≡ old.untaken ++ bytes → old ≡ nothing_held → bytes ≡ fed → new.untaken ≡ fed
all-fed old new bytes fed is nothing spelled = is ∙ ap (λ (h : Held). h.untaken ++ bytes) nothing ∙ spelled

pub loop-frame-preserved : goal.loop-frame-preserved
loop-frame-preserved c = record {
  none = ap (λ (h : Held). h.owed) c.in_ok-step-in-Ok.ensures.left;
  left = λ ms are spelled. leaves-step ms _ (progress c.loop-frame.self) (progress c.step.new.self) c.loop-frame.self.reader.untaken c.next.new.self.untaken c.step.new.self.reader.untaken c.in-Ok.frame _
      (c.loop-frame.invariant.left ms are spelled) c.in-Ok.ensures.found c.in-Ok.ensures.frame c.in_ok-step-in-Ok.ensures.stepped (ap (λ (h : Held). h.untaken) c.in_ok-step-in-Ok.ensures.left);
}

pub returns-in_err-step-in-Ok : goal.returns-in_err-step-in-Ok
returns-in_err-step-in-Ok c =
    let fail : TakeFail = c.in_err-step-in-Ok.field-0.0 in
    let same : c.from_residual-in_err-step-in-Ok.result ≡ Err fail = grind (arith, common_steps) in
    record {
      took = λ ms are nothing spelled. rw same (took-step ms _ (progress c.loop-frame.self) (progress c.step.new.self) c.loop-frame.self.reader.untaken c.next.new.self.untaken c.in-Ok.frame fail _
          (c.loop-frame.invariant.left ms are (all-fed _ c.feed.new.self _ _ c.in_ok-feed.ensures.fed nothing spelled)) c.in-Ok.ensures.found c.in-Ok.ensures.frame c.in_err-step-in-Ok.ensures.stepped);
    }

pub returns-in-Err-NotYet : goal.returns-in-Err-NotYet
returns-in-Err-NotYet c = record {
  took = λ ms are nothing spelled. took-end ms _ c.loop-frame.self.reader.untaken c.next.new.self.untaken c.in-Err-NotYet.field-0 _ _ c.in-Err-NotYet.field-0-is
      (c.loop-frame.invariant.left ms are (all-fed _ c.feed.new.self _ _ c.in_ok-feed.ensures.fed nothing spelled)) c.in-Err-NotYet.ensures.frame
      (ap (λ (h : Held). h.untaken) c.in-Err-NotYet.ensures.unchanged) (ap (λ (h : Held). h.owed) c.in-Err-NotYet.ensures.unchanged ∙ c.loop-frame.invariant.none);
}

pub returns-in-Err-Bad : goal.returns-in-Err-Bad
returns-in-Err-Bad c = record {
  took = λ ms are nothing spelled. took-bad ms _ (progress c.loop-frame.self) c.loop-frame.self.reader.untaken c.next.new.self.untaken c.in-Err-Bad.field-0 c.in-Err-Bad.field-0-0 _ c.in-Err-Bad.field-0-is
      (c.loop-frame.invariant.left ms are (all-fed _ c.feed.new.self _ _ c.in_ok-feed.ensures.fed nothing spelled)) c.in-Err-Bad.ensures.frame c.in-Err-Bad.ensures.reason;
}
