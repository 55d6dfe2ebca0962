use Rattle.std.proofs.Common.{◌≡◌, ◌∙◌, ◌++◌, List, ℕ, [], Err, sym, ap, subst}
use Rattle.std.proofs.lemmas.List.{append-nil}
use Rattle.wdt_codec.specs.Frames.{spell}
use Rattle.wdt_codec.specs.Stream.{Message, IsMessage}
use Rattle.wdt_rehearsal.specs.declared.receiver.TakeFail.{TakeFail}
use Rattle.wdt_rehearsal.specs.Received.{Took, progress, after_frame}
use Rattle.wdt_rehearsal.proofs.Messages.{took-ok, took-expected, taken}
use Rattle.wdt_rehearsal.proofs.session.say.Goals as goal

bare : (old new front : List ℕ) → new ≡ old ++ front → new ≡ old ++ (front ++ [])
bare old new front e = e ∙ ap (λ x. old ++ x) (sym (append-nil front))

pub unreachable-requires : goal.unreachable-requires
unreachable-requires c =
    let m : Message = record { frame = c.args.frame.now; raw = [] } in
    let message : IsMessage m = record { fits = c.requires.fits; whole = sym c.requires.bare } in
    let s = progress c.args.receiver.now in
    let h = taken m s c.if-len-ge-KEEP.wire.items c.encode.new.into.items c.deref.result.now c.len-start.result _ c.take.new.self message (c.len-start.ensures ∙ c.if-len-ge-KEEP.wire.ok.0)
    (bare _ _ (spell c.args.frame.now) c.in_ok-encode.ensures.spelled) c.deref.ensures.value (λ ms are is. c.in-Err-Unexpected.ensures.took ms are c.requires.idle is) in
    took-expected (after_frame s.stage s.landed c.args.frame.now []) c.take.new.self c.requires.may_come
    (subst (λ (f : TakeFail). Took (after_frame s.stage s.landed c.args.frame.now []) (Err f) c.take.new.self) c.in-Err-Unexpected.field-0-is h)

pub returns-in-Ok-clause-took : goal.returns-in-Ok-clause-took
returns-in-Ok-clause-took c =
    let m : Message = record { frame = c.args.frame.now; raw = [] } in
    let message : IsMessage m = record { fits = c.requires.fits; whole = sym c.requires.bare } in
    let s = progress c.args.receiver.now in
    let h = taken m s c.if-len-ge-KEEP.wire.items c.encode.new.into.items c.deref.result.now c.len-start.result _ c.take.new.self message (c.len-start.ensures ∙ c.if-len-ge-KEEP.wire.ok.0)
    (bare _ _ (spell c.args.frame.now) c.in_ok-encode.ensures.spelled) c.deref.ensures.value (λ ms are is. c.in-Ok.ensures.took ms are c.requires.idle is) in
    (took-ok (after_frame s.stage s.landed c.args.frame.now []) _ c.take.new.self h).0

pub returns-in-Ok-clause-idle : goal.returns-in-Ok-clause-idle
returns-in-Ok-clause-idle c =
    let m : Message = record { frame = c.args.frame.now; raw = [] } in
    let message : IsMessage m = record { fits = c.requires.fits; whole = sym c.requires.bare } in
    let s = progress c.args.receiver.now in
    let h = taken m s c.if-len-ge-KEEP.wire.items c.encode.new.into.items c.deref.result.now c.len-start.result _ c.take.new.self message (c.len-start.ensures ∙ c.if-len-ge-KEEP.wire.ok.0)
    (bare _ _ (spell c.args.frame.now) c.in_ok-encode.ensures.spelled) c.deref.ensures.value (λ ms are is. c.in-Ok.ensures.took ms are c.requires.idle is) in
    (took-ok (after_frame s.stage s.landed c.args.frame.now []) _ c.take.new.self h).1
