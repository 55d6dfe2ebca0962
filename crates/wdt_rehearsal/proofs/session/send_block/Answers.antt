use Rattle.std.proofs.Common.{◌∙◌, ◌++◌, List, ℕ, Err, ap, subst}
use Rattle.wdt_codec.specs.declared.frames.Frame.{Frame}
use Rattle.wdt_codec.specs.declared.frames.Frame.TheVariants as frames
use Rattle.wdt_codec.specs.Frames.{Fits, spell}
use Rattle.wdt_rehearsal.specs.declared.receiver.TakeFail.{TakeFail}
use Rattle.wdt_rehearsal.specs.Received.{Took, progress, after_frame}
use Rattle.wdt_rehearsal.specs.Sending.{header_at}
use Rattle.wdt_rehearsal.proofs.Messages.{block-taken, block-sent, took-expected}
use Rattle.wdt_rehearsal.proofs.session.send_block.Goals as goal

pub unreachable-requires : goal.unreachable-requires
unreachable-requires g c =
    let entry = c.args.entry.now in
    let h = header_at entry c.args.offset c.args.count in
    let s = progress c.args.receiver.now in
    let named = c.block_frame-frame.ensures.frame ∙ ap (λ (p : List ℕ). frames.Block (header_at (record { path = p; size = entry.size; stamp = entry.stamp }) c.args.offset c.args.count)) c.in_ok-copy.ensures in
    let spelled = c.in_ok-encode.ensures.spelled ∙ ap (λ (f : Frame). c.if-len-ge-KEEP.wire.items ++ spell f) named in
    let adds = c.in_ok-read_block.ensures.appended in
    let took = block-taken (g.S.Source.told c.args.source.now) h s c.if-len-ge-KEEP.wire.items c.encode.new.into.items c.read_block.new.into.items c.deref.result.now c.len-start.result _ c.take.new.self (subst Fits named c.block_frame-frame.ensures.fits)
    (c.len-start.ensures ∙ c.if-len-ge-KEEP.wire.ok.0) spelled adds c.deref.ensures.value (λ ms are is. c.in-Err-Unexpected.ensures.took ms are c.requires.idle is) in
    took-expected (after_frame s.stage s.landed (frames.Block h) adds.bytes) c.take.new.self (c.requires.may_come adds.bytes adds.long)
    (subst (λ (f : TakeFail). Took (after_frame s.stage s.landed (frames.Block h) adds.bytes) (Err f) c.take.new.self) c.in-Err-Unexpected.field-0-is took)

pub returns-in-Ok-clause-sent : goal.returns-in-Ok-clause-sent
returns-in-Ok-clause-sent g c =
    let entry = c.args.entry.now in
    let h = header_at entry c.args.offset c.args.count in
    let s = progress c.args.receiver.now in
    let named = c.block_frame-frame.ensures.frame ∙ ap (λ (p : List ℕ). frames.Block (header_at (record { path = p; size = entry.size; stamp = entry.stamp }) c.args.offset c.args.count)) c.in_ok-copy.ensures in
    let spelled = c.in_ok-encode.ensures.spelled ∙ ap (λ (f : Frame). c.if-len-ge-KEEP.wire.items ++ spell f) named in
    let adds = c.in_ok-read_block.ensures.appended in
    let took = block-taken (g.S.Source.told c.args.source.now) h s c.if-len-ge-KEEP.wire.items c.encode.new.into.items c.read_block.new.into.items c.deref.result.now c.len-start.result _ c.take.new.self (subst Fits named c.block_frame-frame.ensures.fits)
    (c.len-start.ensures ∙ c.if-len-ge-KEEP.wire.ok.0) spelled adds c.deref.ensures.value (λ ms are is. c.in-Ok.ensures.took ms are c.requires.idle is) in
    (block-sent (g.S.Source.told c.args.source.now) h s c.encode.new.into.items c.read_block.new.into.items _ c.take.new.self adds took).0

pub returns-in-Ok-clause-idle : goal.returns-in-Ok-clause-idle
returns-in-Ok-clause-idle g c =
    let entry = c.args.entry.now in
    let h = header_at entry c.args.offset c.args.count in
    let s = progress c.args.receiver.now in
    let named = c.block_frame-frame.ensures.frame ∙ ap (λ (p : List ℕ). frames.Block (header_at (record { path = p; size = entry.size; stamp = entry.stamp }) c.args.offset c.args.count)) c.in_ok-copy.ensures in
    let spelled = c.in_ok-encode.ensures.spelled ∙ ap (λ (f : Frame). c.if-len-ge-KEEP.wire.items ++ spell f) named in
    let adds = c.in_ok-read_block.ensures.appended in
    let took = block-taken (g.S.Source.told c.args.source.now) h s c.if-len-ge-KEEP.wire.items c.encode.new.into.items c.read_block.new.into.items c.deref.result.now c.len-start.result _ c.take.new.self (subst Fits named c.block_frame-frame.ensures.fits)
    (c.len-start.ensures ∙ c.if-len-ge-KEEP.wire.ok.0) spelled adds c.deref.ensures.value (λ ms are is. c.in-Ok.ensures.took ms are c.requires.idle is) in
    (block-sent (g.S.Source.told c.args.source.now) h s c.encode.new.into.items c.read_block.new.into.items _ c.take.new.self adds took).1
