use Rattle.std.proofs.Common.{arith}
use Rattle.wdt_codec.specs.declared.stop.Stop.TheVariants.{NotYet, Bad}
use Rattle.wdt_codec.specs.Frames.{frame_at}
use Rattle.wdt_codec.proofs.Field.{AreBytes-from_index}
use Rattle.wdt_codec.proofs.Exact.{frame-exact}
use Rattle.wdt_codec.proofs.Verdict.{stopped_short, stopped_bad, front-found, bad-found, bad-is, no-frame, same-frame, not-front, not-bad-front, place-short}
use Rattle.wdt_codec.proofs.reading.read_on.Goals as goal

pub overflow_sub-result : goal.overflow_sub-result
overflow_sub-result c =
    let e = stopped_bad c.in-Err-Bad.field-0 c.in-Err-Bad.left (frame_at c.args.bytes.now) c.in-Err-Bad.field-0-is c.in-Err-Bad.ensures.reads in
    (bad-found c.args.bytes.now c.in-Err-Bad.left (AreBytes-from_index c.args.bytes.now (λ i. omega (arith, c.type_inv.bytes i))) e).0

pub overflow_cast-result : goal.overflow_cast-result
overflow_cast-result c =
    let e = stopped_bad c.in-Err-Bad.field-0 c.in-Err-Bad.left (frame_at c.args.bytes.now) c.in-Err-Bad.field-0-is c.in-Err-Bad.ensures.reads in
    omega (arith, place-short c.args.bytes.now _ (bad-found c.args.bytes.now c.in-Err-Bad.left (AreBytes-from_index c.args.bytes.now (λ i. omega (arith, c.type_inv.bytes i))) e).1)

pub returns-in-Err-Bad-clause-reason : goal.returns-in-Err-Bad-clause-reason
returns-in-Err-Bad-clause-reason c =
    let e = stopped_bad c.in-Err-Bad.field-0 c.in-Err-Bad.left (frame_at c.args.bytes.now) c.in-Err-Bad.field-0-is c.in-Err-Bad.ensures.reads in
    (bad-found c.args.bytes.now c.in-Err-Bad.left (AreBytes-from_index c.args.bytes.now (λ i. omega (arith, c.type_inv.bytes i))) e).1

pub returns-in-Err-Bad-clause-frame : goal.returns-in-Err-Bad-clause-frame
returns-in-Err-Bad-clause-frame c =
    let e = stopped_bad c.in-Err-Bad.field-0 c.in-Err-Bad.left (frame_at c.args.bytes.now) c.in-Err-Bad.field-0-is c.in-Err-Bad.ensures.reads in
    λ f rest h. no-frame c.args.bytes.now f rest (Bad c.in-Err-Bad.left) h e

pub returns-in-Err-Bad-clause-not_yet : goal.returns-in-Err-Bad-clause-not_yet
returns-in-Err-Bad-clause-not_yet c =
    let e = stopped_bad c.in-Err-Bad.field-0 c.in-Err-Bad.left (frame_at c.args.bytes.now) c.in-Err-Bad.field-0-is c.in-Err-Bad.ensures.reads in
    λ h. not-bad-front c.args.bytes.now c.in-Err-Bad.left (AreBytes-from_index c.args.bytes.now (λ i. omega (arith, c.type_inv.bytes i))) h e

pub returns-in-Err-Bad-clause-bad : goal.returns-in-Err-Bad-clause-bad
returns-in-Err-Bad-clause-bad c =
    let e = stopped_bad c.in-Err-Bad.field-0 c.in-Err-Bad.left (frame_at c.args.bytes.now) c.in-Err-Bad.field-0-is c.in-Err-Bad.ensures.reads in
    λ i h. bad-is c.args.bytes.now i (AreBytes-from_index c.args.bytes.now (λ i. omega (arith, c.type_inv.bytes i))) h _ e

pub returns-in-Err-NotYet-clause-reason : goal.returns-in-Err-NotYet-clause-reason
returns-in-Err-NotYet-clause-reason c =
    let e = stopped_short c.in-Err-NotYet.field-0 (frame_at c.args.bytes.now) c.in-Err-NotYet.field-0-is c.in-Err-NotYet.ensures.reads in
    front-found c.args.bytes.now (AreBytes-from_index c.args.bytes.now (λ i. omega (arith, c.type_inv.bytes i))) e

pub returns-in-Err-NotYet-clause-frame : goal.returns-in-Err-NotYet-clause-frame
returns-in-Err-NotYet-clause-frame c =
    let e = stopped_short c.in-Err-NotYet.field-0 (frame_at c.args.bytes.now) c.in-Err-NotYet.field-0-is c.in-Err-NotYet.ensures.reads in
    λ f rest h. no-frame c.args.bytes.now f rest NotYet h e

pub returns-in-Err-NotYet-clause-bad : goal.returns-in-Err-NotYet-clause-bad
returns-in-Err-NotYet-clause-bad c =
    let e = stopped_short c.in-Err-NotYet.field-0 (frame_at c.args.bytes.now) c.in-Err-NotYet.field-0-is c.in-Err-NotYet.ensures.reads in
    λ i h. bad-is c.args.bytes.now i (AreBytes-from_index c.args.bytes.now (λ i. omega (arith, c.type_inv.bytes i))) h _ e

pub returns-in-Ok-clause-found : goal.returns-in-Ok-clause-found
returns-in-Ok-clause-found c = frame-exact.got c.args.bytes.now _ _ (AreBytes-from_index c.args.bytes.now (λ i. omega (arith, c.type_inv.bytes i))) c.in-Ok.ensures.reads

pub returns-in-Ok-clause-frame : goal.returns-in-Ok-clause-frame
returns-in-Ok-clause-frame c = λ f rest h. same-frame c.args.bytes.now f _ rest _ h c.in-Ok.ensures.reads

pub returns-in-Ok-clause-not_yet : goal.returns-in-Ok-clause-not_yet
returns-in-Ok-clause-not_yet c = λ h. not-front c.args.bytes.now _ (AreBytes-from_index c.args.bytes.now (λ i. omega (arith, c.type_inv.bytes i))) h c.in-Ok.ensures.reads

pub returns-in-Ok-clause-bad : goal.returns-in-Ok-clause-bad
returns-in-Ok-clause-bad c = λ i h. bad-is c.args.bytes.now i (AreBytes-from_index c.args.bytes.now (λ i. omega (arith, c.type_inv.bytes i))) h _ c.in-Ok.ensures.reads
