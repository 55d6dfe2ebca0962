use Rattle.std.proofs.Common.{◌∙◌, ◌≡◌, min, ◌-◌, length, arith}
use Rattle.wdt_depot.proofs.Overlay.{over_none, over_within}
use Rattle.wdt_depot.proofs.memory.bytes.put_within.Goals as goal

pub returns-then-offset-len : goal.returns-then-offset-len
returns-then-offset-len c = over_none c.args.bytes.now.items c.args.piece.now c.args.offset (omega (arith, c.args.bytes.now.ok.0))

pub returns : goal.returns
returns c =
    let count : c.min-count.result ≡ min (length c.args.piece.now) (length c.args.bytes.now.items - c.args.offset) = omega (arith, c.args.bytes.now.ok.0) in
    c.put_over.ensures.items ∙ over_within c.args.bytes.now.items c.args.piece.now c.args.offset c.min-count.result (omega (arith, c.args.bytes.now.ok.0)) count
