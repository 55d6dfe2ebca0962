use Rattle.std.proofs.Common.{◌≡◌, ◌∙◌, List, get_or, Option, IfSome, subst, arith}
use Rattle.wdt_units.specs.Tree.{File}
use Rattle.wdt_units.specs.declared.blocks.Block.{Block}
use Rattle.wdt_rehearsal.specs.Sending.{Sends, header_at}
use Rattle.wdt_rehearsal.specs.Received.{progress}
use Rattle.wdt_rehearsal.proofs.Follows.{next-follows}
use Rattle.wdt_rehearsal.proofs.Fronts.{may-next, front-next}
use Rattle.wdt_rehearsal.proofs.Pieces.{stood}
use Rattle.wdt_rehearsal.proofs.session.send_file.Goals as goal

pub send_block-requires-in-loop-block-clause-may_come : goal.send_block-requires-in-loop-block-clause-may_come
send_block-requires-in-loop-block-clause-may_come g c =
    let d : Block = record { file = 0; offset = 0; length = 0 } in
    let block = get_or c.in-Some.others.now c.loop-block.block-index d in
    let follows = next-follows c.in-Some.others.now c.loop-block.block-index c.loop-block.offset c.args.entry.now.size d c.loop-block-test.true c.loop-block.invariant.follow in
    let some = follows.1 in
    let within = follows.3 in
    λ bytes long.
    may-next (g.S.Source.told c.args.source.now) c.args.entry.now (progress c.args.receiver.now) (progress c.loop-block.receiver) c.loop-block.offset block.length bytes c.loop-block.invariant.front c.requires.room
    (c.loop-block.invariant.begun (omega arith)) within

pub loop-block-preserved : goal.loop-block-preserved
loop-block-preserved g c =
    let told = g.S.Source.told c.args.source.now in
    let entry = c.args.entry.now in
    let d : Block = record { file = 0; offset = 0; length = 0 } in
    let block = get_or c.in-Some.others.now c.loop-block.block-index d in
    let follows = next-follows c.in-Some.others.now c.loop-block.block-index c.loop-block.offset entry.size d c.loop-block-test.true c.loop-block.invariant.follow in
    let some = follows.1 in
    let within = follows.3 in
    let sent = c.in_ok-send_block-2.ensures in
    record {
      begun = λ size. omega arith;
      follow = follows.4;
      idle = sent.idle;
      front = front-next told entry (progress c.args.receiver.now) (progress c.loop-block.receiver) (progress c.send_block-in-loop-block.new.receiver) c.loop-block.offset block.length c.loop-block.invariant.front c.requires.room
          (c.loop-block.invariant.begun (omega arith)) within
          (subst (λ (t : Option (List File)). Sends t (header_at entry c.loop-block.offset block.length) (progress c.loop-block.receiver) (progress c.send_block-in-loop-block.new.receiver)) c.loop-block.invariant.told sent.sent);
      told = sent.told ∙ c.loop-block.invariant.told;
      faults = omega (arith, sent.cause.later);
      slips = stood told _ _ _ c.loop-block.invariant.slips
          (subst (λ (t : Option (List File)). IfSome t (λ files. g.S.Source.slips c.send_block-in-loop-block.new.source ≡ g.S.Source.slips c.loop-block.source)) c.loop-block.invariant.told sent.slips);
    }
