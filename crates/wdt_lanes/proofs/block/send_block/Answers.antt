use Rattle.std.proofs.Common.{◌≡◌, ◌-◌, length, Option, Result, subst, arith}
use Rattle.wdt_link.specs.Saying.{PlainSaid, spelled}
use Rattle.wdt_link.specs.Traffic.{Traffic, Tells, Sends}
use Rattle.wdt_lanes.proofs.Sending.{nothing_sent, lost_at_head, starved_at_head, lost_behind, starved_behind, block_sent}
use Rattle.wdt_lanes.proofs.block.send_block.Goals as goal

pub returns-in_default-clause-told : goal.returns-in_default-clause-told
returns-in_default-clause-told g c = nothing_sent c.args.header (g.L.Link.told c.args.link.now)

pub returns-in-Err-NoMemory-clause-told : goal.returns-in-Err-NoMemory-clause-told
returns-in-Err-NoMemory-clause-told g c = nothing_sent c.args.header (g.L.Link.told c.args.link.now)

sent_as : {T E : Type 0} (r : Result T E) (a b : Option Traffic) (s s' : PlainSaid) → s ≡ s' → Tells (Sends r (spelled s)) a b → Tells (Sends r (spelled s')) a b
sent_as r a b s s' e t = let P : PlainSaid → Type 0 = λ x. Tells (Sends r (spelled x)) a b in subst P e t

pub returns-in-Err-Failed-send-clause-told : goal.returns-in-Err-Failed-send-clause-told
returns-in-Err-Failed-send-clause-told g c = lost_at_head _ c.args.header _ _ (sent_as _ _ _ _ _ c.frame.ensures c.in-Err-Failed-send.ensures.told)

pub returns-in-Err-NoMemory-send-clause-told : goal.returns-in-Err-NoMemory-send-clause-told
returns-in-Err-NoMemory-send-clause-told g c = starved_at_head _ c.args.header _ _ (sent_as _ _ _ _ _ c.frame.ensures c.in-Err-NoMemory-send.ensures.told)

pub returns-in-Err-Failed-send_piece-clause-told : goal.returns-in-Err-Failed-send_piece-clause-told
returns-in-Err-Failed-send_piece-clause-told g c =
    lost_behind _ c.in-Err-Failed-send_piece.field-0 c.args.header (length c.read_piece.new.piece.items) _ _ _ (omega (arith, c.in-Ok-read_piece.ensures.counted)) (sent_as _ _ _ _ _ c.frame.ensures c.in-Ok-send.ensures.told) c.in-Err-Failed-send_piece.ensures.told

pub returns-in-Err-NoMemory-send_piece-clause-told : goal.returns-in-Err-NoMemory-send_piece-clause-told
returns-in-Err-NoMemory-send_piece-clause-told g c =
    starved_behind _ c.in-Err-NoMemory-send_piece.field-0 c.args.header (length c.read_piece.new.piece.items) _ _ _ (omega (arith, c.in-Ok-read_piece.ensures.counted)) (sent_as _ _ _ _ _ c.frame.ensures c.in-Ok-send.ensures.told) c.in-Err-NoMemory-send_piece.ensures.told

pub returns-clause-told : goal.returns-clause-told
returns-clause-told g c =
    block_sent _ _ c.args.header c.send_rest.result (length c.read_piece.new.piece.items) (c.args.header.length - c.min-first.result) _ _ _ _ c.send_rest.ensures.answers (omega (arith, c.in-Ok-read_piece.ensures.counted)) (sent_as _ _ _ _ _ c.frame.ensures c.in-Ok-send.ensures.told) c.in-Ok-send_piece.ensures.told c.send_rest.ensures.told
