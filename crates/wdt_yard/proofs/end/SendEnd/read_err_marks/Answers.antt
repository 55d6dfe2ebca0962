use Rattle.std.proofs.Common.{length, is_some, sym, ap, ◌∙◌}
use Rattle.wdt_claims.specs.LaneWords.{Claims}
use Rattle.wdt_sender_fsm.specs.PlainSender.{PlainSender, is_closed}
use Rattle.wdt_yard.proofs.Marks.{reader_still}
use Rattle.wdt_yard.proofs.end.SendEnd.read_err_marks.Goals as goal

pub next-requires-clause-still_open : goal.next-requires-clause-still_open
next-requires-clause-still_open c =
    ap (λ (s : PlainSender). is_closed s c.args.lane.0) c.close_all.ensures.plain
    ∙ ap (λ (s : Claims). is_some s.closed) (reader_still (length c.args.self.now.plain.lanes) c.prepare_next.new.self.plain.history c.args.lane c.items-marks.result.now (sym c.has_stranger.ensures ∙ c.if-has_stranger.false))
    ∙ ap (λ (s : PlainSender). is_closed s c.args.lane.0) c.in_ok-path.ensures.plain
    ∙ c.requires.still_open
