use Rattle.std.proofs.Common.{Option, ℕ, is_some, ap, ◌∙◌}
use Rattle.wdt_sender_fsm.specs.PlainSender.{PlainSender, is_closed}
use Rattle.wdt_yard.specs.End.{EndView}
use Rattle.wdt_yard.proofs.Ends.{closed_sent}
use Rattle.wdt_yard.proofs.end.SendEnd.block_written.Goals as goal

pub next-requires-clause-still_open : goal.next-requires-clause-still_open
next-requires-clause-still_open c =
    ap (λ (v : EndView). is_closed v.plain c.args.lane.0) c.sent-2.ensures.noted
    ∙ ap (λ (o : Option ℕ). is_some o) (closed_sent c.prepare_next.new.self.plain.history c.args.lane c.args.lane.0)
    ∙ ap (λ (s : PlainSender). is_closed s c.args.lane.0) c.in_ok-path.ensures.plain
    ∙ c.requires.still_open
