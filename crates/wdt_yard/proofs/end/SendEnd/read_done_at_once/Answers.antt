use Rattle.std.proofs.Common.{refl, sym, ap, ◌∙◌}
use Rattle.wdt_sender_fsm.specs.Rows.{DoneAtOnce}
use Rattle.wdt_sender_fsm.specs.Turn.{finished_at_once}
use Rattle.wdt_yard.proofs.Results.{if_ok}
use Rattle.wdt_yard.proofs.end.SendEnd.read_done_at_once.Goals as goal

pub returns-then-is_listed-clause-ok : goal.returns-then-is_listed-clause-ok
returns-then-is_listed-clause-ok c =
    if_ok c.read_done.result _ _ (λ act f. ap (finished_at_once c.args.self.now.plain c.args.lane) (sym c.is_listed.ensures ∙ c.if-is_listed.true) ∙ f DoneAtOnce refl) c.read_done.ensures.ok
