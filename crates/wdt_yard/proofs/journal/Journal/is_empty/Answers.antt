use Rattle.std.proofs.Common.{◌≡◌, sym, ap, ◌∙◌}
use Rattle.wdt_yard.specs.Ledger.{Ledger}
use Rattle.wdt_sender_fsm.specs.Places.{least_of, queued}
use Rattle.wdt_sender_fsm.specs.PlainSender.{listed_blocks}
use Rattle.wdt_yard.proofs.Queues.{no_least}
use Rattle.wdt_yard.proofs.Readings.{queue_read}
use Rattle.wdt_yard.proofs.journal.Journal.is_empty.Goals as goal

waits : (c : goal.After-is_empty) → c.self.inside.queue.waiting ≡ queued c.args.self.now.lanes (listed_blocks c.args.self.now.planned) c.args.self.now.history
waits c = queue_read c.self.invariant ∙ ap (λ (j : Ledger). queued j.lanes (listed_blocks j.planned) j.history) c.self.view_is

pub returns : goal.returns
returns c = (λ yes. ap least_of (sym (waits c) ∙ c.is_empty.ensures.0 yes), λ none. c.is_empty.ensures.1 (waits c ∙ no_least _ none))
