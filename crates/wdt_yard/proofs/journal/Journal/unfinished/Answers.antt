use Rattle.std.proofs.Common.{◌+◌, List, length, ap, ◌∙◌, arith}
use Rattle.wdt_yard.specs.Ledger.{Ledger}
use Rattle.std.specs.Prelude.{vec_items}
use Rattle.std.specs.Option.{option_map}
use Rattle.std.proofs.lemmas.List.Sums.{count_by-le-length}
use Rattle.wdt_units.specs.declared.blocks.Block.{Block}
use Rattle.wdt_claims.specs.Claimed.{is_held}
use Rattle.wdt_sender_fsm.specs.Places.{holding, queued, unfinished}
use Rattle.wdt_sender_fsm.specs.PlainSender.{listed_blocks}
use Rattle.wdt_yard.proofs.Readings.{queue_read, lanes_within}
use Rattle.wdt_yard.proofs.journal.Journal.unfinished.Goals as goal

pub overflow_add-result : goal.overflow_add-result
overflow_add-result c =
    omega (arith, c.len.ensures.limit, c.holding.ensures, count_by-le-length is_held c.self.inside.claims.lanes, lanes_within c.self.invariant, c.self.invariant.few)

pub returns : goal.returns
returns c =
    ap (λ n. n + c.holding.result) (c.len.ensures.count ∙ ap (λ (xs : List Block). length xs) (queue_read c.self.invariant))
    ∙ ap (λ n. length (queued (length c.self.inside.tallies.items) (listed_blocks (option_map vec_items c.self.inside.planned)) c.self.inside.events.items) + n) (c.holding.ensures ∙ ap holding c.self.invariant.claims)
    ∙ ap (λ (j : Ledger). unfinished j.lanes (listed_blocks j.planned) j.history) c.self.view_is
