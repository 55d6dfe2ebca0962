use Rattle.std.proofs.Common.{false, List, length, sym, ap, ◌∙◌, subst, refl}
use Rattle.wdt_yard.specs.declared.tally.Tally.{Tally}
use Rattle.std.specs.Prelude.{[]}
use Rattle.wdt_claims.specs.Blocks.{AreDistinct, count_of}
use Rattle.wdt_claims.proofs.Shared.{rising_distinct}
use Rattle.wdt_history.specs.Slots.{Book}
use Rattle.wdt_sender_fsm.specs.declared.events.SendEvent.{SendEvent}
use Rattle.wdt_yard.specs.Kept.{IsKept}
use Rattle.wdt_yard.specs.Tallies.{no_tally}
use Rattle.wdt_yard.proofs.Starts.{starts_kept}
use Rattle.std.proofs.lemmas.List.{length-replicate}
use Rattle.wdt_yard.proofs.journal.Journal.new.Goals as goal

pub of-requires-clause-distinct : goal.of-requires-clause-distinct
of-requires-clause-distinct c = subst AreDistinct (sym c.new.ensures.items) (rising_distinct _ refl)

pub invariant_of-result : goal.invariant_of-result
invariant_of-result c =
    subst (λ (h : List SendEvent). IsKept c.in_ok-tallies.tallies.items [] c.in_ok-queue.queue c.in_ok-claims.claims.lanes false h) (sym c.new-2.ensures.items)
    (starts_kept c.args.lanes c.in_ok-tallies.tallies.items c.in_ok-queue.queue c.in_ok-claims.claims.lanes c.requires c.in_ok-tallies.ensures (ap (λ (b : Book). b.lanes) c.in_ok-claims.ensures) c.in_ok-queue.ensures.rising
    (λ b. c.in_ok-queue.ensures.blocks b ∙ ap (count_of b) c.new.ensures.items) c.in_ok-queue.ensures.room)

pub returns-clause-lanes : goal.returns-clause-lanes
returns-clause-lanes c = ap (λ (xs : List Tally). length xs) c.in_ok-tallies.ensures ∙ length-replicate c.args.lanes no_tally
