use Rattle.std.proofs.Common.{sym, subst, arith}
use Rattle.wdt_sender_fsm.specs.Sender.{IsSender}
use Rattle.wdt_sender_fsm.specs.Writes.{IsLawful}
use Rattle.wdt_yard.specs.Inside.{IsYard}
use Rattle.wdt_yard.proofs.Limits.{begins_within}
use Rattle.wdt_yard.proofs.Refusals.{begins_diskless, begins_so}
use Rattle.wdt_yard.proofs.yard.Yard.open.Goals as goal

pub invariant_of-result : goal.invariant_of-result
invariant_of-result c =
    subst IsYard (sym c.in_ok-end.ensures) record {
      sender = c.senders_stay_senders.ensures.opens c.args.manifest c.args.block c.args.session c.args.lanes c.requires.some_lanes;
      lawful = begins_within c.args.manifest c.args.block c.args.session c.args.lanes c.requires.some_lanes c.requires.few_lanes c.requires.some_bytes c.requires.limit (omega arith) c.count-count.ensures.lawful;
      reason = begins_so c.args.manifest c.args.block c.args.session c.args.lanes;
      diskless = begins_diskless c.args.manifest c.args.block c.args.session c.args.lanes;
    }

pub returns-clause-lawful : goal.returns-clause-lawful
returns-clause-lawful c = subst IsSender (sym c.in_ok-end.ensures) (c.senders_stay_senders.ensures.opens c.args.manifest c.args.block c.args.session c.args.lanes c.requires.some_lanes)

pub returns-clause-limits : goal.returns-clause-limits
returns-clause-limits c =
    subst IsLawful (sym c.in_ok-end.ensures)
    (begins_within c.args.manifest c.args.block c.args.session c.args.lanes c.requires.some_lanes c.requires.few_lanes c.requires.some_bytes c.requires.limit (omega arith) c.count-count.ensures.lawful)
