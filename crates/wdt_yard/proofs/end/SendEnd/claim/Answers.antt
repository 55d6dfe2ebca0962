use Rattle.std.proofs.Common.{◌<◌, length, subst, IfSome}
use Rattle.wdt_units.specs.declared.blocks.Block.{Block}
use Rattle.wdt_sender_fsm.specs.PlainSender.{listed_blocks}
use Rattle.wdt_yard.specs.End.{EndView}
use Rattle.wdt_yard.proofs.Ends.{end_claimed_by, least_file}
use Rattle.wdt_yard.proofs.end.SendEnd.claim.Goals as goal

pub invariant_of-self : goal.invariant_of-self
invariant_of-self c = end_claimed_by c.args.lane c.claim.result c.claim.new.self c.claim.ensures.noted c.self.invariant

pub returns-clause-file : goal.returns-clause-file
returns-clause-file c =
    subst (λ (v : EndView). IfSome c.claim.result (λ (b : Block). b.file < length v.plain.manifest)) c.self.view_is
    (least_file (length c.self.inside.manifest) c.self.inside.journal.lanes (listed_blocks c.self.inside.journal.planned) c.self.inside.journal.history c.claim.result c.claim.ensures.least c.self.invariant.files)
