use Rattle.wdt_receiver_fsm.proofs.Keeps.{kept_none}
use Rattle.wdt_receiver_fsm.proofs.notes.Notes.of.Goals as goal

pub invariant_of-result : goal.invariant_of-result
invariant_of-result c = rw (c.of.ensures, c.new.ensures.items) (kept_none c.args.lanes c.requires)
