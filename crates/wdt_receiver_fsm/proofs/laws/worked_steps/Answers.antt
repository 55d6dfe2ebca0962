use Rattle.wdt_receiver_fsm.proofs.Worked.{makes, writes, finished, overlaps, differs, told, waited, parked}
use Rattle.wdt_receiver_fsm.proofs.laws.worked_steps.Goals as goal

pub returns-clause-makes : goal.returns-clause-makes
returns-clause-makes c = makes

pub returns-clause-writes : goal.returns-clause-writes
returns-clause-writes c = writes

pub returns-clause-finishes : goal.returns-clause-finishes
returns-clause-finishes c = finished

pub returns-clause-overlaps : goal.returns-clause-overlaps
returns-clause-overlaps c = overlaps

pub returns-clause-differs : goal.returns-clause-differs
returns-clause-differs c = differs

pub returns-clause-tells : goal.returns-clause-tells
returns-clause-tells c = told

pub returns-clause-waits : goal.returns-clause-waits
returns-clause-waits c = waited

pub returns-clause-parks : goal.returns-clause-parks
returns-clause-parks c = parked
