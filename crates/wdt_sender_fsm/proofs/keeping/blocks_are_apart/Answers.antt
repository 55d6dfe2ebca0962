use Rattle.wdt_sender_fsm.proofs.lemmas.KeptApart.{kept_planned, kept_once, kept_by_one}
use Rattle.wdt_sender_fsm.proofs.lemmas.Apart.{positions_apart, empties_apart}
use Rattle.wdt_sender_fsm.proofs.keeping.blocks_are_apart.Goals as goal

pub returns-clause-positions : goal.returns-clause-positions
returns-clause-positions c = positions_apart

pub returns-clause-empties : goal.returns-clause-empties
returns-clause-empties c = empties_apart

pub returns-clause-planned : goal.returns-clause-planned
returns-clause-planned c = kept_planned

pub returns-clause-once : goal.returns-clause-once
returns-clause-once c = kept_once

pub returns-clause-by_one : goal.returns-clause-by_one
returns-clause-by_one c = kept_by_one
