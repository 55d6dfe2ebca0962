use Rattle.wdt_pact.proofs.Blocks.{block_keeps}
use Rattle.wdt_pact.proofs.Claims.{claim_keeps}
use Rattle.wdt_pact.proofs.Failing.{source_keeps}
use Rattle.wdt_pact.proofs.Rows.{done_keeps}
use Rattle.wdt_pact.proofs.Sent.{next_keeps}
use Rattle.wdt_pact.proofs.Sending.{emptied_keeps, wait_keeps}
use Rattle.wdt_pact.proofs.laws.a_lane_sends_its_blocks.Goals as goal

pub returns-clause-claims : goal.returns-clause-claims
returns-clause-claims c = claim_keeps c.senders_stay_senders.ensures.steps

pub returns-clause-writes : goal.returns-clause-writes
returns-clause-writes c = block_keeps

pub returns-clause-fails : goal.returns-clause-fails
returns-clause-fails c = source_keeps c.senders_stay_senders.ensures.steps

pub returns-clause-empties : goal.returns-clause-empties
returns-clause-empties c = emptied_keeps c.senders_stay_senders.ensures.steps

pub returns-clause-concludes : goal.returns-clause-concludes
returns-clause-concludes c = done_keeps c.senders_stay_senders.ensures.steps

pub returns-clause-waits : goal.returns-clause-waits
returns-clause-waits c = wait_keeps c.senders_stay_senders.ensures.steps

pub returns-clause-next : goal.returns-clause-next
returns-clause-next c = next_keeps c.senders_stay_senders.ensures.steps
