use Rattle.wdt_logfmt.proofs.Lawful.{batch-view}
use Rattle.wdt_logfmt.proofs.Reach.{means-torn, reaches-batch, reaches-header}
use Rattle.wdt_logfmt.proofs.laws.a_written_batch_is_read_again.Goals as goal

pub returns : goal.returns
returns c = record { header = reaches-header; leads = reaches-batch; means = means-torn; view = batch-view }
