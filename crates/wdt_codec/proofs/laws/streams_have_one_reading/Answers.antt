use Rattle.wdt_codec.proofs.Readings.{one-frame, one-stream}
use Rattle.wdt_codec.proofs.laws.streams_have_one_reading.Goals as goal

pub returns-clause-frame : goal.returns-clause-frame
returns-clause-frame c = one-frame

pub returns-clause-stream : goal.returns-clause-stream
returns-clause-stream c = one-stream
