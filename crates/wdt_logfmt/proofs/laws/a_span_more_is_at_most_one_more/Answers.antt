use Rattle.wdt_logfmt.proofs.Landing.{length-beside}
use Rattle.wdt_logfmt.proofs.Spans.{length-with_span, total-with_span}
use Rattle.wdt_logfmt.proofs.laws.a_span_more_is_at_most_one_more.Goals as goal

pub returns : goal.returns
returns c = record { one = length-with_span; beside = length-beside 0; bytes = total-with_span }
