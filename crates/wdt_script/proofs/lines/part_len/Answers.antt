use Rattle.std.proofs.Common.{◌==◌}
use Rattle.wdt_script.proofs.Places.{place-found, place-none}
use Rattle.wdt_script.proofs.lines.part_len.Goals as goal

pub returns-in-Some-clause-value : goal.returns-in-Some-clause-value
returns-in-Some-clause-value c = place-found (λ b. b == c.args.end) c.args.bytes.now c.in-Some.at c.in-Some.ensures

pub returns-in-None-clause-value : goal.returns-in-None-clause-value
returns-in-None-clause-value c = place-none (λ b. b == c.args.end) c.args.bytes.now c.in-None.ensures
