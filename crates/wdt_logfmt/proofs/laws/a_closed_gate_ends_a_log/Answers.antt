use Rattle.wdt_logfmt.proofs.Lawful.{means-view, named-free}
use Rattle.wdt_logfmt.proofs.Prefix.{ends}
use Rattle.wdt_logfmt.proofs.Reach.{means-closed}
use Rattle.wdt_logfmt.proofs.laws.a_closed_gate_ends_a_log.Goals as goal

pub returns : goal.returns
returns c = record { unread = means-closed; ends = ends; view = means-view; lawful = λ files path view named. let p = named-free files path view named in (p.lawful, p.free) }
