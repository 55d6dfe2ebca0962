use Rattle.wdt_sending.proofs.Unopened.{unopened}
use Rattle.wdt_sending.proofs.sending.send_since.Goals as goal

pub returns-in-Err : goal.returns-in-Err
returns-in-Err g c =
    unopened g.S.Source.told g.S.Source.faults g.S.Source.slips g.C.Dial.faults g.C.Dial.alarms g.C.Dial.out g.C.Dial.mark g.N.Run.told g.B.Begin.begun c.args.sources.items c.args.dialers.items
    c.new.result.items c.new.ensures.items c.requires.over.home
