use Rattle.wdt_wire.proofs.Arriving.{bytes-arrive, through}
use Rattle.wdt_wire.proofs.way.Way.write.Goals as goal

pub returns-clause-written : goal.returns-clause-written
returns-clause-written c =
    let it = c.self.inside in
    through c.add.result (bytes-arrive it.untaken c.args.bytes.now c.add.new.self it.owed c.arriving-count.result c.len.result it.room c.args.self.now c.self.view_is c.self.invariant c.len.ensures c.arriving-count.ensures) c.add.ensures.added
