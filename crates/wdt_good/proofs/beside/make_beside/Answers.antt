use Rattle.wdt_good.proofs.Calling.{make_rests, make_since}
use Rattle.wdt_good.proofs.beside.make_beside.Goals as goal

pub returns-clause-images : goal.returns-clause-images
returns-clause-images g c version T fs end log fit none =
    make_since version fs end c.args.path.now c.make.result T (g.D.Depot.state c.args.depot.now).told (g.D.Depot.state c.make.new.self).told (g.met.D.Depot.sound c.args.depot.now) c.requires.other none log fit c.make.ensures.step

pub returns-clause-log : goal.returns-clause-log
returns-clause-log g c version fs end log =
    make_rests version fs end c.args.path.now c.make.result (g.D.Depot.state c.args.depot.now).told (g.D.Depot.state c.make.new.self).told c.requires.other c.make.ensures.step log
