use Rattle.wdt_world.proofs.Lining.{cut_shows}
use Rattle.wdt_world.proofs.lines.Lines.cut.Goals as goal

pub returns : goal.returns
returns c = λ p shows. cut_shows c.args.self.now c.cut_top.new.self p c.args.down c.args.up c.cut_top.ensures shows
