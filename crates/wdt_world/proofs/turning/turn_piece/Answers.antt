use Rattle.std.proofs.Common.{sym, ◌∙◌}
use Rattle.wdt_units.specs.Counts.{Rises}
use Rattle.wdt_receiver_fsm.specs.Turn.{take_plan}
use Rattle.wdt_world.proofs.Plans.{bytes_alike, ends_by}
use Rattle.wdt_world.proofs.turning.turn_piece.Goals as goal

pub returns-clause-turned : goal.returns-clause-turned
returns-clause-turned g c = λ p here shows.
    let e = ends_by (Rises (g.D.Depot.state c.args.dock.now.depot).faults (g.D.Depot.state c.piece.new.self.depot).faults) (take_plan c.args.dock.now.plain c.args.lane c.args.bytes.now) (c.in_ok-act.act, c.piece.new.self.plain) c.in_ok-act.ensures.turns in
    record { broken = e.broken; cause = e.cause; step = sym (bytes_alike c.args.dock.now.plain c.args.lane c.args.bytes.now e.broken) ∙ e.at; shows = c.leave_if.ensures p here shows }
