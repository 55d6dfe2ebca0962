use Rattle.std.proofs.Common.{◌≡◌, sym, ap, ◌∙◌, subst}
use Rattle.wdt_log.specs.OpenLog.{OpenLog}
use Rattle.wdt_receiver_fsm.specs.Logging.{log_after}
use Rattle.wdt_receiver_fsm.specs.Turn.{Step, drops}
use Rattle.wdt_writer.specs.PlainWriter.{PlainWriter}
use Rattle.wdt_dock.specs.Desk.{books_of, plain_of}
use Rattle.wdt_dock.specs.DockView.{HasLostDisk}
use Rattle.wdt_dock.proofs.Parting.{Drops, desk_dropped, drops_all, good_dropped, lost_on}
use Rattle.wdt_dock.proofs.dropping.lose_connection.Goals as goal

dropped : (c : goal.After-drop_part) (log : OpenLog) → drops (plain_of c.args.end.now log c.args.writer.now) c.args.lane ≡ (c.in_ok-act.act, plain_of c.dropped.new.self log c.drop_part.new.self)
dropped c log = c.in_ok-act.ensures.ok (books_of log c.args.writer.now) ∙ ap (λ (w : PlainWriter). let y : Step = (c.in_ok-act.act, plain_of c.dropped.new.self log w) in y) (sym c.drop_part.ensures)

pub returns-clause-ok : goal.returns-clause-ok
returns-clause-ok c = λ log. dropped c log

pub returns-clause-desk : goal.returns-clause-desk
returns-clause-desk c = λ log desk.
    desk_dropped c.args.end.now c.dropped.new.self log c.args.writer.now c.drop_part.new.self c.args.lane.0 desk c.drop_part.ensures
    (subst (λ (y : Step). Drops (plain_of c.args.end.now log c.args.writer.now) y.1 c.args.lane.0) (dropped c log) (drops_all (plain_of c.args.end.now log c.args.writer.now) c.args.lane c.requires.lane))

pub returns-clause-good : goal.returns-clause-good
returns-clause-good c = λ T log d good.
    let r = plain_of c.args.end.now log c.args.writer.now in
    let t = plain_of c.dropped.new.self log c.drop_part.new.self in
    good_dropped T r t d c.args.lane.0 (subst (λ (y : Step). Drops r y.1 c.args.lane.0) (dropped c log) (drops_all r c.args.lane c.requires.lane))
    (ap (λ (w : PlainWriter). w.known) c.drop_part.ensures) (ap (λ (w : PlainWriter). (log_after (plain_of c.dropped.new.self log w)).files) c.drop_part.ensures)
    (λ lost. subst (λ (y : Step). HasLostDisk y.1.answer) (dropped c log) (lost_on r c.args.lane lost)) good
