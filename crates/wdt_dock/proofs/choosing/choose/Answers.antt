use Rattle.std.proofs.Common.{List, sym, ap, ◌∙◌, subst}
use Rattle.wdt_depot.specs.Programs.{drive_of}
use Rattle.wdt_receiver_fsm.specs.declared.events.RecvEvent.{RecvEvent}
use Rattle.wdt_receiver_fsm.specs.Plan.{Plan}
use Rattle.wdt_receiver_fsm.specs.PlainReceiver.{PlainReceiver}
use Rattle.wdt_receiver_fsm.specs.Ready.{is_closed}
use Rattle.wdt_receiver_fsm.specs.Turn.{Step}
use Rattle.wdt_dock.specs.Desk.{books_of, plain_of}
use Rattle.wdt_dock.specs.DockView.{TurnRan, Turns}
use Rattle.wdt_dock.proofs.Choices.{desk_after}
use Rattle.wdt_dock.proofs.Finishing.{idled_entries}
use Rattle.wdt_dock.proofs.Goodness.{told_stays}
use Rattle.wdt_dock.proofs.Keeping.{not_lost}
use Rattle.wdt_dock.proofs.Waiting.{counts_same, done_kept, done_ran, done_sound, done_turns, idled_closed, plan_finish, same_behind, tells_kept, tells_ran, tells_sound, tells_turns}
use Rattle.std.proofs.Common.{refl}
use Rattle.wdt_dock.specs.Sparing.{IsBeside}
use Rattle.wdt_dock.proofs.Sparing.{spares_same}
use Rattle.wdt_dock.proofs.choosing.choose.Goals as goal

pub returns-then-has_finish-clause-turns : goal.returns-then-has_finish-clause-turns
returns-then-has_finish-clause-turns g c =
    let books = books_of c.args.log.now c.args.writer.now in
    done_turns c.args.end.now c.args.log.now c.args.writer.now c.args.way c.args.lane c.requires.lane c.be_idle.new.self c.say_done.new.self c.say_done.result (c.be_idle.ensures.plain books) (sym c.has_finish.ensures ∙ c.if-has_finish.true) (c.say_done.ensures books) _

pub returns-then-has_finish-clause-exact : goal.returns-then-has_finish-clause-exact
returns-then-has_finish-clause-exact g c = λ quiet.
    let books = books_of c.args.log.now c.args.writer.now in
    done_ran c.args.end.now c.args.log.now c.args.writer.now c.args.way c.args.lane c.requires.lane c.be_idle.new.self c.say_done.new.self c.say_done.result (c.be_idle.ensures.plain books) (sym c.has_finish.ensures ∙ c.if-has_finish.true) (c.say_done.ensures books)
    (drive_of (g.D.Depot.state c.args.depot.now))

pub returns-then-has_finish-clause-desk : goal.returns-then-has_finish-clause-desk
returns-then-has_finish-clause-desk g c =
    let log = c.args.log.now in
    let w = c.args.writer.now in
    let books = books_of log w in
    desk_after c.args.end.now c.say_done.new.self log log w w c.requires.desk c.requires.desk.books refl
    (done_kept c.args.end.now log w c.args.way c.args.lane c.requires.lane c.be_idle.new.self c.say_done.new.self c.say_done.result (c.be_idle.ensures.plain books) (sym c.has_finish.ensures ∙ c.if-has_finish.true) (c.say_done.ensures books))

pub returns-then-has_finish-clause-good : goal.returns-then-has_finish-clause-good
returns-then-has_finish-clause-good g c = λ T good.
    let e = c.args.end.now in
    let log = c.args.log.now in
    let w = c.args.writer.now in
    let books = books_of log w in
    told_stays T (plain_of e log w) (plain_of c.say_done.new.self log w) (g.D.Depot.state c.args.depot.now).told
    (done_kept e log w c.args.way c.args.lane c.requires.lane c.be_idle.new.self c.say_done.new.self c.say_done.result (c.be_idle.ensures.plain books) (sym c.has_finish.ensures ∙ c.if-has_finish.true) (c.say_done.ensures books))
    refl (same_behind e c.say_done.new.self log w c.requires.desk.books) (not_lost e.answer c.requires.sound) good

pub returns-then-has_finish-clause-counts : goal.returns-then-has_finish-clause-counts
returns-then-has_finish-clause-counts g c =
    let log = c.args.log.now in
    let w = c.args.writer.now in
    let books = books_of log w in
    counts_same _ (g.D.Depot.state c.args.depot.now)
    (λ lost. done_sound c.args.end.now log w c.args.way c.args.lane c.requires.lane c.be_idle.new.self c.say_done.new.self c.say_done.result (c.be_idle.ensures.plain books) (sym c.has_finish.ensures ∙ c.if-has_finish.true) (c.say_done.ensures books) lost.0 lost.1)

pub returns-then-is_ready_by-clause-turns : goal.returns-then-is_ready_by-clause-turns
returns-then-is_ready_by-clause-turns g c =
    subst (λ (p : Plan Step). Turns p c.finish.result (plain_of c.finish.new.end c.finish.new.log c.finish.new.writer) (g.D.Depot.state c.args.depot.now) (g.D.Depot.state c.finish.new.depot))
    (sym (plan_finish c.args.end.now c.args.log.now c.args.writer.now c.args.way c.args.lane c.requires.lane (sym c.has_finish.ensures ∙ c.if-has_finish.false) (sym c.is_ready_by.ensures ∙ c.if-is_ready_by.true))) c.finish.ensures.turns

pub returns-then-is_ready_by-clause-exact : goal.returns-then-is_ready_by-clause-exact
returns-then-is_ready_by-clause-exact g c =
    subst (λ (p : Plan Step). TurnRan p c.finish.result (plain_of c.finish.new.end c.finish.new.log c.finish.new.writer) (g.D.Depot.state c.args.depot.now) (g.D.Depot.state c.finish.new.depot))
    (sym (plan_finish c.args.end.now c.args.log.now c.args.writer.now c.args.way c.args.lane c.requires.lane (sym c.has_finish.ensures ∙ c.if-has_finish.false) (sym c.is_ready_by.ensures ∙ c.if-is_ready_by.true))) c.finish.ensures.exact

pub tell_or_wait-requires-clause-still_open : goal.tell_or_wait-requires-clause-still_open
tell_or_wait-requires-clause-still_open g c =
    let log = c.args.log.now in
    let w = c.args.writer.now in
    let e = c.args.end.now in
    ap (λ (h : List RecvEvent). is_closed h c.args.lane.0) (sym (ap (λ (t : PlainReceiver). t.history) (c.be_idle-2.ensures.plain (books_of log w))) ∙ idled_entries c.args.way (plain_of e log w) c.args.lane)
    ∙ idled_closed c.args.way e.history c.args.lane c.args.lane.0 ∙ c.requires.still_open

pub returns-clause-turns : goal.returns-clause-turns
returns-clause-turns g c =
    let books = books_of c.args.log.now c.args.writer.now in
    tells_turns c.args.end.now c.args.log.now c.args.writer.now c.args.way c.args.lane c.requires.lane c.be_idle-2.new.self c.tell_or_wait.new.self c.tell_or_wait.result (c.be_idle-2.ensures.plain books) (sym c.has_finish.ensures ∙ c.if-has_finish.false) (sym c.is_ready_by.ensures ∙ c.if-is_ready_by.false)
    (c.tell_or_wait.ensures books) _

pub returns-clause-exact : goal.returns-clause-exact
returns-clause-exact g c = λ quiet.
    let books = books_of c.args.log.now c.args.writer.now in
    tells_ran c.args.end.now c.args.log.now c.args.writer.now c.args.way c.args.lane c.requires.lane c.be_idle-2.new.self c.tell_or_wait.new.self c.tell_or_wait.result (c.be_idle-2.ensures.plain books) (sym c.has_finish.ensures ∙ c.if-has_finish.false) (sym c.is_ready_by.ensures ∙ c.if-is_ready_by.false)
    (c.tell_or_wait.ensures books) (drive_of (g.D.Depot.state c.args.depot.now))

pub returns-clause-desk : goal.returns-clause-desk
returns-clause-desk g c =
    let log = c.args.log.now in
    let w = c.args.writer.now in
    let books = books_of log w in
    desk_after c.args.end.now c.tell_or_wait.new.self log log w w c.requires.desk c.requires.desk.books refl
    (tells_kept c.args.end.now log w c.args.way c.args.lane c.requires.lane c.be_idle-2.new.self c.tell_or_wait.new.self c.tell_or_wait.result (c.be_idle-2.ensures.plain books) (sym c.has_finish.ensures ∙ c.if-has_finish.false) (sym c.is_ready_by.ensures ∙ c.if-is_ready_by.false) (c.tell_or_wait.ensures books))

pub returns-clause-good : goal.returns-clause-good
returns-clause-good g c = λ T good.
    let e = c.args.end.now in
    let log = c.args.log.now in
    let w = c.args.writer.now in
    let books = books_of log w in
    told_stays T (plain_of e log w) (plain_of c.tell_or_wait.new.self log w) (g.D.Depot.state c.args.depot.now).told
    (tells_kept e log w c.args.way c.args.lane c.requires.lane c.be_idle-2.new.self c.tell_or_wait.new.self c.tell_or_wait.result (c.be_idle-2.ensures.plain books) (sym c.has_finish.ensures ∙ c.if-has_finish.false) (sym c.is_ready_by.ensures ∙ c.if-is_ready_by.false) (c.tell_or_wait.ensures books))
    refl (same_behind e c.tell_or_wait.new.self log w c.requires.desk.books) (not_lost e.answer c.requires.sound) good

pub returns-clause-counts : goal.returns-clause-counts
returns-clause-counts g c =
    let log = c.args.log.now in
    let w = c.args.writer.now in
    let books = books_of log w in
    counts_same _ (g.D.Depot.state c.args.depot.now)
    (λ lost. tells_sound c.args.end.now log w c.args.way c.args.lane c.requires.lane c.be_idle-2.new.self c.tell_or_wait.new.self c.tell_or_wait.result (c.be_idle-2.ensures.plain books) (sym c.has_finish.ensures ∙ c.if-has_finish.false) (sym c.is_ready_by.ensures ∙ c.if-is_ready_by.false) (c.tell_or_wait.ensures books) lost.0 lost.1)

pub returns-then-has_finish-clause-spares : goal.returns-then-has_finish-clause-spares
returns-then-has_finish-clause-spares g c = spares_same (IsBeside c.args.writer.now.known) c.args.writer.now.files (g.D.Depot.state c.args.depot.now).told

pub returns-clause-spares : goal.returns-clause-spares
returns-clause-spares g c = spares_same (IsBeside c.args.writer.now.known) c.args.writer.now.files (g.D.Depot.state c.args.depot.now).told
