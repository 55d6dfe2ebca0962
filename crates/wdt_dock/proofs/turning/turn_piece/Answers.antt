use Rattle.std.proofs.Common.{◌≡◌, true, false, None, Ok, refl, sym, ap, subst, ◌∙◌}
use Rattle.wdt_units.specs.declared.failures.NoMemory.{NoMemory}
use Rattle.wdt_depot.specs.Moments.{IfTold}
use Rattle.wdt_sender_fsm.specs.Rules.{is_failure}
use Rattle.wdt_receiver_fsm.specs.declared.acts.RecvAct.{RecvAct}
use Rattle.wdt_receiver_fsm.specs.declared.states.RecvState.{RecvState}
use Rattle.wdt_receiver_fsm.specs.Plan.{Plan, ends}
use Rattle.wdt_receiver_fsm.specs.PlainReceiver.{PlainReceiver, past_at}
use Rattle.wdt_receiver_fsm.specs.Rows.{Piece, piece_row}
use Rattle.wdt_receiver_fsm.specs.Turn.{Bytes, Step, piece_plan, row_at, take_plan}
use Rattle.wdt_dock.specs.Desk.{books_of, plain_of}
use Rattle.wdt_dock.specs.DockGood.{DockGood}
use Rattle.wdt_dock.specs.DockView.{TurnRan, Turns}
use Rattle.wdt_dock.proofs.MayServing.{taking_begun}
use Rattle.wdt_dock.proofs.Quiet.{given_quiet, plain_same, quiet_counts, quiet_desk, quiet_good, quiet_images, quiet_ran, quiet_rest, quiet_slips, quiet_turns}
use Rattle.wdt_dock.specs.Sparing.{IsBeside}
use Rattle.wdt_dock.proofs.Sparing.{spares_same}
use Rattle.wdt_dock.proofs.turning.turn_piece.Goals as goal

pub returns-then-has_failed : goal.returns-then-has_failed
returns-then-has_failed g c =
    let e = c.args.end.now in
    let log = c.args.log.now in
    let w = c.args.writer.now in
    let s = g.D.Depot.state c.args.depot.now in
    let r = plain_of e log w in
    let bytes = c.args.bytes.now in
    let fits : row_at r c.args.lane (Bytes bytes) ≡ Piece bytes = ap (λ (state : RecvState). piece_row state bytes) c.requires.takes in
    let f = c.give_up.new.self in
    let act : RecvAct = c.give_up.result in
    let step : Step = (act, plain_of f log w) in
    let failed : is_failure e.answer ≡ true = sym c.has_failed.ensures ∙ c.if-has_failed.true in
    let said = c.give_up.ensures (books_of log w) in
    let plan = c.steps_follow_their_rows.ensures.failed r c.args.lane (Bytes bytes) (Piece bytes) fits failed refl ∙ ap ends said in
    let quiet = given_quiet r c.args.lane false step c.requires.lane failed said in
    record {
      turns = quiet_turns NoMemory (take_plan r c.args.lane bytes) (Ok act) (plain_of f log w) s plan;
      exact = quiet_ran NoMemory (take_plan r c.args.lane bytes) (Ok act) (plain_of f log w) s plan;
      memory = tt;
      desk = quiet_desk e f log w s quiet c.requires.desk;
      rest = quiet_rest e f log w s quiet c.requires.rest;
      images = λ T put good. quiet_images T s;
      good = λ T put good. quiet_good e f log w s quiet T good;
      untouched = λ is. refl;
      spares = spares_same (IsBeside w.known) w.files s.told;
      counts = quiet_counts e f log w s quiet;
      slips = λ T. quiet_slips (λ t. DockGood T r t.now) s;
    }

pub take-requires-clause-begun : goal.take-requires-clause-begun
take-requires-clause-begun g c =
    let r = plain_of c.args.end.now c.args.log.now c.args.writer.now in
    let same = plain_same c.args.end.now c.prepare.new.self c.args.log.now c.args.writer.now c.prepare.ensures.same in
    subst (λ (x : PlainReceiver). (past_at x c.args.lane.0).begun ≡ None → ⊥) (sym same) (taking_begun r c.args.lane c.requires.receiver c.requires.lane c.requires.takes)

pub returns-clause-turns : goal.returns-clause-turns
returns-clause-turns g c =
    let e = c.args.end.now in
    let log = c.args.log.now in
    let w = c.args.writer.now in
    let s0 = g.D.Depot.state c.args.depot.now in
    let s1 = g.D.Depot.state c.take.new.depot in
    let r = plain_of e log w in
    let new = plain_of c.take.new.end c.take.new.log c.take.new.writer in
    let bytes = c.args.bytes.now in
    let same = plain_same c.args.end.now c.prepare.new.self c.args.log.now c.args.writer.now c.prepare.ensures.same in
    let fits : row_at r c.args.lane (Bytes bytes) ≡ Piece bytes = ap (λ (state : RecvState). piece_row state bytes) c.requires.takes in
    let sound : is_failure e.answer ≡ false = sym c.has_failed.ensures ∙ c.if-has_failed.false in
    let plan = c.steps_follow_their_rows.ensures.serves r c.args.lane (Bytes bytes) (Piece bytes) fits sound refl refl in
    subst (λ (p : Plan Step). Turns p c.take.result new s0 s1) (sym plan) (subst (λ (x : PlainReceiver). Turns (piece_plan x c.args.lane bytes (past_at x c.args.lane.0).begun) c.take.result new s0 s1) same c.take.ensures.turns)

pub returns-clause-exact : goal.returns-clause-exact
returns-clause-exact g c =
    let e = c.args.end.now in
    let log = c.args.log.now in
    let w = c.args.writer.now in
    let s0 = g.D.Depot.state c.args.depot.now in
    let s1 = g.D.Depot.state c.take.new.depot in
    let r = plain_of e log w in
    let new = plain_of c.take.new.end c.take.new.log c.take.new.writer in
    let bytes = c.args.bytes.now in
    let same = plain_same c.args.end.now c.prepare.new.self c.args.log.now c.args.writer.now c.prepare.ensures.same in
    let fits : row_at r c.args.lane (Bytes bytes) ≡ Piece bytes = ap (λ (state : RecvState). piece_row state bytes) c.requires.takes in
    let sound : is_failure e.answer ≡ false = sym c.has_failed.ensures ∙ c.if-has_failed.false in
    let plan = c.steps_follow_their_rows.ensures.serves r c.args.lane (Bytes bytes) (Piece bytes) fits sound refl refl in
    subst (λ (p : Plan Step). TurnRan p c.take.result new s0 s1) (sym plan) (subst (λ (x : PlainReceiver). TurnRan (piece_plan x c.args.lane bytes (past_at x c.args.lane.0).begun) c.take.result new s0 s1) same c.take.ensures.exact)

pub returns-clause-slips : goal.returns-clause-slips
returns-clause-slips g c T =
    let e = c.args.end.now in
    let log = c.args.log.now in
    let w = c.args.writer.now in
    let s0 = g.D.Depot.state c.args.depot.now in
    let s1 = g.D.Depot.state c.take.new.depot in
    let r = plain_of e log w in
    let new = plain_of c.take.new.end c.take.new.log c.take.new.writer in
    let bytes = c.args.bytes.now in
    let same = plain_same c.args.end.now c.prepare.new.self c.args.log.now c.args.writer.now c.prepare.ensures.same in
    subst (λ (x : PlainReceiver). IfTold (λ t. DockGood T x t.now → s1.slips ≡ s0.slips) s0.told) same (c.take.ensures.slips T)
