use Rattle.std.proofs.Common.{◌≡◌, false, sym, ap, subst, rules}
use Rattle.wdt_units.specs.declared.failures.NoMemory.{NoMemory}
use Rattle.wdt_depot.specs.Moments.{IfTold}
use Rattle.wdt_receiver_fsm.specs.Plan.{ends}
use Rattle.wdt_receiver_fsm.specs.PlainReceiver.{PlainReceiver}
use Rattle.wdt_receiver_fsm.specs.Rows.{Row, shown}
use Rattle.wdt_receiver_fsm.specs.Turn.{block_plan, drops, turn_row}
use Rattle.wdt_dock.specs.Desk.{books_of, plain_of}
use Rattle.wdt_dock.specs.DockGood.{DockGood}
use Rattle.wdt_dock.specs.DockView.{LosesDisk, TurnRan, Turns}
use Rattle.wdt_receiver_fsm.specs.End.{plain_with}
use Rattle.wdt_dock.specs.Serving.{is_of_files}
use Rattle.wdt_dock.proofs.Quiet.{at_books, counts_still, dropped_loses, err_at, err_same, ok_at, plain_same, quiet_counts, quiet_desk, quiet_good, quiet_images, quiet_ran, quiet_rest, quiet_slips, quiet_turns, served_quiet, told_more}
use Rattle.wdt_dock.specs.Sparing.{Between, IsBeside, IsOtherRow, Spares}
use Rattle.wdt_dock.proofs.Sparing.{spares_fewer, spares_same}
use Rattle.wdt_dock.proofs.turning.serve.Goals as goal

pub returns-in_ok-prepare-in-Done-clause-good : goal.returns-in_ok-prepare-in-Done-clause-good
returns-in_ok-prepare-in-Done-clause-good g c T tree good =
    let same = plain_same c.args.end.now c.prepare-in-Done.new.self c.args.log.now c.args.writer.now c.prepare-in-Done.ensures.same in
    c.choose.ensures.good T (subst (λ (r : PlainReceiver). IfTold (λ t. DockGood T r t.now) (g.D.Depot.state c.args.depot.now).told) (sym same) good)

pub returns-in_ok-prepare-in-Done-clause-slips : goal.returns-in_ok-prepare-in-Done-clause-slips
returns-in_ok-prepare-in-Done-clause-slips g c T =
    let same = plain_same c.args.end.now c.prepare-in-Done.new.self c.args.log.now c.args.writer.now c.prepare-in-Done.ensures.same in
    subst (λ (r : PlainReceiver). IfTold (λ t. DockGood T r t.now → (g.D.Depot.state c.choose.new.depot).slips ≡ (g.D.Depot.state c.args.depot.now).slips) (g.D.Depot.state c.args.depot.now).told) same (c.choose.ensures.slips T)

pub returns-in_ok-prepare-in-WaitWritten-clause-good : goal.returns-in_ok-prepare-in-WaitWritten-clause-good
returns-in_ok-prepare-in-WaitWritten-clause-good g c T tree good =
    let same = plain_same c.args.end.now c.prepare-in-WaitWritten.new.self c.args.log.now c.args.writer.now c.prepare-in-WaitWritten.ensures.same in
    c.choose-in-WaitWritten.ensures.good T (subst (λ (r : PlainReceiver). IfTold (λ t. DockGood T r t.now) (g.D.Depot.state c.args.depot.now).told) (sym same) good)

pub returns-in_ok-prepare-in-WaitWritten-clause-slips : goal.returns-in_ok-prepare-in-WaitWritten-clause-slips
returns-in_ok-prepare-in-WaitWritten-clause-slips g c T =
    let same = plain_same c.args.end.now c.prepare-in-WaitWritten.new.self c.args.log.now c.args.writer.now c.prepare-in-WaitWritten.ensures.same in
    subst (λ (r : PlainReceiver). IfTold (λ t. DockGood T r t.now → (g.D.Depot.state c.choose-in-WaitWritten.new.depot).slips ≡ (g.D.Depot.state c.args.depot.now).slips) (g.D.Depot.state c.args.depot.now).told) same (c.choose-in-WaitWritten.ensures.slips T)

pub returns-in_ok-prepare-in-Woken-clause-good : goal.returns-in_ok-prepare-in-Woken-clause-good
returns-in_ok-prepare-in-Woken-clause-good g c T tree good =
    let same = plain_same c.args.end.now c.prepare-in-Woken.new.self c.args.log.now c.args.writer.now c.prepare-in-Woken.ensures.same in
    c.choose-in-Woken.ensures.good T (subst (λ (r : PlainReceiver). IfTold (λ t. DockGood T r t.now) (g.D.Depot.state c.args.depot.now).told) (sym same) good)

pub returns-in_ok-prepare-in-Woken-clause-slips : goal.returns-in_ok-prepare-in-Woken-clause-slips
returns-in_ok-prepare-in-Woken-clause-slips g c T =
    let same = plain_same c.args.end.now c.prepare-in-Woken.new.self c.args.log.now c.args.writer.now c.prepare-in-Woken.ensures.same in
    subst (λ (r : PlainReceiver). IfTold (λ t. DockGood T r t.now → (g.D.Depot.state c.choose-in-Woken.new.depot).slips ≡ (g.D.Depot.state c.args.depot.now).slips) (g.D.Depot.state c.args.depot.now).told) same (c.choose-in-Woken.ensures.slips T)

pub returns-in_ok-prepare-in-Block-clause-slips : goal.returns-in_ok-prepare-in-Block-clause-slips
returns-in_ok-prepare-in-Block-clause-slips g c T =
    let same = plain_same c.args.end.now c.prepare.new.self c.args.log.now c.args.writer.now c.prepare.ensures.same in
    subst (λ (r : PlainReceiver). IfTold (λ t. DockGood T r t.now → (g.D.Depot.state c.begin.new.depot).slips ≡ (g.D.Depot.state c.args.depot.now).slips) (g.D.Depot.state c.args.depot.now).told) same (c.begin.ensures.slips T)

pub returns-in_ok-prepare-in-Block-clause-turns : goal.returns-in_ok-prepare-in-Block-clause-turns
returns-in_ok-prepare-in-Block-clause-turns g c =
    let s0 = g.D.Depot.state c.args.depot.now in
    let s1 = g.D.Depot.state c.begin.new.depot in
    let new = plain_of c.begin.new.end c.begin.new.log c.begin.new.writer in
    let same = plain_same c.args.end.now c.prepare.new.self c.args.log.now c.args.writer.now c.prepare.ensures.same in
    subst (λ (row : Row). Turns (turn_row (plain_of c.args.end.now c.args.log.now c.args.writer.now) c.args.lane row) c.begin.result new s0 s1) (sym (ap shown c.in-Block.is))
    (subst (λ (r : PlainReceiver). Turns (block_plan r c.args.lane c.in-Block.header.now) c.begin.result new s0 s1) same c.begin.ensures.turns)

pub returns-in_ok-prepare-in-Block-clause-exact : goal.returns-in_ok-prepare-in-Block-clause-exact
returns-in_ok-prepare-in-Block-clause-exact g c =
    let s0 = g.D.Depot.state c.args.depot.now in
    let s1 = g.D.Depot.state c.begin.new.depot in
    let new = plain_of c.begin.new.end c.begin.new.log c.begin.new.writer in
    let same = plain_same c.args.end.now c.prepare.new.self c.args.log.now c.args.writer.now c.prepare.ensures.same in
    subst (λ (row : Row). TurnRan (turn_row (plain_of c.args.end.now c.args.log.now c.args.writer.now) c.args.lane row) c.begin.result new s0 s1) (sym (ap shown c.in-Block.is))
    (subst (λ (r : PlainReceiver). TurnRan (block_plan r c.args.lane c.in-Block.header.now) c.begin.result new s0 s1) same c.begin.ensures.exact)

pub returns-in-Dropped-clause-memory : goal.returns-in-Dropped-clause-memory
returns-in-Dropped-clause-memory g c =
    err_at NoMemory c.lose_connection.result (λ log. plain_of c.lose_connection.new.end log c.lose_connection.new.writer ≡ plain_of c.args.end.now log c.args.writer.now) c.args.log.now c.lose_connection.ensures.memory

pub returns-in-Dropped-clause-good : goal.returns-in-Dropped-clause-good
returns-in-Dropped-clause-good g c T tree good =
    told_more (λ t. DockGood T (plain_of c.args.end.now c.args.log.now c.args.writer.now) t.now) (λ t. DockGood T (plain_of c.lose_connection.new.end c.args.log.now c.lose_connection.new.writer) t.now)
    (g.D.Depot.state c.args.depot.now).told (λ t is. c.lose_connection.ensures.good T c.args.log.now t.now is) good

pub returns-in-Dropped-clause-counts : goal.returns-in-Dropped-clause-counts
returns-in-Dropped-clause-counts g c =
    let old = plain_of c.args.end.now c.args.log.now c.args.writer.now in
    let new = plain_of c.lose_connection.new.end c.args.log.now c.lose_connection.new.writer in
    let said = ok_at NoMemory c.lose_connection.result (λ log act. drops (plain_of c.args.end.now log c.args.writer.now) c.args.lane ≡ (act, plain_of c.lose_connection.new.end log c.lose_connection.new.writer)) c.args.log.now c.lose_connection.ensures.ok in
    let kept = dropped_loses NoMemory c.lose_connection.result old new c.args.lane c.requires.lane said (returns-in-Dropped-clause-memory g c) in
    counts_still (LosesDisk c.args.end.now.answer c.lose_connection.new.end.answer) (g.D.Depot.state c.args.depot.now) (λ lost. kept lost.0 lost.1)

pub returns-in_default : goal.returns-in_default
returns-in_default g c =
    let e = c.args.end.now in
    let f = c.served.new.end in
    let log = c.args.log.now in
    let w = c.args.writer.now in
    let s = g.D.Depot.state c.args.depot.now in
    let row = shown c.args.row in
    let own : is_of_files (shown c.args.row) ≡ false = search rules in
    let said = at_books NoMemory c.served.result (λ b act. turn_row (plain_with e b) c.args.lane row ≡ ends (act, plain_with f b)) (books_of log w) c.served.ensures.ok in
    let quiet = served_quiet NoMemory c.served.result e f log w c.args.lane row c.requires.lane c.requires.sound own said c.served.ensures.err in
    record {
      turns = quiet_turns NoMemory (turn_row (plain_of e log w) c.args.lane row) c.served.result (plain_of f log w) s said;
      exact = quiet_ran NoMemory (turn_row (plain_of e log w) c.args.lane row) c.served.result (plain_of f log w) s said;
      memory = err_same NoMemory c.served.result e f log w c.served.ensures.err;
      desk = quiet_desk e f log w s quiet c.requires.desk;
      rest = quiet_rest e f log w s quiet c.requires.rest;
      images = λ T good. quiet_images T s;
      good = λ T tree good. quiet_good e f log w s quiet T good;
      spares = spares_same (IsOtherRow w.known row) w.files s.told;
      counts = quiet_counts e f log w s quiet;
      slips = λ T. quiet_slips (λ t. DockGood T (plain_of e log w) t.now) s;
    }

pub returns-in_ok-prepare-in-Done-clause-spares : goal.returns-in_ok-prepare-in-Done-clause-spares
returns-in_ok-prepare-in-Done-clause-spares g c =
    let w = c.args.writer.now in
    spares_fewer (IsBeside w.known) (IsOtherRow w.known (shown c.args.row)) w.files (g.D.Depot.state c.args.depot.now).told (g.D.Depot.state c.choose.new.depot).told (λ path other. other.beside) c.choose.ensures.spares

pub returns-in_ok-prepare-in-WaitWritten-clause-spares : goal.returns-in_ok-prepare-in-WaitWritten-clause-spares
returns-in_ok-prepare-in-WaitWritten-clause-spares g c =
    let w = c.args.writer.now in
    spares_fewer (IsBeside w.known) (IsOtherRow w.known (shown c.args.row)) w.files (g.D.Depot.state c.args.depot.now).told (g.D.Depot.state c.choose-in-WaitWritten.new.depot).told (λ path other. other.beside) c.choose-in-WaitWritten.ensures.spares

pub returns-in_ok-prepare-in-Woken-clause-spares : goal.returns-in_ok-prepare-in-Woken-clause-spares
returns-in_ok-prepare-in-Woken-clause-spares g c =
    let w = c.args.writer.now in
    spares_fewer (IsBeside w.known) (IsOtherRow w.known (shown c.args.row)) w.files (g.D.Depot.state c.args.depot.now).told (g.D.Depot.state c.choose-in-Woken.new.depot).told (λ path other. other.beside) c.choose-in-Woken.ensures.spares

pub returns-in_ok-prepare-in-Block-clause-spares : goal.returns-in_ok-prepare-in-Block-clause-spares
returns-in_ok-prepare-in-Block-clause-spares g c =
    let w = c.args.writer.now in
    subst (λ (row : Row). Between (Spares (IsOtherRow w.known row) w.files) (g.D.Depot.state c.args.depot.now).told (g.D.Depot.state c.begin.new.depot).told) (sym (ap shown c.in-Block.is)) c.begin.ensures.spares

pub returns-in-Dropped-clause-spares : goal.returns-in-Dropped-clause-spares
returns-in-Dropped-clause-spares g c = spares_same (IsOtherRow c.args.writer.now.known (shown c.args.row)) c.args.writer.now.files (g.D.Depot.state c.args.depot.now).told
