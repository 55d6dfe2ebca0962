use Rattle.std.proofs.Common.{◌≡◌, true, false, Ok, refl, sym, ap, subst, ◌∙◌, rules}
use Rattle.std.proofs.lemmas.Bool.{both_ways}
use Rattle.wdt_units.specs.declared.failures.NoMemory.{NoMemory}
use Rattle.wdt_sender_fsm.specs.Rules.{by_voice, is_failure}
use Rattle.wdt_receiver_fsm.specs.declared.acts.RecvAct.{RecvAct}
use Rattle.wdt_receiver_fsm.specs.declared.states.RecvLane.{RecvLane}
use Rattle.wdt_receiver_fsm.specs.Plan.{Plan, ends}
use Rattle.wdt_receiver_fsm.specs.Rows.{Row, Starved, is_mute, row_of, shown}
use Rattle.wdt_receiver_fsm.specs.Turn.{Given, Step, is_over, is_starved, leaves, recv_plan, row_at, tells_failure}
use Rattle.wdt_dock.specs.Desk.{books_of, plain_of}
use Rattle.wdt_dock.specs.DockGood.{DockGood}
use Rattle.wdt_dock.specs.DockView.{TurnRan, Turns}
use Rattle.wdt_dock.specs.Turning.{IsTreesRow}
use Rattle.wdt_dock.proofs.MayServing.{row_tree}
use Rattle.wdt_dock.proofs.Quiet.{given_quiet, quiet_counts, quiet_desk, quiet_good, quiet_images, quiet_ran, quiet_rest, quiet_slips, quiet_turns, starved_quiet, turn_is}
use Rattle.wdt_dock.specs.Sparing.{IsOther, IsOtherRow}
use Rattle.wdt_dock.proofs.Sparing.{row_other, spares_fewer, spares_same}
use Rattle.wdt_dock.proofs.turning.turn.Goals as goal

pub returns-in-Starved-clause-turns : goal.returns-in-Starved-clause-turns
returns-in-Starved-clause-turns g c =
    let e = c.args.end.now in
    let log = c.args.log.now in
    let w = c.args.writer.now in
    let s = g.D.Depot.state c.args.depot.now in
    let r = plain_of e log w in
    let f = c.starved.new.end in
    let mute = c.in-Starved.mute in
    let fits : row_at r c.args.lane (Given c.args.input.now) ≡ Starved mute = ap (λ (x : RecvLane). row_of x.is_sized x.state c.args.input.now) (sym c.lane.ensures) ∙ sym c.in-Starved.ensures in
    let said = c.starved.ensures (books_of log w) in
    let plan = turn_is r c.args.lane (Given c.args.input.now) (Starved mute) fits ∙ said in
    let act : RecvAct = c.starved.result in
    quiet_turns NoMemory (recv_plan r c.args.lane c.args.input.now) (Ok act) (plain_of f log w) s plan

pub returns-in-Starved-clause-exact : goal.returns-in-Starved-clause-exact
returns-in-Starved-clause-exact g c =
    let e = c.args.end.now in
    let log = c.args.log.now in
    let w = c.args.writer.now in
    let s = g.D.Depot.state c.args.depot.now in
    let r = plain_of e log w in
    let f = c.starved.new.end in
    let mute = c.in-Starved.mute in
    let fits : row_at r c.args.lane (Given c.args.input.now) ≡ Starved mute = ap (λ (x : RecvLane). row_of x.is_sized x.state c.args.input.now) (sym c.lane.ensures) ∙ sym c.in-Starved.ensures in
    let said = c.starved.ensures (books_of log w) in
    let plan = turn_is r c.args.lane (Given c.args.input.now) (Starved mute) fits ∙ said in
    let act : RecvAct = c.starved.result in
    quiet_ran NoMemory (recv_plan r c.args.lane c.args.input.now) (Ok act) (plain_of f log w) s plan

pub returns-in-Starved-clause-desk : goal.returns-in-Starved-clause-desk
returns-in-Starved-clause-desk g c =
    let e = c.args.end.now in
    let log = c.args.log.now in
    let w = c.args.writer.now in
    let s = g.D.Depot.state c.args.depot.now in
    let r = plain_of e log w in
    let f = c.starved.new.end in
    let mute = c.in-Starved.mute in
    let fits : row_at r c.args.lane (Given c.args.input.now) ≡ Starved mute = ap (λ (x : RecvLane). row_of x.is_sized x.state c.args.input.now) (sym c.lane.ensures) ∙ sym c.in-Starved.ensures in
    let said = c.starved.ensures (books_of log w) in
    let act : RecvAct = c.starved.result in
    let step : Step = (act, plain_of f log w) in
    let quiet = starved_quiet r c.args.lane mute step c.requires.lane said in
    quiet_desk e f log w s quiet c.requires.desk

pub returns-in-Starved-clause-rest : goal.returns-in-Starved-clause-rest
returns-in-Starved-clause-rest g c =
    let e = c.args.end.now in
    let log = c.args.log.now in
    let w = c.args.writer.now in
    let s = g.D.Depot.state c.args.depot.now in
    let r = plain_of e log w in
    let f = c.starved.new.end in
    let mute = c.in-Starved.mute in
    let fits : row_at r c.args.lane (Given c.args.input.now) ≡ Starved mute = ap (λ (x : RecvLane). row_of x.is_sized x.state c.args.input.now) (sym c.lane.ensures) ∙ sym c.in-Starved.ensures in
    let said = c.starved.ensures (books_of log w) in
    let act : RecvAct = c.starved.result in
    let step : Step = (act, plain_of f log w) in
    let quiet = starved_quiet r c.args.lane mute step c.requires.lane said in
    quiet_rest e f log w s quiet c.requires.rest

pub returns-in-Starved-clause-good : goal.returns-in-Starved-clause-good
returns-in-Starved-clause-good g c T put good =
    let e = c.args.end.now in
    let log = c.args.log.now in
    let w = c.args.writer.now in
    let s = g.D.Depot.state c.args.depot.now in
    let r = plain_of e log w in
    let f = c.starved.new.end in
    let mute = c.in-Starved.mute in
    let fits : row_at r c.args.lane (Given c.args.input.now) ≡ Starved mute = ap (λ (x : RecvLane). row_of x.is_sized x.state c.args.input.now) (sym c.lane.ensures) ∙ sym c.in-Starved.ensures in
    let said = c.starved.ensures (books_of log w) in
    let act : RecvAct = c.starved.result in
    let step : Step = (act, plain_of f log w) in
    let quiet = starved_quiet r c.args.lane mute step c.requires.lane said in
    quiet_good e f log w s quiet T good

pub returns-in-Starved-clause-counts : goal.returns-in-Starved-clause-counts
returns-in-Starved-clause-counts g c =
    let e = c.args.end.now in
    let log = c.args.log.now in
    let w = c.args.writer.now in
    let s = g.D.Depot.state c.args.depot.now in
    let r = plain_of e log w in
    let f = c.starved.new.end in
    let mute = c.in-Starved.mute in
    let fits : row_at r c.args.lane (Given c.args.input.now) ≡ Starved mute = ap (λ (x : RecvLane). row_of x.is_sized x.state c.args.input.now) (sym c.lane.ensures) ∙ sym c.in-Starved.ensures in
    let said = c.starved.ensures (books_of log w) in
    let act : RecvAct = c.starved.result in
    let step : Step = (act, plain_of f log w) in
    let quiet = starved_quiet r c.args.lane mute step c.requires.lane said in
    quiet_counts e f log w s quiet

pub returns-then-has_failed : goal.returns-then-has_failed
returns-then-has_failed g c =
    let e = c.args.end.now in
    let log = c.args.log.now in
    let w = c.args.writer.now in
    let s = g.D.Depot.state c.args.depot.now in
    let r = plain_of e log w in
    let f = c.give_up.new.self in
    let act : RecvAct = c.give_up.result in
    let step : Step = (act, plain_of f log w) in
    let row : Row = shown c.row-row.result in
    let fits : row_at r c.args.lane (Given c.args.input.now) ≡ row = ap (λ (x : RecvLane). row_of x.is_sized x.state c.args.input.now) (sym c.lane.ensures) ∙ sym c.row-row.ensures in
    let failed : is_failure e.answer ≡ true = sym c.has_failed.ensures ∙ c.if-has_failed.true in
    let still : is_over (shown c.row-row.result) ≡ false = search rules in
    let said = subst (λ mute. by_voice mute (leaves r c.args.lane) (tells_failure r c.args.lane) ≡ step) c.is_mute.ensures (c.give_up.ensures (books_of log w)) in
    let plan = c.steps_follow_their_rows.ensures.failed r c.args.lane (Given c.args.input.now) row fits failed still ∙ ap ends said in
    let quiet = given_quiet r c.args.lane (is_mute row) step c.requires.lane failed said in
    record {
      turns = quiet_turns NoMemory (recv_plan r c.args.lane c.args.input.now) (Ok act) (plain_of f log w) s plan;
      exact = quiet_ran NoMemory (recv_plan r c.args.lane c.args.input.now) (Ok act) (plain_of f log w) s plan;
      memory = tt;
      desk = quiet_desk e f log w s quiet c.requires.desk;
      rest = quiet_rest e f log w s quiet c.requires.rest;
      images = λ T good. quiet_images T s;
      good = λ T put good. quiet_good e f log w s quiet T good;
      untouched = λ is. refl;
      spares = spares_same (IsOther w.known (Given c.args.input.now)) w.files s.told;
      counts = quiet_counts e f log w s quiet;
      slips = λ T. quiet_slips (λ t. DockGood T r t.now) s;
    }

pub returns-else-has_failed : goal.returns-else-has_failed
returns-else-has_failed g c =
    let e = c.args.end.now in
    let log = c.args.log.now in
    let w = c.args.writer.now in
    let s = g.D.Depot.state c.args.depot.now in
    let r = plain_of e log w in
    let s1 = g.D.Depot.state c.serve.new.depot in
    let new = plain_of c.serve.new.end c.serve.new.log c.serve.new.writer in
    let row : Row = shown c.row-row.result in
    let fits : row_at r c.args.lane (Given c.args.input.now) ≡ row = ap (λ (x : RecvLane). row_of x.is_sized x.state c.args.input.now) (sym c.lane.ensures) ∙ sym c.row-row.ensures in
    let sound : is_failure e.answer ≡ false = sym c.has_failed.ensures ∙ c.if-has_failed.false in
    let still : is_over (shown c.row-row.result) ≡ false = search rules in
    let fed : is_starved (shown c.row-row.result) ≡ false = search rules in
    let plan = c.steps_follow_their_rows.ensures.serves r c.args.lane (Given c.args.input.now) row fits sound still fed in
    record {
      turns = subst (λ (p : Plan Step). Turns p c.serve.result new s s1) (sym plan) c.serve.ensures.turns;
      exact = subst (λ (p : Plan Step). TurnRan p c.serve.result new s s1) (sym plan) c.serve.ensures.exact;
      memory = c.serve.ensures.memory;
      desk = c.serve.ensures.desk;
      rest = c.serve.ensures.rest;
      images = c.serve.ensures.images;
      good = λ T put good. c.serve.ensures.good T (subst (IsTreesRow T) fits (row_tree T r c.args.lane c.args.input.now put)) good;
      untouched = λ failed. absurd (both_ways (is_failure e.answer) sound failed);
      spares = spares_fewer (IsOtherRow w.known row) (IsOther w.known (Given c.args.input.now)) w.files s.told s1.told
          (λ path other. subst (λ (x : Row). IsOtherRow w.known x path) fits (row_other w.known r c.args.lane c.args.input.now path other)) c.serve.ensures.spares;
      counts = c.serve.ensures.counts;
      slips = c.serve.ensures.slips;
    }

pub returns-in-Over-clause-spares : goal.returns-in-Over-clause-spares
returns-in-Over-clause-spares g c = spares_same (IsOther c.args.writer.now.known (Given c.args.input.now)) c.args.writer.now.files (g.D.Depot.state c.args.depot.now).told

pub returns-in-Starved-clause-spares : goal.returns-in-Starved-clause-spares
returns-in-Starved-clause-spares g c = spares_same (IsOther c.args.writer.now.known (Given c.args.input.now)) c.args.writer.now.files (g.D.Depot.state c.args.depot.now).told
