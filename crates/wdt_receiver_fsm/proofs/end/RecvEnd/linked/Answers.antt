use Rattle.std.proofs.Common.{◌≡◌, false, sym, ap, ◌∙◌}
use Rattle.wdt_units.specs.declared.numbers.Conn.{Conn}
use Rattle.wdt_receiver_fsm.specs.declared.acts.RecvAct.TheVariants as acts
use Rattle.wdt_receiver_fsm.specs.declared.events.RecvEvent.TheVariants as events
use Rattle.wdt_receiver_fsm.specs.declared.states.RecvLane.{RecvLane}
use Rattle.wdt_receiver_fsm.specs.declared.states.RecvState.TheVariants as states
use Rattle.wdt_receiver_fsm.specs.PlainReceiver.{PlainReceiver}
use Rattle.wdt_receiver_fsm.specs.Turn.{links, next_take}
use Rattle.wdt_receiver_fsm.specs.End.{EndView, lane_in, plain_with, stands, with_note}
use Rattle.wdt_receiver_fsm.proofs.Ending.{same_plain}
use Rattle.wdt_receiver_fsm.proofs.end.RecvEnd.linked.Goals as goal

pub returns-clause-ok : goal.returns-clause-ok
returns-clause-ok c = λ books.
    let p = c.prepare.new.self in
    let same : next_take (plain_with p books) c.args.lane ≡ c.next_take-conn.result = sym (ap (λ n. let k : Conn = record { 0 = n } in k) c.next_take-conn.ensures) in
    ap (λ (r : PlainReceiver). links r c.args.lane) (sym (same_plain _ _ c.prepare.ensures.same books))
    ∙ ap (λ (k : Conn). (acts.Read, plain_with (stands (with_note p (events.Take c.args.lane k)) c.args.lane.0 record (lane_in p c.args.lane.0) { state = states.ReadSettings; is_sized = false; has_waited = false }) books)) same
    ∙ ap (λ (v : EndView). (acts.Read, plain_with v books))
    (sym (c.stand.ensures ∙ ap (λ (x : RecvLane). stands c.note.new.self c.args.lane.0 record x { state = states.ReadSettings; is_sized = false; has_waited = false }) c.lane.ensures
    ∙ ap (λ (v : EndView). stands v c.args.lane.0 record (lane_in p c.args.lane.0) { state = states.ReadSettings; is_sized = false; has_waited = false }) c.note.ensures))
