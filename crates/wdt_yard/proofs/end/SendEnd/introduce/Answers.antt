use Rattle.std.proofs.Common.{◌≡◌, ◌<◌, ◌&&◌, not, ℕ, Bool, List, length, set, is_some, sym, ap, ◌∙◌, subst}
use Rattle.std.proofs.lemmas.List.{length-set}
use Rattle.wdt_codec.specs.declared.frames.Frame.TheVariants as frames
use Rattle.wdt_sender_fsm.specs.declared.acts.SendAct.TheVariants as acts
use Rattle.wdt_sender_fsm.specs.declared.states.SendLane.{SendLane}
use Rattle.wdt_sender_fsm.specs.declared.states.SendState.TheVariants as states
use Rattle.wdt_sender_fsm.specs.Rules.{every, judged}
use Rattle.wdt_sender_fsm.specs.SenderHistory.{end_of}
use Rattle.wdt_sender_fsm.specs.Turn.{introduces}
use Rattle.wdt_yard.specs.End.{EndView, is_done_in, is_out_in}
use Rattle.wdt_yard.specs.EndInside.{seen}
use Rattle.wdt_yard.specs.Ledger.{Ledger}
use Rattle.wdt_yard.proofs.Ends.{answer_is, end_linked, introduced}
use Rattle.wdt_yard.proofs.end.SendEnd.introduce.Goals as goal

pub invariant_of-self : goal.invariant_of-self
invariant_of-self c =
    rw c.linked-conn.ensures.noted
    (end_linked c.args.lane c.linked-conn.result _ (subst (λ (v : EndView). c.args.lane.0 < length v.plain.lanes) (sym c.self.view_is) c.requires.lane) (λ e. cc) c.self.invariant)

pub returns : goal.returns
returns c =
    let ask : Bool = not c.is_listed-ask.result in
    let x : SendLane = record { state = states.SendSettings; ask = ask } in
    let lanes : List SendLane = set c.self.inside.lanes.items c.args.lane.0 x in
    let j = c.linked-conn.new.self in
    subst (λ (v : EndView). introduces v.plain c.args.lane ≡ (acts.Write (frames.Settings record { version = 1; session = c.self.inside.session; lane = c.args.lane; lanes = c.lanes-lanes.result; conn = c.linked-conn.result; block = c.self.inside.block; ask = ask }), record (seen c.self.inside).plain { planned = j.planned; lanes = lanes; history = j.history; answer = c.settle.new.answer })) c.self.view_is
    (introduced (seen c.self.inside).plain c.args.lane c.linked-conn.result ask c.lanes-lanes.result j.planned j.history c.settle.new.answer
    (c.settle.ensures
    ∙ ap (λ (ls : List SendLane). judged c.self.inside.answer ((end_of j.history).has_finish && every j.lanes (is_done_in j.history)) (every j.lanes (is_out_in j.history ls))) c.deref.ensures.value
    ∙ answer_is (record (seen c.self.inside).plain { planned = j.planned; lanes = lanes; history = j.history }) j.lanes (ap (λ (k : Ledger). k.lanes) c.linked-conn.ensures.noted ∙ sym c.self.invariant.same ∙ sym (length-set c.self.inside.lanes.items c.args.lane.0 x)))
    (ap (λ (k : Ledger). k.planned) c.linked-conn.ensures.noted)
    (ap (λ (k : Ledger). k.history) c.linked-conn.ensures.noted)
    (c.lanes-lanes.ensures.count ∙ sym c.self.invariant.same)
    (ap not (c.is_listed-ask.ensures ∙ ap (λ (v : EndView). is_some v.plain.have) (sym c.self.view_is)))
    (ap (λ (n : ℕ). record { 0 = n }) c.linked-conn.ensures.conn))
