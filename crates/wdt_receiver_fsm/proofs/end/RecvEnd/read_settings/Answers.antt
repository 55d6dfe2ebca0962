use Rattle.std.proofs.Common.{ℕ, Option, sym, ap, ◌∙◌}
use Rattle.wdt_codec.specs.declared.frames.Settings.{Settings}
use Rattle.wdt_receiver_fsm.specs.declared.states.RecvLane.{RecvLane}
use Rattle.wdt_receiver_fsm.specs.Frames.{settings_fault}
use Rattle.wdt_receiver_fsm.specs.ReceiverHistory.{end_of}
use Rattle.wdt_receiver_fsm.specs.Turn.{greets_with}
use Rattle.wdt_receiver_fsm.specs.End.{lane_in, plain_with}
use Rattle.wdt_receiver_fsm.proofs.Results.{if_ok}
use Rattle.wdt_receiver_fsm.proofs.end.RecvEnd.read_settings.Goals as goal

pub returns-in-Some-clause-ok : goal.returns-in-Some-clause-ok
returns-in-Some-clause-ok c =
    let old = c.args.self.now in
    let l = c.args.lane.0 in
    let s = c.args.settings in
    if_ok c.find_fault.result _ _ (λ act e books. ap (greets_with (plain_with old books) c.args.lane s)
    (ap (λ (n : ℕ). settings_fault n (end_of old.history).met l (lane_in old l).conn s) (sym c.count.ensures)
    ∙ ap (λ (m : Option Settings). settings_fault c.count.result m l (lane_in old l).conn s) (sym c.met.ensures)
    ∙ ap (λ (x : RecvLane). settings_fault c.count.result c.met.result l x.conn s) (sym c.lane-conn.ensures)
    ∙ sym c.settings_fault.ensures ∙ c.in-Some.is) ∙ e books) c.find_fault.ensures.ok
