-- A step refuses the tree exactly where its lane reads what the tree isn't sent to.
use Rattle.std.proofs.Common.{◌<◌, length, subst}
use Rattle.wdt_units.specs.declared.numbers.Lane.{Lane}
use Rattle.wdt_sender_fsm.specs.declared.answers.EndAnswer.{EndAnswer}
use Rattle.wdt_sender_fsm.specs.declared.inputs.SendIn.{SendIn}
use Rattle.wdt_sender_fsm.specs.Causes.{IsCause, RefusesRightly}
use Rattle.wdt_sender_fsm.specs.PlainSender.{PlainSender}
use Rattle.wdt_sender_fsm.specs.Sender.{FitsIn, IsSender}
use Rattle.wdt_sender_fsm.specs.Turn.{send_turn}
use Rattle.wdt_sender_fsm.proofs.lemmas.Outcomes.{refuses}
use Rattle.wdt_sender_fsm.proofs.lemmas.Stopping.{turn_right}

pub refuses_rightly : (s : PlainSender) (l : Lane) (input : SendIn) → IsSender s → l.0 < length s.lanes → FitsIn input → RefusesRightly s l input (send_turn s l input).1
refuses_rightly s l input is within fit = record {
  exactly = λ kind sound open_is. (
    λ refused. subst (λ (a : EndAnswer). IsCause s l input (send_turn s l input).1.history a) refused ((turn_right s l input is within fit).follows.caused sound),
    λ reads. refuses s l input kind sound open_is reads,
  );
}
