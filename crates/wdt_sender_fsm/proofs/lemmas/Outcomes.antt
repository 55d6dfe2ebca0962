-- When an end is done, when it has no lane left, and when the tree isn't sent.
use Rattle.std.proofs.Common.{◌≡◌, ℕ, List, Bool, true, false, Option, sym, ap, ◌∙◌, refl}
use Rattle.std.proofs.lemmas.Bool.{both_ways, and_parts}
use Rattle.wdt_units.specs.Have.{HaveFile}
use Rattle.wdt_units.specs.declared.numbers.Lane.{Lane}
use Rattle.wdt_sender_fsm.specs.declared.answers.EndAnswer.{EndAnswer}
use Rattle.wdt_sender_fsm.specs.declared.answers.EndAnswer.TheVariants as answers
use Rattle.wdt_sender_fsm.specs.declared.answers.RefusedKind.{RefusedKind}
use Rattle.wdt_sender_fsm.specs.declared.inputs.SendIn.{SendIn}
use Rattle.wdt_sender_fsm.specs.declared.states.SendState.{SendState}
use Rattle.wdt_sender_fsm.specs.declared.states.SendState.TheVariants as states
use Rattle.wdt_sender_fsm.specs.Causes.{Refuses, HasNoLane, has_all_done}
use Rattle.wdt_sender_fsm.specs.PlainSender.{PlainSender, state_at, is_closed, every_lane, is_done_with, is_out}
use Rattle.wdt_sender_fsm.specs.Rows.{Row, Listed, row_of}
use Rattle.wdt_sender_fsm.specs.Rules.{is_failure, standing, judged}
use Rattle.wdt_sender_fsm.specs.Sender.{IsSender}
use Rattle.wdt_sender_fsm.specs.SenderHistory.{end_of}
use Rattle.wdt_sender_fsm.specs.Turn.{Step, planned_by, listed_after, listed_in, turned, send_turn}
use Rattle.wdt_sender_fsm.proofs.lemmas.Steps.{served}

-- ---- done, and no lane left

pub done_only : (d o : Bool) → standing d o ≡ answers.Done → d ≡ true
done_only true o e = refl
done_only false true e = cc
done_only false false e = cc

link_only : (d o : Bool) → standing d o ≡ answers.Link → (d ≡ false) × (o ≡ true)
link_only true o e = cc
link_only false true e = (refl, refl)
link_only false false e = cc

judged_sound : (a : EndAnswer) (d o : Bool) → is_failure a ≡ false → judged a d o ≡ standing d o
judged_sound a d o sound = rw sound refl

follows_sound : (s : PlainSender) → IsSender s → is_failure s.answer ≡ false → s.answer ≡ standing (has_all_done s) (every_lane s is_out)
follows_sound s is sound = is.answer.follows ∙ judged_sound s.answer (has_all_done s) (every_lane s is_out) sound

pub done_means : (s : PlainSender) → IsSender s → s.answer ≡ answers.Done → has_all_done s ≡ true
done_means s is e = done_only (has_all_done s) (every_lane s is_out) (sym (follows_sound s is (ap is_failure e)) ∙ e)

pub means_done : (s : PlainSender) → IsSender s → has_all_done s ≡ true → s.answer ≡ answers.Done
means_done s is all = go (is_failure s.answer) refl where
  go : (b : Bool) → is_failure s.answer ≡ b → s.answer ≡ answers.Done
  go true fails = absurd (both_ways (every_lane s is_done_with) (is.answer.unfinished fails) (and_parts (end_of s.history).has_finish (every_lane s is_done_with) all).1)
  go false sound = follows_sound s is sound ∙ ap (λ (d : Bool). standing d (every_lane s is_out)) all

pub link_means : (s : PlainSender) → IsSender s → s.answer ≡ answers.Link → HasNoLane s
link_means s is e =
    let both = link_only (has_all_done s) (every_lane s is_out) (sym (follows_sound s is (ap is_failure e)) ∙ e) in
    record { sound = ap is_failure e; undone = both.0; out = both.1 }

pub means_link : (s : PlainSender) → IsSender s → HasNoLane s → s.answer ≡ answers.Link
means_link s is none = follows_sound s is none.sound ∙ ap (λ (d : Bool). standing d (every_lane s is_out)) none.undone ∙ ap (standing false) none.out

-- ---- the tree isn't sent

pub refuses : (s : PlainSender) (l : Lane) (input : SendIn) (kind : RefusedKind) → is_failure s.answer ≡ false → is_closed s l.0 ≡ false → Refuses s l.0 input kind → (send_turn s l input).1.answer ≡ answers.Refused kind
unfolding send_turn
refuses s l input kind sound opens r =
    let row : row_of (state_at s l.0) input ≡ Listed r.have = ap (λ (x : SendState). row_of x input) r.here ∙ ap (row_of states.ReadFileChunks) r.read in
    ap (λ (x : Row). (turned s l x).1.answer) row
    ∙ ap (λ (step : Step). step.1.answer) (served s l (Listed r.have) refl opens sound)
    ∙ ap (λ (o : Option ℕ). (listed_in s l r.have o).1.answer) r.ordered
    ∙ ap (λ (o : Option (List HaveFile)). (listed_after s l r.have o).1.answer) r.first
    ∙ ap (λ (o : Option RefusedKind). (planned_by s l r.have o).1.answer) r.refused
