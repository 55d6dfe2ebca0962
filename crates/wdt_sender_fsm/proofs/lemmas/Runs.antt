-- Whatever steps its lanes take, in whatever order, a sender's history is legal.
use Rattle.std.proofs.Common.{◌≡◌, ℕ, ◌<◌, ◌≤◌, List, [], ◌∷◌, length, replicate, subst, sym, ◌∙◌}
use Rattle.std.specs.List.{All}
use Rattle.std.proofs.lemmas.List.{length-replicate}
use Rattle.std.proofs.lemmas.List.Elements.{All-head, All-tail}
use Rattle.wdt_tree.specs.declared.entry.Entry.{Entry}
use Rattle.wdt_sender_fsm.specs.Legal.{IsLegal}
use Rattle.wdt_sender_fsm.specs.PlainSender.{PlainSender, blocks_of, new_lane, opened}
use Rattle.wdt_sender_fsm.specs.Runs.{LaneStep, IsStepOf, after_steps}
use Rattle.wdt_sender_fsm.specs.Sender.{IsSender}
use Rattle.wdt_sender_fsm.specs.Turn.{send_turn}
use Rattle.wdt_sender_fsm.proofs.lemmas.Touching.{turn_touches}
use Rattle.wdt_sender_fsm.proofs.lemmas.Turns.{opens, turn_keeps}

-- a sender of n lanes
record IsSenderOf (n : ℕ) (s : PlainSender) : Type 0 where
  pub sender : IsSender s
  pub lanes : length s.lanes ≡ n

run_keeps : (n : ℕ) (s : PlainSender) (steps : List LaneStep) → IsSenderOf n s → All (IsStepOf n) steps → IsSenderOf n (after_steps s steps)
run_keeps n s [] is fit = is
run_keeps n s (step ∷ steps) is fit =
    let first : IsStepOf n step = All-head (IsStepOf n) step steps fit in
    run_keeps n (send_turn s step.0 step.1).1 steps
    record {
      sender = turn_keeps s step.0 step.1 is.sender (subst (λ (k : ℕ). step.0.0 < k) (sym is.lanes) first.0) first.1;
      lanes = (turn_touches s step.0 step.1).lanes ∙ is.lanes;
    }
    (All-tail (IsStepOf n) step steps fit)

pub run_legal : (manifest : List Entry) (block session n : ℕ) (steps : List LaneStep) → 1 ≤ n → All (IsStepOf n) steps → IsLegal n (blocks_of (after_steps (opened manifest block session (replicate n new_lane)) steps)) (after_steps (opened manifest block session (replicate n new_lane)) steps).history
run_legal manifest block session n steps some fit =
    let end : PlainSender = after_steps (opened manifest block session (replicate n new_lane)) steps in
    let is : IsSenderOf n (after_steps (opened manifest block session (replicate n new_lane)) steps) =
    run_keeps n (opened manifest block session (replicate n new_lane)) steps record { sender = opens manifest block session n some; lanes = length-replicate n new_lane } fit in
    subst (λ (k : ℕ). IsLegal k (blocks_of (after_steps (opened manifest block session (replicate n new_lane)) steps)) (after_steps (opened manifest block session (replicate n new_lane)) steps).history) is.lanes is.sender.legal
