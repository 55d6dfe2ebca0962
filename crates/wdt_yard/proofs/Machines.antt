-- A step as a turn of a machine.
use Rattle.std.proofs.Common.{◌≡◌, ℕ, suc, ◌+◌, ◌≤◌, Bool, true, false, List, [], ◌∷◌, ◌++◌, length, Some, if◌then◌else◌, refl, ap, ◌∙◌, subst, arith}
use Rattle.std.specs.List.{All}
use Rattle.std.proofs.lemmas.List.{length-append}
use Rattle.wdt_units.specs.Lanes.{AllOf}
use Rattle.wdt_units.specs.declared.numbers.Lane.{Lane}
use Rattle.wdt_sender_fsm.specs.declared.acts.SendAct.{SendAct}
use Rattle.wdt_sender_fsm.specs.declared.events.SendEvent.{SendEvent}
use Rattle.wdt_sender_fsm.specs.declared.inputs.SendIn.{SendIn}
use Rattle.wdt_sender_fsm.specs.Causes.{Follows}
use Rattle.wdt_sender_fsm.specs.PlainSender.{PlainSender, blocks_of, lane_at}
use Rattle.wdt_sender_fsm.specs.Rules.{is_failure}
use Rattle.wdt_sender_fsm.specs.Sender.{IsSender}
use Rattle.wdt_sender_fsm.specs.SenderHistory.{lane_of}
use Rattle.wdt_sender_fsm.specs.Touches.{Touches}
use Rattle.wdt_sender_fsm.specs.Turn.{Step, send_turn}
use Rattle.wdt_yard.specs.Turns.{IsLegalOfSome, IsTurn, count_of}

pub legal_of_some : (s : PlainSender) → IsSender s → IsLegalOfSome s.history
legal_of_some s is = record { lanes = length s.lanes; planned = blocks_of s; legal = is.legal }

all_of : (l : ℕ) (es : List SendEvent) → All (λ e. lane_of e ≡ l) es → AllOf (λ e. Some (lane_of e)) l es
all_of l [] all = tt
all_of l (e ∷ es) all = (all 0 e (omega arith), all_of l es (λ k d lt. all (suc k) d (omega (arith, lt))))

counted : (a b : Bool) (n m k : ℕ) → (a ≡ true → b ≡ true) → k ≡ n + m → n + (if a then 1 else 0) + m ≤ k + (if b then 1 else 0)
counted true b n m k stays e = rw (stays refl) (omega (arith, e))
counted false true n m k stays e = omega (arith, e)
counted false false n m k stays e = omega (arith, e)

-- what a step does, by the history and the lane's stand
pub turned_so : (s : PlainSender) (l : Lane) (put : SendIn) (act : SendAct) (t : PlainSender) → send_turn s l put ≡ (act, t) → Touches s l put (send_turn s l put).1 → Follows s l put (send_turn s l put).1
    → (more : List SendEvent) × (t.history ≡ s.history ++ more) × AllOf (λ e. Some (lane_of e)) l.0 more × (count_of s + length more ≤ count_of t) × IsTurn l.0 put s.history (lane_at s l.0) act more (lane_at t l.0)
turned_so s l put act t e touched followed =
    let behind : (send_turn s l put).1 ≡ t = ap (λ (step : Step). step.1) e in
    let touches = subst (λ (x : PlainSender). Touches s l put x) behind touched in
    let follows = subst (λ (x : PlainSender). Follows s l put x) behind followed in
    let more = touches.history.entries in (
      more,
      touches.history.behind,
      all_of l.0 more touches.history.own,
      counted (is_failure s.answer) (is_failure t.answer) (length s.history) (length more) (length t.history) (λ failed. ap is_failure (follows.stays failed) ∙ failed) (ap length touches.history.behind ∙ length-append s.history more),
      record { of = l; number = refl; sender = s; behind = t; history = refl; stands = refl; step = e; noted = touches.history.behind; stays = refl },
    )
