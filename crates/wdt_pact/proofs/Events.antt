-- A step of either end, by what its lane holds: an act, or an input that is handed in.
use Rattle.std.proofs.Common.{◌≡◌, ℕ, Option, subst, sym, refl}
use Rattle.wdt_sender_fsm.specs.declared.acts.SendAct.{SendAct}
use Rattle.wdt_sender_fsm.specs.declared.inputs.SendIn.{SendIn}
use Rattle.wdt_sender_fsm.specs.Turn.{send_turn}
use Rattle.wdt_receiver_fsm.specs.declared.acts.RecvAct.{RecvAct}
use Rattle.wdt_receiver_fsm.specs.declared.acts.RecvAct.TheVariants as recv_acts
use Rattle.wdt_receiver_fsm.specs.declared.inputs.RecvIn.TheVariants as recv_inputs
use Rattle.wdt_receiver_fsm.specs.PlainReceiver.{PlainReceiver}
use Rattle.wdt_receiver_fsm.specs.Turn.{Bytes, Given, Put}
use Rattle.wdt_pact.specs.Pairs.{SendHold, SendDoes, SendHas, RecvHold, RecvDoes, RecvHas, RecvTook, recv_does, send_does}
use Rattle.wdt_pact.specs.World.{PlainWorld, number, pair_at, recv_steps, recv_steps_by, recv_turn, recv_turned, recv_woken, send_steps, send_steps_by, send_turned, some_bytes, with_pair}
use Rattle.wdt_pact.proofs.RecvHands.{Hands}

-- of a sender's lane
pub send_cases : (P : PlainWorld → Type 0) (w : PlainWorld) (l : ℕ) (lost : Option ℕ)
    → ((act : SendAct) → (pair_at w l).send ≡ SendDoes act → P (with_pair w l (send_does (pair_at w l) lost act)))
    → ((input : SendIn) → (pair_at w l).send ≡ SendHas input → P (send_turned w l input (send_turn w.sender (number l) input)))
    → P (send_steps w l lost)
send_cases P w l lost acts turns = go (pair_at w l).send refl where
  go : (h : SendHold) → (pair_at w l).send ≡ h → P (send_steps w l lost)
  go (SendDoes act) is = subst (λ (x : SendHold). P (send_steps_by w l lost x)) (sym is) (acts act is)
  go (SendHas input) is = subst (λ (x : SendHold). P (send_steps_by w l lost x)) (sym is) (turns input is)

-- a lane that waits on has changed nothing
woken : (P : PlainWorld → Type 0) (w : PlainWorld) (l : ℕ) (act : RecvAct) (r : PlainReceiver) → P w → P (recv_turned w l (act, r))
    → P (recv_woken w l (act, r))
woken P w l recv_acts.Park r c x = c
woken P w l act r c x = x

-- of a receiver's lane, where nothing changes, too
pub recv_cases : (P : PlainWorld → Type 0) (w : PlainWorld) (l : ℕ) (broken : Option ℕ) → P w
    → ((act : RecvAct) → (pair_at w l).recv ≡ RecvDoes act → P (with_pair w l (recv_does (pair_at w l) act)))
    → ((put : Put) → Hands (pair_at w l).recv put → P (recv_turned w l (recv_turn w.receiver l put broken)))
    → P (recv_steps w l broken)
recv_cases P w l broken still acts turns = go (pair_at w l).recv refl where
  by : (h : RecvHold) → (pair_at w l).recv ≡ h → P (recv_steps_by w l broken h) → P (recv_steps w l broken)
  by h is x = subst (λ (y : RecvHold). P (recv_steps_by w l broken y)) (sym is) x

  handed : (h : RecvHold) (put : Put) → (pair_at w l).recv ≡ h → Hands h put → Hands (pair_at w l).recv put
  handed h put is hands = subst (λ (y : RecvHold). Hands y put) (sym is) hands

  go : (h : RecvHold) → (pair_at w l).recv ≡ h → P (recv_steps w l broken)
  go (RecvDoes recv_acts.Park) is =
      by (RecvDoes recv_acts.Park) is
      (woken P w l (recv_turn w.receiver l (Given recv_inputs.Woken) broken).0 (recv_turn w.receiver l (Given recv_inputs.Woken) broken).1 still (turns (Given recv_inputs.Woken) (handed (RecvDoes recv_acts.Park) (Given recv_inputs.Woken) is refl)))
  go (RecvDoes recv_acts.Accept) is = by (RecvDoes recv_acts.Accept) is (acts recv_acts.Accept is)
  go (RecvDoes (recv_acts.Write frame)) is = by (RecvDoes (recv_acts.Write frame)) is (acts (recv_acts.Write frame) is)
  go (RecvDoes recv_acts.Read) is = by (RecvDoes recv_acts.Read) is (acts recv_acts.Read is)
  go (RecvDoes (recv_acts.TakePiece n)) is = by (RecvDoes (recv_acts.TakePiece n)) is (acts (recv_acts.TakePiece n) is)
  go (RecvDoes recv_acts.Stop) is = by (RecvDoes recv_acts.Stop) is (acts recv_acts.Stop is)
  go (RecvHas input) is = by (RecvHas input) is (turns (Given input) (handed (RecvHas input) (Given input) is refl))
  go (RecvTook n) is = by (RecvTook n) is (turns (Bytes (some_bytes n)) (handed (RecvTook n) (Bytes (some_bytes n)) is refl))
