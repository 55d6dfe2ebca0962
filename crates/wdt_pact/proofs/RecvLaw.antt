-- A step of the receiver's lane, whatever it holds.
use Rattle.std.proofs.Common.{◌≡◌, ℕ, ◌<◌, List, length, Option, None, subst, sym, refl}
use Rattle.wdt_units.specs.declared.blocks.Block.{Block}
use Rattle.wdt_sender_fsm.specs.declared.events.SendEvent.{SendEvent}
use Rattle.wdt_sender_fsm.specs.Legal.{IsLegal, IsSound}
use Rattle.wdt_sender_fsm.specs.SenderHistory.{past_of as sent_past}
use Rattle.wdt_receiver_fsm.specs.declared.acts.RecvAct.{RecvAct}
use Rattle.wdt_receiver_fsm.specs.declared.acts.RecvAct.TheVariants as recv_acts
use Rattle.wdt_receiver_fsm.specs.declared.inputs.RecvIn.TheVariants as recv_inputs
use Rattle.wdt_receiver_fsm.specs.PlainReceiver.{PlainReceiver, lane_at, past_at}
use Rattle.wdt_receiver_fsm.specs.Turn.{Bytes, Given, Put, turn_plan}
use Rattle.wdt_receiver_fsm.specs.Writes.{CanTell, FitsPut}
use Rattle.wdt_pact.specs.Belongs.{RecvBelongs, RecvBelongsAt, RecvFits}
use Rattle.wdt_pact.specs.Pairs.{RecvHold, RecvDoes, RecvHas, RecvTook}
use Rattle.wdt_pact.specs.World.{PlainWorld, number, pair_at, recv_steps, recv_steps_by, recv_turn, recv_turned, recv_woken, some_bytes}
use Rattle.wdt_pact.specs.Conversation.{Conversation}
use Rattle.wdt_pact.specs.Finishing.{Finishing}
use Rattle.wdt_pact.proofs.Connecting.{accept_keeps}
use Rattle.wdt_pact.proofs.Frame.{pair_keeps}
use Rattle.wdt_pact.proofs.RecvAll.{turn_all}
use Rattle.wdt_pact.proofs.RecvHands.{Hands}
use Rattle.wdt_pact.proofs.RecvHearing.{recv_read_keeps}
use Rattle.wdt_pact.proofs.RecvRows.{ends_in}
use Rattle.wdt_pact.proofs.RecvWriting.{recv_write_keeps}
use Rattle.wdt_pact.proofs.Taking.{recv_take_keeps}

-- ---- how the ends fit together

-- a lane that waits on has changed nothing
woken_keeps : (P : PlainWorld → Type 0) (w : PlainWorld) (l : ℕ) (act : RecvAct) (r : PlainReceiver) → P w → P (recv_turned w l (act, r)) → P (recv_woken w l (act, r))
woken_keeps P w l recv_acts.Park r c x = c
woken_keeps P w l act r c x = x

module _ (sounds : (n : ℕ) (planned : List Block) (h : List SendEvent) (l : ℕ) → IsLegal n planned h → IsSound (sent_past h l)) (w : PlainWorld) (l : ℕ) (broken : Option ℕ) (c : Conversation w) (f : Finishing w) (within : l < length w.pairs) (tells : CanTell w.receiver) (belongs : RecvBelongsAt w l) (fits : RecvFits (pair_at w l).recv) where
  turn_keeps : (put : Put) → FitsPut put → Hands (pair_at w l).recv put → Conversation (recv_turned w l (recv_turn w.receiver l put broken))
  turn_keeps put fits hands = turn_all sounds w l c f within tells put fits hands belongs (recv_turn w.receiver l put broken) (ends_in (turn_plan w.receiver (number l) put) broken)

  -- an act, which no program of calls has a part in
  acts_so : (act : RecvAct) → (pair_at w l).recv ≡ RecvDoes act → (recv_steps_by w l None (RecvDoes act) ≡ recv_steps_by w l broken (RecvDoes act)) → Conversation (recv_steps w l None) → Conversation (recv_steps w l broken)
  acts_so act holds same x =
      subst (λ (h : RecvHold). Conversation (recv_steps_by w l broken h)) (sym holds) (subst Conversation same (subst (λ (h : RecvHold). Conversation (recv_steps_by w l None h)) holds x))

  input_fits : (input : _) → RecvFits (RecvHas input) → FitsPut (Given input)
  input_fits (recv_inputs.Got frame) e = e
  input_fits input e = tt

  pub recv_keeps : Conversation (recv_steps w l broken)
  recv_keeps = go (pair_at w l).recv refl where
    has : (h : RecvHold) → (pair_at w l).recv ≡ h → RecvBelongs h (lane_at w.receiver l) (past_at w.receiver l)
    has h is = subst (λ (x : RecvHold). RecvBelongs x (lane_at w.receiver l) (past_at w.receiver l)) is belongs

    go : (h : RecvHold) → (pair_at w l).recv ≡ h → Conversation (recv_steps w l broken)
    go (RecvDoes recv_acts.Accept) is = acts_so recv_acts.Accept is refl (accept_keeps w l c within (has (RecvDoes recv_acts.Accept) is) is)
    go (RecvDoes (recv_acts.Write frame)) is = recv_write_keeps w l c within frame is (has (RecvDoes (recv_acts.Write frame)) is) broken
    go (RecvDoes recv_acts.Read) is = recv_read_keeps w l broken c within (has (RecvDoes recv_acts.Read) is) is
    go (RecvDoes (recv_acts.TakePiece n)) is = recv_take_keeps w l n broken c within (has (RecvDoes (recv_acts.TakePiece n)) is).at is
    go (RecvDoes recv_acts.Park) is =
        subst (λ (x : RecvHold). Conversation (recv_steps_by w l broken x)) (sym is)
        (woken_keeps Conversation w l (recv_turn w.receiver l (Given recv_inputs.Woken) broken).0 (recv_turn w.receiver l (Given recv_inputs.Woken) broken).1 c
        (turn_keeps (Given recv_inputs.Woken) tt (subst (λ (x : RecvHold). Hands x (Given recv_inputs.Woken)) (sym is) refl)))
    go (RecvDoes recv_acts.Stop) is =
        subst (λ (x : RecvHold). Conversation (recv_steps_by w l broken x)) (sym is)
        (pair_keeps w l (pair_at w l) c within (c.lanes l within))
    go (RecvHas input) is =
        subst (λ (x : RecvHold). Conversation (recv_steps_by w l broken x)) (sym is)
        (turn_keeps (Given input) (input_fits input (subst RecvFits is fits)) (subst (λ (x : RecvHold). Hands x (Given input)) (sym is) refl))
    go (RecvTook n) is =
        subst (λ (x : RecvHold). Conversation (recv_steps_by w l broken x)) (sym is)
        (turn_keeps (Bytes (some_bytes n)) tt (subst (λ (x : RecvHold). Hands x (Bytes (some_bytes n))) (sym is) refl))
