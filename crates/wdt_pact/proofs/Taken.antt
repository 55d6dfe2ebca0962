-- A lane that may take the blocks that wait may still, behind an act of either end.
use Rattle.std.proofs.Common.{◌≡◌, ◌⊎◌, inl, inr, ℕ, zero, suc, ◌<◌, ◌||◌, Bool, true, false, List, [], ◌∷◌, ◌++◌, length, slice_set, Option, Some, None, subst, sym, ap, ◌∙◌, refl}
use Rattle.std.proofs.lemmas.Bool.{false_from_ne_true, or_from}
use Rattle.std.proofs.lemmas.List.{length-set}
use Rattle.wdt_sender_fsm.specs.declared.acts.SendAct.{SendAct}
use Rattle.wdt_sender_fsm.specs.Phases.{Message, Phase, Open, Sending as SendingPhase, Bye}
use Rattle.wdt_sender_fsm.specs.PlainSender.{state_at, waiting_blocks}
use Rattle.wdt_sender_fsm.specs.Rules.{is_failure}
use Rattle.wdt_receiver_fsm.specs.declared.acts.RecvAct.{RecvAct}
use Rattle.wdt_receiver_fsm.specs.declared.acts.RecvAct.TheVariants as recv_acts
use Rattle.wdt_receiver_fsm.specs.declared.inputs.RecvIn.TheVariants as recv_inputs
use Rattle.wdt_receiver_fsm.specs.declared.states.RecvState.{RecvState}
use Rattle.wdt_receiver_fsm.specs.declared.states.RecvState.TheVariants as recv_states
use Rattle.wdt_receiver_fsm.specs.PlainReceiver as recv
use Rattle.wdt_receiver_fsm.specs.PlainReceiver.{PlainReceiver, has_finish}
use Rattle.wdt_receiver_fsm.specs.Ready.{is_confirmed}
use Rattle.wdt_receiver_fsm.specs.Sets.{has}
use Rattle.wdt_pact.specs.Belongs.{RecvBelongs}
use Rattle.wdt_pact.specs.Each.{Each}
use Rattle.wdt_pact.specs.Finishing.{BusyBy, IsBusy, coming_on, down_sent, is_coming, receives_at, says_done, sends_at, telling}
use Rattle.wdt_pact.specs.Fitting.{IsSound}
use Rattle.wdt_pact.specs.Links.{Link}
use Rattle.wdt_pact.specs.Lists.{has_done, in_hand}
use Rattle.wdt_pact.specs.Pairs.{Pair, RecvHold, RecvDoes, RecvHas, SendDoes, recv_accepts, recv_accepts_by, recv_does, send_does, send_stops}
use Rattle.wdt_pact.specs.Progress.{Holds}
use Rattle.wdt_pact.specs.Stances.{Agree, AgreeWaiting, IsTalking, OnLink, Stance, Talks, Aborts, Silent, recv_stance}
use Rattle.wdt_pact.specs.World.{PlainWorld, pair_at, with_pair}
use Rattle.wdt_pact.proofs.Below.{if_has}
use Rattle.wdt_pact.proofs.Busy.{not_says}
use Rattle.wdt_pact.proofs.Coming.{NoWord, open_none, recv_reads_word, recv_takes_word, recv_writes_word, send_does_word}
use Rattle.wdt_pact.proofs.Finishing.{hears_down}
use Rattle.wdt_pact.proofs.Frame.{each_pair}
use Rattle.wdt_pact.proofs.Links.{is_first, waits_not}
use Rattle.wdt_pact.proofs.Moving.{lane_holds}
use Rattle.wdt_pact.proofs.Steps.{does_recv}
use Rattle.wdt_pact.proofs.TellingSteps.{acts_talk}

-- ---- a last word that is coming

-- on a lane of this receiver
abbrev pub coming_of : PlainReceiver → ℕ → Pair → Bool
coming_of r k p =
    coming_on (recv_stance (recv.lane_at r k) (recv.past_at r k).is_idle (recv.past_at r k).is_acked p.recv) (in_hand p.recv ++ down_sent p.taken)
    (says_done p.newest p.send)

pub not_coming : (rs : Stance) (ds : List Message) (says : Bool) → (IsTalking rs → (has_done ds || says) ≡ false) → coming_on rs ds says ≡ false
not_coming (Talks q) ds says f = f tt
not_coming Aborts ds says f = refl
not_coming Silent ds says f = refl

pub no_word : (rs : Stance) (ds : List Message) (says : Bool) → IsTalking rs → coming_on rs ds says ≡ false → (has_done ds || says) ≡ false
no_word (Talks q) ds says t e = e
no_word Aborts ds says t e = absurd t
no_word Silent ds says t e = absurd t

-- no word comes with this pair that didn't come before
pair_coming : (w : PlainWorld) (l : ℕ) (p : Pair) → l < length w.pairs → (is_coming w l ≡ false → coming_of w.receiver l p ≡ false) → (j : ℕ)
    → j < length w.pairs → is_coming w j ≡ false → is_coming (with_pair w l p) j ≡ false
pair_coming w l p within own j small =
    each_pair (λ (i : ℕ) (x : Pair). is_coming w i ≡ false → coming_of w.receiver i x ≡ false) w.pairs l p within own (λ i b ne e. e) j small

-- ---- a lane that is busy stays so

pub busy_on : (w v : PlainWorld) (k : ℕ) → length v.pairs ≡ length w.pairs → (recv.past_at v.receiver k).is_closed ≡ (recv.past_at w.receiver k).is_closed
    → ((recv.past_at w.receiver k).is_idle ≡ false → (recv.past_at v.receiver k).is_idle ≡ false)
    → (BusyBy true w k → is_confirmed v.receiver.history k ≡ false) → ((j : ℕ) → j < length w.pairs → has (telling v j) k ≡ true → has (telling w j) k ≡ true)
    → ((j : ℕ) → j < length w.pairs → is_coming w j ≡ false → is_coming v j ≡ false) → k < length w.pairs → IsBusy w k → IsBusy v k
busy_on w v k many closed idle confirmed told coming small busy = subst (λ (b : Bool). BusyBy b v k) (sym closed) (go (recv.past_at w.receiver k).is_closed busy) where
  go : (b : Bool) → BusyBy b w k → BusyBy b v k
  go true x = (confirmed x, λ j b e. let s : j < length w.pairs = subst (λ (n : ℕ). j < n) many b in coming j s (x.1 j s (told j s e)))
  go false x = (idle x.0, coming k small x.1)

abbrev pub Witness : PlainWorld → Type 0
Witness w = is_failure w.receiver.answer ≡ false → (waiting_blocks w.sender ≡ [] → ⊥) → (l : ℕ) × (l < length w.pairs) × IsBusy w l

-- a step that leaves both ends, and lets no word come
pub pair_witness : (w : PlainWorld) (l : ℕ) (p : Pair) → l < length w.pairs → (is_coming w l ≡ false → coming_of w.receiver l p ≡ false) → Witness w
    → Witness (with_pair w l p)
pair_witness w l p within own f sound waits =
    let x = f sound waits in
    let many : length (slice_set w.pairs l p) ≡ length w.pairs = length-set w.pairs l p in
    (x.0, subst (λ (n : ℕ). x.0 < n) (sym many) x.1, busy_on w (with_pair w l p) x.0 many refl (λ e. e) (λ y. y.0) (λ j s e. e) (pair_coming w l p within own) x.1 x.2)

-- ---- an act of the sender's lane

pub send_act_coming : (w : PlainWorld) (l : ℕ) (lost : Option ℕ) (act : SendAct) → (pair_at w l).send ≡ SendDoes act → is_coming w l ≡ false
    → coming_of w.receiver l (send_does (pair_at w l) lost act) ≡ false
send_act_coming w l lost act is none =
    not_coming _ _ _ (λ t. send_does_word (pair_at w l) lost act is
    (no_word (receives_at w l) (in_hand (pair_at w l).recv ++ down_sent (pair_at w l).taken) (says_done (pair_at w l).newest (pair_at w l).send)
    (subst IsTalking (ap (recv_stance (recv.lane_at w.receiver l) (recv.past_at w.receiver l).is_idle (recv.past_at w.receiver l).is_acked) (does_recv (pair_at w l) lost act)) t) none))

-- ---- an act of the receiver's lane

module _ (w : PlainWorld) (l : ℕ) (s : IsSound w) (within : l < length w.pairs) where
  h : Holds (sends_at w l) (receives_at w l) (state_at w.sender l) (recv.state_at w.receiver l) (pair_at w l)
  h = lane_holds w l s within

  abbrev None-comes : Pair → Type 0
  None-comes p = coming_of w.receiver l p ≡ false

  -- a connection is taken
  abbrev linked : Stance
  linked = recv_stance (recv.lane_at w.receiver l) (recv.past_at w.receiver l).is_idle (recv.past_at w.receiver l).is_acked (RecvHas recv_inputs.Linked)

  accepts_by : recv.state_at w.receiver l ≡ recv_states.Listen → (pair_at w l).recv ≡ RecvDoes recv_acts.Accept → (bs : List Link) (o : Option Link)
      → (pair_at w l).between ≡ bs → (pair_at w l).newest ≡ o → None-comes (recv_accepts_by (pair_at w l) bs o)
  accepts_by here holds (k ∷ ks) o between newest =
      let at = s.talk.lanes l within in
      not_coming linked k.down.sent (says_done (pair_at w l).newest (pair_at w l).send)
      (λ t. or_from (has_done k.down.sent) (says_done (pair_at w l).newest (pair_at w l).send)
      (open_none k.down.sent (subst (Each (Agree Silent (Talks Open))) between at.agrees.waiting).0) (waits_on (pair_at w l).newest refl)) where
        waits_on : (x : Option Link) → (pair_at w l).newest ≡ x → says_done x (pair_at w l).send ≡ false
        waits_on None e = let y : k ∷ ks ≡ [] = sym between ∙ (s.talk.lanes l within).waits.order e in cc
        waits_on (Some j) e = refl
  accepts_by here holds [] (Some k) between newest =
      let waiting : Agree (sends_at w l) (Talks Open) k = subst (AgreeWaiting (sends_at w l)) newest (s.talk.lanes l within).agrees.on_newest in
      not_coming linked k.down.sent (says_done None (pair_at w l).send)
      (λ t. or_from (has_done k.down.sent) (says_done None (pair_at w l).send) (open_none k.down.sent (hears_down (sends_at w l) Open k.down.sent k.up.sent waiting))
      (false_from_ne_true (says_done None (pair_at w l).send) (λ e.
      let y = not_says None (pair_at w l).send (sends_at w l) e h.send_writes in
      waits_not y.1.0 k.down.sent k.up.sent (subst (λ (st : Stance). OnLink st (Talks Open) k.down.sent k.up.sent) y.1.1 waiting) (late y.1.0 y.1.2)))) where
        late : (p : Phase) → (p ≡ SendingPhase) ⊎ (p ≡ Bye) → is_first p ≡ false
        late p (inl e) = ap is_first e
        late p (inr e) = ap is_first e
  accepts_by here holds [] None between newest =
      if_has None-comes (send_stops (pair_at w l).send) (record (pair_at w l) { recv = RecvHas recv_inputs.NoLink }) (pair_at w l) refl
      (not_coming (receives_at w l) (in_hand (pair_at w l).recv ++ down_sent (pair_at w l).taken) (says_done (pair_at w l).newest (pair_at w l).send) (λ t. absurd (subst (λ (st : RecvState). IsTalking (recv_stance (record (recv.lane_at w.receiver l) { state = st }) (recv.past_at w.receiver l).is_idle (recv.past_at w.receiver l).is_acked (RecvDoes recv_acts.Accept))) here
      (subst (λ (x : RecvHold). IsTalking (recv_stance (recv.lane_at w.receiver l) (recv.past_at w.receiver l).is_idle (recv.past_at w.receiver l).is_acked x)) holds t))))

  accepts : recv.state_at w.receiver l ≡ recv_states.Listen → (pair_at w l).recv ≡ RecvDoes recv_acts.Accept → (n : ℕ)
      → None-comes (recv_accepts (pair_at w l) n)
  accepts here holds (suc n) = refl
  accepts here holds zero = accepts_by here holds (pair_at w l).between (pair_at w l).newest refl refl

  pub recv_act_coming : (act : RecvAct) → (pair_at w l).recv ≡ RecvDoes act → is_coming w l ≡ false → None-comes (recv_does (pair_at w l) act)
  recv_act_coming act is none = go act is where
    quiet : IsTalking (receives_at w l) → NoWord (pair_at w l)
    quiet t = no_word (receives_at w l) (in_hand (pair_at w l).recv ++ down_sent (pair_at w l).taken) (says_done (pair_at w l).newest (pair_at w l).send) t none

    go : (a : RecvAct) → (pair_at w l).recv ≡ RecvDoes a → None-comes (recv_does (pair_at w l) a)
    go recv_acts.Accept e =
        accepts (subst (λ (y : RecvHold). RecvBelongs y (recv.lane_at w.receiver l) (recv.past_at w.receiver l)) e (s.belongs.recv l within)) e
        (pair_at w l).refusals
    go (recv_acts.Write f) e =
        not_coming _ _ _ (λ t. recv_writes_word (pair_at w l) f (pair_at w l).taken refl (quiet (acts_talk w l s within (recv_acts.Write f) e refl t)))
    go recv_acts.Read e =
        not_coming _ _ _
        (λ t. recv_reads_word (pair_at w l) (pair_at w l).taken refl (ap in_hand e) (quiet (acts_talk w l s within recv_acts.Read e refl t)))
    go (recv_acts.TakePiece n) e =
        not_coming _ _ _
        (λ t. recv_takes_word (pair_at w l) (pair_at w l).taken refl (ap in_hand e) (quiet (acts_talk w l s within (recv_acts.TakePiece n) e refl t)))
    go recv_acts.Park e = none
    go recv_acts.Stop e = none
