-- A sender's lane has lost its connection, and dials again or is given up.
use Rattle.std.proofs.Common.{◌≡◌, ◌≢◌, ℕ, ◌<◌, ◌≤◌, Bool, true, false, List, [], ◌∷◌, length, map, Option, Some, None, is_some, subst, sym, ap, ◌∙◌, refl, append_assoc}
use Rattle.std.proofs.lemmas.Bool.{ne_eqb}
use Rattle.std.proofs.lemmas.List.{length-set}
use Rattle.wdt_units.specs.declared.blocks.Block.{Block}
use Rattle.wdt_claims.specs.LaneWords.{Claims}
use Rattle.wdt_units.specs.declared.blocks.Header.{Header}
use Rattle.wdt_units.specs.declared.numbers.Conn.{Conn}
use Rattle.wdt_sender_fsm.specs.declared.acts.SendAct.{SendAct}
use Rattle.wdt_sender_fsm.specs.declared.acts.SendAct.TheVariants as acts
use Rattle.wdt_sender_fsm.specs.declared.inputs.SendIn.TheVariants as inputs
use Rattle.wdt_sender_fsm.specs.declared.states.SendState.{SendState}
use Rattle.wdt_sender_fsm.specs.declared.states.SendState.TheVariants as states
use Rattle.wdt_sender_fsm.specs.Phases.{over_if}
use Rattle.wdt_sender_fsm.specs.Rows.{Dropped, row_of}
use Rattle.wdt_sender_fsm.specs.SenderHistory.{EndPast, LanePast, end_of, past_from}
use Rattle.wdt_sender_fsm.specs.declared.events.SendEvent.{SendEvent}
use Rattle.wdt_sender_fsm.specs.declared.events.SendEvent.TheVariants as events
use Rattle.wdt_sender_fsm.specs.PlainSender.{PlainSender, goes, is_closed, lane_at, lane_or_ended, noted, past_at, state_at}
use Rattle.wdt_sender_fsm.specs.Rules.{is_failure}
use Rattle.wdt_sender_fsm.specs.Sender.{Fares}
use Rattle.wdt_sender_fsm.specs.Turn.{is_used_up, next_conn, redial, redial_by, send_turn}
use Rattle.wdt_pact.specs.World.{PlainWorld, number, pair_at, send_steps}
use Rattle.wdt_pact.proofs.Below.{get_set, set_other}
use Rattle.wdt_pact.proofs.Frame.{row_turn}
use Rattle.wdt_pact.proofs.Promised.{SenderKeeps}
use Rattle.wdt_pact.proofs.Rows.{fares_in, put_behind, stands_in, turn_keeps}
use Rattle.wdt_pact.specs.Links.{Link}
use Rattle.wdt_pact.specs.Pairs.{SendDoes, SendHas, RecvHold, Pair, send_takes, top_by}
use Rattle.wdt_pact.specs.Stances.{has_link, IsLate, stand, Agrees, recv_stance}
use Rattle.wdt_pact.specs.Lists.{in_hand, AskedBy, UnsentBy, Unsent}
use Rattle.wdt_pact.specs.Conversation.{Common, Sending, Receiving, Converses, AllTell, Tells, upward_by, NotesBy, IsNoMarks, Conversation, common, receiving, sending, sending_of, sent_header}
use Rattle.wdt_pact.proofs.Lists.{lists_weaker}

lost_row : (st : SendState) → has_link st ≡ true → row_of st inputs.Lost ≡ Dropped
lost_row states.Connect e = cc
lost_row states.SendAbort e = cc
lost_row states.Ended e = cc
lost_row st e = refl

lost_rest : (st : SendState) (rest : List Header) → has_link st ≡ true → Unsent st (SendHas inputs.Lost) rest → rest ≡ []
lost_rest states.Connect rest e x = x
lost_rest states.SendAbort rest e x = cc
lost_rest states.Ended rest e x = cc
lost_rest st rest e x = x

unsent : (newest : Option Link) (st after : SendState) (act : SendAct) → has_link st ≡ true → ((rest : List Header) → rest ≡ [] → Unsent after (SendDoes act) rest) → (rest : List Header) → UnsentBy newest st (SendHas inputs.Lost) rest → UnsentBy newest after (SendDoes act) rest
unsent None st after act e f rest x = f rest (lost_rest st rest e x)
unsent (Some t) st after act e f rest x = x

abbrev lost : RecvHold → Option Link → List Link → Option Link → ℕ → ℕ → Pair
lost rh taken between newest denies refusals = record { send = SendHas inputs.Lost; recv = rh; taken = taken; between = between; newest = newest; denies = denies; refusals = refusals }

-- a lane that lost its connection stands without a phase in another state
abbrev state_by : Bool → SendState
state_by true = states.Ended
state_by false = states.Connect

abbrev act_by : Bool → Conn → SendAct
act_by true c = acts.Stop
act_by false c = acts.Dial c

abbrev at_state : SendState → Bool → LanePast → List Header → Sending
at_state st ask past kept = record { lane = record { state = st; ask = ask }; past = past; kept = kept }

pub loses_here : (g : Common) (l : ℕ) (st : SendState) (used : Bool) (conn : Conn) (ask : Bool) (past later : LanePast) (kept : List Header) (r : Receiving) (rh : RecvHold) (taken : Option Link) (between : List Link) (newest : Option Link) (denies refusals : ℕ) (b : Bool)
    → has_link st ≡ true → later.claims ≡ past.claims → later.is_acked ≡ false
    → Converses g l (at_state st ask past kept) r (lost rh taken between newest denies refusals)
    → Converses g l (at_state (state_by used) ask later kept) r (send_takes (lost rh taken between newest denies refusals) inputs.Lost b (act_by used conn))
loses_here g l st true conn ask past later kept r rh taken between newest denies refusals b up claims acked c =
    record {
      agrees = subst (λ (x : Bool). Agrees (stand false (over_if x)) (recv_stance r.lane r.past.is_idle r.past.is_acked rh) taken between newest) (sym acked) c.agrees;
      lists = lists_weaker (recv_stance r.lane r.past.is_idle r.past.is_acked rh) taken kept r.landed r.begun (in_hand rh) (UnsentBy newest st (SendHas inputs.Lost)) (UnsentBy newest states.Ended (SendDoes acts.Stop)) (unsent newest st states.Ended acts.Stop up (λ rest e. tt)) c.lists;
      sure = subst (λ (x : Claims). x.sure ≤ length r.landed) (sym claims) c.sure;
      upward = subst (λ (x : Bool). AllTell (stand false (over_if x)) (Tells g l r.landed) (upward_by newest taken (SendDoes acts.Stop) rh)) (sym acked) tt;
      fits = c.fits;
      notes = notes_none newest taken;
      closed = λ e. c.closed (subst (λ (x : Claims). is_some x.closed ≡ true) claims e);
      asked = subst (λ (x : Claims). AskedBy (recv_stance r.lane r.past.is_idle r.past.is_acked rh) taken kept r.landed r.begun (in_hand rh) x.held) (sym claims) c.asked;
      finished = λ e. let f = c.finished e in record { same = f.same; holds = subst (λ (x : Claims). x.held ≡ false) (sym claims) f.holds };
      pieces = c.pieces;
      waits = c.waits;
      idle = λ e. let x = c.idle e in record { same = x.same; holds = subst (λ (y : Claims). y.held ≡ false) (sym claims) x.holds; late = λ y. subst (λ (z : Bool). IsLate (stand false (over_if z))) (sym acked) tt; quiet = subst (λ (z : Bool). AllTell (stand false (over_if z)) IsNoMarks (upward_by newest taken (SendDoes acts.Stop) rh)) (sym acked) tt };
      shut = c.shut;
      heard_up = tt;
      heard_down = c.heard_down;
    } where
      notes_none : (newest taken : Option Link) → NotesBy states.Ended (SendDoes acts.Stop) later (top_by newest taken)
      notes_none None None = tt
      notes_none None (Some k) = tt
      notes_none (Some t) taken = tt
loses_here g l st false conn ask past later kept r rh taken between newest denies refusals b up claims acked c =
    record {
      agrees = c.agrees;
      lists = lists_weaker (recv_stance r.lane r.past.is_idle r.past.is_acked rh) taken kept r.landed r.begun (in_hand rh) (UnsentBy newest st (SendHas inputs.Lost)) (UnsentBy newest states.Connect (SendDoes (acts.Dial conn))) (unsent newest st states.Connect (acts.Dial conn) up (λ rest e. e)) c.lists;
      sure = subst (λ (x : Claims). x.sure ≤ length r.landed) (sym claims) c.sure;
      upward = tt;
      fits = c.fits;
      notes = notes_none newest taken;
      closed = λ e. c.closed (subst (λ (x : Claims). is_some x.closed ≡ true) claims e);
      asked = subst (λ (x : Claims). AskedBy (recv_stance r.lane r.past.is_idle r.past.is_acked rh) taken kept r.landed r.begun (in_hand rh) x.held) (sym claims) c.asked;
      finished = λ e. let f = c.finished e in record { same = f.same; holds = subst (λ (x : Claims). x.held ≡ false) (sym claims) f.holds };
      pieces = c.pieces;
      waits = c.waits;
      idle = λ e. let x = c.idle e in record { same = x.same; holds = subst (λ (y : Claims). y.held ≡ false) (sym claims) x.holds; late = λ y. tt; quiet = tt };
      shut = c.shut;
      heard_up = tt;
      heard_down = c.heard_down;
    } where
      notes_none : (newest taken : Option Link) → NotesBy states.Connect (SendDoes (acts.Dial conn)) later (top_by newest taken)
      notes_none None None = tt
      notes_none None (Some k) = tt
      notes_none (Some t) taken = tt

-- ---- the step

-- a lane that has a connection isn't acknowledged
acked_in : (failed : Bool) (st : SendState) (ask : Bool) (past : LanePast) (end : EndPast) → has_link st ≡ true → Fares failed st ask past end → past.is_acked ≡ false
acked_in failed states.Connect ask past end e f = cc
acked_in failed states.SendSettings ask past end e f = f.goes_on.acked
acked_in failed states.ReadLocalCheckpoint ask past end e f = f.goes_on.acked
acked_in failed states.ReadFileChunks ask past end e f = f.goes_on.acked
acked_in failed states.SendSize ask past end e f = f.goes_on.acked
acked_in failed states.SendBlocks ask past end e f = f.goes_on.acked
acked_in failed states.SendDone ask past end e f = f.goes_on.acked
acked_in failed states.ReadReceiverCmd ask past end e f = f.goes_on.acked
acked_in failed states.AnswerDone ask past end e f = f.goes_on.acked
acked_in failed states.SendAbort ask past end e f = cc
acked_in failed states.Ended ask past end e f = cc

lost_turn : (s : PlainSender) (l : ℕ) (st : SendState) → has_link st ≡ true → state_at s l ≡ st → is_closed s l ≡ false → is_failure s.answer ≡ false → send_turn s (number l) inputs.Lost ≡ redial (noted s (events.Lost (number l) ∷ [])) (number l)
lost_turn s l st up here opens sound = row_turn s l inputs.Lost Dropped (ap (λ (x : SendState). row_of x inputs.Lost) here ∙ lost_row st up) refl refl opens sound

-- the entries, by whether the lane is given up
abbrev entries_by : Bool → ℕ → List SendEvent
entries_by true l = events.Lost (number l) ∷ events.Quit (number l) ∷ []
entries_by false l = events.Lost (number l) ∷ []

quiet_loss : (used : Bool) (l k : ℕ) (p : LanePast) → k ≢ l → past_from k p (entries_by used l) ≡ p
quiet_loss true l k p ne = rw (ne_eqb l k (λ e. ne (sym e))) refl
quiet_loss false l k p ne = rw (ne_eqb l k (λ e. ne (sym e))) refl

same_claims : (used : Bool) (l : ℕ) (p : LanePast) → (past_from l p (entries_by used l)).claims ≡ p.claims
same_claims true l p = refl
same_claims false l p = refl

same_acked : (used : Bool) (l : ℕ) (p : LanePast) → (past_from l p (entries_by used l)).is_acked ≡ p.is_acked
same_acked true l p = refl
same_acked false l p = refl

pub lost_keeps : SenderKeeps → (w : PlainWorld) (l : ℕ) (lost : Option ℕ) (st : SendState) → Conversation w → l < length w.pairs → has_link st ≡ true → state_at w.sender l ≡ st → (past_at w.sender l).claims.closed ≡ None → is_failure w.sender.answer ≡ false → (pair_at w l).send ≡ SendHas inputs.Lost → Conversation (send_steps w l lost)
lost_keeps keeps w l lost st c within up here opens sound holds = go (is_used_up (past_at mid l)) refl where
  p : Pair
  p = pair_at w l

  ask : Bool
  ask = (lane_at w.sender l).ask

  past : LanePast
  past = past_at w.sender l

  mid : PlainSender
  mid = noted w.sender (events.Lost (number l) ∷ [])

  conn : Conn
  conn = next_conn mid (number l)

  below : l < length w.sender.lanes
  below = subst (λ (n : ℕ). l < n) (sym c.send_lanes) within

  acked : past.is_acked ≡ false
  acked = acked_in (is_failure w.sender.answer) st ask past (end_of w.sender.history) up (fares_in w l st c within here opens)

  turn : (b : Bool) → is_used_up (past_at mid l) ≡ b → send_turn w.sender (number l) inputs.Lost ≡ redial_by mid (number l) b
  turn b is = lost_turn w.sender l st up here (ap is_some opens) sound ∙ ap (redial_by mid (number l)) is

  part : (used : Bool) → Converses (common w.receiver) l (stands_in w.sender l st) (receiving w.receiver l) (record p { send = SendHas inputs.Lost }) → Converses (common w.receiver) l (sending_of w.sender.manifest record { state = state_by used; ask = ask } (past_from l past (entries_by used l))) (receiving w.receiver l) (send_takes p inputs.Lost (past_from l past (entries_by used l)).is_greeted (act_by used conn))
  part used at =
      subst (λ (bs : List Block). Converses (common w.receiver) l record { lane = record { state = state_by used; ask = ask }; past = past_from l past (entries_by used l); kept = map (sent_header w.sender.manifest) bs } (receiving w.receiver l) (send_takes p inputs.Lost (past_from l past (entries_by used l)).is_greeted (act_by used conn))) (sym (ap (λ (x : Claims). x.kept) (same_claims used l past)))
      (loses_here (common w.receiver) l st used conn ask past (past_from l past (entries_by used l)) (sending w.sender l).kept (receiving w.receiver l) p.recv p.taken p.between p.newest p.denies p.refusals (past_from l past (entries_by used l)).is_greeted up (same_claims used l past) (same_acked used l past ∙ acked) at)

  go : (b : Bool) → is_used_up (past_at mid l) ≡ b → Conversation (send_steps w l lost)
  go true is =
      turn_keeps keeps w l lost st inputs.Lost (entries_by true l) acts.Stop (goes (noted mid (events.Quit (number l) ∷ [])) (number l) states.Ended) record { state = states.Ended; ask = ask } c within here holds tt (turn true is)
      record { manifest = refl; history = append_assoc w.sender.history (events.Lost (number l) ∷ []) (events.Quit (number l) ∷ []); lanes = length-set w.sender.lanes l record { state = states.Ended; ask = ask }; own = ap lane_or_ended (get_set w.sender.lanes l record { state = states.Ended; ask = ask } below); others = λ j ne. ap lane_or_ended (set_other w.sender.lanes l j record { state = states.Ended; ask = ask } ne) }
      (λ k q ne. quiet_loss true l k q ne) (part true)
  go false is =
      turn_keeps keeps w l lost st inputs.Lost (entries_by false l) (acts.Dial conn) (goes mid (number l) states.Connect) record { state = states.Connect; ask = ask } c within here holds tt (turn false is)
      (put_behind w.sender l record { state = states.Connect; ask = ask } (entries_by false l) below)
      (λ k q ne. quiet_loss false l k q ne) (part false)
