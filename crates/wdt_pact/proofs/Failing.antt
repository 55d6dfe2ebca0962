-- A sender's lane whose end fails says so, or ends.
use Rattle.std.proofs.Common.{◌≡◌, inl, ℕ, ◌<◌, Bool, true, false, not, if◌then◌else◌, List, [], ◌∷◌, ◌++◌, length, Option, Some, None, is_some, subst, sym, ap, refl}
use Rattle.std.proofs.lemmas.List.{length-set}
use Rattle.wdt_units.specs.declared.blocks.Header.{Header}
use Rattle.wdt_codec.specs.Frames.{Fits}
use Rattle.wdt_codec.specs.declared.frames.Frame.{Frame}
use Rattle.wdt_codec.specs.declared.frames.Frame.TheVariants as frames
use Rattle.wdt_sender_fsm.specs.declared.acts.SendAct.{SendAct}
use Rattle.wdt_sender_fsm.specs.declared.acts.SendAct.TheVariants as acts
use Rattle.wdt_sender_fsm.specs.declared.answers.EndAnswer.TheVariants as answers
use Rattle.wdt_sender_fsm.specs.declared.inputs.SendIn.TheVariants as inputs
use Rattle.wdt_sender_fsm.specs.declared.states.SendLane.{SendLane}
use Rattle.wdt_sender_fsm.specs.declared.states.SendState.{SendState}
use Rattle.wdt_sender_fsm.specs.declared.states.SendState.TheVariants as states
use Rattle.wdt_sender_fsm.specs.Phases.{Open, Message, down, up, is_abort, over_if}
use Rattle.wdt_sender_fsm.specs.PlainSender.{PlainSender, lane_at, state_at, past_at, is_closed, failed, with_lane}
use Rattle.wdt_sender_fsm.specs.Rows.{SourceLost, row_of}
use Rattle.wdt_sender_fsm.specs.Rules.{is_failure}
use Rattle.wdt_sender_fsm.specs.Sender.{IsSender}
use Rattle.wdt_sender_fsm.specs.SenderHistory.{LanePast}
use Rattle.wdt_sender_fsm.specs.Turn.{Step, send_turn}
use Rattle.wdt_pact.proofs.Below.{one_talker}
use Rattle.wdt_pact.specs.Links.{Link}
use Rattle.wdt_pact.specs.Pairs.{SendHold, SendDoes, SendHas, RecvHold, Pair, send_takes, top_by}
use Rattle.wdt_pact.specs.World.{PlainWorld, pair_at, number, send_steps, send_steps_by, send_turned}
use Rattle.wdt_pact.specs.Stances.{Stance, Talks, Aborts, Silent, Agrees, OnLink, is_abort_down, is_any, is_calm, IsLate, recv_stance, send_stance, stand}
use Rattle.wdt_pact.specs.Each.{Each}
use Rattle.wdt_pact.specs.Lists.{in_hand, UnsentBy}
use Rattle.wdt_pact.specs.Conversation.{Common, Sending, Receiving, Converses, Conversation, AllTell, Tells, NotesBy, IsNoMarks, common, sending, receiving, send_in_hand, upward_by}
use Rattle.wdt_pact.proofs.Links.{falls_silent, fails_soon, up_calms}
use Rattle.wdt_pact.proofs.Lists.{lists_weaker}
use Rattle.wdt_pact.proofs.Promised.{SenderKeeps}
use Rattle.wdt_pact.proofs.Frame.{row_turn, send_turn_keeps, sending_own_still, sending_other_still}

-- ---- the talk

pub silenced : (s r : Stance) (ds : List Message) (us : List Frame) → OnLink s r ds us → OnLink Silent r ds us
silenced (Talks s) r ds us a = falls_silent down up is_abort_down is_abort is_calm is_any one_talker s r ds us a
silenced Aborts (Talks r) ds us a = inl record { at = a.at; moves = a.moves }
silenced Aborts Aborts ds us a = tt
silenced Aborts Silent ds us a = tt
silenced Silent r ds us a = a

-- a lane that talks in a calm phase may tell of a failure; and one that is to tell it goes on to
abbrev pub MayTell : Stance → Type 0
MayTell (Talks p) = is_calm p ≡ true
MayTell Aborts = Unit {0}
MayTell Silent = ⊥

tells : (s r : Stance) (ds : List Message) (us : List Frame) → MayTell s → OnLink s r ds us → OnLink Aborts r ds us
tells (Talks s) r ds us may a = fails_soon down up is_abort_down is_abort is_calm is_any one_talker up_calms s r ds us may a
tells Aborts r ds us may a = a
tells Silent r ds us may a = absurd may

pub all_silenced : (s r : Stance) (taken : Option Link) (between : List Link) (newest : Option Link) → Agrees s r taken between newest → Agrees Silent r taken between newest
all_silenced s r None between None a = record { on_taken = (refl, a.on_taken.1); waiting = a.waiting; on_newest = tt }
all_silenced s r (Some k) between None a = record { on_taken = silenced s r k.down.sent k.up.sent a.on_taken; waiting = a.waiting; on_newest = tt }
all_silenced s r taken between (Some t) a = record { on_taken = a.on_taken; waiting = a.waiting; on_newest = silenced s (Talks Open) t.down.sent t.up.sent a.on_newest }

no_silence : {P : Type 0} (s : Stance) → MayTell s → s ≡ Silent → P
no_silence s may e = absurd (subst MayTell e may)

pub all_tell : (s r : Stance) (taken : Option Link) (between : List Link) (newest : Option Link) → MayTell s → Agrees s r taken between newest → Agrees Aborts r taken between newest
all_tell s r None between None may a = no_silence s may a.on_taken.0
all_tell s r (Some k) between None may a = record { on_taken = tells s r k.down.sent k.up.sent may a.on_taken; waiting = a.waiting; on_newest = tt }
all_tell s r taken between (Some t) may a = record { on_taken = a.on_taken; waiting = a.waiting; on_newest = tells s (Talks Open) t.down.sent t.up.sent may a.on_newest }

each_behind : (P : Frame → Type 0) (xs ys : List Frame) → Each P (xs ++ ys) → Each P ys
each_behind P [] ys e = e
each_behind P (x ∷ xs) ys e = each_behind P xs ys e.1

-- ---- the lane's part

-- a lane that gives up ends, or is to tell of the failure; whatever it held
pub gives_up_here : (g : Common) (l : ℕ) (st : SendState) (mute : Bool) (code : ℕ) (ask : Bool) (past : LanePast) (kept : List Header) (r : Receiving) (sh : SendHold) (rh : RecvHold) (taken : Option Link) (between : List Link) (newest : Option Link) (denies refusals : ℕ)
    → past.is_acked ≡ false → (mute ≡ false → MayTell (send_stance record { state = st; ask = ask } past.is_acked sh))
    → Converses g l record { lane = record { state = st; ask = ask }; past = past; kept = kept } r record { send = sh; recv = rh; taken = taken; between = between; newest = newest; denies = denies; refusals = refusals }
    → Converses g l record { lane = record { state = if mute then states.Ended else states.SendAbort; ask = ask }; past = past; kept = kept } r record { send = SendDoes (if mute then acts.Stop else acts.Write (frames.Abort code)); recv = rh; taken = taken; between = between; newest = newest; denies = denies; refusals = refusals }
gives_up_here g l st true code ask past kept r sh rh taken between newest denies refusals acked may c =
    record {
      agrees = subst (λ (x : Bool). Agrees (stand false (over_if x)) (recv_stance r.lane r.past.is_idle r.past.is_acked rh) taken between newest) (sym acked)
          (all_silenced (send_stance record { state = st; ask = ask } past.is_acked sh) (recv_stance r.lane r.past.is_idle r.past.is_acked rh) taken between newest c.agrees);
      lists = lists_weaker (recv_stance r.lane r.past.is_idle r.past.is_acked rh) taken kept r.landed r.begun (in_hand rh) (UnsentBy newest st sh) (UnsentBy newest states.Ended (SendDoes acts.Stop)) (unsent newest) c.lists;
      sure = c.sure;
      upward = subst (λ (x : Bool). AllTell (stand false (over_if x)) (Tells g l r.landed) (upward_by newest taken (SendDoes acts.Stop) rh)) (sym acked) tt;
      fits = each_behind Fits (send_in_hand sh) _ c.fits;
      notes = notes_none newest taken;
      closed = c.closed;
      asked = c.asked;
      finished = λ e. let f = c.finished e in record { same = f.same; holds = f.holds };
      pieces = c.pieces;
      waits = c.waits;
      idle = λ e. let x = c.idle e in record { same = x.same; holds = x.holds; late = λ y. subst (λ (z : Bool). IsLate (stand false (over_if z))) (sym acked) tt; quiet = subst (λ (z : Bool). AllTell (stand false (over_if z)) IsNoMarks (upward_by newest taken (SendDoes acts.Stop) rh)) (sym acked) tt };
      shut = c.shut;
      heard_up = tt;
      heard_down = c.heard_down;
    } where
      unsent : (newest : Option Link) (rest : List Header) → UnsentBy newest st sh rest → UnsentBy newest states.Ended (SendDoes acts.Stop) rest
      unsent None rest e = tt
      unsent (Some t) rest e = e

      notes_none : (newest taken : Option Link) → NotesBy states.Ended (SendDoes acts.Stop) past (top_by newest taken)
      notes_none None None = tt
      notes_none None (Some k) = tt
      notes_none (Some t) taken = tt
gives_up_here g l st false code ask past kept r sh rh taken between newest denies refusals acked may c =
    record {
      agrees = all_tell (send_stance record { state = st; ask = ask } past.is_acked sh) (recv_stance r.lane r.past.is_idle r.past.is_acked rh) taken between newest (may refl) c.agrees;
      lists = lists_weaker (recv_stance r.lane r.past.is_idle r.past.is_acked rh) taken kept r.landed r.begun (in_hand rh) (UnsentBy newest st sh) (UnsentBy newest states.SendAbort (SendDoes (acts.Write (frames.Abort code)))) (unsent newest) c.lists;
      sure = c.sure;
      upward = tt;
      fits = each_behind Fits (send_in_hand sh) _ c.fits;
      notes = notes_none newest taken;
      closed = c.closed;
      asked = c.asked;
      finished = λ e. let f = c.finished e in record { same = f.same; holds = f.holds };
      pieces = c.pieces;
      waits = c.waits;
      idle = λ e. let x = c.idle e in record { same = x.same; holds = x.holds; late = λ y. tt; quiet = tt };
      shut = c.shut;
      heard_up = tt;
      heard_down = c.heard_down;
    } where
      unsent : (newest : Option Link) (rest : List Header) → UnsentBy newest st sh rest → UnsentBy newest states.SendAbort (SendDoes (acts.Write (frames.Abort code))) rest
      unsent None rest e = tt
      unsent (Some t) rest e = e

      notes_none : (newest taken : Option Link) → NotesBy states.SendAbort (SendDoes (acts.Write (frames.Abort code))) past (top_by newest taken)
      notes_none None None = tt
      notes_none None (Some k) = tt
      notes_none (Some t) taken = tt

-- ---- the source fails

lost_turn : (s : PlainSender) (l : ℕ) (unwritten : Bool) → state_at s l ≡ states.SendBlocks → is_closed s l ≡ false → is_failure s.answer ≡ false
    → send_turn s (number l) (inputs.SourceLost unwritten) ≡ (if not unwritten then acts.Stop else acts.Write (frames.Abort 2), with_lane (failed s answers.Source) (number l) record { state = if not unwritten then states.Ended else states.SendAbort; ask = (lane_at s l).ask })
lost_turn s l true here opens sound = row_turn s l (inputs.SourceLost true) (SourceLost true) (ap (λ (x : SendState). row_of x (inputs.SourceLost true)) here) refl refl opens sound
lost_turn s l false here opens sound = row_turn s l (inputs.SourceLost false) (SourceLost false) (ap (λ (x : SendState). row_of x (inputs.SourceLost false)) here) refl refl opens sound

may_lose : (unwritten ask acked : Bool) → not unwritten ≡ false → MayTell (send_stance record { state = states.SendBlocks; ask = ask } acked (SendHas (inputs.SourceLost unwritten)))
may_lose true ask acked e = tt
may_lose false ask acked e = cc

pub source_keeps : SenderKeeps → (w : PlainWorld) (l : ℕ) (lost : Option ℕ) (unwritten : Bool) → Conversation w → l < length w.pairs → state_at w.sender l ≡ states.SendBlocks → (past_at w.sender l).claims.closed ≡ None → (past_at w.sender l).is_acked ≡ false → is_failure w.sender.answer ≡ false → (pair_at w l).send ≡ SendHas (inputs.SourceLost unwritten) → Conversation (send_steps w l lost)
source_keeps keeps w l lost unwritten c within here opens acked sound holds =
    subst (λ (x : SendHold). Conversation (send_steps_by w l lost x)) (sym holds)
    (subst (λ (x : Step). Conversation (send_turned w l (inputs.SourceLost unwritten) x)) (sym is)
    (send_turn_keeps w l (inputs.SourceLost unwritten) act after c within
    (subst (λ (x : Step). IsSender x.1) is (keeps w.sender (number l) (inputs.SourceLost unwritten) c.sender below tt))
    (length-set w.sender.lanes l new)
    (λ k ne. sending_other_still (failed w.sender answers.Source) l k new ne)
    (subst (λ (x : Sending). Converses (common w.receiver) l x (receiving w.receiver l) (send_takes p (inputs.SourceLost unwritten) (past_at after l).is_greeted act)) (sym (sending_own_still (failed w.sender answers.Source) l new below))
    (gives_up_here (common w.receiver) l states.SendBlocks (not unwritten) 2 ask (past_at w.sender l) (sending w.sender l).kept (receiving w.receiver l) (SendHas (inputs.SourceLost unwritten)) p.recv p.taken p.between p.newest p.denies p.refusals acked
    (may_lose unwritten ask (past_at w.sender l).is_acked) at)))) where
      p : Pair
      p = pair_at w l

      ask : Bool
      ask = (lane_at w.sender l).ask

      new : SendLane
      new = record { state = if not unwritten then states.Ended else states.SendAbort; ask = ask }

      act : SendAct
      act = if not unwritten then acts.Stop else acts.Write (frames.Abort 2)

      after : PlainSender
      after = with_lane (failed w.sender answers.Source) (number l) new

      below : l < length w.sender.lanes
      below = subst (λ (n : ℕ). l < n) (sym c.send_lanes) within

      is : send_turn w.sender (number l) (inputs.SourceLost unwritten) ≡ (act, after)
      is = lost_turn w.sender l unwritten here (ap is_some opens) sound

      at : Converses (common w.receiver) l record { lane = record { state = states.SendBlocks; ask = ask }; past = past_at w.sender l; kept = (sending w.sender l).kept } (receiving w.receiver l) record { send = SendHas (inputs.SourceLost unwritten); recv = p.recv; taken = p.taken; between = p.between; newest = p.newest; denies = p.denies; refusals = p.refusals }
      at =
          subst (λ (x : SendState). Converses (common w.receiver) l (record (sending w.sender l) { lane = record { state = x; ask = ask } }) (receiving w.receiver l) record p { send = SendHas (inputs.SourceLost unwritten) }) here
          (subst (λ (x : SendHold). Converses (common w.receiver) l (sending w.sender l) (receiving w.receiver l) record p { send = x }) holds (c.lanes l within))
