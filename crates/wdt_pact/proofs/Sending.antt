-- A sender's lane goes on to its next state: the rows that change neither what it claimed nor what is on its way.
use Rattle.std.proofs.Common.{◌≡◌, ◌≢◌, ℕ, ◌+◌, ◌<◌, ◌≤◌, List, [], ◌∷◌, length, Bool, true, false, not, Option, Some, None, is_some, subst, sym, ap, ◌∙◌, refl, eq-eqb, append-nil}
use Rattle.std.proofs.lemmas.Bool.{ne_eqb}
use Rattle.wdt_units.specs.declared.blocks.Header.{Header}
use Rattle.wdt_units.specs.declared.numbers.Conn.{Conn}
use Rattle.wdt_claims.specs.LaneWords.{Claims}
use Rattle.wdt_codec.specs.declared.frames.Frame.{Frame}
use Rattle.wdt_codec.specs.declared.frames.Frame.TheVariants as frames
use Rattle.wdt_sender_fsm.specs.declared.acts.SendAct.{SendAct}
use Rattle.wdt_sender_fsm.specs.declared.acts.SendAct.TheVariants as acts
use Rattle.wdt_sender_fsm.specs.declared.events.SendEvent.TheVariants as events
use Rattle.wdt_sender_fsm.specs.declared.inputs.SendIn.TheVariants as inputs
use Rattle.wdt_sender_fsm.specs.declared.states.SendLane.{SendLane}
use Rattle.wdt_sender_fsm.specs.declared.states.SendState.{SendState}
use Rattle.wdt_sender_fsm.specs.declared.states.SendState.TheVariants as states
use Rattle.wdt_sender_fsm.specs.PlainSender.{PlainSender, lane_at, past_at, state_at, is_closed, least_queued, noted, settings_of, with_lane}
use Rattle.wdt_sender_fsm.specs.Rows.{Linked, SettingsWritten, SizeWritten, Waits as WaitsRow, row_of}
use Rattle.wdt_sender_fsm.specs.Rules.{is_failure}
use Rattle.wdt_sender_fsm.specs.SenderHistory.{LanePast, past_after}
use Rattle.wdt_sender_fsm.specs.Turn.{next_by, next_conn, send_turn}
use Rattle.wdt_pact.specs.Links.{Link, note_greeted}
use Rattle.wdt_pact.specs.Pairs.{SendHold, SendDoes, SendHas, RecvHold, Pair, send_takes, top_by}
use Rattle.wdt_pact.specs.World.{PlainWorld, number, pair_at, send_steps}
use Rattle.wdt_pact.specs.Stances.{recv_stance}
use Rattle.wdt_pact.specs.Lists.{AskedBy, in_hand, UnsentBy}
use Rattle.wdt_pact.specs.Conversation.{Common, Sending, Receiving, Converses, Conversation, NotesBy, common, receiving, sending, sending_of}
use Rattle.wdt_pact.proofs.Frame.{row_turn}
use Rattle.wdt_pact.proofs.Promised.{SenderKeeps}
use Rattle.wdt_pact.proofs.Lists.{lists_weaker}
use Rattle.wdt_pact.proofs.Rows.{put_still, turn_keeps, entry_keeps}

-- ---- a frame was read by which nothing changes of what the connection knows

pub noted_same : (held : SendHold) (f : Frame) (b : Bool) (act : SendAct) (rh : RecvHold) (taken : Option Link) (between : List Link) (newest : Option Link) (denies refusals : ℕ) → ((k : Link) → top_by newest taken ≡ Some k → k.greeted ≡ b)
    → ◌≡◌ {A = Pair} record { send = SendDoes act; recv = rh; taken = taken; between = between; newest = newest; denies = denies; refusals = refusals } (send_takes record { send = held; recv = rh; taken = taken; between = between; newest = newest; denies = denies; refusals = refusals } (inputs.Got f) b act)
noted_same held f b act rh None between None denies refusals same = refl
noted_same held f b act rh (Some k) between None denies refusals same =
    ap (λ (x : Bool). record { send = SendDoes act; recv = rh; taken = Some (note_greeted x k); between = between; newest = None; denies = denies; refusals = refusals }) (same k refl)
noted_same held f b act rh taken between (Some t) denies refusals same =
    ap (λ (x : Bool). record { send = SendDoes act; recv = rh; taken = taken; between = between; newest = Some (note_greeted x t); denies = denies; refusals = refusals }) (same t refl)

-- ---- what the sender says of itself is written

pub settings_keeps : SenderKeeps → (w : PlainWorld) (l : ℕ) (lost : Option ℕ) → Conversation w → l < length w.pairs → state_at w.sender l ≡ states.SendSettings → (past_at w.sender l).claims.closed ≡ None → is_failure w.sender.answer ≡ false → (pair_at w l).send ≡ SendHas inputs.Wrote → Conversation (send_steps w l lost)
settings_keeps keeps w l lost c within here opens sound holds =
    turn_keeps keeps w l lost states.SendSettings inputs.Wrote [] acts.Read (with_lane w.sender (number l) new) new c within here holds tt
    (row_turn w.sender l inputs.Wrote SettingsWritten (ap (λ (x : SendState). row_of x inputs.Wrote) here) refl refl (ap is_some opens) sound)
    (put_still w.sender l new (subst (λ (n : ℕ). l < n) (sym c.send_lanes) within))
    (λ k p ne. refl)
    (λ at. record {
      agrees = at.agrees;
      lists = at.lists;
      sure = at.sure;
      upward = at.upward;
      fits = at.fits;
      notes = at.notes;
      closed = λ x. let f = at.closed x in record { there = f.there; same = f.same };
      asked = at.asked;
      finished = λ x. let f = at.finished x in record { same = f.same; holds = f.holds };
      pieces = at.pieces;
      waits = at.waits;
      idle = at.idle;
      shut = at.shut;
      heard_up = tt;
      heard_down = at.heard_down;
    }) where
      new : SendLane
      new = record { state = states.ReadLocalCheckpoint; ask = (lane_at w.sender l).ask }

-- ---- a connection stands

linked_turn : (s : PlainSender) (l : ℕ) → state_at s l ≡ states.Connect → is_closed s l ≡ false → is_failure s.answer ≡ false
    → send_turn s (number l) inputs.Linked ≡ (acts.Write (settings_of s (number l) (next_conn s (number l)) (not (is_some s.have))), with_lane (noted s (events.Linked (number l) (next_conn s (number l)) ∷ [])) (number l) record { state = states.SendSettings; ask = not (is_some s.have) })
linked_turn s l here opens sound = row_turn s l inputs.Linked Linked (ap (λ (x : SendState). row_of x inputs.Linked) here) refl refl opens sound

quiet_link : (k l : ℕ) (c : Conn) (p : LanePast) → k ≢ l → past_after k p (events.Linked (number l) c) ≡ p
quiet_link k l c p ne = rw (ne_eqb l k (λ e. ne (sym e))) refl

abbrev linked_past : LanePast → LanePast
linked_past p = record p { connections = p.connections + 1; is_up = true; is_greeted = false; has_finish = false }

link_there : (l : ℕ) (c : Conn) (p : LanePast) → past_after l p (events.Linked (number l) c) ≡ linked_past p
link_there l c p = rw (eq-eqb l l refl) refl

abbrev connecting : Bool → LanePast → List Header → Sending
connecting ask past kept = record { lane = record { state = states.Connect; ask = ask }; past = past; kept = kept }

abbrev linked : RecvHold → Option Link → List Link → Option Link → ℕ → ℕ → Pair
linked rh taken between newest denies refusals = record { send = SendHas inputs.Linked; recv = rh; taken = taken; between = between; newest = newest; denies = denies; refusals = refusals }

-- the lane's part
links_here : (g : Common) (l : ℕ) (old ask : Bool) (past after : LanePast) (kept : List Header) (r : Receiving) (rh : RecvHold) (taken : Option Link) (between : List Link) (newest : Option Link) (denies refusals : ℕ) (b : Bool) (f : Frame)
    → after.claims ≡ past.claims → after.is_greeted ≡ false
    → Converses g l (connecting old past kept) r (linked rh taken between newest denies refusals)
    → Converses g l record { lane = record { state = states.SendSettings; ask = ask }; past = after; kept = kept } r (send_takes (linked rh taken between newest denies refusals) inputs.Linked b (acts.Write f))
links_here g l old ask past after kept r rh taken between newest denies refusals b f claims fresh c =
    record {
      agrees = c.agrees;
      lists = lists_weaker (recv_stance r.lane r.past.is_idle r.past.is_acked rh) taken kept r.landed r.begun (in_hand rh) (UnsentBy newest states.Connect (SendHas inputs.Linked)) (UnsentBy newest states.SendSettings (SendDoes (acts.Write f))) (unsent newest) c.lists;
      sure = subst (λ (x : Claims). x.sure ≤ length r.landed) (sym claims) c.sure;
      upward = c.upward;
      fits = c.fits;
      notes = notes newest taken c.notes;
      closed = λ e. c.closed (subst (λ (x : Claims). is_some x.closed ≡ true) claims e);
      asked = subst (λ (x : Claims). AskedBy (recv_stance r.lane r.past.is_idle r.past.is_acked rh) taken kept r.landed r.begun (in_hand rh) x.held) (sym claims) c.asked;
      finished = λ e. let x = c.finished e in record { same = x.same; holds = subst (λ (y : Claims). y.held ≡ false) (sym claims) x.holds };
      pieces = c.pieces;
      waits = c.waits;
      idle = λ e. let x = c.idle e in record { same = x.same; holds = subst (λ (y : Claims). y.held ≡ false) (sym claims) x.holds; late = x.late; quiet = x.quiet };
      shut = c.shut;
      heard_up = tt;
      heard_down = c.heard_down;
    } where
      unsent : (newest : Option Link) (rest : List Header) → UnsentBy newest states.Connect (SendHas inputs.Linked) rest → UnsentBy newest states.SendSettings (SendDoes (acts.Write f)) rest
      unsent None rest e = e
      unsent (Some t) rest e = e

      notes : (newest taken : Option Link) → NotesBy states.Connect (SendHas inputs.Linked) past (top_by newest taken) → NotesBy states.SendSettings (SendDoes (acts.Write f)) after (top_by newest taken)
      notes None None e = tt
      notes None (Some k) e = e ∙ sym fresh
      notes (Some t) taken e = e ∙ sym fresh

pub linked_keeps : SenderKeeps → (w : PlainWorld) (l : ℕ) (lost : Option ℕ) → Conversation w → l < length w.pairs → state_at w.sender l ≡ states.Connect → (past_at w.sender l).claims.closed ≡ None → is_failure w.sender.answer ≡ false → (pair_at w l).send ≡ SendHas inputs.Linked → Conversation (send_steps w l lost)
linked_keeps keeps w l lost c within here opens sound holds =
    entry_keeps keeps w l lost states.Connect inputs.Linked (events.Linked (number l) conn) (acts.Write (settings_of w.sender (number l) conn ask)) new c within here holds tt
    (linked_turn w.sender l here (ap is_some opens) sound)
    (λ k p ne. quiet_link k l conn p ne)
    (λ at. subst (λ (x : LanePast). Converses (common w.receiver) l (sending_of w.sender.manifest new x) (receiving w.receiver l) (send_takes (pair_at w l) inputs.Linked x.is_greeted (acts.Write (settings_of w.sender (number l) conn ask)))) (sym (link_there l conn (past_at w.sender l)))
    (links_here (common w.receiver) l (lane_at w.sender l).ask ask (past_at w.sender l) (linked_past (past_at w.sender l)) (sending w.sender l).kept (receiving w.receiver l) (pair_at w l).recv (pair_at w l).taken (pair_at w l).between (pair_at w l).newest (pair_at w l).denies (pair_at w l).refusals false (settings_of w.sender (number l) conn ask) refl refl at)) where
      conn : Conn
      conn = next_conn w.sender (number l)

      ask : Bool
      ask = not (is_some w.sender.have)

      new : SendLane
      new = record { state = states.SendSettings; ask = ask }

-- ---- no block waits: the last word is to be written

emptied_turn : (s : PlainSender) (l : ℕ) → state_at s l ≡ states.SendSize → is_closed s l ≡ false → is_failure s.answer ≡ false → least_queued s ≡ None
    → send_turn s (number l) inputs.Wrote ≡ (acts.Write frames.Done, with_lane s (number l) record { state = states.SendDone; ask = (lane_at s l).ask })
emptied_turn s l here opens sound least =
    row_turn s l inputs.Wrote SizeWritten (ap (λ (x : SendState). row_of x inputs.Wrote) here) refl refl opens sound
    ∙ ap (next_by s (number l)) least

pub emptied_keeps : SenderKeeps → (w : PlainWorld) (l : ℕ) (lost : Option ℕ) → Conversation w → l < length w.pairs → state_at w.sender l ≡ states.SendSize → (past_at w.sender l).claims.closed ≡ None → is_failure w.sender.answer ≡ false → (pair_at w l).send ≡ SendHas inputs.Wrote → least_queued w.sender ≡ None → Conversation (send_steps w l lost)
emptied_keeps keeps w l lost c within here opens sound holds least =
    turn_keeps keeps w l lost states.SendSize inputs.Wrote [] (acts.Write frames.Done) (with_lane w.sender (number l) new) new c within here holds tt
    (emptied_turn w.sender l here (ap is_some opens) sound least)
    (put_still w.sender l new (subst (λ (n : ℕ). l < n) (sym c.send_lanes) within))
    (λ k p ne. refl)
    (λ at. record {
      agrees = at.agrees;
      lists = at.lists;
      sure = at.sure;
      upward = at.upward;
      fits = at.fits;
      notes = at.notes;
      closed = λ x. let f = at.closed x in record { there = f.there; same = f.same };
      asked = at.asked;
      finished = λ x. let f = at.finished x in record { same = f.same; holds = f.holds };
      pieces = at.pieces;
      waits = at.waits;
      idle = at.idle;
      shut = at.shut;
      heard_up = tt;
      heard_down = at.heard_down;
    }) where
      new : SendLane
      new = record { state = states.SendDone; ask = (lane_at w.sender l).ask }

-- ---- the receiver has the sender wait

wait_turn : (s : PlainSender) (l : ℕ) → state_at s l ≡ states.ReadReceiverCmd → is_closed s l ≡ false → is_failure s.answer ≡ false → send_turn s (number l) (inputs.Got frames.Wait) ≡ (acts.Read, s)
wait_turn s l here opens sound = row_turn s l (inputs.Got frames.Wait) WaitsRow (ap (λ (x : SendState). row_of x (inputs.Got frames.Wait)) here) refl refl opens sound

abbrev waiting : Bool → LanePast → List Header → Sending
waiting ask past kept = record { lane = record { state = states.ReadReceiverCmd; ask = ask }; past = past; kept = kept }

waits_here : (g : Common) (l : ℕ) (ask : Bool) (past : LanePast) (kept : List Header) (r : Receiving) (rh : RecvHold) (taken : Option Link) (between : List Link) (newest : Option Link) (denies refusals : ℕ)
    → Converses g l (waiting ask past kept) r record { send = SendHas (inputs.Got frames.Wait); recv = rh; taken = taken; between = between; newest = newest; denies = denies; refusals = refusals }
    → Converses g l (waiting ask past kept) r record { send = SendDoes acts.Read; recv = rh; taken = taken; between = between; newest = newest; denies = denies; refusals = refusals }
waits_here g l ask past kept r rh taken between newest denies refusals c =
    record {
      agrees = c.agrees;
      lists = lists_weaker (recv_stance r.lane r.past.is_idle r.past.is_acked rh) taken kept r.landed r.begun (in_hand rh) (UnsentBy newest states.ReadReceiverCmd (SendHas (inputs.Got frames.Wait))) (UnsentBy newest states.ReadReceiverCmd (SendDoes acts.Read)) (unsent newest) c.lists;
      sure = c.sure;
      upward = c.upward.1;
      fits = c.fits.1;
      notes = notes newest taken c.notes;
      closed = c.closed;
      asked = c.asked;
      finished = c.finished;
      pieces = c.pieces;
      waits = c.waits;
      idle = λ e. let x = c.idle e in record { same = x.same; holds = x.holds; late = λ y. refl; quiet = x.quiet.1 };
      shut = c.shut;
      heard_up = tt;
      heard_down = c.heard_down;
    } where
      unsent : (newest : Option Link) (rest : List Header) → UnsentBy newest states.ReadReceiverCmd (SendHas (inputs.Got frames.Wait)) rest → UnsentBy newest states.ReadReceiverCmd (SendDoes acts.Read) rest
      unsent None rest e = e
      unsent (Some t) rest e = e

      notes : (newest taken : Option Link) → NotesBy states.ReadReceiverCmd (SendHas (inputs.Got frames.Wait)) past (top_by newest taken) → NotesBy states.ReadReceiverCmd (SendDoes acts.Read) past (top_by newest taken)
      notes None None e = tt
      notes None (Some k) e = e
      notes (Some t) taken e = e

-- the connection knows what the lane does
told_of : (held : SendHold) (past : LanePast) (newest taken : Option Link) → NotesBy states.ReadReceiverCmd held past (top_by newest taken) → (k : Link) → top_by newest taken ≡ Some k → k.greeted ≡ past.is_greeted
told_of held past None (Some j) n k e = subst (λ (o : Option Link). NotesBy states.ReadReceiverCmd held past o) e n
told_of held past None None n k e = cc
told_of held past (Some t) taken n k e = subst (λ (o : Option Link). NotesBy states.ReadReceiverCmd held past o) e n

pub wait_keeps : SenderKeeps → (w : PlainWorld) (l : ℕ) (lost : Option ℕ) → Conversation w → l < length w.pairs → state_at w.sender l ≡ states.ReadReceiverCmd → (past_at w.sender l).claims.closed ≡ None → is_failure w.sender.answer ≡ false → (pair_at w l).send ≡ SendHas (inputs.Got frames.Wait) → Conversation (send_steps w l lost)
wait_keeps keeps w l lost c within here opens sound holds =
    turn_keeps keeps w l lost states.ReadReceiverCmd (inputs.Got frames.Wait) [] acts.Read w.sender new c within here holds tt
    (wait_turn w.sender l here (ap is_some opens) sound)
    record { manifest = refl; history = sym (append-nil w.sender.history); lanes = refl; own = ap (λ (x : SendState). record { state = x; ask = (lane_at w.sender l).ask }) here; others = λ j ne. refl }
    (λ k p ne. refl)
    (λ at. subst (Converses (common w.receiver) l (waiting (lane_at w.sender l).ask past kept) (receiving w.receiver l)) (noted_same (SendHas (inputs.Got frames.Wait)) frames.Wait past.is_greeted acts.Read p.recv p.taken p.between p.newest p.denies p.refusals (told_of (SendHas (inputs.Got frames.Wait)) past p.newest p.taken at.notes))
    (waits_here (common w.receiver) l (lane_at w.sender l).ask past kept (receiving w.receiver l) p.recv p.taken p.between p.newest p.denies p.refusals at)) where
      p : Pair
      p = pair_at w l

      past : LanePast
      past = past_at w.sender l

      kept : List Header
      kept = (sending w.sender l).kept

      new : SendLane
      new = record { state = states.ReadReceiverCmd; ask = (lane_at w.sender l).ask }
