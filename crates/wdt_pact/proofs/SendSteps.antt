-- The steps of the sender's lane that end it, make it dial again, plan the blocks, and acknowledge the lane.
use Rattle.std.proofs.Common.{◌≡◌, ◌≢◌, ℕ, ◌+◌, ◌<◌, ◌||◌, Bool, true, false, if◌then◌else◌, List, [], ◌∷◌, ◌++◌, length, map, slice_get, Option, Some, None, subst, sym, ap, ◌∙◌, refl, eq-eqb}
use Rattle.std.proofs.lemmas.Bool.{both_ways, ne_eqb}
use Rattle.std.proofs.lemmas.List.{length-set}
use Rattle.wdt_units.specs.Have.{HaveFile}
use Rattle.wdt_units.specs.declared.blocks.Header.{Header}
use Rattle.wdt_claims.specs.LaneWords.{Claims}
use Rattle.wdt_codec.specs.Frames.{Fits}
use Rattle.wdt_codec.specs.declared.frames.Frame.TheVariants as frames
use Rattle.wdt_sender_fsm.specs.declared.acts.SendAct.{SendAct}
use Rattle.wdt_sender_fsm.specs.declared.acts.SendAct.TheVariants as acts
use Rattle.wdt_sender_fsm.specs.declared.events.SendEvent.{SendEvent}
use Rattle.wdt_sender_fsm.specs.declared.events.SendEvent.TheVariants as events
use Rattle.wdt_sender_fsm.specs.declared.inputs.SendIn.{SendIn}
use Rattle.wdt_sender_fsm.specs.declared.inputs.SendIn.TheVariants as inputs
use Rattle.wdt_sender_fsm.specs.declared.states.SendLane.{SendLane}
use Rattle.wdt_sender_fsm.specs.declared.states.SendState.{SendState}
use Rattle.wdt_sender_fsm.specs.declared.states.SendState.TheVariants as states
use Rattle.wdt_sender_fsm.specs.Phases.{over_if}
use Rattle.wdt_sender_fsm.specs.PlainSender.{PlainSender, goes, is_ended, lane_at, lane_or_ended, noted, past_at, size_of_tree, state_at}
use Rattle.wdt_sender_fsm.specs.Rows.{is_reading}
use Rattle.wdt_sender_fsm.specs.Rules.{code_of}
use Rattle.wdt_sender_fsm.specs.Sender.{FitsIn}
use Rattle.wdt_sender_fsm.specs.SenderHistory.{LanePast, past_from}
use Rattle.wdt_sender_fsm.specs.Turn.{leaves, next_conn, send_turn, tells_failure, with_plan, writes_size}
use Rattle.wdt_pact.specs.Belongs.{SendBelongs, sends_writing}
use Rattle.wdt_pact.specs.Links.{Link}
use Rattle.wdt_pact.specs.Pairs.{Pair, SendDoes, SendHas, send_takes}
use Rattle.wdt_pact.specs.World.{PlainWorld, number, pair_at, send_steps}
use Rattle.wdt_pact.specs.Stances.{send_stance, stand}
use Rattle.wdt_pact.specs.Lists.{Unsent}
use Rattle.wdt_pact.specs.Conversation.{Conversation, Converses, NotesBy, common, receiving, sending, sending_of, sent_header}
use Rattle.wdt_pact.proofs.Below.{get_set, set_other}
use Rattle.wdt_pact.proofs.Failing.{MayTell, gives_up_here}
use Rattle.wdt_pact.proofs.Promised.{SenderKeeps}
use Rattle.wdt_pact.proofs.Rows.{Behind, stands_in, turn_keeps}
use Rattle.wdt_pact.proofs.SendMoves.{has_lives, noted_still, steps_here}

-- a lane that was given up or acknowledged has ended
or_more : (a b : Bool) → b ≡ true → (a || b) ≡ true
or_more true b e = refl
or_more false b e = e

pub lane_acked : (w : PlainWorld) (l : ℕ) → Conversation w → l < length w.pairs → is_ended (state_at w.sender l) ≡ false → (past_at w.sender l).is_acked ≡ false
lane_acked w l c within lives = go (past_at w.sender l).is_acked refl where
  go : (b : Bool) → (past_at w.sender l).is_acked ≡ b → (past_at w.sender l).is_acked ≡ false
  go false is = is
  go true is = absurd (both_ways (is_ended (state_at w.sender l)) lives (ap is_ended (c.sender.ended l (subst (λ (n : ℕ). l < n) (sym c.send_lanes) within) (or_more (past_at w.sender l).has_quit (past_at w.sender l).is_acked is))))

-- entries that say nothing of a lane's past
abbrev Quiet : List SendEvent → Type 0
Quiet es = (k : ℕ) (p : LanePast) → past_from k p es ≡ p

module _ (keeps : SenderKeeps) (w : PlainWorld) (l : ℕ) (lost : Option ℕ) (input : SendIn) (c : Conversation w) (within : l < length w.pairs) (holds : (pair_at w l).send ≡ SendHas input) (fits : FitsIn input) (belongs : SendBelongs (SendHas input) (lane_at w.sender l)) where
  abbrev p : Pair
  p = pair_at w l

  below : l < length w.sender.lanes
  below = subst (λ (n : ℕ). l < n) (sym c.send_lanes) within

  pub acked : (past_at w.sender l).is_acked ≡ false
  acked = lane_acked w l c within (has_lives input (lane_at w.sender l) belongs)

  -- ---- the end fails, or failed before, or the lane is closed

  abbrev given : Bool → SendLane
  given mute = record { state = if mute then states.Ended else states.SendAbort; ask = (lane_at w.sender l).ask }

  abbrev act : Bool → ℕ → SendAct
  act mute code = if mute then acts.Stop else acts.Write (frames.Abort code)

  give : (mute : Bool) (code : ℕ) (es : List SendEvent) (t : PlainSender) → send_turn w.sender (number l) input ≡ (act mute code, t) → Behind w.sender t l (given mute) es → Quiet es
      → (mute ≡ false → MayTell (send_stance (lane_at w.sender l) (past_at w.sender l).is_acked (SendHas input))) → Conversation (send_steps w l lost)
  give mute code es t is b quiet may =
      turn_keeps keeps w l lost (state_at w.sender l) input es (act mute code) t (given mute) c within refl holds fits is b (λ k q ne. quiet k q)
      (λ at.
      subst (λ (x : LanePast). Converses (common w.receiver) l (sending_of w.sender.manifest (given mute) x) (receiving w.receiver l) (send_takes p input x.is_greeted (act mute code))) (sym (quiet l (past_at w.sender l)))
      (subst (Converses (common w.receiver) l (sending_of w.sender.manifest (given mute) (past_at w.sender l)) (receiving w.receiver l)) (still at)
      (gives_up_here (common w.receiver) l (state_at w.sender l) mute code (lane_at w.sender l).ask (past_at w.sender l) (sending w.sender l).kept (receiving w.receiver l) (SendHas input) p.recv p.taken p.between p.newest p.denies p.refusals acked may at))) where
        still : Converses (common w.receiver) l (stands_in w.sender l (state_at w.sender l)) (receiving w.receiver l) (record p { send = SendHas input }) → record p { send = SendDoes (act mute code) } ≡ send_takes p input (past_at w.sender l).is_greeted (act mute code)
        still at = noted_still input (lane_at w.sender l) (past_at w.sender l) (act mute code) p.recv p.taken p.between p.newest p.denies p.refusals belongs at.notes

  -- a sender that fails behind entries, whose lane was put so
  fails_behind : (es : List SendEvent) (t : PlainSender) (st : SendState) → t.manifest ≡ w.sender.manifest → t.lanes ≡ w.sender.lanes → t.history ≡ w.sender.history ++ es → Behind w.sender (goes t (number l) st) l record { state = st; ask = (lane_at w.sender l).ask } es
  fails_behind es t st manifest lanes history =
      record {
        manifest = manifest;
        history = history;
        lanes = length-set t.lanes l record { state = st; ask = (lane_at t l).ask } ∙ ap length lanes;
        own = ap lane_or_ended (get_set t.lanes l record { state = st; ask = (lane_at t l).ask } (subst (λ (n : ℕ). l < n) (sym (ap length lanes)) below)) ∙ ap (λ (ls : List SendLane). record { state = st; ask = (lane_or_ended (slice_get ls l)).ask }) lanes;
        others = λ j ne. ap lane_or_ended (set_other t.lanes l j record { state = st; ask = (lane_at t l).ask } ne) ∙ ap (λ (ls : List SendLane). lane_or_ended (slice_get ls j)) lanes;
      }

  pub leaves_keeps : (es : List SendEvent) (t : PlainSender) → t.manifest ≡ w.sender.manifest → t.lanes ≡ w.sender.lanes → t.history ≡ w.sender.history ++ es → Quiet es → send_turn w.sender (number l) input ≡ leaves t (number l) → Conversation (send_steps w l lost)
  leaves_keeps es t manifest lanes history quiet is = give true 0 es (goes t (number l) states.Ended) is (fails_behind es t states.Ended manifest lanes history) quiet (λ e. cc)

  pub tells_keeps : (es : List SendEvent) (t : PlainSender) → t.manifest ≡ w.sender.manifest → t.lanes ≡ w.sender.lanes → t.history ≡ w.sender.history ++ es → Quiet es → MayTell (send_stance (lane_at w.sender l) (past_at w.sender l).is_acked (SendHas input))
      → send_turn w.sender (number l) input ≡ tells_failure t (number l) → Conversation (send_steps w l lost)
  tells_keeps es t manifest lanes history quiet may is = give false (code_of t.answer) es (goes t (number l) states.SendAbort) is (fails_behind es t states.SendAbort manifest lanes history) quiet (λ e. may)

  -- ---- steps that leave what the lane has claimed

  pub puts_keeps : (st : SendState) (es : List SendEvent) (act : SendAct) (t : PlainSender) (new : SendLane) (later : LanePast) → state_at w.sender l ≡ st → send_turn w.sender (number l) input ≡ (act, t) → Behind w.sender t l new es
      → ((k : ℕ) (q : LanePast) → k ≢ l → past_from k q es ≡ q) → past_from l (past_at w.sender l) es ≡ later → later.is_greeted ≡ (past_at w.sender l).is_greeted → later.claims ≡ (past_at w.sender l).claims
      → send_stance new later.is_acked (SendDoes act) ≡ send_stance (record (lane_at w.sender l) { state = st }) (past_at w.sender l).is_acked (SendHas input)
      → ((rest : List Header) → Unsent st (SendHas input) rest → Unsent new.state (SendDoes act) rest)
      → ((o : Option Link) → NotesBy st (SendHas input) (past_at w.sender l) o → NotesBy new.state (SendDoes act) later o)
      → Conversation (send_steps w l lost)
  puts_keeps st es act t new later here is b quiet own greeted claims stands unsent notes =
      turn_keeps keeps w l lost st input es act t new c within here holds fits is b quiet
      (λ at.
      subst (λ (x : LanePast). Converses (common w.receiver) l (sending_of w.sender.manifest new x) (receiving w.receiver l) (send_takes p input x.is_greeted act)) (sym own)
      (subst (λ (x : Bool). Converses (common w.receiver) l (sending_of w.sender.manifest new later) (receiving w.receiver l) (send_takes p input x act)) (sym greeted)
      (subst (Converses (common w.receiver) l (sending_of w.sender.manifest new later) (receiving w.receiver l)) (noted_still input (record (lane_at w.sender l) { state = st }) (past_at w.sender l) act p.recv p.taken p.between p.newest p.denies p.refusals (subst (λ (x : SendState). SendBelongs (SendHas input) (record (lane_at w.sender l) { state = x })) here belongs) at.notes)
      (subst (λ (x : List Header). Converses (common w.receiver) l record { lane = new; past = later; kept = x } (receiving w.receiver l) (record p { send = SendDoes act })) (sym (ap (λ (x : Claims). map (sent_header w.sender.manifest) x.kept) claims))
      (steps_here (common w.receiver) l (record (lane_at w.sender l) { state = st }) new (past_at w.sender l) later (sending w.sender l).kept (receiving w.receiver l) p.recv p.taken p.between p.newest p.denies p.refusals input act stands claims unsent notes at)))))

-- ---- each of them

module _ (keeps : SenderKeeps) (w : PlainWorld) (l : ℕ) (lost : Option ℕ) (c : Conversation w) (within : l < length w.pairs) where
  small : l < length w.sender.lanes
  small = subst (λ (n : ℕ). l < n) (sym c.send_lanes) within

  quiet_try : (k : ℕ) (q : LanePast) → k ≢ l → past_from k q (events.NoLink (number l) ∷ []) ≡ q
  quiet_try k q ne = rw (ne_eqb l k (λ e. ne (sym e))) refl

  quiet_quit : (k : ℕ) (q : LanePast) → k ≢ l → past_from k q (events.NoLink (number l) ∷ events.Quit (number l) ∷ []) ≡ q
  quiet_quit k q ne = rw (ne_eqb l k (λ e. ne (sym e))) refl

  abbrev tried : LanePast
  tried = record (past_at w.sender l) { failed_tries = (past_at w.sender l).failed_tries + 1 }

  -- no connection could be made: the lane dials again
  pub redials_keeps : state_at w.sender l ≡ states.Connect → (pair_at w l).send ≡ SendHas inputs.NoLink
      → send_turn w.sender (number l) inputs.NoLink ≡ (acts.Dial (next_conn (noted w.sender (events.NoLink (number l) ∷ [])) (number l)), goes (noted w.sender (events.NoLink (number l) ∷ [])) (number l) states.Connect) → Conversation (send_steps w l lost)
  redials_keeps here holds is =
      puts_keeps keeps w l lost inputs.NoLink c within holds tt here states.Connect (events.NoLink (number l) ∷ []) (acts.Dial (next_conn (noted w.sender (events.NoLink (number l) ∷ [])) (number l))) (goes (noted w.sender (events.NoLink (number l) ∷ [])) (number l) states.Connect)
      record { state = states.Connect; ask = (lane_at w.sender l).ask } tried here is
      (fails_behind keeps w l lost inputs.NoLink c within holds tt here (events.NoLink (number l) ∷ []) (noted w.sender (events.NoLink (number l) ∷ [])) states.Connect refl refl refl)
      quiet_try (rw (eq-eqb l l refl) refl) refl refl refl (λ rest e. e) (λ o n. notes o) where
        notes : (o : Option Link) → NotesBy states.Connect (SendDoes (acts.Dial (next_conn (noted w.sender (events.NoLink (number l) ∷ [])) (number l)))) tried o
        notes None = tt
        notes (Some k) = tt

  -- or is given up
  pub quits_keeps : state_at w.sender l ≡ states.Connect → (pair_at w l).send ≡ SendHas inputs.NoLink
      → send_turn w.sender (number l) inputs.NoLink ≡ (acts.Stop, goes (noted w.sender (events.NoLink (number l) ∷ events.Quit (number l) ∷ [])) (number l) states.Ended) → Conversation (send_steps w l lost)
  quits_keeps here holds is =
      puts_keeps keeps w l lost inputs.NoLink c within holds tt here states.Connect (events.NoLink (number l) ∷ events.Quit (number l) ∷ []) acts.Stop (goes (noted w.sender (events.NoLink (number l) ∷ events.Quit (number l) ∷ [])) (number l) states.Ended)
      record { state = states.Ended; ask = (lane_at w.sender l).ask } (record tried { has_quit = true }) here is
      (fails_behind keeps w l lost inputs.NoLink c within holds tt here (events.NoLink (number l) ∷ events.Quit (number l) ∷ []) (noted w.sender (events.NoLink (number l) ∷ events.Quit (number l) ∷ [])) states.Ended refl refl refl)
      quiet_quit (rw (eq-eqb l l refl) refl) refl refl (ap (λ (b : Bool). stand false (over_if b)) (lane_acked w l c within (ap is_ended here))) (λ rest e. tt) (λ o n. notes o) where
        notes : (o : Option Link) → NotesBy states.Ended (SendDoes acts.Stop) (record tried { has_quit = true }) o
        notes None = tt
        notes (Some k) = tt

  -- what the destination has was read again, or first, and the blocks are planned
  sizes_keeps : (have : List HaveFile) (t : PlainSender) → t.manifest ≡ w.sender.manifest → t.lanes ≡ w.sender.lanes → t.history ≡ w.sender.history ++ events.Chunks (number l) ∷ [] → Fits (frames.Chunks have) → state_at w.sender l ≡ states.ReadFileChunks
      → (pair_at w l).send ≡ SendHas (inputs.Got (frames.Chunks have)) → send_turn w.sender (number l) (inputs.Got (frames.Chunks have)) ≡ writes_size t (number l) → Conversation (send_steps w l lost)
  sizes_keeps have t manifest lanes history fits here holds is =
      puts_keeps keeps w l lost (inputs.Got (frames.Chunks have)) c within holds fits reads states.ReadFileChunks (events.Chunks (number l) ∷ []) (acts.Write (size_of_tree (goes t (number l) states.SendSize))) (goes t (number l) states.SendSize)
      record { state = states.SendSize; ask = (lane_at w.sender l).ask } (past_at w.sender l) here is
      (fails_behind keeps w l lost (inputs.Got (frames.Chunks have)) c within holds fits reads (events.Chunks (number l) ∷ []) t states.SendSize manifest lanes history)
      (λ k q ne. refl) refl refl refl refl (λ rest e. e) notes where
        reads : is_reading (state_at w.sender l) ≡ true
        reads = ap is_reading here

        notes : (o : Option Link) → NotesBy states.ReadFileChunks (SendHas (inputs.Got (frames.Chunks have))) (past_at w.sender l) o → NotesBy states.SendSize (SendDoes (acts.Write (size_of_tree (goes t (number l) states.SendSize)))) (past_at w.sender l) o
        notes None n = n
        notes (Some k) n = n

  pub listed_keeps : (have : List HaveFile) → Fits (frames.Chunks have) → state_at w.sender l ≡ states.ReadFileChunks → (pair_at w l).send ≡ SendHas (inputs.Got (frames.Chunks have))
      → send_turn w.sender (number l) (inputs.Got (frames.Chunks have)) ≡ writes_size (noted w.sender (events.Chunks (number l) ∷ [])) (number l) → Conversation (send_steps w l lost)
  listed_keeps have fits here holds is = sizes_keeps have (noted w.sender (events.Chunks (number l) ∷ [])) refl refl refl fits here holds is

  pub planned_keeps : (have : List HaveFile) → Fits (frames.Chunks have) → state_at w.sender l ≡ states.ReadFileChunks → (pair_at w l).send ≡ SendHas (inputs.Got (frames.Chunks have))
      → send_turn w.sender (number l) (inputs.Got (frames.Chunks have)) ≡ writes_size (noted (with_plan w.sender have) (events.Chunks (number l) ∷ [])) (number l) → Conversation (send_steps w l lost)
  planned_keeps have fits here holds is = sizes_keeps have (noted (with_plan w.sender have) (events.Chunks (number l) ∷ [])) refl refl refl fits here holds is

  -- the last word is answered
  quiet_acked : (k : ℕ) (q : LanePast) → k ≢ l → past_from k q (events.Acked (number l) ∷ []) ≡ q
  quiet_acked k q ne = rw (ne_eqb l k (λ e. ne (sym e))) refl

  pub acknowledged_keeps : state_at w.sender l ≡ states.AnswerDone → (pair_at w l).send ≡ SendHas inputs.Wrote → send_turn w.sender (number l) inputs.Wrote ≡ leaves (noted w.sender (events.Acked (number l) ∷ [])) (number l) → Conversation (send_steps w l lost)
  acknowledged_keeps here holds is =
      puts_keeps keeps w l lost inputs.Wrote c within holds tt writes states.AnswerDone (events.Acked (number l) ∷ []) acts.Stop (goes (noted w.sender (events.Acked (number l) ∷ [])) (number l) states.Ended)
      record { state = states.Ended; ask = (lane_at w.sender l).ask } (record (past_at w.sender l) { is_acked = true }) here is
      (fails_behind keeps w l lost inputs.Wrote c within holds tt writes (events.Acked (number l) ∷ []) (noted w.sender (events.Acked (number l) ∷ [])) states.Ended refl refl refl)
      quiet_acked (rw (eq-eqb l l refl) refl) refl refl refl (λ rest e. tt) (λ o n. notes o) where
        writes : SendBelongs (SendHas inputs.Wrote) (lane_at w.sender l)
        writes = ap sends_writing here

        notes : (o : Option Link) → NotesBy states.Ended (SendDoes acts.Stop) (record (past_at w.sender l) { is_acked = true }) o
        notes None = tt
        notes (Some k) = tt
