-- When the sender's lane is free for the next block, and when it reads the receiver's last word.
use Rattle.std.proofs.Common.{◌≡◌, ◌≢◌, inl, inr, ℕ, ◌<◌, ◌==◌, Bool, true, false, if◌then◌else◌, List, [], ◌∷◌, ◌++◌, length, map, Option, Some, None, subst, sym, ap, ◌∙◌, refl, arith, eq-eqb}
use Rattle.std.proofs.lemmas.Bool.{cases_eq, ne_eqb}
use Rattle.std.proofs.lemmas.List.{length-map, length-set, take_all}
use Rattle.wdt_units.specs.declared.blocks.Header.{Header}
use Rattle.wdt_claims.specs.LaneWords.{Claims, closed_at, sent}
use Rattle.wdt_codec.specs.declared.frames.Frame.TheVariants as frames
use Rattle.wdt_codec.specs.declared.frames.Mark.{Mark}
use Rattle.wdt_tree.specs.declared.entry.Entry.{Entry}
use Rattle.wdt_sender_fsm.specs.declared.acts.SendAct.TheVariants as acts
use Rattle.wdt_sender_fsm.specs.declared.events.SendEvent.TheVariants as events
use Rattle.wdt_sender_fsm.specs.declared.inputs.SendIn.TheVariants as inputs
use Rattle.wdt_sender_fsm.specs.declared.states.SendLane.{SendLane}
use Rattle.wdt_sender_fsm.specs.declared.states.SendState.{SendState}
use Rattle.wdt_sender_fsm.specs.declared.states.SendState.TheVariants as states
use Rattle.wdt_sender_fsm.specs.PlainSender.{goes, lane_at, lane_or_ended, noted, past_at, state_at}
use Rattle.wdt_sender_fsm.specs.Rows.{is_reading}
use Rattle.wdt_sender_fsm.specs.Rules.{is_failure}
use Rattle.wdt_sender_fsm.specs.Sender.{Fares, IsSender}
use Rattle.wdt_sender_fsm.specs.SenderHistory.{LanePast, close_by, end_of, past_after, past_from, past_of}
use Rattle.wdt_sender_fsm.specs.Turn.{globals, writes}
use Rattle.wdt_receiver_fsm.specs.PlainReceiver as recv
use Rattle.wdt_pact.specs.Each.{Each}
use Rattle.wdt_pact.specs.Links.{Link}
use Rattle.wdt_pact.specs.Lists.{Unsent, UnsentBy, cut_heads-map, in_hand}
use Rattle.wdt_pact.specs.Pairs.{Pair, RecvHold, SendDoes, SendHas, send_takes, top_by}
use Rattle.wdt_pact.specs.Stances.{recv_stance, send_stance}
use Rattle.wdt_pact.specs.World.{PlainWorld, number, pair_at, send_turned}
use Rattle.wdt_pact.specs.Conversation.{Common, Conversation, Converses, Marks, NotesBy, Receiving, Sending, common, known_header, receiving, sending, sending_of, sent_header}
use Rattle.wdt_pact.proofs.Below.{get_set, set_other}
use Rattle.wdt_pact.proofs.Closing.{close_there, closes_here, quiet_close}
use Rattle.wdt_pact.proofs.Lists.{lists_weaker}
use Rattle.wdt_pact.proofs.Rows.{fares_in, past_of-append, row_at, stands_in}
use Rattle.wdt_pact.proofs.SendFrees.{IsFree, turned_keeps}
use Rattle.wdt_pact.proofs.SendMoves.{ends_here, noted_still, reading_notes, splits_all, steps_here}
use Rattle.wdt_pact.proofs.Sending.{noted_same}
use Rattle.wdt_pact.proofs.Sent.{sent_here}

-- ---- what is sent in all is written

module _ (w : PlainWorld) (l : ℕ) (c : Conversation w) (within : l < length w.pairs) (opens : (past_at w.sender l).claims.closed ≡ None) where
  pub free_size : state_at w.sender l ≡ states.SendSize → (pair_at w l).send ≡ SendHas inputs.Wrote → IsFree w l inputs.Wrote []
  free_size here holds =
      record {
        own = row_at w l states.SendSize inputs.Wrote c within here holds;
        others = λ k small ne. c.lanes k small;
        greeted = (fares_in w l states.SendSize c within here opens).greeted;
        opens = opens;
        still = λ act. refl;
        kept = λ come k small. refl;
      }

  -- ---- a block is written

  sent_there : past_from l (past_at w.sender l) (events.Sent (number l) ∷ []) ≡ record (past_at w.sender l) { claims = sent (past_at w.sender l).claims }
  sent_there = rw (eq-eqb l l refl) refl

  sent_kept : (b : Bool) (s : Claims) → (if b then sent s else s).kept ≡ s.kept
  sent_kept true s = refl
  sent_kept false s = refl

  pub free_block : state_at w.sender l ≡ states.SendBlocks → (pair_at w l).send ≡ SendHas inputs.Wrote → IsFree w l inputs.Wrote (events.Sent (number l) ∷ [])
  free_block here holds =
      let first : LanePast = past_from l (past_at w.sender l) (events.Sent (number l) ∷ []) in
      record {
        own =
            subst (λ (xs : List Header). Converses (common w.receiver) l record { lane = record { state = states.SendSize; ask = (lane_at w.sender l).ask }; past = past_from l (past_at w.sender l) (events.Sent (number l) ∷ []); kept = xs } (receiving w.receiver l) (record (pair_at w l) { send = SendHas inputs.Wrote })) (sym (ap (λ (x : LanePast). map (sent_header w.sender.manifest) x.claims.kept) sent_there))
            (sent_here (common w.receiver) l (lane_at w.sender l).ask (past_at w.sender l) (past_from l (past_at w.sender l) (events.Sent (number l) ∷ [])) (sending w.sender l).kept (receiving w.receiver l) (pair_at w l).recv (pair_at w l).taken (pair_at w l).between (pair_at w l).newest (pair_at w l).denies (pair_at w l).refusals sent_there
            (row_at w l states.SendBlocks inputs.Wrote c within here holds));
        others = λ k small ne. subst (λ (x : LanePast). Converses (common w.receiver) k (sending_of w.sender.manifest (lane_at w.sender k) x) (receiving w.receiver k) (pair_at w k)) (rw (ne_eqb l k (λ e. ne (sym e))) refl) (c.lanes k small);
        greeted = ap (λ (x : LanePast). x.is_greeted) sent_there ∙ (fares_in w l states.SendBlocks c within here opens).greeted;
        opens = ap (λ (x : LanePast). x.claims.closed) sent_there ∙ opens;
        still = λ act. refl;
        kept = λ come k small. sent_kept (l == k) (past_at w.sender k).claims;
      }

-- ---- closed lanes are told of

-- what is known of a closed lane
abbrev pub ClosedAs : Common → ℕ → Receiving → Type 0
ClosedAs g k r = (n : ℕ) → g.closed k ≡ Some n → (r.past.is_closed ≡ true) × (n ≡ length r.landed)

pub closed_as : (w : PlainWorld) (k : ℕ) → ClosedAs (common w.receiver) k (receiving w.receiver k)
closed_as w k n e = go (recv.past_at w.receiver k).is_closed refl e where
  go : (b : Bool) → (recv.past_at w.receiver k).is_closed ≡ b → (if b then Some (length (recv.past_at w.receiver k).landed) else None) ≡ Some n → ((recv.past_at w.receiver k).is_closed ≡ true) × (n ≡ length (receiving w.receiver k).landed)
  go true is e = (is, (let same : length (recv.past_at w.receiver k).landed ≡ n = cc in sym same ∙ sym (length-map (recv.past_at w.receiver k).landed (known_header w.receiver.known))))
  go false is e = cc

stay_closed : (l k n m : ℕ) (p : LanePast) → p.claims.closed ≡ Some m → past_after k p (events.Global (number l) (number k) n) ≡ p
stay_closed l k n m p closed = rw (eq-eqb k k refl, closed) refl

-- one mark
mark_here : (g : Common) (l k : ℕ) (m : Mark) (manifest : List Entry) (lane : SendLane) (past : LanePast) (r : Receiving) (p : Pair) → Marks g l m → ClosedAs g k r → Converses g k (sending_of manifest lane past) r p → Converses g k (sending_of manifest lane (past_after k past (events.Global (number l) m.lane m.count))) r p
mark_here g l k m manifest lane past r p marks closed c = elim (cases_eq m.lane.0 k) [
  | inl same ↦ at same past.claims.closed refl
  | inr ne ↦ subst (λ (x : LanePast). Converses g k (sending_of manifest lane x) r p) (sym (quiet_close l m.lane.0 k m.count past (λ e. ne (sym e)))) c
] where
  at : m.lane.0 ≡ k → (o : Option ℕ) → past.claims.closed ≡ o → Converses g k (sending_of manifest lane (past_after k past (events.Global (number l) m.lane m.count))) r p
  at same (Some n) is = subst (λ (x : LanePast). Converses g k (sending_of manifest lane x) r p) (sym (ap (λ (i : ℕ). past_after k past (events.Global (number l) (number i) m.count)) same ∙ stay_closed l k m.count n past is)) c
  at same None is =
      let told = closed m.count (subst (λ (i : ℕ). g.closed i ≡ Some m.count) same marks.0) in
      let after : past_after k past (events.Global (number l) m.lane m.count) ≡ record past { claims = closed_at m.count 0 past.claims } = ap (λ (i : ℕ). past_after k past (events.Global (number l) (number i) m.count)) same ∙ close_there l k m.count past is in
      subst (λ (x : LanePast). Converses g k (sending_of manifest lane x) r p) (sym after)
      (subst (λ (hs : List Header). Converses g k record { lane = lane; past = record past { claims = closed_at m.count 0 past.claims }; kept = hs } r p) (sym (cut_heads-map (sent_header manifest) m.count past.claims.kept))
      (closes_here g k lane past (record past { claims = closed_at m.count 0 past.claims }) (map (sent_header manifest) past.claims.kept) r p m.count told.0 told.1 refl c))

-- all of them
marks_here : (g : Common) (l k : ℕ) (ms : List Mark) (manifest : List Entry) (lane : SendLane) (past : LanePast) (r : Receiving) (p : Pair) → Each (Marks g l) ms → ClosedAs g k r → Converses g k (sending_of manifest lane past) r p → Converses g k (sending_of manifest lane (past_from k past (globals (number l) ms))) r p
marks_here g l k [] manifest lane past r p marks closed c = c
marks_here g l k (m ∷ ms) manifest lane past r p marks closed c = marks_here g l k ms manifest lane (past_after k past (events.Global (number l) m.lane m.count)) r p marks.1 closed (mark_here g l k m manifest lane past r p marks.0 closed c)

-- none of them is of the lane that reads them
marks_own : (g : Common) (l : ℕ) (ms : List Mark) (past : LanePast) → Each (Marks g l) ms → past_from l past (globals (number l) ms) ≡ past
marks_own g l [] past marks = refl
marks_own g l (m ∷ ms) past marks = ap (λ (x : LanePast). past_from l x (globals (number l) ms)) (quiet_close l m.lane.0 l m.count past (λ e. marks.0.1 (sym e))) ∙ marks_own g l ms past marks.1

-- where all that a lane has claimed has landed, its blocks stay
close_kept : (o : Option ℕ) (n : ℕ) (s : Claims) → n ≡ length s.kept → (close_by o n s).kept ≡ s.kept
close_kept None n s is = take_all n s.kept (omega (arith, is))
close_kept (Some m) n s is = refl

mark_kept : (g : Common) (l k most : ℕ) (m : Mark) (past : LanePast) → Marks g l m → ((n : ℕ) → g.closed k ≡ Some n → n ≡ most) → length past.claims.kept ≡ most → (past_after k past (events.Global (number l) m.lane m.count)).claims.kept ≡ past.claims.kept
mark_kept g l k most m past marks closed long = elim (cases_eq m.lane.0 k) [
  | inl same ↦ ap (λ (b : Bool). (if b then close_by past.claims.closed m.count past.claims else past.claims).kept) (eq-eqb m.lane.0 k same)
      ∙ close_kept past.claims.closed m.count past.claims (closed m.count (subst (λ (i : ℕ). g.closed i ≡ Some m.count) same marks.0) ∙ sym long)
  | inr ne ↦ ap (λ (x : LanePast). x.claims.kept) (quiet_close l m.lane.0 k m.count past (λ e. ne (sym e)))
]

marks_kept : (g : Common) (l k most : ℕ) (ms : List Mark) (past : LanePast) → Each (Marks g l) ms → ((n : ℕ) → g.closed k ≡ Some n → n ≡ most) → length past.claims.kept ≡ most → (past_from k past (globals (number l) ms)).claims.kept ≡ past.claims.kept
marks_kept g l k most [] past marks closed long = refl
marks_kept g l k most (m ∷ ms) past marks closed long =
    let one = mark_kept g l k most m past marks.0 closed long in
    marks_kept g l k most ms (past_after k past (events.Global (number l) m.lane m.count)) marks.1 closed (ap length one ∙ long) ∙ one

-- the lane that reads them is free
marked_own : (g : Common) (l : ℕ) (ask : Bool) (past : LanePast) (kept : List Header) (r : Receiving) (ms : List Mark) (rh : RecvHold) (taken : Option Link) (between : List Link) (newest : Option Link) (denies refusals : ℕ)
    → Converses g l record { lane = record { state = states.ReadReceiverCmd; ask = ask }; past = past; kept = kept } r record { send = SendHas (inputs.Got (frames.ErrMarks ms)); recv = rh; taken = taken; between = between; newest = newest; denies = denies; refusals = refusals }
    → Converses g l record { lane = record { state = states.SendSize; ask = ask }; past = past; kept = kept } r record { send = SendHas inputs.Wrote; recv = rh; taken = taken; between = between; newest = newest; denies = denies; refusals = refusals }
marked_own g l ask past kept r ms rh taken between newest denies refusals c =
    record {
      agrees = c.agrees;
      lists = lists_weaker (recv_stance r.lane r.past.is_idle r.past.is_acked rh) taken kept r.landed r.begun (in_hand rh) (UnsentBy newest states.ReadReceiverCmd (SendHas (inputs.Got (frames.ErrMarks ms)))) (UnsentBy newest states.SendSize (SendHas inputs.Wrote)) (unsent newest) c.lists;
      sure = c.sure;
      upward = c.upward.1;
      fits = c.fits.1;
      notes = notes (top_by newest taken) c.notes;
      closed = c.closed;
      asked = c.asked;
      finished = c.finished;
      pieces = c.pieces;
      waits = c.waits;
      idle = λ e. let x = c.idle e in record { same = x.same; holds = x.holds; late = x.late; quiet = x.quiet.1 };
      shut = c.shut;
      heard_up = tt;
      heard_down = c.heard_down;
    } where
      unsent : (o : Option Link) (rest : List Header) → UnsentBy o states.ReadReceiverCmd (SendHas (inputs.Got (frames.ErrMarks ms))) rest → UnsentBy o states.SendSize (SendHas inputs.Wrote) rest
      unsent None rest e = e
      unsent (Some t) rest e = e

      notes : (o : Option Link) → NotesBy states.ReadReceiverCmd (SendHas (inputs.Got (frames.ErrMarks ms))) past o → NotesBy states.SendSize (SendHas inputs.Wrote) past o
      notes None n = n
      notes (Some k) n = n

pub free_marks : (w : PlainWorld) (l : ℕ) (c : Conversation w) (within : l < length w.pairs) (ms : List Mark) → (past_at w.sender l).claims.closed ≡ None → state_at w.sender l ≡ states.ReadReceiverCmd → (pair_at w l).send ≡ SendHas (inputs.Got (frames.ErrMarks ms)) → IsFree w l (inputs.Got (frames.ErrMarks ms)) (globals (number l) ms)
free_marks w l c within ms opens here holds =
    record {
      own =
          subst (λ (x : LanePast). Converses (common w.receiver) l (sending_of w.sender.manifest record { state = states.SendSize; ask = (lane_at w.sender l).ask } x) (receiving w.receiver l) (record (pair_at w l) { send = SendHas inputs.Wrote })) (sym own)
          (marked_own (common w.receiver) l (lane_at w.sender l).ask (past_at w.sender l) (sending w.sender l).kept (receiving w.receiver l) ms (pair_at w l).recv (pair_at w l).taken (pair_at w l).between (pair_at w l).newest (pair_at w l).denies (pair_at w l).refusals at);
      others = λ k small ne. marks_here (common w.receiver) l k ms w.sender.manifest (lane_at w.sender k) (past_at w.sender k) (receiving w.receiver k) (pair_at w k) at.upward.0 (closed_as w k) (c.lanes k small);
      greeted = ap (λ (x : LanePast). x.is_greeted) own ∙ fares.greeted;
      opens = ap (λ (x : LanePast). x.claims.closed) own ∙ opens;
      still = λ act. noted_same (SendHas (inputs.Got (frames.ErrMarks ms))) (frames.ErrMarks ms) true act (pair_at w l).recv (pair_at w l).taken (pair_at w l).between (pair_at w l).newest (pair_at w l).denies (pair_at w l).refusals
          (λ k e. reading_notes states.ReadReceiverCmd (SendHas (inputs.Got (frames.ErrMarks ms))) (past_at w.sender l) (top_by (pair_at w l).newest (pair_at w l).taken) refl at.notes k e ∙ fares.greeted);
      kept = λ come k small. marks_kept (common w.receiver) l k (length (receiving w.receiver k).landed) ms (past_at w.sender k) at.upward.0 (λ n e. (closed_as w k n e).1)
          (sym (length-map (past_at w.sender k).claims.kept (sent_header w.sender.manifest)) ∙ splits_all (sending w.sender k).kept (receiving w.receiver k).landed ((c.lanes k small).finished come).same);
    } where
      at : Converses (common w.receiver) l (stands_in w.sender l states.ReadReceiverCmd) (receiving w.receiver l) (record (pair_at w l) { send = SendHas (inputs.Got (frames.ErrMarks ms)) })
      at = row_at w l states.ReadReceiverCmd (inputs.Got (frames.ErrMarks ms)) c within here holds

      own : past_from l (past_at w.sender l) (globals (number l) ms) ≡ past_at w.sender l
      own = marks_own (common w.receiver) l ms (past_at w.sender l) at.upward.0

      fares : Fares (is_failure w.sender.answer) states.ReadReceiverCmd (lane_at w.sender l).ask (past_at w.sender l) (end_of w.sender.history)
      fares = fares_in w l states.ReadReceiverCmd c within here opens

-- ---- the last word is read

module _ (w : PlainWorld) (l : ℕ) (c : Conversation w) (within : l < length w.pairs) (is : IsSender (goes (noted w.sender (events.Finish (number l) ∷ [])) (number l) states.AnswerDone)) where
  abbrev later : ℕ → LanePast
  later k = past_from k (past_at w.sender k) (events.Finish (number l) ∷ [])

  abbrev new : SendLane
  new = record { state = states.AnswerDone; ask = (lane_at w.sender l).ask }

  below : l < length w.sender.lanes
  below = subst (λ (n : ℕ). l < n) (sym c.send_lanes) within

  long : (k : ℕ) → length (past_at w.sender k).claims.kept ≡ length (sending w.sender k).kept
  long k = sym (length-map (past_at w.sender k).claims.kept (sent_header w.sender.manifest))

  other : (k : ℕ) → k ≢ l → sending (goes (noted w.sender (events.Finish (number l) ∷ [])) (number l) states.AnswerDone) k ≡ sending_of w.sender.manifest (lane_at w.sender k) (later k)
  other k ne =
      ap (λ (x : SendLane). sending_of w.sender.manifest x (past_of (w.sender.history ++ events.Finish (number l) ∷ []) k)) (ap lane_or_ended (set_other w.sender.lanes l k new ne))
      ∙ ap (sending_of w.sender.manifest (lane_at w.sender k)) (past_of-append w.sender.history (events.Finish (number l) ∷ []) k)

  own : sending (goes (noted w.sender (events.Finish (number l) ∷ [])) (number l) states.AnswerDone) l ≡ sending_of w.sender.manifest new (later l)
  own =
      ap (λ (x : SendLane). sending_of w.sender.manifest x (past_of (w.sender.history ++ events.Finish (number l) ∷ []) l)) (ap lane_or_ended (get_set w.sender.lanes l new below))
      ∙ ap (sending_of w.sender.manifest new) (past_of-append w.sender.history (events.Finish (number l) ∷ []) l)

  ends : (st : SendState) → is_reading st ≡ true → (common w.receiver).finish ≡ true
      → (send_stance new (past_at w.sender l).is_acked (SendDoes (acts.Write frames.Done)) ≡ send_stance record { state = st; ask = (lane_at w.sender l).ask } (past_at w.sender l).is_acked (SendHas (inputs.Got frames.Done)))
      → ((rest : List Header) → Unsent st (SendHas (inputs.Got frames.Done)) rest → rest ≡ [])
      → Converses (common w.receiver) l (stands_in w.sender l st) (receiving w.receiver l) (record (pair_at w l) { send = SendHas (inputs.Got frames.Done) })
      → Conversation (send_turned w l (inputs.Got frames.Done) (writes (goes (noted w.sender (events.Finish (number l) ∷ [])) (number l) states.AnswerDone) frames.Done))
  ends st reads come stands unsent at =
      turned_keeps w l (inputs.Got frames.Done) (writes (goes (noted w.sender (events.Finish (number l) ∷ [])) (number l) states.AnswerDone) frames.Done) c within is (length-set w.sender.lanes l new)
      (λ k small ne. subst (λ (x : Sending). Converses (common w.receiver) k x (receiving w.receiver k) (pair_at w k)) (sym (other k ne))
      (ends_here (common w.receiver) k (lane_at w.sender k) (past_at w.sender k) (later k) (sending w.sender k).kept (receiving w.receiver k) (pair_at w k) come (long k) refl refl refl (c.lanes k small)))
      (subst (λ (x : Sending). Converses (common w.receiver) l x (receiving w.receiver l) (send_takes (pair_at w l) (inputs.Got frames.Done) x.past.is_greeted (acts.Write frames.Done))) (sym own)
      (subst (Converses (common w.receiver) l (sending_of w.sender.manifest new (later l)) (receiving w.receiver l)) still
      (steps_here (common w.receiver) l record { state = st; ask = (lane_at w.sender l).ask } new (later l) (later l) (sending w.sender l).kept (receiving w.receiver l) (pair_at w l).recv (pair_at w l).taken (pair_at w l).between (pair_at w l).newest (pair_at w l).denies (pair_at w l).refusals (inputs.Got frames.Done) (acts.Write frames.Done)
      stands refl unsent notes
      (ends_here (common w.receiver) l record { state = st; ask = (lane_at w.sender l).ask } (past_at w.sender l) (later l) (sending w.sender l).kept (receiving w.receiver l) (record (pair_at w l) { send = SendHas (inputs.Got frames.Done) }) come (long l) refl refl refl at)))) where
        still : record (pair_at w l) { send = SendDoes (acts.Write frames.Done) } ≡ send_takes (pair_at w l) (inputs.Got frames.Done) (later l).is_greeted (acts.Write frames.Done)
        still = noted_still (inputs.Got frames.Done) record { state = st; ask = (lane_at w.sender l).ask } (past_at w.sender l) (acts.Write frames.Done) (pair_at w l).recv (pair_at w l).taken (pair_at w l).between (pair_at w l).newest (pair_at w l).denies (pair_at w l).refusals reads at.notes

        notes : (o : Option Link) → NotesBy st (SendHas (inputs.Got frames.Done)) (later l) o → NotesBy states.AnswerDone (SendDoes (acts.Write frames.Done)) (later l) o
        notes None n = tt
        notes (Some k) n = reading_notes st (SendHas (inputs.Got frames.Done)) (later l) (Some k) reads n k refl

  pub ends_behind : state_at w.sender l ≡ states.ReadReceiverCmd → (pair_at w l).send ≡ SendHas (inputs.Got frames.Done) → Conversation (send_turned w l (inputs.Got frames.Done) (writes (goes (noted w.sender (events.Finish (number l) ∷ [])) (number l) states.AnswerDone) frames.Done))
  ends_behind here holds =
      let at = row_at w l states.ReadReceiverCmd (inputs.Got frames.Done) c within here holds in
      ends states.ReadReceiverCmd refl at.upward.0 refl (λ rest e. e) at

  pub ends_at_once : state_at w.sender l ≡ states.ReadLocalCheckpoint → (pair_at w l).send ≡ SendHas (inputs.Got frames.Done) → Conversation (send_turned w l (inputs.Got frames.Done) (writes (goes (noted w.sender (events.Finish (number l) ∷ [])) (number l) states.AnswerDone) frames.Done))
  ends_at_once here holds =
      let at = row_at w l states.ReadLocalCheckpoint (inputs.Got frames.Done) c within here holds in
      ends states.ReadLocalCheckpoint refl at.upward.0 refl (λ rest e. e) at
