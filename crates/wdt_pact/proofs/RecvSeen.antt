-- What the lanes together see of a step of the receiver's lane: who asks for the end, who is closed, which lanes are told
-- of, and whether the finish has come.
use Rattle.std.proofs.Common.{◌≡◌, ◌⊎◌, inl, inr, ℕ, zero, suc, ◌<◌, Bool, true, false, List, [], ◌∷◌, ◌++◌, length, Option, None, is_some, subst, sym, ap, ◌∙◌, refl, eq-eqb}
use Rattle.std.proofs.lemmas.Bool.{both_ways}
use Rattle.std.proofs.lemmas.List.{length-set}
use Rattle.wdt_units.specs.declared.blocks.Block.{Block}
use Rattle.wdt_codec.specs.declared.frames.Frame.TheVariants as frames
use Rattle.wdt_codec.specs.declared.frames.Settings.{Settings}
use Rattle.wdt_logfmt.specs.Beginning.{block_of}
use Rattle.wdt_sender_fsm.specs.declared.answers.EndAnswer.{EndAnswer}
use Rattle.wdt_sender_fsm.specs.Rules.{every, is_failure}
use Rattle.wdt_receiver_fsm.specs.declared.acts.RecvAct.TheVariants as acts
use Rattle.wdt_receiver_fsm.specs.declared.events.RecvEvent.{RecvEvent}
use Rattle.wdt_receiver_fsm.specs.declared.events.RecvEvent.TheVariants as events
use Rattle.wdt_receiver_fsm.specs.declared.inputs.RecvIn.{RecvIn}
use Rattle.wdt_receiver_fsm.specs.declared.inputs.RecvIn.TheVariants as inputs
use Rattle.wdt_receiver_fsm.specs.declared.states.RecvState.TheVariants as states
use Rattle.wdt_receiver_fsm.specs.Logging.{all_logged_by}
use Rattle.wdt_receiver_fsm.specs.Outcomes as outcomes
use Rattle.wdt_receiver_fsm.specs.Outcomes.{ComesOf, Outcome, Rested, Left, Warned, Failed, GivenUp, Listened, Linked, Greeted, Listed, ReadOn, Sized, Begun, Taken, Concluded, Told, Waited, Ended, Acknowledged, came_to, landed_by}
use Rattle.wdt_receiver_fsm.specs.Outcomes.{WasOver, WasStray, WasSettled, WasNoBlock, ByDone, ByWait, ByWaking}
use Rattle.wdt_receiver_fsm.specs.Outcomes.{OfMemory, OfSender, OfPeer, OfShort, OfMake, OfWrite, OfLog, OfFinish, AtFirst, ByNoLink, ByLoss, ByGreeting, ByChunks, ByMarks, ByLanding, ByLogging, WasFinished, IsFinished, OfKnown, OfNew}
use Rattle.wdt_receiver_fsm.specs.PlainReceiver.{PlainReceiver, can_finish, goes, has_finish, is_ended, lane_at, noted, past_at, state_at, untold_at, with_lane}
use Rattle.wdt_receiver_fsm.specs.Ready.{is_busy, is_confirmed, is_known_closed, is_ready, rests}
use Rattle.wdt_receiver_fsm.specs.Receiver.{GoesOn, HasLeft, terms_of}
use Rattle.wdt_receiver_fsm.specs.ReceiverHistory.{Confirm, EndPast, RecvPast, confirm_after, confirm_of, confirm_of-append, end_after, end_of, end_of-append, past_after, past_of, past_of-append}
use Rattle.wdt_receiver_fsm.specs.Rows.{is_stray}
use Rattle.wdt_receiver_fsm.specs.Plan.{EndsIn}
use Rattle.wdt_receiver_fsm.specs.Turn.{Given, Put, Step, begins_by, given_up, greets_by, knows, met_by, next_take, reads, row_at, says_done, sized_by, tells_by, turn_plan}
use Rattle.wdt_receiver_fsm.proofs.ForCallers.{end_comes, legal_sound}
use Rattle.wdt_pact.specs.Belongs.{RecvBelongs, RecvBelongsAt}
use Rattle.wdt_pact.specs.Conversation.{Conversation}
use Rattle.wdt_pact.specs.Pairs.{RecvHold, RecvHas}
use Rattle.wdt_pact.specs.World.{PlainWorld, number, pair_at}
use Rattle.wdt_pact.proofs.RecvAll.{no_stray}
use Rattle.wdt_pact.proofs.RecvFailing.{fares_goes, hands_lives}
use Rattle.wdt_pact.proofs.RecvHands.{Hands, holds_input, is_woken}
use Rattle.wdt_pact.proofs.RecvRows.{recv_fares}

-- ---- histories in which the lanes stand alike

-- each lane asks for the end, is closed and tells of others in one as in the other, the same lanes are confirmed, and
-- the finish has come in both or in neither
pub record Steady (g h : List RecvEvent) : Type 0 where
  pub idle : (k : ℕ) → (past_of h k).is_idle ≡ (past_of g k).is_idle
  pub telling : (k : ℕ) → (past_of h k).telling ≡ (past_of g k).telling
  pub closed : (k : ℕ) → (past_of h k).is_closed ≡ (past_of g k).is_closed
  pub confirmed : (q : ℕ) → is_confirmed h q ≡ is_confirmed g q
  pub finish : (end_of h).has_finish ≡ (end_of g).has_finish

pub steady_same : (g h : List RecvEvent) → h ≡ g → Steady g h
steady_same g h is =
    record {
      idle = λ k. ap (λ (x : List RecvEvent). (past_of x k).is_idle) is;
      telling = λ k. ap (λ (x : List RecvEvent). (past_of x k).telling) is;
      closed = λ k. ap (λ (x : List RecvEvent). (past_of x k).is_closed) is;
      confirmed = λ q. ap (λ (x : List RecvEvent). is_confirmed x q) is;
      finish = ap (λ (x : List RecvEvent). (end_of x).has_finish) is;
    }

pub steady_on : (g h i : List RecvEvent) → Steady g h → Steady h i → Steady g i
steady_on g h i a b =
    record {
      idle = λ k. b.idle k ∙ a.idle k;
      telling = λ k. b.telling k ∙ a.telling k;
      closed = λ k. b.closed k ∙ a.closed k;
      confirmed = λ q. b.confirmed q ∙ a.confirmed q;
      finish = b.finish ∙ a.finish;
    }

-- an entry that says nothing of all that
abbrev is_quiet : RecvEvent → Bool
is_quiet (events.Dropped k) = false
is_quiet (events.Idle k) = false
is_quiet (events.Told k set) = false
is_quiet (events.Close k) = false
is_quiet events.Finish = false
is_quiet e = true

record Still (k q : ℕ) (p : RecvPast) (c : Confirm) (n : EndPast) (e : RecvEvent) : Type 0 where
  idle : (past_after k p e).is_idle ≡ p.is_idle
  telling : (past_after k p e).telling ≡ p.telling
  closed : (past_after k p e).is_closed ≡ p.is_closed
  confirmed : (confirm_after q c e).is_confirmed ≡ c.is_confirmed
  finish : (end_after n e).has_finish ≡ n.has_finish

still : (k q : ℕ) (p : RecvPast) (c : Confirm) (n : EndPast) (e : RecvEvent) → is_quiet e ≡ true → Still k q p c n e
still k q p c n (events.Take j conn) x = record { idle = refl; telling = refl; closed = refl; confirmed = refl; finish = refl }
still k q p c n (events.NoLink j) x = record { idle = refl; telling = refl; closed = refl; confirmed = refl; finish = refl }
still k q p c n (events.Met j settings) x = record { idle = refl; telling = refl; closed = refl; confirmed = refl; finish = refl }
still k q p c n (events.Sized j files bytes) x = record { idle = refl; telling = refl; closed = refl; confirmed = refl; finish = refl }
still k q p c n (events.Begin j b) x = record { idle = refl; telling = refl; closed = refl; confirmed = refl; finish = refl }
still k q p c n (events.Land j) x = record { idle = refl; telling = refl; closed = refl; confirmed = refl; finish = refl }
still k q p c n (events.Acked j) x = record { idle = refl; telling = refl; closed = refl; confirmed = refl; finish = refl }
still k q p c n (events.Quit j) x = record { idle = refl; telling = refl; closed = refl; confirmed = refl; finish = refl }
still k q p c n (events.Abort j code) x = record { idle = refl; telling = refl; closed = refl; confirmed = refl; finish = refl }
still k q p c n (events.Peer j kind) x = record { idle = refl; telling = refl; closed = refl; confirmed = refl; finish = refl }
still k q p c n e x = cc

pub steady_more : (g : List RecvEvent) (e : RecvEvent) → is_quiet e ≡ true → Steady g (g ++ e ∷ [])
steady_more g e x =
    record {
      idle = λ k. ap (λ (p : RecvPast). p.is_idle) (past_of-append g (e ∷ []) k) ∙ (at k 0).idle;
      telling = λ k. ap (λ (p : RecvPast). p.telling) (past_of-append g (e ∷ []) k) ∙ (at k 0).telling;
      closed = λ k. ap (λ (p : RecvPast). p.is_closed) (past_of-append g (e ∷ []) k) ∙ (at k 0).closed;
      confirmed = λ q. ap (λ (c : Confirm). c.is_confirmed) (confirm_of-append g (e ∷ []) q) ∙ (at 0 q).confirmed;
      finish = ap (λ (n : EndPast). n.has_finish) (end_of-append g (e ∷ [])) ∙ (at 0 0).finish;
    } where
      at : (k q : ℕ) → Still k q (past_of g k) (confirm_of g q) (end_of g) e
      at k q = still k q (past_of g k) (confirm_of g q) (end_of g) e x

-- the finish is ready in both or in neither
every_same : (n : ℕ) (f g : ℕ → Bool) → ((k : ℕ) → f k ≡ g k) → every n f ≡ every n g
every_same zero f g same = refl
every_same (suc n) f g same = rw (every_same n f g same, same n) refl

pub ready_same : (n : ℕ) (g h : List RecvEvent) → Steady g h → is_ready n h ≡ is_ready n g
ready_same n g h s =
    rw (every_same n (rests h) (rests g) rest, every_same n (is_busy h) (is_busy g) busy, every_same n (is_known_closed h) (is_known_closed g) known) refl where
      rest : (k : ℕ) → rests h k ≡ rests g k
      rest k = rw (s.idle k, s.closed k) refl

      busy : (k : ℕ) → is_busy h k ≡ is_busy g k
      busy k = rw (s.idle k) refl

      known : (k : ℕ) → is_known_closed h k ≡ is_known_closed g k
      known k = rw (s.closed k, s.confirmed k) refl

-- ---- what a step comes to

-- lane l has no connection, and is closed or isn't; nobody else is confirmed with it
pub record Off (g h : List RecvEvent) (l : ℕ) (shut : Bool) : Type 0 where
  pub idle : (past_of h l).is_idle ≡ false
  pub telling : (past_of h l).telling ≡ []
  pub closed : (past_of h l).is_closed ≡ shut
  pub confirmed : (q : ℕ) → is_confirmed h q ≡ is_confirmed g q
  pub finish : (end_of h).has_finish ≡ (end_of g).has_finish

-- a history in which lane l asks for the end: it did before, or the sender's last word was read with this step
pub data Point (r : PlainReceiver) (l : ℕ) (put : Put) (g : List RecvEvent) : Type 0 where
  WasIdle : g ≡ r.history → (past_at r l).is_idle ≡ true → Point r l put g
  NowIdle : g ≡ r.history ++ events.Idle (number l) ∷ [] → state_at r l ≡ states.ReadNextCmd → (lane_at r l).is_sized ≡ true
      → put ≡ Given (inputs.Got frames.Done) → is_failure r.answer ≡ false → Point r l put g

-- what the lanes see of a step
pub data Seen (r : PlainReceiver) (l : ℕ) (put : Put) (step : Step) : Type 0 where
  -- nothing
  Stays : Steady r.history step.1.history → Seen r l put step
  -- the lane has no connection
  Drops : Off r.history step.1.history l false → Seen r l put step
  -- the lane is given up before the finish
  Closes : has_finish r ≡ false → Off r.history step.1.history l true → Seen r l put step
  -- the lane asks for the end: the end fails, or the finish came before or isn't ready
  Asks : Point r l put step.1.history → (is_failure step.1.answer ≡ true) ⊎ ((has_finish step.1 ≡ true) ⊎ (can_finish step.1 ≡ false)) → Seen r l put step
  -- the lane tells of closed ones
  Tells : (t : PlainReceiver) (q : ℕ) (qs : List ℕ) → Point r l put t.history → length t.lanes ≡ length r.lanes → untold_at t l ≡ q ∷ qs
      → step ≡ tells_by t (number l) (q ∷ qs) → Seen r l put step
  -- the finish comes
  Ends : (t : PlainReceiver) → is_failure r.answer ≡ false → Point r l put t.history → length t.lanes ≡ length r.lanes → has_finish t ≡ false
      → can_finish t ≡ true → step.1.history ≡ t.history ++ events.Finish ∷ [] → Seen r l put step

-- ---- each outcome

pub logged_history : (t : PlainReceiver) (bs : List Block) → (all_logged_by t bs).history ≡ t.history
logged_history t [] = refl
logged_history t (b ∷ bs) = refl

module _ (w : PlainWorld) (l : ℕ) (c : Conversation w) (within : l < length w.pairs) (put : Put) (hands : Hands (pair_at w l).recv put)
    (belongs : RecvBelongsAt w l) where
  abbrev r : PlainReceiver
  r = w.receiver

  abbrev Sees : Step → Type 0
  Sees step = Seen w.receiver l put step

  below : l < length w.receiver.lanes
  below = subst (λ (n : ℕ). l < n) (sym c.recv_lanes) within

  pub lives : is_ended (state_at w.receiver l) ≡ false
  lives = hands_lives (pair_at w l).recv put (lane_at w.receiver l) (past_at w.receiver l) hands belongs

  pub goes_on : (b : Bool) × GoesOn (past_at w.receiver l) b
  goes_on = fares_goes (is_failure w.receiver.answer) (state_at w.receiver l) (lane_at w.receiver l) (past_at w.receiver l) (end_of w.receiver.history) (c.receiver.lanes l below) lives

  -- an input that no world hands in
  pub hands_not : {P : Type 0} (input : RecvIn) → put ≡ Given input → is_woken input ≡ false
      → (RecvBelongs (RecvHas input) (lane_at w.receiver l) (past_at w.receiver l) → ⊥) → P
  hands_not input given wakes none =
      absurd
      (none (subst (λ (h : RecvHold). RecvBelongs h (lane_at w.receiver l) (past_at w.receiver l)) (holds_input (pair_at w l).recv put input hands given wakes) belongs))

  same : (step : Step) → step.1.history ≡ w.receiver.history → Sees step
  same step is = Stays (steady_same w.receiver.history step.1.history is)

  -- one entry that says nothing of the lanes together
  quietly : (step : Step) (e : RecvEvent) → is_quiet e ≡ true → step.1.history ≡ w.receiver.history ++ e ∷ [] → Sees step
  quietly step e quiet is =
      Stays
      (steady_on w.receiver.history (w.receiver.history ++ e ∷ []) step.1.history (steady_more w.receiver.history e quiet) (steady_same (w.receiver.history ++ e ∷ []) step.1.history is))

  pub rested : {P : Type 0} → outcomes.Rests w.receiver (number l) put → P
  rested (WasOver here) = absurd (both_ways (is_ended (state_at w.receiver l)) lives (ap is_ended here))
  rested (WasStray sound stray) =
      absurd (both_ways (is_stray (row_at w.receiver (number l) put)) (no_stray w.receiver l (pair_at w l).recv put hands belongs) stray)
  rested (WasSettled sound here given answer) = hands_not inputs.Starved given refl (λ b. b)
  rested (WasNoBlock bytes serves given none) =
      absurd (subst (λ (o : Option Block). HasLeft o (lane_at w.receiver l).left) none (recv_fares w l states.TakeBlock c within serves.here).1)

  -- ---- a lane that asks for the end

  point : (t : PlainReceiver) → outcomes.Idles w.receiver (number l) put t → Point w.receiver l put t.history
  point t (ByDone serves sized given is) = NowIdle (ap (λ (x : PlainReceiver). x.history) is) serves.here sized given serves.sound
  point t (ByWait serves given is) = WasIdle (ap (λ (x : PlainReceiver). x.history) is) (recv_fares w l states.SendWait c within serves.here).0.idle
  point t (ByWaking serves given is) = WasIdle (ap (λ (x : PlainReceiver). x.history) is) (recv_fares w l states.WaitForFinish c within serves.here).0.idle

  sound_at : (t : PlainReceiver) → outcomes.Idles w.receiver (number l) put t → is_failure w.receiver.answer ≡ false
  sound_at t (ByDone serves sized given is) = serves.sound
  sound_at t (ByWait serves given is) = serves.sound
  sound_at t (ByWaking serves given is) = serves.sound

  many : (t : PlainReceiver) → outcomes.Idles w.receiver (number l) put t → length t.lanes ≡ length w.receiver.lanes
  many t (ByDone serves sized given is) = ap (λ (x : PlainReceiver). length x.lanes) is ∙ length-set w.receiver.lanes l _
  many t (ByWait serves given is) = ap (λ (x : PlainReceiver). length x.lanes) is ∙ length-set w.receiver.lanes l _
  many t (ByWaking serves given is) = ap (λ (x : PlainReceiver). length x.lanes) is

  concludes : (t : PlainReceiver) → outcomes.Concludes w.receiver (number l) put t → Sees (says_done t (number l))
  concludes t (WasFinished u idles come) = Asks (point u idles) (inr (inl come))
  concludes t (IsFinished u fin none) =
      Ends u (sound_at u fin.idles) (point u fin.idles) (many u fin.idles) fin.first fin.ready
      (ap (λ (g : List RecvEvent). g ++ events.Finish ∷ []) (logged_history u u.unlogged))

  -- ---- a lane that has no connection

  -- behind a loss
  lost : Off w.receiver.history (w.receiver.history ++ events.Dropped (number l) ∷ []) l false
  lost =
      record {
        idle = ap (λ (p : RecvPast). p.is_idle) past;
        telling = ap (λ (p : RecvPast). p.telling) past;
        closed = ap (λ (p : RecvPast). p.is_closed) past ∙ goes_on.1.closed;
        confirmed = λ q. ap (λ (x : Confirm). x.is_confirmed) (confirm_of-append w.receiver.history (events.Dropped (number l) ∷ []) q);
        finish = ap (λ (x : EndPast). x.has_finish) (end_of-append w.receiver.history (events.Dropped (number l) ∷ []));
      } where
        past : past_of (w.receiver.history ++ events.Dropped (number l) ∷ []) l ≡ record (past_at w.receiver l) { begun = None; is_up = false; is_idle = false; telling = [] }
        past = past_of-append w.receiver.history (events.Dropped (number l) ∷ []) l ∙ rw (eq-eqb l l refl) refl

  -- behind a try that failed
  tried : state_at w.receiver l ≡ states.Listen → Off w.receiver.history (w.receiver.history ++ events.NoLink (number l) ∷ []) l false
  tried here =
      let fares = recv_fares w l states.Listen c within here in
      let s = steady_more w.receiver.history (events.NoLink (number l)) refl in
      record {
        idle = s.idle l ∙ fares.idle;
        telling = s.telling l ∙ ((legal_sound (terms_of w.receiver) w.receiver.history l c.receiver.legal).off fares.goes_on.link).telling;
        closed = s.closed l ∙ fares.goes_on.closed;
        confirmed = s.confirmed;
        finish = s.finish;
      }

  off : (t : PlainReceiver) → outcomes.Listens w.receiver (number l) put t → Off w.receiver.history t.history l false
  off t (AtFirst serves given) = hands_not inputs.Start given refl (λ b. b)
  off t (ByNoLink serves given) = tried serves.here
  off t (ByLoss st serves linked given) = lost

  quits : (g : List RecvEvent) → Off w.receiver.history g l false → Off w.receiver.history (g ++ events.Quit (number l) ∷ []) l false
  quits g o =
      let s = steady_more g (events.Quit (number l)) refl in
      record { idle = s.idle l ∙ o.idle; telling = s.telling l ∙ o.telling; closed = s.closed l ∙ o.closed; confirmed = λ q. s.confirmed q ∙ o.confirmed q; finish = s.finish ∙ o.finish }

  closes : (g : List RecvEvent) → Off w.receiver.history g l false → Off w.receiver.history (g ++ events.Close (number l) ∷ []) l true
  closes g o =
      record {
        idle = ap (λ (p : RecvPast). p.is_idle) past ∙ o.idle;
        telling = ap (λ (p : RecvPast). p.telling) past ∙ o.telling;
        closed = ap (λ (p : RecvPast). p.is_closed) past;
        confirmed = λ q. ap (λ (x : Confirm). x.is_confirmed) (confirm_of-append g (events.Close (number l) ∷ []) q) ∙ o.confirmed q;
        finish = ap (λ (x : EndPast). x.has_finish) (end_of-append g (events.Close (number l) ∷ [])) ∙ o.finish;
      } where
        past : past_of (g ++ events.Close (number l) ∷ []) l ≡ record (past_of g l) { is_closed = true }
        past = past_of-append g (events.Close (number l) ∷ []) l ∙ rw (eq-eqb l l refl) refl

  given_so : (t : PlainReceiver) (come : Bool) → has_finish t ≡ come → Off w.receiver.history t.history l false
      → Sees (acts.Stop, goes (noted t (given_up (number l) come ∷ [])) l states.Ended)
  given_so t true is o = Drops (quits t.history o)
  given_so t false is o = Closes (sym o.finish ∙ is) (closes t.history o)

  -- ---- the others

  failing : (t : PlainReceiver) (answer : EndAnswer) (mute : Bool) → outcomes.Fails w.receiver (number l) put t answer mute
      → Sees (came_to w.receiver (number l) (Failed t answer mute))
  failing t answer mute (OfMemory m going given here is) = hands_not inputs.Starved given refl (λ b. b)
  failing t answer mute (OfSender st code serves reads given) = quietly _ (events.Abort (number l) code) refl refl
  failing t answer mute (OfPeer st kind serves reads mistake) = quietly _ (events.Peer (number l) kind) refl refl
  failing t answer mute (OfShort u kind finishes short) = quietly _ (events.Peer (number l) kind) refl refl
  failing t answer mute (OfMake h serves sized given fault new) = same _ refl
  failing t answer mute (OfWrite bytes b serves given begun) = same _ refl
  failing t answer mute (OfLog b lands full) = quietly _ (events.Land (number l)) refl refl
  failing t answer mute (OfFinish u finishes) = Asks (point u finishes.idles) (inl refl)

  reads_on : (t : PlainReceiver) → outcomes.ReadsOn w.receiver (number l) put t → Sees (came_to w.receiver (number l) (ReadOn t))
  reads_on t (ByGreeting serves given asks) = same _ refl
  reads_on t (ByChunks serves given) = same _ refl
  reads_on t (ByMarks serves given) = same _ refl
  reads_on t (ByLanding b lands few) = quietly _ (events.Land (number l)) refl refl
  reads_on t (ByLogging b lands full) =
      quietly _ (events.Land (number l)) refl (logged_history (landed_by w.receiver (number l) b) (landed_by w.receiver (number l) b).unlogged)

  begins_so : (t : PlainReceiver) (b : Block) (left : ℕ) → t.history ≡ w.receiver.history → Sees (begins_by t (number l) b left)
  begins_so t b zero is =
      let first : List RecvEvent = w.receiver.history ++ events.Begin (number l) b ∷ [] in
      Stays (steady_on w.receiver.history (first ++ events.Land (number l) ∷ []) _
      (steady_on w.receiver.history first (first ++ events.Land (number l) ∷ []) (steady_more w.receiver.history (events.Begin (number l) b) refl) (steady_more first (events.Land (number l)) refl))
      (steady_same (first ++ events.Land (number l) ∷ []) _ (ap (λ (g : List RecvEvent). (g ++ events.Begin (number l) b ∷ []) ++ events.Land (number l) ∷ []) is)))
  begins_so t b (suc left) is = quietly _ (events.Begin (number l) b) refl (ap (λ (g : List RecvEvent). g ++ events.Begin (number l) b ∷ []) is)

  begun : (t : PlainReceiver) (b : Block) → outcomes.Begins w.receiver (number l) put t b → Sees (came_to w.receiver (number l) (Begun t b))
  begun t b (OfKnown h serves sized given fault old) = begins_so w.receiver (block_of w.receiver.known h) (block_of w.receiver.known h).length refl
  begun t b (OfNew h serves sized given fault new) = begins_so (knows w.receiver h) (block_of w.receiver.known h) (block_of w.receiver.known h).length refl

  meets_so : (s : Settings) (known come : Bool) → Sees (greets_by (met_by w.receiver (number l) s known) (number l) s come)
  meets_so s true true = same _ refl
  meets_so s true false = same _ refl
  meets_so s false true = quietly _ (events.Met (number l) s) refl refl
  meets_so s false false = quietly _ (events.Met (number l) s) refl refl

  sizes_so : (files bytes : ℕ) (known : Bool)
      → Sees (reads (with_lane (sized_by w.receiver (number l) files bytes known) l record (lane_at w.receiver l) { is_sized = true }))
  sizes_so files bytes true = same _ refl
  sizes_so files bytes false = quietly _ (events.Sized (number l) files bytes) refl refl

  -- whatever the step comes to
  pub outcome_seen : (o : Outcome) → ComesOf w.receiver (number l) put o → Sees (came_to w.receiver (number l) o)
  outcome_seen Rested of = rested of
  outcome_seen Left of = same _ refl
  outcome_seen Warned of = same _ refl
  outcome_seen (Failed t answer mute) of = failing t answer mute of
  outcome_seen (GivenUp t) of = given_so t (has_finish t) refl (off t of.0)
  outcome_seen (Listened t) of = Drops (off t of.0)
  outcome_seen Linked of = quietly _ (events.Take (number l) (next_take w.receiver (number l))) refl refl
  outcome_seen (Greeted s) of = meets_so s (is_some (end_of w.receiver.history).met) (has_finish w.receiver)
  outcome_seen Listed of = same _ refl
  outcome_seen (ReadOn t) of = reads_on t of
  outcome_seen (Sized files bytes) of = sizes_so files bytes (is_some (end_of w.receiver.history).sized)
  outcome_seen (Begun t b) of = begun t b of
  outcome_seen (Taken left) of = same _ refl
  outcome_seen (Concluded t) of = concludes t of
  outcome_seen (Told t q qs) of = Tells t q qs (point t of.idles) (many t of.idles) of.told refl
  outcome_seen (Waited t true) of = Asks (point t of.0.idles) (inr (inr (ap (λ (n : ℕ). is_ready n t.history) (length-set t.lanes l _) ∙ of.0.unready)))
  outcome_seen (Waited t false) of = Asks (point t of.0.idles) (inr (inr (ap (λ (n : ℕ). is_ready n t.history) (length-set t.lanes l _) ∙ of.0.unready)))
  outcome_seen Ended of = same _ refl
  outcome_seen Acknowledged of = quietly _ (events.Acked (number l)) refl refl

  pub turn_seen : (step : Step) → EndsIn (Unit {0}) (turn_plan w.receiver (number l) put) step → Sees step
  turn_seen step ends = let x = end_comes w.receiver (number l) put (Unit {0}) step ends in subst Sees (sym x.is) (outcome_seen x.outcome x.of)
