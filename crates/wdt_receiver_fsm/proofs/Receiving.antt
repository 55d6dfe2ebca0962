-- Each end of a step leaves a plain receiver as steps leave it.
use Rattle.std.proofs.Common.{◌≡◌, ◌≢◌, ◌⊎◌, inl, inr, ℕ, zero, suc, ◌+◌, ◌<◌, ◌≤◌, ◌==◌, ◌&&◌, ◌||◌, nat_le, if◌then◌else◌, List, [], ◌∷◌, ◌++◌, length, Bool, true, false, Option, Some, None, is_some, replicate, slice_get, subst, sym, ap, ◌∙◌, refl, arith, eqb-true}
use Rattle.std.specs.Option.{option_map}
use Rattle.std.proofs.lemmas.Bool.{both_ways}
use Rattle.std.proofs.lemmas.Bool.Decides.{nat_tests}
use Rattle.std.proofs.lemmas.List.{length-replicate, length-set}
use Rattle.std.proofs.lemmas.Option.{same_Some}
use Rattle.wdt_units.specs.declared.blocks.Block.{Block}
use Rattle.wdt_units.specs.declared.blocks.Header.{Header}
use Rattle.wdt_units.specs.declared.numbers.Lane.{Lane}
use Rattle.wdt_codec.specs.declared.frames.Settings.{Settings}
use Rattle.wdt_logfmt.specs.Beginning.{BeginFault, SizeDiffers as BSize, Overlap as BOverlap, OverLimit as BLimit, block_of, first_taken, or_else, overlap_fault_by, begin_fault}
use Rattle.wdt_logfmt.specs.Marks.{Marked, bytes_in, files_in, marks_of}
use Rattle.wdt_logfmt.specs.View.{Meaning, NamedFile}
use Rattle.wdt_sender_fsm.specs.declared.answers.EndAnswer.{EndAnswer}
use Rattle.wdt_sender_fsm.specs.declared.answers.EndAnswer.TheVariants as answers
use Rattle.wdt_sender_fsm.specs.declared.peers.PeerKind.{PeerKind}
use Rattle.wdt_sender_fsm.specs.declared.peers.PeerKind.TheVariants as peers
use Rattle.wdt_sender_fsm.specs.Rules.{is_failure, by_voice}
use Rattle.wdt_receiver_fsm.specs.declared.events.RecvEvent.{RecvEvent}
use Rattle.wdt_receiver_fsm.specs.declared.events.RecvEvent.TheVariants as events
use Rattle.wdt_receiver_fsm.specs.declared.inputs.RecvIn.{RecvIn}
use Rattle.wdt_receiver_fsm.specs.declared.inputs.RecvIn.TheVariants as inputs
use Rattle.wdt_receiver_fsm.specs.declared.states.RecvLane.{RecvLane}
use Rattle.wdt_receiver_fsm.specs.declared.states.RecvState.{RecvState}
use Rattle.wdt_receiver_fsm.specs.declared.states.RecvState.TheVariants as states
use Rattle.wdt_receiver_fsm.specs.Frames.{block_fault, kind_of, most_landed, settings_fault, short_fault, size_fault}
use Rattle.wdt_receiver_fsm.specs.Legal.{IsAllowed, IsFault, IsLegal-none, IsShort, ReadsAt, ReadsIn, Terms}
use Rattle.wdt_receiver_fsm.specs.Logging.{all_logged, all_logged_by}
use Rattle.wdt_receiver_fsm.specs.Outcomes.{is_linked, Outcome, Rested, Left, Warned, Failed, GivenUp, Listened, Linked, Greeted, Listed, ReadOn, Sized, Begun, Taken, Concluded, Told, Waited, Ended, Acknowledged, came_to, ComesOf, Serves, WasMute, WasTold, Lands, landed_by, Idles, ByDone, ByWait, ByWaking, Finishes, Listens, AtFirst, ByNoLink, ByLoss, ReadsOn, ByGreeting, ByChunks, ByMarks, ByLanding, ByLogging, Begins, OfKnown, OfNew, Takes, Concludes, WasFinished, IsFinished, Mistakes, NoFrame, NoPlace, WrongSettings, OtherSize, WrongBlock, Fails, OfMemory, OfSender, OfPeer, OfShort, OfMake, OfWrite, OfLog, OfFinish}
use Rattle.wdt_receiver_fsm.specs.PlainReceiver.{PlainReceiver, begun_blocks, can_finish, failed, lane_or_ended, marks_at, new_lane, opened, has_finish, lane_at, noted, past_at, state_at, untold_at, with_lane}
use Rattle.wdt_receiver_fsm.specs.Plan.{EndsIn}
use Rattle.wdt_receiver_fsm.specs.Ready.{is_ready}
use Rattle.wdt_receiver_fsm.specs.Receiver.{Fares, FaresAt, GoesOn, HasLeft, IsReceiver, terms_of, Waits}
use Rattle.wdt_receiver_fsm.specs.ReceiverHistory.{EndPast, RecvPast, begun_list, end_of, end_of-none, first_of, landed_from, landed_of, no_past, past_of, past_of-none, with_begun_at}
use Rattle.wdt_receiver_fsm.specs.Rows.{is_mute, is_mute_at, is_reading, piece_row, row_of}
use Rattle.wdt_receiver_fsm.specs.Sets.{lanes_of, set_of}
use Rattle.wdt_receiver_fsm.specs.Turn.{Put, Given, Bytes, Step, begins_by, meets, says_done, tells_by, turn_plan, waits_by, knows, drops_lane, greets_by, idles_lane, is_used_up, lands, met_by, sized_by, leaves, tells_failure, row_at, waited_lane, given_up}
use Rattle.wdt_receiver_fsm.proofs.Comes.{end_comes}
use Rattle.wdt_receiver_fsm.proofs.Entries.{abort_past, acked, and_first, and_second, began, fails_noted, finish_past, none_left, notes_finish, peer_past, told, dropped, knows_so, met_past, notes_sized, sized_past, fails_so, idled, landed, logged_so, may, notes_met, puts_so, tried, took, closed, quitted}
use Rattle.wdt_receiver_fsm.proofs.HeldActs.{lane_set, told_lanes}
use Rattle.wdt_receiver_fsm.proofs.Judged.{conn_is}
use Rattle.wdt_receiver_fsm.proofs.Keeping.{Stays, end_behind, end_same, notes_quiet, put_back, receiver_stays, judged_fails}

-- ---- which lanes have a connection

linked_at : (f sized : Bool) (state : RecvState) (lane : RecvLane) (p : RecvPast) (e : EndPast) (input : RecvIn) → Fares f state lane p e → is_mute (row_of sized state input) ≡ false → GoesOn p true
linked_at f sized states.Ended lane p e input fares voice = cc
linked_at f sized states.Listen lane p e inputs.Start fares voice = cc
linked_at f sized states.Listen lane p e inputs.NoLink fares voice = cc
linked_at f sized states.Listen lane p e inputs.Linked fares voice = cc
linked_at f sized states.Listen lane p e inputs.Starved fares voice = cc
linked_at f sized states.Listen lane p e input fares voice = cc
linked_at f sized states.ReadSettings lane p e input fares voice = fares.0.goes_on
linked_at f sized states.SendLocalCheckpoint lane p e input fares voice = fares.0.goes_on
linked_at f sized states.SendFileChunks lane p e input fares voice = fares.0.goes_on
linked_at f sized states.ReadNextCmd lane p e input fares voice = fares.0.goes_on
linked_at f sized states.TakeBlock lane p e input fares voice = fares.0.goes_on
linked_at f sized states.SendWait lane p e input fares voice = fares.0.goes_on
linked_at f sized states.WaitForFinish lane p e input fares voice = fares.0.goes_on
linked_at f sized states.SendGlobalCheckpoint lane p e input fares voice = fares.0.goes_on
linked_at f sized states.SendDone lane p e input fares voice = fares.goes_on
linked_at f sized states.ReadAck lane p e input fares voice = fares.goes_on
linked_at f sized states.SendAbort lane p e input fares voice = fares.goes_on

bytes_linked : (f : Bool) (state : RecvState) (lane : RecvLane) (p : RecvPast) (e : EndPast) (bytes : List ℕ) → Fares f state lane p e → is_mute (piece_row state bytes) ≡ false → GoesOn p true
bytes_linked f states.TakeBlock lane p e bytes fares voice = fares.0.goes_on
bytes_linked f states.Ended lane p e bytes fares voice = cc
bytes_linked f state lane p e bytes fares voice = cc

-- a lane that loses its connection had one
loss_linked : (state : RecvState) (lane : RecvLane) (p : RecvPast) (e : EndPast) → Fares false state lane p e → is_linked state ≡ true → GoesOn p true
loss_linked states.Ended lane p e fares linked = cc
loss_linked states.Listen lane p e fares linked = cc
loss_linked states.ReadSettings lane p e fares linked = fares.0.goes_on
loss_linked states.SendLocalCheckpoint lane p e fares linked = fares.0.goes_on
loss_linked states.SendFileChunks lane p e fares linked = fares.0.goes_on
loss_linked states.ReadNextCmd lane p e fares linked = fares.0.goes_on
loss_linked states.TakeBlock lane p e fares linked = fares.0.goes_on
loss_linked states.SendWait lane p e fares linked = fares.0.goes_on
loss_linked states.WaitForFinish lane p e fares linked = fares.0.goes_on
loss_linked states.SendGlobalCheckpoint lane p e fares linked = fares.0.goes_on
loss_linked states.SendDone lane p e fares linked = fares.goes_on
loss_linked states.ReadAck lane p e fares linked = fares.goes_on
loss_linked states.SendAbort lane p e fares linked = fares.goes_on

-- ---- numbers

le_false : (a b : ℕ) → nat_le a b ≡ false → b < a
le_false a b h = grind (arith, nat_tests)

below_of : (a b : Bool) → (a || b) ≡ false → (a ≡ false) × (b ≡ false)
below_of true b h = absurd (cc)
below_of false b h = (refl, h)

used_of : (a b : ℕ) → (nat_le 8 a || nat_le 8 b) ≡ true → (8 ≤ a) ⊎ (8 ≤ b)
used_of a b h = grind (arith, nat_tests)

-- ---- the lane of a receiver

module _ (r : PlainReceiver) (l : Lane) (is : IsReceiver r) (within : l.0 < length r.lanes) where
  stays : Stays r l
  stays = receiver_stays r l is within

  pub fare : (state : RecvState) → Serves r l state → Fares false state (lane_at r l.0) (past_at r l.0) (end_of r.history)
  fare state at =
      subst (λ (b : Bool). Fares b state (lane_at r l.0) (past_at r l.0) (end_of r.history)) at.sound
      (subst (λ (x : RecvState). Fares (is_failure r.answer) x (lane_at r l.0) (past_at r l.0) (end_of r.history)) at.here (is.lanes l.0 within))

  -- ---- a failed end

  pub leaves_so : (put : Put) → Rattle.wdt_receiver_fsm.specs.Outcomes.Leaves r l put → IsReceiver (leaves r l).1
  leaves_so put (WasMute fails mute) = put_back r l record (lane_at r l.0) { state = states.Ended } (λ f. refl) stays (inl fails)
  leaves_so put (WasTold at given) = absurd (both_ways false refl (sym (sym (fare states.SendAbort at).failed)))

  pub warned_so : (put : Put) → is_failure r.answer ≡ true → is_mute (row_at r l put) ≡ false → IsReceiver (tells_failure r l).1
  warned_so (Given input) fails voice = put_back r l record (lane_at r l.0) { state = states.SendAbort } (λ f. refl) stays
      record { goes_on = linked_at (is_failure r.answer) (lane_at r l.0).is_sized (state_at r l.0) (lane_at r l.0) (past_at r l.0) (end_of r.history) input (is.lanes l.0 within) voice; failed = fails }
  warned_so (Bytes bytes) fails voice = put_back r l record (lane_at r l.0) { state = states.SendAbort } (λ f. refl) stays
      record { goes_on = bytes_linked (is_failure r.answer) (state_at r l.0) (lane_at r l.0) (past_at r l.0) (end_of r.history) bytes (is.lanes l.0 within) voice; failed = fails }

  -- ---- the lane wants a connection

  -- a receiver whose lane has none
  pub record Free (t : PlainReceiver) : Type 0 where
    pub stays : Stays t l
    pub sound : is_failure t.answer ≡ false
    pub goes_on : GoesOn (past_at t l.0) false
    pub begun : (past_at t l.0).begun ≡ None
    pub idle : (past_at t l.0).is_idle ≡ false

  lost_past : RecvPast → RecvPast
  lost_past p = record p { begun = None; is_up = false; is_idle = false; telling = [] }

  dropped_stays : is_failure r.answer ≡ false → GoesOn (past_at r l.0) true → Stays (noted r (events.Dropped l ∷ [])) l
  dropped_stays sound on = notes_quiet r l (events.Dropped l) stays (refl, tt) refl (may r l true (events.Dropped l) stays sound on refl refl tt)

  pub free_by : (put : Put) (t : PlainReceiver) → Listens r l put t → Free t
  free_by put t (AtFirst at given) =
      let h = fare states.Listen at in record { stays = stays; sound = at.sound; goes_on = h.goes_on; begun = h.begun; idle = h.idle }
  free_by put t (ByNoLink at given) =
      let h = fare states.Listen at in
      record {
        stays = notes_quiet r l (events.NoLink l) stays (refl, tt) refl (may r l false (events.NoLink l) stays at.sound h.goes_on refl refl h.tries);
        sound = at.sound;
        goes_on = subst (λ (p : RecvPast). GoesOn p false) (sym (tried r.history l)) record { closed = h.goes_on.closed; quit = h.goes_on.quit; acked = h.goes_on.acked; link = h.goes_on.link };
        begun = subst (λ (p : RecvPast). p.begun ≡ None) (sym (tried r.history l)) h.begun;
        idle = subst (λ (p : RecvPast). p.is_idle ≡ false) (sym (tried r.history l)) h.idle;
      }
  free_by put t (ByLoss state at linked given) =
      let on = loss_linked state (lane_at r l.0) (past_at r l.0) (end_of r.history) (fare state at) linked in
      record {
        stays = puts_so (noted r (events.Dropped l ∷ [])) l record (lane_at r l.0) { is_sized = false; has_waited = false; left = 0 } (λ f. refl) (dropped_stays at.sound on);
        sound = judged_fails r.answer _ _ ∙ at.sound;
        goes_on = subst (λ (p : RecvPast). GoesOn p false) (sym (dropped r.history l)) record { closed = on.closed; quit = on.quit; acked = on.acked; link = refl };
        begun = subst (λ (p : RecvPast). p.begun ≡ None) (sym (dropped r.history l)) refl;
        idle = subst (λ (p : RecvPast). p.is_idle ≡ false) (sym (dropped r.history l)) refl;
      }

  pub gave_up : (put : Put) (t : PlainReceiver) → Listens r l put t → is_used_up (past_at t l.0) ≡ true → IsReceiver (with_lane (noted t (given_up l (has_finish t) ∷ [])) l.0 record (lane_at t l.0) { state = states.Ended })
  gave_up put t of used = go (free_by put t of) (has_finish t) refl where
    go : Free t → (b : Bool) → has_finish t ≡ b → IsReceiver (with_lane (noted t (given_up l (has_finish t) ∷ [])) l.0 record (lane_at t l.0) { state = states.Ended })
    go f true come = subst (λ (b : Bool). IsReceiver (with_lane (noted t (given_up l b ∷ [])) l.0 record (lane_at t l.0) { state = states.Ended })) (sym come)
        (put_back (noted t (events.Quit l ∷ [])) l record (lane_at t l.0) { state = states.Ended } (λ f. refl)
        (notes_quiet t l (events.Quit l) f.stays (refl, tt) refl (may t l false (events.Quit l) f.stays f.sound f.goes_on refl refl (come, used_of (past_at t l.0).takes (past_at t l.0).failed_tries used)))
        (inr (inr (inl (subst (λ (p : RecvPast). p.has_quit ≡ true) (sym (quitted t.history l)) refl)))))
    go f false come = subst (λ (b : Bool). IsReceiver (with_lane (noted t (given_up l b ∷ [])) l.0 record (lane_at t l.0) { state = states.Ended })) (sym come)
        (put_back (noted t (events.Close l ∷ [])) l record (lane_at t l.0) { state = states.Ended } (λ f. refl)
        (notes_quiet t l (events.Close l) f.stays (refl, tt) refl (may t l false (events.Close l) f.stays f.sound f.goes_on refl refl (come, used_of (past_at t l.0).takes (past_at t l.0).failed_tries used)))
        (inr (inl (subst (λ (p : RecvPast). p.is_closed ≡ true) (sym (closed t.history l)) refl))))

  listened : (put : Put) (t : PlainReceiver) → Listens r l put t → is_used_up (past_at t l.0) ≡ false → IsReceiver (with_lane t l.0 record (lane_at t l.0) { state = states.Listen })
  listened put t of fresh =
      let f = free_by put t of in
      let few = below_of (nat_le 8 (past_at t l.0).takes) (nat_le 8 (past_at t l.0).failed_tries) fresh in
      put_back t l record (lane_at t l.0) { state = states.Listen } (λ f. refl) f.stays
      record { goes_on = f.goes_on; begun = f.begun; idle = f.idle; takes = le_false 8 (past_at t l.0).takes few.0; tries = le_false 8 (past_at t l.0).failed_tries few.1 }

  linked_so : Serves r l states.Listen → IsReceiver (with_lane (noted r (events.Take l (Rattle.wdt_receiver_fsm.specs.Turn.next_take r l) ∷ [])) l.0 record (lane_at r l.0) { state = states.ReadSettings; is_sized = false; has_waited = false })
  linked_so at =
      let h = fare states.Listen at in
      let c = Rattle.wdt_receiver_fsm.specs.Turn.next_take r l in
      put_back (noted r (events.Take l (Rattle.wdt_receiver_fsm.specs.Turn.next_take r l) ∷ [])) l record (lane_at r l.0) { state = states.ReadSettings; is_sized = false; has_waited = false } (λ f. refl)
      (notes_quiet r l (events.Take l (Rattle.wdt_receiver_fsm.specs.Turn.next_take r l)) stays (refl, tt) refl (may r l false (events.Take l (Rattle.wdt_receiver_fsm.specs.Turn.next_take r l)) stays at.sound h.goes_on refl refl (refl, omega (arith, h.takes))))
      (subst (λ (p : RecvPast). Rattle.wdt_receiver_fsm.specs.Receiver.Meets p × (false ≡ false)) (sym (took r.history l (Rattle.wdt_receiver_fsm.specs.Turn.next_take r l)))
      (record { goes_on = record { closed = h.goes_on.closed; quit = h.goes_on.quit; acked = h.goes_on.acked; link = refl }; begun = h.begun; idle = h.idle }, refl))

  -- ---- what the sender says of itself

  -- the first settings with no wrong field have none whatever connection was read before
  fresh_settings : (s : Settings) (conn : ℕ) → settings_fault (length r.lanes) None l.0 conn s ≡ None → settings_fault (length r.lanes) None l.0 0 s ≡ None
  fresh_settings s conn right = grind (arith, nat_tests)

  -- a receiver behind the settings that were read
  record Knows (t : PlainReceiver) : Type 0 where
    stays : Stays t l
    past : past_at t l.0 ≡ past_at r l.0
    lane : lane_at t l.0 ≡ lane_at r l.0
    met : (end_of t.history).met ≢ None
    finish : has_finish t ≡ has_finish r
    sound : is_failure t.answer ≡ false

  some_of : {A : Type 0} (o : Option A) → is_some o ≡ true → o ≢ None
  some_of None h e = absurd (cc)
  some_of (Some x) h e = cc

  none_of : {A : Type 0} (o : Option A) → is_some o ≡ false → o ≡ None
  none_of None h = refl
  none_of (Some x) h = absurd (cc)

  met_so : (s : Settings) (b : Bool) → is_some (end_of r.history).met ≡ b → Serves r l states.ReadSettings → settings_fault (length r.lanes) (end_of r.history).met l.0 (lane_at r l.0).conn s ≡ None → Knows (met_by r l s b)
  met_so s true known at right = record { stays = stays; past = refl; lane = refl; met = some_of (end_of r.history).met known; finish = refl; sound = at.sound }
  met_so s false known at right =
      let h = fare states.ReadSettings at in
      let none : (end_of r.history).met ≡ None = none_of (end_of r.history).met known in
      record {
        stays = notes_met r l s stays (may r l true (events.Met l s) stays at.sound h.0.goes_on refl refl
            (none, fresh_settings s (lane_at r l.0).conn (subst (λ (o : Option Settings). settings_fault (length r.lanes) o l.0 (lane_at r l.0).conn s ≡ None) none right)));
        past = met_past r.history l s l.0;
        lane = refl;
        met = λ e. first_some (end_of r.history).met s (sym (ap (λ (x : EndPast). x.met) (end_behind r.history (events.Met l s))) ∙ e);
        finish = ap (λ (x : EndPast). x.has_finish) (end_behind r.history (events.Met l s));
        sound = at.sound;
      }
    where
      first_some : (o : Option Settings) (s : Settings) → first_of o s ≡ None → ⊥
      first_some None s e = cc
      first_some (Some x) s e = cc

  greeted_by : (s : Settings) (t : PlainReceiver) (come : Bool) → Serves r l states.ReadSettings → Knows t → has_finish r ≡ come → IsReceiver (greets_by t l s come).1
  greeted_by s t true at k come =
      let h = fare states.ReadSettings at in
      put_back t l record (lane_at t l.0) { state = states.SendDone; ask = s.ask; conn = s.conn.0 } (λ f. absurd (both_ways _ (k.stays.faultless k.sound) f)) k.stays
      record { goes_on = subst (λ (p : RecvPast). GoesOn p true) (sym k.past) h.0.goes_on; begun = ap (λ (p : RecvPast). p.begun) k.past ∙ h.0.begun; finish = k.finish ∙ come }
  greeted_by s t false at k come =
      let h = fare states.ReadSettings at in
      put_back t l record (lane_at t l.0) { state = states.SendLocalCheckpoint; ask = s.ask; conn = s.conn.0 } (λ f. absurd (both_ways _ (k.stays.faultless k.sound) f)) k.stays (
        record { goes_on = subst (λ (p : RecvPast). GoesOn p true) (sym k.past) h.0.goes_on; idle = ap (λ (p : RecvPast). p.is_idle) k.past ∙ h.0.idle; met = k.met; finish = k.finish ∙ come },
        ap (λ (p : RecvPast). p.begun) k.past ∙ h.0.begun,
        ap (λ (x : RecvLane). x.is_sized) k.lane ∙ h.1,
      )

  -- ---- what is sent in all

  sized_as : (files bytes : ℕ) (b : Bool) → is_some (end_of r.history).sized ≡ b → Serves r l states.ReadNextCmd → IsReceiver (with_lane (sized_by r l files bytes b) l.0 record (lane_at r l.0) { is_sized = true })
  sized_as files bytes true known at =
      let h = fare states.ReadNextCmd at in
      put_back r l record (lane_at r l.0) { is_sized = true } (λ f. refl) stays
      (subst (λ (x : RecvState). Fares (is_failure r.answer) x record (lane_at r l.0) { is_sized = true } (past_at r l.0) (end_of r.history)) (sym at.here) (h.0, h.1, λ s. some_of (end_of r.history).sized known))
  sized_as files bytes false known at =
      let h = fare states.ReadNextCmd at in
      let e = end_behind r.history (events.Sized l files bytes) in
      put_back (noted r (events.Sized l files bytes ∷ [])) l record (lane_at r l.0) { is_sized = true } (λ f. refl)
      (notes_sized r l files bytes stays (may r l true (events.Sized l files bytes) stays at.sound h.0.goes_on refl refl (none_of (end_of r.history).sized known, h.0.met)))
      (subst (λ (x : RecvState). Fares (is_failure r.answer) x record (lane_at r l.0) { is_sized = true } (past_of (r.history ++ events.Sized l files bytes ∷ []) l.0) (end_of (r.history ++ events.Sized l files bytes ∷ []))) (sym at.here)
      (subst (λ (p : RecvPast). Fares (is_failure r.answer) states.ReadNextCmd record (lane_at r l.0) { is_sized = true } p (end_of (r.history ++ events.Sized l files bytes ∷ []))) (sym (sized_past r.history l files bytes l.0)) (
        record { goes_on = h.0.goes_on; idle = h.0.idle; met = λ x. h.0.met (sym (ap (λ (y : EndPast). y.met) (end_behind r.history (events.Sized l files bytes))) ∙ x); finish = ap (λ (y : EndPast). y.has_finish) (end_behind r.history (events.Sized l files bytes)) ∙ h.0.finish },
        h.1,
        λ s x. first_pair (end_of r.history).sized (files, bytes) (sym (ap (λ (y : EndPast). y.sized) (end_behind r.history (events.Sized l files bytes))) ∙ x),
      )))
    where
      first_pair : (o : Option (ℕ × ℕ)) (s : ℕ × ℕ) → first_of o s ≡ None → ⊥
      first_pair None s e = cc
      first_pair (Some x) s e = cc

  -- ---- a block has landed

  landed_so : (b : Block) (put : Put) → Lands r l put b → Stays (landed_by r l b) l
  landed_so b put lands =
      let h = fare states.TakeBlock lands.serves in
      let u : PlainReceiver = with_lane r l.0 record (lane_at r l.0) { left = 0 } in
      let s = puts_so r l record (lane_at r l.0) { left = 0 } (λ f. refl) stays in
      let n = notes_quiet (with_lane r l.0 record (lane_at r l.0) { left = 0 }) l (events.Land l) s (refl, tt) refl
      (may (with_lane r l.0 record (lane_at r l.0) { left = 0 }) l true (events.Land l) s (judged_fails r.answer _ _ ∙ lands.serves.sound) h.0.goes_on refl refl (λ e. not_none (past_at r l.0).begun b lands.begun e)) in
      record {
        few = n.few;
        within = n.within;
        legal = n.legal;
        others = n.others;
        faultless = n.faultless;
        finished = λ come. absurd (both_ways _ (ap (λ (x : EndPast). x.has_finish) (end_same r.history (events.Land l) refl) ∙ h.0.finish) come);
      }
    where
      not_none : (o : Option Block) (b : Block) → o ≡ Some b → o ≡ None → ⊥
      not_none o b is e = absurd (cc)

  landed_fares : (b : Block) (put : Put) (lane : RecvLane) → Lands r l put b → Fares false states.ReadNextCmd lane (past_at (landed_by r l b) l.0) (end_of (landed_by r l b).history)
  landed_fares b put lane lands =
      let h = fare states.TakeBlock lands.serves in
      subst (λ (p : RecvPast). Fares false states.ReadNextCmd lane p (end_of (landed_by r l b).history)) (sym (landed r.history l))
      (subst (λ (e : EndPast). Fares false states.ReadNextCmd lane (record (past_at r l.0) { landed = Rattle.wdt_receiver_fsm.specs.ReceiverHistory.with_begun (past_at r l.0).landed (past_at r l.0).begun; begun = None }) e) (sym (end_same r.history (events.Land l) refl))
      (record { goes_on = record { closed = h.0.goes_on.closed; quit = h.0.goes_on.quit; acked = h.0.goes_on.acked; link = h.0.goes_on.link }; idle = h.0.idle; met = h.0.met; finish = h.0.finish }, refl, λ s. h.3))

  read_on : (put : Put) (t : PlainReceiver) → ReadsOn r l put t → IsReceiver (with_lane t l.0 record (lane_at t l.0) { state = states.ReadNextCmd })
  read_on put t (ByGreeting at given asked) =
      let h = fare states.SendLocalCheckpoint at in put_back r l record (lane_at r l.0) { state = states.ReadNextCmd } (λ f. refl) stays (h.0, h.1, λ s. absurd (both_ways (lane_at r l.0).is_sized h.2 s))
  read_on put t (ByChunks at given) =
      let h = fare states.SendFileChunks at in put_back r l record (lane_at r l.0) { state = states.ReadNextCmd } (λ f. refl) stays (h.0, h.1, λ s. absurd (both_ways (lane_at r l.0).is_sized h.2 s))
  read_on put t (ByMarks at given) =
      let h = fare states.SendGlobalCheckpoint at in put_back r l record (lane_at r l.0) { state = states.ReadNextCmd } (λ f. refl) stays (h.0, h.1, λ s. h.3)
  read_on put t (ByLanding b lands full) = put_back (landed_by r l b) l record (lane_at (landed_by r l b) l.0) { state = states.ReadNextCmd } (λ f. refl) (landed_so b put lands) (landed_fares b put record (lane_at (landed_by r l b) l.0) { state = states.ReadNextCmd } lands)
  read_on put t (ByLogging b lands full) =
      put_back (all_logged (landed_by r l b)) l record (lane_at (all_logged (landed_by r l b)) l.0) { state = states.ReadNextCmd } (λ f. refl)
      (logged_so (landed_by r l b) l (landed_by r l b).unlogged refl (landed_so b put lands))
      (logged_fares (landed_by r l b) (landed_by r l b).unlogged (landed_fares b put record (lane_at (landed_by r l b) l.0) { state = states.ReadNextCmd } lands))
    where
      logged_fares : (u : PlainReceiver) (bs : List Block) → Fares false states.ReadNextCmd record (lane_at u l.0) { state = states.ReadNextCmd } (past_at u l.0) (end_of u.history) → Fares (is_failure (all_logged_by u bs).answer) states.ReadNextCmd record (lane_at (all_logged_by u bs) l.0) { state = states.ReadNextCmd } (past_at (all_logged_by u bs) l.0) (end_of (all_logged_by u bs).history)
      logged_fares u [] h = h
      logged_fares u (c ∷ cs) h = h

  -- ---- a block begins

  else_none : (a b : Option BeginFault) → or_else a b ≡ None → (a ≡ None) × (b ≡ None)
  else_none None b e = (refl, e)
  else_none (Some f) b e = absurd (cc)

  no_overlap : (o : Option ℕ) → overlap_fault_by o ≡ None → o ≡ None
  no_overlap None e = refl
  no_overlap (Some p) e = absurd (cc)

  kind_none : (o : Option BeginFault) → option_map kind_of o ≡ None → o ≡ None
  kind_none None e = refl
  kind_none (Some f) e = absurd (cc)

  block_clear : (n : ℕ) (h : Header) → block_fault r.known (marks_at r) (begun_blocks r) n h ≡ None → (n < most_landed) × (first_taken (marks_at r) (begun_blocks r) (block_of r.known h) ≡ None)
  block_clear n h right = go (nat_le most_landed n) refl where
    go : (b : Bool) → nat_le most_landed n ≡ b → (n < most_landed) × (first_taken (marks_at r) (begun_blocks r) (block_of r.known h) ≡ None)
    go true over = absurd (some_fault (sym (ap (λ (b : Bool). if b then Some (peers.OverLimit (n + 1)) else option_map kind_of (begin_fault r.known (marks_at r) (begun_blocks r) h)) over) ∙ right))
      where
        some_fault : Some (peers.OverLimit (n + 1)) ≡ None → ⊥
        some_fault e = cc
    go false under =
        let no : begin_fault r.known (marks_at r) (begun_blocks r) h ≡ None =
        kind_none (begin_fault r.known (marks_at r) (begun_blocks r) h) (sym (ap (λ (b : Bool). if b then Some (peers.OverLimit (n + 1)) else option_map kind_of (begin_fault r.known (marks_at r) (begun_blocks r) h)) under) ∙ right) in
        (le_false most_landed n under, no_overlap (first_taken (marks_at r) (begun_blocks r) (block_of r.known h)) (else_none _ _ (else_none _ _ no).1).0)

  -- a receiver that knows the block's file
  record Ready (t : PlainReceiver) (b : Block) : Type 0 where
    stays : Stays t l
    sound : is_failure t.answer ≡ false
    history : t.history ≡ r.history
    allowed : IsAllowed (terms_of t) t.history (events.Begin l b)

  begins_ready : (put : Put) (t : PlainReceiver) (b : Block) → Begins r l put t b → Ready t b × Serves r l states.ReadNextCmd × ((lane_at r l.0).is_sized ≡ true) × (t.lanes ≡ r.lanes)
  begins_ready put t b (OfKnown h at sized given right new) =
      let f = fare states.ReadNextCmd at in
      let c = block_clear (length (past_at r l.0).landed) h right in (
        record {
          stays = stays;
          sound = at.sound;
          history = refl;
          allowed = may r l true (events.Begin l b) stays at.sound f.0.goes_on refl refl record { finish = f.0.finish; idle = f.0.idle; begun = f.1; few = c.0; clear = c.1 };
        },
        at,
        sized,
        refl,
      )
  begins_ready put t b (OfNew h at sized given right new) =
      let f = fare states.ReadNextCmd at in
      let c = block_clear (length (past_at r l.0).landed) h right in
      let s = knows_so r l h at.sound stays in (
        record {
          stays = s;
          sound = at.sound;
          history = refl;
          allowed = may (knows r h) l true (events.Begin l b) s at.sound f.0.goes_on refl refl record { finish = f.0.finish; idle = f.0.idle; begun = f.1; few = c.0; clear = c.1 };
        },
        at,
        sized,
        refl,
      )

  -- behind the block's Begin
  begun_stays : (t : PlainReceiver) (b : Block) → Ready t b → Stays (noted t (events.Begin l b ∷ [])) l
  begun_stays t b ready = notes_quiet t l (events.Begin l b) ready.stays (refl, tt) refl ready.allowed

  abbrev landed_past : RecvPast → RecvPast
  landed_past p = record p { landed = Rattle.wdt_receiver_fsm.specs.ReceiverHistory.with_begun p.landed p.begun; begun = None }

  begun_so : (t : PlainReceiver) (b : Block) (left : ℕ) → b.length ≡ left → Ready t b → t.lanes ≡ r.lanes → Serves r l states.ReadNextCmd → (lane_at r l.0).is_sized ≡ true → IsReceiver (begins_by t l b left).1
  begun_so t b (suc left) long ready same at sized =
      let h = fare states.ReadNextCmd at in
      let past : past_at t l.0 ≡ past_at r l.0 = ap (λ (g : List RecvEvent). past_of g l.0) ready.history in
      let ends : end_of t.history ≡ end_of r.history = ap end_of ready.history in
      put_back (noted t (events.Begin l b ∷ [])) l record (lane_at t l.0) { state = states.TakeBlock; left = suc left } (λ f. refl) (begun_stays t b ready)
      (subst (λ (p : RecvPast). Fares (is_failure t.answer) states.TakeBlock record (lane_at t l.0) { state = states.TakeBlock; left = suc left } p (end_of (t.history ++ events.Begin l b ∷ []))) (sym (began t.history l b))
      (subst (λ (e : EndPast). Fares (is_failure t.answer) states.TakeBlock record (lane_at t l.0) { state = states.TakeBlock; left = suc left } (record (past_at t l.0) { begun = Some b }) e) (sym (end_same t.history (events.Begin l b) refl))
      (subst (λ (p : RecvPast). Fares (is_failure t.answer) states.TakeBlock record (lane_at t l.0) { state = states.TakeBlock; left = suc left } (record p { begun = Some b }) (end_of t.history)) (sym (ap (λ (g : List RecvEvent). past_of g l.0) ready.history))
      (subst (λ (e : EndPast). Fares (is_failure t.answer) states.TakeBlock record (lane_at t l.0) { state = states.TakeBlock; left = suc left } (record (past_at r l.0) { begun = Some b }) e) (sym (ap end_of ready.history)) (
        record { goes_on = record { closed = h.0.goes_on.closed; quit = h.0.goes_on.quit; acked = h.0.goes_on.acked; link = h.0.goes_on.link }; idle = h.0.idle; met = h.0.met; finish = h.0.finish },
        (omega arith, omega (arith, long)),
        ap (λ (lanes : List RecvLane). (lane_or_ended (slice_get lanes l.0)).is_sized) same ∙ sized,
        h.2 sized,
      )))))
  begun_so t b zero long ready same at sized =
      let h = fare states.ReadNextCmd at in
      let u : PlainReceiver = noted t (events.Begin l b ∷ []) in
      let s = begun_stays t b ready in
      let ends : end_of (t.history ++ events.Begin l b ∷ []) ≡ end_of r.history = end_same t.history (events.Begin l b) refl ∙ ap end_of ready.history in
      let past : past_of (t.history ++ events.Begin l b ∷ []) l.0 ≡ record (past_at r l.0) { begun = Some b } = began t.history l b ∙ ap (λ (g : List RecvEvent). record (past_of g l.0) { begun = Some b }) ready.history in
      let on : GoesOn (past_at (noted t (events.Begin l b ∷ [])) l.0) true = subst (λ (p : RecvPast). GoesOn p true) (sym (began t.history l b ∙ ap (λ (g : List RecvEvent). record (past_of g l.0) { begun = Some b }) ready.history))
      record { closed = h.0.goes_on.closed; quit = h.0.goes_on.quit; acked = h.0.goes_on.acked; link = h.0.goes_on.link } in
      let n = notes_quiet (noted t (events.Begin l b ∷ [])) l (events.Land l) s (refl, tt) refl
      (may (noted t (events.Begin l b ∷ [])) l true (events.Land l) s ready.sound on refl refl (λ e. some_begun b (sym (ap (λ (p : RecvPast). p.begun) (began t.history l b)) ∙ e))) in
      put_back (lands (noted t (events.Begin l b ∷ [])) l b) l record (lane_at t l.0) { state = states.ReadNextCmd } (λ f. refl)
      record {
        few = n.few;
        within = n.within;
        legal = n.legal;
        others = n.others;
        faultless = n.faultless;
        finished = λ come. absurd (both_ways _ (ap (λ (x : EndPast). x.has_finish) (end_same (t.history ++ events.Begin l b ∷ []) (events.Land l) refl ∙ (end_same t.history (events.Begin l b) refl ∙ ap end_of ready.history)) ∙ h.0.finish) come);
      }
      (subst (λ (p : RecvPast). Fares (is_failure t.answer) states.ReadNextCmd record (lane_at t l.0) { state = states.ReadNextCmd } p (end_of ((t.history ++ events.Begin l b ∷ []) ++ events.Land l ∷ []))) (sym (landed (t.history ++ events.Begin l b ∷ []) l))
      (subst (λ (e : EndPast). Fares (is_failure t.answer) states.ReadNextCmd record (lane_at t l.0) { state = states.ReadNextCmd } (landed_past (past_of (t.history ++ events.Begin l b ∷ []) l.0)) e) (sym (end_same (t.history ++ events.Begin l b ∷ []) (events.Land l) refl ∙ (end_same t.history (events.Begin l b) refl ∙ ap end_of ready.history)))
      (subst (λ (p : RecvPast). Fares (is_failure t.answer) states.ReadNextCmd record (lane_at t l.0) { state = states.ReadNextCmd } (landed_past p) (end_of r.history)) (sym (began t.history l b ∙ ap (λ (g : List RecvEvent). record (past_of g l.0) { begun = Some b }) ready.history))
      (record { goes_on = record { closed = h.0.goes_on.closed; quit = h.0.goes_on.quit; acked = h.0.goes_on.acked; link = h.0.goes_on.link }; idle = h.0.idle; met = h.0.met; finish = h.0.finish }, refl, λ s. h.2 sized))))
    where
      some_begun : (b : Block) → Some b ≡ None → ⊥
      some_begun b e = cc

  taken_so : (put : Put) (left : ℕ) → Takes r l put left → IsReceiver (with_lane r l.0 record (lane_at r l.0) { state = states.TakeBlock; left = left })
  taken_so put left takes =
      let h = fare states.TakeBlock takes.serves in
      put_back r l record (lane_at r l.0) { state = states.TakeBlock; left = left } (λ f. refl) stays
      (h.0, less (past_at r l.0).begun (lane_at r l.0).left left takes.more (omega (arith, takes.rest)) h.1, h.2, h.3)
    where
      more_than : (left : ℕ) → ((left ≡ 0) → ⊥) → 0 < left
      more_than zero more = absurd (more refl)
      more_than (suc n) more = omega arith

      less : (o : Option Block) (n left : ℕ) → ((left ≡ 0) → ⊥) → left ≤ n → HasLeft o n → HasLeft o left
      less None n left more fewer h = h
      less (Some b) n left more fewer h = (omega (arith, more_than left more), omega (arith, fewer, h.1))

  -- ---- an idle lane

  -- a receiver whose lane is idle
  record Resting (t : PlainReceiver) : Type 0 where
    stays : Stays t l
    sound : is_failure t.answer ≡ false
    waits : Waits (past_at t l.0) (end_of t.history)
    sized : (lane_at t l.0).is_sized ≡ true

  rests_by : (put : Put) (t : PlainReceiver) → Idles r l put t → Resting t
  rests_by put t (ByDone at sized given is) =
      let h = fare states.ReadNextCmd at in
      let n = notes_quiet r l (events.Idle l) stays (refl, tt) refl (may r l true (events.Idle l) stays at.sound h.0.goes_on refl refl h.1) in
      subst (λ (x : PlainReceiver). Resting x) (sym is) record {
        stays = puts_so (noted r (events.Idle l ∷ [])) l record (lane_at r l.0) { has_waited = false } (λ f. refl) n;
        sound = judged_fails r.answer _ _ ∙ at.sound;
        waits = subst (λ (p : RecvPast). Waits p (end_of (r.history ++ events.Idle l ∷ []))) (sym (idled r.history l))
            (subst (λ (e : EndPast). Waits (record (past_at r l.0) { is_idle = true; telling = [] }) e) (sym (end_same r.history (events.Idle l) refl))
            record { goes_on = record { closed = h.0.goes_on.closed; quit = h.0.goes_on.quit; acked = h.0.goes_on.acked; link = h.0.goes_on.link }; begun = h.1; idle = refl; met = h.0.met; sized = h.2 sized });
        sized = ap (λ (x : RecvLane). x.is_sized) (lane_set (noted r (events.Idle l ∷ [])) l.0 record (lane_at r l.0) { has_waited = false } within) ∙ sized;
      }
  rests_by put t (ByWait at given is) =
      let h = fare states.SendWait at in
      subst (λ (x : PlainReceiver). Resting x) (sym is) record {
        stays = puts_so r l record (lane_at r l.0) { has_waited = true } (λ f. refl) stays;
        sound = judged_fails r.answer _ _ ∙ at.sound;
        waits = h.0;
        sized = ap (λ (x : RecvLane). x.is_sized) (lane_set r l.0 record (lane_at r l.0) { has_waited = true } within) ∙ h.1;
      }
  rests_by put t (ByWaking at given is) =
      let h = fare states.WaitForFinish at in
      subst (λ (x : PlainReceiver). Resting x) (sym is) record { stays = stays; sound = at.sound; waits = h.0; sized = h.1 }

  -- a lane that chooses what it does is idle
  pub idle_by : (put : Put) (t : PlainReceiver) → Idles r l put t → (past_at t l.0).is_idle ≡ true
  idle_by put t idles = (rests_by put t idles).waits.idle

  waits_so : (t : PlainReceiver) (again : Bool) → Resting t → IsReceiver (waits_by t l again).1
  waits_so t true rest = put_back t l record (lane_at t l.0) { state = states.WaitForFinish } (λ f. refl) rest.stays (rest.waits, rest.sized)
  waits_so t false rest = put_back t l record (lane_at t l.0) { state = states.SendWait } (λ f. refl) rest.stays (rest.waits, rest.sized)

  tells_so : (t : PlainReceiver) (q : ℕ) (qs : List ℕ) → Resting t → has_finish t ≡ false → untold_at t l.0 ≡ q ∷ qs → IsReceiver (tells_by t l (q ∷ qs)).1
  tells_so t q qs rest first untold =
      let w = rest.waits in
      put_back (noted t (events.Told l (set_of (q ∷ qs)) ∷ [])) l record (lane_at t l.0) { state = states.SendGlobalCheckpoint } (λ f. refl)
      (notes_quiet t l (events.Told l (set_of (q ∷ qs))) rest.stays (refl, tt) refl (may t l true (events.Told l (set_of (q ∷ qs))) rest.stays rest.sound w.goes_on refl refl
      (w.idle, ap set_of (sym untold), λ e. some_list q qs (sym untold ∙ e))))
      (subst (λ (p : RecvPast). Fares (is_failure t.answer) states.SendGlobalCheckpoint record (lane_at t l.0) { state = states.SendGlobalCheckpoint } p (end_of (t.history ++ events.Told l (set_of (q ∷ qs)) ∷ []))) (sym (told t.history l (set_of (q ∷ qs))))
      (subst (λ (e : EndPast). Fares (is_failure t.answer) states.SendGlobalCheckpoint record (lane_at t l.0) { state = states.SendGlobalCheckpoint } (record (past_at t l.0) { is_idle = false; told = (past_at t l.0).told ++ lanes_of (set_of (q ∷ qs)); telling = lanes_of (set_of (q ∷ qs)) }) e) (sym (end_same t.history (events.Told l (set_of (q ∷ qs))) refl))
      (record { goes_on = record { closed = w.goes_on.closed; quit = w.goes_on.quit; acked = w.goes_on.acked; link = w.goes_on.link }; idle = refl; met = w.met; finish = first }, w.begun, rest.sized, w.sized, λ e. some_list q qs (sym (told_lanes t l (q ∷ qs) rest.stays.few untold) ∙ e))))
    where
      some_list : (q : ℕ) (qs : List ℕ) → q ∷ qs ≡ [] → ⊥
      some_list q qs e = cc

  -- ---- the finish

  pair_same : (told : ℕ × ℕ) (files bytes : ℕ) → (told.0 == files && told.1 == bytes) ≡ true → told ≡ (files, bytes)
  pair_same told files bytes same =
      ap (λ (x : ℕ). (x, told.1)) (eqb-true told.0 files (and_first (told.0 == files) (told.1 == bytes) same))
      ∙ ap (λ (y : ℕ). (files, y)) (eqb-true told.1 bytes (and_second (told.0 == files) (told.1 == bytes) same))

  short_whole : (o : Option (ℕ × ℕ)) (files bytes : ℕ) → o ≢ None → short_fault o files bytes ≡ None → o ≡ Some (files, bytes)
  short_whole None files bytes some whole = absurd (some refl)
  short_whole (Some told) files bytes some whole = go (told.0 == files && told.1 == bytes) refl where
    no_kind : Some (peers.Short files bytes told.0 told.1) ≡ None → ⊥
    no_kind e = cc

    go : (b : Bool) → (told.0 == files && told.1 == bytes) ≡ b → Some told ≡ Some (files, bytes)
    go true same = ap (λ (p : ℕ × ℕ). Some p) (pair_same told files bytes same)
    go false other = absurd (no_kind (sym (ap (λ (b : Bool). if b then None else Some (peers.Short files bytes told.0 told.1)) other) ∙ whole))

  logged_rest : (t : PlainReceiver) (bs : List Block) → t.unlogged ≡ bs → Resting t → Resting (all_logged_by t bs)
  logged_rest t [] is rest = rest
  logged_rest t (b ∷ bs) is rest = record { stays = logged_so t l (b ∷ bs) is rest.stays; sound = rest.sound; waits = rest.waits; sized = rest.sized }

  logged_ready : (t : PlainReceiver) (bs : List Block) → can_finish t ≡ true → can_finish (all_logged_by t bs) ≡ true
  logged_ready t [] ready = ready
  logged_ready t (b ∷ bs) ready = ready

  logged_first : (t : PlainReceiver) (bs : List Block) → has_finish t ≡ false → has_finish (all_logged_by t bs) ≡ false
  logged_first t [] first = first
  logged_first t (b ∷ bs) first = first

  logged_sized : (t : PlainReceiver) (bs : List Block) (files bytes : ℕ) → short_fault (end_of t.history).sized files bytes ≡ None → short_fault (end_of (all_logged_by t bs).history).sized files bytes ≡ None
  logged_sized t [] files bytes whole = whole
  logged_sized t (b ∷ bs) files bytes whole = whole

  concluded : (t : PlainReceiver) → Resting t → has_finish t ≡ true → IsReceiver (says_done t l).1
  concluded t rest come = put_back t l record (lane_at t l.0) { state = states.SendDone } (λ f. refl) rest.stays record { goes_on = rest.waits.goes_on; begun = rest.waits.begun; finish = come }

  -- on a receiver of which everything is logged
  finished_so : (v : PlainReceiver) → Resting v → v.unlogged ≡ [] → has_finish v ≡ false → can_finish v ≡ true → short_fault (end_of v.history).sized (files_in (marks_at v)) (bytes_in (marks_at v)) ≡ None → IsReceiver (says_done (noted v (events.Finish ∷ [])) l).1
  finished_so v rest none first ready whole =
      let allowed : IsAllowed (terms_of v) v.history events.Finish = record {
        fault = rest.stays.faultless rest.sound;
        speaks = tt;
        fits = record { first = first; ready = ready; whole = short_whole (end_of v.history).sized (files_in (marks_at v)) (bytes_in (marks_at v)) rest.waits.sized whole };
      } in
      put_back (noted v (events.Finish ∷ [])) l record (lane_at v l.0) { state = states.SendDone } (λ f. refl)
      (notes_finish v l rest.stays rest.sound ready none allowed)
      (subst (λ (p : RecvPast). Fares (is_failure v.answer) states.SendDone record (lane_at v l.0) { state = states.SendDone } p (end_of (v.history ++ events.Finish ∷ []))) (sym (finish_past v.history l.0))
      (subst (λ (e : EndPast). Fares (is_failure v.answer) states.SendDone record (lane_at v l.0) { state = states.SendDone } (past_at v l.0) e) (sym (end_behind v.history events.Finish))
      record { goes_on = rest.waits.goes_on; begun = rest.waits.begun; finish = refl }))

  concludes_so : (put : Put) (t : PlainReceiver) → Concludes r l put t → IsReceiver (says_done t l).1
  concludes_so put t (WasFinished u idles come) = concluded u (rests_by put u idles) come
  concludes_so put t (IsFinished u why whole) =
      finished_so (all_logged u) (logged_rest u u.unlogged refl (rests_by put u why.idles)) (none_left u u.unlogged refl) (logged_first u u.unlogged why.first) (logged_ready u u.unlogged why.ready)
      (logged_sized u u.unlogged (files_in (marks_at (all_logged u))) (bytes_in (marks_at (all_logged u))) whole)

  ended_so : Serves r l states.SendDone → IsReceiver (with_lane r l.0 record (lane_at r l.0) { state = states.ReadAck })
  ended_so at = put_back r l record (lane_at r l.0) { state = states.ReadAck } (λ f. refl) stays (fare states.SendDone at)

  acked_so : Serves r l states.ReadAck → IsReceiver (leaves (noted r (events.Acked l ∷ [])) l).1
  acked_so at =
      let h = fare states.ReadAck at in
      put_back (noted r (events.Acked l ∷ [])) l record (lane_at r l.0) { state = states.Ended } (λ f. refl)
      (notes_quiet r l (events.Acked l) stays (refl, tt) refl (may r l true (events.Acked l) stays at.sound h.goes_on refl refl h.finish))
      (inr (inr (inr (subst (λ (p : RecvPast). p.is_acked ≡ true) (sym (acked r.history l)) refl))))

  -- ---- the end fails

  fell_so : (t : PlainReceiver) (a : EndAnswer) (mute : Bool) → is_failure a ≡ true → Stays (failed t a) l → (mute ≡ false → GoesOn (past_at t l.0) true) → IsReceiver (by_voice mute (leaves (failed t a) l) (tells_failure (failed t a) l)).1
  fell_so t a true fails s on = put_back (failed t a) l record (lane_at t l.0) { state = states.Ended } (λ f. refl) s (inl fails)
  fell_so t a false fails s on = put_back (failed t a) l record (lane_at t l.0) { state = states.SendAbort } (λ f. refl) s record { goes_on = on refl; failed = fails }

  reading_on : (state : RecvState) → Serves r l state → is_reading state ≡ true → GoesOn (past_at r l.0) true
  reading_on states.ReadSettings at reads = (fare states.ReadSettings at).0.goes_on
  reading_on states.ReadNextCmd at reads = (fare states.ReadNextCmd at).0.goes_on
  reading_on states.ReadAck at reads = (fare states.ReadAck at).goes_on
  reading_on state at reads = absurd (cc)

  memory_on : (f : Bool) (state : RecvState) (lane : RecvLane) (p : RecvPast) (e : EndPast) → Fares f state lane p e → is_mute_at state ≡ false → GoesOn p true
  memory_on f states.Listen lane p e fares voice = cc
  memory_on f states.SendAbort lane p e fares voice = cc
  memory_on f states.Ended lane p e fares voice = cc
  memory_on f states.ReadSettings lane p e fares voice = fares.0.goes_on
  memory_on f states.SendLocalCheckpoint lane p e fares voice = fares.0.goes_on
  memory_on f states.SendFileChunks lane p e fares voice = fares.0.goes_on
  memory_on f states.ReadNextCmd lane p e fares voice = fares.0.goes_on
  memory_on f states.TakeBlock lane p e fares voice = fares.0.goes_on
  memory_on f states.SendWait lane p e fares voice = fares.0.goes_on
  memory_on f states.WaitForFinish lane p e fares voice = fares.0.goes_on
  memory_on f states.SendGlobalCheckpoint lane p e fares voice = fares.0.goes_on
  memory_on f states.SendDone lane p e fares voice = fares.goes_on
  memory_on f states.ReadAck lane p e fares voice = fares.goes_on

  abbrev Fault : PeerKind → Type 0
  Fault kind = IsFault (terms_of r) r.history l kind

  reads_by : (state : RecvState) (lane : RecvLane) (p : RecvPast) (e : EndPast) → Fares false state lane p e → is_reading state ≡ true → ReadsIn state lane.is_sized p e
  reads_by states.ReadSettings lane p e h reads = (h.0.begun, h.0.idle, h.1)
  reads_by states.ReadNextCmd lane p e h reads = (record { begun = h.1; idle = h.0.idle; met = h.0.met; finish = h.0.finish }, h.2)
  reads_by states.ReadAck lane p e h reads = (h.begun, h.finish)
  reads_by state lane p e h reads = absurd (cc)

  -- where the lane reads, its past says that it may
  reads_here : (state : RecvState) → Serves r l state → is_reading state ≡ true → ReadsAt state (lane_at r l.0).is_sized r.history l.0
  reads_here state at reads = reads_by state (lane_at r l.0) (past_at r l.0) (end_of r.history) (fare state at) reads

  reads_so : (state here : RecvState) (sized : Bool) → Serves r l state → is_reading state ≡ true → state ≡ here → (lane_at r l.0).is_sized ≡ sized → ReadsAt here sized r.history l.0
  reads_so state here sized at reads is same =
      subst (λ (x : RecvState). ReadsAt x sized r.history l.0) is (subst (λ (b : Bool). ReadsAt state b r.history l.0) same (reads_here state at reads))

  size_legal : ReadsAt states.ReadNextCmd false r.history l.0 → (o : Option (ℕ × ℕ)) (files bytes : ℕ) (kind : PeerKind) → (end_of r.history).sized ≡ o → size_fault o files bytes ≡ Some kind → Fault kind
  size_legal reads None files bytes kind is wrong = absurd (cc)
  size_legal reads (Some first) files bytes kind is wrong = go (first.0 == files && first.1 == bytes) refl where
    no_fault : None ≡ Some kind → ⊥
    no_fault e = cc

    go : (b : Bool) → (first.0 == files && first.1 == bytes) ≡ b → Fault kind
    go true same = absurd (no_fault (sym (ap (λ (b : Bool). if b then None else Some (peers.SizesDiffer first.0 first.1 files bytes)) same) ∙ wrong))
    go false other =
        let e = ap (λ (b : Bool). if b then None else Some (peers.SizesDiffer first.0 first.1 files bytes)) other in
        subst (λ (k : PeerKind). IsFault (terms_of r) r.history l k) (same_Some _ _ (sym (ap (λ (b : Bool). if b then None else Some (peers.SizesDiffer first.0 first.1 files bytes)) other) ∙ wrong))
        record { files = files; bytes = bytes; reads = reads; wrong = ap (λ (o : Option (ℕ × ℕ)). size_fault o files bytes) is ∙ ap (λ (b : Bool). if b then None else Some (peers.SizesDiffer first.0 first.1 files bytes)) other }

  fault_of_kind : ReadsAt states.ReadNextCmd true r.history l.0 → (header : Header) (f : BeginFault) → block_fault r.known (marks_at r) (begun_blocks r) (length (past_at r l.0).landed) header ≡ Some (kind_of f) → Fault (kind_of f)
  fault_of_kind reads header (BSize a b c d) wrong = record { header = header; reads = reads; wrong = wrong }
  fault_of_kind reads header (BOverlap a) wrong = record { header = header; reads = reads; wrong = wrong }
  fault_of_kind reads header (BLimit a) wrong = record { header = header; reads = reads; wrong = wrong }

  block_legal : ReadsAt states.ReadNextCmd true r.history l.0 → (header : Header) (kind : PeerKind) → block_fault r.known (marks_at r) (begun_blocks r) (length (past_at r l.0).landed) header ≡ Some kind → Fault kind
  block_legal reads header kind wrong = go (nat_le most_landed (length (past_at r l.0).landed)) refl where
    mapped : (o : Option BeginFault) → option_map kind_of o ≡ Some kind → (f : BeginFault) × (kind_of f ≡ kind)
    mapped None e = absurd (cc)
    mapped (Some f) e = (f, same_Some _ _ e)

    go : (b : Bool) → nat_le most_landed (length (past_at r l.0).landed) ≡ b → Fault kind
    go true over =
        let same = same_Some _ _ (sym (ap (λ (b : Bool). if b then Some (peers.OverLimit (length (past_at r l.0).landed + 1)) else option_map kind_of (begin_fault r.known (marks_at r) (begun_blocks r) header)) over) ∙ wrong) in
        subst (λ (k : PeerKind). IsFault (terms_of r) r.history l k) (same_Some _ _ (sym (ap (λ (b : Bool). if b then Some (peers.OverLimit (length (past_at r l.0).landed + 1)) else option_map kind_of (begin_fault r.known (marks_at r) (begun_blocks r) header)) over) ∙ wrong))
        record { header = header; reads = reads; wrong = ap (λ (b : Bool). if b then Some (peers.OverLimit (length (past_at r l.0).landed + 1)) else option_map kind_of (begin_fault r.known (marks_at r) (begun_blocks r) header)) over }
    go false under =
        let m = mapped (begin_fault r.known (marks_at r) (begun_blocks r) header) (sym (ap (λ (b : Bool). if b then Some (peers.OverLimit (length (past_at r l.0).landed + 1)) else option_map kind_of (begin_fault r.known (marks_at r) (begun_blocks r) header)) under) ∙ wrong) in
        subst (λ (k : PeerKind). IsFault (terms_of r) r.history l k) m.1 (fault_of_kind reads header m.0 (wrong ∙ ap (λ (k : PeerKind). Some k) (sym m.1)))

  settings_legal : (s : Settings) (field : ℕ) → ReadsAt states.ReadSettings (lane_at r l.0).is_sized r.history l.0 → settings_fault (length r.lanes) (end_of r.history).met l.0 (lane_at r l.0).conn s ≡ Some field → Fault (peers.BadSettings field)
  settings_legal s field reads wrong = record {
    settings = s;
    reads = (reads.0, reads.1, refl);
    wrong = ap (λ (c : ℕ). settings_fault (length r.lanes) (end_of r.history).met l.0 c s) (conn_is r.lanes l.0) ∙ wrong;
  }

  peer_legal : (state : RecvState) (put : Put) (kind : PeerKind) → Serves r l state → is_reading state ≡ true → Mistakes r l state put kind → Fault kind
  peer_legal state put kind at reads (NoFrame place given is) =
      subst (λ (k : PeerKind). IsFault (terms_of r) r.history l k) (sym is) record { at = state; sized = (lane_at r l.0).is_sized; reads = reads_here state at reads }
  peer_legal state put kind at reads (NoPlace frame command given row is) =
      subst (λ (k : PeerKind). IsFault (terms_of r) r.history l k) (sym is) record { at = state; frame = frame; sized = (lane_at r l.0).is_sized; reads = reads_here state at reads; row = row }
  peer_legal state put kind at reads (WrongSettings s field given here wrong is) =
      subst (λ (k : PeerKind). IsFault (terms_of r) r.history l k) (sym is) (settings_legal s field (reads_so state states.ReadSettings (lane_at r l.0).is_sized at reads here refl) wrong)
  peer_legal state put kind at reads (OtherSize files bytes given here sized wrong) = size_legal (reads_so state states.ReadNextCmd false at reads here sized) (end_of r.history).sized files bytes kind refl wrong
  peer_legal state put kind at reads (WrongBlock header given here sized wrong) = block_legal (reads_so state states.ReadNextCmd true at reads here sized) header kind wrong

  -- ---- a finish that finds something else

  idle_landed : (begun : ℕ → Option Block) (g : List RecvEvent) → landed_from begun (g ++ events.Idle l ∷ []) ≡ landed_from begun g
  idle_landed begun [] = refl
  idle_landed begun (events.Begin k b ∷ es) = idle_landed (with_begun_at begun k.0 (Some b)) es
  idle_landed begun (events.Dropped k ∷ es) = idle_landed (with_begun_at begun k.0 None) es
  idle_landed begun (events.Land k ∷ es) = ap (λ (bs : List Block). begun_list (begun k.0) ++ bs) (idle_landed (with_begun_at begun k.0 None) es)
  idle_landed begun (e ∷ es) = idle_landed begun es

  landed_idle : (g : List RecvEvent) → landed_of (g ++ events.Idle l ∷ []) ≡ landed_of g
  unfolding landed_of
  landed_idle g = idle_landed (λ k. None) g

  -- the finish of n lanes is ready on the lane, or once it is idle
  abbrev ReadyOn : ℕ → Type 0
  ReadyOn n =
      (((past_at r l.0).is_idle ≡ true) × (is_ready n r.history ≡ true))
      ⊎ (ReadsAt states.ReadNextCmd true r.history l.0 × (is_ready n (r.history ++ events.Idle l ∷ []) ≡ true))

  -- how an idle lane's receiver is to the one before
  record Chose (t : PlainReceiver) : Type 0 where
    opening : t.opening ≡ r.opening
    many : length t.lanes ≡ length r.lanes
    landed : landed_of t.history ≡ landed_of r.history
    ends : end_of t.history ≡ end_of r.history
    ready : can_finish t ≡ true → ReadyOn (length r.lanes)
    back : (bs : List Block) → t.unlogged ≡ bs → has_finish r ≡ false → Stays (record (all_logged_by t bs) { history = r.history }) l

  with_answer : (t : PlainReceiver) (a : EndAnswer) → is_failure a ≡ is_failure t.answer → Stays t l → Stays (record t { answer = a }) l
  with_answer t a same s = record {
    few = s.few;
    within = s.within;
    legal = s.legal;
    others = λ j below ne. subst (λ (b : Bool). Fares b (lane_at t j).state (lane_at t j) (past_at t j) (end_of t.history)) (sym same) (s.others j below ne);
    faultless = λ sound. s.faultless (sym same ∙ sound);
    finished = s.finished;
  }

  logged_back : (t : PlainReceiver) (bs : List Block) → t.unlogged ≡ bs → has_finish r ≡ false → Stays (record t { history = r.history }) l → Stays (record (all_logged_by t bs) { history = r.history }) l
  logged_back t [] is first s = s
  logged_back t (b ∷ bs) is first s = record { few = s.few; within = s.within; legal = s.legal; others = s.others; faultless = s.faultless; finished = λ come. refl }

  chose_by : (put : Put) (t : PlainReceiver) → Idles r l put t → Chose t
  chose_by put t (ByDone at sized given is) =
      let lane : RecvLane = record (lane_at r l.0) { has_waited = false } in
      subst (λ (x : PlainReceiver). Chose x) (sym is) record {
        opening = refl;
        many = length-set r.lanes l.0 record (lane_at r l.0) { has_waited = false };
        landed = landed_idle r.history;
        ends = end_same r.history (events.Idle l) refl;
        ready = λ ready. inr (reads_so states.ReadNextCmd states.ReadNextCmd true at refl refl sized, subst (λ (n : ℕ). is_ready n (r.history ++ events.Idle l ∷ []) ≡ true) (length-set r.lanes l.0 record (lane_at r l.0) { has_waited = false }) ready);
        back = λ bs left first. logged_back (idles_lane r l) bs left first
            (with_answer (with_lane r l.0 record (lane_at r l.0) { has_waited = false }) (idles_lane r l).answer (judged_fails r.answer _ _ ∙ sym (judged_fails r.answer _ _)) (puts_so r l record (lane_at r l.0) { has_waited = false } (λ f. refl) stays));
      }
  chose_by put t (ByWait at given is) =
      subst (λ (x : PlainReceiver). Chose x) (sym is) record {
        opening = refl;
        many = length-set r.lanes l.0 record (lane_at r l.0) { has_waited = true };
        landed = refl;
        ends = refl;
        ready = λ ready. inl ((fare states.SendWait at).0.idle, subst (λ (n : ℕ). is_ready n r.history ≡ true) (length-set r.lanes l.0 record (lane_at r l.0) { has_waited = true }) ready);
        back = λ bs left first. logged_back (waited_lane r l) bs left first (puts_so r l record (lane_at r l.0) { has_waited = true } (λ f. refl) stays);
      }
  chose_by put t (ByWaking at given is) =
      subst (λ (x : PlainReceiver). Chose x) (sym is) record {
        opening = refl;
        many = refl;
        landed = refl;
        ends = refl;
        ready = λ ready. inl ((fare states.WaitForFinish at).0.idle, ready);
        back = λ bs left first. logged_back r bs left first stays;
      }

  short_kind : (T : Terms) (o : Option (ℕ × ℕ)) (files bytes : ℕ) (kind : PeerKind) → short_fault o files bytes ≡ Some kind → ((k : PeerKind) → short_fault o files bytes ≡ Some k → IsShort T r.history l k) → IsFault T r.history l kind
  short_kind T None files bytes kind wrong short = absurd (cc)
  short_kind T (Some told) files bytes kind wrong short = go (told.0 == files && told.1 == bytes) refl where
    no_fault : None ≡ Some kind → ⊥
    no_fault e = cc

    go : (b : Bool) → (told.0 == files && told.1 == bytes) ≡ b → IsFault T r.history l kind
    go true same = absurd (no_fault (sym (ap (λ (b : Bool). if b then None else Some (peers.Short files bytes told.0 told.1)) same) ∙ wrong))
    go false other =
        subst (λ (k : PeerKind). IsFault T r.history l k) (same_Some _ _ (sym (ap (λ (b : Bool). if b then None else Some (peers.Short files bytes told.0 told.1)) other) ∙ wrong))
        (short (peers.Short files bytes told.0 told.1) (ap (λ (b : Bool). if b then None else Some (peers.Short files bytes told.0 told.1)) other))

  logged_marks : (t : PlainReceiver) (bs : List Block) → marks_at (all_logged_by t bs) ≡ marks_at t
  logged_marks t [] = refl
  logged_marks t (b ∷ bs) = refl

  logged_many : (t : PlainReceiver) (bs : List Block) → length (all_logged_by t bs).lanes ≡ length t.lanes
  logged_many t [] = refl
  logged_many t (b ∷ bs) = refl

  logged_opening : (t : PlainReceiver) (bs : List Block) → (all_logged_by t bs).opening ≡ t.opening
  logged_opening t [] = refl
  logged_opening t (b ∷ bs) = refl

  same_marks : (T : Terms) (t : PlainReceiver) → T.opening ≡ r.opening → Chose t → marks_at (all_logged t) ≡ marks_of T.opening (landed_of r.history)
  same_marks T t same c =
      logged_marks t t.unlogged ∙ ap (λ (fs : List NamedFile). marks_of fs (landed_of t.history)) (c.opening ∙ sym same) ∙ ap (λ (bs : List Block). marks_of T.opening bs) c.landed

  short_legal : (T : Terms) (t : PlainReceiver) (kind : PeerKind) → has_finish r ≡ false → T.lanes ≡ length r.lanes → T.opening ≡ r.opening → Chose t → can_finish t ≡ true → short_fault (end_of t.history).sized (files_in (marks_at (all_logged t))) (bytes_in (marks_at (all_logged t))) ≡ Some kind → IsFault T r.history l kind
  short_legal T t kind first many same c ready wrong =
      short_kind T (end_of t.history).sized (files_in (marks_at (all_logged t))) (bytes_in (marks_at (all_logged t))) kind wrong
      (λ k is. record {
        first = first;
        ready = subst ReadyOn (sym many) (c.ready ready);
        wrong = ap (λ (e : EndPast). short_fault e.sized (files_in (marks_of T.opening (landed_of r.history))) (bytes_in (marks_of T.opening (landed_of r.history)))) (sym c.ends)
            ∙ ap (λ (ms : List Marked). short_fault (end_of t.history).sized (files_in ms) (bytes_in ms)) (sym (same_marks T t same c)) ∙ is;
      })

  linked_idle : (put : Put) (t : PlainReceiver) → Idles r l put t → GoesOn (past_at r l.0) true
  linked_idle put t (ByDone at sized given same) = (fare states.ReadNextCmd at).0.goes_on
  linked_idle put t (ByWait at given same) = (fare states.SendWait at).0.goes_on
  linked_idle put t (ByWaking at given same) = (fare states.WaitForFinish at).0.goes_on

  logged_sound : (t : PlainReceiver) (bs : List Block) → is_failure t.answer ≡ false → is_failure (all_logged_by t bs).answer ≡ false
  logged_sound t [] sound = sound
  logged_sound t (b ∷ bs) sound = sound

  short_allowed : (u : PlainReceiver) (kind : PeerKind) → has_finish r ≡ false → is_failure (all_logged u).answer ≡ false → Stays (record (all_logged u) { history = r.history }) l → GoesOn (past_at r l.0) true → Chose u → can_finish u ≡ true
      → short_fault (end_of u.history).sized (files_in (marks_at (all_logged u))) (bytes_in (marks_at (all_logged u))) ≡ Some kind → IsAllowed (terms_of (record (all_logged u) { history = r.history })) r.history (events.Peer l kind)
  short_allowed u kind first sound s on c ready short =
      may (record (all_logged u) { history = r.history }) l true (events.Peer l kind) s sound on refl refl
      (short_legal (terms_of (record (all_logged u) { history = r.history })) u kind first (logged_many u u.unlogged ∙ c.many) (logged_opening u u.unlogged ∙ c.opening) c ready short)

  listed_so : Serves r l states.SendLocalCheckpoint → IsReceiver (with_lane r l.0 record (lane_at r l.0) { state = states.SendFileChunks })
  listed_so at = let h = fare states.SendLocalCheckpoint at in put_back r l record (lane_at r l.0) { state = states.SendFileChunks } (λ f. refl) stays (h.0, h.1, h.2)

  own_lane : FaresAt r l.0
  own_lane = is.lanes l.0 within

  fails_by : (put : Put) (t : PlainReceiver) (a : EndAnswer) (mute : Bool) → Fails r l put t a mute → IsReceiver (by_voice mute (leaves (failed t a) l) (tells_failure (failed t a) l)).1
  fails_by put t a mute (OfMemory m going given lives same) =
      fell_so r answers.NoMemory m refl (fails_so r l answers.NoMemory refl stays) (λ voice. memory_on (is_failure r.answer) (state_at r l.0) (lane_at r l.0) (past_at r l.0) (end_of r.history) own_lane (sym same ∙ voice))
  fails_by put t a mute (OfSender state code at reads given) =
      fell_so (noted r (events.Abort l code ∷ [])) (answers.Aborted code) true refl
      (fails_noted r l (events.Abort l code) (answers.Aborted code) refl stays (abort_past r.history l code) refl (may r l true (events.Abort l code) stays at.sound (reading_on state at reads) refl refl record { at = state; sized = (lane_at r l.0).is_sized; reads = reads_here state at reads })) (λ e. absurd (both_ways true e refl))
  fails_by put t a mute (OfPeer state kind at reads wrong) =
      fell_so (noted r (events.Peer l kind ∷ [])) (answers.Peer kind) false refl
      (fails_noted r l (events.Peer l kind) (answers.Peer kind) refl stays (peer_past r.history l kind) refl (may r l true (events.Peer l kind) stays at.sound (reading_on state at reads) refl refl (peer_legal state put kind at reads wrong)))
      (λ e. subst (λ (p : RecvPast). GoesOn p true) (sym (peer_past r.history l kind l.0)) (reading_on state at reads))
  fails_by put t a mute (OfShort u kind why short) =
      let c = chose_by put u why.idles in
      let rest = rests_by put u why.idles in
      let first : has_finish r ≡ false = sym (ap (λ (e : EndPast). e.has_finish) c.ends) ∙ why.first in
      let v : PlainReceiver = record (all_logged u) { history = r.history } in
      let s = c.back u.unlogged refl first in
      let on = linked_idle put u why.idles in
      fell_so (noted (record (all_logged u) { history = r.history }) (events.Peer l kind ∷ [])) (answers.Peer kind) false refl
      (fails_noted (record (all_logged u) { history = r.history }) l (events.Peer l kind) (answers.Peer kind) refl s (peer_past r.history l kind) refl
      (short_allowed u kind first (logged_sound u u.unlogged rest.sound) s on c why.ready short))
      (λ e. subst (λ (p : RecvPast). GoesOn p true) (sym (peer_past r.history l kind l.0)) on)
  fails_by put t a mute (OfMake h at sized given right new) =
      fell_so r answers.Disk false refl (fails_so r l answers.Disk refl stays) (λ e. (fare states.ReadNextCmd at).0.goes_on)
  fails_by put t a mute (OfWrite bytes b at given begun) =
      fell_so r answers.Disk false refl (fails_so r l answers.Disk refl stays) (λ e. (fare states.TakeBlock at).0.goes_on)
  fails_by put t a mute (OfLog b lands full) =
      fell_so (landed_by r l b) answers.Disk false refl (fails_so (landed_by r l b) l answers.Disk refl (landed_so b put lands)) (λ e. (landed_fares b put (lane_at r l.0) lands).0.goes_on)
  fails_by put t a mute (OfFinish u why) =
      let rest = rests_by put u why.idles in
      fell_so u answers.Disk false refl (fails_so u l answers.Disk refl rest.stays) (λ e. rest.waits.goes_on)

  -- ---- each outcome

  outcome_keeps : (put : Put) (o : Outcome) → ComesOf r l put o → IsReceiver (came_to r l o).1
  outcome_keeps put Rested of = is
  outcome_keeps put Left of = leaves_so put of.1
  outcome_keeps put Warned of = warned_so put of.1.failed of.1.voice
  outcome_keeps put (Failed t a mute) of = fails_by put t a mute of
  outcome_keeps put (GivenUp t) of = gave_up put t of.0 of.1
  outcome_keeps put (Listened t) of = listened put t of.0 of.1
  outcome_keeps put Linked of = linked_so of.0
  outcome_keeps put (Greeted s) of = greeted_by s (meets r l s) (has_finish r) of.0 (met_so s (is_some (end_of r.history).met) refl of.0 of.2) refl
  outcome_keeps put Listed of = listed_so of.0
  outcome_keeps put (ReadOn t) of = read_on put t of
  outcome_keeps put (Sized files bytes) of = sized_as files bytes (is_some (end_of r.history).sized) refl of.0
  outcome_keeps put (Begun t b) of = let ready = begins_ready put t b of in begun_so t b b.length refl ready.0 ready.3 ready.1 ready.2
  outcome_keeps put (Taken left) of = taken_so put left of
  outcome_keeps put (Concluded t) of = concludes_so put t of
  outcome_keeps put (Told t q qs) of = tells_so t q qs (rests_by put t of.idles) of.first of.told
  outcome_keeps put (Waited t again) of = waits_so t again (rests_by put t of.0.idles)
  outcome_keeps put Ended of = ended_so of.0
  outcome_keeps put Acknowledged of = acked_so of.0

pub turn_keeps : (r : PlainReceiver) (l : Lane) (put : Put) (step : Step) → IsReceiver r → l.0 < length r.lanes → EndsIn (Unit {0}) (turn_plan r l put) step → IsReceiver step.1
turn_keeps r l put step is within ends =
    let c = end_comes r l put (Unit {0}) step ends in
    subst (λ (x : Step). IsReceiver x.1) (sym c.is) (outcome_keeps r l is within put c.outcome c.of)

-- ---- an end that begins

get_replicate : {X : Type 0} (n k : ℕ) (x : X) → k < n → slice_get (replicate n x) k ≡ Some x
get_replicate zero k x below = absurd (omega (arith, below))
get_replicate (suc n) zero x below = refl
get_replicate (suc n) (suc k) x below = get_replicate n k x (omega (arith, below))

new_fares : (n l : ℕ) (lane : RecvLane) (p : RecvPast) (e : EndPast) → lane ≡ new_lane → p ≡ no_past → Fares false lane.state lane p e
new_fares n l lane p e is none =
    subst (λ (x : RecvLane). Fares false x.state x p e) (sym is)
    (subst (λ (q : RecvPast). Fares false states.Listen new_lane q e) (sym none)
    record { goes_on = record { closed = refl; quit = refl; acked = refl; link = refl }; begun = refl; idle = refl; takes = omega arith; tries = omega arith })

pub opened_is : (log : Meaning) (batch n : ℕ) → n ≤ 16 → IsReceiver (opened log batch (replicate n new_lane))
opened_is log batch n few =
    let many = length-replicate n new_lane in
    record {
      few = subst (λ (k : ℕ). k ≤ 16) (sym (length-replicate n new_lane)) few;
      legal = IsLegal-none (terms_of (opened log batch (replicate n new_lane)));
      lanes = λ l below. new_fares n l (lane_at (opened log batch (replicate n new_lane)) l) (past_of [] l) (end_of [])
          (ap lane_or_ended (get_replicate n l new_lane (subst (λ (k : ℕ). l < k) (length-replicate n new_lane) below))) (past_of-none l);
      faultless = λ sound. ap (λ (e : EndPast). e.has_fault) end_of-none;
      finished = λ come. refl;
    }
