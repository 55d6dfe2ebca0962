-- Each step leaves a plain sender as steps leave it.
use Rattle.std.proofs.Common.{◌≡◌, ℕ, zero, suc, ◌<◌, ◌≤◌, ◌&&◌, List, [], length, slice_get, replicate, Bool, true, false, Some, None, subst, sym, ap, ◌∙◌, refl, arith, is_some, ◌⊎◌, inl, inr}
use Rattle.std.proofs.lemmas.Bool.{both_ways, true≢false, and_right, not_from_false, false_from_ne_true, and_left, and_cases, or_cases, or_left, or_right}
use Rattle.std.proofs.lemmas.List.{length-replicate}
use Rattle.wdt_units.specs.declared.numbers.Lane.{Lane}
use Rattle.wdt_codec.specs.Frames.{Fits}
use Rattle.wdt_codec.specs.declared.frames.Frame.{Frame}
use Rattle.wdt_codec.specs.declared.frames.Frame.TheVariants as frames
use Rattle.wdt_tree.specs.declared.entry.Entry.{Entry}
use Rattle.wdt_claims.proofs.Shared.{none_of}
use Rattle.wdt_sender_fsm.specs.declared.answers.EndAnswer.{EndAnswer}
use Rattle.wdt_sender_fsm.specs.declared.answers.EndAnswer.TheVariants as answers
use Rattle.wdt_sender_fsm.specs.declared.inputs.SendIn.{SendIn}
use Rattle.wdt_sender_fsm.specs.declared.inputs.SendIn.TheVariants as inputs
use Rattle.wdt_sender_fsm.specs.declared.peers.PeerKind.TheVariants as peers
use Rattle.wdt_sender_fsm.specs.declared.states.SendLane.{SendLane}
use Rattle.wdt_sender_fsm.specs.declared.states.SendState.{SendState}
use Rattle.wdt_sender_fsm.specs.declared.states.SendState.TheVariants as states
use Rattle.wdt_sender_fsm.specs.Legal.{IsLegal-none, MayRead}
use Rattle.wdt_sender_fsm.specs.PlainSender.{PlainSender, new_lane, opened, lane_or_ended, lane_at, state_at, past_at, is_closed, is_done_with, is_out, every_lane, failed, is_ended}
use Rattle.wdt_sender_fsm.specs.Reasons.{Serves}
use Rattle.wdt_sender_fsm.specs.Rows.{Row, Starved, BadFrame, Unexpected, Finished, at_checkpoint, at_chunks, at_command, place_of, command_of, row_of, is_mute}
use Rattle.wdt_sender_fsm.specs.Rules.{is_failure, starved, judged, by_rules, every, standing}
use Rattle.wdt_sender_fsm.specs.Sender.{GoesOn, Dials, Asks, Learns, Fares, FitsIn, IsSender, noted_failure, failure_in-none, is_over, AllEnded}
use Rattle.wdt_sender_fsm.specs.SenderHistory.{LanePast, EndPast, past_of, past_of-none, end_of, end_of-none}
use Rattle.wdt_sender_fsm.specs.Turn.{rests, leaves, gives_up, turn_row, after_starving, is_over as is_over_row, ruled, send_turn}
use Rattle.wdt_sender_fsm.proofs.lemmas.Connecting.{begins, tries_again, loses, links}
use Rattle.wdt_sender_fsm.proofs.lemmas.Failing.{Keeps, gave_up, abort_keeps, fault_keeps, unexpected_keeps, source_keeps}
use Rattle.wdt_sender_fsm.proofs.lemmas.Finishing.{finishes, finishes_at_once}
use Rattle.wdt_sender_fsm.proofs.lemmas.Learning.{introduced, greets, lists}
use Rattle.wdt_sender_fsm.proofs.lemmas.Marking.{marks}
use Rattle.wdt_sender_fsm.proofs.lemmas.Sending.{SendsAt, takes_first, takes_next, listens, acknowledges}
use Rattle.wdt_sender_fsm.proofs.lemmas.Works.{Stays, Works, put_closed, fares_fails}

-- ---- a lane of a sound end

-- what is known of a lane that isn't closed, in a state
record At (s : PlainSender) (l : Lane) (state : SendState) : Type 0 where
  pub sender : IsSender s
  pub stays : Stays s l
  pub sound : is_failure s.answer ≡ false
  pub is_open : (past_at s l.0).claims.closed ≡ None
  pub fares : Fares (is_failure s.answer) state (lane_at s l.0).ask (past_at s l.0) (end_of s.history)

sender_stays : (s : PlainSender) (l : Lane) → IsSender s → l.0 < length s.lanes → Stays s l
sender_stays s l is within =
    record {
      within = within;
      legal = is.legal;
      plan = is.plan;
      noted = is.answer.noted;
      code = is.answer.code;
      unfinished = is.answer.unfinished;
      faultless = is.faultless;
      others = λ j below ne opens. is.lanes j below opens;
      ended = λ j below ne over. is.ended j below over;
    }

works : (s : PlainSender) (l : Lane) (state : SendState) (up : Bool) → At s l state → GoesOn (past_at s l.0) up → Works s l
works s l state up at goes_on = record { stays = at.stays; sound = at.sound; is_open = at.is_open; quit = goes_on.quit; acked = goes_on.acked }

-- ---- what it reads

bad_keeps : (s : PlainSender) (l : Lane) (place : ℕ) → Works s l → (past_at s l.0).is_up ≡ true → MayRead (past_at s l.0) → Keeps (turn_row s l (BadFrame place))
bad_keeps s l place w up reads = fault_keeps s l (BadFrame place) (peers.BadFrame place) w up reads

checkpoint_keeps : (s : PlainSender) (l : Lane) (frame : Frame) → Works s l → Asks (lane_at s l.0).ask (past_at s l.0) (end_of s.history) → Fits frame → Keeps (turn_row s l (at_checkpoint frame))
checkpoint_keeps s l (frames.Abort code) w asks fit = abort_keeps s l code w asks.goes_on.link (inl asks.greeted) fit
checkpoint_keeps s l (frames.Greeting m) w asks fit = greets s l m w asks
checkpoint_keeps s l frames.Done w asks fit = finishes_at_once s l w asks
checkpoint_keeps s l frame w asks fit =
    unexpected_keeps s l (Unexpected (place_of states.ReadLocalCheckpoint) (command_of frame)) states.ReadLocalCheckpoint frame w asks.goes_on.link (not_from_false (past_at s l.0).is_greeted asks.greeted) refl

chunks_keeps : (s : PlainSender) (l : Lane) (frame : Frame) → Works s l → Learns (past_at s l.0) → Fits frame → Keeps (turn_row s l (at_chunks frame))
chunks_keeps s l (frames.Abort code) w learns fit = abort_keeps s l code w learns.goes_on.link (inr learns.held) fit
chunks_keeps s l (frames.Chunks have) w learns fit = lists s l have fit w learns
chunks_keeps s l frame w learns fit =
    unexpected_keeps s l (Unexpected (place_of states.ReadFileChunks) (command_of frame)) states.ReadFileChunks frame w learns.goes_on.link learns.greeted refl

command_keeps : (s : PlainSender) (l : Lane) (frame : Frame) → IsSender s → Works s l → SendsAt s l false → Fits frame → Keeps (turn_row s l (at_command frame))
command_keeps s l (frames.Abort code) is w sends fit = abort_keeps s l code w sends.goes_on.link (inr sends.held) fit
command_keeps s l frames.Wait is w sends fit = is
command_keeps s l (frames.ErrMarks ms) is w sends fit = marks s l ms fit w sends
command_keeps s l frames.Done is w sends fit = finishes s l Finished w sends.goes_on.link sends.known
command_keeps s l frame is w sends fit =
    unexpected_keeps s l (Unexpected (place_of states.ReadReceiverCmd) (command_of frame)) states.ReadReceiverCmd frame w sends.goes_on.link sends.greeted refl

-- ---- the table

row_keeps : (s : PlainSender) (l : Lane) (state : SendState) (input : SendIn) → At s l state → FitsIn input → Keeps (turn_row s l (row_of state input))
row_keeps s l states.SendAbort input at fit = absurd (both_ways (is_failure s.answer) at.sound at.fares.failed)
row_keeps s l states.Connect inputs.Start at fit = begins s l (works s l states.Connect false at at.fares.goes_on) at.fares.goes_on.link
row_keeps s l states.Connect inputs.NoLink at fit = tries_again s l (works s l states.Connect false at at.fares.goes_on) at.fares
row_keeps s l states.Connect inputs.Linked at fit = links s l (works s l states.Connect false at at.fares.goes_on) at.fares
row_keeps s l states.SendSettings inputs.Lost at fit = loses s l (works s l states.SendSettings true at at.fares.goes_on) at.fares.goes_on.link
row_keeps s l states.SendSettings inputs.Wrote at fit = introduced s l (works s l states.SendSettings true at at.fares.goes_on) at.fares
row_keeps s l states.ReadLocalCheckpoint inputs.Lost at fit = loses s l (works s l states.ReadLocalCheckpoint true at at.fares.goes_on) at.fares.goes_on.link
row_keeps s l states.ReadLocalCheckpoint (inputs.Got frame) at fit = checkpoint_keeps s l frame (works s l states.ReadLocalCheckpoint true at at.fares.goes_on) at.fares fit
row_keeps s l states.ReadLocalCheckpoint (inputs.Bad place) at fit = bad_keeps s l place (works s l states.ReadLocalCheckpoint true at at.fares.goes_on) at.fares.goes_on.link (inl at.fares.greeted)
row_keeps s l states.ReadFileChunks inputs.Lost at fit = loses s l (works s l states.ReadFileChunks true at at.fares.goes_on) at.fares.goes_on.link
row_keeps s l states.ReadFileChunks (inputs.Got frame) at fit = chunks_keeps s l frame (works s l states.ReadFileChunks true at at.fares.goes_on) at.fares fit
row_keeps s l states.ReadFileChunks (inputs.Bad place) at fit = bad_keeps s l place (works s l states.ReadFileChunks true at at.fares.goes_on) at.fares.goes_on.link (inr at.fares.held)
row_keeps s l states.SendSize inputs.Lost at fit = loses s l (works s l states.SendSize true at at.fares.goes_on) at.fares.goes_on.link
row_keeps s l states.SendSize inputs.Wrote at fit = takes_first s l (works s l states.SendSize true at at.fares.goes_on) at.fares
row_keeps s l states.SendBlocks inputs.Lost at fit = loses s l (works s l states.SendBlocks true at at.fares.goes_on) at.fares.goes_on.link
row_keeps s l states.SendBlocks inputs.Wrote at fit = takes_next s l (works s l states.SendBlocks true at at.fares.goes_on) at.fares
row_keeps s l states.SendBlocks (inputs.SourceLost unwritten) at fit = source_keeps s l unwritten (works s l states.SendBlocks true at at.fares.goes_on) at.fares.goes_on.link
row_keeps s l states.SendDone inputs.Lost at fit = loses s l (works s l states.SendDone true at at.fares.goes_on) at.fares.goes_on.link
row_keeps s l states.SendDone inputs.Wrote at fit = listens s l (works s l states.SendDone true at at.fares.goes_on) at.fares
row_keeps s l states.ReadReceiverCmd inputs.Lost at fit = loses s l (works s l states.ReadReceiverCmd true at at.fares.goes_on) at.fares.goes_on.link
row_keeps s l states.ReadReceiverCmd (inputs.Got frame) at fit = command_keeps s l frame at.sender (works s l states.ReadReceiverCmd true at at.fares.goes_on) at.fares fit
row_keeps s l states.ReadReceiverCmd (inputs.Bad place) at fit = bad_keeps s l place (works s l states.ReadReceiverCmd true at at.fares.goes_on) at.fares.goes_on.link (inr at.fares.held)
row_keeps s l states.AnswerDone inputs.Lost at fit = loses s l (works s l states.AnswerDone true at at.fares.goes_on) at.fares.goes_on.link
row_keeps s l states.AnswerDone inputs.Wrote at fit = acknowledges s l (works s l states.AnswerDone true at at.fares.goes_on) at.fares
row_keeps s l state input at fit = at.sender

-- ---- the rules before it

-- what holds of the outcome of each rule where that rule holds
rules_keep : {X : Type 0} (P : X → Type 0) (a b c : Bool) (w x y z : X) → P w → (b ≡ true → P x) → (a ≡ false → b ≡ false → c ≡ true → P y) → (b ≡ false → c ≡ false → P z) → P (by_rules a b c w x y z)
rules_keep P true b c w x y z f g h k = f
rules_keep P false true c w x y z f g h k = g refl
rules_keep P false false true w x y z f g h k = h refl refl refl
rules_keep P false false false w x y z f g h k = k refl refl

-- a closed lane ends
leaves_closed : (s : PlainSender) (l : Lane) → IsSender s → l.0 < length s.lanes → is_closed s l.0 ≡ true → Keeps (leaves s l)
leaves_closed s l is within closed = put_closed s l (sender_stays s l is within) (λ x. both_ways (is_closed s l.0) (ap is_some x) closed)

-- a lane for which there is a row was neither given up nor acknowledged
pub alive_of : (s : PlainSender) (l : Lane) (state : SendState) (input : SendIn) → AllEnded s → l.0 < length s.lanes → state_at s l.0 ≡ state → is_over_row (row_of state input) ≡ false → is_over (past_at s l.0) ≡ false
alive_of s l state input ended within here goes =
    false_from_ne_true (is_over (past_at s l.0)) (λ over.
    both_ways (is_over_row (row_of state input)) goes (subst (λ (x : SendState). is_over_row (row_of x input) ≡ true) (sym (ended l.0 within over) ∙ here) refl))

-- where a lane can tell of a failure it has a connection
linked_at : (f : Bool) (state : SendState) (ask : Bool) (past : LanePast) (end : EndPast) (input : SendIn) → Fares f state ask past end → is_mute (row_of state input) ≡ false → GoesOn past true
linked_at f states.Ended ask past end input fares voice = cc
linked_at f states.Connect ask past end inputs.Start fares voice = cc
linked_at f states.Connect ask past end inputs.NoLink fares voice = cc
linked_at f states.Connect ask past end inputs.Linked fares voice = cc
linked_at f states.Connect ask past end input fares voice = cc
linked_at f states.SendSettings ask past end input fares voice = fares.goes_on
linked_at f states.ReadLocalCheckpoint ask past end input fares voice = fares.goes_on
linked_at f states.ReadFileChunks ask past end input fares voice = fares.goes_on
linked_at f states.SendSize ask past end input fares voice = fares.goes_on
linked_at f states.SendBlocks ask past end input fares voice = fares.goes_on
linked_at f states.SendDone ask past end input fares voice = fares.goes_on
linked_at f states.ReadReceiverCmd ask past end input fares voice = fares.goes_on
linked_at f states.AnswerDone ask past end input fares voice = fares.goes_on
linked_at f states.SendAbort ask past end input fares voice = fares.goes_on

ruled_keeps : (s : PlainSender) (l : Lane) (state : SendState) (input : SendIn) → IsSender s → l.0 < length s.lanes → state_at s l.0 ≡ state → FitsIn input → Keeps (ruled s l (row_of state input))
ruled_keeps s l state input is within here fit =
    let row : Row = row_of state input in
    rules_keep Keeps (is_over_row (row_of state input)) (is_closed s l.0) (is_failure s.answer) (rests s) (leaves s l) (gives_up s l (row_of state input)) (turn_row s l (row_of state input))
    is
    (λ closed. leaves_closed s l is within closed)
    (λ goes closed fails. gave_up s l (row_of state input) (sender_stays s l is within) fails
    (λ voice. linked_at (is_failure s.answer) state (lane_at s l.0).ask (past_at s l.0) (end_of s.history) input (fares_in (none_of (past_at s l.0).claims.closed closed)) voice))
    (λ closed sound. row_keeps s l state input record {
      sender = is;
      stays = sender_stays s l is within;
      sound = sound;
      is_open = none_of (past_at s l.0).claims.closed closed;
      fares = fares_in (none_of (past_at s l.0).claims.closed closed);
    } fit) where
      fares_in : (past_at s l.0).claims.closed ≡ None → Fares (is_failure s.answer) state (lane_at s l.0).ask (past_at s l.0) (end_of s.history)
      fares_in opens = subst (λ (x : SendState). Fares (is_failure s.answer) x (lane_at s l.0).ask (past_at s l.0) (end_of s.history)) here (is.lanes l.0 within opens)

-- ---- want of memory

abbrev done_of : PlainSender → Bool
done_of s = (end_of s.history).has_finish && every_lane s is_done_with

-- where f needs g, and g doesn't hold of all, f doesn't
every_weaker : (n : ℕ) (f g : ℕ → Bool) → ((l : ℕ) → l < n → f l ≡ true → g l ≡ true) → every n g ≡ false → every n f ≡ false
every_weaker zero f g needs e = cc
every_weaker (suc n) f g needs e = go (every_weaker n f g (λ l below. needs l (omega (arith, below)))) (needs n (omega arith)) (and_cases (every n g) (g n) e) where
  go : (every n g ≡ false → every n f ≡ false) → (f n ≡ true → g n ≡ true) → (every n g ≡ false) ⊎ (g n ≡ false) → (every n f && f n) ≡ false
  go before last (inl x) = and_left (every n f) (f n) (before x)
  go before last (inr x) = and_right (every n f) (f n) (false_from_ne_true (f n) (λ y. both_ways (g n) x (last y)))

-- a lane that is acknowledged or closed is out
out_of : (s : PlainSender) → AllEnded s → (l : ℕ) → l < length s.lanes → is_done_with s l ≡ true → is_out s l ≡ true
out_of s ended l within done = go (is_closed s l) refl (or_cases (past_at s l).is_acked (is_closed s l) done) where
  go : (b : Bool) → is_closed s l ≡ b → ((past_at s l).is_acked ≡ true) ⊎ (is_closed s l ≡ true) → is_out s l ≡ true
  go true closed d = or_right (is_ended (state_at s l)) (is_closed s l) closed
  go false closed (inr d) = absurd (both_ways (is_closed s l) closed d)
  go false closed (inl d) =
      let here : state_at s l ≡ states.Ended = ended l within (or_right (past_at s l).has_quit (past_at s l).is_acked d) in
      or_left (is_ended (state_at s l)) (is_closed s l) (ap is_ended here)

going_stands : (d o : Bool) → standing d o ≡ answers.Going → o ≡ false
going_stands true o e = cc
going_stands false true e = cc
going_stands false false e = refl

-- an end that goes on has a lane that is neither acknowledged nor closed
going_unfinished : (s : PlainSender) → IsSender s → s.answer ≡ answers.Going → every_lane s is_done_with ≡ false
going_unfinished s is e =
    every_weaker (length s.lanes) (is_done_with s) (is_out s) (out_of s is.ended)
    (going_stands (done_of s) (every_lane s is_out) (sym (ap (λ (a : EndAnswer). judged a (done_of s) (every_lane s is_out)) e) ∙ sym is.answer.follows ∙ e))

pub starves : (s : PlainSender) (a : EndAnswer) → s.answer ≡ a → IsSender s → IsSender (failed s (starved a))
starves s answers.Going e is =
    record {
      legal = is.legal;
      plan = record { listed = is.plan.listed; planned = is.plan.planned; accepted = is.plan.accepted };
      answer = record { follows = refl; noted = sym (ap noted_failure e) ∙ is.answer.noted; code = omega arith; unfinished = λ f. going_unfinished s is e };
      lanes = λ j below opens. fares_fails (is_failure s.answer) (state_at s j) (lane_at s j).ask (past_at s j) (end_of s.history) (is.lanes j below opens);
      ended = is.ended;
      faultless = λ x. absurd (true≢false x);
    }
starves s a e is = subst (λ (x : EndAnswer). IsSender (failed s x)) e is

starved_keeps : (s : PlainSender) (row : Row) → IsSender s → IsSender (after_starving s row)
starved_keeps s (Starved mute) is = starves s s.answer refl is
starved_keeps s row is = is

same_lanes : (s : PlainSender) (row : Row) → (after_starving s row).lanes ≡ s.lanes
same_lanes s (Starved mute) = refl
same_lanes s row = refl

-- ---- a step

pub turn_keeps : (s : PlainSender) (l : Lane) (input : SendIn) → IsSender s → l.0 < length s.lanes → FitsIn input → IsSender (send_turn s l input).1
unfolding send_turn
turn_keeps s l input is within fit =
    let row : Row = row_of (state_at s l.0) input in
    ruled_keeps (after_starving s (row_of (state_at s l.0) input)) l (state_at s l.0) input
    (starved_keeps s (row_of (state_at s l.0) input) is)
    (subst (λ (lanes : List SendLane). l.0 < length lanes) (sym (same_lanes s (row_of (state_at s l.0) input))) within)
    (ap (λ (lanes : List SendLane). (lane_or_ended (slice_get lanes l.0)).state) (same_lanes s (row_of (state_at s l.0) input)))
    fit

-- ---- an end that begins

get_replicate : {X : Type 0} (n k : ℕ) (x : X) → k < n → slice_get (replicate n x) k ≡ Some x
get_replicate zero k x below = absurd (omega (arith, below))
get_replicate (suc n) zero x below = refl
get_replicate (suc n) (suc k) x below = get_replicate n k x (omega (arith, below))

new_there : (manifest : List Entry) (block session n l : ℕ) → l < n → lane_at (opened manifest block session (replicate n new_lane)) l ≡ new_lane
new_there manifest block session n l below = ap lane_or_ended (get_replicate n l new_lane below)

not_finished : (end_of []).has_finish ≡ false
not_finished = ap (λ (x : EndPast). x.has_finish) end_of-none

not_out : (manifest : List Entry) (block session n : ℕ) → 1 ≤ n → every n (is_out (opened manifest block session (replicate n new_lane))) ≡ false
not_out manifest block session zero some = absurd (omega (arith, some))
not_out manifest block session (suc m) some =
    let s : PlainSender = opened manifest block session (replicate (suc m) new_lane) in
    and_right (every m (is_out (opened manifest block session (replicate (suc m) new_lane)))) (is_out (opened manifest block session (replicate (suc m) new_lane)) m)
    (rw (new_there manifest block session (suc m) m (omega arith), past_of-none m) refl)

still_going : (f x y : Bool) → f ≡ false → y ≡ false → judged answers.Going (f && x) y ≡ answers.Going
still_going true x y e g = cc
still_going false x true e g = cc
still_going false x false e g = refl

pub opens : (manifest : List Entry) (block session n : ℕ) → 1 ≤ n → IsSender (opened manifest block session (replicate n new_lane))
opens manifest block session n some =
    let s : PlainSender = opened manifest block session (replicate n new_lane) in
    record {
      legal = IsLegal-none (length (replicate n new_lane)) [];
      plan = record { listed = sym (ap (λ (x : EndPast). x.is_listed) end_of-none); planned = refl; accepted = tt };
      answer = record {
        follows = sym (still_going (end_of []).has_finish (every_lane s is_done_with) (every_lane s is_out) not_finished
            (subst (λ (k : ℕ). every k (is_out s) ≡ false) (sym (length-replicate n new_lane)) (not_out manifest block session n some)));
        noted = sym failure_in-none;
        code = omega arith;
        unfinished = λ f. absurd (true≢false (sym f));
      };
      lanes = λ l within closed.
          subst (λ (lane : SendLane). Fares false lane.state lane.ask (past_of [] l) (end_of [])) (sym (new_there manifest block session n l (subst (λ (k : ℕ). l < k) (length-replicate n new_lane) within)))
          (subst (λ (p : LanePast). Dials p) (sym (past_of-none l)) record { goes_on = record { quit = refl; acked = refl; link = refl }; connections = omega arith; failed_tries = omega arith });
      ended = λ l within over. absurd (both_ways (is_over (past_of [] l)) (ap is_over (past_of-none l)) over);
      faultless = λ x. ap (λ (y : EndPast). y.has_fault) end_of-none;
    }

-- ---- a lane that the table serves

pub serves_fares : (s : PlainSender) (l : Lane) (state : SendState) → IsSender s → l.0 < length s.lanes → Serves s l state → Fares false state (lane_at s l.0).ask (past_at s l.0) (end_of s.history)
serves_fares s l state is within at =
    subst (λ (x : SendState). Fares false x (lane_at s l.0).ask (past_at s l.0) (end_of s.history)) at.here
    (subst (λ (f : Bool). Fares f (state_at s l.0) (lane_at s l.0).ask (past_at s l.0) (end_of s.history)) at.sound (is.lanes l.0 within (none_of (past_at s l.0).claims.closed at.is_open)))
