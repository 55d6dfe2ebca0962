-- The rows of the table: the act of each step, the end's answer behind it, and what is to be written.
use Rattle.std.proofs.Common.{◌≡◌, ◌≢◌, ℕ, ◌+◌, ◌<◌, ◌≤◌, ◌==◌, ◌||◌, nat_le, List, [], ◌∷◌, ◌++◌, length, sum_by, Bool, true, false, not, Option, Some, None, subst, sym, ap, ◌∙◌, refl, arith, is_some, eq-eqb, append_assoc, append-nil}
use Rattle.std.proofs.lemmas.Bool.{cond_both, or_parts, or_left, or_right, leb-false, eqb-false}
use Rattle.wdt_units.specs.Have.{HaveFile}
use Rattle.wdt_units.specs.declared.blocks.Block.{Block}
use Rattle.wdt_units.specs.declared.numbers.Lane.{Lane}
use Rattle.wdt_codec.specs.declared.frames.Frame.TheVariants as frames
use Rattle.wdt_codec.specs.declared.frames.Mark.{Mark}
use Rattle.wdt_codec.specs.Frames.{FitsSize}
use Rattle.wdt_tree.specs.Listing.{size_of}
use Rattle.wdt_tree.specs.declared.entry.Entry.{Entry}
use Rattle.wdt_sender_fsm.specs.declared.acts.SendAct.TheVariants as acts
use Rattle.wdt_sender_fsm.specs.declared.answers.EndAnswer.TheVariants as answers
use Rattle.wdt_sender_fsm.specs.declared.answers.RefusedKind.{RefusedKind}
use Rattle.wdt_sender_fsm.specs.declared.events.SendEvent.{SendEvent}
use Rattle.wdt_sender_fsm.specs.declared.events.SendEvent.TheVariants as events
use Rattle.wdt_sender_fsm.specs.declared.inputs.SendIn.{SendIn}
use Rattle.wdt_sender_fsm.specs.declared.inputs.SendIn.TheVariants as inputs
use Rattle.wdt_sender_fsm.specs.declared.peers.PeerKind.{PeerKind}
use Rattle.wdt_sender_fsm.specs.declared.peers.PeerKind.TheVariants as peers
use Rattle.wdt_sender_fsm.specs.declared.states.SendState.{SendState}
use Rattle.wdt_sender_fsm.specs.declared.states.SendState.TheVariants as states
use Rattle.wdt_sender_fsm.specs.Chunks.{unordered_at, different_at, refusal}
use Rattle.wdt_sender_fsm.specs.Faults.{count_fault, marks_fault, is_stranger, has_stranger}
use Rattle.wdt_sender_fsm.specs.PlainSender.{PlainSender, lane_at, state_at, past_at, least_queued, unfinished_blocks, settings_of, size_of_tree, header_of, noted, goes, failed, is_ended}
use Rattle.wdt_sender_fsm.specs.Rows.{Row, Aborted, SourceLost, Greeted, Listed, Marked, DoneAtOnce, Linked, is_allowed, row_of}
use Rattle.wdt_sender_fsm.specs.Rules.{is_failure}
use Rattle.wdt_sender_fsm.specs.Sender.{plan_of}
use Rattle.wdt_sender_fsm.specs.SenderHistory.{LanePast, past_of, past_of-more}
use Rattle.wdt_sender_fsm.specs.Turn.{Step, is_used_up, redial_by, next_conn, fails_with, faults, writes, writes_size, greeted_by, greeted_with, greeted_for, listed_again, with_plan, planned_by, listed_after, listed_in, next_by, global, globals, marked_with, marked_for, finished, finished_at_once, turn_row}
use Rattle.wdt_sender_fsm.proofs.lemmas.Blocks.{header_fits}
use Rattle.wdt_sender_fsm.proofs.lemmas.Endings.{Right, Free, free_more, going, leaving, telling, follows_sound, fails_now}
use Rattle.wdt_sender_fsm.proofs.lemmas.Works.{in_state}

-- what is known of a lane of a sound end that isn't through
pub record Basis (s : PlainSender) (l : Lane) : Type 0 where
  pub within : l.0 < length s.lanes
  pub free : Free s.history l
  pub sound : is_failure s.answer ≡ false
  pub planned : s.planned ≡ plan_of s.manifest s.block s.have

-- ---- the end fails

pub fault_right : (s : PlainSender) (l : Lane) (row : Row) (kind : PeerKind) (state : SendState) (input : SendIn) → is_ended state ≡ false → row_of state input ≡ row → Basis s l → Right s l state input (faults s l row kind)
fault_right s l row kind state input lives is base =
    subst (λ (r : Row). Right s l state input (faults s l r kind)) is
    (telling s (failed (noted s (events.Peer l kind ∷ [])) (answers.Peer kind)) l state input lives (free_more s.history l (events.Peer l kind) base.free refl tt refl) refl (omega arith)
    (fails_now s (failed (noted s (events.Peer l kind ∷ [])) (answers.Peer kind)) l input base.sound refl))

pub abort_right : (s : PlainSender) (l : Lane) (code : ℕ) (state : SendState) → is_ended state ≡ false → row_of state (inputs.Got (frames.Abort code)) ≡ Aborted code → code ≤ 255 → Basis s l → Right s l state (inputs.Got (frames.Abort code)) (turn_row s l (Aborted code))
abort_right s l code state lives is most base =
    subst (λ (r : Row). Right s l state (inputs.Got (frames.Abort code)) (fails_with (noted s (events.Abort l code ∷ [])) l r (answers.Aborted code))) is
    (telling s (failed (noted s (events.Abort l code ∷ [])) (answers.Aborted code)) l state (inputs.Got (frames.Abort code)) lives (free_more s.history l (events.Abort l code) base.free refl tt refl) refl most
    (fails_now s (failed (noted s (events.Abort l code ∷ [])) (answers.Aborted code)) l (inputs.Got (frames.Abort code)) base.sound (refl, refl)))

pub source_right : (s : PlainSender) (l : Lane) (unwritten : Bool) → Basis s l → Right s l states.SendBlocks (inputs.SourceLost unwritten) (turn_row s l (SourceLost unwritten))
source_right s l unwritten base =
    telling s (failed s answers.Source) l states.SendBlocks (inputs.SourceLost unwritten) refl base.free refl (omega arith)
    (fails_now s (failed s answers.Source) l (inputs.SourceLost unwritten) base.sound refl)

-- ---- connections

few_tries : (c t : ℕ) → (nat_le 8 c || nat_le 8 t) ≡ false → c + 1 ≤ 8
few_tries c t is = let below : c < 8 = leb-false 8 c (or_parts (nat_le 8 c) (nat_le 8 t) is).0 in omega (arith, below)

redials_right : (s t : PlainSender) (l : Lane) (state : SendState) (input : SendIn) (b : Bool) → is_used_up (past_at t l.0) ≡ b → is_allowed state input ≡ true → Free t.history l → is_failure s.answer ≡ false → is_failure t.answer ≡ false → Right s l state input (redial_by t l b)
redials_right s t l state input true used allowed free sound is =
    leaving s (noted t (events.Quit l ∷ [])) l (in_state t l states.Ended) state input
    (or_right (is_some (past_of (t.history ++ events.Quit l ∷ []) l.0).claims.closed) ((past_of (t.history ++ events.Quit l ∷ []) l.0).has_quit || (past_of (t.history ++ events.Quit l ∷ []) l.0).is_acked)
    (or_left (past_of (t.history ++ events.Quit l ∷ []) l.0).has_quit (past_of (t.history ++ events.Quit l ∷ []) l.0).is_acked
    (ap (λ (p : LanePast). p.has_quit) (past_of-more t.history (events.Quit l) l.0) ∙ rw (eq-eqb l.0 l.0 refl) refl)))
    (follows_sound s (noted t (events.Quit l ∷ [])) l input sound is)
redials_right s t l state input false used allowed free sound is =
    going s t l (in_state t l states.Connect) (acts.Dial (next_conn t l)) state input allowed refl free sound is
    (λ lawful. (omega arith, few_tries (past_at t l.0).connections (past_at t l.0).failed_tries used))

pub begins_right : (s : PlainSender) (l : Lane) → Basis s l → Right s l states.Connect inputs.Start (redial_by s l (is_used_up (past_at s l.0)))
begins_right s l base = redials_right s s l states.Connect inputs.Start (is_used_up (past_at s l.0)) refl refl base.free base.sound base.sound

-- a try that failed, or a connection that is lost
pub tries_right : (s : PlainSender) (l : Lane) (e : SendEvent) (state : SendState) (input : SendIn) → is_allowed state input ≡ true → Free (s.history ++ e ∷ []) l → Basis s l → Right s l state input (redial_by (noted s (e ∷ [])) l (is_used_up (past_at (noted s (e ∷ [])) l.0)))
tries_right s l e state input allowed free base =
    redials_right s (noted s (e ∷ [])) l state input (is_used_up (past_at (noted s (e ∷ [])) l.0)) refl allowed free base.sound base.sound

pub loses_right : (s : PlainSender) (l : Lane) (state : SendState) → is_allowed state inputs.Lost ≡ true → Basis s l → Right s l state inputs.Lost (redial_by (noted s (events.Lost l ∷ [])) l (is_used_up (past_at (noted s (events.Lost l ∷ [])) l.0)))
loses_right s l state allowed base = tries_right s l (events.Lost l) state inputs.Lost allowed (free_more s.history l (events.Lost l) base.free refl tt refl) base

pub links_right : (s : PlainSender) (l : Lane) → (past_at s l.0).connections < 8 → Basis s l → Right s l states.Connect inputs.Linked (turn_row s l Linked)
links_right s l few base =
    let ask : Bool = not (is_some s.have) in
    going s (noted s (events.Linked l (next_conn s l) ∷ [])) l record { state = states.SendSettings; ask = not (is_some s.have) } (acts.Write (settings_of s l (next_conn s l) (not (is_some s.have)))) states.Connect inputs.Linked
    refl refl (free_more s.history l (events.Linked l (next_conn s l)) base.free refl tt refl) base.sound base.sound
    (λ lawful. (
      record {
        version = omega arith;
        session = lawful.session;
        lane = base.within;
        lanes = lawful.lanes.1;
        conn = (omega arith, omega (arith, few));
        block = lawful.block;
      },
      tt,
    ))

-- ---- what the receiver tells

sizes_right : (s t : PlainSender) (l : Lane) (state : SendState) (input : SendIn) → t.manifest ≡ s.manifest → is_allowed state input ≡ true → Free t.history l → is_failure s.answer ≡ false → is_failure t.answer ≡ false → Right s l state input (writes_size t l)
sizes_right s t l state input same allowed free sound is =
    going s t l (in_state t l states.SendSize) (acts.Write (size_of_tree t)) state input allowed refl free sound is
    (λ lawful. (subst (λ (m : List Entry). FitsSize (length m) (sum_by size_of m)) (sym same) record { few = lawful.manifest.few; small = omega (arith, lawful.manifest.total) }, (ap length same, ap (sum_by size_of) same)))

greets_by : (s : PlainSender) (l : Lane) (m : Mark) (ask : Bool) → Basis s l → Right s l states.ReadLocalCheckpoint (inputs.Got (frames.Greeting m)) (greeted_by (noted s (events.Greet l m.count ∷ [])) l ask)
greets_by s l m true base =
    going s (noted s (events.Greet l m.count ∷ [])) l (in_state s l states.ReadFileChunks) acts.Read states.ReadLocalCheckpoint (inputs.Got (frames.Greeting m)) refl refl
    (free_more s.history l (events.Greet l m.count) base.free refl tt refl) base.sound base.sound (λ lawful. tt)
greets_by s l m false base =
    sizes_right s (noted s (events.Greet l m.count ∷ [])) l states.ReadLocalCheckpoint (inputs.Got (frames.Greeting m)) refl refl
    (free_more s.history l (events.Greet l m.count) base.free refl tt refl) base.sound base.sound

greets_with : (s : PlainSender) (l : Lane) (m : Mark) (o : Option PeerKind) → Basis s l → Right s l states.ReadLocalCheckpoint (inputs.Got (frames.Greeting m)) (greeted_with s l m o)
greets_with s l m (Some kind) base = fault_right s l (Greeted m) kind states.ReadLocalCheckpoint (inputs.Got (frames.Greeting m)) refl refl base
greets_with s l m None base = greets_by s l m (lane_at s l.0).ask base

greets_for : (s : PlainSender) (l : Lane) (m : Mark) (b : Bool) → Basis s l → Right s l states.ReadLocalCheckpoint (inputs.Got (frames.Greeting m)) (greeted_for s l m b)
greets_for s l m true base = greets_with s l m (count_fault (past_at s l.0).claims m.count) base
greets_for s l m false base = fault_right s l (Greeted m) (peers.Unexpected 2 0x47) states.ReadLocalCheckpoint (inputs.Got (frames.Greeting m)) refl refl base

pub greets_right : (s : PlainSender) (l : Lane) (m : Mark) → Basis s l → Right s l states.ReadLocalCheckpoint (inputs.Got (frames.Greeting m)) (turn_row s l (Greeted m))
greets_right s l m base = greets_for s l m (m.lane.0 == l.0) base

abbrev RightChunks : PlainSender → Lane → List HaveFile → Step → Type 0
RightChunks s l have step = Right s l states.ReadFileChunks (inputs.Got (frames.Chunks have)) step

lists_again : (s : PlainSender) (l : Lane) (have : List HaveFile) (o : Option ℕ) → Basis s l → RightChunks s l have (listed_again s l have o)
lists_again s l have (Some at) base = fault_right s l (Listed have) (peers.ChunksDiffer at) states.ReadFileChunks (inputs.Got (frames.Chunks have)) refl refl base
lists_again s l have None base =
    sizes_right s (noted s (events.Chunks l ∷ [])) l states.ReadFileChunks (inputs.Got (frames.Chunks have)) refl refl (free_more s.history l (events.Chunks l) base.free refl tt refl) base.sound base.sound

plans : (s : PlainSender) (l : Lane) (have : List HaveFile) (o : Option RefusedKind) → refusal s.manifest have s.block ≡ o → s.have ≡ None → unordered_at have ≡ None → state_at s l.0 ≡ states.ReadFileChunks → Basis s l → RightChunks s l have (planned_by s l have o)
plans s l have (Some kind) is first ordered here base =
    telling s (failed s (answers.Refused kind)) l states.ReadFileChunks (inputs.Got (frames.Chunks have)) refl base.free refl (omega arith)
    (fails_now s (failed s (answers.Refused kind)) l (inputs.Got (frames.Chunks have)) base.sound record { here = here; have = have; read = refl; first = first; ordered = ordered; refused = is })
plans s l have None is first ordered here base =
    sizes_right s (noted (with_plan s have) (events.Chunks l ∷ [])) l states.ReadFileChunks (inputs.Got (frames.Chunks have)) refl refl (free_more s.history l (events.Chunks l) base.free refl tt refl) base.sound base.sound

lists_after : (s : PlainSender) (l : Lane) (have : List HaveFile) (o : Option (List HaveFile)) → s.have ≡ o → unordered_at have ≡ None → state_at s l.0 ≡ states.ReadFileChunks → Basis s l → RightChunks s l have (listed_after s l have o)
lists_after s l have (Some first) is ordered here base = lists_again s l have (different_at first have) base
lists_after s l have None is ordered here base = plans s l have (refusal s.manifest have s.block) refl is ordered here base

lists_in : (s : PlainSender) (l : Lane) (have : List HaveFile) (o : Option ℕ) → unordered_at have ≡ o → state_at s l.0 ≡ states.ReadFileChunks → Basis s l → RightChunks s l have (listed_in s l have o)
lists_in s l have (Some at) is here base = fault_right s l (Listed have) (peers.BadChunks at) states.ReadFileChunks (inputs.Got (frames.Chunks have)) refl refl base
lists_in s l have None is here base = lists_after s l have s.have refl is here base

pub lists_right : (s : PlainSender) (l : Lane) (have : List HaveFile) → state_at s l.0 ≡ states.ReadFileChunks → Basis s l → RightChunks s l have (turn_row s l (Listed have))
lists_right s l have here base = lists_in s l have (unordered_at have) refl here base

-- ---- blocks

abbrev with_history : PlainSender → List SendEvent → PlainSender
with_history s h = record s { history = h }

pub takes_right : (s : PlainSender) (h : List SendEvent) (l : Lane) (state : SendState) (input : SendIn) (o : Option Block) → least_queued (with_history s h) ≡ o → is_allowed state input ≡ true → Free h l → Basis s l → Right s l state input (next_by (with_history s h) l o)
takes_right s h l state input None is allowed free base =
    going s (with_history s h) l (in_state s l states.SendDone) (acts.Write frames.Done) state input allowed refl free base.sound base.sound (λ lawful. (tt, tt))
takes_right s h l state input (Some b) is allowed free base =
    going s (noted (with_history s h) (events.Claim l b ∷ [])) l (in_state s l states.SendBlocks) (acts.SendBlock (header_of s b)) state input allowed refl
    (free_more h l (events.Claim l b) free refl tt refl) base.sound base.sound (λ lawful. header_fits s h b base.planned is lawful)

-- ---- closed lanes

all_free : (h : List SendEvent) (n : ℕ) (l : Lane) (ms : List Mark) → has_stranger n l.0 ms ≡ false → Free h l → Free (h ++ globals l ms) l
all_free h n l [] known free = subst (λ (x : List SendEvent). Free x l) (sym (append-nil h)) free
all_free h n l (m ∷ ms) known free =
    let both = or_parts (is_stranger n l.0 m) (has_stranger n l.0 ms) known in
    let other : m.lane.0 ≢ l.0 = eqb-false m.lane.0 l.0 (or_parts (nat_le n m.lane.0) (m.lane.0 == l.0) both.0).1 in
    subst (λ (x : List SendEvent). Free x l) (append_assoc h (global l m ∷ []) (globals l ms))
    (all_free (h ++ global l m ∷ []) n l ms both.1 (free_more h l (global l m) free refl (λ e. other (sym e)) refl))

abbrev RightMarks : PlainSender → Lane → List Mark → Step → Type 0
RightMarks s l ms step = Right s l states.ReadReceiverCmd (inputs.Got (frames.ErrMarks ms)) step

marks_with : (s : PlainSender) (l : Lane) (ms : List Mark) (o : Option PeerKind) → has_stranger (length s.lanes) l.0 ms ≡ false → Basis s l → RightMarks s l ms (marked_with s l ms o)
marks_with s l ms (Some kind) known base = fault_right s l (Marked ms) kind states.ReadReceiverCmd (inputs.Got (frames.ErrMarks ms)) refl refl base
marks_with s l ms None known base =
    takes_right s (s.history ++ globals l ms) l states.ReadReceiverCmd (inputs.Got (frames.ErrMarks ms)) (least_queued (with_history s (s.history ++ globals l ms))) refl refl (all_free s.history (length s.lanes) l ms known base.free) base

marks_for : (s : PlainSender) (l : Lane) (ms : List Mark) (b : Bool) → has_stranger (length s.lanes) l.0 ms ≡ b → Basis s l → RightMarks s l ms (marked_for s l ms b)
marks_for s l ms true is base = fault_right s l (Marked ms) (peers.Unexpected 7 0x45) states.ReadReceiverCmd (inputs.Got (frames.ErrMarks ms)) refl refl base
marks_for s l ms false is base = marks_with s l ms (marks_fault s.history ms) is base

pub marks_right : (s : PlainSender) (l : Lane) (ms : List Mark) → Basis s l → RightMarks s l ms (turn_row s l (Marked ms))
marks_right s l ms base = marks_for s l ms (has_stranger (length s.lanes) l.0 ms) refl base

-- ---- the finish

pub finishes_right : (s : PlainSender) (l : Lane) (row : Row) (state : SendState) (input : SendIn) → is_allowed state input ≡ true → is_ended state ≡ false → row_of state input ≡ row → Basis s l → Right s l state input (finished s l row)
finishes_right s l row state input allowed lives is base =
    cond_both (unfinished_blocks s == 0) (writes (goes (noted s (events.Finish l ∷ [])) l states.AnswerDone) frames.Done) (faults s l row (peers.EarlyDone (unfinished_blocks s))) (Right s l state input)
    (λ e. going s (noted s (events.Finish l ∷ [])) l (in_state s l states.AnswerDone) (acts.Write frames.Done) state input allowed refl (free_more s.history l (events.Finish l) base.free refl tt refl) base.sound base.sound (λ lawful. (tt, tt)))
    (λ e. fault_right s l row (peers.EarlyDone (unfinished_blocks s)) state input lives is base)

at_once : (s : PlainSender) (l : Lane) (b : Bool) → Basis s l → Right s l states.ReadLocalCheckpoint (inputs.Got frames.Done) (finished_at_once s l b)
at_once s l true base = finishes_right s l DoneAtOnce states.ReadLocalCheckpoint (inputs.Got frames.Done) refl refl refl base
at_once s l false base = fault_right s l DoneAtOnce (peers.Unexpected 2 0x4C) states.ReadLocalCheckpoint (inputs.Got frames.Done) refl refl base

pub finishes_at_once_right : (s : PlainSender) (l : Lane) → Basis s l → Right s l states.ReadLocalCheckpoint (inputs.Got frames.Done) (turn_row s l DoneAtOnce)
finishes_at_once_right s l base = at_once s l (is_some s.have) base
