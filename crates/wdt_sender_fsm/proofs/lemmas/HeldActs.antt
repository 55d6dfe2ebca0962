-- The act of a step is that of its lane as it stands behind it.
use Rattle.std.proofs.Common.{◌≢◌, ◌≡◌, inl, inr, ℕ, ◌+◌, ◌<◌, List, [], ◌∷◌, ◌++◌, length, Bool, true, false, not, Option, Some, None, subst, sym, ap, ◌∙◌, refl, is_some, sum_by, slice_get, eq-eqb, append_assoc}
use Rattle.std.proofs.lemmas.List.{length-set}
use Rattle.std.proofs.lemmas.Bool.{both_ways, false_from_ne_true, or_parts}
use Rattle.wdt_units.specs.declared.blocks.Block.{Block}
use Rattle.wdt_units.specs.declared.numbers.Conn.{Conn}
use Rattle.wdt_units.specs.declared.numbers.Lane.{Lane}
use Rattle.wdt_sender_fsm.specs.declared.acts.SendAct.{SendAct}
use Rattle.wdt_sender_fsm.specs.declared.acts.SendAct.TheVariants as acts
use Rattle.wdt_codec.specs.declared.frames.Frame.TheVariants as frames
use Rattle.wdt_sender_fsm.specs.declared.answers.EndAnswer.{EndAnswer}
use Rattle.wdt_sender_fsm.specs.declared.answers.EndAnswer.TheVariants as answers
use Rattle.wdt_sender_fsm.specs.declared.events.SendEvent.{SendEvent}
use Rattle.wdt_sender_fsm.specs.declared.events.SendEvent.TheVariants as events
use Rattle.wdt_sender_fsm.specs.declared.inputs.SendIn.{SendIn}
use Rattle.wdt_sender_fsm.specs.declared.inputs.SendIn.TheVariants as inputs
use Rattle.wdt_codec.specs.declared.frames.Frame.{Frame}
use Rattle.wdt_sender_fsm.specs.declared.states.SendLane.{SendLane}
use Rattle.wdt_sender_fsm.specs.declared.states.SendState.{SendState}
use Rattle.wdt_sender_fsm.specs.declared.states.SendState.TheVariants as states
use Rattle.wdt_sender_fsm.specs.Acts.{last_of, block_act, act_in, act_of, IsActOf, is_answer}
use Rattle.wdt_sender_fsm.specs.Outcomes.{Outcome, Rested, Waited, Left, Warned, Failed, GivenUp, Redialed, Introduced, Presented, Greeted, Listed, Planned, Claimed, Emptied, Concluded, Finished, Acknowledged, came_to, failing}
use Rattle.wdt_sender_fsm.specs.Reasons.{Fails, OfMemory, OfReceiver, OfSource, OfPlan, OfPeer, ComesOf, Serves, Rests, WasOver, WasStray, WasSettled}
use Rattle.wdt_sender_fsm.specs.Phases.{FitsLane, Open, Met, Told, Sending, Asked, Bye, Over as SaidAll}
use Rattle.wdt_sender_fsm.specs.PlainSender.{is_closed, PlainSender, lane_at, state_at, past_at, is_ended, noted, with_lane, header_by, header_of}
use Rattle.wdt_sender_fsm.specs.Rows.{is_allowed}
use Rattle.wdt_sender_fsm.specs.Rules.{is_failure, starved, code_of, by_voice}
use Rattle.wdt_sender_fsm.specs.Sender.{Fares, FitsIn, IsSender, is_over}
use Rattle.wdt_sender_fsm.specs.Causes.{Follows}
use Rattle.wdt_sender_fsm.specs.Touches.{Beside, AsItWas, NowClosed, NowFinished, Touches}
use Rattle.wdt_tree.specs.Listing.{size_of}
use Rattle.wdt_tree.specs.declared.entry.Entry.{Entry}
use Rattle.wdt_sender_fsm.specs.SenderHistory.{LanePast, past_of, past_of-more, end_of}
use Rattle.wdt_sender_fsm.specs.Turn.{Step, rests, leaves, tells_failure, next_conn, introduces_with, with_plan, greeted_by, send_turn}
use Rattle.wdt_claims.proofs.Shared.{none_of}
use Rattle.wdt_sender_fsm.proofs.lemmas.Comes.{turn_comes}
use Rattle.wdt_sender_fsm.proofs.lemmas.Endings.{put_answer}
use Rattle.wdt_sender_fsm.proofs.lemmas.Steps.{lane_set, voiced}
use Rattle.wdt_sender_fsm.proofs.lemmas.Phases.{pieces_lead}
use Rattle.wdt_sender_fsm.proofs.lemmas.Stopping.{all_out, turn_right}
use Rattle.wdt_sender_fsm.proofs.lemmas.Touching.{turn_touches}
use Rattle.wdt_sender_fsm.proofs.lemmas.Works.{in_state}

-- the act is that of the lane behind the step
abbrev Holds : Lane → Step → Type 0
Holds l step = step.0 ≡ act_of step.1 l

abbrev is_rest : Outcome → Bool
is_rest Rested = true
is_rest o = false

last_more : (xs : List Block) (b : Block) → last_of (xs ++ b ∷ []) ≡ Some b
last_more [] b = refl
last_more (x ∷ []) b = refl
last_more (x ∷ y ∷ xs) b = last_more (y ∷ xs) b

-- the act of a lane that was put so
put_act : (t : PlainSender) (l : Lane) (lane : SendLane) → l.0 < length t.lanes → act_in (with_lane t l lane) l lane.ask lane.state ≡ act_of (with_lane t l lane) l
put_act t l lane within = ap (λ (x : SendLane). act_in (with_lane t l lane) l x.ask x.state) (sym (lane_set t l lane within))

warns_so : (t : PlainSender) (l : Lane) → is_failure t.answer ≡ true → l.0 < length t.lanes → Holds l (tells_failure t l)
warns_so t l fails within = ap (λ (a : EndAnswer). acts.Write (frames.Abort (code_of a))) (sym (put_answer t l (in_state t l states.SendAbort) fails)) ∙ put_act t l (in_state t l states.SendAbort) within

gives_up_so : (t : PlainSender) (l : Lane) (mute : Bool) → is_failure t.answer ≡ true → l.0 < length t.lanes → Holds l (by_voice mute (leaves t l) (tells_failure t l))
gives_up_so t l mute fails within =
    voiced (Holds l) mute (leaves t l) (tells_failure t l) (λ e. (put_act t l (in_state t l states.Ended) within)) (λ e. warns_so t l fails within)

fails_so : (s : PlainSender) (l : Lane) (input : SendIn) (a : EndAnswer) (mute : Bool) → Fails s l input a mute → l.0 < length s.lanes → Holds l (by_voice mute (leaves (failing s l a) l) (tells_failure (failing s l a) l))
fails_so s l input a mute (OfMemory m going e lives is) within = gives_up_so (failing s l answers.NoMemory) l mute refl within
fails_so s l input a mute (OfReceiver state code serves reads e) within = gives_up_so (failing s l (answers.Aborted code)) l mute refl within
fails_so s l input a mute (OfSource unwritten serves e) within = gives_up_so (failing s l answers.Source) l mute refl within
fails_so s l input a mute (OfPlan kind serves refuses) within = gives_up_so (failing s l (answers.Refused kind)) l mute refl within
fails_so s l input a mute (OfPeer state kind serves reads wrong) within = gives_up_so (failing s l (answers.Peer kind)) l mute refl within

-- what is claimed stands last
claim_last : (s : PlainSender) (l : Lane) (es : List SendEvent) (b : Block) → last_of (past_of (s.history ++ (es ++ events.Claim l b ∷ [])) l.0).claims.kept ≡ Some b
claim_last s l es b =
    ap (λ (h : List SendEvent). last_of (past_of h l.0).claims.kept) (sym (append_assoc s.history es (events.Claim l b ∷ [])))
    ∙ ap (λ (p : LanePast). last_of p.claims.kept) (past_of-more (s.history ++ es) (events.Claim l b) l.0)
    ∙ rw (eq-eqb l.0 l.0 refl) (last_more (past_of (s.history ++ es) l.0).claims.kept b)

-- the connection that was made is the lane's last
linked_conn : (s : PlainSender) (l : Lane) (conn : Conn) → (past_of (s.history ++ events.Linked l conn ∷ []) l.0).connections ≡ (past_at s l.0).connections + 1
linked_conn s l conn = ap (λ (p : LanePast). p.connections) (past_of-more s.history (events.Linked l conn) l.0) ∙ rw (eq-eqb l.0 l.0 refl) refl

abbrev settings_with : PlainSender → Lane → Bool → ℕ → ℕ → SendAct
settings_with s l ask lanes conn = acts.Write (frames.Settings record { version = 1; session = s.session; lane = l; lanes = lanes; conn = record { 0 = conn }; block = s.block; ask = ask })

introduces_so : (s : PlainSender) (l : Lane) (ask : Bool) → l.0 < length s.lanes → Holds l (introduces_with s l (next_conn s l) ask)
introduces_so s l ask within =
    let t : PlainSender = noted s (events.Linked l (next_conn s l) ∷ []) in
    let lane : SendLane = record { state = states.SendSettings; ask = ask } in
    ap (λ (n : ℕ). settings_with s l ask (length s.lanes) n) (sym (linked_conn s l (next_conn s l)))
    ∙ ap (λ (n : ℕ). settings_with s l ask n (past_of (s.history ++ events.Linked l (next_conn s l) ∷ []) l.0).connections) (sym (length-set s.lanes l.0 record { state = states.SendSettings; ask = ask }))
    ∙ put_act (noted s (events.Linked l (next_conn s l) ∷ [])) l record { state = states.SendSettings; ask = ask } within

greets_so : (t : PlainSender) (l : Lane) (ask : Bool) → l.0 < length t.lanes → Holds l (greeted_by t l ask)
greets_so t l true within = (put_act t l (in_state t l states.ReadFileChunks) within)
greets_so t l false within = (put_act t l (in_state t l states.SendSize) within)

pub outcome_holds : (s : PlainSender) (l : Lane) (input : SendIn) (o : Outcome) → is_rest o ≡ false → ComesOf s l input o → l.0 < length s.lanes → Holds l (came_to s l o)
outcome_holds s l input Rested acts_on of within = cc
outcome_holds s l input Waited acts_on of within = (ap (λ (x : SendState). act_in s l (lane_at s l.0).ask x) (sym of.0.here))
outcome_holds s l input Left acts_on of within = (put_act s l (in_state s l states.Ended) within)
outcome_holds s l input Warned acts_on of within = warns_so s l of.1.failed within
outcome_holds s l input (Failed a mute) acts_on of within = fails_so s l input a mute of within
outcome_holds s l input (GivenUp es) acts_on of within = (put_act (noted s (es ++ events.Quit l ∷ [])) l (in_state s l states.Ended) within)
outcome_holds s l input (Redialed es) acts_on of within = (put_act (noted s es) l (in_state s l states.Connect) within)
outcome_holds s l input Introduced acts_on of within = introduces_so s l (not (is_some s.have)) within
outcome_holds s l input Presented acts_on of within = (put_act s l (in_state s l states.ReadLocalCheckpoint) within)
outcome_holds s l input (Greeted count) acts_on of within = greets_so (noted s (events.Greet l count ∷ [])) l (lane_at s l.0).ask within
outcome_holds s l input Listed acts_on of within = (put_act (noted s (events.Chunks l ∷ [])) l (in_state s l states.SendSize) within)
outcome_holds s l input (Planned have) acts_on of within = (put_act (noted (with_plan s have) (events.Chunks l ∷ [])) l (in_state s l states.SendSize) within)
outcome_holds s l input (Claimed es b) acts_on of within =
    (ap (λ (o : Option Block). block_act s o) (sym (claim_last s l es b)) ∙ put_act (noted s (es ++ events.Claim l b ∷ [])) l (in_state s l states.SendBlocks) within)
outcome_holds s l input (Emptied es) acts_on of within = (put_act (noted s es) l (in_state s l states.SendDone) within)
outcome_holds s l input Concluded acts_on of within = (put_act (noted s (events.Done l ∷ [])) l (in_state s l states.ReadReceiverCmd) within)
outcome_holds s l input Finished acts_on of within = (put_act (noted s (events.Finish l ∷ [])) l (in_state s l states.AnswerDone) within)
outcome_holds s l input Acknowledged acts_on of within = (put_act (noted s (events.Acked l ∷ [])) l (in_state s l states.Ended) within)

-- ---- a step

-- where memory runs out on an end that hasn't failed and keeps its answer, no lane goes on
settled_goes_on : (s : PlainSender) (l : Lane) (state : SendState) → Serves s l state → is_ended state ≡ false → is_failure (starved s.answer) ≡ false → IsSender s → l.0 < length s.lanes → ⊥
settled_goes_on s l state at lives calm is within =
    let here : is_ended (state_at s l.0) ≡ false = ap is_ended at.here ∙ lives in
    let alive : is_over (past_at s l.0) ≡ false =
    false_from_ne_true (is_over (past_at s l.0)) (λ over. both_ways (is_ended (state_at s l.0)) here (ap is_ended (is.ended l.0 within over))) in
    let both = or_parts (past_at s l.0).has_quit (past_at s l.0).is_acked alive in
    all_out s l s.answer refl calm is within record { is_open = none_of (past_at s l.0).claims.closed at.is_open; quit = both.0; acked = both.1 } here

rests_so : (s : PlainSender) (l : Lane) (input : SendIn) → Rests s l input → IsSender s → l.0 < length s.lanes → IsActOf s l input (rests s)
rests_so s l input (WasOver ended) is within = inl (ap (λ (x : SendState). act_in s l (lane_at s l.0).ask x) (sym ended))
rests_so s l input (WasStray state at out) is within = inr (ap (λ (x : SendState). is_allowed x input) at.here ∙ out, refl)
rests_so s l input (WasSettled state at lives e calm) is within = absurd (settled_goes_on s l state at lives calm is within)

came_so : (s : PlainSender) (l : Lane) (input : SendIn) (o : Outcome) → ComesOf s l input o → IsSender s → l.0 < length s.lanes → IsActOf s l input (came_to s l o)
came_so s l input Rested of is within = rests_so s l input of is within
came_so s l input o of is within = inl (outcome_holds s l input o refl of within)

pub turn_acts : (s : PlainSender) (l : Lane) (input : SendIn) → IsSender s → l.0 < length s.lanes → IsActOf s l input (send_turn s l input)
turn_acts s l input is within =
    let c = turn_comes s l input in
    subst (λ (step : Step). IsActOf s l input step) (sym c.is) (came_so s l input c.outcome c.of is within)

-- ---- what a lane writes are moves of its phase

block_leads : (s : PlainSender) (l : Lane) (ask : Bool) (o : Option Block) → FitsLane record { state = states.SendBlocks; ask = ask } (block_act s o)
block_leads s l ask None = tt
block_leads s l ask (Some b) = record { from = Sending; to = Sending; before = refl; moves = pieces_lead (header_of s b).length; after = refl }

-- the act of a lane that stands in a state fits it
act_fits : (s : PlainSender) (l : Lane) (ask : Bool) (state : SendState) → FitsLane record { state = state; ask = ask } (act_in s l ask state)
act_fits s l ask states.Connect = refl
act_fits s l ask states.SendSettings = inr record { from = Open; to = Met ask; before = refl; moves = refl; after = refl }
act_fits s l ask states.ReadLocalCheckpoint = refl
act_fits s l ask states.ReadFileChunks = refl
act_fits s l ask states.SendSize = inr record { from = Told; to = Sending; before = refl; moves = refl; after = refl }
act_fits s l ask states.SendBlocks = block_leads s l ask (last_of (past_at s l.0).claims.kept)
act_fits s l ask states.SendDone = inr record { from = Sending; to = Asked; before = refl; moves = refl; after = refl }
act_fits s l ask states.ReadReceiverCmd = refl
act_fits s l ask states.AnswerDone = inr record { from = Bye; to = SaidAll; before = refl; moves = refl; after = refl }
act_fits s l ask states.SendAbort = inl (refl, refl)
act_fits s l ask states.Ended = tt

came_fits : (s : PlainSender) (l : Lane) (input : SendIn) (o : Outcome) → ComesOf s l input o → l.0 < length s.lanes → FitsLane (lane_at (came_to s l o).1 l.0) (came_to s l o).0
came_fits s l input Rested of within = tt
came_fits s l input o of within =
    let t : PlainSender = (came_to s l o).1 in
    subst (λ (a : SendAct). FitsLane (lane_at (came_to s l o).1 l.0) a) (sym (outcome_holds s l input o refl of within)) (act_fits (came_to s l o).1 l (lane_at (came_to s l o).1 l.0).ask (state_at (came_to s l o).1 l.0))

-- what a lane is to write behind a step are moves of its phase
pub turn_fits : (s : PlainSender) (l : Lane) (input : SendIn) → l.0 < length s.lanes → FitsLane (lane_at (send_turn s l input).1 l.0) (send_turn s l input).0
turn_fits s l input within =
    let c = turn_comes s l input in
    subst (λ (step : Step). FitsLane (lane_at step.1 l.0) step.0) (sym c.is) (came_fits s l input c.outcome c.of within)

-- ---- the other lanes keep theirs

-- all that the act of a lane hangs on, but for the answer, is the same
record HangsOn (s t : PlainSender) (k : Lane) : Type 0 where
  pub manifest : t.manifest ≡ s.manifest
  pub block : t.block ≡ s.block
  pub session : t.session ≡ s.session
  pub lanes : length t.lanes ≡ length s.lanes
  pub kept : (past_at t k.0).claims.kept ≡ (past_at s k.0).claims.kept
  pub connections : (past_at t k.0).connections ≡ (past_at s k.0).connections

abbrev full_settings : Lane → Bool → ℕ → ℕ → ℕ → ℕ → SendAct
full_settings l ask session lanes conn block = acts.Write (frames.Settings record { version = 1; session = session; lane = l; lanes = lanes; conn = record { 0 = conn }; block = block; ask = ask })

settings_stay : (s t : PlainSender) (k : Lane) (ask : Bool) → HangsOn s t k → act_in t k ask states.SendSettings ≡ act_in s k ask states.SendSettings
settings_stay s t k ask on =
    ap (λ (n : ℕ). full_settings k ask n (length t.lanes) (past_at t k.0).connections t.block) on.session
    ∙ ap (λ (n : ℕ). full_settings k ask s.session n (past_at t k.0).connections t.block) on.lanes
    ∙ ap (λ (n : ℕ). full_settings k ask s.session (length s.lanes) n t.block) on.connections
    ∙ ap (λ (n : ℕ). full_settings k ask s.session (length s.lanes) (past_at s k.0).connections n) on.block

block_stays : (s t : PlainSender) (o : Option Block) → t.manifest ≡ s.manifest → block_act t o ≡ block_act s o
block_stays s t None same = refl
block_stays s t (Some b) same = ap (λ (m : List Entry). acts.SendBlock (header_by (slice_get m b.file) b)) same

act_stays : (s t : PlainSender) (k : Lane) (ask : Bool) (state : SendState) → HangsOn s t k → (state ≡ states.SendAbort → t.answer ≡ s.answer) → act_in t k ask state ≡ act_in s k ask state
act_stays s t k ask states.Connect on answer = ap (λ (n : ℕ). acts.Dial record { 0 = n + 1 }) on.connections
act_stays s t k ask states.SendSettings on answer = settings_stay s t k ask on
act_stays s t k ask states.ReadLocalCheckpoint on answer = refl
act_stays s t k ask states.ReadFileChunks on answer = refl
act_stays s t k ask states.SendSize on answer = ap (λ (m : List Entry). acts.Write (frames.Size (length m) (sum_by size_of m))) on.manifest
act_stays s t k ask states.SendBlocks on answer = block_stays s t (last_of (past_at t k.0).claims.kept) on.manifest ∙ ap (λ (xs : List Block). block_act s (last_of xs)) on.kept
act_stays s t k ask states.SendDone on answer = refl
act_stays s t k ask states.ReadReceiverCmd on answer = refl
act_stays s t k ask states.AnswerDone on answer = refl
act_stays s t k ask states.SendAbort on answer = ap (λ (a : EndAnswer). acts.Write (frames.Abort (code_of a))) (answer refl)
act_stays s t k ask states.Ended on answer = refl

hangs_on : (s t : PlainSender) (l : Lane) (input : SendIn) (k : Lane) → k.0 ≢ l.0 → is_closed t k.0 ≡ false → Touches s l input t → HangsOn s t k × ((past_at s k.0).claims.closed ≡ None)
hangs_on s t l input k ne opens touches = go (touches.pasts k.0 ne) where
  with_past : (past_at t k.0).claims.kept ≡ (past_at s k.0).claims.kept → (past_at t k.0).connections ≡ (past_at s k.0).connections → HangsOn s t k
  with_past kept connections = record { manifest = touches.manifest; block = touches.block; session = touches.session; lanes = touches.lanes; kept = kept; connections = connections }

  go : Beside k.0 touches.history.entries (past_at s k.0) (past_at t k.0) → HangsOn s t k × ((past_at s k.0).claims.closed ≡ None)
  go (AsItWas same) = (with_past (ap (λ (p : LanePast). p.claims.kept) same) (ap (λ (p : LanePast). p.connections) same), sym (ap (λ (p : LanePast). p.claims.closed) same) ∙ none_of (past_at t k.0).claims.closed opens)
  go (NowClosed count told was now) = absurd (both_ways (is_closed t k.0) opens (ap (λ (p : LanePast). is_some p.claims.closed) now))
  go (NowFinished j is now) = (with_past (ap (λ (p : LanePast). p.claims.kept) now) (ap (λ (p : LanePast). p.connections) now), sym (ap (λ (p : LanePast). p.claims.closed) now) ∙ none_of (past_at t k.0).claims.closed opens)

-- where a lane tells of a failure the end has failed
abort_fails : (s : PlainSender) (k : ℕ) → IsSender s → k < length s.lanes → (past_at s k).claims.closed ≡ None → state_at s k ≡ states.SendAbort → is_failure s.answer ≡ true
abort_fails s k is within opens here = (subst (λ (x : SendState). Fares (is_failure s.answer) x (lane_at s k).ask (past_at s k) (end_of s.history)) here (is.lanes k within opens)).failed

stays_by : (s t : PlainSender) (l : Lane) (input : SendIn) (k : Lane) → IsSender s → k.0 < length s.lanes → k.0 ≢ l.0 → is_closed t k.0 ≡ false → Touches s l input t → Follows s l input t → act_of t k ≡ act_of s k
stays_by s t l input k is within ne opens touches follows =
    let on = hangs_on s t l input k ne opens touches in
    ap (λ (x : SendLane). act_in t k x.ask x.state) (touches.others k.0 ne)
    ∙ act_stays s t k (lane_at s k.0).ask (state_at s k.0) on.0 (λ e. follows.stays (abort_fails s k.0 is within on.1 e))

-- another lane that isn't closed behind a step holds the act that it held
pub turn_leaves_acts : (s : PlainSender) (l : Lane) (input : SendIn) (k : Lane) → IsSender s → l.0 < length s.lanes → FitsIn input → k.0 < length s.lanes → k.0 ≢ l.0 → is_closed (send_turn s l input).1 k.0 ≡ false → act_of (send_turn s l input).1 k ≡ act_of s k
turn_leaves_acts s l input k is within fit there ne opens =
    stays_by s (send_turn s l input).1 l input k is there ne opens (turn_touches s l input) (turn_right s l input is within fit).follows

-- ---- what becomes of an act belongs to the lane's state

read_belongs : (frame : Frame) → (is_allowed states.ReadLocalCheckpoint (inputs.Got frame) ≡ true) × (is_allowed states.ReadFileChunks (inputs.Got frame) ≡ true) × (is_allowed states.ReadReceiverCmd (inputs.Got frame) ≡ true)
read_belongs (frames.Abort code) = (refl, refl, refl)
read_belongs frame = (refl, refl, refl)

block_belongs : (s : PlainSender) (o : Option Block) (input : SendIn) → is_answer (block_act s o) input ≡ true → is_allowed states.SendBlocks input ≡ true
block_belongs s None input e = cc
block_belongs s (Some b) inputs.Starved e = refl
block_belongs s (Some b) inputs.Wrote e = refl
block_belongs s (Some b) inputs.Lost e = refl
block_belongs s (Some b) (inputs.SourceLost unwritten) e = refl
block_belongs s (Some b) input e = cc

answer_belongs : (s : PlainSender) (l : Lane) (ask : Bool) (state : SendState) (input : SendIn) → is_answer (act_in s l ask state) input ≡ true → is_allowed state input ≡ true
answer_belongs s l ask states.Ended input e = cc
answer_belongs s l ask states.SendBlocks input e = block_belongs s (last_of (past_at s l.0).claims.kept) input e
answer_belongs s l ask states.ReadLocalCheckpoint (inputs.Got frame) e = (read_belongs frame).0
answer_belongs s l ask states.ReadFileChunks (inputs.Got frame) e = (read_belongs frame).1
answer_belongs s l ask states.ReadReceiverCmd (inputs.Got frame) e = (read_belongs frame).2
answer_belongs s l ask states.ReadLocalCheckpoint (inputs.Bad at) e = refl
answer_belongs s l ask states.ReadFileChunks (inputs.Bad at) e = refl
answer_belongs s l ask states.ReadReceiverCmd (inputs.Bad at) e = refl
answer_belongs s l ask states.Connect inputs.Linked e = refl
answer_belongs s l ask states.Connect inputs.NoLink e = refl
answer_belongs s l ask state inputs.Starved e = refl
answer_belongs s l ask states.SendSettings inputs.Wrote e = refl
answer_belongs s l ask states.SendSize inputs.Wrote e = refl
answer_belongs s l ask states.SendDone inputs.Wrote e = refl
answer_belongs s l ask states.AnswerDone inputs.Wrote e = refl
answer_belongs s l ask states.SendAbort inputs.Wrote e = refl
answer_belongs s l ask states.SendSettings inputs.Lost e = refl
answer_belongs s l ask states.ReadLocalCheckpoint inputs.Lost e = refl
answer_belongs s l ask states.ReadFileChunks inputs.Lost e = refl
answer_belongs s l ask states.SendSize inputs.Lost e = refl
answer_belongs s l ask states.SendDone inputs.Lost e = refl
answer_belongs s l ask states.ReadReceiverCmd inputs.Lost e = refl
answer_belongs s l ask states.AnswerDone inputs.Lost e = refl
answer_belongs s l ask states.SendAbort inputs.Lost e = refl
answer_belongs s l ask state input e = cc

pub answers_belong : (s : PlainSender) (l : Lane) (input : SendIn) → is_answer (act_of s l) input ≡ true → is_allowed (state_at s l.0) input ≡ true
answers_belong s l input e = answer_belongs s l (lane_at s l.0).ask (state_at s l.0) input e
