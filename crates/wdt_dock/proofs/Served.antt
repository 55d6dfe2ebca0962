-- The rows that concern no files leave the begun blocks, and lose no disk.
use Rattle.std.proofs.Common.{◌≡◌, ℕ, ◌<◌, Bool, true, false, [], ◌∷◌, length, Option, Some, None, refl, sym, subst, ◌∙◌, arith}
use Rattle.std.specs.Prelude.{is_some}
use Rattle.std.proofs.lemmas.List.{length-set}
use Rattle.wdt_units.specs.declared.numbers.Lane.{Lane}
use Rattle.wdt_codec.specs.declared.frames.Settings.{Settings}
use Rattle.wdt_sender_fsm.specs.declared.answers.EndAnswer.{EndAnswer}
use Rattle.wdt_sender_fsm.specs.declared.answers.EndAnswer.TheVariants as answers
use Rattle.wdt_sender_fsm.specs.declared.peers.PeerKind.{PeerKind}
use Rattle.wdt_sender_fsm.specs.declared.peers.PeerKind.TheVariants as peers
use Rattle.wdt_sender_fsm.specs.Rules.{by_voice}
use Rattle.wdt_receiver_fsm.specs.declared.events.RecvEvent.{RecvEvent}
use Rattle.wdt_receiver_fsm.specs.declared.events.RecvEvent.TheVariants as events
use Rattle.wdt_receiver_fsm.specs.declared.states.RecvLane.{RecvLane}
use Rattle.wdt_receiver_fsm.specs.declared.states.RecvState.{RecvState}
use Rattle.wdt_receiver_fsm.specs.declared.states.RecvState.TheVariants as states
use Rattle.wdt_receiver_fsm.specs.Frames.{size_fault}
use Rattle.wdt_receiver_fsm.specs.PlainReceiver.{PlainReceiver, failed, goes, has_finish, lane_at, noted, past_at, with_lane}
use Rattle.wdt_receiver_fsm.specs.ReceiverHistory.{end_of}
use Rattle.wdt_receiver_fsm.specs.Rows.{Row, Over, Starved, Stray, Aborted, BadFrame, Unexpected, Piece, Begin, NotLinked, Linked, Dropped, SettingsRead, GreetingWritten, ChunksWritten, Size, Block as BlockRead, Done, WaitWritten, Woken, ErrMarksWritten, DoneWritten, Answered, AbortWritten, is_mute}
use Rattle.wdt_receiver_fsm.specs.Turn.{Step, drops, drops_lane, fails_with, faults, given_up, gives_up, greets, greets_by, greets_with, is_used_up, leaves, links, listen, listen_by, lists_by, met_by, next_take, reads, rests, settings_fault_at, sized_by, sizes, sizes_with, tells_failure, turn_row}
use Rattle.wdt_receiver_fsm.specs.Plan.{ends}
use Rattle.wdt_dock.specs.DockView.{HasLostDisk}
use Rattle.wdt_dock.specs.Serving.{is_of_files}
use Rattle.wdt_dock.proofs.Keeping.{IsApart, LosesNone, Stays, loses_lane, stays_failed, stays_lane, stays_more, stays_noted, stays_same}

-- begun blocks and lanes stay, and no disk is lost
pub record Keeps (r t : PlainReceiver) : Type 0 where
  pub stays : Stays r t
  pub loses : LosesNone r t

pub keeps_same : (r : PlainReceiver) → Keeps r r
keeps_same r = record { stays = stays_same r; loses = λ here. here }

pub keeps_more : (r s t : PlainReceiver) → Keeps r s → Keeps s t → Keeps r t
keeps_more r s t a b = record { stays = stays_more r s t a.stays b.stays; loses = λ here. b.loses (a.loses here) }

keeps_noted : (r : PlainReceiver) (e : RecvEvent) → IsApart e → Keeps r (noted r (e ∷ []))
keeps_noted r e apart = record { stays = stays_noted r e apart; loses = λ here. here }

keeps_lane : (r : PlainReceiver) (l : ℕ) (lane : RecvLane) → l < length r.lanes → lane.left ≡ (lane_at r l).left → Keeps r (with_lane r l lane)
keeps_lane r l lane within same = record { stays = stays_lane r l lane within same; loses = loses_lane r l lane }

keeps_going : (r : PlainReceiver) (l : ℕ) (state : RecvState) → l < length r.lanes → Keeps r (goes r l state)
keeps_going r l state within = keeps_lane r l record (lane_at r l) { state = state } within refl

pub keeps_failed : (r : PlainReceiver) (a : EndAnswer) → ((HasLostDisk r.answer → ⊥) → HasLostDisk a → ⊥) → Keeps r (failed r a)
keeps_failed r a none = record { stays = stays_failed r a; loses = none }

-- an entry, and then more
noted_then : (r t : PlainReceiver) (e : RecvEvent) → IsApart e → Keeps (noted r (e ∷ [])) t → Keeps r t
noted_then r t e apart more = keeps_more r (noted r (e ∷ [])) t (keeps_noted r e apart) more

-- ---- what a row comes to

pub keeps_giving : (r : PlainReceiver) (l : Lane) (mute : Bool) → l.0 < length r.lanes → Keeps r (by_voice mute (leaves r l) (tells_failure r l)).1
keeps_giving r l true within = keeps_going r l.0 states.Ended within
keeps_giving r l false within = keeps_going r l.0 states.SendAbort within

keeps_failing : (r : PlainReceiver) (l : Lane) (row : Row) (a : EndAnswer) → l.0 < length r.lanes → (HasLostDisk a → ⊥) → Keeps r (gives_up (failed r a) l row).1
keeps_failing r l row a within none = keeps_more r (failed r a) (gives_up (failed r a) l row).1 (keeps_failed r a (λ here. none)) (keeps_giving (failed r a) l (is_mute row) within)

keeps_fault : (r : PlainReceiver) (l : Lane) (row : Row) (kind : PeerKind) → l.0 < length r.lanes → Keeps r (faults r l row kind).1
keeps_fault r l row kind within = noted_then r (faults r l row kind).1 (events.Peer l kind) (λ k b. refl) (keeps_failing (noted r (events.Peer l kind ∷ [])) l row (answers.Peer kind) within (λ lost. lost))

keeps_listen : (r : PlainReceiver) (l : Lane) → l.0 < length r.lanes → Keeps r (listen r l).1
keeps_listen r l within = go (is_used_up (past_at r l.0))
  where
    ends_so : (finish : Bool) → Keeps r (goes (noted r (given_up l finish ∷ [])) l.0 states.Ended)
    ends_so true = noted_then r (goes (noted r (events.Quit l ∷ [])) l.0 states.Ended) (events.Quit l) (λ k b. refl) (keeps_going (noted r (events.Quit l ∷ [])) l.0 states.Ended within)
    ends_so false = noted_then r (goes (noted r (events.Close l ∷ [])) l.0 states.Ended) (events.Close l) (λ k b. refl) (keeps_going (noted r (events.Close l ∷ [])) l.0 states.Ended within)

    go : (used : Bool) → Keeps r (listen_by r l used).1
    go true = ends_so (has_finish r)
    go false = keeps_going r l.0 states.Listen within

keeps_links : (r : PlainReceiver) (l : Lane) → l.0 < length r.lanes → Keeps r (links r l).1
keeps_links r l within =
    noted_then r (links r l).1 (events.Take l (next_take r l)) (λ k b. refl)
    (keeps_lane (noted r (events.Take l (next_take r l) ∷ [])) l.0 record (lane_at r l.0) { state = states.ReadSettings; is_sized = false; has_waited = false } within refl)

keeps_lists : (r : PlainReceiver) (l : Lane) (ask : Bool) → l.0 < length r.lanes → Keeps r (lists_by r l ask).1
keeps_lists r l true within = keeps_going r l.0 states.SendFileChunks within
keeps_lists r l false within = keeps_going r l.0 states.ReadNextCmd within

keeps_greets : (r : PlainReceiver) (l : Lane) (s : Settings) (finish : Bool) → l.0 < length r.lanes → Keeps r (greets_by r l s finish).1
keeps_greets r l s true within = keeps_lane r l.0 record (lane_at r l.0) { state = states.SendDone; ask = s.ask; conn = s.conn.0 } within refl
keeps_greets r l s false within = keeps_lane r l.0 record (lane_at r l.0) { state = states.SendLocalCheckpoint; ask = s.ask; conn = s.conn.0 } within refl

keeps_met : (r : PlainReceiver) (l : Lane) (s : Settings) (field : Option ℕ) → l.0 < length r.lanes → Keeps r (greets_with r l s field).1
keeps_met r l s (Some field) within = keeps_fault r l (SettingsRead s) (peers.BadSettings field) within
keeps_met r l s None within = go (is_some (end_of r.history).met)
  where
    go : (met : Bool) → Keeps r (greets_by (met_by r l s met) l s (has_finish r)).1
    go true = keeps_greets r l s (has_finish r) within
    go false = noted_then r (greets_by (noted r (events.Met l s ∷ [])) l s (has_finish r)).1 (events.Met l s) (λ k b. refl) (keeps_greets (noted r (events.Met l s ∷ [])) l s (has_finish r) within)

keeps_sizes : (r : PlainReceiver) (l : Lane) (files bytes : ℕ) (wrong : Option PeerKind) → l.0 < length r.lanes → Keeps r (sizes_with r l files bytes wrong).1
keeps_sizes r l files bytes (Some kind) within = keeps_fault r l (Size files bytes) kind within
keeps_sizes r l files bytes None within = go (is_some (end_of r.history).sized)
  where
    go : (sized : Bool) → Keeps r (with_lane (sized_by r l files bytes sized) l.0 record (lane_at r l.0) { is_sized = true })
    go true = keeps_lane r l.0 record (lane_at r l.0) { is_sized = true } within refl
    go false = noted_then r (with_lane (noted r (events.Sized l files bytes ∷ [])) l.0 record (lane_at r l.0) { is_sized = true }) (events.Sized l files bytes) (λ k b. refl)
        (keeps_lane (noted r (events.Sized l files bytes ∷ [])) l.0 record (lane_at r l.0) { is_sized = true } within refl)

-- a row that concerns no files is one step, which keeps
served : (r : PlainReceiver) (l : Lane) (row : Row) → l.0 < length r.lanes → is_of_files row ≡ false → (s : Step) × (turn_row r l row ≡ ends s) × Keeps r s.1
served r l Over within own = (rests r, refl, keeps_same r)
served r l (Starved mute) within own = (rests r, refl, keeps_same r)
served r l Stray within own = (rests r, refl, keeps_same r)
served r l (Aborted code) within own = (
  fails_with (noted r (events.Abort l code ∷ [])) l (Aborted code) (answers.Aborted code),
  refl,
  noted_then r (fails_with (noted r (events.Abort l code ∷ [])) l (Aborted code) (answers.Aborted code)).1 (events.Abort l code) (λ k b. refl) (keeps_failing (noted r (events.Abort l code ∷ [])) l (Aborted code) (answers.Aborted code) within (λ lost. lost)),
)
served r l (BadFrame at) within own = (faults r l (BadFrame at) (peers.BadFrame at), refl, keeps_fault r l (BadFrame at) (peers.BadFrame at) within)
served r l (Unexpected state command) within own = (faults r l (Unexpected state command) (peers.Unexpected state command), refl, keeps_fault r l (Unexpected state command) (peers.Unexpected state command) within)
served r l (Piece bytes) within own = absurd (cc)
served r l Begin within own = (listen r l, refl, keeps_listen r l within)
served r l NotLinked within own = (listen (noted r (events.NoLink l ∷ [])) l, refl, noted_then r (listen (noted r (events.NoLink l ∷ [])) l).1 (events.NoLink l) (λ k b. refl) (keeps_listen (noted r (events.NoLink l ∷ [])) l within))
served r l Linked within own = (links r l, refl, keeps_links r l within)
served r l Dropped within own = absurd (cc)
served r l (SettingsRead settings) within own = (greets r l settings, refl, keeps_met r l settings (settings_fault_at r l settings) within)
served r l GreetingWritten within own = (lists_by r l (lane_at r l.0).ask, refl, keeps_lists r l (lane_at r l.0).ask within)
served r l ChunksWritten within own = (reads (goes r l.0 states.ReadNextCmd), refl, keeps_going r l.0 states.ReadNextCmd within)
served r l (Size files bytes) within own = (sizes r l files bytes, refl, keeps_sizes r l files bytes (size_fault (end_of r.history).sized files bytes) within)
served r l (BlockRead header) within own = absurd (cc)
served r l Done within own = absurd (cc)
served r l WaitWritten within own = absurd (cc)
served r l Woken within own = absurd (cc)
served r l ErrMarksWritten within own = (reads (goes r l.0 states.ReadNextCmd), refl, keeps_going r l.0 states.ReadNextCmd within)
served r l DoneWritten within own = (reads (goes r l.0 states.ReadAck), refl, keeps_going r l.0 states.ReadAck within)
served r l Answered within own = (leaves (noted r (events.Acked l ∷ [])) l, refl, noted_then r (leaves (noted r (events.Acked l ∷ [])) l).1 (events.Acked l) (λ k b. refl) (keeps_going (noted r (events.Acked l ∷ [])) l.0 states.Ended within))
served r l AbortWritten within own = (leaves r l, refl, keeps_going r l.0 states.Ended within)

same_step : (x y : Step) → ends x ≡ ends y → x ≡ y
same_step x y e = cc

pub served_keeps : (r : PlainReceiver) (l : Lane) (row : Row) (step : Step) → l.0 < length r.lanes → is_of_files row ≡ false → turn_row r l row ≡ ends step → Keeps r step.1
served_keeps r l row step within own is = (let s = served r l row within own in subst (λ (x : Step). Keeps r x.1) (same_step s.0 step (sym s.1 ∙ is)) s.2)

-- a connection is lost
pub drop_loses : (r : PlainReceiver) (l : Lane) → l.0 < length r.lanes → LosesNone r (drops r l).1
drop_loses r l within here =
    (keeps_listen (drops_lane r l) l (omega (arith, within, length-set r.lanes l.0 record (lane_at r l.0) { is_sized = false; has_waited = false; left = 0 }))).loses
    (loses_lane (noted r (events.Dropped l ∷ [])) l.0 record (lane_at r l.0) { is_sized = false; has_waited = false; left = 0 } here)
