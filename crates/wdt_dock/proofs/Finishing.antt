-- The finish, behind the flush of what landed.
use Rattle.std.proofs.Common.{◌≡◌, ℕ, suc, ◌<◌, Bool, true, false, List, [], ◌∷◌, length, map, Option, Some, None, refl, sym, ap, ◌∙◌, subst}
use Rattle.wdt_units.specs.declared.blocks.Block.{Block}
use Rattle.wdt_units.specs.declared.numbers.Lane.{Lane}
use Rattle.wdt_depot.specs.Programs.{Calls, Drive}
use Rattle.wdt_logfmt.specs.Adding.{all_added}
use Rattle.wdt_logfmt.specs.Marks.{Marked, bytes_in, files_in, marked_of, marks_of}
use Rattle.wdt_logfmt.specs.Spelling.{written_version}
use Rattle.wdt_logfmt.specs.View.{NamedFile}
use Rattle.wdt_sender_fsm.specs.declared.answers.EndAnswer.TheVariants as answers
use Rattle.wdt_sender_fsm.specs.declared.peers.PeerKind.{PeerKind}
use Rattle.wdt_receiver_fsm.specs.declared.events.RecvEvent.{RecvEvent}
use Rattle.wdt_receiver_fsm.specs.declared.events.RecvEvent.TheVariants as events
use Rattle.wdt_receiver_fsm.specs.declared.states.RecvState.TheVariants as states
use Rattle.wdt_receiver_fsm.specs.Batched.{IsBatched}
use Rattle.wdt_receiver_fsm.specs.Frames.{short_fault}
use Rattle.wdt_receiver_fsm.specs.Logging.{all_logged, all_logged_by, flush_calls, flush_calls_by, log_after}
use Rattle.wdt_receiver_fsm.specs.Plan.{EndsIn, PlanRan}
use Rattle.wdt_receiver_fsm.specs.PlainReceiver.{PlainReceiver, failed, goes, lane_at, marks_at, noted}
use Rattle.wdt_receiver_fsm.specs.ReceiverHistory.{EndPast, end_of, end_of-append, landed_of}
use Rattle.wdt_receiver_fsm.specs.Turn.{Step, disk_fails, finish_plan, finishes, finishes_with, idles_lane, short_fault_at}
use Rattle.wdt_receiver_fsm.proofs.ForCallers.{ends_broken, ends_well, flush_broken, flush_well, landed_same, marks_follow, plan_ends}
use Rattle.wdt_log.specs.OpenLog.{OpenLog}
use Rattle.wdt_writer.specs.PlainWriter.{PlainWriter, marks}
use Rattle.wdt_receiver_fsm.specs.declared.idling.Idling.{Idling}
use Rattle.wdt_receiver_fsm.specs.declared.idling.Idling.TheVariants as ways
use Rattle.wdt_dock.specs.Desk.{AreBooks, plain_of}
use Rattle.wdt_receiver_fsm.specs.End.{EndView}
use Rattle.wdt_receiver_fsm.specs.Idling.{idled, idled_history, row_of_way}
use Rattle.wdt_dock.proofs.Goodness.{files_behind_are}
use Rattle.wdt_dock.proofs.Keeping.{LosesNone, Stays, loses_lane, stays_failed, stays_going, stays_lane, stays_more, stays_noted, stays_same}

-- ---- a lane that comes to the choice

pub idled_stays : (way : Idling) (r : PlainReceiver) (l : Lane) → l.0 < length r.lanes → Stays r (idled way r l)
idled_stays ways.Done r l within = stays_more r (noted r (events.Idle l ∷ [])) (idles_lane r l) (stays_noted r (events.Idle l) (λ k b. refl)) (stays_lane (noted r (events.Idle l ∷ [])) l.0 record (lane_at r l.0) { has_waited = false } within refl)
idled_stays ways.WaitWritten r l within = stays_lane r l.0 record (lane_at r l.0) { has_waited = true } within refl
idled_stays ways.Woken r l within = stays_same r

pub idled_loses : (way : Idling) (r : PlainReceiver) (l : Lane) → LosesNone r (idled way r l)
idled_loses ways.Done r l = loses_lane (noted r (events.Idle l ∷ [])) l.0 record (lane_at r l.0) { has_waited = false }
idled_loses ways.WaitWritten r l = loses_lane r l.0 record (lane_at r l.0) { has_waited = true }
idled_loses ways.Woken r l = λ here. here

pub idled_known : (way : Idling) (r : PlainReceiver) (l : Lane) → (idled way r l).known ≡ r.known
idled_known ways.Done r l = refl
idled_known ways.WaitWritten r l = refl
idled_known ways.Woken r l = refl

pub idled_behind : (way : Idling) (r : PlainReceiver) (l : Lane) → (log_after (idled way r l)).files ≡ (log_after r).files
idled_behind ways.Done r l = refl
idled_behind ways.WaitWritten r l = refl
idled_behind ways.Woken r l = refl

pub idled_some : (way : Idling) (r : PlainReceiver) (l : Lane) → (r.unlogged ≡ [] → ⊥) → (idled way r l).unlogged ≡ [] → ⊥
idled_some ways.Done r l some = some
idled_some ways.WaitWritten r l some = some
idled_some ways.Woken r l some = some

-- its flush is that of the end as it was
idled_calls : (way : Idling) (r : PlainReceiver) (l : Lane) → flush_calls (idled way r l) ≡ flush_calls r
idled_calls ways.Done r l = calls_by r.unlogged
  where
    calls_by : (bs : List Block) → flush_calls_by (idled ways.Done r l) bs ≡ flush_calls_by r bs
    calls_by [] = refl
    calls_by (b ∷ bs) = refl
idled_calls ways.WaitWritten r l = calls_by r.unlogged
  where
    calls_by : (bs : List Block) → flush_calls_by (idled ways.WaitWritten r l) bs ≡ flush_calls_by r bs
    calls_by [] = refl
    calls_by (b ∷ bs) = refl
idled_calls ways.Woken r l = refl

idled_logged : (way : Idling) (r : PlainReceiver) (l : Lane) → all_logged (idled way r l) ≡ idled way (all_logged r) l
idled_logged ways.Done r l = logged_by r.unlogged
  where
    logged_by : (bs : List Block) → all_logged_by (idled ways.Done r l) bs ≡ idled ways.Done (all_logged_by r bs) l
    logged_by [] = refl
    logged_by (b ∷ bs) = refl
idled_logged ways.WaitWritten r l = logged_by r.unlogged
  where
    logged_by : (bs : List Block) → all_logged_by (idled ways.WaitWritten r l) bs ≡ idled ways.WaitWritten (all_logged_by r bs) l
    logged_by [] = refl
    logged_by (b ∷ bs) = refl
idled_logged ways.Woken r l = refl

-- ---- what is there at the finish

history_by : (r : PlainReceiver) (bs : List Block) → (all_logged_by r bs).history ≡ r.history
history_by r [] = refl
history_by r (b ∷ bs) = refl

opening_by : (r : PlainReceiver) (bs : List Block) → (all_logged_by r bs).opening ≡ r.opening
opening_by r [] = refl
opening_by r (b ∷ bs) = refl

pub idled_entries : (way : Idling) (r : PlainReceiver) (l : Lane) → (idled way r l).history ≡ idled_history way r.history l
idled_entries ways.Done r l = refl
idled_entries ways.WaitWritten r l = refl
idled_entries ways.Woken r l = refl

idled_opening : (way : Idling) (r : PlainReceiver) (l : Lane) → (idled way r l).opening ≡ r.opening
idled_opening ways.Done r l = refl
idled_opening ways.WaitWritten r l = refl
idled_opening ways.Woken r l = refl

idled_sized : (way : Idling) (g : List RecvEvent) (l : Lane) → (end_of (idled_history way g l)).sized ≡ (end_of g).sized
idled_sized ways.Done g l = ap (λ (p : EndPast). p.sized) (end_of-append g (events.Idle l ∷ []))
idled_sized ways.WaitWritten g l = refl
idled_sized ways.Woken g l = refl

idled_landed : (way : Idling) (g : List RecvEvent) (l : Lane) → landed_of (idled_history way g l) ≡ landed_of g
idled_landed ways.Done g l = landed_same g (events.Idle l) refl
idled_landed ways.WaitWritten g l = refl
idled_landed ways.Woken g l = refl

map_length : {A B : Type 0} (f : A → B) (xs : List A) → length (map f xs) ≡ length xs
map_length f [] = refl
map_length f (x ∷ xs) = ap (λ (n : ℕ). suc n) (map_length f xs)

-- the marks of what landed are those of the files that the writer will have logged
pub marks_are : (e : EndView) (log : OpenLog) (w : PlainWriter) → AreBooks log w → IsBatched (plain_of e log w) → marks_at (plain_of e log w) ≡ marks w
marks_are e log w books batched =
    marks_follow (plain_of e log w) batched record { known_files = books.known; added = λ none. some w.files (sym books.adds ∙ ap (λ es. all_added written_version log.meaning.files es) books.pending ∙ none) }
    ∙ ap (map marked_of) (files_behind_are e log w books)
  where
    some : {A : Type 0} (x : A) → Some x ≡ None → ⊥
    some x e = cc

module _ (e : EndView) (log : OpenLog) (w : PlainWriter) (way : Idling) (l : Lane) where
  abbrev before : PlainReceiver
  before = plain_of e log w

  abbrev after : PlainReceiver
  after = all_logged (idled way before l)

  entries_are : after.history ≡ idled_history way e.history l
  entries_are = history_by (idled way before l) (idled way before l).unlogged ∙ idled_entries way before l

  there : AreBooks log w → IsBatched before → marks_at after ≡ marks w
  there books batched =
      ap (λ (g : List RecvEvent). marks_of after.opening (landed_of g)) entries_are
      ∙ ap (λ (bs : List Block). marks_of after.opening bs) (idled_landed way e.history l)
      ∙ ap (λ (fs : List NamedFile). marks_of fs (landed_of e.history)) (opening_by (idled way before l) (idled way before l).unlogged ∙ idled_opening way before l)
      ∙ marks_are e log w books batched

  sized_is : (end_of after.history).sized ≡ (end_of e.history).sized
  sized_is = ap (λ (g : List RecvEvent). (end_of g).sized) entries_are ∙ idled_sized way e.history l

  -- what is found wrong at the finish
  pub short_is : AreBooks log w → IsBatched before → (sized : Option (ℕ × ℕ)) (files bytes : ℕ) (files2 : List NamedFile) → sized ≡ (end_of e.history).sized → files ≡ length files2 → bytes ≡ bytes_in (map marked_of files2) → files2 ≡ w.files
      → short_fault sized files bytes ≡ short_fault_at after
  short_is books batched sized files bytes files2 one two three same =
      ap (λ (o : Option (ℕ × ℕ)). short_fault o files bytes) (one ∙ sym sized_is)
      ∙ ap (λ (n : ℕ). short_fault (end_of after.history).sized n bytes) (two ∙ ap (λ (fs : List NamedFile). length fs) same ∙ sym (map_length marked_of w.files) ∙ ap (λ (ms : List Marked). files_in ms) (sym (there books batched)))
      ∙ ap (λ (n : ℕ). short_fault (end_of after.history).sized (files_in (marks_at after)) n) (three ∙ ap (λ (fs : List NamedFile). bytes_in (map marked_of fs)) same ∙ ap (λ (ms : List Marked). bytes_in ms) (sym (there books batched)))

  -- ---- the finish as the plan has it

  module _ (now : PlainReceiver) (logged : now ≡ all_logged before) (short : Option PeerKind) (found : short ≡ short_fault_at after) (x : Step) (said : finishes_with e.history (idled way now l) l (row_of_way way) short ≡ x) where
    stood : x ≡ finishes_with e.history after l (row_of_way way) (short_fault_at after)
    stood =
        sym said
        ∙ ap (λ (t : PlainReceiver). finishes_with e.history (idled way t l) l (row_of_way way) short) logged
        ∙ ap (λ (t : PlainReceiver). finishes_with e.history t l (row_of_way way) short) (sym (idled_logged way before l))
        ∙ ap (λ (o : Option PeerKind). finishes_with e.history after l (row_of_way way) o) found

    pub finish_turns : (Fails : Type 0) → EndsIn Fails (finish_plan e.history (idled way before l) l (row_of_way way)) x
    finish_turns Fails = ends_well (idled way before l) (disk_fails (idled way before l) l (row_of_way way)) (finishes e.history l (row_of_way way)) Fails x stood

    pub finish_ran : (a b : Option Drive) → Calls (flush_calls before) true a b → PlanRan (finish_plan e.history (idled way before l) l (row_of_way way)) x a b
    finish_ran a b called =
        flush_well (idled way before l) (disk_fails (idled way before l) l (row_of_way way)) (finishes e.history l (row_of_way way)) x a b b (subst (λ (f : Drive → Bool × Drive). Calls f true a b) (sym (idled_calls way before l)) called)
        (plan_ends x (finishes_with e.history after l (row_of_way way) (short_fault_at after)) b stood)

  -- a call of the flush failed
  module _ (x : Step) (said : disk_fails (idled way before l) l (row_of_way way) ≡ x) where
    pub lost_turns : (Fails : Type 0) → Fails → (w.unlogged ≡ [] → ⊥) → EndsIn Fails (finish_plan e.history (idled way before l) l (row_of_way way)) x
    lost_turns Fails why some = ends_broken (idled way before l) (disk_fails (idled way before l) l (row_of_way way)) (finishes e.history l (row_of_way way)) Fails x why (idled_some way before l some) (sym said)

    pub lost_ran : (a b : Option Drive) → Calls (flush_calls before) false a b → PlanRan (finish_plan e.history (idled way before l) l (row_of_way way)) x a b
    lost_ran a b called =
        subst (λ (y : Step). PlanRan (finish_plan e.history (idled way before l) l (row_of_way way)) y a b) said
        (flush_broken (idled way before l) (disk_fails (idled way before l) l (row_of_way way)) (finishes e.history l (row_of_way way)) a b (subst (λ (f : Drive → Bool × Drive). Calls f false a b) (sym (idled_calls way before l)) called))

-- ---- what the finish leaves

pub finish_stays : (way : Idling) (r : PlainReceiver) (l : Lane) (short : Option PeerKind) → l.0 < length r.lanes → Stays r (finishes_with r.history (idled way r l) l (row_of_way way) short).1
finish_stays way r l None within =
    let t = idled way r l in
    let one = idled_stays way r l within in
    let here = subst (λ (n : ℕ). l.0 < n) (sym one.lanes) within in
    stays_more r t (goes (noted t (events.Finish ∷ [])) l.0 states.SendDone) one (stays_more t (noted t (events.Finish ∷ [])) (goes (noted t (events.Finish ∷ [])) l.0 states.SendDone) (stays_noted t events.Finish (λ k b. refl)) (stays_going (noted t (events.Finish ∷ [])) l.0 states.SendDone here))
finish_stays way r l (Some kind) within = go way
  where
    stood : (t : PlainReceiver) → Stays r t → Stays r (goes (failed (noted t (events.Peer l kind ∷ [])) (answers.Peer kind)) l.0 states.SendAbort)
    stood t one =
        let here = subst (λ (n : ℕ). l.0 < n) (sym one.lanes) within in
        let told = noted t (events.Peer l kind ∷ []) in
        stays_more r t _ one (stays_more t told _ (stays_noted t (events.Peer l kind) (λ k b. refl)) (stays_more told (failed told (answers.Peer kind)) _ (stays_failed told (answers.Peer kind)) (stays_going (failed told (answers.Peer kind)) l.0 states.SendAbort here)))

    kept : (t : PlainReceiver) → Stays r t → Stays r record t { history = r.history }
    kept t one = record { lanes = one.lanes; begun = λ k. refl; left = one.left }

    go : (v : Idling) → Stays r (finishes_with r.history (idled v r l) l (row_of_way v) (Some kind)).1
    go ways.Done = stood record (idled ways.Done r l) { history = r.history } (kept (idled ways.Done r l) (idled_stays ways.Done r l within))
    go ways.WaitWritten = stood record (idled ways.WaitWritten r l) { history = r.history } (kept (idled ways.WaitWritten r l) (idled_stays ways.WaitWritten r l within))
    go ways.Woken = stood record (idled ways.Woken r l) { history = r.history } (kept (idled ways.Woken r l) (idled_stays ways.Woken r l within))

pub finish_loses : (way : Idling) (r : PlainReceiver) (l : Lane) (short : Option PeerKind) → LosesNone r (finishes_with r.history (idled way r l) l (row_of_way way) short).1
finish_loses way r l None = λ here. loses_lane (noted (idled way r l) (events.Finish ∷ [])) l.0 record (lane_at (idled way r l) l.0) { state = states.SendDone } (idled_loses way r l here)
finish_loses way r l (Some kind) = go way
  where
    go : (v : Idling) → LosesNone r (finishes_with r.history (idled v r l) l (row_of_way v) (Some kind)).1
    go ways.Done = λ here lost. lost
    go ways.WaitWritten = λ here lost. lost
    go ways.Woken = λ here lost. lost

pub lost_stays : (way : Idling) (r : PlainReceiver) (l : Lane) → l.0 < length r.lanes → Stays r (disk_fails (idled way r l) l (row_of_way way)).1
lost_stays way r l within = go way (idled_stays way r l within)
  where
    stood : (t : PlainReceiver) → Stays r t → Stays r (goes (failed t answers.Disk) l.0 states.SendAbort)
    stood t one = stays_more r t _ one (stays_more t (failed t answers.Disk) _ (stays_failed t answers.Disk) (stays_going (failed t answers.Disk) l.0 states.SendAbort (subst (λ (n : ℕ). l.0 < n) (sym one.lanes) within)))

    go : (v : Idling) → Stays r (idled v r l) → Stays r (disk_fails (idled v r l) l (row_of_way v)).1
    go ways.Done one = stood (idled ways.Done r l) one
    go ways.WaitWritten one = stood (idled ways.WaitWritten r l) one
    go ways.Woken one = stood (idled ways.Woken r l) one

pub lost_is : (way : Idling) (r : PlainReceiver) (l : Lane) → (disk_fails (idled way r l) l (row_of_way way)).1.answer ≡ answers.Disk
lost_is ways.Done r l = refl
lost_is ways.WaitWritten r l = refl
lost_is ways.Woken r l = refl
