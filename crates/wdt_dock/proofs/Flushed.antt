-- What a flush leaves of a receiver's end.
use Rattle.std.proofs.Common.{◌≡◌, inl, Bool, true, false, List, [], ◌∷◌, length, Option, Some, None, refl, sym, ap, ◌∙◌, subst, arith}
use Rattle.std.specs.Prelude.{◌≤◌, filter}
use Rattle.wdt_units.specs.declared.blocks.Block.{Block}
use Rattle.wdt_units.specs.declared.limits.TheConstants.{MAX_BLOCKS}
use Rattle.wdt_sender_fsm.specs.declared.answers.EndAnswer.TheVariants as answers
use Rattle.wdt_sender_fsm.specs.Rules.{is_failure}
use Rattle.wdt_receiver_fsm.specs.declared.states.RecvLane.{RecvLane}
use Rattle.wdt_receiver_fsm.specs.declared.states.RecvState.{RecvState}
use Rattle.wdt_receiver_fsm.specs.declared.states.RecvState.TheVariants as states
use Rattle.wdt_receiver_fsm.specs.Batched.{IsBatched, is_filled}
use Rattle.wdt_receiver_fsm.specs.Logging.{all_logged, all_logged_by}
use Rattle.wdt_receiver_fsm.specs.PlainReceiver.{PlainReceiver, failed, has_finish, lane_at, past_at}
use Rattle.wdt_receiver_fsm.specs.Receiver.{Fares, IsReceiver}
use Rattle.wdt_receiver_fsm.specs.ReceiverHistory.{EndPast, RecvPast, end_of}
use Rattle.wdt_receiver_fsm.specs.Batched.{Continues}
use Rattle.wdt_units.specs.Tree.{File}
use Rattle.wdt_depot.specs.Moments.{IfTold, Told}
use Rattle.wdt_depot.specs.State.{State}
use Rattle.wdt_logfmt.specs.declared.entry.LogEntry.{LogEntry}
use Rattle.wdt_logfmt.specs.Adding.{all_added}
use Rattle.wdt_logfmt.specs.Spelling.{written_version}
use Rattle.wdt_logfmt.specs.View.{NamedFile}
use Rattle.wdt_good.specs.Logged.{AllFit, GoodSince}
use Rattle.wdt_good.proofs.ForCallers.{last_fits}
use Rattle.wdt_log.specs.OpenLog.{OpenLog, RestsIn}
use Rattle.wdt_writer.specs.PlainWriter.{PlainWriter}
use Rattle.wdt_dock.specs.Desk.{AreBooks, plain_of}
use Rattle.wdt_dock.specs.Dock.{IsDock}
use Rattle.wdt_receiver_fsm.specs.End.{EndView}
use Rattle.wdt_dock.specs.DockView.{HasLostDisk}
use Rattle.wdt_dock.proofs.Choices.{desk_after, kept_plain, logged_stays, lost_answer, same_stays}
use Rattle.wdt_receiver_fsm.specs.Answered.{IsAnswered}
use Rattle.wdt_receiver_fsm.proofs.ForCallers.{logged_answered, lost_answered}
use Rattle.wdt_dock.proofs.Keeping.{Stays, stays_failed}

-- a lane stands as its state says on an end that has failed, too
fares_failed : (b : Bool) (state : RecvState) (lane : RecvLane) (past : RecvPast) (end : EndPast) → Fares b state lane past end → Fares true state lane past end
fares_failed b states.Listen lane past end fares = fares
fares_failed b states.ReadSettings lane past end fares = fares
fares_failed b states.SendLocalCheckpoint lane past end fares = fares
fares_failed b states.SendFileChunks lane past end fares = fares
fares_failed b states.ReadNextCmd lane past end fares = fares
fares_failed b states.TakeBlock lane past end fares = fares
fares_failed b states.SendWait lane past end fares = fares
fares_failed b states.WaitForFinish lane past end fares = fares
fares_failed b states.SendGlobalCheckpoint lane past end fares = fares
fares_failed b states.SendDone lane past end fares = fares
fares_failed b states.ReadAck lane past end fares = fares
fares_failed b states.SendAbort lane past end fares = record { goes_on = fares.goes_on; failed = refl }
fares_failed b states.Ended lane past end fares = inl refl

-- the disk fails
pub lost_receiver : (r : PlainReceiver) → IsReceiver r → IsReceiver (failed r answers.Disk)
lost_receiver r is = record {
  few = is.few;
  legal = is.legal;
  lanes = λ l within. fares_failed (is_failure r.answer) (lane_at r l).state (lane_at r l) (past_at r l) (end_of r.history) (is.lanes l within);
  faultless = λ sound. absurd (cc);
  finished = is.finished;
}

pub lost_batched : (r : PlainReceiver) → IsBatched r → IsBatched (failed r answers.Disk)
lost_batched r is = record { batch = is.batch; adds_up = is.adds_up; below = λ sound. absurd (cc) }

-- all that landed is logged
pub logged_receiver : (r : PlainReceiver) → IsReceiver r → IsReceiver (all_logged r)
logged_receiver r is = go r.unlogged
  where
    go : (bs : List Block) → IsReceiver (all_logged_by r bs)
    go [] = is
    go (b ∷ bs) = record { few = is.few; legal = is.legal; lanes = is.lanes; faultless = is.faultless; finished = λ has. refl }

-- and nothing is left
pub none_left : (r : PlainReceiver) → (all_logged r).unlogged ≡ []
none_left r = go r.unlogged refl
  where
    go : (bs : List Block) → r.unlogged ≡ bs → (all_logged_by r bs).unlogged ≡ []
    go [] is = is
    go (b ∷ bs) is = refl

-- a receiver that is the same is one
pub same_receiver : (r t : PlainReceiver) → t ≡ r → IsReceiver r → IsReceiver t
same_receiver r t is = subst IsReceiver (sym is)

pub same_batched : (r t : PlainReceiver) → t ≡ r → IsBatched r → IsBatched t
same_batched r t is = subst IsBatched (sym is)

-- what landed continues what the log says
pub continues : (log : OpenLog) (w : PlainWriter) → AreBooks log w → Continues w.known log.meaning.files w.unlogged
continues log w books = record { known_files = books.known; added = λ none. some_none w.files (sym (ap (λ (es : List LogEntry). all_added written_version log.meaning.files es) (sym books.pending) ∙ books.adds) ∙ none) }
  where
    some_none : (fs : List NamedFile) → Some fs ≡ None → ⊥
    some_none fs e = cc

-- each image that is good at each moment since is good now
pub fits_after : (T : List File) (a b : Option Told) → IfTold (λ t. AllFit T t.now) a → GoodSince T [] a b → IfTold (λ t. AllFit T t.now) b
fits_after T None None fit since = tt
fits_after T None (Some v) fit since = absurd since
fits_after T (Some u) None fit since = absurd since
fits_after T (Some u) (Some v) fit since = last_fits T [] (Some u) (Some v) fit since

-- the receiver, its log and its writer behind a flush
module _ (e : EndView) (log log2 : OpenLog) (w w2 : PlainWriter) (s s2 : State) (dock : IsDock e log w s) (plain : plain_of e log2 w2 ≡ all_logged (plain_of e log w)) where
  pub logged_dock : AreBooks log2 w2 → w2.parts ≡ w.parts → s2.spots ≡ [] → log2.shut ≡ false → (RestsIn log s → RestsIn log2 s2) → IsBatched (all_logged (plain_of e log w)) → IsDock e log2 w2 s2
  logged_dock books parts spots unshut rests batched = record {
    desk = desk_after e e log log2 w w2 dock.desk books parts (subst (λ (t : PlainReceiver). Stays (plain_of e log w) t) (sym plain) (logged_stays (plain_of e log w)));
    rest = record { spots = spots; log_open = λ here. unshut; rests = λ here. rests (dock.rest.rests here) };
    receiver = subst IsReceiver (sym plain) (logged_receiver (plain_of e log w) dock.receiver);
    batched = subst IsBatched (sym plain) batched;
    few = λ here. omega (arith, ap (λ (bs : List Block). length (filter is_filled bs)) (ap (λ (r : PlainReceiver). r.unlogged) plain ∙ none_left (plain_of e log w)));
    answered = subst IsAnswered (sym plain) (logged_answered (plain_of e log w) dock.answered);
  }

  pub same_logged : Stays (plain_of e log w) (plain_of e log2 w2)
  same_logged = subst (λ (t : PlainReceiver). Stays (plain_of e log w) t) (sym plain) (logged_stays (plain_of e log w))

not_finished : (r : PlainReceiver) → IsReceiver r → (r.unlogged ≡ [] → ⊥) → has_finish r ≡ false
not_finished r is some = go (has_finish r) refl
  where
    go : (b : Bool) → has_finish r ≡ b → b ≡ false
    go true come = absurd (some (is.finished come))
    go false come = refl

-- the same behind one that failed: the disk is lost, or memory ran out
module _ (e : EndView) (log log2 : OpenLog) (w w2 : PlainWriter) (s s2 : State) (dock : IsDock e log w s) (meaning : log2.meaning ≡ log.meaning) (kept : w2 ≡ w) (books : AreBooks log2 w2) (spots : s2.spots ≡ []) where
  pub lost_dock : (f : EndView) → f ≡ record e { answer = answers.Disk } → (w.unlogged ≡ [] → ⊥) → IsDock f log2 w2 s2
  lost_dock f is some =
      let plain : plain_of f log2 w2 ≡ failed (plain_of e log w) answers.Disk =
      ap (λ (v : EndView). plain_of v log2 w2) is ∙ ap (λ (r : PlainReceiver). failed r answers.Disk) (kept_plain e log log2 w w2 meaning kept) in
      let lost : HasLostDisk f.answer = lost_answer f.answer (ap (λ (v : EndView). v.answer) is) in
      record {
        desk = desk_after e f log log2 w w2 dock.desk books (ap (λ (x : PlainWriter). x.parts) kept) (subst (λ (t : PlainReceiver). Stays (plain_of e log w) t) (sym plain) (stays_failed (plain_of e log w) answers.Disk));
        rest = record { spots = spots; log_open = λ here. absurd (here lost); rests = λ here. absurd (here lost) };
        receiver = subst IsReceiver (sym plain) (lost_receiver (plain_of e log w) dock.receiver);
        batched = subst IsBatched (sym plain) (lost_batched (plain_of e log w) dock.batched);
        few = λ here. absurd (here lost);
        answered = subst IsAnswered (sym plain) (lost_answered (plain_of e log w) (not_finished (plain_of e log w) dock.receiver some));
      }

  pub kept_dock : log2.shut ≡ false → (RestsIn log s → RestsIn log2 s2) → IsDock e log2 w2 s2
  kept_dock unshut rests =
      let plain = kept_plain e log log2 w w2 meaning kept in
      record {
        desk = desk_after e e log log2 w w2 dock.desk books (ap (λ (x : PlainWriter). x.parts) kept) (same_stays (plain_of e log w) (plain_of e log2 w2) plain);
        rest = record { spots = spots; log_open = λ here. unshut; rests = λ here. rests (dock.rest.rests here) };
        receiver = subst IsReceiver (sym plain) dock.receiver;
        batched = subst IsBatched (sym plain) dock.batched;
        few = λ here. subst (λ (x : PlainWriter). length (filter is_filled x.unlogged) ≤ MAX_BLOCKS) (sym kept) (dock.few here);
        answered = subst IsAnswered (sym plain) dock.answered;
      }
