-- A row that makes no call on the disk: what stands behind it.
use Rattle.std.proofs.Common.{◌≡◌, ◌<◌, Bool, true, false, List, [], length, Option, Some, None, Result, Ok, Err, refl, sym, ap, subst, arith}
use Rattle.std.specs.Prelude.{IfOk, OnErr, if◌then◌else◌}
use Rattle.wdt_units.specs.Counts.{Rises}
use Rattle.wdt_units.specs.Tree.{File}
use Rattle.wdt_units.specs.declared.numbers.Lane.{Lane}
use Rattle.wdt_depot.specs.Moments.{IfTold, Told}
use Rattle.wdt_depot.specs.Programs.{Drive, drive_of}
use Rattle.wdt_depot.specs.State.{Counts, State}
use Rattle.wdt_depot.proofs.ForCallers.{since_now}
use Rattle.wdt_good.specs.Logged.{AllGood, GoodSince}
use Rattle.wdt_log.specs.OpenLog.{OpenLog}
use Rattle.wdt_writer.specs.PlainWriter.{PlainWriter}
use Rattle.wdt_sender_fsm.specs.declared.answers.EndAnswer.{EndAnswer}
use Rattle.wdt_sender_fsm.specs.declared.answers.EndAnswer.TheVariants as answers
use Rattle.wdt_sender_fsm.specs.Rules.{by_rules, by_voice, is_failure, judged, standing, starved}
use Rattle.wdt_receiver_fsm.specs.declared.acts.RecvAct.{RecvAct}
use Rattle.wdt_receiver_fsm.specs.Plan.{EndsIn, Plan, PlanRan, ends}
use Rattle.wdt_receiver_fsm.specs.PlainReceiver.{PlainReceiver, failed}
use Rattle.wdt_receiver_fsm.specs.Rows.{Row, Starved}
use Rattle.wdt_receiver_fsm.specs.Turn.{Put, Step, after_starving, drops, leaves, rests, row_at, ruled, tells_failure, turn_plan, turn_row, turned}
use Rattle.wdt_dock.specs.Desk.{IsAtRest, IsDesk, plain_of}
use Rattle.wdt_dock.specs.DockGood.{DockGood}
use Rattle.wdt_dock.specs.DockView.{HasLostDisk, LosesDisk, TurnRan, Turns}
use Rattle.wdt_receiver_fsm.specs.End.{Books, EndView, IsSameEnd}
use Rattle.wdt_dock.specs.Serving.{is_of_files}
use Rattle.wdt_dock.proofs.Choices.{desk_after}
use Rattle.wdt_dock.proofs.Goodness.{reads_stay}
use Rattle.wdt_dock.proofs.Keeping.{LosesNone, not_lost}
use Rattle.wdt_dock.proofs.Served.{Keeps, drop_loses, keeps_failed, keeps_giving, keeps_more, keeps_same, served_keeps}

-- begun blocks and lanes stay, and the disk is lost exactly where it was
pub record IsQuiet (r t : PlainReceiver) : Type 0 where
  pub keeps : Keeps r t
  pub still : HasLostDisk r.answer → HasLostDisk t.answer

pub quiet_sound : (r t : PlainReceiver) → is_failure r.answer ≡ false → Keeps r t → IsQuiet r t
quiet_sound r t sound keeps = record { keeps = keeps; still = λ lost. absurd (not_lost r.answer sound lost) }

pub quiet_same : (r t : PlainReceiver) → t ≡ r → IsQuiet r t
quiet_same r t is = subst (λ (x : PlainReceiver). IsQuiet r x) (sym is) (record { keeps = keeps_same r; still = λ lost. lost })

-- the same end, with other room
pub plain_same : (e f : EndView) (log : OpenLog) (w : PlainWriter) → IsSameEnd e f → plain_of f log w ≡ plain_of e log w
plain_same e f log w same = λ i. record {
  opening = same.opening i;
  known = w.known;
  log = log.meaning;
  unlogged = w.unlogged;
  batch = same.batch i;
  lanes = same.lanes i;
  history = same.history i;
  answer = same.answer i;
}

-- ---- said of what is told

pub told_more : (P Q : Told → Type 0) (a : Option Told) → ((t : Told) → P t → Q t) → IfTold P a → IfTold Q a
told_more P Q None f h = tt
told_more P Q (Some t) f h = f t h

pub told_all : (P : Told → Type 0) (a : Option Told) → ((t : Told) → P t) → IfTold P a
told_all P None f = tt
told_all P (Some t) f = f t

-- ---- the plan

ran_ends : (step : Step) (a : Option Drive) → PlanRan (ends step) step a a
ran_ends step None = refl
ran_ends step (Some p) = refl

-- what was done is the plan's, where it comes to one end
pub quiet_turns : (E : Type 0) (plan : Plan Step) (r : Result RecvAct E) (t : PlainReceiver) (s : State) → IfOk r (λ act. plan ≡ ends (act, t)) → Turns plan r t s s
quiet_turns E plan (Ok act) t s is = subst (λ (p : Plan Step). EndsIn (Rises s.faults s.faults) p (act, t)) (sym is) refl
quiet_turns E plan (Err e) t s is = tt

pub quiet_ran : (E : Type 0) (plan : Plan Step) (r : Result RecvAct E) (t : PlainReceiver) (s : State) → IfOk r (λ act. plan ≡ ends (act, t)) → TurnRan plan r t s s
quiet_ran E plan (Ok act) t s is = λ quiet. subst (λ (p : Plan Step). PlanRan p (act, t) (drive_of s) (drive_of s)) (sym is) (ran_ends (act, t) (drive_of s))
quiet_ran E plan (Err e) t s is = tt

-- ---- what stands behind it

module _ (e f : EndView) (log : OpenLog) (w : PlainWriter) (s : State) (quiet : IsQuiet (plain_of e log w) (plain_of f log w)) where
  pub quiet_desk : IsDesk e log w → IsDesk f log w
  quiet_desk desk = desk_after e f log log w w desk desk.books refl quiet.keeps.stays

  pub quiet_rest : IsAtRest e log s → IsAtRest f log s
  quiet_rest rest = record {
    spots = rest.spots;
    log_open = λ here. rest.log_open (λ lost. here (quiet.still lost));
    rests = λ here. rest.rests (λ lost. here (quiet.still lost));
  }

  pub quiet_good : (T : List File) → IfTold (λ t. DockGood T (plain_of e log w) t.now) s.told → IfTold (λ t. DockGood T (plain_of f log w) t.now) s.told
  quiet_good T good = told_more (λ t. DockGood T (plain_of e log w) t.now) (λ t. DockGood T (plain_of f log w) t.now) s.told (λ t is. record {
    fit = is.fit;
    reads = λ here. reads_stay T (plain_of e log w) (plain_of f log w) t.now quiet.keeps.stays refl refl (is.reads (λ lost. here (quiet.still lost)));
  }) good

  pub quiet_counts : Counts (LosesDisk e.answer f.answer) s s
  quiet_counts = record {
    faults = omega arith;
    own = omega arith;
    own_then = refl;
    slips = omega arith;
    rose = λ lost. absurd (quiet.keeps.loses lost.0 lost.1);
    cause = λ lost. absurd (quiet.keeps.loses lost.0 lost.1);
    struck = λ struck. refl;
    fine = λ fine. (refl, refl);
  }

-- no disk is lost
pub counts_still : (F : Type 0) (s : State) → (F → ⊥) → Counts F s s
counts_still F s none = record {
  faults = omega arith;
  own = omega arith;
  own_then = refl;
  slips = omega arith;
  rose = λ lost. absurd (none lost);
  cause = λ lost. absurd (none lost);
  struck = λ struck. refl;
  fine = λ fine. (refl, refl);
}

pub quiet_images : (T : List File) (s : State) → GoodSince T [] s.told s.told
quiet_images T s = since_now (λ d. IfTold (λ t. AllGood T [] t.now d) s.told) s.told

pub quiet_slips : (P : Told → Type 0) (s : State) → IfTold (λ t. P t → s.slips ≡ s.slips) s.told
quiet_slips P s = told_all (λ t. P t → s.slips ≡ s.slips) s.told (λ t p. refl)

-- ---- the rows that concern no files

pub at_books : (E : Type 0) (r : Result RecvAct E) (P : Books → RecvAct → Type 0) (books : Books) → IfOk r (λ act. (b : Books) → P b act) → IfOk r (P books)
at_books E (Ok act) P books is = is books
at_books E (Err e) P books is = tt

pub err_same : (E : Type 0) (r : Result RecvAct E) (e f : EndView) (log : OpenLog) (w : PlainWriter) → OnErr r (IsSameEnd e f) → OnErr r (plain_of f log w ≡ plain_of e log w)
err_same E (Ok act) e f log w same = tt
err_same E (Err x) e f log w same = plain_same e f log w same

pub served_quiet : (E : Type 0) (r : Result RecvAct E) (e f : EndView) (log : OpenLog) (w : PlainWriter) (l : Lane) (row : Row) → l.0 < length e.lanes → is_failure e.answer ≡ false → is_of_files row ≡ false
    → IfOk r (λ act. turn_row (plain_of e log w) l row ≡ ends (act, plain_of f log w)) → OnErr r (IsSameEnd e f) → IsQuiet (plain_of e log w) (plain_of f log w)
served_quiet E (Ok act) e f log w l row within sound own is same =
    quiet_sound (plain_of e log w) (plain_of f log w) sound (served_keeps (plain_of e log w) l row (act, plain_of f log w) within own is)
served_quiet E (Err x) e f log w l row within sound own is same = quiet_same (plain_of e log w) (plain_of f log w) (plain_same e f log w same)

-- ---- the rules that come before the table

judged_failed : (a : EndAnswer) (done over : Bool) → is_failure a ≡ true → judged a done over ≡ a
judged_failed a done over failed = ap (λ (c : Bool). if c then a else standing done over) failed

given_answer : (r : PlainReceiver) (l : Lane) (mute : Bool) → is_failure r.answer ≡ true → (by_voice mute (leaves r l) (tells_failure r l)).1.answer ≡ r.answer
given_answer r l true failed = judged_failed r.answer _ _ failed
given_answer r l false failed = judged_failed r.answer _ _ failed

-- on a failed end a lane gives up
pub given_quiet : (r : PlainReceiver) (l : Lane) (mute : Bool) (step : Step) → l.0 < length r.lanes → is_failure r.answer ≡ true → by_voice mute (leaves r l) (tells_failure r l) ≡ step → IsQuiet r step.1
given_quiet r l mute step within failed is =
    subst (λ (x : Step). IsQuiet r x.1) is (record { keeps = keeps_giving r l mute within; still = λ lost. subst HasLostDisk (sym (given_answer r l mute failed)) lost })

still_starved : (a : EndAnswer) → HasLostDisk a → HasLostDisk (starved a)
still_starved answers.Disk lost = lost
still_starved answers.Going lost = absurd lost
still_starved answers.Done lost = absurd lost
still_starved answers.Link lost = absurd lost
still_starved answers.Source lost = absurd lost
still_starved (answers.Peer kind) lost = absurd lost
still_starved (answers.Aborted code) lost = absurd lost
still_starved (answers.Refused kind) lost = absurd lost
still_starved answers.NoMemory lost = absurd lost

not_starved : (a : EndAnswer) → (HasLostDisk a → ⊥) → HasLostDisk (starved a) → ⊥
not_starved answers.Disk here lost = here lost
not_starved answers.Going here lost = lost
not_starved answers.Done here lost = lost
not_starved answers.Link here lost = lost
not_starved answers.Source here lost = lost
not_starved (answers.Peer kind) here lost = lost
not_starved (answers.Aborted code) here lost = lost
not_starved (answers.Refused kind) here lost = lost
not_starved answers.NoMemory here lost = lost

-- memory ran out
pub starved_quiet : (r : PlainReceiver) (l : Lane) (mute : Bool) (step : Step) → l.0 < length r.lanes → ruled (failed r (starved r.answer)) l (Starved mute) ≡ ends step → IsQuiet r step.1
starved_quiet r l mute step within is = go (is_failure (starved r.answer)) refl is
  where
    first : Keeps r (failed r (starved r.answer))
    first = keeps_failed r (starved r.answer) (not_starved r.answer)

    same_step : (x y : Step) → ends x ≡ ends y → x ≡ y
    same_step x y e = cc

    go : (c : Bool) → is_failure (starved r.answer) ≡ c
        → by_rules false false c (ends (rests (failed r (starved r.answer)))) (ends (leaves (failed r (starved r.answer)) l)) (ends (by_voice mute (leaves (failed r (starved r.answer)) l) (tells_failure (failed r (starved r.answer)) l)))
        (ends (rests (failed r (starved r.answer)))) ≡ ends step → IsQuiet r step.1
    go true fails said =
        let x : Step = by_voice mute (leaves (failed r (starved r.answer)) l) (tells_failure (failed r (starved r.answer)) l) in
        let q = given_quiet (failed r (starved r.answer)) l mute step within fails (same_step x step said) in
        record { keeps = keeps_more r (failed r (starved r.answer)) step.1 first q.keeps; still = λ lost. q.still (still_starved r.answer lost) }
    go false fails said =
        let x : Step = rests (failed r (starved r.answer)) in
        subst (λ (y : Step). IsQuiet r y.1) (same_step x step said) (record { keeps = first; still = still_starved r.answer })

-- ---- a connection is lost

pub err_at : (E : Type 0) (r : Result RecvAct E) (P : OpenLog → Type 0) (log : OpenLog) → OnErr r ((x : OpenLog) → P x) → OnErr r (P log)
err_at E (Ok act) P log is = tt
err_at E (Err e) P log is = is log

pub ok_at : (E : Type 0) (r : Result RecvAct E) (P : OpenLog → RecvAct → Type 0) (log : OpenLog) → IfOk r (λ act. (x : OpenLog) → P x act) → IfOk r (P log)
ok_at E (Ok act) P log is = is log
ok_at E (Err e) P log is = tt

pub dropped_loses : (E : Type 0) (r : Result RecvAct E) (a b : PlainReceiver) (l : Lane) → l.0 < length a.lanes → IfOk r (λ act. drops a l ≡ (act, b)) → OnErr r (b ≡ a) → LosesNone a b
dropped_loses E (Ok act) a b l within is same = subst (λ (x : Step). LosesNone a x.1) is (drop_loses a l within)
dropped_loses E (Err e) a b l within is same = subst (λ (x : PlainReceiver). LosesNone a x) (sym same) (λ here. here)

-- ---- the row that fits

pub turn_is : (r : PlainReceiver) (l : Lane) (put : Put) (row : Row) → row_at r l put ≡ row → turn_plan r l put ≡ ruled (after_starving r row) l row
unfolding turn_plan
turn_is r l put row is = ap (turned r l) is
