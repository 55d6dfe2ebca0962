-- What stands behind a row, from the receiver that its plan says.
use Rattle.std.proofs.Common.{◌≡◌, ℕ, ◌<◌, List, [], ◌∷◌, length, Option, Ok, Err, refl, sym, ap, ◌∙◌, subst}
use Rattle.std.specs.Prelude.{IsErrOf}
use Rattle.wdt_units.specs.declared.blocks.Block.{Block}
use Rattle.wdt_depot.specs.State.{Counts, State}
use Rattle.wdt_logfmt.specs.View.{Meaning}
use Rattle.wdt_sender_fsm.specs.declared.answers.EndAnswer.{EndAnswer}
use Rattle.wdt_sender_fsm.specs.declared.answers.EndAnswer.TheVariants as answers
use Rattle.wdt_log.specs.declared.fail.LogFail.{LogFail}
use Rattle.wdt_log.specs.declared.fail.LogFail.TheVariants.{Disk as DiskFail, NoMemory}
use Rattle.wdt_log.specs.OpenLog.{OpenLog}
use Rattle.wdt_writer.specs.declared.parts.Part.{Part}
use Rattle.wdt_writer.specs.PlainWriter.{PlainWriter, part_of}
use Rattle.wdt_receiver_fsm.specs.Logging.{all_logged, all_logged_by}
use Rattle.wdt_receiver_fsm.specs.PlainReceiver.{PlainReceiver}
use Rattle.wdt_receiver_fsm.specs.ReceiverHistory.{past_of}
use Rattle.wdt_receiver_fsm.specs.Turn.{Step, disk_fails, finishes_with}
use Rattle.wdt_receiver_fsm.specs.declared.acts.RecvAct.{RecvAct}
use Rattle.wdt_sender_fsm.specs.declared.peers.PeerKind.{PeerKind}
use Rattle.wdt_units.specs.declared.numbers.Lane.{Lane}
use Rattle.wdt_dock.specs.Desk.{AreBooks, IsDesk, part_by, plain_of}
use Rattle.wdt_dock.specs.DockView.{HasLostDisk}
use Rattle.wdt_receiver_fsm.specs.End.{EndView, lane_in}
use Rattle.wdt_receiver_fsm.specs.declared.idling.Idling.{Idling}
use Rattle.wdt_receiver_fsm.specs.Idling.{idled, row_of_way}
use Rattle.wdt_dock.proofs.Finishing.{finish_loses, finish_stays, lost_is, lost_stays}
use Rattle.wdt_dock.proofs.Keeping.{LosesNone, Stays, stays_more, stays_same}

-- ---- the desk

-- the ties stand where the lanes and the writer's parts do
pub desk_after : (e f : EndView) (log log2 : OpenLog) (w w2 : PlainWriter) → IsDesk e log w → AreBooks log2 w2 → w2.parts ≡ w.parts → Stays (plain_of e log w) (plain_of f log2 w2) → IsDesk f log2 w2
desk_after e f log log2 w w2 desk books parts stays = record {
  books = books;
  lanes = ap (λ (ps : List (Option Part)). length ps) parts ∙ desk.lanes ∙ sym stays.lanes;
  parts = λ l within.
      ap (λ (ps : List (Option Part)). part_of ps l) parts ∙ desk.parts l (subst (λ (n : ℕ). l < n) stays.lanes within)
      ∙ ap (λ (o : Option Block). part_by o (lane_in e l).left) (sym (stays.begun l)) ∙ ap (λ (n : ℕ). part_by (past_of f.history l).begun n) (sym (stays.left l));
}

-- the same log and writer make the same receiver
pub kept_plain : (e : EndView) (log log2 : OpenLog) (w w2 : PlainWriter) → log2.meaning ≡ log.meaning → w2 ≡ w → plain_of e log2 w2 ≡ plain_of e log w
kept_plain e log log2 w w2 meaning writer =
    ap (λ (x : PlainWriter). plain_of e log2 x) writer ∙ ap (λ (m : Meaning). plain_of e record { version = log2.version; meaning = m; shut = log2.shut } w) meaning

-- all that landed is logged
pub logged_stays : (r : PlainReceiver) → Stays r (all_logged r)
logged_stays r = go r.unlogged
  where
    go : (bs : List Block) → Stays r (all_logged_by r bs)
    go [] = stays_same r
    go (b ∷ bs) = record { lanes = refl; begun = λ k. refl; left = λ k. refl }

-- ---- counts

-- no disk was lost where no call failed
pub counts_none : (F G : Type 0) (s0 s1 : State) → (F → ⊥) → (G → ⊥) → Counts F s0 s1 → Counts G s0 s1
counts_none F G s0 s1 done none c = record {
  faults = c.faults;
  own = c.own;
  own_then = c.own_then;
  slips = c.slips;
  rose = λ lost. absurd (none lost);
  cause = λ lost. absurd (none lost);
  struck = c.struck;
  fine = λ more. c.fine done;
}

-- it was where one failed
pub counts_lost : (F G : Type 0) (s0 s1 : State) → F → G → Counts F s0 s1 → Counts G s0 s1
counts_lost F G s0 s1 why lost c = record {
  faults = c.faults;
  own = c.own;
  own_then = c.own_then;
  slips = c.slips;
  rose = λ more. c.rose why;
  cause = λ more. c.cause why;
  struck = c.struck;
  fine = λ none. absurd (none lost);
}

pub not_disk : (x : Unit {0}) → IsErrOf {E = LogFail} (Ok x) DiskFail → ⊥
not_disk x is = cc

pub not_refused : (x : Unit {0}) → IsErrOf {E = LogFail} (Ok x) NoMemory → ⊥
not_refused x is = cc

pub disk_not_memory : IsErrOf {T = Unit {0}} (Err DiskFail) NoMemory → ⊥
disk_not_memory is = cc

pub lost_answer : (a : EndAnswer) → a ≡ answers.Disk → HasLostDisk a
lost_answer a is = subst HasLostDisk (sym is) tt

pub is_disk : (x : LogFail) → x ≡ DiskFail → IsErrOf {T = Unit {0}} (Err x) DiskFail
is_disk x is = ap Err is

pub disk_only : (x : LogFail) → x ≡ DiskFail → IsErrOf {T = Unit {0}} (Err x) NoMemory → ⊥
disk_only x is memory = cc

-- ---- the finish

module _ (e f : EndView) (log log2 : OpenLog) (w w2 : PlainWriter) (way : Idling) (l : Lane) (act : RecvAct) (within : l.0 < length e.lanes) where
  module _ (logged : plain_of e log2 w2 ≡ all_logged (plain_of e log w)) (short : Option PeerKind) (said : finishes_with e.history (idled way (plain_of e log2 w2) l) l (row_of_way way) short ≡ (act, plain_of f log2 w2)) where
    pub finished_stays : Stays (plain_of e log w) (plain_of f log2 w2)
    finished_stays =
        stays_more (plain_of e log w) (plain_of e log2 w2) (plain_of f log2 w2) (subst (λ (t : PlainReceiver). Stays (plain_of e log w) t) (sym logged) (logged_stays (plain_of e log w)))
        (subst (λ (y : Step). Stays (plain_of e log2 w2) y.1) said (finish_stays way (plain_of e log2 w2) l short within))

    pub finished_loses : (HasLostDisk e.answer → ⊥) → HasLostDisk f.answer → ⊥
    finished_loses = subst (λ (y : Step). LosesNone (plain_of e log2 w2) y.1) said (finish_loses way (plain_of e log2 w2) l short)

  module _ (same : plain_of e log2 w2 ≡ plain_of e log w) (said : disk_fails (idled way (plain_of e log2 w2) l) l (row_of_way way) ≡ (act, plain_of f log2 w2)) where
    pub lost_said : disk_fails (idled way (plain_of e log w) l) l (row_of_way way) ≡ (act, plain_of f log2 w2)
    lost_said = ap (λ (t : PlainReceiver). disk_fails (idled way t l) l (row_of_way way)) (sym same) ∙ said

    pub lost_kept : Stays (plain_of e log w) (plain_of f log2 w2)
    lost_kept = subst (λ (y : Step). Stays (plain_of e log w) y.1) lost_said (lost_stays way (plain_of e log w) l within)

    pub lost_here : HasLostDisk f.answer
    lost_here = lost_answer f.answer (ap (λ (y : Step). y.1.answer) (sym said) ∙ lost_is way (plain_of e log2 w2) l)

pub same_stays : (r t : PlainReceiver) → t ≡ r → Stays r t
same_stays r t is = subst (λ (x : PlainReceiver). Stays r x) (sym is) (stays_same r)
