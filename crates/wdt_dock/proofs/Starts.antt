-- What stands behind a block that began, by the outcome of the writer's call.
use Rattle.std.proofs.Common.{◌≡◌, ◌⊎◌, inl, inr, ℕ, zero, suc, ◌<◌, Bool, true, false, List, [], ◌∷◌, ◌++◌, length, Option, Some, None, Result, Ok, Err, refl, sym, ap, ◌∙◌, subst}
use Rattle.std.specs.Prelude.{IfOk, IsErrOf, IsSome, OnErr}
use Rattle.wdt_units.specs.Headers.{FitsHeader, IsHeaderOf}
use Rattle.wdt_units.specs.Tree.{File}
use Rattle.wdt_units.specs.declared.blocks.Block.{Block}
use Rattle.wdt_units.specs.declared.blocks.Header.{Header}
use Rattle.wdt_units.specs.declared.numbers.Lane.{Lane}
use Rattle.wdt_depot.specs.Disk.{Disk}
use Rattle.wdt_depot.specs.Moments.{IfTold, MayDo, OneStep, Told}
use Rattle.wdt_depot.specs.State.{Counts, State}
use Rattle.wdt_logfmt.specs.Beginning.{BeginFault, OverLimit, Overlap, SizeDiffers, block_of}
use Rattle.wdt_good.specs.Logged.{AllFit, GoodSince}
use Rattle.wdt_good.proofs.ForCallers.{last_fits}
use Rattle.wdt_sender_fsm.specs.declared.answers.EndAnswer.TheVariants as answers
use Rattle.wdt_sender_fsm.specs.declared.peers.PeerKind.{PeerKind}
use Rattle.wdt_sender_fsm.specs.declared.peers.PeerKind.TheVariants as peers
use Rattle.wdt_log.specs.OpenLog.{OpenLog}
use Rattle.wdt_writer.specs.declared.fail.WriteFail.{WriteFail}
use Rattle.wdt_writer.specs.declared.fail.WriteFail.TheVariants as fails
use Rattle.wdt_writer.specs.Answers.{IsAnswered, IsSameOrSettled, fault_at}
use Rattle.wdt_writer.specs.Calls.{CanMake, UsesDisk}
use Rattle.wdt_writer.specs.PlainWriter.{PlainWriter, begins as begins_in, begun_on, known_with, run_begin}
use Rattle.wdt_receiver_fsm.specs.declared.acts.RecvAct.{RecvAct}
use Rattle.wdt_receiver_fsm.specs.declared.events.RecvEvent.TheVariants as events
use Rattle.wdt_receiver_fsm.specs.declared.states.RecvState.TheVariants as states
use Rattle.wdt_receiver_fsm.specs.PlainReceiver.{PlainReceiver, failed, goes, lane_at, noted}
use Rattle.wdt_receiver_fsm.specs.ReceiverHistory.{past_of}
use Rattle.wdt_receiver_fsm.specs.Turn.{Step, begins, begins_by, tells_failure}
use Rattle.wdt_dock.specs.Beginning.{IsRefused, books_with, starts, starts_by, told_fault}
use Rattle.wdt_dock.specs.Desk.{AreBooks, IsAtRest, IsDesk, books_of, plain_of}
use Rattle.wdt_dock.specs.DockGood.{DockGood, GoodReads}
use Rattle.wdt_dock.specs.DockView.{HasLostDisk, LosesDisk}
use Rattle.wdt_receiver_fsm.specs.End.{Books, EndView, plain_with}
use Rattle.wdt_dock.proofs.Begun.{Begun, begun_from, desk_begun, desk_placed, placed_drops, placed_loses, taken_begun, taken_left, taken_loses}
use Rattle.wdt_dock.proofs.Choices.{counts_lost, counts_none, desk_after}
use Rattle.wdt_dock.proofs.Goodness.{files_behind_are, since_same, told_lost, told_stays}
use Rattle.wdt_dock.proofs.Keeping.{Stays, loses_lane, stays_failed, stays_going, stays_more, stays_noted, stays_same}
use Rattle.wdt_dock.proofs.Made.{begun_reads, made_reads, may_make, placed_reads}
use Rattle.wdt_dock.proofs.Parting.{Drops}
use Rattle.wdt_dock.proofs.Waiting.{counts_same, same_behind}

-- ---- a failure is told

pub fault_stays : (r : PlainReceiver) (l : Lane) (kind : PeerKind) → l.0 < length r.lanes → Stays r (told_fault r l kind).1
fault_stays r l kind within =
    let one = noted r (events.Peer l kind ∷ []) in
    let two = failed one (answers.Peer kind) in
    stays_more r two (goes two l.0 states.SendAbort) (stays_more r one two (stays_noted r (events.Peer l kind) (λ k b. refl)) (stays_failed one (answers.Peer kind))) (stays_going two l.0 states.SendAbort within)

pub fault_sound : (r : PlainReceiver) (l : Lane) (kind : PeerKind) → HasLostDisk (told_fault r l kind).1.answer → ⊥
fault_sound r l kind = (let t = failed (noted r (events.Peer l kind ∷ [])) (answers.Peer kind) in loses_lane t l.0 record (lane_at t l.0) { state = states.SendAbort } (λ none. none))

lost_stays : (r : PlainReceiver) (l : Lane) → l.0 < length r.lanes → Stays r (tells_failure (failed r answers.Disk) l).1
lost_stays r l within = stays_more r (failed r answers.Disk) (goes (failed r answers.Disk) l.0 states.SendAbort) (stays_failed r answers.Disk) (stays_going (failed r answers.Disk) l.0 states.SendAbort within)

refused_stays : (r : PlainReceiver) (l : Lane) (fail : WriteFail) (y : Step) → l.0 < length r.lanes → IsRefused r l fail y → Stays r y.1
refused_stays r l fails.Disk y within is = subst (λ (z : Step). Stays r z.1) (sym is) (lost_stays r l within)
refused_stays r l fails.NoMemory y within is = absurd is
refused_stays r l (fails.SizeDiffers a b c d) y within is = subst (λ (z : Step). Stays r z.1) (sym is) (fault_stays r l (peers.SizeDiffers a b c d) within)
refused_stays r l (fails.Overlap a) y within is = subst (λ (z : Step). Stays r z.1) (sym is) (fault_stays r l (peers.Overlap a) within)
refused_stays r l (fails.OverLimit a) y within is = subst (λ (z : Step). Stays r z.1) (sym is) (fault_stays r l (peers.OverLimit a) within)

-- the disk failed, or it is sound and no call was made
refused_lost : (r : PlainReceiver) (l : Lane) (fail : WriteFail) (y : Step) → IsRefused r l fail y → ((fail ≡ fails.Disk) × HasLostDisk y.1.answer) ⊎ (((fail ≡ fails.NoMemory → ⊥) × (fail ≡ fails.Disk → ⊥)) × (HasLostDisk y.1.answer → ⊥))
refused_lost r l fails.Disk y is = inl (refl, subst (λ (z : Step). HasLostDisk z.1.answer) (sym is) tt)
refused_lost r l fails.NoMemory y is = absurd is
refused_lost r l (fails.SizeDiffers a b c d) y is = inr ((λ e. cc, λ e. cc), subst (λ (z : Step). HasLostDisk z.1.answer → ⊥) (sym is) (fault_sound r l (peers.SizeDiffers a b c d)))
refused_lost r l (fails.Overlap a) y is = inr ((λ e. cc, λ e. cc), subst (λ (z : Step). HasLostDisk z.1.answer → ⊥) (sym is) (fault_sound r l (peers.Overlap a)))
refused_lost r l (fails.OverLimit a) y is = inr ((λ e. cc, λ e. cc), subst (λ (z : Step). HasLostDisk z.1.answer → ⊥) (sym is) (fault_sound r l (peers.OverLimit a)))

-- ---- what a writer answers

pub none_by : (o : Option BeginFault) (b : Block) → IsAnswered o (Ok b) → o ≡ None
none_by None b answered = refl
none_by (Some fault) b (inl is) = absurd (cc)
none_by (Some fault) b (inr is) = absurd (cc)

-- the disk failed only where there is no fault, and another failure than want of memory came only where there is one
disk_none : (o : Option BeginFault) (fail : WriteFail) → IsAnswered {T = Block} o (Err fail) → fail ≡ fails.Disk → o ≡ None
disk_none None fail answered is = refl
disk_none (Some (SizeDiffers a b c d)) fail (inl same) is = absurd (cc)
disk_none (Some (Overlap a)) fail (inl same) is = absurd (cc)
disk_none (Some (OverLimit a)) fail (inl same) is = absurd (cc)
disk_none (Some fault) fail (inr same) is = absurd (cc)

some_fault : (o : Option BeginFault) (fail : WriteFail) → IsAnswered {T = Block} o (Err fail) → (fail ≡ fails.NoMemory → ⊥) → (fail ≡ fails.Disk → ⊥) → IsSome o
some_fault (Some fault) fail answered memory disk = refl
some_fault None fails.Disk answered memory disk = absurd (disk refl)
some_fault None fails.NoMemory answered memory disk = absurd (memory refl)
some_fault None (fails.SizeDiffers a b c d) answered memory disk = absurd answered
some_fault None (fails.Overlap a) answered memory disk = absurd answered
some_fault None (fails.OverLimit a) answered memory disk = absurd answered

same_fails : (x y : WriteFail) → IsErrOf {T = Block} (Err x) y → x ≡ y
same_fails x y is = cc

pub is_err : (x y : WriteFail) → x ≡ y → IsErrOf {T = Block} (Err x) y
is_err x y is = ap Err is

pub ok_not : (b : Block) → IsErrOf {E = WriteFail} (Ok b) fails.NoMemory → ⊥
ok_not b is = cc

pub ok_disk : (b : Block) → IsErrOf {E = WriteFail} (Ok b) fails.Disk → ⊥
ok_disk b is = cc

pub new_by : (c : Bool) → (c ≡ false → ⊥) → c ≡ true
new_by true never = refl
new_by false never = absurd (never refl)

memory_disk : fails.NoMemory ≡ fails.Disk → ⊥
memory_disk is = cc

-- ---- what it leaves on the disk

-- Each image is good, the log stays at rest, and faults are counted.
pub record Leaves (e : EndView) (log : OpenLog) (w : PlainWriter) (failed : Type 0) (s0 s1 : State) : Type 0 where
  pub images : (T : List File) → IfTold (λ t. DockGood T (plain_of e log w) t.now) s0.told → GoodSince T [] s0.told s1.told
  pub rest : (f : EndView) → IsAtRest f log s1
  pub counts : Counts failed s0 s1

fits : (T : List File) (r : PlainReceiver) (a : Option Told) → IfTold (λ t. DockGood T r t.now) a → IfTold (λ t. AllFit T t.now) a
fits T r None good = tt
fits T r (Some t) good = good.fit

module _ (e : EndView) (log : OpenLog) (w : PlainWriter) (l : Lane) (h : Header) (desk : IsDesk e log w) (sound : HasLostDisk e.answer → ⊥) (s0 s1 : State) (rest : IsAtRest e log s0) where
  pub leaves_used : (result : Result Block WriteFail) → UsesDisk (CanMake w.known h) (begun_on w.known h) (run_begin w.known h) result s0 s1 → Leaves e log w (IsErrOf result fails.Disk) s0 s1
  leaves_used result uses = record {
    images = λ T good. uses.images log.version T log.meaning.files log.meaning.end (rest.rests sound) (fits T (plain_of e log w) s0.told good) (may_make log w h s0.told desk.books (rest.rests sound));
    rest = λ f. record { spots = uses.spots; log_open = λ here. rest.log_open sound; rests = λ here. uses.log log.version log.meaning.files log.meaning.end (rest.rests sound) };
    counts = uses.counts;
  }

  pub leaves_same : (F : Type 0) → (F → ⊥) → s1 ≡ s0 → Leaves e log w F s0 s1
  leaves_same F never same = subst (λ (s : State). Leaves e log w F s0 s) (sym same) record {
    images = λ T good. since_same T s0.told;
    rest = λ f. record { spots = rest.spots; log_open = λ here. rest.log_open sound; rests = λ here. rest.rests sound };
    counts = counts_same F s0 never;
  }

  -- ---- the block began

  module _ (within : l.0 < length e.lanes) (idle : (past_of e.history l.0).begun ≡ None) (header : FitsHeader h) (none : fault_at w h ≡ None) where
    abbrev b : Block
    b = block_of w.known h

    abbrev w1 : PlainWriter
    w1 = begins_in w l.0 h

    module _ (f : EndView) (act : RecvAct) where
      desk_by : (n : ℕ) → h.length ≡ n → begins_by (plain_of e log w1) l b n ≡ (act, plain_of f log (starts_by w1 l.0 b n)) → IsDesk f log (starts_by w1 l.0 b n)
      desk_by zero is said =
          desk_placed e log w l h desk within idle header none is f
          (subst (λ (y : Step). Drops (plain_of (record e { history = e.history ++ events.Begin l b ∷ [] }) log w1) y.1 l.0) said (placed_drops (plain_of (record e { history = e.history ++ events.Begin l b ∷ [] }) log w1) l b within))
      desk_by (suc left) is said =
          desk_begun e log w l h desk within idle header none f
          (begun_from (plain_of e log w) w1.known (plain_of f log w1) l.0 b (subst (λ (y : Step). Begun (plain_of e log w1) y.1 l.0 b) said (taken_begun (plain_of e log w1) l b (suc left) is within)))
          (subst (λ (y : Step). (lane_at y.1 l.0).left ≡ suc left) said (taken_left (plain_of e log w1) l b (suc left) within) ∙ sym is)

      reads_by : (T : List File) (d : Disk) → IsHeaderOf T h → (n : ℕ) → h.length ≡ n → begins_by (plain_of e log w1) l b n ≡ (act, plain_of f log (starts_by w1 l.0 b n)) → AreBooks log (starts_by w1 l.0 b n)
          → GoodReads T (plain_of e log w) d → GoodReads T (plain_of f log (starts_by w1 l.0 b n)) (begun_on w.known h d)
      reads_by T d tree zero is said books good =
          placed_reads e log w desk T h d l within idle header none tree is (plain_of f log (starts_by w1 l.0 b zero)) refl (files_behind_are f log (starts_by w1 l.0 b zero) books)
          (subst (λ (y : Step). Drops (plain_of (record e { history = e.history ++ events.Begin l b ∷ [] }) log w1) y.1 l.0) said (placed_drops (plain_of (record e { history = e.history ++ events.Begin l b ∷ [] }) log w1) l b within)) good
      reads_by T d tree (suc left) is said books good =
          begun_reads e log w desk T h d l within idle header none tree (plain_of f log w1) refl (files_behind_are f log w1 books)
          (begun_from (plain_of e log w) w1.known (plain_of f log w1) l.0 b (subst (λ (y : Step). Begun (plain_of e log w1) y.1 l.0 b) said (taken_begun (plain_of e log w1) l b (suc left) is within))) good

      loses_by : (n : ℕ) → begins_by (plain_of e log w1) l b n ≡ (act, plain_of f log (starts_by w1 l.0 b n)) → HasLostDisk f.answer → ⊥
      loses_by zero said = subst (λ (y : Step). HasLostDisk y.1.answer → ⊥) said (placed_loses (plain_of e log w1) l b sound)
      loses_by (suc left) said = subst (λ (y : Step). HasLostDisk y.1.answer → ⊥) said (taken_loses (plain_of e log w1) l b (suc left) sound)

      same_by : (n : ℕ) → plain_with f (books_with (record { known = w1.known; log = log.meaning; unlogged = w.unlogged }) b n) ≡ plain_of f log (starts_by w1 l.0 b n)
      same_by zero = refl
      same_by (suc left) = refl

      module _ (block : Block) (is_block : block ≡ b) (said : (books : Books) → begins (plain_with e books) l block ≡ (act, plain_with f (books_with books block block.length))) (w2 : PlainWriter) (started : w2 ≡ starts w l.0 h) where
        books1 : Books
        books1 = record { known = w1.known; log = log.meaning; unlogged = w.unlogged }

        said_block : begins_by (plain_of e log w1) l b h.length ≡ (act, plain_of f log (starts w l.0 h))
        unfolding books1
        said_block =
            subst (λ (x : Block). begins (plain_with e books1) l x ≡ (act, plain_with f (books_with books1 x x.length))) is_block (said books1)
            ∙ ap (λ (t : PlainReceiver). let y : Step = (act, t) in y) (same_by h.length)

        pub started_said : begins (record (plain_of e log w) { known = known_with w.known h }) l b ≡ (act, plain_of f log w2)
        started_said = said_block ∙ ap (λ (x : PlainWriter). let y : Step = (act, plain_of f log x) in y) (sym started)

        desk_first : IsDesk f log (starts w l.0 h)
        desk_first = desk_by h.length refl said_block

        pub started_desk : IsDesk f log w2
        started_desk = subst (λ (x : PlainWriter). IsDesk f log x) (sym started) desk_first

        pub started_sound : HasLostDisk f.answer → ⊥
        started_sound = loses_by h.length said_block

        pub started_good : (T : List File) → IsHeaderOf T h → OneStep (MayDo {T = Block} {E = WriteFail} (begun_on w.known h) (Ok block)) s0.told s1.told → GoodSince T [] s0.told s1.told
            → IfTold (λ t. DockGood T (plain_of e log w) t.now) s0.told → IfTold (λ t. DockGood T (plain_of f log w2) t.now) s1.told
        started_good T tree step since good = subst (λ (x : PlainWriter). IfTold (λ t. DockGood T (plain_of f log x) t.now) s1.told) (sym started) (go s0.told s1.told step since good)
          where
            go : (a c : Option Told) → OneStep (MayDo {T = Block} {E = WriteFail} (begun_on w.known h) (Ok block)) a c → GoodSince T [] a c → IfTold (λ t. DockGood T (plain_of e log w) t.now) a → IfTold (λ t. DockGood T (plain_of f log (starts w l.0 h)) t.now) c
            go None None stepped images was = tt
            go None (Some v) stepped images was = absurd stepped
            go (Some u) None stepped images was = absurd stepped
            go (Some u) (Some v) stepped images was = record {
              fit = last_fits T [] (Some u) (Some v) was.fit images;
              reads = λ here. subst (λ (d : Disk). GoodReads T (plain_of f log (starts w l.0 h)) d) (sym stepped.0) (reads_by T u.now tree h.length refl said_block desk_first.books (was.reads sound));
            }

  -- ---- it didn't

  module _ (w2 : PlainWriter) (kept : IsSameOrSettled w w2) where
    pub plain_kept : (f : EndView) → plain_of f log w2 ≡ plain_of f log w
    plain_kept f = elim kept [ inl same ↦ ap (λ (x : PlainWriter). plain_of f log x) same | inr same ↦ ap (λ (x : PlainWriter). plain_of f log x) same ]

    parts_kept : w2.parts ≡ w.parts
    parts_kept = elim kept [ inl same ↦ ap (λ (x : PlainWriter). x.parts) same | inr same ↦ ap (λ (x : PlainWriter). x.parts) same ]

    books_kept : AreBooks log w2
    books_kept = elim kept [
      | inl same ↦ subst (λ (x : PlainWriter). AreBooks log x) (sym same) desk.books
      | inr same ↦ subst (λ (x : PlainWriter). AreBooks log x) (sym same) record { version = desk.books.version; sound = desk.books.sound; known = desk.books.known; pending = desk.books.pending; adds = desk.books.adds }
    ]

    pub desk_kept : (f : EndView) → Stays (plain_of e log w) (plain_of f log w) → IsDesk f log w2
    desk_kept f stays = desk_after e f log log w w2 desk books_kept parts_kept (subst (λ (t : PlainReceiver). Stays (plain_of e log w) t) (sym (plain_kept f)) stays)

    module _ (fail : WriteFail) (answered : IsAnswered {T = Block} (fault_at w h) (Err fail)) (untouched : IsSome (fault_at w h) → s1 ≡ s0) (uses : fault_at w h ≡ None → UsesDisk {R = Block} (CanMake w.known h) (begun_on w.known h) (run_begin w.known h) (Err fail) s0 s1) where
      pub leaves_failed : Leaves e log w (IsErrOf {T = Block} (Err fail) fails.Disk) s0 s1
      leaves_failed = go (fault_at w h) refl answered
        where
          none_some : (fault : BeginFault) → Some fault ≡ None → ⊥
          none_some fault is = cc

          go : (o : Option BeginFault) → fault_at w h ≡ o → IsAnswered {T = Block} o (Err fail) → Leaves e log w (IsErrOf {T = Block} (Err fail) fails.Disk) s0 s1
          go None is by = leaves_used (Err fail) (uses is)
          go (Some fault) is by = leaves_same (IsErrOf {T = Block} (Err fail) fails.Disk) (λ lost. none_some fault (disk_none (Some fault) fail by (same_fails fail fails.Disk lost))) (untouched (subst (λ (o : Option BeginFault). IsSome o) (sym is) refl))

      module _ (E : Type 0) (f : EndView) (within : l.0 < length e.lanes) where
        pub failed_desk : (result : Result RecvAct E) → IfOk result (λ act. (books : Books) → IsRefused (plain_with e books) l fail (act, plain_with f books)) → OnErr result (f ≡ e) → IsDesk f log w2
        failed_desk (Ok act) refused unchanged = desk_kept f (refused_stays (plain_of e log w) l fail (act, plain_of f log w) within (refused (books_of log w)))
        failed_desk (Err x) refused unchanged = desk_kept f (subst (λ (v : EndView). Stays (plain_of e log w) (plain_of v log w)) (sym unchanged) (stays_same (plain_of e log w)))

        pub failed_counts : (result : Result RecvAct E) → IfOk result (λ act. (books : Books) → IsRefused (plain_with e books) l fail (act, plain_with f books)) → OnErr result (f ≡ e) → OnErr result (fail ≡ fails.NoMemory)
            → Counts (LosesDisk e.answer f.answer) s0 s1
        failed_counts (Ok act) refused unchanged memory = elim (refused_lost (plain_of e log w) l fail (act, plain_of f log w) (refused (books_of log w))) [
          | inl lost ↦ counts_lost (IsErrOf {T = Block} (Err fail) fails.Disk) (LosesDisk e.answer f.answer) s0 s1 (ap Err lost.0) (sound, lost.1) leaves_failed.counts
          | inr stands ↦ counts_none (IsErrOf {T = Block} (Err fail) fails.Disk) (LosesDisk e.answer f.answer) s0 s1 (λ lost. stands.0.1 (same_fails fail fails.Disk lost)) (λ lost. stands.1 lost.1) leaves_failed.counts
        ]
        failed_counts (Err x) refused unchanged memory =
            counts_none (IsErrOf {T = Block} (Err fail) fails.Disk) (LosesDisk e.answer f.answer) s0 s1 (λ lost. memory_disk (sym memory ∙ same_fails fail fails.Disk lost))
            (λ lost. sound (subst (λ (v : EndView). HasLostDisk v.answer) unchanged lost.1)) leaves_failed.counts

        pub failed_good : (result : Result RecvAct E) → IfOk result (λ act. (books : Books) → IsRefused (plain_with e books) l fail (act, plain_with f books)) → OnErr result (f ≡ e) → (T : List File)
            → IfTold (λ t. DockGood T (plain_of e log w) t.now) s0.told → IfTold (λ t. DockGood T (plain_of f log w2) t.now) s1.told
        failed_good (Ok act) refused unchanged T good =
            subst (λ (t : PlainReceiver). IfTold (λ u. DockGood T t u.now) s1.told) (sym (plain_kept f))
            (elim (refused_lost (plain_of e log w) l fail (act, plain_of f log w) (refused (books_of log w))) [
              | inl lost ↦ told_lost T (plain_of e log w) (plain_of f log w) s0.told s1.told lost.1 (leaves_failed.images T good) good
              | inr stands ↦ subst (λ (s : State). IfTold (λ u. DockGood T (plain_of f log w) u.now) s.told) (sym (untouched (some_fault (fault_at w h) fail answered stands.0.0 stands.0.1)))
                  (told_stays T (plain_of e log w) (plain_of f log w) s0.told (refused_stays (plain_of e log w) l fail (act, plain_of f log w) within (refused (books_of log w))) refl (same_behind e f log w desk.books) sound good)
            ])
        failed_good (Err x) refused unchanged T good =
            subst (λ (t : PlainReceiver). IfTold (λ u. DockGood T t u.now) s1.told) (sym (plain_kept f ∙ ap (λ (v : EndView). plain_of v log w) unchanged)) (by (fault_at w h) refl)
          where
            stepped : (a c : Option Told) → OneStep (MayDo {T = Block} (begun_on w.known h) (Err fail)) a c → GoodSince T [] a c → IfTold (λ t. DockGood T (plain_of e log w) t.now) a → IfTold (λ t. DockGood T (plain_of e log w) t.now) c
            stepped None None step images was = tt
            stepped None (Some v) step images was = absurd step
            stepped (Some u) None step images was = absurd step
            stepped (Some u) (Some v) step images was = record {
              fit = last_fits T [] (Some u) (Some v) was.fit images;
              reads = λ here. elim step.0 [
                | inl same ↦ subst (λ (d : Disk). GoodReads T (plain_of e log w) d) (sym same) (was.reads sound)
                | inr done ↦ subst (λ (d : Disk). GoodReads T (plain_of e log w) d) (sym done) (made_reads e log w desk T h u.now (was.reads sound))
              ];
            }

            by : (o : Option BeginFault) → fault_at w h ≡ o → IfTold (λ t. DockGood T (plain_of e log w) t.now) s1.told
            by None is = stepped s0.told s1.told (uses is).step (leaves_failed.images T good) good
            by (Some fault) is = subst (λ (s : State). IfTold (λ u. DockGood T (plain_of e log w) u.now) s.told) (sym (untouched (subst (λ (o : Option BeginFault). IsSome o) (sym is) refl))) good
