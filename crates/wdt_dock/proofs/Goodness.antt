-- An end and its disk stay good for the tree.
use Rattle.std.proofs.Common.{◌≡◌, inl, inr, ℕ, suc, ◌-◌, ◌<◌, ◌≤◌, true, false, List, [], ◌∷◌, length, Option, Some, None, refl, sym, ap, ◌∙◌, subst}
use Rattle.std.specs.Prelude.{IfSome, option_map}
use Rattle.std.specs.Str.{bytes_eq}
use Rattle.std.proofs.lemmas.Bool.{or_parts}
use Rattle.wdt_units.specs.Path.{is_reserved}
use Rattle.wdt_units.specs.Tree.{File}
use Rattle.wdt_units.specs.declared.blocks.Block.{Block}
use Rattle.wdt_depot.specs.Disk.{Disk, DiskFile, seen_of}
use Rattle.wdt_depot.specs.Moments.{IfTold, Told}
use Rattle.wdt_logfmt.specs.Adding.{all_added, span_at}
use Rattle.wdt_logfmt.specs.Batches.{files_or, path_at, path_by}
use Rattle.wdt_logfmt.specs.Beginning.{KnownFile, known_at}
use Rattle.wdt_logfmt.specs.Landing.{IsAmong}
use Rattle.wdt_logfmt.specs.Spelling.{written_version}
use Rattle.wdt_logfmt.specs.View.{NamedFile, is_view}
use Rattle.wdt_logfmt.specs.declared.entry.LogEntry.{LogEntry}
use Rattle.wdt_good.specs.Good.{Each, GoodFile, GoodFiles, HasBytes, log_path, new_log_path}
use Rattle.wdt_good.specs.Logged.{GoodSince}
use Rattle.wdt_good.proofs.ForCallers.{IsOther, each_in, last_fits, view_others}
use Rattle.wdt_depot.proofs.ForCallers.{since_now}
use Rattle.wdt_good.specs.Logged.{AllGood}
use Rattle.wdt_files.specs.PlainFiles.{AreFiles}
use Rattle.wdt_log.specs.Flushing.{KeepsReads, ReadsStand}
use Rattle.wdt_log.specs.OpenLog.{OpenLog, Rests, RestsIn}
use Rattle.wdt_depot.specs.State.{State}
use Rattle.wdt_logfmt.proofs.ForCallers.{eq_sym}
use Rattle.wdt_writer.specs.declared.parts.Part.{Part}
use Rattle.wdt_writer.specs.PlainWriter.{PlainWriter, part_at}
use Rattle.wdt_receiver_fsm.specs.Logging.{log_after}
use Rattle.wdt_receiver_fsm.specs.PlainReceiver.{PlainReceiver, lane_at, past_at}
use Rattle.wdt_receiver_fsm.specs.ReceiverHistory.{past_of}
use Rattle.wdt_dock.specs.Booked.{IsBooked, KnownStand}
use Rattle.wdt_dock.specs.Desk.{AreBooks, IsDesk, part_by, plain_of}
use Rattle.wdt_dock.specs.DockGood.{DockGood, GoodReads, HasPart, HasPartOf, IfKnown, IsTrees, StandsWithin}
use Rattle.wdt_dock.specs.DockView.{HasLostDisk}
use Rattle.wdt_receiver_fsm.specs.End.{EndView, lane_in}
use Rattle.wdt_dock.proofs.Keeping.{Stays}

-- ---- what the log says once what landed is logged

pub files_behind_are : (e : EndView) (log : OpenLog) (w : PlainWriter) → AreBooks log w → (log_after (plain_of e log w)).files ≡ w.files
files_behind_are e log w books =
    ap (λ (o : Option (List NamedFile)). files_or log.meaning.files o) (ap (λ (es : List LogEntry). all_added written_version log.meaning.files es) (sym books.pending) ∙ books.adds)

-- ---- for what is read

-- what holds of the begun blocks holds of those of a receiver that stays
part_stays : (T : List File) (r t : PlainReceiver) (d : Disk) (k : ℕ) → Stays r t → t.known ≡ r.known → HasPartOf T r d k → HasPartOf T t d k
part_stays T r t d k stays known part =
    subst (λ (o : Option Block). IfSome o (HasPart T t.known d (lane_at t k).left)) (sym (stays.begun k))
    (subst (λ (n : ℕ). IfSome (past_at r k).begun (HasPart T t.known d n)) (sym (stays.left k))
    (subst (λ (ks : List (Option KnownFile)). IfSome (past_at r k).begun (HasPart T ks d (lane_at r k).left)) (sym known) part))

-- a receiver that stays is good where the other was, with as many files behind
pub reads_stay : (T : List File) (r t : PlainReceiver) (d : Disk) → Stays r t → t.known ≡ r.known → (log_after t).files ≡ (log_after r).files → GoodReads T r d → GoodReads T t d
reads_stay T r t d stays known files good = record {
  known = subst (λ (ks : List (Option KnownFile)). Each (IfKnown (IsTrees T)) ks) (sym known) good.known;
  stands = subst (λ (ks : List (Option KnownFile)). Each (IfKnown (StandsWithin d)) ks) (sym known) good.stands;
  landed = subst (λ (fs : List NamedFile). GoodFiles T (seen_of d) fs) (sym files) good.landed;
  parts = λ k within. part_stays T r t d k stays known (good.parts k (subst (λ (n : ℕ). k < n) stays.lanes within));
}

pub good_stays : (T : List File) (r t : PlainReceiver) (d : Disk) → Stays r t → t.known ≡ r.known → (log_after t).files ≡ (log_after r).files → (HasLostDisk r.answer → ⊥) → DockGood T r d → DockGood T t d
good_stays T r t d stays known files sound good = record { fit = good.fit; reads = λ here. reads_stay T r t d stays known files (good.reads sound) }

-- ---- for another disk on which all is read as before

-- each known file is read as before
abbrev pub ReadsAs : List (Option KnownFile) → Disk → Disk → Type 0
ReadsAs known d e = (n : ℕ) (file : KnownFile) → known_at known n ≡ Some file → seen_of e file.path ≡ seen_of d file.path

stands_by : (file : KnownFile) (d e : Disk) (o : Option DiskFile) → e file.path ≡ o → option_map (λ (f : DiskFile). f.seen) o ≡ seen_of d file.path → StandsWithin d file → StandsWithin e file
stands_by file d e None is same stands = absurd (let gone : None ≡ Some stands.found.seen = same ∙ ap (option_map (λ (f : DiskFile). f.seen)) stands.there in none_some stands.found.seen gone)
  where
    none_some : {A : Type 0} (x : A) → None ≡ Some x → ⊥
    none_some x e = cc
stands_by file d e (Some f) is same stands =
    let seen : f.seen ≡ stands.found.seen = same_seen f.seen stands.found.seen (same ∙ ap (option_map (λ (g : DiskFile). g.seen)) stands.there) in
    record { found = f; there = is; within = subst (λ (bytes : List ℕ). length bytes ≤ file.size) (sym seen) stands.within }
  where
    same_seen : (x y : List ℕ) → Some x ≡ Some y → x ≡ y
    same_seen x y e = cc

pub stands_as : (known : List (Option KnownFile)) (d e : Disk) → ReadsAs known d e → KnownStand known d → KnownStand known e
stands_as [] d e same all = tt
stands_as (None ∷ slots) d e same all = (tt, stands_as slots d e (λ n file there. same (suc n) file there) all.1)
stands_as (Some file ∷ slots) d e same all = (stands_by file d e (e file.path) refl (same 0 file refl) all.0, stands_as slots d e (λ n other there. same (suc n) other there) all.1)

pub files_as : (T : List File) (known : List (Option KnownFile)) (fs : List NamedFile) (d e : Disk) → ((f : NamedFile) → IsAmong f fs → seen_of e f.have.path ≡ seen_of d f.have.path) → GoodFiles T (seen_of d) fs → GoodFiles T (seen_of e) fs
files_as T known [] d e same good = tt
files_as T known (f ∷ fs) d e same good = (subst (λ (o : Option (List ℕ)). GoodFile T o f) (sym (same f (inl refl))) good.0, files_as T known fs d e (λ g among. same g (inr among)) good.1)

pub part_as : (T : List File) (known : List (Option KnownFile)) (d e : Disk) (left : ℕ) (o : Option Block) → ((b : Block) → o ≡ Some b → seen_of e (path_at known b.file) ≡ seen_of d (path_at known b.file)) → IfSome o (HasPart T known d left) → IfSome o (HasPart T known e left)
part_as T known d e left None same part = tt
part_as T known d e left (Some b) same part = λ t found. subst (λ (x : Option (List ℕ)). HasBytes x t.bytes (span_at b.offset (b.length - left) ∷ [])) (sym (same b refl)) (part t found)

pub other_path : (path : List ℕ) → is_reserved path ≡ false → IsOther path
other_path path free =
    let none = or_parts (bytes_eq path log_path) (bytes_eq path new_log_path) free in
    record { old = eq_sym log_path path ∙ none.0; new = eq_sym new_log_path path ∙ none.1 }

-- all is read as before but the log: so each known file is
pub known_as_read : (known : List (Option KnownFile)) (d e : Disk) → AreFiles known → KeepsReads d e → ReadsAs known d e
known_as_read known d e files keeps n file there = (let other = other_path file.path (files.free n file there) in keeps file.path other.old other.new)

named_as_read : (fs : List NamedFile) (d e : Disk) → is_view fs ≡ true → KeepsReads d e → (f : NamedFile) → IsAmong f fs → seen_of e f.have.path ≡ seen_of d f.have.path
named_as_read fs d e view keeps f among = (let other = each_in (λ g. IsOther g.have.path) fs f (view_others fs view) among in keeps f.have.path other.old other.new)

-- the file of a block that is begun is known
pub begun_known : (e : EndView) (log : OpenLog) (w : PlainWriter) → IsDesk e log w → (k : ℕ) → k < length e.lanes → (b : Block) → (past_of e.history k).begun ≡ Some b → (file : KnownFile) × (known_at w.known b.file ≡ Some file)
begun_known e log w desk k within b begun =
    let part : Part = record { block = b; left = (lane_in e k).left } in
    let here : part_at w k ≡ Some part = desk.parts k within ∙ ap (λ (o : Option Block). part_by o (lane_in e k).left) begun in
    let way = desk.books.sound.way.each k part here in
    (way.file, way.known_as)

-- an end stays good on a disk on which all is read as before but the log
pub reads_after : (T : List File) (e : EndView) (log : OpenLog) (w : PlainWriter) → IsDesk e log w → (d d2 : Disk) → KeepsReads d d2 → GoodReads T (plain_of e log w) d → GoodReads T (plain_of e log w) d2
reads_after T e log w desk d d2 keeps good =
    let files = desk.books.sound.are_files in
    let read_so = known_as_read w.known d d2 files keeps in
    let behind = files_behind_are e log w desk.books in
    record {
      known = good.known;
      stands = stands_as w.known d d2 read_so good.stands;
      landed = files_as T w.known (log_after (plain_of e log w)).files d d2 (named_as_read (log_after (plain_of e log w)).files d d2 (subst (λ (fs : List NamedFile). is_view fs ≡ true) (sym behind) desk.books.sound.are_named.view) keeps) good.landed;
      parts = λ k within. part_as T w.known d d2 (lane_in e k).left (past_of e.history k).begun (λ b begun. read k within b (begun_known e log w desk k within b begun)) (good.parts k within);
    }
  where
    read : (k : ℕ) → k < length e.lanes → (b : Block) → ((file : KnownFile) × (known_at w.known b.file ≡ Some file)) → seen_of d2 (path_at w.known b.file) ≡ seen_of d (path_at w.known b.file)
    read k within b known = subst (λ (o : Option KnownFile). seen_of d2 (path_by o) ≡ seen_of d (path_by o)) (sym known.1) (known_as_read w.known d d2 desk.books.sound.are_files keeps b.file known.0 known.1)

-- ---- a flush, and what stands behind it

-- what landed may be logged
pub booked : (T : List File) (e : EndView) (log : OpenLog) (w : PlainWriter) (s : State) → AreBooks log w → RestsIn log s → (HasLostDisk e.answer → ⊥) → IfTold (λ t. DockGood T (plain_of e log w) t.now) s.told → IfTold (λ t. IsBooked T log w t.now) s.told
booked T e log w s books rests sound good = go s.told rests good
  where
    go : (a : Option Told) → IfTold (λ t. Rests log t.now) a → IfTold (λ t. DockGood T (plain_of e log w) t.now) a → IfTold (λ t. IsBooked T log w t.now) a
    go None r g = tt
    go (Some t) r g = record { fit = g.fit; rests = r; reads = subst (λ (fs : List NamedFile). GoodFiles T (seen_of t.now) fs) (files_behind_are e log w books) (g.reads sound).landed }

-- each moment is as it was
pub since_same : (T : List File) (a : Option Told) → GoodSince T [] a a
since_same T a = since_now (λ d. IfTold (λ t. AllGood T [] t.now d) a) a

-- no call was made
pub slips_same : (T : List File) (r : PlainReceiver) (n : ℕ) (a : Option Told) → IfTold (λ t. DockGood T r t.now → n ≡ n) a
slips_same T r n None = tt
slips_same T r n (Some t) = λ good. refl

-- the known files stand
pub slips_good : (T : List File) (r : PlainReceiver) (m n : ℕ) (a : Option Told) → (HasLostDisk r.answer → ⊥) → IfTold (λ t. KnownStand r.known t.now → n ≡ m) a → IfTold (λ t. DockGood T r t.now → n ≡ m) a
slips_good T r m n None sound same = tt
slips_good T r m n (Some t) sound same = λ good. same (good.reads sound).stands

-- the receiver stays on a disk that does
pub told_stays : (T : List File) (r t : PlainReceiver) (a : Option Told) → Stays r t → t.known ≡ r.known → (log_after t).files ≡ (log_after r).files → (HasLostDisk r.answer → ⊥) → IfTold (λ u. DockGood T r u.now) a → IfTold (λ u. DockGood T t u.now) a
told_stays T r t None stays known files sound good = tt
told_stays T r t (Some u) stays known files sound good = good_stays T r t u.now stays known files sound good

-- behind calls that leave all that is read as it was
pub told_after : (T : List File) (e : EndView) (log : OpenLog) (w : PlainWriter) (t : PlainReceiver) (a b : Option Told) → IsDesk e log w → (HasLostDisk e.answer → ⊥) → Stays (plain_of e log w) t → t.known ≡ w.known → (log_after t).files ≡ w.files
    → ReadsStand a b → GoodSince T [] a b → IfTold (λ u. DockGood T (plain_of e log w) u.now) a → IfTold (λ u. DockGood T t u.now) b
told_after T e log w t None None desk sound stays known files reads since good = tt
told_after T e log w t None (Some v) desk sound stays known files reads since good = absurd reads
told_after T e log w t (Some u) None desk sound stays known files reads since good = absurd reads
told_after T e log w t (Some u) (Some v) desk sound stays known files reads since good =
    good_stays T (plain_of e log w) t v.now stays known (files ∙ sym (files_behind_are e log w desk.books)) sound
    record { fit = last_fits T [] (Some u) (Some v) good.fit since; reads = λ here. reads_after T e log w desk u.now v.now reads (good.reads here) }

-- the disk is lost: each image is good for the tree, and no more is asked
pub told_lost : (T : List File) (r t : PlainReceiver) (a b : Option Told) → HasLostDisk t.answer → GoodSince T [] a b → IfTold (λ u. DockGood T r u.now) a → IfTold (λ u. DockGood T t u.now) b
told_lost T r t None None lost since good = tt
told_lost T r t None (Some v) lost since good = absurd since
told_lost T r t (Some u) None lost since good = absurd since
told_lost T r t (Some u) (Some v) lost since good = record { fit = last_fits T [] (Some u) (Some v) good.fit since; reads = λ here. absurd (here lost) }
