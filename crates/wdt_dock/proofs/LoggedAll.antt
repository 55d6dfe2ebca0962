-- The flush of what landed, as the plain receiver's.
use Rattle.std.proofs.Common.{◌≡◌, ◌⊎◌, ℕ, ◌+◌, ◌<◌, ◌≤◌, ◌^◌, Bool, true, List, [], ◌∷◌, filter, length, map, Option, Some, None, Result, Ok, refl, sym, ap, ◌∙◌, subst}
use Rattle.std.specs.Prelude.{IsSome}
use Rattle.wdt_units.specs.declared.limits.TheConstants.{MAX_BLOCKS}
use Rattle.wdt_units.specs.Tree.{File}
use Rattle.wdt_units.specs.declared.blocks.Block.{Block}
use Rattle.wdt_depot.specs.Disk.{Disk}
use Rattle.wdt_depot.specs.Moments.{IfTold, Told}
use Rattle.wdt_depot.specs.Programs.{Calls, Drive, drive_of}
use Rattle.wdt_depot.specs.State.{State}
use Rattle.wdt_logfmt.specs.declared.entry.LogEntry.{LogEntry}
use Rattle.wdt_logfmt.specs.Adding.{all_added}
use Rattle.wdt_logfmt.specs.Batches.{entries_of, files_or, numbers_of, path_at}
use Rattle.wdt_logfmt.specs.Landing.{IsAmong}
use Rattle.wdt_logfmt.specs.Spelling.{closed_batch, spell_all, written_version}
use Rattle.wdt_logfmt.specs.View.{Meaning, NamedFile}
use Rattle.wdt_good.specs.Calls.{run_flush}
use Rattle.wdt_good.specs.Good.{Each}
use Rattle.wdt_good.proofs.ForCallers.{each_from}
use Rattle.wdt_log.specs.declared.fail.LogFail.{LogFail}
use Rattle.wdt_log.specs.Answers.{RanLog}
use Rattle.wdt_log.specs.Flushing.{AllStand, HasLanded, IsPathAmong}
use Rattle.wdt_log.specs.OpenLog.{Continues, OpenLog}
use Rattle.wdt_writer.specs.PlainWriter.{PlainWriter, all_logged as written_off}
use Rattle.wdt_receiver_fsm.specs.Batched.{is_filled}
use Rattle.wdt_receiver_fsm.specs.Logging.{all_logged, all_logged_by, dirty_paths, flush_calls, flush_calls_by, log_after, pending}
use Rattle.wdt_dock.specs.Booked.{IsBooked, KnownStand}
use Rattle.wdt_dock.specs.Desk.{AreBooks, plain_of}
use Rattle.wdt_receiver_fsm.specs.End.{EndView}
use Rattle.wdt_dock.proofs.Booking.{all_stand, touched}
use Rattle.wdt_dock.proofs.Lengths.{batch_fits}

module _ (log : OpenLog) (w : PlainWriter) (books : AreBooks log w) where
  adds_now : all_added log.version log.meaning.files w.pending ≡ Some w.files
  adds_now = ap (λ (v : ℕ). all_added v log.meaning.files w.pending) books.version ∙ books.adds

  -- what is to be logged continues the log
  pub continues : Continues log.version log.meaning.files w.pending
  continues = subst (λ (o : Option (List NamedFile)). IsSome o) (sym adds_now) refl

  pub adds_entries : all_added written_version log.meaning.files (entries_of w.known log.meaning.files w.unlogged) ≡ Some w.files
  adds_entries = ap (λ (es : List LogEntry). all_added written_version log.meaning.files es) (sym books.pending) ∙ books.adds

  -- what landed may be flushed
  landed_now : (T : List File) (paths : List (List ℕ)) → paths ≡ map (path_at w.known) (numbers_of w.unlogged) → (es : List LogEntry) → es ≡ w.pending → (d : Disk) → IsBooked T log w d → HasLanded T log paths w.files es d
  landed_now T paths is es same d booked = record {
    fit = booked.fit;
    rests = booked.rests;
    adds = ap (λ (x : List LogEntry). all_added log.version log.meaning.files x) same ∙ adds_now;
    reads = booked.reads;
    synced = subst (λ (ps : List (List ℕ)). Each (λ f. IsPathAmong f.have.path ps ⊎ IsAmong f log.meaning.files) w.files) (sym is)
        (each_from (λ f. IsPathAmong f.have.path (map (path_at w.known) (numbers_of w.unlogged)) ⊎ IsAmong f log.meaning.files) w.files (touched w.known w.unlogged log.meaning.files w.files books.sound.are_named adds_entries));
  }

  pub landed : (T : List File) (paths : List (List ℕ)) → paths ≡ map (path_at w.known) (numbers_of w.unlogged) → (es : List LogEntry) → es ≡ w.pending → (a : Option Told) → IfTold (λ t. IsBooked T log w t.now) a → IfTold (λ t. HasLanded T log paths w.files es t.now) a
  landed T paths is es same None booked = tt
  landed T paths is es same (Some t) booked = landed_now T paths is es same t.now booked

  -- its batch is small enough
  pub small : (es : List LogEntry) → es ≡ w.pending → length (filter is_filled w.unlogged) ≤ MAX_BLOCKS → length (spell_all es) < 2 ^ 32
  small es same few =
      subst (λ (x : List LogEntry). length (spell_all x) < 2 ^ 32) (sym (same ∙ books.pending)) (batch_fits w.known w.unlogged log.meaning.files w.files books.sound.are_files books.sound.are_named adds_entries few)

  -- a file is at each path
  stand : (paths : List (List ℕ)) → paths ≡ map (path_at w.known) (numbers_of w.unlogged) → (d : Disk) → KnownStand w.known d → AllStand paths d
  stand paths is d known = subst (λ (ps : List (List ℕ)). AllStand ps d) (sym is) (all_stand w.known w.unlogged d books.known known)

  pub slips_known : (paths : List (List ℕ)) → paths ≡ map (path_at w.known) (numbers_of w.unlogged) → (m n : ℕ) (a : Option Told) → IfTold (λ t. AllStand paths t.now → n ≡ m) a → IfTold (λ t. KnownStand w.known t.now → n ≡ m) a
  slips_known paths is m n None same = tt
  slips_known paths is m n (Some t) same = λ known. same (stand paths is t.now known)

  -- the log behind it
  module _ (new : OpenLog) (files : all_added log.version log.meaning.files w.pending ≡ Some new.meaning.files) (end : new.meaning.end ≡ log.meaning.end + length (closed_batch w.pending)) where
    files_are : new.meaning.files ≡ w.files
    files_are = same new.meaning.files w.files (sym files ∙ adds_now)
      where
        same : (x y : List NamedFile) → Some x ≡ Some y → x ≡ y
        same x y e = cc

    files_after : (e : EndView) → (log_after (plain_of e log w)).files ≡ w.files
    files_after e = ap (λ (o : Option (List NamedFile)). files_or log.meaning.files o) adds_entries

    meaning_is : (e : EndView) → new.meaning ≡ log_after (plain_of e log w)
    meaning_is e =
        let one : new.meaning.files ≡ (log_after (plain_of e log w)).files = files_are ∙ sym (files_after e) in
        let two : new.meaning.end ≡ (log_after (plain_of e log w)).end = end ∙ ap (λ (es : List LogEntry). log.meaning.end + length (closed_batch es)) books.pending in
        let made : List NamedFile → ℕ → Meaning = λ fs n. record { files = fs; end = n } in
        ap (λ (fs : List NamedFile). made fs new.meaning.end) one ∙ ap (λ (n : ℕ). made (log_after (plain_of e log w)).files n) two

    logged_by : (e : EndView) (bs : List Block) → w.unlogged ≡ bs → (bs ≡ [] → ⊥) → plain_of e new (written_off w) ≡ all_logged_by (plain_of e log w) bs
    logged_by e [] is some = absurd (some refl)
    logged_by e (b ∷ bs) is some = ap (λ (m : Meaning). plain_of e record { version = new.version; meaning = m; shut = new.shut } (written_off w)) (meaning_is e)

    pub plain_logged : (w2 : PlainWriter) → w2 ≡ written_off w → (w.unlogged ≡ [] → ⊥) → (e : EndView) → plain_of e new w2 ≡ all_logged (plain_of e log w)
    plain_logged w2 is some e = ap (λ (x : PlainWriter). plain_of e new x) is ∙ logged_by e w.unlogged refl some

    pub books_after : (w2 : PlainWriter) → w2 ≡ written_off w → new.version ≡ log.version → AreBooks new w2
    books_after w2 is version = subst (λ (x : PlainWriter). AreBooks new x) (sym is) record {
      version = version ∙ books.version;
      sound = books.sound;
      known = refl;
      pending = refl;
      adds = ap (λ (fs : List NamedFile). Some fs) files_are;
    }

  -- nothing is to be logged
  pub plain_same : w.unlogged ≡ [] → (e : EndView) → plain_of e log w ≡ all_logged (plain_of e log w)
  plain_same none e = sym (ap (λ (bs : List Block). all_logged_by (plain_of e log w) bs) none)

  pub calls_none : {T : Type 0} (x : T) → w.unlogged ≡ [] → (e : EndView) (s : State) → RanLog (flush_calls (plain_of e log w)) (Ok x) s s
  calls_none x none e s = λ memory quiet. subst (λ (bs : List Block). Calls (flush_calls_by (plain_of e log w) bs) true (drive_of s) (drive_of s)) (sym none) (idle (drive_of s))
    where
      idle : (a : Option Drive) → Calls (λ p. (true, p)) true a a
      idle None = refl
      idle (Some p) = refl

  pub calls_made : {T : Type 0} (r : Result T LogFail) (paths : List (List ℕ)) → paths ≡ map (path_at w.known) (numbers_of w.unlogged) → (w.unlogged ≡ [] → ⊥) → (e : EndView) (s0 s1 : State)
      → RanLog (run_flush paths log.meaning.end (closed_batch w.pending)) r s0 s1 → RanLog (flush_calls (plain_of e log w)) r s0 s1
  calls_made {T} r paths is some e s0 s1 ran =
      subst (λ (f : Drive → Bool × Drive). RanLog {T = T} f r s0 s1)
      (ap (λ (ps : List (List ℕ)). run_flush ps log.meaning.end (closed_batch w.pending)) is
      ∙ ap (λ (es : List LogEntry). run_flush (map (path_at w.known) (numbers_of w.unlogged)) log.meaning.end (closed_batch es)) books.pending
      ∙ made w.unlogged refl some) ran
    where
      made : (bs : List Block) → w.unlogged ≡ bs → (bs ≡ [] → ⊥) → run_flush (dirty_paths (plain_of e log w)) log.meaning.end (closed_batch (pending (plain_of e log w))) ≡ flush_calls_by (plain_of e log w) bs
      made [] is0 some0 = absurd (some0 refl)
      made (b ∷ bs) is0 some0 = refl
