-- What of the blocks that landed is logged on the disk.
use Rattle.std.proofs.Common.{◌≡◌, inl, inr, ℕ, suc, Bool, true, false, List, [], ◌∷◌, ◌++◌, map, slice_get, Option, Some, None, refl, sym, ap, ◌∙◌, subst}
use Rattle.std.specs.Prelude.{◌==◌, if◌then◌else◌}
use Rattle.std.proofs.lemmas.Bool.{eqb-true, or_cases}
use Rattle.std.proofs.lemmas.List.{append-nil}
use Rattle.wdt_units.specs.declared.blocks.Block.{Block}
use Rattle.wdt_depot.specs.Disk.{Disk}
use Rattle.wdt_depot.specs.Moments.{IfTold, Told}
use Rattle.wdt_ranges.specs.Spans.{has}
use Rattle.wdt_ranges.proofs.ForCallers.{in_parts}
use Rattle.wdt_logfmt.specs.Batches.{path_at, path_by}
use Rattle.wdt_logfmt.specs.Beginning.{known_at, span_of}
use Rattle.wdt_logfmt.specs.Landing.{IsAmong}
use Rattle.wdt_logfmt.specs.Marks.{Marked, is_marked, is_there, marked_of, spans_at}
use Rattle.wdt_logfmt.specs.Spelling.{written_version}
use Rattle.wdt_logfmt.specs.View.{NamedFile, is_view}
use Rattle.wdt_good.specs.Good.{Each}
use Rattle.wdt_good.specs.Logged.{LoggedAt, LoggedName}
use Rattle.wdt_good.proofs.ForCallers.{among_covers, among_names, batch_grows, logged_covers, logged_names}
use Rattle.wdt_files.specs.PlainFiles.{known_of}
use Rattle.wdt_log.specs.OpenLog.{OpenLog, Rests}
use Rattle.wdt_sender_fsm.specs.Rules.{is_failure}
use Rattle.wdt_writer.specs.PlainWriter.{PlainWriter}
use Rattle.wdt_receiver_fsm.specs.Batched.{IsBatched}
use Rattle.wdt_receiver_fsm.specs.PlainReceiver.{has_finish}
use Rattle.wdt_receiver_fsm.specs.Receiver.{IsReceiver}
use Rattle.wdt_receiver_fsm.proofs.ForCallers.{landed_named, landed_there}
use Rattle.wdt_dock.specs.Desk.{IsDesk, plain_of}
use Rattle.wdt_receiver_fsm.specs.End.{EndView}
use Rattle.wdt_dock.specs.Landed.{AllLogged, EachLogged, IsLogged}

-- ---- the file of a number

-- a number that is marked is that of a file
marked_file : (fs : List NamedFile) (n : ℕ) → is_marked (map marked_of fs) n ≡ true → (f : NamedFile) × IsAmong f fs × (f.number ≡ n)
marked_file [] n there = absurd (cc)
marked_file (f ∷ fs) n there = elim (or_cases (f.number == n) (is_marked (map marked_of fs) n) there) [
  | inl here ↦ (f, inl refl, eqb-true f.number n here)
  | inr later ↦ (let r = marked_file fs n later in (r.0, inr r.1, r.2))
]

-- a position that is there of a number is that of a file
there_file : (fs : List NamedFile) (n k : ℕ) → has (spans_at (map marked_of fs) n) k ≡ true → (f : NamedFile) × IsAmong f fs × (f.number ≡ n) × (has f.have.spans k ≡ true)
there_file [] n k there = absurd (cc)
there_file (f ∷ fs) n k there = go (f.number == n) refl there (there_file fs n k)
  where
    go : (c : Bool) → (f.number == n) ≡ c → has (if c then f.have.spans else spans_at (map marked_of fs) n) k ≡ true
        → (has (spans_at (map marked_of fs) n) k ≡ true → (g : NamedFile) × IsAmong g fs × (g.number ≡ n) × (has g.have.spans k ≡ true))
        → (g : NamedFile) × IsAmong g (f ∷ fs) × (g.number ≡ n) × (has g.have.spans k ≡ true)
    go true is h later = (f, inl refl, eqb-true f.number n is, h)
    go false is h later = (let r = later h in (r.0, inr r.1, r.2, r.3))

each_place : {A : Type 0} (P : A → Type 0) (xs : List A) → ((i : ℕ) (x : A) → slice_get xs i ≡ Some x → P x) → Each P xs
each_place P [] at = tt
each_place P (x ∷ xs) at = (at 0 x refl, each_place P xs (λ i y there. at (suc i) y there))

-- ---- what is logged

module _ (e : EndView) (log : OpenLog) (w : PlainWriter) (d : Disk) (desk : IsDesk e log w) (batched : IsBatched (plain_of e log w)) (view : is_view e.opening ≡ true) (rests : Rests log d) where
  abbrev logged : List Block
  logged = batched.adds_up.logged

  -- a file of the log is known by its path
  path_as : (f : NamedFile) → IsAmong f log.meaning.files → f.have.path ≡ path_at w.known f.number
  path_as f among =
      let r = batch_grows written_version log.meaning.files w.files w.pending batched.adds_up.view desk.books.adds f among in
      let known : known_at w.known f.number ≡ Some (known_of r.0) = ap (known_at w.known) (sym r.2.number) ∙ desk.books.sound.are_named.known_as r.0 r.1 in
      sym r.2.path ∙ ap path_by (sym known)

  is_logged : (i : ℕ) (b : Block) → slice_get logged i ≡ Some b → IsLogged w.known d b
  is_logged i b here = record {
    named =
        let r = marked_file log.meaning.files b.file (ap (λ (ms : List Marked). is_marked ms b.file) (sym batched.adds_up.marks) ∙ landed_named e.opening logged i b here) in
        subst (LoggedName d) (path_as r.0 r.1 ∙ ap (path_at w.known) r.2) (logged_names log.version log.meaning.files log.meaning.end d rests r.0.have.path (among_names log.meaning.files r.0 r.1));
    covered = λ k within.
        let p = in_parts k (span_of b) within in
        let r = there_file log.meaning.files b.file k (ap (λ (ms : List Marked). is_there ms b.file k) (sym batched.adds_up.marks) ∙ landed_there e.opening logged i b k view here p.low p.high) in
        subst (λ (path : List ℕ). LoggedAt d path k) (path_as r.0 r.1 ∙ ap (path_at w.known) r.2) (logged_covers log.version log.meaning.files log.meaning.end d rests r.0.have.path k (among_covers log.meaning.files r.0 k r.1 r.3));
  }

  pub all_logged : is_failure e.answer ≡ false → AllLogged (plain_of e log w) d
  all_logged sound = record {
    older = logged;
    newer = w.unlogged;
    landed = batched.adds_up.landed;
    logged = each_place (IsLogged w.known d) logged is_logged;
    few = (batched.below sound).bytes;
  }

  pub each_logged : IsReceiver (plain_of e log w) → has_finish (plain_of e log w) ≡ true → EachLogged (plain_of e log w) d
  each_logged receiver finish =
      let all = batched.adds_up.landed ∙ ap (λ (bs : List Block). logged ++ bs) (receiver.finished finish) ∙ append-nil logged in
      subst (Each (IsLogged w.known d)) (sym all) (each_place (IsLogged w.known d) logged is_logged)

-- ---- the same of the disk that is told

module _ (e : EndView) (log : OpenLog) (w : PlainWriter) (desk : IsDesk e log w) (batched : IsBatched (plain_of e log w)) (view : is_view e.opening ≡ true) where
  pub told_all : (a : Option Told) → IfTold (λ t. Rests log t.now) a → is_failure e.answer ≡ false → IfTold (λ t. AllLogged (plain_of e log w) t.now) a
  told_all None rests sound = tt
  told_all (Some t) rests sound = all_logged e log w t.now desk batched view rests sound

  pub told_each : (a : Option Told) → IfTold (λ t. Rests log t.now) a → IsReceiver (plain_of e log w) → has_finish (plain_of e log w) ≡ true → IfTold (λ t. EachLogged (plain_of e log w) t.now) a
  told_each None rests receiver finish = tt
  told_each (Some t) rests receiver finish = each_logged e log w t.now desk batched view rests receiver finish
