-- A file that is made for the first block of a path that isn't known, and a begun block, of which nothing is written.
use Rattle.std.proofs.Common.{◌≡◌, inl, inr, ℕ, ◌+◌, ◌-◌, ◌<◌, ◌≤◌, nat_le, nat_lt, Bool, true, false, ◌||◌, not, List, [], ◌∷◌, ◌++◌, length, Option, Some, None, refl, sym, ap, ◌∙◌, subst, arith}
use Rattle.std.specs.Prelude.{IfSome, is_some, option_map}
use Rattle.std.specs.Str.{bytes_eq}
use Rattle.std.proofs.lemmas.Bool.{and_parts, cases_eq, leb-true, ltb-true, or_cases}
use Rattle.std.proofs.lemmas.Slice.Eq.{bytes_eq-Decides}
use Rattle.wdt_units.specs.declared.blocks.Block.{Block}
use Rattle.wdt_units.specs.declared.blocks.Header.{Header}
use Rattle.wdt_units.specs.Have.{is_in}
use Rattle.wdt_units.specs.Headers.{FitsHeader, IsHeaderOf}
use Rattle.wdt_units.specs.Tree.{File, file_of}
use Rattle.wdt_units.specs.declared.numbers.Lane.{Lane}
use Rattle.wdt_ranges.specs.Spans.{has}
use Rattle.wdt_depot.specs.Disk.{Disk, DiskFile, clean, made, seen_of}
use Rattle.wdt_depot.specs.Moments.{IfTold, Told}
use Rattle.wdt_depot.proofs.ForCallers.{with_file-other, with_file-same}
use Rattle.wdt_logfmt.specs.Adding.{span_at}
use Rattle.wdt_logfmt.specs.Batches.{path_at, path_by}
use Rattle.wdt_logfmt.specs.Beginning.{KnownFile, block_of, is_new, known_at, number_of, with_known}
use Rattle.wdt_logfmt.specs.Landing.{IsAmong}
use Rattle.wdt_logfmt.specs.Spelling.{written_version}
use Rattle.wdt_logfmt.specs.View.{NamedFile, is_view, names}
use Rattle.wdt_logfmt.proofs.ForCallers.{number_new}
use Rattle.wdt_good.specs.Good.{Each, GoodFiles, HasBytes}
use Rattle.wdt_good.proofs.ForCallers.{batch_grows}
use Rattle.wdt_files.specs.PlainFiles.{known_of}
use Rattle.wdt_log.specs.OpenLog.{OpenLog, Rests}
use Rattle.wdt_writer.specs.Answers.{fault_at}
use Rattle.wdt_writer.specs.Calls.{CanMake}
use Rattle.wdt_writer.specs.PlainWriter.{PlainWriter, begins, begun_on, file_told, known_by, known_with, lands as landed_in, made_by, whole}
use Rattle.wdt_receiver_fsm.specs.declared.events.RecvEvent.TheVariants as events
use Rattle.wdt_receiver_fsm.specs.Logging.{log_after}
use Rattle.wdt_receiver_fsm.specs.PlainReceiver.{PlainReceiver, lane_at, past_at}
use Rattle.wdt_receiver_fsm.specs.ReceiverHistory.{past_of}
use Rattle.wdt_dock.specs.Desk.{AreBooks, IsDesk, plain_of}
use Rattle.wdt_dock.specs.DockGood.{GoodReads, HasPart, HasPartOf, IfKnown, IsTrees, StandsWithin}
use Rattle.wdt_receiver_fsm.specs.End.{EndView, lane_in}
use Rattle.wdt_dock.proofs.Begun.{Begun, books_begun, known_on, noted_begun, part_now}
use Rattle.wdt_dock.proofs.Goodness.{ReadsAs, begun_known, files_as, files_behind_are, part_as, stands_as}
use Rattle.wdt_dock.proofs.LandedBlock.{files_landed}
use Rattle.wdt_dock.proofs.Landings.{reads_landed}
use Rattle.wdt_dock.proofs.Parting.{Drops}
use Rattle.wdt_dock.proofs.Written.{known_file}

-- ---- a new path

number_none : (o : Option ℕ) → not (is_some o) ≡ true → o ≡ None
number_none None new = refl
number_none (Some n) new = absurd (cc)

no_names : (fs : List NamedFile) (path : List ℕ) → ((f : NamedFile) → IsAmong f fs → f.have.path ≡ path → ⊥) → names fs path ≡ false
no_names [] path none = refl
no_names (f ∷ fs) path none = go (bytes_eq f.have.path path) refl (no_names fs path (λ g among. none g (inr among)))
  where
    go : (c : Bool) → bytes_eq f.have.path path ≡ c → names fs path ≡ false → (c || names fs path) ≡ false
    go true same later = absurd (none f (inl refl) ((bytes_eq-Decides f.have.path path).0 same))
    go false other later = later

-- neither the log nor what it will say names it
module _ (log : OpenLog) (w : PlainWriter) (books : AreBooks log w) (h : Header) (new : is_new w.known h ≡ true) where
  not_known : (n : ℕ) (file : KnownFile) → known_at w.known n ≡ Some file → file.path ≡ h.path → ⊥
  not_known n file there = number_new w.known h.path n file (number_none (number_of w.known h.path) new) there

  pub not_named : (f : NamedFile) → IsAmong f w.files → f.have.path ≡ h.path → ⊥
  not_named f among = not_known f.number (known_of f) (books.sound.are_named.known_as f among)

  pub not_logged : is_view log.meaning.files ≡ true → names log.meaning.files h.path ≡ false
  not_logged view = no_names log.meaning.files h.path (λ f among same.
      let g = batch_grows written_version log.meaning.files w.files w.pending view books.adds f among in
      not_named g.0 g.1 (g.2.path ∙ same))

-- its file may be made
pub may_make : (log : OpenLog) (w : PlainWriter) (h : Header) (a : Option Told) → AreBooks log w → IfTold (λ t. Rests log t.now) a → IfTold (λ t. CanMake w.known h log.meaning.files t.now) a
may_make log w h None books rests = tt
may_make log w h (Some t) books rests = λ new. not_logged log w books h new rests.view

-- ---- the disk with the file

empty_short : (n : ℕ) → length (clean []).seen ≤ n
unfolding clean
empty_short n = omega arith

-- all known files are read as before
pub made_as : (known : List (Option KnownFile)) (h : Header) (d : Disk) → ReadsAs known d (begun_on known h d)
made_as known h d n file there = go (is_new known h) refl
  where
    go : (c : Bool) → is_new known h ≡ c → seen_of (made_by h.path c d) file.path ≡ seen_of d file.path
    go false old = refl
    go true new = by (bytes_eq h.path file.path) refl
      where
        by : (x : Bool) → bytes_eq h.path file.path ≡ x → seen_of (made h.path d) file.path ≡ seen_of d file.path
        by true same = absurd (number_new known h.path n file (number_none (number_of known h.path) new) there (sym ((bytes_eq-Decides h.path file.path).0 same)))
        by false other = ap (option_map (λ (f : DiskFile). f.seen)) (with_file-other h.path file.path (Some (clean [])) d other)

-- what holds of each known file and of one more
pub each_with : (P : KnownFile → Type 0) (known : List (Option KnownFile)) (file : KnownFile) → P file → Each (IfKnown P) known → Each (IfKnown P) (with_known known file)
each_with P [] file here all = (here, tt)
each_with P (None ∷ slots) file here all = (here, all.1)
each_with P (Some other ∷ slots) file here all = (all.0, each_with P slots file here all.1)

each_known : (P : KnownFile → Type 0) (known : List (Option KnownFile)) (h : Header) → (is_new known h ≡ true → P (file_told h)) → Each (IfKnown P) known → Each (IfKnown P) (known_with known h)
each_known P known h here all = go (is_new known h) refl
  where
    go : (c : Bool) → is_new known h ≡ c → Each (IfKnown P) (known_by known h c)
    go true new = each_with P known (file_told h) (here new) all
    go false old = all

-- no position is in an empty span
in_none : (k o n : ℕ) → n ≡ 0 → has (span_at o n ∷ []) k ≡ true → ⊥
in_none k o n none h = elim (or_cases (is_in k (span_at o n)) false h) [
  | inl here ↦ (let p = and_parts (nat_le o k) (nat_lt k (o + n)) here in let low = leb-true o k p.0 in let high = ltb-true k (o + n) p.1 in omega arith)
  | inr never ↦ absurd (cc)
]

bytes_none : (bytes : List ℕ) (o n : ℕ) (found : Option (List ℕ)) (there : List ℕ) → found ≡ Some there → n ≡ 0 → HasBytes found bytes (span_at o n ∷ [])
bytes_none bytes o n None there is none = absurd (cc)
bytes_none bytes o n (Some found) there is none = λ k h. absurd (in_none k o n none h)

module _ (e : EndView) (log : OpenLog) (w : PlainWriter) (desk : IsDesk e log w) (T : List File) (h : Header) (d : Disk) where
  abbrev d1 : Disk
  d1 = begun_on w.known h d

  -- the end as it was, over it
  pub made_reads : GoodReads T (plain_of e log w) d → GoodReads T (plain_of e log w) d1
  made_reads good =
      let same = made_as w.known h d in
      record {
        known = good.known;
        stands = stands_as w.known d d1 same good.stands;
        landed = files_as T w.known (log_after (plain_of e log w)).files d d1 (λ f among. named_same f (subst (λ (fs : List NamedFile). IsAmong f fs) (files_behind_are e log w desk.books) among)) good.landed;
        parts = λ k within. part_as T w.known d d1 (lane_in e k).left (past_of e.history k).begun (λ b begun. path_same b (begun_known e log w desk k within b begun)) (good.parts k within);
      }
    where
      named_same : (f : NamedFile) → IsAmong f w.files → seen_of d1 f.have.path ≡ seen_of d f.have.path
      named_same f among = made_as w.known h d f.number (known_of f) (desk.books.sound.are_named.known_as f among)

      path_same : (b : Block) → ((file : KnownFile) × (known_at w.known b.file ≡ Some file)) → seen_of d1 (path_at w.known b.file) ≡ seen_of d (path_at w.known b.file)
      path_same b known = subst (λ (o : Option KnownFile). seen_of d1 (path_by o) ≡ seen_of d (path_by o)) (sym known.1) (made_as w.known h d b.file known.0 known.1)

  -- ---- with a begun block

  module _ (l : Lane) (within : l.0 < length e.lanes) (idle : (past_of e.history l.0).begun ≡ None) (fits : FitsHeader h) (none : fault_at w h ≡ None) (tree : IsHeaderOf T h) where
    abbrev b : Block
    b = block_of w.known h

    abbrev w1 : PlainWriter
    w1 = begins w l.0 h

    books1 : AreBooks log w1
    books1 = books_begun e log w l h desk within idle fits none

    trees_now : Each (IfKnown (IsTrees T)) w.known → Each (IfKnown (IsTrees T)) w1.known
    trees_now all = each_known (IsTrees T) w.known h (λ new. tree) all

    stand_now : Each (IfKnown (StandsWithin d1)) w.known → Each (IfKnown (StandsWithin d1)) w1.known
    stand_now all = each_known (StandsWithin d1) w.known h (λ new.
        subst (λ (c : Bool). StandsWithin (made_by h.path c d) (file_told h)) (sym new) (record { found = clean []; there = with_file-same h.path (Some (clean [])) d; within = empty_short h.size })) all

    -- nothing of it is written
    nothing_yet : Each (IfKnown (StandsWithin d1)) w1.known → (left : ℕ) → b.length - left ≡ 0 → HasPart T w1.known d1 left b
    nothing_yet all left none_written = λ t found.
        let on = books1.sound.way.each l.0 (whole b) (part_now e log w l h desk within idle fits none) in
        let stood = known_file (StandsWithin d1) w1.known b.file on.file all on.known_as in
        bytes_none t.bytes b.offset (b.length - left) (seen_of d1 (path_at w1.known b.file)) stood.found.seen
        (ap (λ (o : Option KnownFile). seen_of d1 (path_by o)) on.known_as ∙ ap (option_map (λ (f : DiskFile). f.seen)) stood.there) none_written

    part_on : (k : ℕ) → k < length e.lanes → HasPartOf T (plain_of e log w) d1 k → IfSome (past_of e.history k).begun (HasPart T w1.known d1 (lane_in e k).left)
    part_on k there part = go (past_of e.history k).begun refl part
      where
        go : (o : Option Block) → (past_of e.history k).begun ≡ o → IfSome o (HasPart T w.known d1 (lane_in e k).left) → IfSome o (HasPart T w1.known d1 (lane_in e k).left)
        go None is part = tt
        go (Some c) is part =
            let file = begun_known e log w desk k there c is in
            subst (λ (path : List ℕ). (t : File) → file_of T path ≡ Some t → HasBytes (seen_of d1 path) t.bytes (span_at c.offset (c.length - (lane_in e k).left) ∷ []))
            (sym (ap path_by (known_on w.known h c.file (ap is_some file.1)))) part

    pub begun_reads : (t : PlainReceiver) → t.known ≡ w1.known → (log_after t).files ≡ w.files → Begun (plain_of e log w) t l.0 b → GoodReads T (plain_of e log w) d → GoodReads T t d1
    begun_reads t known files begun good =
        let was = made_reads good in
        record {
          known = subst (λ (ks : List (Option KnownFile)). Each (IfKnown (IsTrees T)) ks) (sym known) (trees_now was.known);
          stands = subst (λ (ks : List (Option KnownFile)). Each (IfKnown (StandsWithin d1)) ks) (sym known) (stand_now was.stands);
          landed = subst (λ (fs : List NamedFile). GoodFiles T (seen_of d1) fs) (files_behind_are e log w desk.books ∙ sym files) was.landed;
          parts = λ k there. elim (cases_eq k l.0) [
            | inl same ↦ subst (λ (o : Option Block). IfSome o (HasPart T t.known d1 (lane_at t k).left)) (sym (ap (λ (j : ℕ). (past_at t j).begun) same ∙ begun.here))
                (subst (λ (ks : List (Option KnownFile)). HasPart T ks d1 (lane_at t k).left b) (sym known)
                (nothing_yet (stand_now was.stands) (lane_at t k).left (ap (λ (j : ℕ). b.length - (lane_at t j).left) same ∙ begun.none)))
            | inr ne ↦ subst (λ (o : Option Block). IfSome o (HasPart T t.known d1 (lane_at t k).left)) (sym (begun.begun k ne))
                (subst (λ (n : ℕ). IfSome (past_of e.history k).begun (HasPart T t.known d1 n)) (sym (begun.left k ne))
                (subst (λ (ks : List (Option KnownFile)). IfSome (past_of e.history k).begun (HasPart T ks d1 (lane_in e k).left)) (sym known)
                (part_on k (subst (λ (n : ℕ). k < n) begun.lanes there) (was.parts k (subst (λ (n : ℕ). k < n) begun.lanes there)))))
          ];
        }

    -- it is empty, and has landed
    module _ (empty : h.length ≡ 0) where
      abbrev e1 : EndView
      e1 = record e { history = e.history ++ events.Begin l b ∷ [] }

      pub placed_reads : (t : PlainReceiver) → t.known ≡ w1.known → (log_after t).files ≡ (landed_in w1 l.0 b).files → Drops (plain_of e1 log w1) t l.0 → GoodReads T (plain_of e log w) d → GoodReads T t d1
      placed_reads t known files drops good =
          let files1 = files_behind_are e1 log w1 books1 in
          let reads1 = begun_reads (plain_of e1 log w1) refl files1 (noted_begun (plain_of e log w) w1.known l b empty) good in
          reads_landed T (plain_of e1 log w1) t d1 l.0 drops known
          (subst (λ (fs : List NamedFile). GoodFiles T (seen_of d1) fs) (sym files)
          (files_landed log w1 books1 l.0 (whole b) (part_now e log w l h desk within idle fits none) T d1 reads1.known reads1.stands (nothing_yet reads1.stands 0 (nothing empty))
          (subst (λ (fs : List NamedFile). GoodFiles T (seen_of d1) fs) files1 reads1.landed))) reads1
        where
          nothing : h.length ≡ 0 → h.length - 0 ≡ 0
          nothing is = omega (arith, is)
