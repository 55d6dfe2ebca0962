-- A block that lands: what is to be logged of it, and that the files that it leads to are the tree's.
use Rattle.std.proofs.Common.{◌≡◌, ◌⊎◌, inl, inr, ℕ, ◌+◌, ◌-◌, ◌<◌, ◌≤◌, Bool, true, false, ◌&&◌, nat_lt, List, [], ◌∷◌, ◌++◌, append-nil, filter, length, Option, Some, None, refl, sym, ap, ◌∙◌, subst, arith}
use Rattle.std.specs.Prelude.{cond, option_and_then, option_map, if◌then◌else◌, is_some, slice_set, ◌==◌}
use Rattle.std.specs.List.{list_any}
use Rattle.wdt_units.specs.declared.limits.TheConstants.{MAX_BLOCKS}
use Rattle.wdt_units.specs.declared.blocks.Block.{Block}
use Rattle.wdt_units.specs.Tree.{File, file_of}
use Rattle.wdt_depot.specs.Disk.{Disk, DiskFile, seen_of}
use Rattle.wdt_logfmt.specs.declared.entry.LogEntry.{LogEntry}
use Rattle.wdt_logfmt.specs.declared.entry.LogEntry.TheVariants.{File as Named, Covered}
use Rattle.wdt_logfmt.specs.Adding.{added, all_added, can_name, just_named, put_by_number, span_at}
use Rattle.wdt_logfmt.specs.Batches.{block_entries, entries_of, file_entry, file_entry_by, files_behind, files_or, has_known_file, have_known_files, path_at, path_by, span_entry}
use Rattle.wdt_logfmt.specs.Beginning.{KnownFile, known_at}
use Rattle.wdt_logfmt.specs.Landing.{IsAmong}
use Rattle.wdt_logfmt.specs.Spelling.{written_version}
use Rattle.wdt_logfmt.specs.View.{NamedFile, is_numbered}
use Rattle.wdt_logfmt.proofs.ForCallers.{all_added-append, batch-view, entries-append, taken_true}
use Rattle.wdt_good.specs.Batch.{HoldsBatch, HoldsEntry}
use Rattle.wdt_good.specs.Good.{Each, GoodFiles, HasBytes, HasTreeBytes, Stands}
use Rattle.wdt_good.proofs.ForCallers.{batch_good, each_from, holds_more}
use Rattle.wdt_log.specs.OpenLog.{OpenLog}
use Rattle.wdt_files.specs.PlainFiles.{AreNamed, known_of}
use Rattle.wdt_writer.specs.declared.parts.Part.{Part}
use Rattle.wdt_writer.specs.OnWay.{AreSound, IsOnWay, IsSettled}
use Rattle.wdt_writer.specs.PlainWriter.{PlainWriter, lands, part_of}
use Rattle.wdt_writer.proofs.ForCallers.{settles}
use Rattle.wdt_receiver_fsm.specs.Batched.{is_filled}
use Rattle.wdt_dock.specs.Booked.{KnownStand}
use Rattle.wdt_dock.specs.Desk.{AreBooks}
use Rattle.wdt_dock.specs.DockGood.{HasPart, IfKnown, IsTrees, StandsWithin}
use Rattle.wdt_dock.proofs.Lengths.{parted}
use Rattle.wdt_dock.proofs.Written.{known_file}

-- ---- a file among others

put_splits : (x g : NamedFile) (fs : List NamedFile) → IsAmong g (put_by_number x fs) → (x ≡ g) ⊎ IsAmong g fs
put_splits x g [] (inl is) = inl is
put_splits x g [] (inr none) = absurd none
put_splits x g (f ∷ fs) among = go (put_splits x g fs) (nat_lt x.number f.number) among
  where
    go : (IsAmong g (put_by_number x fs) → (x ≡ g) ⊎ IsAmong g fs) → (b : Bool) → IsAmong g (if b then x ∷ f ∷ fs else f ∷ put_by_number x fs) → (x ≡ g) ⊎ IsAmong g (f ∷ fs)
    go later true (inl is) = inl is
    go later true (inr more) = inr more
    go later false (inl is) = inr (inl is)
    go later false (inr more) = elim (later more) [ inl is ↦ inl is | inr a ↦ inr (inr a) ]

-- ---- the books

known_more : (known : List (Option KnownFile)) (bs : List Block) (b : Block) → have_known_files known bs ≡ true → has_known_file known b ≡ true → have_known_files known (bs ++ b ∷ []) ≡ true
known_more known [] b all here = ap (λ (c : Bool). c && true) here
known_more known (x ∷ bs) b all here = go (has_known_file known x) refl all (λ rest. known_more known bs b rest here)
  where
    go : (c : Bool) → has_known_file known x ≡ c → (c && have_known_files known bs) ≡ true → (have_known_files known bs ≡ true → have_known_files known (bs ++ b ∷ []) ≡ true) → (c && have_known_files known (bs ++ b ∷ [])) ≡ true
    go true e rest more = more rest
    go false e rest more = absurd (cc)

module _ (log : OpenLog) (w : PlainWriter) (books : AreBooks log w) (l : ℕ) (p : Part) (there : part_of w.parts l ≡ Some p) where
  pub way : IsOnWay w.known w.files p
  way = books.sound.way.each l p there

  abbrev entries : List LogEntry
  entries = block_entries w.known w.files p.block

  pub leads : (more : List NamedFile) × IsSettled w.known w.files w.parts l p more
  leads = settles w.known w.files w.parts books.sound.are_files books.sound.are_named books.sound.way l p there

  -- the files behind it
  pub behind_is : files_behind w.files entries ≡ leads.0
  behind_is = ap (λ (o : Option (List NamedFile)). files_or w.files o) leads.1.adds

  pub adds_now : all_added written_version w.files entries ≡ Some (files_behind w.files entries)
  adds_now = leads.1.adds ∙ ap (λ (fs : List NamedFile). Some fs) (sym behind_is)

  pub books_landed : AreBooks log (lands w l p.block)
  books_landed = record {
    version = books.version;
    sound = subst (λ (fs : List NamedFile). AreSound w.known fs (slice_set w.parts l None)) (sym behind_is) record { are_files = books.sound.are_files; are_named = leads.1.named; way = leads.1.way };
    known = known_more w.known w.unlogged p.block books.known (ap is_some way.known_as);
    pending =
        ap (λ (es : List LogEntry). es ++ entries) books.pending
        ∙ sym (entries-append w.known log.meaning.files w.files w.unlogged (p.block ∷ []) (ap (λ (es : List LogEntry). all_added written_version log.meaning.files es) (sym books.pending) ∙ books.adds)
        ∙ ap (λ (es : List LogEntry). entries_of w.known log.meaning.files w.unlogged ++ es) (append-nil entries));
    adds = all_added-append written_version log.meaning.files w.pending entries ∙ ap (option_and_then (λ gs. all_added written_version gs entries)) books.adds ∙ adds_now;
  }

  -- ---- the tree

  module _ (T : List File) (d : Disk) (trees : Each (IfKnown (IsTrees T)) w.known) (stand : KnownStand w.known d) (whole : HasPart T w.known d 0 p.block) (good : GoodFiles T (seen_of d) w.files) where
    tree : IsTrees T way.file
    tree = known_file (IsTrees T) w.known p.block.file way.file trees way.known_as

    stood : StandsWithin d way.file
    stood = known_file (StandsWithin d) w.known p.block.file way.file stand way.known_as

    names_held : HoldsEntry T (seen_of d) w.files (Named p.block.file way.file.path way.file.size way.file.stamp)
    names_held = (
      record { file = tree.file; there = tree.found; size = sym tree.sized; stamp = sym tree.stamped },
      subst (λ (o : Option (List ℕ)). Stands o (just_named p.block.file way.file.path way.file.size way.file.stamp)) (sym (ap (option_map (λ (f : DiskFile). f.seen)) stood.there)) stood.within,
    )

    held_by : (c : Bool) (o : Option KnownFile) → o ≡ Some way.file → HoldsBatch written_version T (seen_of d) w.files (if c then [] else file_entry_by o p.block.file)
    held_by true o is = tt
    held_by false None is = tt
    held_by false (Some file) is = (subst (λ (f : KnownFile). HoldsEntry T (seen_of d) w.files (Named p.block.file f.path f.size f.stamp)) (sym (same file way.file is)) names_held, λ gs added. tt)
      where
        same : (x y : KnownFile) → Some x ≡ Some y → x ≡ y
        same x y e = cc

    covered_held : (gs : List NamedFile) → AreNamed w.known gs → HoldsEntry T (seen_of d) gs (Covered p.block.file p.block.offset p.block.length)
    covered_held gs named =
        each_from (λ f. f.number ≡ p.block.file → HasTreeBytes T (seen_of d f.have.path) f (span_at p.block.offset p.block.length ∷ [])) gs (λ f among number t found size stamp.
        let at : known_at w.known p.block.file ≡ Some (known_of f) = ap (known_at w.known) (sym number) ∙ named.known_as f among in
        let path : path_at w.known p.block.file ≡ f.have.path = ap path_by at in
        let bytes : HasBytes (seen_of d (path_at w.known p.block.file)) t.bytes (span_at p.block.offset (p.block.length - 0) ∷ []) = whole t (ap (file_of T) path ∙ found) in
        subst (λ (q : List ℕ). HasBytes (seen_of d q) t.bytes (span_at p.block.offset p.block.length ∷ [])) path
        (subst (λ (n : ℕ). HasBytes (seen_of d (path_at w.known p.block.file)) t.bytes (span_at p.block.offset n ∷ [])) (omega arith) bytes))

    span_held : (gs : List NamedFile) → AreNamed w.known gs → (c : Bool) → HoldsBatch written_version T (seen_of d) gs (if c then [] else Covered p.block.file p.block.offset p.block.length ∷ [])
    span_held gs named true = tt
    span_held gs named false = (covered_held gs named, λ hs added. tt)

    -- the file is named, and then its span is laid over it
    named_first : (gs : List NamedFile) → all_added written_version w.files (file_entry w.known w.files p.block.file) ≡ Some gs → AreNamed w.known gs
    named_first gs adds = record {
      view = batch-view written_version w.files gs (file_entry w.known w.files p.block.file) books.sound.are_named.view adds;
      known_as = λ f among. known_in gs f among (list_any (is_numbered p.block.file) w.files) (known_at w.known p.block.file) refl adds;
    }
      where
        same_files : (x y : List NamedFile) → Some x ≡ Some y → x ≡ y
        same_files x y e = cc

        as_before : (gs : List NamedFile) (f : NamedFile) → IsAmong f gs → w.files ≡ gs → known_at w.known f.number ≡ Some (known_of f)
        as_before gs f among is = books.sound.are_named.known_as f (subst (IsAmong f) (sym is) among)

        named : (gs : List NamedFile) (f : NamedFile) → IsAmong f gs → (file : KnownFile) → known_at w.known p.block.file ≡ Some file → (o : Option (List NamedFile)) → o ≡ added written_version w.files (Named p.block.file file.path file.size file.stamp)
            → option_and_then (λ hs. Some hs) o ≡ Some gs → known_at w.known f.number ≡ Some (known_of f)
        named gs f among file at None is rest = absurd (cc)
        named gs f among file at (Some hs) is rest =
            let x = just_named p.block.file file.path file.size file.stamp in
            let t = taken_true (can_name w.files p.block.file file.path file.size) (put_by_number x w.files) hs (sym is) in
            elim (put_splits x f w.files (subst (IsAmong f) (sym (t.1 ∙ same_files hs gs rest)) among)) [
              | inl new ↦ subst (λ (y : NamedFile). known_at w.known y.number ≡ Some (known_of y)) new at
              | inr was ↦ books.sound.are_named.known_as f was
            ]

        known_in : (gs : List NamedFile) (f : NamedFile) → IsAmong f gs → (c : Bool) (o : Option KnownFile) → known_at w.known p.block.file ≡ o → all_added written_version w.files (if c then [] else file_entry_by o p.block.file) ≡ Some gs → known_at w.known f.number ≡ Some (known_of f)
        known_in gs f among true o at rest = as_before gs f among (same_files w.files gs rest)
        known_in gs f among false None at rest = as_before gs f among (same_files w.files gs rest)
        known_in gs f among false (Some file) at rest = named gs f among file at (added written_version w.files (Named p.block.file file.path file.size file.stamp)) refl rest

    pub files_landed : GoodFiles T (seen_of d) (files_behind w.files entries)
    files_landed =
        let s = parted w.files (files_behind w.files entries) (file_entry w.known w.files p.block.file) (span_entry p.block) adds_now in
        batch_good written_version T (seen_of d) w.files (files_behind w.files entries) entries books.sound.are_named.view good
        (holds_more written_version T (seen_of d) w.files s.0 (file_entry w.known w.files p.block.file) (span_entry p.block) s.1 (held_by (list_any (is_numbered p.block.file) w.files) (known_at w.known p.block.file) way.known_as) (span_held s.0 (named_first s.0 s.1) (p.block.length == 0)))
        adds_now

-- ---- how many

few_filled : (bs : List Block) (b : Block) → length (filter is_filled (bs ++ b ∷ [])) ≤ length (filter is_filled bs) + 1
few_filled [] b = go (is_filled b)
  where
    go : (c : Bool) → length (cond c (b ∷ []) []) ≤ 0 + 1
    go true = omega arith
    go false = omega arith
few_filled (x ∷ bs) b = go (is_filled x) (few_filled bs b)
  where
    go : (c : Bool) → length (filter is_filled (bs ++ b ∷ [])) ≤ length (filter is_filled bs) + 1 → length (cond c (x ∷ filter is_filled (bs ++ b ∷ [])) (filter is_filled (bs ++ b ∷ []))) ≤ length (cond c (x ∷ filter is_filled bs) (filter is_filled bs)) + 1
    go true more = omega (arith, more)
    go false more = more

pub few_landed : (bs : List Block) (b : Block) → length (filter is_filled bs) < MAX_BLOCKS → length (filter is_filled (bs ++ b ∷ [])) ≤ MAX_BLOCKS
few_landed bs b few = omega (arith, few_filled bs b, few)
