-- The entries of blocks, and the marks of the files that they lead to.
use Rattle.std.proofs.Common.{◌≡◌, ◌⊎◌, inl, inr, ℕ, zero, suc, ◌+◌, ◌<◌, ◌≤◌, Bool, true, false, nat_lt, List, [], ◌∷◌, ◌++◌, length, map, Option, Some, None, refl, sym, ap, ◌∙◌, subst, arith, append_assoc}
use Rattle.std.specs.Prelude.{option_and_then, is_some, if◌then◌else◌, ◌==◌}
use Rattle.std.specs.List.{list_all, list_any}
use Rattle.std.proofs.lemmas.Bool.{and_parts, cases_eq, eq-eqb, eqb-true, eqb-false, ne_eqb, or_parts, or_cases, both_ways, ltb-true, lt-ltb, le-ltb}
use Rattle.wdt_units.specs.Have.{PlainSpan}
use Rattle.wdt_units.specs.declared.blocks.Block.{Block}
use Rattle.wdt_logfmt.specs.declared.entry.LogEntry.{LogEntry}
use Rattle.wdt_logfmt.specs.declared.entry.LogEntry.TheVariants.{File, Covered}
use Rattle.wdt_logfmt.specs.Adding.{added, all_added, can_cover, can_name, covering, have_with, just_named, put_by_number, span_at, with_span}
use Rattle.wdt_logfmt.specs.Batches.{block_entries, entries_of, file_entry, file_entry_by, files_behind, files_or, has_known_file, have_known_files, is_known, span_entry}
use Rattle.wdt_logfmt.specs.Beginning.{KnownFile, known_at}
use Rattle.wdt_logfmt.specs.Marks.{Marked, block_spans, just_marked, mark_block, marked_of, marks_from, marks_of, with_block}
use Rattle.wdt_logfmt.specs.Spelling.{written_version}
use Rattle.wdt_logfmt.specs.View.{NamedFile, is_numbered, is_numbered_above, is_rising, is_view}
use Rattle.wdt_logfmt.proofs.Landing.{all_added-append}
use Rattle.wdt_logfmt.proofs.Lawful.{batch-view}
use Rattle.wdt_logfmt.proofs.Views.{taken_true, view_parts}

-- ---- numbers of rising files

none_above : (n : ℕ) (f : NamedFile) (fs : List NamedFile) → n ≤ f.number → list_all (is_numbered_above f) fs ≡ true → list_any (is_numbered n) fs ≡ false
none_above n f [] low all = refl
none_above n f (g ∷ fs) low all =
    let a = and_parts (nat_lt f.number g.number) (list_all (is_numbered_above f) fs) all in
    let lt = ltb-true f.number g.number a.0 in
    rw (ne_eqb g.number n (λ same. omega (arith, same, lt, low))) (none_above n f fs low a.1)

below_numbered : (n : ℕ) (f : NamedFile) (fs : List NamedFile) → list_all (is_numbered_above f) fs ≡ true → list_any (is_numbered n) fs ≡ true → f.number < n
below_numbered n f [] all any = absurd (cc)
below_numbered n f (g ∷ fs) all any =
    let a = and_parts (nat_lt f.number g.number) (list_all (is_numbered_above f) fs) all in
    elim (or_cases (g.number == n) (list_any (is_numbered n) fs) any) [
      | inl here ↦ let same = eqb-true g.number n here in let lt = ltb-true f.number g.number a.0 in omega arith
      | inr later ↦ below_numbered n f fs a.1 later
    ]

-- ---- a block's positions at its file

-- a file with the positions of a block, where it is the block's
pub landed_at : Block → NamedFile → NamedFile
landed_at b f = if b.length == 0 then f else covering b.file (span_at b.offset b.length) f

pub landed_here : (b : Block) (f : NamedFile) → f.number ≡ b.file → marked_of (landed_at b f) ≡ record { number = f.number; spans = with_block f.have.spans b }
unfolding landed_at
landed_here b f same = go (b.length == 0) (f.number == b.file) (eq-eqb f.number b.file same)
  where
    go : (c d : Bool) → d ≡ true
        → marked_of (if c then f else (if d then record { number = f.number; have = have_with (span_at b.offset b.length) f.have } else f))
        ≡ record { number = f.number; spans = if c then f.have.spans else with_span (span_at b.offset b.length) f.have.spans }
    go true d e = refl
    go false true e = refl
    go false false e = absurd (cc)

pub landed_other : (b : Block) (f : NamedFile) → (f.number ≡ b.file → ⊥) → landed_at b f ≡ f
unfolding landed_at
landed_other b f other = go (b.length == 0) (f.number == b.file) (ne_eqb f.number b.file other)
  where
    go : (c d : Bool) → d ≡ false → (if c then f else (if d then record { number = f.number; have = have_with (span_at b.offset b.length) f.have } else f)) ≡ f
    go true d e = refl
    go false true e = absurd (cc)
    go false false e = refl

others_same : (b : Block) (fs : List NamedFile) → list_any (is_numbered b.file) fs ≡ false → map (landed_at b) fs ≡ fs
others_same b [] none = refl
others_same b (f ∷ fs) none =
    let n = or_parts (f.number == b.file) (list_any (is_numbered b.file) fs) none in
    (λ i. landed_other b f (eqb-false f.number b.file n.0) i ∷ others_same b fs n.1 i)

-- the span's entry lays the block's positions over its file
pub span_added : (b : Block) (fs more : List NamedFile) → all_added written_version fs (span_entry b) ≡ Some more → map (landed_at b) fs ≡ more
unfolding landed_at
span_added b fs more adds = go (b.length == 0) adds
  where
    same : (gs : List NamedFile) → map (λ (f : NamedFile). f) gs ≡ gs
    same [] = refl
    same (g ∷ gs) = ap (λ hs. g ∷ hs) (same gs)

    only : (o : Option (List NamedFile)) → option_and_then (λ gs. Some gs) o ≡ o
    only None = refl
    only (Some gs) = refl

    go : (c : Bool) → all_added written_version fs (if c then [] else Covered b.file b.offset b.length ∷ []) ≡ Some more
        → map (λ (f : NamedFile). if c then f else covering b.file (span_at b.offset b.length) f) fs ≡ more
    go true e = same fs ∙ (let is : fs ≡ more = cc in is)
    go false e =
        let s = span_at b.offset b.length in
        (taken_true (can_cover fs b.file s) (map (covering b.file s) fs) more (sym (only (added written_version fs (Covered b.file b.offset b.length))) ∙ e)).1

-- ---- marks behind a block

-- the marks of files with a block more, by whether the first is its file, and above it
abbrev Behind : Block → NamedFile → List NamedFile → Bool → Bool → List Marked
Behind b f fs c d =
    if c then record { number = f.number; spans = with_block f.have.spans b } ∷ map marked_of fs
    else if d then just_marked b ∷ marked_of f ∷ map marked_of fs
    else marked_of f ∷ mark_block (map marked_of fs) b

-- the marks where the file is named
marks_named : (b : Block) (fs : List NamedFile) → is_rising fs ≡ true → list_any (is_numbered b.file) fs ≡ true → map marked_of (map (landed_at b) fs) ≡ mark_block (map marked_of fs) b
marks_named b [] up there = absurd (cc)
marks_named b (f ∷ fs) up there =
    let u = and_parts (list_all (is_numbered_above f) fs) (is_rising fs) up in
    elim (cases_eq f.number b.file) [
      | inl same ↦ here (f.number == b.file) (eq-eqb f.number b.file same) same (others_same b fs (none_above b.file f fs (omega (arith, same)) u.0))
      | inr other ↦
          let e = ne_eqb f.number b.file other in
          let more : list_any (is_numbered b.file) fs ≡ true = elim (or_cases (f.number == b.file) (list_any (is_numbered b.file) fs) there) [ inl h ↦ absurd (both_ways (f.number == b.file) e h) | inr h ↦ h ] in
          let below = below_numbered b.file f fs u.0 more in
          later (f.number == b.file) (nat_lt b.file f.number) e (le-ltb b.file f.number (omega arith)) other (marks_named b fs u.1 more)
    ]
  where
    here : (c : Bool) → c ≡ true → f.number ≡ b.file → map (landed_at b) fs ≡ fs → marked_of (landed_at b f) ∷ map marked_of (map (landed_at b) fs) ≡ Behind b f fs c (nat_lt b.file f.number)
    here true e same rest = (λ i. landed_here b f same i ∷ map marked_of (rest i))
    here false e same rest = absurd (cc)

    later : (c d : Bool) → c ≡ false → d ≡ false → (f.number ≡ b.file → ⊥) → map marked_of (map (landed_at b) fs) ≡ mark_block (map marked_of fs) b → marked_of (landed_at b f) ∷ map marked_of (map (landed_at b) fs) ≡ Behind b f fs c d
    later false false e g other rest = (λ i. marked_of (landed_other b f other i) ∷ rest i)
    later true d e g other rest = absurd (cc)
    later false true e g other rest = absurd (cc)

-- the marks where the file is named by the block
marks_new : (b : Block) (path : List ℕ) (size stamp : ℕ) (fs : List NamedFile) → list_any (is_numbered b.file) fs ≡ false
    → map marked_of (map (landed_at b) (put_by_number (just_named b.file path size stamp) fs)) ≡ mark_block (map marked_of fs) b
marks_new b path size stamp [] new = (λ i. landed_here b (just_named b.file path size stamp) refl i ∷ [])
marks_new b path size stamp (f ∷ fs) new =
    let n = or_parts (f.number == b.file) (list_any (is_numbered b.file) fs) new in
    go (f.number == b.file) (nat_lt b.file f.number) n.0 (eqb-false f.number b.file n.0) (marks_new b path size stamp fs n.1) (others_same b fs n.1)
  where
    x : NamedFile
    x = just_named b.file path size stamp

    go : (c d : Bool) → c ≡ false → (f.number ≡ b.file → ⊥) → map marked_of (map (landed_at b) (put_by_number (just_named b.file path size stamp) fs)) ≡ mark_block (map marked_of fs) b → map (landed_at b) fs ≡ fs
        → map marked_of (map (landed_at b) (if d then just_named b.file path size stamp ∷ f ∷ fs else f ∷ put_by_number (just_named b.file path size stamp) fs))
        ≡ Behind b f fs c d
    go true d e other rest same = absurd (cc)
    go false true e other rest same = (λ i. landed_here b (just_named b.file path size stamp) refl i ∷ marked_of (landed_other b f other i) ∷ map marked_of (same i))
    go false false e other rest same = (λ i. marked_of (landed_other b f other i) ∷ rest i)

-- the files behind a block's entries: the file is named where it wasn't, and then its positions are laid over it
pub block_marked : (known : List (Option KnownFile)) (fs more : List NamedFile) (b : Block) → is_rising fs ≡ true → has_known_file known b ≡ true → all_added written_version fs (block_entries known fs b) ≡ Some more
    → map marked_of more ≡ mark_block (map marked_of fs) b
block_marked known fs more b up there adds = go (list_any (is_numbered b.file) fs) refl (known_at known b.file) there adds
  where
    named : (file : KnownFile) (o : Option (List NamedFile)) → o ≡ (if can_name fs b.file file.path file.size then Some (put_by_number (just_named b.file file.path file.size file.stamp) fs) else None)
        → option_and_then (λ gs. all_added written_version gs (span_entry b)) o ≡ Some more → list_any (is_numbered b.file) fs ≡ false → map marked_of more ≡ mark_block (map marked_of fs) b
    named file None e adds new = absurd (cc)
    named file (Some gs) e adds new =
        let t = taken_true (can_name fs b.file file.path file.size) (put_by_number (just_named b.file file.path file.size file.stamp) fs) gs (sym e) in
        ap (map marked_of) (sym (span_added b gs more adds)) ∙ ap (λ (hs : List NamedFile). map marked_of (map (landed_at b) hs)) (sym t.1) ∙ marks_new b file.path file.size file.stamp fs new

    go : (c : Bool) → list_any (is_numbered b.file) fs ≡ c → (o : Option KnownFile) → is_some o ≡ true
        → all_added written_version fs ((if c then [] else file_entry_by o b.file) ++ span_entry b) ≡ Some more → map marked_of more ≡ mark_block (map marked_of fs) b
    go true e o some adds = ap (map marked_of) (sym (span_added b fs more adds)) ∙ marks_named b fs up e
    go false e None some adds = absurd (cc)
    go false e (Some file) some adds = named file (added written_version fs (File b.file file.path file.size file.stamp)) refl adds e

-- ---- the entries of blocks

-- what the first block's entries lead to, where all entries continue the files
first_behind : (fs more : List NamedFile) (es ds : List LogEntry) → all_added written_version fs (es ++ ds) ≡ Some more
    → (gs : List NamedFile) × (all_added written_version fs es ≡ Some gs) × (files_behind fs es ≡ gs) × (all_added written_version gs ds ≡ Some more)
first_behind fs more es ds adds = go (all_added written_version fs es) refl (sym (all_added-append written_version fs es ds) ∙ adds)
  where
    go : (o : Option (List NamedFile)) → all_added written_version fs es ≡ o → option_and_then (λ gs. all_added written_version gs ds) o ≡ Some more
        → (gs : List NamedFile) × (all_added written_version fs es ≡ Some gs) × (files_behind fs es ≡ gs) × (all_added written_version gs ds ≡ Some more)
    go None e after = absurd (cc)
    go (Some gs) e after = (gs, e, ap (files_or fs) e, after)

pub blocks_marked : (known : List (Option KnownFile)) (fs more : List NamedFile) (bs : List Block) → is_view fs ≡ true → have_known_files known bs ≡ true → all_added written_version fs (entries_of known fs bs) ≡ Some more
    → map marked_of more ≡ marks_of fs bs
unfolding marks_of
blocks_marked known fs more [] view there adds = (let same : fs ≡ more = cc in ap (map marked_of) (sym same))
blocks_marked known fs more (b ∷ bs) view there adds =
    let k = and_parts (has_known_file known b) (have_known_files known bs) there in
    let es = block_entries known fs b in
    let f = first_behind fs more es (entries_of known (files_behind fs es) bs) adds in
    let rest : all_added written_version f.0 (entries_of known f.0 bs) ≡ Some more = subst (λ (gs : List NamedFile). all_added written_version f.0 (entries_of known gs bs) ≡ Some more) f.2 f.3 in
    blocks_marked known f.0 more bs (batch-view written_version fs f.0 es view f.1) k.1 rest
    ∙ ap (λ (ms : List Marked). marks_from ms bs) (block_marked known fs f.0 b (view_parts fs view).rising k.0 f.1)

pub entries-append : (known : List (Option KnownFile)) (fs more : List NamedFile) (bs cs : List Block) → all_added written_version fs (entries_of known fs bs) ≡ Some more
    → entries_of known fs (bs ++ cs) ≡ entries_of known fs bs ++ entries_of known more cs
entries-append known fs more [] cs adds = (let same : fs ≡ more = cc in ap (λ (gs : List NamedFile). entries_of known gs cs) same)
entries-append known fs more (b ∷ bs) cs adds =
    let es = block_entries known fs b in
    let f = first_behind fs more es (entries_of known (files_behind fs es) bs) adds in
    let rest : all_added written_version (files_behind fs es) (entries_of known (files_behind fs es) bs) ≡ Some more =
    subst (λ (gs : List NamedFile). all_added written_version gs (entries_of known (files_behind fs es) bs) ≡ Some more) (sym f.2) f.3 in
    ap (λ (ds : List LogEntry). es ++ ds) (entries-append known (files_behind fs es) more bs cs rest)
    ∙ sym (append_assoc es (entries_of known (files_behind fs es) bs) (entries_of known more cs))

-- where the files of the blocks are known as before, the entries are as before
pub entries_kept : (known other : List (Option KnownFile)) (fs : List NamedFile) (bs : List Block) → ((n : ℕ) → is_known known n ≡ true → known_at other n ≡ known_at known n) → have_known_files known bs ≡ true
    → entries_of other fs bs ≡ entries_of known fs bs
entries_kept known other fs [] same there = refl
entries_kept known other fs (b ∷ bs) same there =
    let k = and_parts (has_known_file known b) (have_known_files known bs) there in
    let e : block_entries other fs b ≡ block_entries known fs b =
    ap (λ (o : Option KnownFile). (if list_any (is_numbered b.file) fs then [] else file_entry_by o b.file) ++ span_entry b) (same b.file k.0) in
    ap (λ (es : List LogEntry). es ++ entries_of other (files_behind fs es) bs) e
    ∙ ap (λ (ds : List LogEntry). block_entries known fs b ++ ds) (entries_kept known other (files_behind fs (block_entries known fs b)) bs same k.1)
