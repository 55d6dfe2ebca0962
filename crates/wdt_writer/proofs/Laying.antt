-- A block is laid over its file: how many files are named behind it, and how many bytes are there.
use Rattle.std.proofs.Common.{◌≡◌, ℕ, suc, ◌+◌, ◌<◌, Bool, true, false, ◌||◌, nat_lt, List, [], ◌∷◌, length, map, Option, Some, None, refl, sym, ap, ◌∙◌, arith}
use Rattle.std.specs.Prelude.{if◌then◌else◌, IsSome, ◌==◌}
use Rattle.std.specs.List.{list_all, list_any}
use Rattle.std.proofs.lemmas.Bool.{and_parts, eqb-true, ltb-true, ne_eqb}
use Rattle.std.proofs.lemmas.List.Sums.{sum_by-cons}
use Rattle.wdt_units.specs.Have.{PlainSpan}
use Rattle.wdt_units.specs.declared.blocks.Block.{Block}
use Rattle.wdt_ranges.specs.Spans.{count_of, total_of}
use Rattle.wdt_logfmt.specs.declared.entry.LogEntry.TheVariants.{File}
use Rattle.wdt_logfmt.specs.Adding.{all_added, span_at, with_span}
use Rattle.wdt_logfmt.specs.Batches.{block_entries, file_entry, file_entry_by, files_or}
use Rattle.wdt_logfmt.specs.Beginning.{KnownFile, known_at}
use Rattle.wdt_logfmt.specs.Marks.{Marked, block_spans, byte_count, bytes_in, is_marked, just_marked, mark_block, marked_of, with_block}
use Rattle.wdt_logfmt.specs.Spelling.{written_version}
use Rattle.wdt_logfmt.specs.View.{NamedFile, is_numbered, is_numbered_above, is_rising}
use Rattle.wdt_logfmt.proofs.ForCallers.{block_marked, total-with_span, view_parts}
use Rattle.wdt_files.specs.PlainFiles.{AreLawful, PlainFiles, with_landed}
use Rattle.wdt_writer.specs.Kept.{IsLandable}

-- ---- marks with a block

total_block : (b : Block) → total_of (block_spans b) ≡ b.length
total_block b = go (b.length == 0) refl
  where
    go : (c : Bool) → (b.length == 0) ≡ c → total_of (if c then [] else span_at b.offset b.length ∷ []) ≡ b.length
    go true is = sym (eqb-true b.length 0 is)
    go false is = omega (arith, sum_by-cons count_of (span_at b.offset b.length) [])

total_with : (ss : List PlainSpan) (b : Block) → total_of (with_block ss b) ≡ total_of ss + b.length
total_with ss b = go (b.length == 0) refl
  where
    go : (c : Bool) → (b.length == 0) ≡ c → total_of (if c then ss else with_span (span_at b.offset b.length) ss) ≡ total_of ss + b.length
    go true is = omega (arith, eqb-true b.length 0 is)
    go false is = total-with_span (span_at b.offset b.length) ss

bytes_marked : (ms : List Marked) (b : Block) → bytes_in (mark_block ms b) ≡ bytes_in ms + b.length
bytes_marked [] b = omega (arith, sum_by-cons byte_count (just_marked b) [], total_block b)
bytes_marked (m ∷ ms) b = go (m.number == b.file) (nat_lt b.file m.number) (bytes_marked ms b)
  where
    go : (c d : Bool) → bytes_in (mark_block ms b) ≡ bytes_in ms + b.length
        → bytes_in (if c then record { number = m.number; spans = with_block m.spans b } ∷ ms else if d then just_marked b ∷ m ∷ ms else m ∷ mark_block ms b) ≡ bytes_in (m ∷ ms) + b.length
    go true d later = omega (arith, sum_by-cons byte_count (record { number = m.number; spans = with_block m.spans b }) ms, sum_by-cons byte_count m ms, total_with m.spans b)
    go false true later = omega (arith, sum_by-cons byte_count (just_marked b) (m ∷ ms), total_block b)
    go false false later = omega (arith, sum_by-cons byte_count m (mark_block ms b), sum_by-cons byte_count m ms, later)

none_above : (n : ℕ) (f : NamedFile) (fs : List NamedFile) → n < f.number → list_all (is_numbered_above f) fs ≡ true → list_any (is_numbered n) fs ≡ false
none_above n f [] low all = refl
none_above n f (g ∷ fs) low all =
    let a = and_parts (nat_lt f.number g.number) (list_all (is_numbered_above f) fs) all in
    let lt = ltb-true f.number g.number a.0 in
    rw (ne_eqb g.number n (λ same. omega (arith, same, lt, low))) (none_above n f fs low a.1)

length_map : (fs : List NamedFile) → length (map marked_of fs) ≡ length fs
length_map [] = refl
length_map (f ∷ fs) = ap suc (length_map fs)

files_marked : (fs : List NamedFile) (b : Block) → is_rising fs ≡ true → length (mark_block (map marked_of fs) b) ≡ length fs + (if list_any (is_numbered b.file) fs then 0 else 1)
files_marked [] b up = refl
files_marked (f ∷ fs) b up = go (f.number == b.file) (nat_lt b.file f.number) refl (files_marked fs b above.1)
  where
    above : (list_all (is_numbered_above f) fs ≡ true) × (is_rising fs ≡ true)
    above = and_parts (list_all (is_numbered_above f) fs) (is_rising fs) up

    go : (c d : Bool) → nat_lt b.file f.number ≡ d → length (mark_block (map marked_of fs) b) ≡ length fs + (if list_any (is_numbered b.file) fs then 0 else 1)
        → length (if c then record { number = f.number; spans = with_block f.have.spans b } ∷ map marked_of fs else if d then just_marked b ∷ marked_of f ∷ map marked_of fs else marked_of f ∷ mark_block (map marked_of fs) b)
        ≡ length (f ∷ fs) + (if c || list_any (is_numbered b.file) fs then 0 else 1)
    go true d is later = omega (arith, length_map fs)
    go false true is later = rw (none_above b.file f fs (ltb-true b.file f.number is) above.0) (omega (arith, length_map fs))
    go false false is later = omega (arith, later)

-- ---- the files behind a block

pub marked_numbered : (fs : List NamedFile) (n : ℕ) → is_marked (map marked_of fs) n ≡ list_any (is_numbered n) fs
marked_numbered [] n = refl
marked_numbered (f ∷ fs) n = ap (λ (c : Bool). (f.number == n) || c) (marked_numbered fs n)

module _ (files : PlainFiles) (b : Block) (lawful : AreLawful files) (can : IsLandable files b) where
  rises : is_rising files.named ≡ true
  rises = (view_parts files.named lawful.named.view).rising

  marks_laid : map marked_of (with_landed files b).named ≡ mark_block (map marked_of files.named) b
  marks_laid = go (all_added written_version files.named (block_entries files.known files.named b)) refl can.adds
    where
      go : (o : Option (List NamedFile)) → all_added written_version files.named (block_entries files.known files.named b) ≡ o → IsSome o → map marked_of (files_or files.named o) ≡ mark_block (map marked_of files.named) b
      go None is some = absurd (cc)
      go (Some more) is some = block_marked files.known files.named more b rises can.known is

  -- how many bytes are there
  pub bytes_laid : bytes_in (map marked_of (with_landed files b).named) ≡ bytes_in (map marked_of files.named) + b.length
  bytes_laid = ap bytes_in marks_laid ∙ bytes_marked (map marked_of files.named) b

  files_laid : length (with_landed files b).named ≡ length files.named + (if is_marked (map marked_of files.named) b.file then 0 else 1)
  files_laid =
      sym (length_map (with_landed files b).named) ∙ ap length marks_laid ∙ files_marked files.named b rises
      ∙ ap (λ (c : Bool). length files.named + (if c then 0 else 1)) (sym (marked_numbered files.named b.file))

  -- its file was named
  pub files_same : is_marked (map marked_of files.named) b.file ≡ true → length (with_landed files b).named ≡ length files.named
  files_same is = (let e : length (with_landed files b).named ≡ length files.named + 0 = files_laid ∙ ap (λ (c : Bool). length files.named + (if c then 0 else 1)) is in omega (arith, e))

  -- its file is named by it
  pub files_more : is_marked (map marked_of files.named) b.file ≡ false → length (with_landed files b).named ≡ length files.named + 1
  files_more is = files_laid ∙ ap (λ (c : Bool). length files.named + (if c then 0 else 1)) is

-- ---- the entry that names a file

pub entry_named : (files : PlainFiles) (n : ℕ) → is_marked (map marked_of files.named) n ≡ true → [] ≡ file_entry files.known files.named n
entry_named files n is = ap (λ (c : Bool). if c then [] else file_entry_by (known_at files.known n) n) (sym is ∙ marked_numbered files.named n)

pub entry_new : (files : PlainFiles) (n : ℕ) (file : KnownFile) → is_marked (map marked_of files.named) n ≡ false → known_at files.known n ≡ Some file → File n file.path file.size file.stamp ∷ [] ≡ file_entry files.known files.named n
entry_new files n file is there =
    ap (λ (o : Option KnownFile). file_entry_by o n) (sym there) ∙ ap (λ (c : Bool). if c then [] else file_entry_by (known_at files.known n) n) (sym is ∙ marked_numbered files.named n)
