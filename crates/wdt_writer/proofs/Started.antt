-- A block begins: what a writer keeps behind it, and which answers come.
use Rattle.std.proofs.Common.{◌≡◌, inl, ℕ, ◌<◌, Bool, true, false, List, [], ◌∷◌, length, map, Option, Some, None, Err, refl, sym, ap, ◌∙◌, subst, arith}
use Rattle.std.specs.Prelude.{is_some, option_map, slice_set}
use Rattle.std.proofs.lemmas.Bool.{and_from, and_parts}
use Rattle.wdt_units.specs.Headers.{FitsHeader}
use Rattle.wdt_units.specs.declared.blocks.Block.{Block}
use Rattle.wdt_units.specs.declared.blocks.Header.{Header}
use Rattle.wdt_logfmt.specs.Batches.{have_known_files, is_known, path_at}
use Rattle.wdt_logfmt.specs.Beginning.{BeginFault, KnownFile, begin_fault, block_of, is_new}
use Rattle.wdt_logfmt.specs.Marks.{marked_of}
use Rattle.wdt_logfmt.proofs.ForCallers.{known_stays}
use Rattle.wdt_files.specs.PlainFiles.{AreLawful, PlainFiles}
use Rattle.wdt_writer.specs.declared.fail.WriteFail.{WriteFail}
use Rattle.wdt_writer.specs.declared.landing.Last.{Last}
use Rattle.wdt_writer.specs.declared.parts.Part.{Part}
use Rattle.wdt_writer.specs.Answers.{IsAnswered, fault_at, of_fault}
use Rattle.wdt_writer.specs.Calls.{path_begun, place_begun}
use Rattle.wdt_writer.specs.Kept.{IsWriting, laid, writer_of}
use Rattle.wdt_logfmt.specs.declared.entry.LogEntry.{LogEntry}
use Rattle.wdt_writer.specs.PlainWriter.{PlainWriter, blocks_of, file_told, known_by, known_with, part_of, part_or, place_of, whole}
use Rattle.wdt_writer.proofs.Begun.{begun_now}
use Rattle.wdt_writer.proofs.Landed.{known_laid}
use Rattle.wdt_writer.proofs.OnParts.{length_set}

-- ---- known files stay known

all_stay : (known now : List (Option KnownFile)) (bs : List Block) → ((n : ℕ) → is_known known n ≡ true → is_known now n ≡ true) → have_known_files known bs ≡ true → have_known_files now bs ≡ true
all_stay known now [] each all = refl
all_stay known now (b ∷ bs) each all = (let a = and_parts (is_known known b.file) (have_known_files known bs) all in and_from (is_known now b.file) (have_known_files now bs) (each b.file a.0) (all_stay known now bs each a.1))

stays_known : (known : List (Option KnownFile)) (h : Header) (n : ℕ) → is_known known n ≡ true → is_known (known_with known h) n ≡ true
stays_known known h n there = go (is_new known h)
  where
    go : (c : Bool) → is_known (known_by known h c) n ≡ true
    go true = ap is_some (known_stays known (file_told h) n there) ∙ there
    go false = there

-- ---- what is kept

begun_files : (files : PlainFiles) (unlogged : List Block) (count : ℕ) (parts : List (Option Part)) (h : Header) (l : ℕ) → IsWriting files unlogged count parts None → FitsHeader h → l < length parts → part_of parts l ≡ None
    → begin_fault files.known (map marked_of files.named) (blocks_of parts) h ≡ None → AreLawful (record files { known = known_with files.known h })
    → IsWriting (record files { known = known_with files.known h }) unlogged count (slice_set parts l (Some (whole (block_of files.known h)))) None
begun_files files unlogged count parts h l w fits lane idle none lawful =
    record {
      lawful = lawful;
      sound = begun_now files.known files.named parts h l fits w.sound.are_files w.sound.are_named w.sound.way lane idle none;
      lays = tt;
      back = tt;
      lanes = omega (arith, w.lanes, length_set parts l (Some (whole (block_of files.known h))));
      known = all_stay files.known (known_with files.known h) unlogged (stays_known files.known h) w.known;
      bytes = w.bytes;
      few = w.few;
    }

pub begun_writes : (files now : PlainFiles) (unlogged : List Block) (count : ℕ) (parts : List (Option Part)) (last : Option Last) (h : Header) (l : ℕ) (p : Part) → IsWriting files unlogged count parts None → FitsHeader h → l < length parts
    → part_of parts l ≡ None → begin_fault files.known (map marked_of files.named) (blocks_of parts) h ≡ None → now ≡ record files { known = known_with files.known h } → AreLawful now → last ≡ None → p ≡ whole (block_of files.known h)
    → IsWriting now unlogged count (slice_set parts l (Some p)) last
begun_writes files now unlogged count parts last h l p w fits lane idle none is lawful gone whole_is =
    subst (λ (fs : PlainFiles). IsWriting fs unlogged count (slice_set parts l (Some p)) last) (sym is)
    (subst (λ (o : Option Last). IsWriting (record files { known = known_with files.known h }) unlogged count (slice_set parts l (Some p)) o) (sym gone)
    (subst (λ (q : Part). IsWriting (record files { known = known_with files.known h }) unlogged count (slice_set parts l (Some q)) None) (sym whole_is)
    (begun_files files unlogged count parts h l w fits lane idle none (subst AreLawful is lawful))))

-- ---- which answers come

-- the fault is that of the files with the block that landed before
fault_laid : (files now : PlainFiles) (pending : List LogEntry) (unlogged : List Block) (parts : List (Option Part)) (last : Option Last) (h : Header) → now ≡ laid files last
    → fault_at (writer_of files pending unlogged parts last) h ≡ begin_fault now.known (map marked_of now.named) (blocks_of parts) h
fault_laid files now pending unlogged parts last h is =
    sym ((λ i. begin_fault (is i).known (map marked_of (is i).named) (blocks_of parts) h) ∙ ap (λ (known : List (Option KnownFile)). begin_fault known (map marked_of (laid files last).named) (blocks_of parts) h) (known_laid files last))

-- the same of what is seen
pub fault_seen : (files now : PlainFiles) (pending : List LogEntry) (unlogged : List Block) (parts read : List (Option Part)) (last : Option Last) (w : PlainWriter) (h : Header) → now ≡ laid files last → writer_of files pending unlogged parts last ≡ w
    → read ≡ parts → fault_at w h ≡ begin_fault now.known (map marked_of now.named) (blocks_of read) h
fault_seen files now pending unlogged parts read last w h is seen same =
    ap (λ (x : PlainWriter). fault_at x h) (sym seen) ∙ fault_laid files now pending unlogged parts last h is ∙ ap (λ (ps : List (Option Part)). begin_fault now.known (map marked_of now.named) (blocks_of ps) h) (sym same)

pub no_fault : (o : Option BeginFault) → option_map of_fault o ≡ None → o ≡ None
no_fault None e = refl
no_fault (Some f) e = absurd (cc)

pub refused_as : (T : Type 0) (o : Option BeginFault) (fail : WriteFail) → Some fail ≡ option_map of_fault o → IsAnswered {T = T} o (Err fail)
refused_as T None fail e = absurd (cc)
refused_as T (Some f) fail e = inl (let same : fail ≡ of_fault f = cc in ap (λ (z : WriteFail). Err z) same)

-- the known files of what is seen
pub known_seen : (files now : PlainFiles) (pending : List LogEntry) (unlogged : List Block) (parts : List (Option Part)) (last : Option Last) (w : PlainWriter) → now ≡ laid files last → writer_of files pending unlogged parts last ≡ w → w.known ≡ now.known
known_seen files now pending unlogged parts last w is seen = sym (ap (λ (x : PlainWriter). x.known) seen) ∙ sym (ap (λ (fs : PlainFiles). fs.known) is ∙ known_laid files last)

-- what is said of a begun block's path and place is said of what is seen
pub at_part : (files : PlainFiles) (pending : List LogEntry) (unlogged : List Block) (parts : List (Option Part)) (last : Option Last) (w : PlainWriter) (lane : ℕ) (p : Part) → writer_of files pending unlogged parts last ≡ w → part_of parts lane ≡ Some p
    → (P : List ℕ → ℕ → Type 0) (place : ℕ) → place ≡ place_of p → P (path_at files.known p.block.file) place → P (path_begun w lane) (place_begun w lane)
at_part files pending unlogged parts last w lane p seen there P place is holds =
    let part : p ≡ part_or (part_of parts lane) = ap part_or (sym there) in
    subst (λ (x : PlainWriter). P (path_begun x lane) (place_begun x lane)) seen
    (subst (λ (q : Part). P (path_at files.known q.block.file) (place_of q)) part (subst (λ (n : ℕ). P (path_at files.known p.block.file) n) is holds))
