-- An empty block begins and lands in one.
use Rattle.std.proofs.Common.{◌≡◌, ℕ, zero, suc, ◌+◌, ◌<◌, Bool, true, false, not, List, [], ◌∷◌, ◌++◌, length, map, Option, Some, None, refl, sym, ap, ◌∙◌, subst, arith}
use Rattle.std.specs.Prelude.{if◌then◌else◌, is_some, slice_set, ◌&&◌, ◌==◌}
use Rattle.std.specs.List.{list_any}
use Rattle.std.proofs.lemmas.Bool.{eq-eqb, eqb-true}
use Rattle.wdt_units.specs.Headers.{FitsHeader}
use Rattle.wdt_units.specs.declared.blocks.Block.{Block}
use Rattle.wdt_units.specs.declared.blocks.Header.{Header}
use Rattle.wdt_units.specs.declared.numbers.Lane.{Lane}
use Rattle.wdt_logfmt.specs.declared.entry.LogEntry.{LogEntry}
use Rattle.wdt_logfmt.specs.declared.entry.LogEntry.TheVariants.{File, Covered}
use Rattle.wdt_logfmt.specs.Batches.{block_entries, span_entry}
use Rattle.wdt_logfmt.specs.Beginning.{KnownFile, SizeDiffers, begin_fault, block_of, first_shared, is_of_file, is_taken, known_at, limit_fault, number_by, number_of, or_else, overlap_fault, overlap_fault_by, is_new, size_fault, size_fault_by, span_of, taken_spans}
use Rattle.wdt_logfmt.specs.Marks.{Marked, is_marked, marked_of}
use Rattle.wdt_logfmt.specs.View.{NamedFile}
use Rattle.wdt_logfmt.proofs.ForCallers.{new_slot, number_found}
use Rattle.wdt_files.specs.PlainFiles.{AreLawful, PlainFiles}
use Rattle.wdt_writer.specs.declared.landing.Last.{Last}
use Rattle.wdt_writer.specs.declared.parts.Part.{Part}
use Rattle.wdt_writer.specs.Kept.{IsWriting, laid, writer_of}
use Rattle.wdt_writer.specs.PlainWriter.{begins, begun_at, blocks_of, file_told, known_by, known_with, lands, part_of, part_or, whole}
use Rattle.wdt_writer.proofs.Begun.{none_of}
use Rattle.wdt_writer.proofs.Landed.{known_laid, landed_kept, landed_view}
use Rattle.wdt_writer.proofs.Laying.{entry_new}
use Rattle.wdt_writer.proofs.Started.{begun_writes}
use Rattle.wdt_writer.proofs.Using.{or_first}

-- ---- the file is known as it is told

same_file : (o : Option KnownFile) (file : KnownFile) (h : Header) → o ≡ Some file → size_fault_by o h ≡ None → (file.size ≡ h.size) × (file.stamp ≡ h.stamp)
same_file None file h is none = absurd (cc)
same_file (Some g) file h is none = go (g.size == h.size) (g.stamp == h.stamp) refl refl none
  where
    same : g ≡ file
    same = cc

    go : (c d : Bool) → (g.size == h.size) ≡ c → (g.stamp == h.stamp) ≡ d → (if c && d then None else Some (SizeDiffers g.size g.stamp h.size h.stamp)) ≡ None → (file.size ≡ h.size) × (file.stamp ≡ h.stamp)
    go true true size stamp fault = (ap (λ (x : KnownFile). x.size) (sym same) ∙ eqb-true g.size h.size size, ap (λ (x : KnownFile). x.stamp) (sym same) ∙ eqb-true g.stamp h.stamp stamp)
    go true false size stamp fault = absurd (cc)
    go false d size stamp fault = absurd (cc)

known_as_told : (known : List (Option KnownFile)) (h : Header) → size_fault known h ≡ None → known_at (known_with known h) (block_of known h).file ≡ Some (file_told h)
known_as_told known h none = go (number_of known h.path) refl
  where
    go : (o : Option ℕ) → number_of known h.path ≡ o → known_at (known_by known h (not (is_some o))) (number_by known o) ≡ Some (file_told h)
    go None is = (new_slot known (file_told h)).there
    go (Some n) is =
        let found = number_found known h.path n is in
        let at : known_at known (number_by known (number_of known h.path)) ≡ Some found.file = ap (λ (o : Option ℕ). known_at known (number_by known o)) is ∙ found.there in
        let same = same_file (known_at known (number_by known (number_of known h.path))) found.file h at none in
        found.there ∙ (λ i. Some (record { path = found.path_is i; size = same.0 i; stamp = same.1 i }))

-- ---- what is logged of it

not_taken : (ms : List Marked) (begun : List Block) (b : Block) → b.length ≡ 0 → overlap_fault ms begun b ≡ None → is_marked ms b.file ≡ false
not_taken ms begun b none free = go (b.length == 0) (is_taken ms begun b.file) (eq-eqb b.length 0 none) refl free
  where
    go : (c d : Bool) → c ≡ true → is_taken ms begun b.file ≡ d → overlap_fault_by (if c then (if d then Some 0 else None) else first_shared (taken_spans ms begun b.file) (span_of b)) ≡ None → is_marked ms b.file ≡ false
    go true true is taken fault = absurd (cc)
    go true false is taken fault = or_first (is_marked ms b.file) (list_any (is_of_file b.file) begun) taken
    go false d is taken fault = absurd (cc)

-- an empty block that may begin has its file's entry alone
pub placed_entries : (known : List (Option KnownFile)) (named : List NamedFile) (parts : List (Option Part)) (h : Header) → h.length ≡ 0 → begin_fault known (map marked_of named) (blocks_of parts) h ≡ None
    → File (block_of known h).file h.path h.size h.stamp ∷ [] ≡ block_entries (known_with known h) named (block_of known h)
placed_entries known named parts h none fault =
    let ms = map marked_of named in
    let b = block_of known h in
    let one = none_of (size_fault known h) (or_else (overlap_fault ms (blocks_of parts) b) (limit_fault known ms (blocks_of parts) (is_new known h) b)) fault in
    let two = none_of (overlap_fault ms (blocks_of parts) b) (limit_fault known ms (blocks_of parts) (is_new known h) b) one.1 in
    let new = not_taken ms (blocks_of parts) b none two.0 in
    let naming = entry_new (record { known = known_with known h; named = named }) b.file (file_told h) new (known_as_told known h one.0) in
    let bare : span_entry b ≡ [] = ap (λ (c : Bool). if c then [] else Covered b.file b.offset b.length ∷ []) (eq-eqb b.length 0 none) in
    (λ i. naming i ++ sym bare i)

-- ---- a lane's part comes and goes

part_there : (parts : List (Option Part)) (l : ℕ) (p : Part) → l < length parts → part_of (slice_set parts l (Some p)) l ≡ Some p
part_there [] l p lane = absurd (omega (arith, lane))
part_there (o ∷ parts) zero p lane = refl
part_there (o ∷ parts) (suc l) p lane = part_there parts l p (omega (arith, lane))

part_gone : (parts : List (Option Part)) (l : ℕ) (p : Part) → part_of parts l ≡ None → slice_set (slice_set parts l (Some p)) l None ≡ parts
part_gone [] l p idle = refl
part_gone (None ∷ parts) zero p idle = refl
part_gone (Some q ∷ parts) zero p idle = absurd (cc)
part_gone (o ∷ parts) (suc l) p idle = ap (λ ps. o ∷ ps) (part_gone parts l p idle)

-- ---- what is kept, and what is seen

module _ (files fresh now : PlainFiles) (pending more : List LogEntry) (unlogged us : List Block) (count entries blocks : ℕ) (parts : List (Option Part)) (last : Option Last) (h : Header) (l : Lane) (b : Block) (fresh_is : fresh ≡ laid files last)
    (now_is : now ≡ record fresh { known = known_with fresh.known h }) (lane : l.0 < length parts) (idle : part_of parts l.0 ≡ None) (none : h.length ≡ 0) (fault : begin_fault fresh.known (map marked_of fresh.named) (blocks_of parts) h ≡ None)
    (b_is : b ≡ block_of fresh.known h) (us_is : us ≡ unlogged ++ b ∷ []) (blocks_is : blocks ≡ length unlogged) where
  empty : b.length ≡ 0
  empty = ap (λ (x : Block). x.length) b_is ∙ none

  pub placed_writes : IsWriting fresh unlogged count parts None → FitsHeader h → AreLawful now → IsWriting now us count parts (Some (record { block = b; before = Some (record { lane = l; entries = entries; blocks = blocks; bytes = count }) }))
  placed_writes w fits lawful =
      let started = begun_writes fresh now unlogged count parts None h l.0 (whole b) w fits lane idle fault now_is lawful refl (ap whole b_is) in
      let placed = landed_kept now unlogged us count 0 entries blocks (slice_set parts l.0 (Some (whole b))) l (whole b) started (part_there parts l.0 (whole b) lane) empty us_is (sym empty) blocks_is in
      subst (λ (ps : List (Option Part)). IsWriting now us count ps (Some (record { block = b; before = Some (record { lane = l; entries = entries; blocks = blocks; bytes = count }) }))) (part_gone parts l.0 (whole b) idle)
      (subst (λ (n : ℕ). IsWriting now us n (slice_set (slice_set parts l.0 (Some (whole b))) l.0 None) (Some (record { block = b; before = Some (record { lane = l; entries = entries; blocks = blocks; bytes = count }) })))
      (let same : count + 0 ≡ count = omega arith in same) placed)

  known_is : fresh.known ≡ files.known
  known_is = ap (λ (fs : PlainFiles). fs.known) fresh_is ∙ known_laid files last

  -- the header's block is begun
  started_view : writer_of now pending unlogged (slice_set parts l.0 (Some (whole b))) None ≡ begins (writer_of files pending unlogged parts last) l.0 h
  started_view =
      let known : now.known ≡ known_with files.known h = ap (λ (fs : PlainFiles). fs.known) now_is ∙ ap (λ (k : List (Option KnownFile)). known_with k h) known_is in
      let named : now.named ≡ (laid files last).named = ap (λ (fs : PlainFiles). fs.named) now_is ∙ ap (λ (fs : PlainFiles). fs.named) fresh_is in
      let block : b ≡ block_of files.known h = b_is ∙ ap (λ (k : List (Option KnownFile)). block_of k h) known_is in
      λ i. record { known = known i; files = named i; pending = pending; unlogged = unlogged; parts = slice_set parts l.0 (Some (whole (block i))); before = None }

  pub placed_view : more ≡ pending ++ File b.file h.path h.size h.stamp ∷ [] → entries ≡ length pending
      → writer_of now more us parts (Some (record { block = b; before = Some (record { lane = l; entries = entries; blocks = blocks; bytes = count }) }))
      ≡ lands (begins (writer_of files pending unlogged parts last) l.0 h) l.0 (block_of files.known h)
  placed_view more_is entries_is =
      let known : known_with fresh.known h ≡ now.known = sym (ap (λ (fs : PlainFiles). fs.known) now_is) in
      let named : fresh.named ≡ now.named = sym (ap (λ (fs : PlainFiles). fs.named) now_is) in
      let logged : File b.file h.path h.size h.stamp ∷ [] ≡ block_entries now.known now.named b =
      ap (λ (x : Block). File x.file h.path h.size h.stamp ∷ []) b_is ∙ placed_entries fresh.known fresh.named parts h none fault ∙ (λ i. block_entries (known i) (named i) (sym b_is i)) in
      let at : part_of (slice_set parts l.0 (Some (whole b))) l.0 ≡ Some (whole b) = part_there parts l.0 (whole b) lane in
      let begun : (begun_at (writer_of now pending unlogged (slice_set parts l.0 (Some (whole b))) None) l.0).block ≡ b = ap (λ (o : Option Part). (part_or o).block) at in
      let block : b ≡ block_of files.known h = b_is ∙ ap (λ (k : List (Option KnownFile)). block_of k h) known_is in
      ap (λ (ps : List (Option Part)). writer_of now more us ps (Some (record { block = b; before = Some (record { lane = l; entries = entries; blocks = blocks; bytes = count }) }))) (sym (part_gone parts l.0 (whole b) idle))
      ∙ landed_view now now pending more unlogged us (slice_set parts l.0 (Some (whole b))) None l (whole b) entries blocks count refl at empty (more_is ∙ ap (λ (es : List LogEntry). pending ++ es) logged) us_is entries_is blocks_is
      ∙ (λ i. lands (started_view i) l.0 ((begun ∙ block) i))
