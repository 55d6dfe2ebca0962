-- A piece of a begun block is written: what is read stays the tree's, of other blocks and of this one.
use Rattle.std.proofs.Common.{◌≡◌, inl, inr, ℕ, zero, suc, ◌+◌, ◌-◌, ◌<◌, ◌≤◌, Bool, true, false, ◌||◌, List, [], ◌∷◌, ◌++◌, length, length-append, take, drop, map, Option, Some, None, refl, sym, ap, ◌∙◌, subst, arith}
use Rattle.std.specs.Prelude.{option_map, replicate, slice_index}
use Rattle.std.specs.Str.{bytes_eq}
use Rattle.std.proofs.lemmas.Bool.{cases_lt, or_cases}
use Rattle.std.proofs.lemmas.List.{get_or-append_right, get_or-drop, get_or-take, get_or_append_left, length-replicate, length-take}
use Rattle.std.proofs.lemmas.Slice.Eq.{bytes_eq-Decides}
use Rattle.wdt_units.specs.Have.{is_in}
use Rattle.wdt_units.specs.Tree.{File, IsRead, file_of}
use Rattle.wdt_units.specs.declared.blocks.Block.{Block}
use Rattle.wdt_depot.specs.Disk.{Disk, DiskFile, IfFile, IsOutside, seen_of, spliced, write_file, wrote}
use Rattle.wdt_depot.proofs.ForCallers.{length-spliced, not_in_is_outside, outside_is_not_in, seen_outside_write, with_file-other, with_file-same}
use Rattle.wdt_logfmt.specs.declared.entry.LogEntry.{LogEntry}
use Rattle.wdt_logfmt.specs.Adding.{all_added, span_at}
use Rattle.wdt_logfmt.specs.Batches.{path_at, path_by}
use Rattle.wdt_logfmt.specs.Beginning.{KnownFile, known_at, span_of}
use Rattle.wdt_logfmt.specs.Landing.{IsAmong}
use Rattle.wdt_logfmt.specs.Marks.{marked_of, spans_at}
use Rattle.wdt_logfmt.specs.Spelling.{written_version}
use Rattle.wdt_logfmt.specs.View.{NamedFile, is_view}
use Rattle.wdt_logfmt.proofs.ForCallers.{eq_sym, view_parts}
use Rattle.wdt_ranges.specs.Spans.{has}
use Rattle.wdt_good.specs.Changing.{IsClear, IsClearAt, MayWrite}
use Rattle.wdt_depot.specs.Rewritten.{range_at}
use Rattle.wdt_good.specs.Good.{Each, GoodFiles, HasBytes, log_path}
use Rattle.wdt_good.proofs.ForCallers.{batch_grows, each_from, each_in, write_keeps_reads}
use Rattle.wdt_files.specs.PlainFiles.{AreFiles, AreNamed, known_of}
use Rattle.wdt_writer.specs.declared.parts.Part.{Part}
use Rattle.wdt_writer.specs.OnWay.{AreApart, IsOnWay}
use Rattle.wdt_writer.specs.PlainWriter.{place_of}
use Rattle.wdt_writer.proofs.ForCallers.{spans_of_file}
use Rattle.wdt_dock.specs.Booked.{KnownStand}
use Rattle.wdt_dock.specs.DockGood.{HasPart, IfKnown, IsTrees, StandsWithin}
use Rattle.wdt_dock.proofs.Goodness.{other_path}

same_some : {A : Type 0} (x y : A) → Some x ≡ Some y → x ≡ y
same_some x y e = cc

-- ---- positions

in_one : (k o n : ℕ) → has (span_at o n ∷ []) k ≡ true → (o ≤ k) × (k < o + n)
in_one k o n h = elim (or_cases (is_in k (span_at o n)) false h) [
  | inl is ↦ (elim (cases_lt k o) [
    | inl low ↦ absurd (let t = outside_is_not_in k (span_at o n) (inl low) in cc)
    | inr high ↦ elim (cases_lt k (o + n)) [ inl below ↦ (high, below) | inr past ↦ absurd (let t = outside_is_not_in k (span_at o n) (inr past) in cc) ]
  ])
  | inr other ↦ absurd (cc)
]

pub in_span : (k o n : ℕ) → o ≤ k → k < o + n → is_in k (span_at o n) ≡ true
in_span k o n low high = go (is_in k (span_at o n)) refl
  where
    go : (b : Bool) → is_in k (span_at o n) ≡ b → b ≡ true
    go true e = refl
    go false e = absurd (elim (not_in_is_outside k (span_at o n) e) [ inl h ↦ omega (arith, h, low) | inr h ↦ omega (arith, h, high) ])

one_in : (k o n : ℕ) → o ≤ k → k < o + n → has (span_at o n ∷ []) k ≡ true
one_in k o n low high = ap (λ (b : Bool). b || false) (in_span k o n low high)

-- ---- known files

pub known_file : (P : KnownFile → Type 0) (known : List (Option KnownFile)) (n : ℕ) (file : KnownFile) → Each (IfKnown P) known → known_at known n ≡ Some file → P file
known_file P [] n file all there = absurd (cc)
known_file P (slot ∷ slots) zero file all there = subst (IfKnown P) there all.0
known_file P (slot ∷ slots) (suc n) file all there = known_file P slots n file all.1 there

pub all_known : (P Q R : KnownFile → Type 0) (known : List (Option KnownFile)) → ((file : KnownFile) → P file → Q file → R file) → Each (IfKnown P) known → Each (IfKnown Q) known → Each (IfKnown R) known
all_known P Q R [] f ps qs = tt
all_known P Q R (None ∷ slots) f ps qs = (tt, all_known P Q R slots f ps.1 qs.1)
all_known P Q R (Some file ∷ slots) f ps qs = (f file ps.0 qs.0, all_known P Q R slots f ps.1 qs.1)

-- two known files of one path are the tree's file, and so have one size
one_size : (T : List File) (j k : KnownFile) → IsTrees T j → IsTrees T k → j.path ≡ k.path → j.size ≡ k.size
one_size T j k one two same =
    let files : one.file ≡ two.file = same_some one.file two.file (sym one.found ∙ ap (file_of T) same ∙ two.found) in
    one.sized ∙ ap (λ (f : File). length f.bytes) files ∙ sym two.sized

-- ---- bytes

written_within : (o : ℕ) (bytes : List ℕ) (x : DiskFile) (size : ℕ) → length x.seen ≤ size → o + length bytes ≤ size → length (write_file o bytes x).seen ≤ size
unfolding write_file
written_within o bytes x size one two = omega (arith, length-spliced x.seen o bytes, one, two)

-- in the range stands what was written
byte_wrote : (o : ℕ) (bytes : List ℕ) (x : DiskFile) (k : ℕ) → o ≤ k → k < o + length bytes → slice_index (write_file o bytes x).seen k ≡ slice_index bytes (k - o)
unfolding write_file spliced
byte_wrote o bytes x k low below =
    let front : List ℕ = take o (x.seen ++ replicate (o - length x.seen) 0) in
    let long : length front ≡ o = omega (arith, length-take o (x.seen ++ replicate (o - length x.seen) 0), length-append x.seen (replicate (o - length x.seen) 0), length-replicate {A = ℕ} (o - length x.seen) 0) in
    get_or_append_left (front ++ bytes) (drop (o + length bytes) x.seen) 0 k (omega (arith, below, long, length-append front bytes)) ∙ get_or-append_right front bytes o k 0 long low

-- what is outside of the range stays
bytes_beside : (o : ℕ) (bytes tree : List ℕ) (x : DiskFile) (a n : ℕ) → ((k : ℕ) → a ≤ k → k < a + n → IsOutside k (range_at o (length bytes))) → HasBytes (Some x.seen) tree (span_at a n ∷ []) → HasBytes (Some (write_file o bytes x).seen) tree (span_at a n ∷ [])
unfolding write_file
bytes_beside o bytes tree x a n apart has_all k h =
    let was = has_all k h in
    let within = in_one k a n h in
    (omega (arith, was.0, length-spliced x.seen o bytes), seen_outside_write o bytes x k was.0 (apart k within.0 within.1) ∙ was.1)

-- what was written before, and the piece behind it
bytes_grow : (o len left : ℕ) (bytes tree : List ℕ) (x : DiskFile) → left ≤ len → length bytes ≤ left → HasBytes (Some x.seen) tree (span_at o (len - left) ∷ [])
    → ((k : ℕ) → k < length bytes → slice_index bytes k ≡ slice_index tree (o + (len - left) + k)) → HasBytes (Some (write_file (o + (len - left)) bytes x).seen) tree (span_at o (len - (left - length bytes)) ∷ [])
unfolding write_file
bytes_grow o len left bytes tree x short fits has_all piece k h =
    let place = o + (len - left) in
    let within = in_one k o (len - (left - length bytes)) h in
    elim (cases_lt k place) [
      | inl old ↦
          let was = has_all k (one_in k o (len - left) within.0 (omega (arith, old))) in
          (omega (arith, was.0, length-spliced x.seen place bytes), seen_outside_write place bytes x k was.0 (inl old) ∙ was.1)
      | inr new ↦
          let below : k < place + length bytes = omega (arith, within.1, short, fits) in
          let back : place + (k - place) ≡ k = omega (arith, new) in (
            omega (arith, below, length-spliced x.seen place bytes),
            byte_wrote place bytes x k new below ∙ piece (k - place) (omega (arith, new, below)) ∙ ap (λ (n : ℕ). slice_index tree n) back,
          )
    ]

-- ---- a part that is written to

module _ (known : List (Option KnownFile)) (files : List NamedFile) (are_files : AreFiles known) (are_named : AreNamed known files) (p : Part) (way : IsOnWay known files p) (bytes : List ℕ) (fits : length bytes ≤ p.left) where
  abbrev path : List ℕ
  path = path_at known p.block.file

  abbrev place : ℕ
  place = place_of p

  pub path_is : path ≡ way.file.path
  path_is = ap path_by way.known_as

  pub path_other : bytes_eq path log_path ≡ false
  path_other = subst (λ (q : List ℕ). bytes_eq q log_path ≡ false) (sym path_is) (eq_sym way.file.path log_path ∙ (other_path way.file.path (are_files.free p.block.file way.file way.known_as)).old)

  pub ends_within : place + length bytes ≤ way.file.size
  ends_within = omega (arith, fits, way.left, way.within)

  outside_range : (k : ℕ) → (is_in k (span_of p.block) ≡ true → ⊥) → IsOutside k (range_at place (length bytes))
  outside_range k out = elim (cases_lt k place) [
    | inl low ↦ inl low
    | inr high ↦ elim (cases_lt k (place + length bytes)) [
      | inl below ↦ absurd (out (in_span k p.block.offset p.block.length (omega (arith, high)) (omega (arith, below, fits, way.left))))
      | inr past ↦ inr past
    ]
  ]

  -- the file of the path among the files
  number_is : (f : NamedFile) → IsAmong f files → f.have.path ≡ path → f.number ≡ p.block.file
  number_is f among same = are_files.once f.number p.block.file (known_of f) way.file (are_named.known_as f among) way.known_as (same ∙ path_is)

  pub clear_files : IsClearAt path way.file.size place (length bytes) files
  clear_files =
      each_from (λ f. f.have.path ≡ path → (f.have.size ≡ way.file.size) × IsClear place (length bytes) f) files (λ f among same.
      let number = number_is f among same in
      let is : known_of f ≡ way.file = same_some (known_of f) way.file (sym (are_named.known_as f among) ∙ ap (known_at known) number ∙ way.known_as) in (
        ap (λ (x : KnownFile). x.size) is,
        λ k there. outside_range k (λ inside. way.clear k inside (subst (λ (n : ℕ). has (spans_at (map marked_of files) n) k ≡ true) number (subst (λ (ss : List _). has ss k ≡ true) (sym (spans_of_file f files (view_parts files are_named.view).rising among)) there))),
      ))

  module _ (logged : List NamedFile) (es : List LogEntry) (view : is_view logged ≡ true) (adds : all_added written_version logged es ≡ Some files) where
    pub clear_logged : IsClearAt path way.file.size place (length bytes) logged
    clear_logged =
        each_from (λ f. f.have.path ≡ path → (f.have.size ≡ way.file.size) × IsClear place (length bytes) f) logged (λ f among same.
        let g = batch_grows written_version logged files es view adds f among in
        let c = each_in (λ h. h.have.path ≡ path → (h.have.size ≡ way.file.size) × IsClear place (length bytes) h) files g.0 clear_files g.1 (g.2.path ∙ same) in
        (sym g.2.size ∙ c.0, λ k there. c.1 k (g.2.spans k there)))

  module _ (d : Disk) (stands : StandsWithin d way.file) where
    pub there : d path ≡ Some stands.found
    there = ap d path_is ∙ stands.there

    pub may : (fs : List NamedFile) → IsClearAt path way.file.size place (length bytes) fs → MayWrite path way.file.size place (length bytes) fs d
    may fs clear = record {
      other = path_other;
      clear = clear;
      stands = subst (λ (o : Option DiskFile). IfFile (λ f. length f.seen ≤ way.file.size) o) (sym there) stands.within;
      ends = ends_within;
    }

    abbrev now : Disk
    now = wrote path place bytes d

    here : now path ≡ Some (write_file place bytes stands.found)
    here = with_file-same path _ d ∙ ap (option_map (write_file place bytes)) there

    seen_before : seen_of d path ≡ Some stands.found.seen
    seen_before = ap (option_map (λ (f : DiskFile). f.seen)) there

    seen_after : seen_of now path ≡ Some (write_file place bytes stands.found).seen
    seen_after = ap (option_map (λ (f : DiskFile). f.seen)) here

    pub files_read : (T : List File) → GoodFiles T (seen_of d) files → GoodFiles T (seen_of now) files
    files_read T good = write_keeps_reads path way.file.size place bytes files d (may files clear_files) T good

    stands_after : (T : List File) → IsTrees T way.file → (file : KnownFile) → IsTrees T file → StandsWithin d file → StandsWithin now file
    stands_after T trees file tree was = go (bytes_eq path file.path) refl
      where
        go : (b : Bool) → bytes_eq path file.path ≡ b → StandsWithin now file
        go true e =
            let same : path ≡ file.path = (bytes_eq-Decides path file.path).0 e in
            let size : way.file.size ≡ file.size = one_size T way.file file trees tree (sym path_is ∙ same) in
            record {
              found = write_file place bytes stands.found;
              there = ap now (sym same) ∙ here;
              within = written_within place bytes stands.found file.size (omega (arith, stands.within, size)) (omega (arith, ends_within, size));
            }
        go false e = record { found = was.found; there = with_file-other path file.path _ d e ∙ was.there; within = was.within }

    pub all_stand_after : (T : List File) → Each (IfKnown (IsTrees T)) known → KnownStand known d → KnownStand known now
    all_stand_after T trees stand = all_known (IsTrees T) (StandsWithin d) (StandsWithin now) known (stands_after T (known_file (IsTrees T) known p.block.file way.file trees way.known_as)) trees stand

    -- the next bytes of the block
    pub part_after : (T : List File) → IsRead T path place bytes → HasPart T known d p.left p.block → HasPart T known now (p.left - length bytes) p.block
    part_after T read has_part t found =
        subst (λ (o : Option (List ℕ)). HasBytes o t.bytes (span_at p.block.offset (p.block.length - (p.left - length bytes)) ∷ [])) (sym seen_after)
        (bytes_grow p.block.offset p.block.length p.left bytes t.bytes stands.found way.left fits (subst (λ (o : Option (List ℕ)). HasBytes o t.bytes (span_at p.block.offset (p.block.length - p.left) ∷ [])) seen_before (has_part t found)) piece)
      where
        same : read.file ≡ t
        same = same_some read.file t (sym read.found ∙ found)

        piece : (k : ℕ) → k < length bytes → slice_index bytes k ≡ slice_index t.bytes (place + k)
        piece k below =
            ap (λ (xs : List ℕ). slice_index xs k) read.same ∙ get_or-take (length bytes) (drop place read.file.bytes) k 0 below ∙ get_or-drop place read.file.bytes k 0
            ∙ ap (λ (f : File). slice_index f.bytes (place + k)) same

    -- what was written of a block that shares no position with the range stays
    pub other_part : (T : List File) (left : ℕ) (b : Block) → (path ≡ path_at known b.file → (k : ℕ) → b.offset ≤ k → k < b.offset + (b.length - left) → IsOutside k (range_at place (length bytes))) → HasPart T known d left b → HasPart T known now left b
    other_part T left b apart has_part t found = go (bytes_eq path (path_at known b.file)) refl
      where
        go : (c : Bool) → bytes_eq path (path_at known b.file) ≡ c → HasBytes (seen_of now (path_at known b.file)) t.bytes (span_at b.offset (b.length - left) ∷ [])
        go true e =
            let same : path ≡ path_at known b.file = (bytes_eq-Decides path (path_at known b.file)).0 e in
            let before : seen_of d (path_at known b.file) ≡ Some stands.found.seen = ap (seen_of d) (sym same) ∙ seen_before in
            let after : seen_of now (path_at known b.file) ≡ Some (write_file place bytes stands.found).seen = ap (seen_of now) (sym same) ∙ seen_after in
            subst (λ (o : Option (List ℕ)). HasBytes o t.bytes (span_at b.offset (b.length - left) ∷ [])) (sym after)
            (bytes_beside place bytes t.bytes stands.found b.offset (b.length - left) (apart same) (subst (λ (o : Option (List ℕ)). HasBytes o t.bytes (span_at b.offset (b.length - left) ∷ [])) before (has_part t found)))
        go false e =
            subst (λ (o : Option (List ℕ)). HasBytes o t.bytes (span_at b.offset (b.length - left) ∷ [])) (sym (ap (option_map (λ (f : DiskFile). f.seen)) (with_file-other path (path_at known b.file) _ d e))) (has_part t found)

    -- of the block itself, what was written before stays
    pub own_part : (T : List File) → HasPart T known d p.left p.block → HasPart T known now p.left p.block
    own_part T has_part = other_part T p.left p.block (λ same k low high. inl high) has_part

    -- and of a block that is on its way apart from it
    pub apart_part : (T : List File) (q : Part) → IsOnWay known files q → AreApart p.block q.block → HasPart T known d q.left q.block → HasPart T known now q.left q.block
    apart_part T q on apart has_part = other_part T q.left q.block (λ same k low high. outside_range k (λ inside. apart (number same) k inside (in_span k q.block.offset q.block.length low (omega (arith, high, on.left))))) has_part
      where
        number : path ≡ path_at known q.block.file → p.block.file ≡ q.block.file
        number same = are_files.once p.block.file q.block.file way.file on.file way.known_as on.known_as (sym path_is ∙ same ∙ ap path_by on.known_as)
