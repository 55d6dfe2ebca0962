-- What is logged of blocks that landed: which files it touches, and where they are.
use Rattle.std.proofs.Common.{◌≡◌, ◌⊎◌, inl, inr, ℕ, zero, suc, Bool, true, false, nat_lt, List, [], ◌∷◌, ◌++◌, map, Option, Some, None, refl, sym, ap, ◌∙◌, subst}
use Rattle.std.specs.Prelude.{option_and_then, is_some, if◌then◌else◌, ◌==◌, IsSome}
use Rattle.std.specs.List.{list_any}
use Rattle.std.specs.Str.{bytes_eq}
use Rattle.std.proofs.lemmas.Bool.{and_parts, eqb-true, or_parts}
use Rattle.wdt_units.specs.declared.blocks.Block.{Block}
use Rattle.wdt_depot.specs.Disk.{Disk, DiskFile}
use Rattle.wdt_logfmt.specs.declared.entry.LogEntry.{LogEntry}
use Rattle.wdt_logfmt.specs.declared.entry.LogEntry.TheVariants.{Covered}
use Rattle.wdt_logfmt.specs.Adding.{added, all_added}
use Rattle.wdt_logfmt.specs.Batches.{block_entries, entries_of, file_entry, file_entry_by, files_behind, files_or, has_known_file, have_known_files, is_known, numbers_of, path_at, path_by, put_number, span_entry}
use Rattle.wdt_logfmt.specs.Beginning.{KnownFile, known_at}
use Rattle.wdt_logfmt.specs.Landing.{IsAmong, entry_number}
use Rattle.wdt_logfmt.specs.Spelling.{written_version}
use Rattle.wdt_logfmt.specs.View.{NamedFile, is_numbered}
use Rattle.wdt_logfmt.proofs.ForCallers.{all_added-append, entry_touches}
use Rattle.wdt_good.specs.Good.{Each, log_path}
use Rattle.wdt_files.specs.PlainFiles.{AreFiles, AreNamed}
use Rattle.wdt_log.specs.Flushing.{AllStand, IsPathAmong}
use Rattle.wdt_dock.specs.Booked.{KnownStand}
use Rattle.wdt_dock.specs.DockGood.{IfKnown, StandsWithin}

-- ---- numbers of blocks' files

IsOf : ℕ → List ℕ → Type 0
IsOf n [] = ⊥
IsOf n (m ∷ ms) = (m ≡ n) ⊎ IsOf n ms

put_here : (n : ℕ) (ms : List ℕ) → IsOf n (put_number n ms)
unfolding IsOf
put_here n [] = inl refl
put_here n (m ∷ ms) = go (n == m) refl (nat_lt n m) (put_here n ms)
  where
    go : (c : Bool) → (n == m) ≡ c → (d : Bool) → IsOf n (put_number n ms) → IsOf n (if c then m ∷ ms else if d then n ∷ m ∷ ms else m ∷ put_number n ms)
    go true e d later = inl (sym (same n m e))
      where
        same : (a b : ℕ) → (a == b) ≡ true → a ≡ b
        same a b e = eqb-true a b e
    go false e true later = inl refl
    go false e false later = inr later

put_keeps : (k n : ℕ) (ms : List ℕ) → IsOf k ms → IsOf k (put_number n ms)
unfolding IsOf
put_keeps k n [] among = absurd among
put_keeps k n (m ∷ ms) among = go (n == m) (nat_lt n m) among (λ later. put_keeps k n ms later)
  where
    go : (c d : Bool) → (m ≡ k) ⊎ IsOf k ms → (IsOf k ms → IsOf k (put_number n ms)) → IsOf k (if c then m ∷ ms else if d then n ∷ m ∷ ms else m ∷ put_number n ms)
    go true d among more = among
    go false true among more = inr among
    go false false (inl is) more = inl is
    go false false (inr later) more = inr (more later)

path_among : (known : List (Option KnownFile)) (n : ℕ) (ns : List ℕ) → IsOf n ns → IsPathAmong (path_at known n) (map (path_at known) ns)
unfolding IsOf
path_among known n [] among = absurd among
path_among known n (m ∷ ms) (inl is) = inl (ap (path_at known) is)
path_among known n (m ∷ ms) (inr later) = inr (path_among known n ms later)

each_put : (P : ℕ → Type 0) (n : ℕ) (ms : List ℕ) → P n → Each P ms → Each P (put_number n ms)
each_put P n [] here all = (here, tt)
each_put P n (m ∷ ms) here all = go (n == m) (nat_lt n m) (each_put P n ms here all.1)
  where
    go : (c d : Bool) → Each P (put_number n ms) → Each P (if c then m ∷ ms else if d then n ∷ m ∷ ms else m ∷ put_number n ms)
    go true d later = all
    go false true later = (here, all)
    go false false later = (all.0, later)

-- what holds of each known file's number holds of the numbers of blocks whose files are known
each_number : (P : ℕ → Type 0) (known : List (Option KnownFile)) (bs : List Block) → ((n : ℕ) → is_known known n ≡ true → P n) → have_known_files known bs ≡ true → Each P (numbers_of bs)
each_number P known [] each all = tt
each_number P known (b ∷ bs) each all =
    let a = and_parts (has_known_file known b) (have_known_files known bs) all in
    each_put P b.file (numbers_of bs) (each b.file a.0) (each_number P known bs each a.1)

each_mapped : {A B : Type 0} (P : B → Type 0) (f : A → B) (xs : List A) → Each (λ x. P (f x)) xs → Each P (map f xs)
each_mapped P f [] all = tt
each_mapped P f (x ∷ xs) all = (all.0, each_mapped P f xs all.1)

-- ---- which files are touched

entries_touch : (n : ℕ) (es : List LogEntry) (fs gs : List NamedFile) (g : NamedFile) → Each (λ e. entry_number e ≡ n) es → all_added written_version fs es ≡ Some gs → IsAmong g gs → (g.number ≡ n) ⊎ IsAmong g fs
entries_touch n [] fs gs g all adds among = inr (subst (IsAmong g) (let same : gs ≡ fs = cc in same) among)
entries_touch n (e ∷ es) fs gs g all adds among = go (added written_version fs e) refl adds (λ ms rest. entries_touch n es ms gs g all.1 rest among)
  where
    later : (ms : List NamedFile) → added written_version fs e ≡ Some ms → (g.number ≡ n) ⊎ IsAmong g ms → (g.number ≡ n) ⊎ IsAmong g fs
    later ms step (inl same) = inl same
    later ms step (inr was) = elim (entry_touches written_version fs ms e g step was) [ inl same ↦ inl (same ∙ all.0) | inr before ↦ inr before ]

    go : (o : Option (List NamedFile)) → added written_version fs e ≡ o → option_and_then (λ ms. all_added written_version ms es) o ≡ Some gs → ((ms : List NamedFile) → all_added written_version ms es ≡ Some gs → (g.number ≡ n) ⊎ IsAmong g ms)
        → (g.number ≡ n) ⊎ IsAmong g fs
    go None step rest each = absurd (cc)
    go (Some ms) step rest each = later ms step (each ms rest)

each_joined : {A : Type 0} (P : A → Type 0) (xs ys : List A) → Each P xs → Each P ys → Each P (xs ++ ys)
each_joined P [] ys one two = two
each_joined P (x ∷ xs) ys one two = (one.0, each_joined P xs ys one.1 two)

own_entries : (known : List (Option KnownFile)) (fs : List NamedFile) (b : Block) → Each (λ e. entry_number e ≡ b.file) (block_entries known fs b)
own_entries known fs b = each_joined (λ e. entry_number e ≡ b.file) (file_entry known fs b.file) (span_entry b) (named (list_any (is_numbered b.file) fs) (known_at known b.file)) (laid (b.length == 0))
  where
    named : (c : Bool) (o : Option KnownFile) → Each (λ e. entry_number e ≡ b.file) (if c then [] else file_entry_by o b.file)
    named true o = tt
    named false None = tt
    named false (Some file) = (refl, tt)

    laid : (c : Bool) → Each (λ e. entry_number e ≡ b.file) (if c then [] else Covered b.file b.offset b.length ∷ [])
    laid true = tt
    laid false = (refl, tt)

-- the parts of a batch: the first block's entries lead somewhere, and the others go on from there
split_by : (fs gs : List NamedFile) (es : List LogEntry) (rest : List NamedFile → List LogEntry) (o : Option (List NamedFile)) → all_added written_version fs es ≡ o → option_and_then (λ ms. all_added written_version ms (rest (files_or fs o))) o ≡ Some gs
    → (ms : List NamedFile) × (all_added written_version fs es ≡ Some ms) × (all_added written_version ms (rest ms) ≡ Some gs)
split_by fs gs es rest None first both = absurd (cc)
split_by fs gs es rest (Some ms) first both = (ms, first, both)

pub first_block : (known : List (Option KnownFile)) (fs gs : List NamedFile) (b : Block) (bs : List Block) → all_added written_version fs (entries_of known fs (b ∷ bs)) ≡ Some gs
    → (ms : List NamedFile) × (all_added written_version fs (block_entries known fs b) ≡ Some ms) × (all_added written_version ms (entries_of known ms bs) ≡ Some gs)
first_block known fs gs b bs adds =
    let es = block_entries known fs b in
    split_by fs gs es (λ ms. entries_of known ms bs) (all_added written_version fs es) refl (sym (all_added-append written_version fs es (entries_of known (files_behind fs es) bs)) ∙ adds)

blocks_touch : (known : List (Option KnownFile)) (bs : List Block) (fs gs : List NamedFile) (g : NamedFile) → all_added written_version fs (entries_of known fs bs) ≡ Some gs → IsAmong g gs → IsOf g.number (numbers_of bs) ⊎ IsAmong g fs
blocks_touch known [] fs gs g adds among = inr (subst (IsAmong g) (let same : gs ≡ fs = cc in same) among)
blocks_touch known (b ∷ bs) fs gs g adds among =
    let s = first_block known fs gs b bs adds in
    elim (blocks_touch known bs s.0 gs g s.2 among) [
      | inl later ↦ inl (put_keeps g.number b.file (numbers_of bs) later)
      | inr was ↦ elim (entries_touch b.file (block_entries known fs b) fs s.0 g (own_entries known fs b) s.1 was) [
        | inl same ↦ inl (subst (λ (n : ℕ). IsOf n (put_number b.file (numbers_of bs))) (sym same) (put_here b.file (numbers_of bs)))
        | inr before ↦ inr before
      ]
    ]

-- each of the files that a batch leads to is one of its blocks', or is in the log as it is
pub touched : (known : List (Option KnownFile)) (bs : List Block) (fs gs : List NamedFile) → AreNamed known gs → all_added written_version fs (entries_of known fs bs) ≡ Some gs → (g : NamedFile) → IsAmong g gs
    → IsPathAmong g.have.path (map (path_at known) (numbers_of bs)) ⊎ IsAmong g fs
touched known bs fs gs named adds g among = elim (blocks_touch known bs fs gs g adds among) [
  | inl of ↦ inl (subst (λ (p : List ℕ). IsPathAmong p (map (path_at known) (numbers_of bs))) (ap path_by (named.known_as g among)) (path_among known g.number (numbers_of bs) of))
  | inr was ↦ inr was
]

-- ---- the paths of its files

known_some : (o : Option KnownFile) → is_some o ≡ true → (file : KnownFile) × (o ≡ Some file)
known_some None h = absurd (cc)
known_some (Some file) h = (file, refl)

-- none is the log's
pub others : (known : List (Option KnownFile)) (bs : List Block) → AreFiles known → have_known_files known bs ≡ true → Each (λ path. bytes_eq path log_path ≡ false) (map (path_at known) (numbers_of bs))
others known bs files all = each_mapped (λ path. bytes_eq path log_path ≡ false) (path_at known) (numbers_of bs) (each_number (λ n. bytes_eq (path_at known n) log_path ≡ false) known bs one all)
  where
    one : (n : ℕ) → is_known known n ≡ true → bytes_eq (path_at known n) log_path ≡ false
    one n there =
        let s = known_some (known_at known n) there in
        subst (λ (o : Option KnownFile). bytes_eq (path_by o) log_path ≡ false) (sym s.1) (or_parts (bytes_eq s.0.path log_path) _ (files.free n s.0 s.1)).0

stands_at : (known : List (Option KnownFile)) (d : Disk) (n : ℕ) (file : KnownFile) → KnownStand known d → known_at known n ≡ Some file → IsSome (d file.path)
stands_at [] d n file all there = absurd (cc)
stands_at (slot ∷ slots) d zero file all there = (let s = subst (IfKnown (StandsWithin d)) there all.0 in subst (λ (o : Option DiskFile). IsSome o) (sym s.there) refl)
stands_at (slot ∷ slots) d (suc n) file all there = stands_at slots d n file all.1 there

-- a file is at each of them
pub all_stand : (known : List (Option KnownFile)) (bs : List Block) (d : Disk) → have_known_files known bs ≡ true → KnownStand known d → AllStand (map (path_at known) (numbers_of bs)) d
all_stand known bs d all stand = each_mapped (λ path. IsSome (d path)) (path_at known) (numbers_of bs) (each_number (λ n. IsSome (d (path_at known n))) known bs one all)
  where
    one : (n : ℕ) → is_known known n ≡ true → IsSome (d (path_at known n))
    one n there =
        let s = known_some (known_at known n) there in
        subst (λ (o : Option KnownFile). IsSome (d (path_by o))) (sym s.1) (stands_at known d n s.0 stand s.1)
