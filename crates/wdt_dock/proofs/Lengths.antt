-- How long a batch of blocks that landed is.
use Rattle.std.proofs.Common.{◌≡◌, inl, inr, ℕ, zero, suc, ◌+◌, ◌*◌, ◌<◌, ◌≤◌, ◌^◌, Bool, true, false, ◌&&◌, not, nat_lt, nat_le, List, [], ◌∷◌, ◌++◌, length, map, filter, Option, Some, None, refl, sym, ap, ◌∙◌, subst, arith, length-append}
use Rattle.std.specs.Prelude.{cond, option_and_then, if◌then◌else◌, ◌==◌}
use Rattle.std.specs.Int.{bytes_high_first}
use Rattle.std.specs.List.{list_all, list_any}
use Rattle.std.specs.Str.{is_utf8}
use Rattle.std.proofs.lemmas.Bool.{and_parts, ltb-true, leb-true}
use Rattle.wdt_units.specs.declared.limits.TheConstants.{MAX_BLOCKS, MAX_FILES, MAX_PATH}
use Rattle.wdt_units.specs.declared.blocks.Block.{Block}
use Rattle.wdt_units.specs.Path.{has_parts, is_lawful, is_shaped}
use Rattle.wdt_logfmt.specs.declared.entry.LogEntry.{LogEntry}
use Rattle.wdt_logfmt.specs.declared.entry.LogEntry.TheVariants.{File, Covered}
use Rattle.wdt_logfmt.specs.Adding.{added, all_added, can_cover, can_name, covering, just_named, put_by_number, span_at}
use Rattle.wdt_logfmt.specs.Batches.{block_entries, entries_of, file_entry, file_entry_by, files_behind, files_or, span_entry}
use Rattle.wdt_logfmt.specs.Beginning.{KnownFile, known_at}
use Rattle.wdt_logfmt.specs.Landing.{IsAmong}
use Rattle.wdt_logfmt.specs.Spelling.{spell, spell_all, written_version}
use Rattle.wdt_logfmt.specs.View.{NamedFile, is_numbered, is_numbered_above, is_rising}
use Rattle.wdt_logfmt.proofs.ForCallers.{all_added-append, taken_true, view_parts}
use Rattle.wdt_files.specs.PlainFiles.{AreFiles, AreNamed}
use Rattle.wdt_receiver_fsm.specs.Batched.{is_filled}
use Rattle.wdt_dock.proofs.Booking.{first_block}

-- ---- files that rise by number are no more than there are numbers

below_all : (n : ℕ) (f : NamedFile) (fs : List NamedFile) → list_all (is_numbered_above f) fs ≡ true → (g : NamedFile) → IsAmong g fs → f.number < g.number
below_all n f [] all g among = absurd among
below_all n f (x ∷ fs) all g (inl is) = (let a = and_parts (nat_lt f.number x.number) (list_all (is_numbered_above f) fs) all in subst (λ (y : NamedFile). f.number < y.number) is (ltb-true f.number x.number a.0))
below_all n f (x ∷ fs) all g (inr more) = below_all n f fs (and_parts (nat_lt f.number x.number) (list_all (is_numbered_above f) fs) all).1 g more

few_rising : (least most : ℕ) (fs : List NamedFile) → least ≤ most → is_rising fs ≡ true → ((g : NamedFile) → IsAmong g fs → (least ≤ g.number) × (g.number < most)) → length fs + least ≤ most
few_rising least most [] low up each = omega (arith, low)
few_rising least most (f ∷ fs) low up each =
    let u = and_parts (list_all (is_numbered_above f) fs) (is_rising fs) up in
    let here = each f (inl refl) in
    let more : length fs + suc f.number ≤ most = few_rising (suc f.number) most fs (omega (arith, here.1)) u.1 (λ g among. (omega (arith, below_all 0 f fs u.0 g among), (each g (inr among)).1)) in
    omega (arith, more, here.0)

known_below : (known : List (Option KnownFile)) (n : ℕ) (file : KnownFile) → known_at known n ≡ Some file → n < length known
known_below [] n file there = absurd (cc)
known_below (slot ∷ slots) zero file there = omega arith
known_below (slot ∷ slots) (suc n) file there = omega (arith, known_below slots n file there)

pub few_files : (known : List (Option KnownFile)) (fs : List NamedFile) → AreFiles known → AreNamed known fs → length fs ≤ MAX_FILES
few_files known fs files named =
    let most : length fs + 0 ≤ length known = few_rising 0 (length known) fs (omega arith) (view_parts fs named.view).rising (λ g among. (omega arith, known_below known g.number _ (named.known_as g among))) in
    omega (arith, most, files.few)

-- ---- the bytes of entries

path_short : (path : List ℕ) → is_lawful path ≡ true → length path ≤ 1024
unfolding is_lawful is_shaped
path_short path lawful =
    let a = and_parts (is_utf8 path) (is_shaped path) lawful in
    let b = and_parts (nat_lt 0 (length path) && nat_le (length path) MAX_PATH && not (list_any (λ (x : ℕ). x == 0) path)) (has_parts path) a.1 in
    let c = and_parts (nat_lt 0 (length path) && nat_le (length path) MAX_PATH) (not (list_any (λ (x : ℕ). x == 0) path)) b.0 in
    let d = and_parts (nat_lt 0 (length path)) (nat_le (length path) MAX_PATH) c.0 in
    leb-true (length path) MAX_PATH d.1

file_bytes : (number : ℕ) (path : List ℕ) (size stamp : ℕ) → length (spell_all (File number path size stamp ∷ [])) ≡ 23 + length path
file_bytes number path size stamp =
    let stamps = bytes_high_first 8 size ++ bytes_high_first 8 stamp in
    omega (arith, length-append path stamps, length-append (path ++ stamps) [], length-append path (stamps ++ []))

joined_bytes : (es ds : List LogEntry) → length (spell_all (es ++ ds)) ≡ length (spell_all es) + length (spell_all ds)
joined_bytes [] ds = omega arith
joined_bytes (e ∷ es) ds = omega (arith, length-append (spell e) (spell_all (es ++ ds)), length-append (spell e) (spell_all es), joined_bytes es ds)

put_length : (x : NamedFile) (fs : List NamedFile) → length (put_by_number x fs) ≡ length fs + 1
put_length x [] = refl
put_length x (f ∷ fs) = go (nat_lt x.number f.number) (put_length x fs)
  where
    go : (c : Bool) → length (put_by_number x fs) ≡ length fs + 1 → length (if c then x ∷ f ∷ fs else f ∷ put_by_number x fs) ≡ length (f ∷ fs) + 1
    go true later = omega arith
    go false later = omega (arith, later)

map_length : (h : NamedFile → NamedFile) (fs : List NamedFile) → length (map h fs) ≡ length fs
map_length h [] = refl
map_length h (f ∷ fs) = omega (arith, map_length h fs)

-- a file's entry has at most 1,047 bytes, and names one file more
named_bytes : (known : List (Option KnownFile)) → AreFiles known → (fs ms : List NamedFile) (n : ℕ) → all_added written_version fs (file_entry known fs n) ≡ Some ms → length (spell_all (file_entry known fs n)) + 1047 * length fs ≤ 1047 * length ms
named_bytes known files fs ms n adds = go (list_any (is_numbered n) fs) (known_at known n) refl adds
  where
    same : {A : Type 0} (x y : List A) → Some x ≡ Some y → length x ≡ length y
    same x y e = (let is : x ≡ y = cc in ap length is)

    one : (file : KnownFile) → known_at known n ≡ Some file → (o : Option (List NamedFile)) → o ≡ added written_version fs (File n file.path file.size file.stamp) → option_and_then (λ gs. Some gs) o ≡ Some ms
        → length (spell_all (File n file.path file.size file.stamp ∷ [])) + 1047 * length fs ≤ 1047 * length ms
    one file there None is rest = absurd (cc)
    one file there (Some gs) is rest =
        let t = taken_true (can_name fs n file.path file.size) (put_by_number (just_named n file.path file.size file.stamp) fs) gs (sym is) in
        omega (arith, file_bytes n file.path file.size file.stamp, path_short file.path (files.lawful n file there), put_length (just_named n file.path file.size file.stamp) fs, ap length t.1, same gs ms rest)

    go : (c : Bool) (o : Option KnownFile) → known_at known n ≡ o → all_added written_version fs (if c then [] else file_entry_by o n) ≡ Some ms → length (spell_all (if c then [] else file_entry_by o n)) + 1047 * length fs ≤ 1047 * length ms
    go true o there rest = omega (arith, same fs ms rest)
    go false None there rest = omega (arith, same fs ms rest)
    go false (Some file) there rest = one file there (added written_version fs (File n file.path file.size file.stamp)) refl rest

-- a span's entry has 17 bytes, and names no file
span_bytes : (fs ms : List NamedFile) (b : Block) → all_added written_version fs (span_entry b) ≡ Some ms → length (spell_all (span_entry b)) + 1047 * length fs ≤ 1047 * length ms + 17 * cond (is_filled b) 1 0
span_bytes fs ms b adds = go (b.length == 0) adds
  where
    same : {A : Type 0} (x y : List A) → Some x ≡ Some y → length x ≡ length y
    same x y e = (let is : x ≡ y = cc in ap length is)

    one : (o : Option (List NamedFile)) → o ≡ added written_version fs (Covered b.file b.offset b.length) → option_and_then (λ gs. Some gs) o ≡ Some ms → length fs ≡ length ms
    one None is rest = absurd (cc)
    one (Some gs) is rest =
        let s = span_at b.offset b.length in
        let t = taken_true (can_cover fs b.file s) (map (covering b.file s) fs) gs (sym is) in
        sym (map_length (covering b.file s) fs) ∙ ap length t.1 ∙ same gs ms rest

    go : (c : Bool) → all_added written_version fs (if c then [] else Covered b.file b.offset b.length ∷ []) ≡ Some ms
        → length (spell_all (if c then [] else Covered b.file b.offset b.length ∷ [])) + 1047 * length fs ≤ 1047 * length ms + 17 * cond (not c) 1 0
    go true rest = omega (arith, same fs ms rest)
    go false rest = omega (arith, one (added written_version fs (Covered b.file b.offset b.length)) refl rest)

filled_length : (b : Block) (bs : List Block) → length (filter is_filled (b ∷ bs)) ≡ cond (is_filled b) 1 0 + length (filter is_filled bs)
filled_length b bs = go (is_filled b)
  where
    go : (c : Bool) → length (cond c (b ∷ filter is_filled bs) (filter is_filled bs)) ≡ cond c 1 0 + length (filter is_filled bs)
    go true = omega arith
    go false = omega arith

-- the parts of a block's entries
pub parted : (fs gs : List NamedFile) (es ds : List LogEntry) → all_added written_version fs (es ++ ds) ≡ Some gs → (ms : List NamedFile) × (all_added written_version fs es ≡ Some ms) × (all_added written_version ms ds ≡ Some gs)
parted fs gs es ds adds = go (all_added written_version fs es) refl (sym (all_added-append written_version fs es ds) ∙ adds)
  where
    go : (o : Option (List NamedFile)) → all_added written_version fs es ≡ o → option_and_then (λ ms. all_added written_version ms ds) o ≡ Some gs → (ms : List NamedFile) × (all_added written_version fs es ≡ Some ms) × (all_added written_version ms ds ≡ Some gs)
    go None first rest = absurd (cc)
    go (Some ms) first rest = (ms, first, rest)

blocks_bytes : (known : List (Option KnownFile)) → AreFiles known → (bs : List Block) (fs gs : List NamedFile) → all_added written_version fs (entries_of known fs bs) ≡ Some gs
    → length (spell_all (entries_of known fs bs)) + 1047 * length fs ≤ 1047 * length gs + 17 * length (filter is_filled bs)
blocks_bytes known files [] fs gs adds = (let same : fs ≡ gs = cc in omega (arith, ap length same))
blocks_bytes known files (b ∷ bs) fs gs adds =
    let s = first_block known fs gs b bs adds in
    let p = parted fs s.0 (file_entry known fs b.file) (span_entry b) s.1 in
    let es = block_entries known fs b in
    let behind : length (spell_all (entries_of known (files_behind fs es) bs)) ≡ length (spell_all (entries_of known s.0 bs)) = ap (λ (ms : List NamedFile). length (spell_all (entries_of known ms bs))) (leads s.1) in
    omega (arith, joined_bytes es (entries_of known (files_behind fs es) bs), behind, joined_bytes (file_entry known fs b.file) (span_entry b), named_bytes known files fs p.0 b.file p.1, span_bytes p.0 s.0 b p.2, blocks_bytes known files bs s.0 gs s.2, filled_length b bs)
  where
    leads : {ms : List NamedFile} → all_added written_version fs (block_entries known fs b) ≡ Some ms → files_behind fs (block_entries known fs b) ≡ ms
    leads {ms} first = ap (λ (o : Option (List NamedFile)). files_or fs o) first

-- a batch of fewer blocks with bytes than a lane may have has its place in the log
pub batch_fits : (known : List (Option KnownFile)) (bs : List Block) (fs gs : List NamedFile) → AreFiles known → AreNamed known gs → all_added written_version fs (entries_of known fs bs) ≡ Some gs → length (filter is_filled bs) ≤ MAX_BLOCKS
    → length (spell_all (entries_of known fs bs)) < 2 ^ 32
batch_fits known bs fs gs files named adds few = omega (arith, blocks_bytes known files bs fs gs adds, few_files known gs files named, few)
