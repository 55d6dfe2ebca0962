-- A block that may begin is on its way beside the others.
use Rattle.std.proofs.Common.{◌≡◌, ◌⊎◌, inl, inr, ℕ, zero, suc, ◌+◌, ◌<◌, ◌≤◌, Bool, true, false, ◌&&◌, not, nat_lt, nat_le, List, [], ◌∷◌, ◌++◌, length, map, sum_by, Option, Some, None, refl, sym, ap, ◌∙◌, subst, arith}
use Rattle.std.specs.Prelude.{cond, filter, if◌then◌else◌, is_some, max, slice_set, ◌==◌}
use Rattle.std.proofs.lemmas.Bool.{and_from, and_parts, cases_Bool, cases_eq, eq-eqb, eqb-true, or_cases, or_left, both_ways, leb-true, lt-ltb, ltb-true, ltb-false}
use Rattle.std.proofs.lemmas.List.Sums.{sum_by-cons}
use Rattle.wdt_units.specs.declared.limits.TheConstants.{MAX_FILES, MAX_FILE_SIZE, MAX_SPANS, MAX_TOTAL}
use Rattle.wdt_units.specs.declared.blocks.Block.{Block}
use Rattle.wdt_units.specs.declared.blocks.Header.{Header}
use Rattle.wdt_units.specs.Headers.{FitsHeader}
use Rattle.wdt_units.specs.Have.{PlainSpan, is_in}
use Rattle.wdt_units.specs.Path.{is_lawful, is_reserved}
use Rattle.wdt_ranges.specs.Spans.{has}
use Rattle.wdt_logfmt.specs.Adding.{overlap}
use Rattle.wdt_logfmt.specs.Batches.{is_known}
use Rattle.wdt_logfmt.specs.Beginning.{BeginFault, KnownFile, OverLimit, SizeDiffers, begin_fault, block_of, bytes_with, files_with, first_in_both, first_shared, first_taken, free_number, is_new, is_of_file, is_taken, known_at, known_count, least_position, length_of, limit_fault, number_by, number_of, one_if, or_else, over, overlap_fault, overlap_fault_by, size_fault, size_fault_by, span_cost, span_of, spans_with, taken_spans, with_known}
use Rattle.wdt_logfmt.specs.Marks.{Marked, marked_of, spans_at}
use Rattle.wdt_logfmt.specs.View.{NamedFile}
use Rattle.wdt_logfmt.proofs.ForCallers.{known_stays, new_slot, number_found, number_new}
use Rattle.wdt_writer.specs.declared.parts.Part.{Part}
use Rattle.wdt_writer.specs.OnWay.{AreApart, AreOnWay, AreSound, IsClearOf, IsOnWay}
use Rattle.wdt_files.specs.PlainFiles.{AreFiles, AreNamed}
use Rattle.wdt_writer.specs.PlainWriter.{blocks_of, file_told, known_by, known_with, part_of, whole}

-- ---- no position in common

none_of_two : (x y : Option ℕ) → least_position x y ≡ None → (x ≡ None) × (y ≡ None)
none_of_two None y e = (refl, e)
none_of_two (Some p) None e = absurd (cc)
none_of_two (Some p) (Some q) e = absurd (cc)

-- spans that overlap have a first position in common
none_in_both : (s t : PlainSpan) → first_in_both s t ≡ None → overlap s t ≡ false
none_in_both s t e = go (overlap s t) e
  where
    go : (c : Bool) → (if c then Some (max s.offset t.offset) else None) ≡ None → c ≡ false
    go true e = absurd (cc)
    go false e = refl

-- what is in both overlaps
in_both : (s t : PlainSpan) (k : ℕ) → is_in k s ≡ true → is_in k t ≡ true → overlap s t ≡ true
in_both s t k a b =
    let p = and_parts (nat_le s.offset k) (nat_lt k (s.offset + s.count)) a in
    let q = and_parts (nat_le t.offset k) (nat_lt k (t.offset + t.count)) b in
    let p_low = leb-true s.offset k p.0 in
    let p_high = ltb-true k (s.offset + s.count) p.1 in
    let q_low = leb-true t.offset k q.0 in
    let q_high = ltb-true k (t.offset + t.count) q.1 in
    and_from (nat_lt s.offset (t.offset + t.count)) (nat_lt t.offset (s.offset + s.count)) (lt-ltb s.offset (t.offset + t.count) (omega arith)) (lt-ltb t.offset (s.offset + s.count) (omega arith))

none_shared : (ts : List PlainSpan) (s : PlainSpan) (k : ℕ) → first_shared ts s ≡ None → is_in k s ≡ true → has ts k ≡ true → ⊥
none_shared [] s k e a h = both_ways false refl h
none_shared (t ∷ ts) s k e a h =
    let n = none_of_two (first_in_both s t) (first_shared ts s) e in
    elim (or_cases (is_in k t) (has ts k) h) [
      | inl here ↦ both_ways (overlap s t) (none_in_both s t n.0) (in_both s t k a here)
      | inr later ↦ none_shared ts s k n.1 a later
    ]

none_shared-append : (ts us : List PlainSpan) (s : PlainSpan) → first_shared (ts ++ us) s ≡ None → (first_shared ts s ≡ None) × (first_shared us s ≡ None)
none_shared-append [] us s e = (refl, e)
none_shared-append (t ∷ ts) us s e =
    let n = none_of_two (first_in_both s t) (first_shared (ts ++ us) s) e in
    let r = none_shared-append ts us s n.1 in
    (both (first_in_both s t) (first_shared ts s) n.0 r.0, r.1)
  where
    both : (x y : Option ℕ) → x ≡ None → y ≡ None → least_position x y ≡ None
    both None y a b = b
    both (Some p) y a b = absurd (cc)

-- no block of the file among the parts has a position of the span
none_begun : (parts : List (Option Part)) (n : ℕ) (s : PlainSpan) (m : ℕ) (q : Part) (k : ℕ) → first_shared (map span_of (filter (is_of_file n) (blocks_of parts))) s ≡ None → part_of parts m ≡ Some q → q.block.file ≡ n
    → is_in k s ≡ true → is_in k (span_of q.block) ≡ true → ⊥
none_begun [] n s m q k e there same a b = absurd (cc)
none_begun (None ∷ parts) n s zero q k e there same a b = absurd (cc)
none_begun (None ∷ parts) n s (suc m) q k e there same a b = none_begun parts n s m q k e there same a b
none_begun (Some p ∷ parts) n s m q k e there same a b = go m (p.block.file == n) refl e there (λ i f h. none_begun parts n s i q k f h same a b)
  where
    go : (i : ℕ) (c : Bool) → (p.block.file == n) ≡ c → first_shared (map span_of (if c then p.block ∷ filter (is_of_file n) (blocks_of parts) else filter (is_of_file n) (blocks_of parts))) s ≡ None → part_of (Some p ∷ parts) i ≡ Some q
        → ((j : ℕ) → first_shared (map span_of (filter (is_of_file n) (blocks_of parts))) s ≡ None → part_of parts j ≡ Some q → ⊥) → ⊥
    go zero true is e there later =
        let x : p ≡ q = cc in
        none_shared (span_of p.block ∷ map span_of (filter (is_of_file n) (blocks_of parts))) s k e a
        (or_left (is_in k (span_of p.block)) (has (map span_of (filter (is_of_file n) (blocks_of parts))) k) (subst (λ (y : Part). is_in k (span_of y.block) ≡ true) (sym x) b))
    go zero false is e there later = (let x : p ≡ q = cc in both_ways (p.block.file == n) is (eq-eqb p.block.file n (ap (λ (y : Part). y.block.file) x ∙ same)))
    go (suc i) true is e there later = later i (none_of_two (first_in_both s (span_of p.block)) (first_shared (map span_of (filter (is_of_file n) (blocks_of parts))) s) e).1 there
    go (suc i) false is e there later = later i e there

-- ---- what the absence of a fault says

pub none_of : (x y : Option BeginFault) → or_else x y ≡ None → (x ≡ None) × (y ≡ None)
none_of None y e = (refl, e)
none_of (Some f) y e = absurd (cc)

within_limit : (limit count : ℕ) → over limit count ≡ None → count ≤ limit
within_limit limit count e = elim (cases_Bool (nat_lt limit count)) [
  | inl more ↦ absurd (let wrong : over limit count ≡ Some (OverLimit count) = rw more refl in cc)
  | inr not_more ↦ ltb-false limit count not_more
]

in_empty : (b : Block) (k : ℕ) → b.length ≡ 0 → is_in k (span_of b) ≡ true → ⊥
in_empty b k none h =
    let p = and_parts (nat_le b.offset k) (nat_lt k (b.offset + b.length)) h in
    let low = leb-true b.offset k p.0 in
    let high = ltb-true k (b.offset + b.length) p.1 in
    omega (arith, low, high, none)

-- what a block that may begin has: nothing of it is there or on its way
pub record MayBegin (known : List (Option KnownFile)) (files : List NamedFile) (parts : List (Option Part)) (h : Header) : Type 0 where
  pub same_file : (file : KnownFile) → known_at known (block_of known h).file ≡ Some file → file.size ≡ h.size
  pub clear : IsClearOf files (block_of known h)
  pub apart : (m : ℕ) (q : Part) → part_of parts m ≡ Some q → AreApart (block_of known h) q.block
  pub count : files_with known (is_new known h) ≤ MAX_FILES
  pub spans : spans_with (map marked_of files) (block_of known h ∷ blocks_of parts) ≤ MAX_SPANS
  pub bytes : bytes_with (map marked_of files) (block_of known h ∷ blocks_of parts) ≤ MAX_TOTAL

module _ (known : List (Option KnownFile)) (files : List NamedFile) (parts : List (Option Part)) (h : Header) where
  abbrev ms : List Marked
  ms = map marked_of files

  abbrev begun : List Block
  begun = blocks_of parts

  abbrev b : Block
  b = block_of known h

  pub taken_none : (o : Option ℕ) → overlap_fault_by o ≡ None → o ≡ None
  taken_none None e = refl
  taken_none (Some p) e = absurd (cc)

  sized : (o : Option KnownFile) (file : KnownFile) → o ≡ Some file → size_fault_by o h ≡ None → file.size ≡ h.size
  sized None file e none = absurd (cc)
  sized (Some g) file e none = go (g.size == h.size) (g.stamp == h.stamp) refl none
    where
      go : (c d : Bool) → (g.size == h.size) ≡ c → (if c && d then None else Some (SizeDiffers g.size g.stamp h.size h.stamp)) ≡ None → file.size ≡ h.size
      go true d is none = (let x : g ≡ file = cc in ap (λ (y : KnownFile). y.size) (sym x) ∙ eqb-true g.size h.size is)
      go false d is none = absurd (cc)

  -- the spans that are taken, for a block that isn't empty
  not_taken : (k : ℕ) → is_in k (span_of b) ≡ true → first_taken ms begun b ≡ None → first_shared (taken_spans ms begun b.file) (span_of b) ≡ None
  not_taken k i free = go (b.length == 0) refl free
    where
      go : (c : Bool) → (b.length == 0) ≡ c → (if c then (if is_taken ms begun b.file then Some 0 else None) else first_shared (taken_spans ms begun b.file) (span_of b)) ≡ None → first_shared (taken_spans ms begun b.file) (span_of b) ≡ None
      go true is free = absurd (in_empty b k (eqb-true b.length 0 is) i)
      go false is free = free

  clear_of : first_taken ms begun b ≡ None → IsClearOf files b
  clear_of free k i there = none_shared (spans_at ms b.file) (span_of b) k (none_shared-append (spans_at ms b.file) (map span_of (filter (is_of_file b.file) begun)) (span_of b) (not_taken k i free)).0 i there

  apart_of : first_taken ms begun b ≡ None → (m : ℕ) (q : Part) → part_of parts m ≡ Some q → AreApart b q.block
  apart_of free m q there same k i j =
      none_begun parts b.file (span_of b) m q k (none_shared-append (spans_at ms b.file) (map span_of (filter (is_of_file b.file) begun)) (span_of b) (not_taken k i free)).1 there (sym same) i j

  pub may_begin : begin_fault known (map marked_of files) (blocks_of parts) h ≡ None → MayBegin known files parts h
  may_begin e =
      let one = none_of (size_fault known h) (or_else (overlap_fault ms begun b) (limit_fault known ms begun (is_new known h) b)) e in
      let two = none_of (overlap_fault ms begun b) (limit_fault known ms begun (is_new known h) b) one.1 in
      let three = none_of (over MAX_FILES (files_with known (is_new known h))) (or_else (over MAX_SPANS (spans_with ms (b ∷ begun))) (over MAX_TOTAL (bytes_with ms (b ∷ begun)))) two.1 in
      let four = none_of (over MAX_SPANS (spans_with ms (b ∷ begun))) (over MAX_TOTAL (bytes_with ms (b ∷ begun))) three.1 in
      let free = taken_none (first_taken ms begun b) two.0 in
      record {
        same_file = λ file there. sized (known_at known b.file) file there one.0;
        clear = clear_of free;
        apart = apart_of free;
        count = within_limit MAX_FILES (files_with known (is_new known h)) three.0;
        spans = within_limit MAX_SPANS (spans_with ms (b ∷ begun)) four.0;
        bytes = within_limit MAX_TOTAL (bytes_with ms (b ∷ begun)) four.1;
      }

-- ---- the known files with the header's

length_with : (slots : List (Option KnownFile)) (file : KnownFile) → (length (with_known slots file) ≤ length slots) ⊎ ((length (with_known slots file) ≡ length slots + 1) × (known_count slots ≡ length slots))
length_with [] file = inr (refl, refl)
length_with (None ∷ slots) file = inl (omega arith)
length_with (Some f ∷ slots) file = elim (length_with slots file) [
  | inl le ↦ inl (omega (arith, le))
  | inr more ↦ inr (omega (arith, more.0), omega (arith, more.1, sum_by-cons (λ (o : Option KnownFile). cond (is_some o) 1 0) (Some f) slots))
]

number_some : (o : Option ℕ) → not (is_some o) ≡ false → (n : ℕ) × (o ≡ Some n)
number_some None e = absurd (cc)
number_some (Some n) e = (n, refl)

number_no : (o : Option ℕ) → not (is_some o) ≡ true → o ≡ None
number_no None e = refl
number_no (Some n) e = absurd (cc)

module _ (known : List (Option KnownFile)) (files : List NamedFile) (h : Header) (fits : FitsHeader h) (are_files : AreFiles known) (are_named : AreNamed known files) (few : files_with known (is_new known h) ≤ MAX_FILES) where
  -- what is known behind it, by whether it is new
  pub record IsKnownWith (now : List (Option KnownFile)) : Type 0 where
    pub files_now : AreFiles now
    pub stays : (n : ℕ) → is_known known n ≡ true → known_at now n ≡ known_at known n
    pub there : (file : KnownFile) × (known_at now (block_of known h).file ≡ Some file) × (((g : KnownFile) → known_at known (block_of known h).file ≡ Some g → g.size ≡ h.size) → file.size ≡ h.size)

  known_old : is_new known h ≡ false → IsKnownWith known
  known_old old =
      let r = number_some (number_of known h.path) old in
      let has = number_found known h.path r.0 r.1 in
      let here : known_at known (block_of known h).file ≡ Some has.file = ap (λ (o : Option ℕ). known_at known (number_by known o)) r.1 ∙ has.there in
      record { files_now = are_files; stays = λ n is. refl; there = (has.file, here, λ sizes. sizes has.file here) }

  known_new : is_new known h ≡ true → IsKnownWith (with_known known (file_told h))
  known_new new =
      let none = number_no (number_of known h.path) new in
      let slot = new_slot known (file_told h) in
      record {
        files_now = record {
          lawful = λ n file there. elim (at n) [
            | inl same ↦ subst (λ (f : KnownFile). is_lawful f.path ≡ true) (told n file same there) fits.path
            | inr other ↦ are_files.lawful n file (sym (slot.others n other) ∙ there)
          ];
          free = λ n file there. elim (at n) [
            | inl same ↦ subst (λ (f : KnownFile). is_reserved f.path ≡ false) (told n file same there) fits.free
            | inr other ↦ are_files.free n file (sym (slot.others n other) ∙ there)
          ];
          small = λ n file there. elim (at n) [
            | inl same ↦ subst (λ (f : KnownFile). f.size ≤ MAX_FILE_SIZE) (told n file same there) fits.size
            | inr other ↦ are_files.small n file (sym (slot.others n other) ∙ there)
          ];
          once = λ m n f g one two same. elim (at m) [
            | inl m_new ↦ elim (at n) [
              | inl n_new ↦ m_new ∙ sym n_new
              | inr n_old ↦ absurd (number_new known h.path n g none (sym (slot.others n n_old) ∙ two) (sym same ∙ ap (λ (x : KnownFile). x.path) (sym (told m f m_new one))))
            ]
            | inr m_old ↦ elim (at n) [
              | inl n_new ↦ absurd (number_new known h.path m f none (sym (slot.others m m_old) ∙ one) (same ∙ ap (λ (x : KnownFile). x.path) (sym (told n g n_new two))))
              | inr n_old ↦ are_files.once m n f g (sym (slot.others m m_old) ∙ one) (sym (slot.others n n_old) ∙ two) same
            ]
          ];
          few = elim (length_with known (file_told h)) [
            | inl le ↦ omega (arith, le, are_files.few)
            | inr more ↦ omega (arith, more.0, more.1, few_new)
          ];
        };
        stays = known_stays known (file_told h);
        there = (file_told h, ap (λ (o : Option ℕ). known_at (with_known known (file_told h)) (number_by known o)) none ∙ slot.there, λ sizes. refl);
      }
    where
      at : (n : ℕ) → (n ≡ free_number known) ⊎ (n ≡ free_number known → ⊥)
      at n = cases_eq n (free_number known)

      told : (n : ℕ) (file : KnownFile) → n ≡ free_number known → known_at (with_known known (file_told h)) n ≡ Some file → file_told h ≡ file
      told n file same there =
          let is : Some (file_told h) ≡ Some file = sym (new_slot known (file_told h)).there ∙ ap (known_at (with_known known (file_told h))) (sym same) ∙ there in
          cc

      few_new : known_count known + 1 ≤ MAX_FILES
      few_new = subst (λ (c : Bool). known_count known + one_if c ≤ MAX_FILES) new few

  pub known_now : IsKnownWith (known_with known h)
  known_now = go (is_new known h) refl
    where
      go : (c : Bool) → is_new known h ≡ c → IsKnownWith (known_by known h c)
      go true e = known_new e
      go false e = known_old e

-- ---- the parts with the block

pub part_set : (parts : List (Option Part)) (l : ℕ) (p : Part) (m : ℕ) (q : Part) → part_of (slice_set parts l (Some p)) m ≡ Some q → ((m ≡ l) × (p ≡ q)) ⊎ (part_of parts m ≡ Some q)
part_set [] l p m q there = absurd (cc)
part_set (o ∷ parts) zero p zero q there = inl (refl, (let same : p ≡ q = cc in same))
part_set (o ∷ parts) zero p (suc m) q there = inr there
part_set (o ∷ parts) (suc l) p zero q there = inr there
part_set (o ∷ parts) (suc l) p (suc m) q there = elim (part_set parts l p m q there) [
  | inl same ↦ inl (ap suc same.0, same.1)
  | inr was ↦ inr was
]

sum_with : (f : Block → ℕ) (parts : List (Option Part)) (l : ℕ) (p : Part) → l < length parts → part_of parts l ≡ None → sum_by f (blocks_of (slice_set parts l (Some p))) ≡ f p.block + sum_by f (blocks_of parts)
sum_with f [] l p there idle = absurd (omega (arith, there))
sum_with f (None ∷ parts) zero p there idle = sum_by-cons f p.block (blocks_of parts)
sum_with f (Some q ∷ parts) zero p there idle = absurd (cc)
sum_with f (None ∷ parts) (suc l) p there idle = sum_with f parts l p (omega (arith, there)) idle
sum_with f (Some q ∷ parts) (suc l) p there idle =
    omega (arith, sum_by-cons f q.block (blocks_of (slice_set parts l (Some p))), sum_by-cons f q.block (blocks_of parts), sum_with f parts l p (omega (arith, there)) idle)

not_both : (parts : List (Option Part)) (m : ℕ) (q : Part) → part_of parts m ≡ None → part_of parts m ≡ Some q → ⊥
not_both parts m q none some = (let wrong : None ≡ Some q = sym none ∙ some in cc)

-- ---- what stands behind the begin of a block

module _ (known : List (Option KnownFile)) (files : List NamedFile) (parts : List (Option Part)) (h : Header) (l : ℕ) (fits : FitsHeader h) (are_files : AreFiles known) (are_named : AreNamed known files) (way : AreOnWay known files parts)
    (lane : l < length parts) (idle : part_of parts l ≡ None) (none : begin_fault known (map marked_of files) (blocks_of parts) h ≡ None) where
  may : MayBegin known files parts h
  may = may_begin known files parts h none

  pub begun_now : AreSound (known_with known h) files (slice_set parts l (Some (whole (block_of known h))))
  begun_now =
      let now = known_now known files h fits are_files are_named may.count in
      let there = now.there in
      record {
        are_files = now.files_now;
        are_named = record { view = are_named.view; known_as = λ f among. now.stays f.number (ap is_some (are_named.known_as f among)) ∙ are_named.known_as f among };
        way = record {
          each = λ m q at. elim (part_set parts l (whole (block_of known h)) m q at) [
            | inl new ↦ subst (IsOnWay (known_with known h) files) new.1 (record {
              file = there.0;
              known_as = there.1;
              within = omega (arith, fits.end, there.2 may.same_file);
              few = fits.most;
              left = omega arith;
              clear = may.clear;
            })
            | inr was ↦ (let on = way.each m q was in record {
              file = on.file;
              known_as = now.stays q.block.file (ap is_some on.known_as) ∙ on.known_as;
              within = on.within;
              few = on.few;
              left = on.left;
              clear = on.clear;
            })
          ];
          apart = λ i j p q differ one two. elim (part_set parts l (whole (block_of known h)) i p one) [
            | inl i_new ↦ elim (part_set parts l (whole (block_of known h)) j q two) [
              | inl j_new ↦ absurd (differ (i_new.0 ∙ sym j_new.0))
              | inr j_old ↦ subst (λ (x : Part). AreApart x.block q.block) i_new.1 (may.apart j q j_old)
            ]
            | inr i_old ↦ elim (part_set parts l (whole (block_of known h)) j q two) [
              | inl j_new ↦ subst (λ (x : Part). AreApart p.block x.block) j_new.1 (λ same k a b. may.apart i p i_old (sym same) k b a)
              | inr j_old ↦ way.apart i j p q differ i_old j_old
            ]
          ];
          spans = omega (arith, may.spans, sum_with (span_cost (map marked_of files)) parts l (whole (block_of known h)) lane idle, sum_by-cons (span_cost (map marked_of files)) (block_of known h) (blocks_of parts));
          bytes = omega (arith, may.bytes, sum_with length_of parts l (whole (block_of known h)) lane idle, sum_by-cons length_of (block_of known h) (blocks_of parts));
        };
      }
