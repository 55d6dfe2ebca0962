-- A block on its way can be laid over its file, and the others stay on their way.
use Rattle.std.proofs.Common.{◌≡◌, inl, inr, ℕ, zero, suc, ◌+◌, ◌<◌, ◌≤◌, Bool, true, false, ◌&&◌, ◌||◌, not, nat_lt, nat_le, List, [], ◌∷◌, length, map, sum_by, Option, Some, None, refl, sym, ap, ◌∙◌, subst, arith}
use Rattle.std.specs.Prelude.{bytes_eq, if◌then◌else◌, option_and_then, slice_set, ◌==◌}
use Rattle.std.specs.List.{list_any}
use Rattle.std.proofs.lemmas.Bool.{and_from, and_parts, cases_eq, eq-eqb, ne_eqb, false_from_ne_true, not_from_false, or_cases, or_left, or_right, both_ways, lt-ltb, le-leb, leb-true, ltb-true}
use Rattle.std.proofs.lemmas.List.Sums.{sum_by-cons}
use Rattle.std.proofs.lemmas.Slice.Eq.{bytes_eq-Decides}
use Rattle.wdt_units.specs.declared.limits.TheConstants.{MAX_BLOCK, MAX_FILES, MAX_FILE_SIZE}
use Rattle.wdt_units.specs.declared.blocks.Block.{Block}
use Rattle.wdt_units.specs.Have.{PlainSpan, is_in}
use Rattle.wdt_units.specs.Path.{is_lawful, is_reserved}
use Rattle.wdt_ranges.specs.Adding.{HasNoneOf}
use Rattle.wdt_ranges.specs.Spans.{are_apart, end_of, has, is_span}
use Rattle.wdt_logfmt.specs.declared.entry.LogEntry.TheVariants.{Covered}
use Rattle.wdt_logfmt.specs.Adding.{all_added, can_cover, can_name, covering, has_room, have_with, is_room_in, just_named, overlap, put_by_number, with_span}
use Rattle.wdt_logfmt.specs.Batches.{block_entries, file_entry, file_entry_by, span_entry}
use Rattle.wdt_logfmt.specs.Beginning.{KnownFile, is_behind, known_at, length_of, span_cost, span_of}
use Rattle.wdt_logfmt.specs.Landing.{HasRoomFor, IsAmong}
use Rattle.wdt_logfmt.specs.Marks.{Marked, byte_count, marked_of, span_count, spans_at}
use Rattle.wdt_logfmt.specs.Spelling.{written_version}
use Rattle.wdt_logfmt.specs.View.{NamedFile, bytes_in, is_file, is_nameable, is_numbered, is_rising, names, spans_in}
use Rattle.wdt_logfmt.proofs.ForCallers.{IsFile, all_added-append, batch-view, can_land, file_parts, length-beside, length-with_span, view_parts, with_has}
use Rattle.wdt_logfmt.proofs.ForCallers.{none_overlap}
use Rattle.wdt_logfmt.proofs.ForCallers.{sum_same}
use Rattle.wdt_ranges.proofs.ForCallers.{span_from}
use Rattle.wdt_writer.specs.declared.parts.Part.{Part}
use Rattle.wdt_writer.specs.OnWay.{AreApart, AreOnWay, IsClearOf, IsOnWay, IsSettled}
use Rattle.wdt_files.specs.PlainFiles.{AreFiles, AreNamed, known_of}
use Rattle.wdt_writer.specs.PlainWriter.{blocks_of, part_of}
use Rattle.wdt_writer.proofs.Named.{among_covered, among_put, each_file, file_numbered, numbered_file, numbered_put, spans_here, spans_of_file, spans_other, spans_put}

-- ---- known files

-- a number that is known is one of the slots
pub known_below : (known : List (Option KnownFile)) (n : ℕ) (file : KnownFile) → known_at known n ≡ Some file → n < length known
known_below [] n file there = absurd (cc)
known_below (slot ∷ slots) zero file there = omega arith
known_below (slot ∷ slots) (suc n) file there = omega (arith, known_below slots n file there)

-- a path that is named is that of a file
named_file : (fs : List NamedFile) (path : List ℕ) → names fs path ≡ true → (g : NamedFile) × IsAmong g fs × (g.have.path ≡ path)
named_file [] path there = absurd (cc)
named_file (f ∷ fs) path there = elim (or_cases (bytes_eq f.have.path path) (names fs path) there) [
  | inl here ↦ (f, inl refl, (bytes_eq-Decides f.have.path path).0 here)
  | inr later ↦ (let r = named_file fs path later in (r.0, inr r.1, r.2))
]

any_file : (p : NamedFile → Bool) (g : NamedFile) (fs : List NamedFile) → IsAmong g fs → p g ≡ true → list_any p fs ≡ true
any_file p g [] among holds = absurd among
any_file p g (f ∷ fs) (inl is) holds = or_left (p f) (list_any p fs) (subst (λ (x : NamedFile). p x ≡ true) (sym is) holds)
any_file p g (f ∷ fs) (inr more) holds = or_right (p f) (list_any p fs) (any_file p g fs more holds)

-- ---- sums

pub spans_summed : (fs : List NamedFile) → sum_by span_count (map marked_of fs) ≡ sum_by spans_in fs
spans_summed [] = refl
spans_summed (f ∷ fs) = omega (arith, sum_by-cons span_count (marked_of f) (map marked_of fs), sum_by-cons spans_in f fs, spans_summed fs)

pub bytes_summed : (fs : List NamedFile) → sum_by byte_count (map marked_of fs) ≡ sum_by bytes_in fs
bytes_summed [] = refl
bytes_summed (f ∷ fs) = omega (arith, sum_by-cons byte_count (marked_of f) (map marked_of fs), sum_by-cons bytes_in f fs, bytes_summed fs)

-- a sum over the blocks of parts, without one of them
pub sum_without : (f : Block → ℕ) (parts : List (Option Part)) (l : ℕ) (p : Part) → part_of parts l ≡ Some p → sum_by f (blocks_of parts) ≡ f p.block + sum_by f (blocks_of (slice_set parts l None))
sum_without f [] l p there = absurd (cc)
sum_without f (None ∷ parts) zero p there = absurd (cc)
sum_without f (Some q ∷ parts) zero p there = (let same : q ≡ p = cc in sum_by-cons f q.block (blocks_of parts) ∙ ap (λ (x : Part). f x.block + sum_by f (blocks_of parts)) same)
sum_without f (None ∷ parts) (suc l) p there = sum_without f parts l p there
sum_without f (Some q ∷ parts) (suc l) p there =
    omega (arith, sum_by-cons f q.block (blocks_of parts), sum_by-cons f q.block (blocks_of (slice_set parts l None)), sum_without f parts l p there)

-- a smaller function has a smaller sum
pub sum_le : (f g : Block → ℕ) → ((b : Block) → f b ≤ g b) → (bs : List Block) → sum_by f bs ≤ sum_by g bs
sum_le f g each [] = omega arith
sum_le f g each (b ∷ bs) = omega (arith, sum_by-cons f b bs, sum_by-cons g b bs, each b, sum_le f g each bs)

-- what is there without one is there
pub without_one : (parts : List (Option Part)) (l m : ℕ) (q : Part) → part_of (slice_set parts l None) m ≡ Some q → (m ≡ l → ⊥) × (part_of parts m ≡ Some q)
without_one [] l m q there = absurd (cc)
without_one (p ∷ parts) zero zero q there = absurd (cc)
without_one (p ∷ parts) zero (suc m) q there = ((λ e. absurd (cc)), there)
without_one (p ∷ parts) (suc l) zero q there = ((λ e. absurd (cc)), there)
without_one (p ∷ parts) (suc l) (suc m) q there = (let r = without_one parts l m q there in ((λ e. r.0 (let same : m ≡ l = omega (arith, e) in same)), r.1))

-- ---- a file is named

-- the files with a number's file, which was named already or is named by its entry
pub record IsNamed (known : List (Option KnownFile)) (files : List NamedFile) (n : ℕ) (gs : List NamedFile) : Type 0 where
  pub adds : all_added written_version files (file_entry known files n) ≡ Some gs
  pub named : AreNamed known gs
  pub spans : (m : ℕ) → spans_at (map marked_of gs) m ≡ spans_at (map marked_of files) m
  pub there : list_any (is_numbered n) gs ≡ true
  pub span_sum : sum_by spans_in gs ≡ sum_by spans_in files
  pub byte_sum : sum_by bytes_in gs ≡ sum_by bytes_in files

module _ (known : List (Option KnownFile)) (files : List NamedFile) (are_files : AreFiles known) (are_named : AreNamed known files) (n : ℕ) (file : KnownFile) (here : known_at known n ≡ Some file) where
  can_be_named : list_any (is_numbered n) files ≡ false → can_name files n file.path file.size ≡ true
  unfolding can_name
  can_be_named new =
      let low : nat_lt n MAX_FILES ≡ true = lt-ltb n MAX_FILES (omega (arith, known_below known n file here, are_files.few)) in
      let free : not (is_reserved file.path) ≡ true = not_from_false (is_reserved file.path) (are_files.free n file here) in
      let able : is_nameable n file.path file.size ≡ true =
      and_from (nat_lt n MAX_FILES && is_lawful file.path && not (is_reserved file.path)) (nat_le file.size MAX_FILE_SIZE)
      (and_from (nat_lt n MAX_FILES && is_lawful file.path) (not (is_reserved file.path)) (and_from (nat_lt n MAX_FILES) (is_lawful file.path) low (are_files.lawful n file here)) free) (le-leb file.size MAX_FILE_SIZE (are_files.small n file here)) in
      and_from (is_nameable n file.path file.size && not (list_any (is_numbered n) files)) (not (names files file.path))
      (and_from (is_nameable n file.path file.size) (not (list_any (is_numbered n) files)) able (not_from_false (list_any (is_numbered n) files) new))
      (not_from_false (names files file.path) (false_from_ne_true (names files file.path) (λ h. other (named_file files file.path h))))
    where
      other : ((g : NamedFile) × IsAmong g files × (g.have.path ≡ file.path)) → ⊥
      other r =
          let number : (r.0).number ≡ n = are_files.once (r.0).number n (known_of r.0) file (are_named.known_as r.0 r.1) here r.2 in
          both_ways (list_any (is_numbered n) files) new (subst (λ (k : ℕ). list_any (is_numbered k) files ≡ true) number (file_numbered r.0 files r.1))

  is_named_already : list_any (is_numbered n) files ≡ true → IsNamed known files n files
  is_named_already there = record {
    adds = ap (λ (c : Bool). all_added written_version files (if c then [] else file_entry_by (known_at known n) n)) there;
    named = are_named;
    spans = λ m. refl;
    there = there;
    span_sum = refl;
    byte_sum = refl;
  }

  is_named_now : list_any (is_numbered n) files ≡ false → IsNamed known files n (put_by_number (just_named n file.path file.size file.stamp) files)
  is_named_now new =
      let x = just_named n file.path file.size file.stamp in
      let adds : all_added written_version files (file_entry known files n) ≡ Some (put_by_number x files) =
      ap (λ (c : Bool). all_added written_version files (if c then [] else file_entry_by (known_at known n) n)) new
      ∙ ap (λ (o : Option KnownFile). all_added written_version files (file_entry_by o n)) here
      ∙ ap (λ (c : Bool). option_and_then (λ (gs : List NamedFile). Some gs) (if c then Some (put_by_number x files) else None)) (can_be_named new) in
      record {
        adds = adds;
        named = record {
          view = batch-view written_version files (put_by_number x files) (file_entry known files n) are_named.view adds;
          known_as = λ f among. elim (among_put x f files among) [
            | inl is ↦ subst (λ (g : NamedFile). known_at known g.number ≡ Some (known_of g)) is here
            | inr was ↦ are_named.known_as f was
          ];
        };
        spans = λ m. spans_put x refl m files new;
        there = numbered_put x refl files;
        span_sum = sum_same spans_in x files refl;
        byte_sum = sum_same bytes_in x files refl;
      }

  pub named_for : (gs : List NamedFile) × IsNamed known files n gs
  named_for = go (list_any (is_numbered n) files) refl
    where
      go : (c : Bool) → list_any (is_numbered n) files ≡ c → (gs : List NamedFile) × IsNamed known files n gs
      go true e = (files, is_named_already e)
      go false e = (put_by_number (just_named n file.path file.size file.stamp) files, is_named_now e)

-- ---- a block's positions are laid over its named file

-- the files with a block's positions, where its file is named
pub record IsLaid (known : List (Option KnownFile)) (gs : List NamedFile) (b : Block) (hs : List NamedFile) : Type 0 where
  pub adds : all_added written_version gs (span_entry b) ≡ Some hs
  pub named : AreNamed known hs
  pub others : (m : ℕ) → (m ≡ b.file → ⊥) → spans_at (map marked_of hs) m ≡ spans_at (map marked_of gs) m
  pub has_all : (k : ℕ) → has (spans_at (map marked_of hs) b.file) k ≡ (has (spans_at (map marked_of gs) b.file) k || is_in k (span_of b))
  pub room : (spans bytes : ℕ) → HasRoomFor gs (span_cost (map marked_of gs) b + spans) (b.length + bytes) → HasRoomFor hs spans bytes

or_last : (x y : Bool) → y ≡ false → (x || y) ≡ x
or_last true y e = refl
or_last false y e = e

-- a block whose first position is behind one that is there
before : (ss : List PlainSpan) (o : ℕ) → is_behind ss o ≡ true → (k : ℕ) × (k + 1 ≡ o) × (has ss k ≡ true)
before ss zero h = absurd (cc)
before ss (suc k) h = (k, (omega arith), h)

module _ (known : List (Option KnownFile)) (gs : List NamedFile) (are_files : AreFiles known) (are_named : AreNamed known gs) (b : Block) (there : list_any (is_numbered b.file) gs ≡ true) (file : KnownFile) (here : known_at known b.file ≡ Some file)
    (within : b.offset + b.length ≤ file.size) (few : b.length ≤ MAX_BLOCK) (clear : IsClearOf gs b) where
  -- an empty block changes nothing
  laid_empty : b.length ≡ 0 → IsLaid known gs b gs
  laid_empty none = record {
    adds = ap (λ (n : ℕ). all_added written_version gs (if n == 0 then [] else Covered b.file b.offset n ∷ [])) none;
    named = are_named;
    others = λ m other. refl;
    has_all = λ k. sym (or_last (has (spans_at (map marked_of gs) b.file) k) (is_in k (span_of b)) (in_none k));
    room = λ spans bytes r. record { spans_fit = omega (arith, r.spans_fit); bytes_fit = omega (arith, r.bytes_fit) };
  }
    where
      in_none : (k : ℕ) → is_in k (span_of b) ≡ false
      in_none k = false_from_ne_true (is_in k (span_of b)) (λ h.
          let p = and_parts (nat_le b.offset k) (nat_lt k (b.offset + b.length)) h in
          let low = leb-true b.offset k p.0 in
          let high = ltb-true k (b.offset + b.length) p.1 in
          omega (arith, low, high, none))

  -- the file among the others
  laid_file : (g : NamedFile) × IsAmong g gs × (g.number ≡ b.file)
  laid_file = numbered_file b.file gs there

  rises : is_rising gs ≡ true
  rises = (view_parts gs are_named.view).rising

  spans_as : (f : NamedFile) → IsAmong f gs → f.number ≡ b.file → spans_at (map marked_of gs) b.file ≡ f.have.spans
  spans_as f among same = subst (λ (n : ℕ). spans_at (map marked_of gs) n ≡ f.have.spans) same (spans_of_file f gs rises among)

  -- how many spans it costs
  costs : 0 < b.length → (f : NamedFile) → IsAmong f gs → f.number ≡ b.file → length (with_span (span_of b) f.have.spans) ≤ length f.have.spans + span_cost (map marked_of gs) b
  costs some f among same = go (b.length == 0) (is_behind (spans_at (map marked_of gs) b.file) b.offset) refl (ne_eqb b.length 0 (λ e. omega (arith, e, some)))
    where
      is : IsFile f
      is = file_parts f (each_file is_file f gs (view_parts gs are_named.view).each among)

      go : (c d : Bool) → is_behind (spans_at (map marked_of gs) b.file) b.offset ≡ d → c ≡ false → length (with_span (span_of b) f.have.spans) ≤ length f.have.spans + (if c || d then 0 else 1)
      go true d e zero_not = absurd (cc)
      go false true e zero_not =
          let r = before (spans_at (map marked_of gs) b.file) b.offset e in
          omega (arith, length-beside 0 (span_of b) f.have.spans r.0 is.apart r.1 (subst (λ (ss : List PlainSpan). has ss r.0 ≡ true) (spans_as f among same) r.2))
      go false false e zero_not = omega (arith, length-with_span (span_of b) f.have.spans)

  covered_known : (f : NamedFile) → IsAmong f gs → known_at known (covering b.file (span_of b) f).number ≡ Some (known_of (covering b.file (span_of b) f))
  covered_known f among = go (f.number == b.file) (are_named.known_as f among)
    where
      go : (c : Bool) → known_at known f.number ≡ Some (known_of f)
          → known_at known (if c then record { number = f.number; have = have_with (span_of b) f.have } else f).number ≡ Some (known_of (if c then record { number = f.number; have = have_with (span_of b) f.have } else f))
      go true e = e
      go false e = e

  module _ (some : 0 < b.length) (g : NamedFile) (among : IsAmong g gs) (number : g.number ≡ b.file) where
    g_file : IsFile g
    g_file = file_parts g (each_file is_file g gs (view_parts gs are_named.view).each among)

    spans_of_g : spans_at (map marked_of gs) b.file ≡ g.have.spans
    spans_of_g = spans_as g among number

    size_is : g.have.size ≡ file.size
    size_is = (let same : Some (known_of g) ≡ Some file = sym (are_named.known_as g among) ∙ ap (known_at known) number ∙ here in some_size (known_of g) file same)
      where
        some_size : (x y : KnownFile) → Some x ≡ Some y → x.size ≡ y.size
        some_size x y e = (let same : x ≡ y = cc in ap (λ (z : KnownFile). z.size) same)

    span_is : is_span (span_of b) ≡ true
    span_is = span_from (span_of b) some (omega (arith, within, are_files.small b.file file here))

    none_there : list_any (overlap (span_of b)) g.have.spans ≡ false
    none_there = none_overlap 0 (span_of b) g.have.spans span_is g_file.apart none
      where
        none : HasNoneOf g.have.spans (span_of b)
        none k = false_from_ne_true (has g.have.spans k && is_in k (span_of b)) (λ h.
            let p = and_parts (has g.have.spans k) (is_in k (span_of b)) h in
            clear k p.1 (subst (λ (ss : List PlainSpan). has ss k ≡ true) (sym spans_of_g) p.0))

    has_room_there : has_room (span_of b) g.have ≡ true
    has_room_there =
        and_from (nat_le (end_of (span_of b)) g.have.size) (not (list_any (overlap (span_of b)) g.have.spans))
        (le-leb (end_of (span_of b)) g.have.size (omega (arith, within, size_is))) (not_from_false (list_any (overlap (span_of b)) g.have.spans) none_there)

    room_there : list_any (is_room_in b.file (span_of b)) gs ≡ true
    room_there = any_file (is_room_in b.file (span_of b)) g gs among (and_from (g.number == b.file) (has_room (span_of b) g.have) (eq-eqb g.number b.file number) has_room_there)

    lands_in : (spans bytes : ℕ) → HasRoomFor gs (span_cost (map marked_of gs) b + spans) (b.length + bytes)
        → (can_cover gs b.file (span_of b) ≡ true) × HasRoomFor (map (covering b.file (span_of b)) gs) spans bytes
    lands_in spans bytes r = can_land gs b.file (span_of b) (span_cost (map marked_of gs) b) spans bytes rises some few room_there r (costs some)

    laid_some : HasRoomFor gs (span_cost (map marked_of gs) b) b.length → IsLaid known gs b (map (covering b.file (span_of b)) gs)
    laid_some n_room =
        let can = (lands_in 0 0 (record { spans_fit = omega (arith, n_room.spans_fit); bytes_fit = omega (arith, n_room.bytes_fit) })).0 in
        let adds : all_added written_version gs (span_entry b) ≡ Some (map (covering b.file (span_of b)) gs) =
        ap (λ (c : Bool). all_added written_version gs (if c then [] else Covered b.file b.offset b.length ∷ [])) (ne_eqb b.length 0 (λ e. omega (arith, e, some)))
        ∙ ap (λ (c : Bool). option_and_then (λ (hs : List NamedFile). Some hs) (if c then Some (map (covering b.file (span_of b)) gs) else None)) can in
        record {
          adds = adds;
          named = record {
            view = batch-view written_version gs (map (covering b.file (span_of b)) gs) (span_entry b) are_named.view adds;
            known_as = λ f now. (let r = among_covered b.file (span_of b) f gs now in subst (λ (x : NamedFile). known_at known x.number ≡ Some (known_of x)) r.2 (covered_known r.0 r.1));
          };
          others = λ m other. spans_other b.file (span_of b) m gs other;
          has_all = λ k. ap (λ (ss : List PlainSpan). has ss k) (spans_here b.file (span_of b) gs there)
              ∙ with_has 0 (span_of b) (spans_at (map marked_of gs) b.file) k (subst (λ (ss : List PlainSpan). are_apart ss ≡ true) (sym spans_of_g) g_file.apart) span_is
              (subst (λ (ss : List PlainSpan). list_any (overlap (span_of b)) ss ≡ false) (sym spans_of_g) none_there);
          room = λ spans bytes r. (lands_in spans bytes r).1;
        }

  pub laid_for : HasRoomFor gs (span_cost (map marked_of gs) b) b.length → (hs : List NamedFile) × IsLaid known gs b hs
  laid_for room = elim (cases_eq b.length 0) [
    | inl none ↦ (gs, laid_empty none)
    | inr other ↦ (map (covering b.file (span_of b)) gs, laid_some (positive b.length other) laid_file.0 laid_file.1 laid_file.2 room)
  ]
    where
      positive : (n : ℕ) → (n ≡ 0 → ⊥) → 0 < n
      positive zero other = absurd (other refl)
      positive (suc n) other = omega arith

-- ---- one block of those on their way

-- a cost falls where more is there
cost_falls : (ms ns : List Marked) (c : Block) → ((k : ℕ) → has (spans_at ms c.file) k ≡ true → has (spans_at ns c.file) k ≡ true) → span_cost ns c ≤ span_cost ms c
cost_falls ms ns c more = go (c.length == 0) (is_behind (spans_at ms c.file) c.offset) (is_behind (spans_at ns c.file) c.offset) (still c.offset)
  where
    still : (o : ℕ) → is_behind (spans_at ms c.file) o ≡ true → is_behind (spans_at ns c.file) o ≡ true
    still zero h = absurd (cc)
    still (suc k) h = more k h

    go : (e x y : Bool) → (x ≡ true → y ≡ true) → (if e || y then 0 else 1) ≤ (if e || x then 0 else 1)
    go true x y keeps = omega arith
    go false true true keeps = omega arith
    go false true false keeps = absurd (let wrong : false ≡ true = keeps refl in cc)
    go false false true keeps = omega arith
    go false false false keeps = omega arith

module _ (known : List (Option KnownFile)) (files : List NamedFile) (parts : List (Option Part)) (are_files : AreFiles known) (are_named : AreNamed known files) (way : AreOnWay known files parts) (l : ℕ) (p : Part) (there : part_of parts l ≡ Some p) where
  on : IsOnWay known files p
  on = way.each l p there

  module _ (gs : List NamedFile) (N : IsNamed known files p.block.file gs) where
    clear_gs : IsClearOf gs p.block
    clear_gs k i h = on.clear k i (subst (λ (ss : List PlainSpan). has ss k ≡ true) (N.spans p.block.file) h)

    cost_same : (c : Block) → span_cost (map marked_of gs) c ≡ span_cost (map marked_of files) c
    cost_same c = ap (λ (ss : List PlainSpan). if c.length == 0 || is_behind ss c.offset then 0 else 1) (N.spans c.file)

    room_all : HasRoomFor gs (span_cost (map marked_of gs) p.block + sum_by (span_cost (map marked_of gs)) (blocks_of (slice_set parts l None))) (p.block.length + sum_by length_of (blocks_of (slice_set parts l None)))
    room_all = record {
      spans_fit = omega (
        arith,
        way.spans,
        spans_summed files,
        N.span_sum,
        sum_without (span_cost (map marked_of files)) parts l p there,
        cost_same p.block,
        sum_le (span_cost (map marked_of gs)) (span_cost (map marked_of files)) (λ c. omega (arith, cost_same c)) (blocks_of (slice_set parts l None)),
      );
      bytes_fit = omega (arith, way.bytes, bytes_summed files, N.byte_sum, sum_without length_of parts l p there);
    }

    room_one : HasRoomFor gs (span_cost (map marked_of gs) p.block) p.block.length
    room_one = record { spans_fit = omega (arith, room_all.spans_fit); bytes_fit = omega (arith, room_all.bytes_fit) }

    module _ (hs : List NamedFile) (L : IsLaid known gs p.block hs) where
      adds_both : all_added written_version files (block_entries known files p.block) ≡ Some hs
      adds_both =
          all_added-append written_version files (file_entry known files p.block.file) (span_entry p.block)
          ∙ ap (option_and_then (λ (xs : List NamedFile). all_added written_version xs (span_entry p.block))) N.adds ∙ L.adds

      -- what was there is there
      has_more : (m k : ℕ) → has (spans_at (map marked_of gs) m) k ≡ true → has (spans_at (map marked_of hs) m) k ≡ true
      has_more m k h = elim (cases_eq m p.block.file) [
        | inl same ↦ subst (λ (n : ℕ). has (spans_at (map marked_of hs) n) k ≡ true) (sym same)
            (L.has_all k ∙ or_left (has (spans_at (map marked_of gs) p.block.file) k) (is_in k (span_of p.block)) (subst (λ (n : ℕ). has (spans_at (map marked_of gs) n) k ≡ true) same h))
        | inr other ↦ ap (λ (ss : List PlainSpan). has ss k) (L.others m other) ∙ h
      ]

      clear_hs : (q : Part) → IsOnWay known files q → AreApart p.block q.block → IsClearOf hs q.block
      clear_hs q q_on apart k i h = elim (cases_eq q.block.file p.block.file) [
        | inl same ↦
            let now : (has (spans_at (map marked_of gs) p.block.file) k || is_in k (span_of p.block)) ≡ true = sym (L.has_all k) ∙ subst (λ (n : ℕ). has (spans_at (map marked_of hs) n) k ≡ true) same h in
            elim (or_cases (has (spans_at (map marked_of gs) p.block.file) k) (is_in k (span_of p.block)) now) [
              | inl was ↦ q_on.clear k i (subst (λ (ss : List PlainSpan). has ss k ≡ true) (N.spans q.block.file) (subst (λ (n : ℕ). has (spans_at (map marked_of gs) n) k ≡ true) (sym same) was))
              | inr mine ↦ apart (sym same) k mine i
            ]
        | inr other ↦ q_on.clear k i (subst (λ (ss : List PlainSpan). has ss k ≡ true) (L.others q.block.file other ∙ N.spans q.block.file) h)
      ]

      room_left : HasRoomFor hs (sum_by (span_cost (map marked_of gs)) (blocks_of (slice_set parts l None))) (sum_by length_of (blocks_of (slice_set parts l None)))
      room_left = L.room (sum_by (span_cost (map marked_of gs)) (blocks_of (slice_set parts l None))) (sum_by length_of (blocks_of (slice_set parts l None))) room_all

      settled_in : IsSettled known files parts l p hs
      settled_in = record {
        adds = adds_both;
        named = L.named;
        way = record {
          each = λ m q here. (let r = without_one parts l m q here in let q_on = way.each m q r.1 in record {
            file = q_on.file;
            known_as = q_on.known_as;
            within = q_on.within;
            few = q_on.few;
            left = q_on.left;
            clear = clear_hs q q_on (way.apart l m p q (λ same. r.0 (sym same)) there r.1);
          });
          apart = λ i j q r differ here too. way.apart i j q r differ (without_one parts l i q here).1 (without_one parts l j r too).1;
          spans = omega (arith, room_left.spans_fit, spans_summed hs, sum_le (span_cost (map marked_of hs)) (span_cost (map marked_of gs)) (λ c. cost_falls (map marked_of gs) (map marked_of hs) c (has_more c.file)) (blocks_of (slice_set parts l None)));
          bytes = omega (arith, room_left.bytes_fit, bytes_summed hs);
        };
      }

  pub settles : (more : List NamedFile) × IsSettled known files parts l p more
  settles =
      let g = named_for known files are_files are_named p.block.file on.file on.known_as in
      let h = laid_for known g.0 are_files (g.1).named p.block (g.1).there on.file on.known_as on.within on.few (clear_gs g.0 g.1) (room_one g.0 g.1) in
      (h.0, settled_in g.0 g.1 h.0 h.1)
