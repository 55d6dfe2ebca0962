-- The slots, numbers and counts of the files of a log.
use Rattle.std.proofs.Common.{◌≡◌, ◌⊎◌, inl, inr, ℕ, zero, suc, ◌+◌, ◌-◌, ◌<◌, ◌≤◌, Bool, true, false, ◌&&◌, not, nat_lt, nat_le, List, [], ◌∷◌, ◌++◌, length, map, sum_by, Option, Some, None, refl, sym, ap, ◌∙◌, subst, arith, append_assoc}
use Rattle.std.specs.Prelude.{bytes_eq, cond, is_some}
use Rattle.std.specs.List.{list_all}
use Rattle.std.proofs.lemmas.Bool.{and_parts, both_ways, leb-true, ltb-true, not-true, or_left, or_right}
use Rattle.std.proofs.lemmas.List.{append-nil, length-append, length-map, map-append}
use Rattle.std.proofs.lemmas.List.Sums.{sum_by-cons}
use Rattle.std.proofs.lemmas.Slice.Eq.{bytes_eq-Decides}
use Rattle.wdt_units.specs.declared.limits.TheConstants.{MAX_FILES, MAX_FILE_SIZE, MAX_SPANS, MAX_TOTAL}
use Rattle.wdt_units.specs.Have.{HaveFile}
use Rattle.wdt_units.specs.Path.{is_lawful, is_reserved}
use Rattle.wdt_ranges.specs.declared.have.FileHave.{FileHave}
use Rattle.wdt_ranges.specs.Files.{have_file}
use Rattle.wdt_logfmt.specs.Beginning.{KnownFile, empty_slots, known_at, known_count, known_files, slots_from}
use Rattle.wdt_logfmt.specs.Landing.{IsAmong}
use Rattle.wdt_logfmt.specs.Marks.{marked_of}
use Rattle.wdt_logfmt.specs.Marks.{bytes_in as marked_bytes, spans_in as marked_spans}
use Rattle.wdt_logfmt.specs.View.{NamedFile, are_paths_once, bytes_in, is_file, is_numbered_above, is_rising, is_view, names, spans_in}
use Rattle.wdt_logfmt.proofs.ForCallers.{IsView, file_parts, view_parts}
use Rattle.wdt_files.specs.declared.slots.Slot.{Slot}
use Rattle.wdt_files.specs.PlainFiles.{AreFiles, AreLawful, PlainFiles, files_of, known_of}
use Rattle.wdt_files.specs.Slots.{AreBare, blanks, have_in, known_in, named_from, plain_files, slot_at}
use Rattle.wdt_files.proofs.Kept.{lawful_slots}
use Rattle.wdt_files.proofs.Known.{count_least}
use Rattle.wdt_files.proofs.Marks.{bytes_summed, spans_summed}
use Rattle.wdt_files.proofs.Named.{file_of, named_more}

-- ---- numbers that rise

-- the numbers begin at one or later, and rise
abbrev pub IsAbove : ℕ → List NamedFile → Type 0
IsAbove least [] = Unit {0}
IsAbove least (f ∷ fs) = (least ≤ f.number) × IsAbove (f.number + 1) fs

above_behind : (f : NamedFile) (fs : List NamedFile) → is_rising (f ∷ fs) ≡ true → IsAbove (f.number + 1) fs
above_behind f [] up = tt
above_behind f (g ∷ gs) up =
    let u = and_parts (list_all (is_numbered_above f) (g ∷ gs)) (is_rising (g ∷ gs)) up in
    let lt = ltb-true f.number g.number (and_parts (nat_lt f.number g.number) (list_all (is_numbered_above f) gs) u.0).0 in
    (omega (arith, lt), above_behind g gs u.1)

pub above_rising : (fs : List NamedFile) → is_rising fs ≡ true → IsAbove 0 fs
above_rising [] up = tt
above_rising (f ∷ fs) up = (omega arith, above_behind f fs up)

-- ---- the slots, one file after the other

-- the slots of the files before some that are left, of all
pub record IsOpened (slots : List (Option Slot)) (rest all : List NamedFile) : Type 0 where
  pub known : map known_in slots ++ slots_from (length slots) rest ≡ known_files all
  pub named : named_from 0 (map have_in slots) ++ rest ≡ all
  pub bare : AreBare slots
  pub above : IsAbove (length slots) rest

pub opened_none : (slots : List (Option Slot)) (all : List NamedFile) → slots ≡ [] → is_rising all ≡ true → IsOpened slots all all
opened_none slots all none up = subst (λ (ss : List (Option Slot)). IsOpened ss all all) (sym none) (record { known = refl; named = refl; bare = λ n s there. absurd (cc); above = above_rising all up })

known_blanks : (n : ℕ) → map known_in (blanks n) ≡ empty_slots n
known_blanks zero = refl
known_blanks (suc n) = ap (λ w. None ∷ w) (known_blanks n)

-- one more free slot behind others
pub blanks_more : (old slots : List (Option Slot)) (k m : ℕ) → m ≡ k + 1 → slots ≡ old ++ blanks k → slots ++ None ∷ [] ≡ old ++ blanks m
blanks_more old slots k m next is = ap (λ (ss : List (Option Slot)). ss ++ None ∷ []) is ∙ append_assoc old (blanks k) (None ∷ []) ∙ ap (λ (ss : List (Option Slot)). old ++ ss) (end k ∙ ap blanks (let e : suc k ≡ m = omega arith in e))
  where
    end : (k : ℕ) → blanks k ++ None ∷ [] ≡ blanks (suc k)
    end zero = refl
    end (suc k) = ap (λ w. None ∷ w) (end k)

length_blanks : (n : ℕ) → length (blanks n) ≡ n
length_blanks zero = refl
length_blanks (suc n) = ap suc (length_blanks n)

named_blanks : (haves : List (Option HaveFile)) (first n : ℕ) → named_from first (haves ++ map have_in (blanks n)) ≡ named_from first haves
named_blanks [] first zero = refl
named_blanks [] first (suc n) = named_blanks [] (first + 1) n
named_blanks (None ∷ haves) first n = named_blanks haves (first + 1) n
named_blanks (Some h ∷ haves) first n = ap (λ w. file_of first h ∷ w) (named_blanks haves (first + 1) n)

slot_more : (slots : List (Option Slot)) (o : Option Slot) (n : ℕ) (s : Slot) → slot_at (slots ++ o ∷ []) n ≡ Some s → (slot_at slots n ≡ Some s) ⊎ (o ≡ Some s)
slot_more [] o zero s there = inr there
slot_more [] o (suc n) s there = absurd (cc)
slot_more (p ∷ slots) o zero s there = inl there
slot_more (p ∷ slots) o (suc n) s there = slot_more slots o n s there

slot_blanks : (slots : List (Option Slot)) (k n : ℕ) (s : Slot) → slot_at (slots ++ blanks k) n ≡ Some s → slot_at slots n ≡ Some s
slot_blanks [] zero n s there = there
slot_blanks [] (suc k) zero s there = absurd (cc)
slot_blanks [] (suc k) (suc n) s there = absurd (let none : None ≡ Some s = sym (nothing k n) ∙ there in cc)
  where
    nothing : (k n : ℕ) → slot_at (blanks k) n ≡ None
    nothing zero n = refl
    nothing (suc k) zero = refl
    nothing (suc k) (suc n) = nothing k n
slot_blanks (o ∷ slots) k zero s there = there
slot_blanks (o ∷ slots) k (suc n) s there = slot_blanks slots k n s there

module _ (slots : List (Option Slot)) (rest all : List NamedFile) (n : ℕ) (f : FileHave) (opened : IsOpened slots (file_of n (have_file f) ∷ rest) all) where
  abbrev one : Option Slot
  one = Some (record { file = f; is_named = true })

  abbrev more : List (Option Slot)
  more = slots ++ blanks (n - length slots) ++ one ∷ []

  length_more : length more ≡ n + 1
  length_more = omega (arith, length-append (slots ++ blanks (n - length slots)) (one ∷ []), length-append slots (blanks (n - length slots)), length_blanks (n - length slots), (opened.above).0)

  known_more : map known_in more ≡ map known_in slots ++ empty_slots (n - length slots) ++ known_in one ∷ []
  known_more =
      map-append known_in (slots ++ blanks (n - length slots)) (one ∷ [])
      ∙ ap (λ w. w ++ known_in one ∷ []) (map-append known_in slots (blanks (n - length slots)) ∙ ap (λ w. map known_in slots ++ w) (known_blanks (n - length slots)))

  named_all : named_from 0 (map have_in more) ≡ named_from 0 (map have_in slots) ++ file_of n (have_file f) ∷ []
  named_all =
      let before = map have_in (slots ++ blanks (n - length slots)) in
      let long : n ≡ 0 + length (map have_in (slots ++ blanks (n - length slots))) = omega (arith, length-map (slots ++ blanks (n - length slots)) have_in, length-append slots (blanks (n - length slots)), length_blanks (n - length slots), (opened.above).0) in
      ap (named_from 0) (map-append have_in (slots ++ blanks (n - length slots)) (one ∷ []))
      ∙ named_more before 0 n (Some (have_file f)) long
      ∙ ap (λ w. w ++ file_of n (have_file f) ∷ []) (ap (named_from 0) (map-append have_in slots (blanks (n - length slots))) ∙ named_blanks (map have_in slots) 0 (n - length slots))

  pub opened_more : (new : List (Option Slot)) → new ≡ slots ++ blanks (n - length slots) ++ Some (record { file = f; is_named = true }) ∷ [] → IsOpened new rest all
  opened_more new is = subst (λ (ss : List (Option Slot)). IsOpened ss rest all) (sym is) (record {
    known = (λ i. known_more i ++ slots_from (length_more i) rest)
        ∙ append_assoc (map known_in slots ++ empty_slots (n - length slots)) (known_in one ∷ []) (slots_from (n + 1) rest)
        ∙ append_assoc (map known_in slots) (empty_slots (n - length slots)) (known_in one ∷ slots_from (n + 1) rest)
        ∙ opened.known;
    named = ap (λ w. w ++ rest) named_all ∙ append_assoc (named_from 0 (map have_in slots)) (file_of n (have_file f) ∷ []) rest ∙ opened.named;
    bare = λ k s there unnamed. elim (slot_more (slots ++ blanks (n - length slots)) one k s there) [
      | inl was ↦ opened.bare k s (slot_blanks slots (n - length slots) k s was) unnamed
      | inr new ↦ absurd (let same : record { file = f; is_named = true } ≡ s = cc in let named : true ≡ s.is_named = ap (λ (t : Slot). t.is_named) same in both_ways s.is_named unnamed (sym named))
    ];
    above = subst (λ (k : ℕ). IsAbove k rest) (sym length_more) (opened.above).1;
  })

pub opened_files : (slots : List (Option Slot)) (all : List NamedFile) → IsOpened slots [] all → plain_files slots ≡ files_of all
opened_files slots all opened = (λ i. record { known = known i; named = named i })
  where
    known : map known_in slots ≡ known_files all
    known = sym (append-nil (map known_in slots)) ∙ opened.known

    named : named_from 0 (map have_in slots) ≡ all
    named = sym (append-nil (named_from 0 (map have_in slots))) ∙ opened.named

-- ---- the known files of a log are as files are

skipped : (j : ℕ) (x : KnownFile) (rest : List (Option KnownFile)) (k : ℕ) (file : KnownFile) → known_at (empty_slots j ++ Some x ∷ rest) k ≡ Some file
    → ((k ≡ j) × (x ≡ file)) ⊎ ((m : ℕ) × (k ≡ j + 1 + m) × (known_at rest m ≡ Some file))
skipped zero x rest zero file there = inl (refl, (cc))
skipped zero x rest (suc k) file there = inr (k, omega arith, there)
skipped (suc j) x rest zero file there = absurd (cc)
skipped (suc j) x rest (suc k) file there = elim (skipped j x rest k file there) [
  | inl here ↦ inl (ap suc here.0, here.1)
  | inr later ↦ inr (later.0, omega (arith, later.1), later.2)
]

-- a known file of a log is a named one
named_known : (n : ℕ) (fs : List NamedFile) (k : ℕ) (file : KnownFile) → IsAbove n fs → known_at (slots_from n fs) k ≡ Some file → (g : NamedFile) × IsAmong g fs × (g.number ≡ n + k) × (known_of g ≡ file)
named_known n [] k file above there = absurd (cc)
named_known n (f ∷ fs) k file above there = elim (skipped (f.number - n) (known_of f) (slots_from (f.number + 1) fs) k file there) [
  | inl here ↦ (f, inl refl, omega (arith, here.0, above.0), here.1)
  | inr later ↦ (let r = named_known (f.number + 1) fs later.0 file above.1 later.2 in (r.0, inr r.1, omega (arith, r.2, later.1, above.0), r.3))
]

-- what holds of all files holds of one
pub each_file : (p : NamedFile → Bool) (g : NamedFile) (fs : List NamedFile) → list_all p fs ≡ true → IsAmong g fs → p g ≡ true
each_file p g [] all among = absurd among
each_file p g (f ∷ fs) all (inl is) = subst (λ (x : NamedFile). p x ≡ true) is (and_parts (p f) (list_all p fs) all).0
each_file p g (f ∷ fs) all (inr more) = each_file p g fs (and_parts (p f) (list_all p fs) all).1 more

pub path_named : (fs : List NamedFile) (g : NamedFile) (path : List ℕ) → IsAmong g fs → g.have.path ≡ path → names fs path ≡ true
path_named [] g path among same = absurd among
path_named (f ∷ fs) g path (inl is) same = or_left (bytes_eq f.have.path path) (names fs path) ((bytes_eq-Decides f.have.path path).1 (ap (λ (x : NamedFile). x.have.path) is ∙ same))
path_named (f ∷ fs) g path (inr later) same = or_right (bytes_eq f.have.path path) (names fs path) (path_named fs g path later same)

-- files of one path are the same
pub one_path : (fs : List NamedFile) (a b : NamedFile) → are_paths_once fs ≡ true → IsAmong a fs → IsAmong b fs → a.have.path ≡ b.have.path → a ≡ b
one_path [] a b once one two same = absurd one
one_path (f ∷ fs) a b once (inl x) (inl y) same = sym x ∙ y
one_path (f ∷ fs) a b once (inl x) (inr y) same =
    let p = and_parts (not (names fs f.have.path)) (are_paths_once fs) once in
    absurd (both_ways (names fs f.have.path) (not-true (names fs f.have.path) p.0) (path_named fs b f.have.path y (sym same ∙ ap (λ (g : NamedFile). g.have.path) (sym x))))
one_path (f ∷ fs) a b once (inr x) (inl y) same =
    let p = and_parts (not (names fs f.have.path)) (are_paths_once fs) once in
    absurd (both_ways (names fs f.have.path) (not-true (names fs f.have.path) p.0) (path_named fs a f.have.path x (same ∙ ap (λ (g : NamedFile). g.have.path) (sym y))))
one_path (f ∷ fs) a b once (inr x) (inr y) same = one_path fs a b (and_parts (not (names fs f.have.path)) (are_paths_once fs) once).1 x y same

pub record IsAFile (f : NamedFile) : Type 0 where
  pub number : f.number < MAX_FILES
  pub lawful : is_lawful f.have.path ≡ true
  pub free : is_reserved f.have.path ≡ false
  pub small : f.have.size ≤ MAX_FILE_SIZE

pub a_file : (f : NamedFile) → is_file f ≡ true → IsAFile f
a_file f is =
    let able = (file_parts f is).nameable in
    let a = and_parts (nat_lt f.number MAX_FILES && is_lawful f.have.path && not (is_reserved f.have.path)) (nat_le f.have.size MAX_FILE_SIZE) able in
    let b = and_parts (nat_lt f.number MAX_FILES && is_lawful f.have.path) (not (is_reserved f.have.path)) a.0 in
    let c = and_parts (nat_lt f.number MAX_FILES) (is_lawful f.have.path) b.0 in
    record { number = ltb-true f.number MAX_FILES c.0; lawful = c.1; free = not-true (is_reserved f.have.path) b.1; small = leb-true f.have.size MAX_FILE_SIZE a.1 }

length_empty : (j : ℕ) (rest : List (Option KnownFile)) → length (empty_slots j ++ rest) ≡ j + length rest
length_empty zero rest = omega arith
length_empty (suc j) rest = omega (arith, length_empty j rest)

length_slots : (n : ℕ) (fs : List NamedFile) → IsAbove n fs → ((g : NamedFile) → IsAmong g fs → g.number < MAX_FILES) → n ≤ MAX_FILES → n + length (slots_from n fs) ≤ MAX_FILES
length_slots n [] above each le = omega (arith, le)
length_slots n (f ∷ fs) above each le =
    let rest = length_slots (f.number + 1) fs above.1 (λ g among. each g (inr among)) (let lt = each f (inl refl) in omega (arith, lt)) in
    omega (arith, rest, length_empty (f.number - n) (Some (known_of f) ∷ slots_from (f.number + 1) fs), above.0)

count_empty : (j : ℕ) (rest : List (Option KnownFile)) → known_count (empty_slots j ++ rest) ≡ known_count rest
count_empty zero rest = refl
count_empty (suc j) rest = omega (arith, sum_by-cons (λ (o : Option KnownFile). cond (is_some o) 1 0) None (empty_slots j ++ rest), count_empty j rest)

pub count_slots : (n : ℕ) (fs : List NamedFile) → known_count (slots_from n fs) ≡ length fs
count_slots n [] = refl
count_slots n (f ∷ fs) =
    omega (arith, count_empty (f.number - n) (Some (known_of f) ∷ slots_from (f.number + 1) fs), sum_by-cons (λ (o : Option KnownFile). cond (is_some o) 1 0) (Some (known_of f)) (slots_from (f.number + 1) fs), count_slots (f.number + 1) fs)

pub log_files : (fs : List NamedFile) → is_view fs ≡ true → AreFiles (known_files fs)
log_files fs view = record {
  lawful = λ n file there. (let r = named_known 0 fs n file above there in subst (λ (k : KnownFile). is_lawful k.path ≡ true) r.3 (a_file r.0 (each_file is_file r.0 fs v.each r.1)).lawful);
  free = λ n file there. (let r = named_known 0 fs n file above there in subst (λ (k : KnownFile). is_reserved k.path ≡ false) r.3 (a_file r.0 (each_file is_file r.0 fs v.each r.1)).free);
  small = λ n file there. (let r = named_known 0 fs n file above there in subst (λ (k : KnownFile). k.size ≤ MAX_FILE_SIZE) r.3 (a_file r.0 (each_file is_file r.0 fs v.each r.1)).small);
  once = λ m n f g one two same.
      let a = named_known 0 fs m f above one in
      let b = named_known 0 fs n g above two in
      let is = one_path fs a.0 b.0 v.paths a.1 b.1 (ap (λ (k : KnownFile). k.path) a.3 ∙ same ∙ ap (λ (k : KnownFile). k.path) (sym b.3)) in
      omega (arith, a.2, b.2, ap (λ (h : NamedFile). h.number) is);
  few = omega (arith, length_slots 0 fs above (λ g among. (a_file g (each_file is_file g fs v.each among)).number) (omega arith));
}
  where
    v : IsView fs
    v = view_parts fs view

    above : IsAbove 0 fs
    above = above_rising fs (view_parts fs view).rising

-- slots that are seen as the files of a log are lawful
pub lawful_log : (slots : List (Option Slot)) (fs : List NamedFile) → plain_files slots ≡ files_of fs → is_view fs ≡ true → AreLawful (plain_files slots)
lawful_log slots fs seen view = lawful_slots slots (subst (λ (f : PlainFiles). AreFiles f.known) (sym seen) (log_files fs view)) (ap (λ (f : PlainFiles). is_view f.named) seen ∙ view)

-- the counts of slots that are seen as the files of a log
pub record AreCounts (slots : List (Option Slot)) (fs : List NamedFile) : Type 0 where
  pub known : known_count (map known_in slots) ≡ length fs
  pub named : length (named_from 0 (map have_in slots)) ≡ length fs
  pub spans : marked_spans (map marked_of (named_from 0 (map have_in slots))) ≡ sum_by spans_in fs
  pub bytes : marked_bytes (map marked_of (named_from 0 (map have_in slots))) ≡ sum_by bytes_in fs
  pub few : length fs ≤ MAX_FILES

pub log_counts : (slots : List (Option Slot)) (fs : List NamedFile) → plain_files slots ≡ files_of fs → is_view fs ≡ true → AreCounts slots fs
log_counts slots fs seen view = record {
  known = ap (λ (f : PlainFiles). known_count f.known) seen ∙ count_slots 0 fs;
  named = ap (λ (f : PlainFiles). length f.named) seen;
  spans = ap (λ (f : PlainFiles). marked_spans (map marked_of f.named)) seen ∙ spans_summed fs;
  bytes = ap (λ (f : PlainFiles). marked_bytes (map marked_of f.named)) seen ∙ bytes_summed fs;
  few = omega (arith, count_slots 0 fs, count_least (known_files fs), (log_files fs view).few);
}

-- ---- the limits of a log

pub log_spans : (fs : List NamedFile) → is_view fs ≡ true → sum_by spans_in fs ≤ MAX_SPANS
log_spans fs view = leb-true (sum_by spans_in fs) MAX_SPANS (and_parts (nat_le (sum_by spans_in fs) MAX_SPANS) (nat_le (sum_by bytes_in fs) MAX_TOTAL) (view_parts fs view).limits).0

pub log_bytes : (fs : List NamedFile) → is_view fs ≡ true → sum_by bytes_in fs ≤ MAX_TOTAL
log_bytes fs view = leb-true (sum_by bytes_in fs) MAX_TOTAL (and_parts (nat_le (sum_by spans_in fs) MAX_SPANS) (nat_le (sum_by bytes_in fs) MAX_TOTAL) (view_parts fs view).limits).1
