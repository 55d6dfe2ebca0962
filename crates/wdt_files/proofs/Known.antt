-- Known files by number: the least free number, the number of a path, and one file more.
use Rattle.std.proofs.Common.{◌≡◌, ◌⊎◌, inl, inr, ℕ, zero, suc, ◌+◌, ◌<◌, ◌≤◌, Bool, true, false, List, [], ◌∷◌, ◌++◌, length, Option, Some, None, refl, sym, ap, ◌∙◌, subst, arith}
use Rattle.std.specs.Prelude.{cond, if◌then◌else◌, is_some}
use Rattle.std.specs.Str.{bytes_eq}
use Rattle.std.proofs.lemmas.Bool.{both_ways, cases_eq, cases_lt}
use Rattle.std.proofs.lemmas.List.Sums.{sum_by-cons, count_by-le-length}
use Rattle.std.proofs.lemmas.Slice.Eq.{bytes_eq-Decides}
use Rattle.wdt_units.specs.declared.limits.TheConstants.{MAX_FILES, MAX_FILE_SIZE}
use Rattle.wdt_units.specs.Path.{is_lawful, is_reserved}
use Rattle.wdt_logfmt.specs.Beginning.{KnownFile, free_from, free_number, known_at, known_count, number_from, number_of, with_known}
use Rattle.wdt_logfmt.proofs.ForCallers.{IsFreeSlot, new_slot, number_new}
use Rattle.wdt_files.specs.PlainFiles.{AreFiles}

-- ---- the least free number

pub count_least : (known : List (Option KnownFile)) → known_count known ≤ length known
count_least known = count_by-le-length is_some known

pub free_within : (known : List (Option KnownFile)) → free_number known ≤ length known
free_within known = omega (arith, (new_slot known (record { path = []; size = 0; stamp = 0 })).few, count_least known)

pub free_none : (known : List (Option KnownFile)) → known_at known (free_number known) ≡ None
free_none known = (new_slot known (record { path = []; size = 0; stamp = 0 })).free

full_below : (known : List (Option KnownFile)) (first i : ℕ) → first + i < free_from first known → is_some (known_at known i) ≡ true
full_below [] first i lt = absurd (omega (arith, lt))
full_below (None ∷ slots) first i lt = absurd (omega (arith, lt))
full_below (Some file ∷ slots) first zero lt = refl
full_below (Some file ∷ slots) first (suc i) lt = full_below slots (first + 1) i (omega (arith, lt))

-- a number that no file has isn't below the least free one
pub free_least : (known : List (Option KnownFile)) (n : ℕ) → known_at known n ≡ None → free_number known ≤ n
free_least known n none = elim (cases_lt n (free_number known)) [
  | inl lt ↦ absurd (both_ways (is_some (known_at known n)) (ap is_some none) (full_below known 0 n (omega (arith, lt))))
  | inr le ↦ le
]

pub free_from_least : (known : List (Option KnownFile)) (first : ℕ) → first ≤ free_from first known
free_from_least [] first = omega arith
free_from_least (None ∷ slots) first = omega arith
free_from_least (Some file ∷ slots) first = omega (arith, free_from_least slots (first + 1))

free_from_grows : (known : List (Option KnownFile)) (file : KnownFile) (first : ℕ) → free_from first known + 1 ≤ free_from first (with_known known file)
free_from_grows [] file first = omega arith
free_from_grows (None ∷ slots) file first = free_from_least slots (first + 1)
free_from_grows (Some other ∷ slots) file first = free_from_grows slots file (first + 1)

-- a file more takes the least free number
pub free_grows : (known : List (Option KnownFile)) (file : KnownFile) → free_number known + 1 ≤ free_number (with_known known file)
free_grows known file = free_from_grows known file 0

-- ---- the number of a path

none_later : (b : Bool) (n : ℕ) (o : Option ℕ) → (if b then Some n else o) ≡ None → (b ≡ false) × (o ≡ None)
none_later true n o e = absurd (cc)
none_later false n o e = (refl, e)

same_path : (p q : List ℕ) → bytes_eq p q ≡ true → p ≡ q
same_path p q e = (bytes_eq-Decides p q).0 e

-- whose path is first asked for, where two paths aren't the same
swapped : (f g path : List ℕ) (m n : ℕ) (o : Option ℕ) → bytes_eq f g ≡ false
    → (if bytes_eq f path then Some m else (if bytes_eq g path then Some n else o)) ≡ (if bytes_eq g path then Some n else (if bytes_eq f path then Some m else o))
swapped f g path m n o differ = go (bytes_eq f path) (bytes_eq g path) refl refl
  where
    go : (c d : Bool) → bytes_eq f path ≡ c → bytes_eq g path ≡ d → (if c then Some m else (if d then Some n else o)) ≡ (if d then Some n else (if c then Some m else o))
    go true true e h = absurd (both_ways (bytes_eq f g) differ ((bytes_eq-Decides f g).1 (same_path f path e ∙ sym (same_path g path h))))
    go true false e h = refl
    go false d e h = refl

-- what the number of a path is once a file without one is known
pub number_with : (first : ℕ) (slots : List (Option KnownFile)) (file : KnownFile) (path : List ℕ) → number_from first slots file.path ≡ None
    → number_from first (with_known slots file) path ≡ (if bytes_eq file.path path then Some (free_from first slots) else number_from first slots path)
number_with first [] file path none = refl
number_with first (None ∷ slots) file path none = refl
number_with first (Some other ∷ slots) file path none =
    let n = none_later (bytes_eq other.path file.path) first (number_from (first + 1) slots file.path) none in
    ap (λ (o : Option ℕ). if bytes_eq other.path path then Some first else o) (number_with (first + 1) slots file path n.1)
    ∙ swapped other.path file.path path first (free_from (first + 1) slots) (number_from (first + 1) slots path) n.0

-- the same for one at the end
pub number_more : (first n : ℕ) (slots : List (Option KnownFile)) (file : KnownFile) (path : List ℕ) → n ≡ first + length slots → number_from first slots file.path ≡ None
    → number_from first (slots ++ Some file ∷ []) path ≡ (if bytes_eq file.path path then Some n else number_from first slots path)
number_more first n [] file path at none = ap (λ (k : ℕ). if bytes_eq file.path path then Some k else None) (let e : first ≡ n = omega arith in e)
number_more first n (None ∷ slots) file path at none = number_more (first + 1) n slots file path (omega arith) none
number_more first n (Some other ∷ slots) file path at none =
    let p = none_later (bytes_eq other.path file.path) first (number_from (first + 1) slots file.path) none in
    ap (λ (o : Option ℕ). if bytes_eq other.path path then Some first else o) (number_more (first + 1) n slots file path (omega arith) p.1)
    ∙ swapped other.path file.path path first n (number_from (first + 1) slots path) p.0

-- a free slot at the end
pub number_free : (first : ℕ) (slots : List (Option KnownFile)) (path : List ℕ) → number_from first (slots ++ None ∷ []) path ≡ number_from first slots path
number_free first [] path = refl
number_free first (None ∷ slots) path = number_free (first + 1) slots path
number_free first (Some file ∷ slots) path = ap (λ (o : Option ℕ). if bytes_eq file.path path then Some first else o) (number_free (first + 1) slots path)

-- ---- one file more

length_with : (slots : List (Option KnownFile)) (file : KnownFile) → (length (with_known slots file) ≤ length slots) ⊎ ((length (with_known slots file) ≡ length slots + 1) × (known_count slots ≡ length slots))
length_with [] file = inr (refl, refl)
length_with (None ∷ slots) file = inl (omega arith)
length_with (Some f ∷ slots) file = elim (length_with slots file) [
  | inl le ↦ inl (omega (arith, le))
  | inr more ↦ inr (omega (arith, more.0), omega (arith, more.1, sum_by-cons (λ (o : Option KnownFile). cond (is_some o) 1 0) (Some f) slots))
]

-- known files with one more, whose path is new, are as files are
pub files_with : (known : List (Option KnownFile)) (new : KnownFile) → AreFiles known → number_of known new.path ≡ None → is_lawful new.path ≡ true → is_reserved new.path ≡ false → new.size ≤ MAX_FILE_SIZE → known_count known < MAX_FILES
    → AreFiles (with_known known new)
files_with known new are none lawful free small few = record {
  lawful = λ n file there. elim (at n) [
    | inl same ↦ subst (λ (f : KnownFile). is_lawful f.path ≡ true) (told n file same there) lawful
    | inr other ↦ are.lawful n file (sym (slot.others n other) ∙ there)
  ];
  free = λ n file there. elim (at n) [
    | inl same ↦ subst (λ (f : KnownFile). is_reserved f.path ≡ false) (told n file same there) free
    | inr other ↦ are.free n file (sym (slot.others n other) ∙ there)
  ];
  small = λ n file there. elim (at n) [
    | inl same ↦ subst (λ (f : KnownFile). f.size ≤ MAX_FILE_SIZE) (told n file same there) small
    | inr other ↦ are.small n file (sym (slot.others n other) ∙ there)
  ];
  once = λ m n f g one two same. elim (at m) [
    | inl m_new ↦ elim (at n) [
      | inl n_new ↦ m_new ∙ sym n_new
      | inr n_old ↦ absurd (number_new known new.path n g none (sym (slot.others n n_old) ∙ two) (sym same ∙ ap (λ (x : KnownFile). x.path) (sym (told m f m_new one))))
    ]
    | inr m_old ↦ elim (at n) [
      | inl n_new ↦ absurd (number_new known new.path m f none (sym (slot.others m m_old) ∙ one) (same ∙ ap (λ (x : KnownFile). x.path) (sym (told n g n_new two))))
      | inr n_old ↦ are.once m n f g (sym (slot.others m m_old) ∙ one) (sym (slot.others n n_old) ∙ two) same
    ]
  ];
  few = elim (length_with known new) [
    | inl le ↦ omega (arith, le, are.few)
    | inr more ↦ omega (arith, more.0, more.1, few)
  ];
}
  where
    slot : IsFreeSlot known new (free_number known)
    slot = new_slot known new

    at : (n : ℕ) → (n ≡ free_number known) ⊎ (n ≡ free_number known → ⊥)
    at n = cases_eq n (free_number known)

    told : (n : ℕ) (file : KnownFile) → n ≡ free_number known → known_at (with_known known new) n ≡ Some file → new ≡ file
    told n file same there =
        let is : Some new ≡ Some file = sym (new_slot known new).there ∙ ap (known_at (with_known known new)) (sym same) ∙ there in
        cc
