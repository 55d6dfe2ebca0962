-- Known files by number: the least free number, and the number of a path.
use Rattle.std.proofs.Common.{◌≡◌, ℕ, zero, suc, ◌+◌, ◌≤◌, Bool, true, false, List, [], ◌∷◌, length, Option, Some, None, refl, sym, ap, ◌∙◌, subst, arith}
use Rattle.std.specs.Prelude.{cond, is_some, slice_get, if◌then◌else◌}
use Rattle.std.specs.Str.{bytes_eq}
use Rattle.std.proofs.lemmas.Bool.{both_ways}
use Rattle.std.proofs.lemmas.List.Sums.{sum_by-cons}
use Rattle.std.proofs.lemmas.Slice.Eq.{bytes_eq-Decides}
use Rattle.wdt_logfmt.specs.Beginning.{KnownFile, free_from, free_number, has_path, known_at, known_by, known_count, number_from, number_of, with_known}
use Rattle.wdt_logfmt.specs.Batches.{is_known}

-- ---- a new file

-- the least free number of slots, counted from their first
pub record IsFreeSlot (slots : List (Option KnownFile)) (file : KnownFile) (at : ℕ) : Type 0 where
  pub free : known_at slots at ≡ None
  pub there : known_at (with_known slots file) at ≡ Some file
  pub others : (n : ℕ) → (n ≡ at → ⊥) → known_at (with_known slots file) n ≡ known_at slots n
  pub few : at ≤ known_count slots
  pub count : known_count (with_known slots file) ≡ known_count slots + 1

count_known : (slot : Option KnownFile) (slots : List (Option KnownFile)) → known_count (slot ∷ slots) ≡ cond (is_some slot) 1 0 + known_count slots
count_known slot slots = sum_by-cons (λ (o : Option KnownFile). cond (is_some o) 1 0) slot slots

free_slot : (first : ℕ) (slots : List (Option KnownFile)) (file : KnownFile) → (at : ℕ) × (free_from first slots ≡ first + at) × IsFreeSlot slots file at
free_slot first [] file = (0, (omega arith), record { free = refl; there = refl; others = others; few = omega arith; count = refl })
  where
    others : (n : ℕ) → (n ≡ 0 → ⊥) → known_at (with_known [] file) n ≡ known_at [] n
    others zero other = absurd (other refl)
    others (suc n) other = refl
free_slot first (None ∷ slots) file = (0, (omega arith), record { free = refl; there = refl; others = others; few = omega arith; count = counts })
  where
    others : (n : ℕ) → (n ≡ 0 → ⊥) → known_at (with_known (None ∷ slots) file) n ≡ known_at (None ∷ slots) n
    others zero other = absurd (other refl)
    others (suc n) other = refl

    counts : known_count (Some file ∷ slots) ≡ known_count (None ∷ slots) + 1
    counts = omega (arith, count_known (Some file) slots, count_known None slots)
free_slot first (Some other ∷ slots) file =
    let r = free_slot (first + 1) slots file in
    let p = r.2 in (
      suc r.0,
      omega (arith, r.1),
      record {
        free = p.free;
        there = p.there;
        others = others r.0 p;
        few = omega (arith, p.few, count_known (Some other) slots);
        count = omega (arith, p.count, count_known (Some other) slots, count_known (Some other) (with_known slots file));
      },
    )
  where
    others : (at : ℕ) → IsFreeSlot slots file at → (n : ℕ) → (n ≡ suc at → ⊥) → known_at (with_known (Some other ∷ slots) file) n ≡ known_at (Some other ∷ slots) n
    others at p zero differs = refl
    others at p (suc n) differs = p.others n (λ same. differs (ap suc same))

pub new_slot : (slots : List (Option KnownFile)) (file : KnownFile) → IsFreeSlot slots file (free_number slots)
new_slot slots file = (let r = free_slot 0 slots file in subst (IsFreeSlot slots file) (let e : r.0 ≡ free_from 0 slots = omega (arith, r.1) in e) r.2)

-- the files that were known are known as before
pub known_stays : (slots : List (Option KnownFile)) (file : KnownFile) (n : ℕ) → is_known slots n ≡ true → known_at (with_known slots file) n ≡ known_at slots n
known_stays slots file n there =
    let p = new_slot slots file in
    p.others n (λ same. both_ways (is_some (known_at slots n)) (ap (λ (k : ℕ). is_some (known_at slots k)) same ∙ ap is_some p.free) there)

-- ---- the number of a path

-- the file of this path has this number
pub record HasNumber (slots : List (Option KnownFile)) (path : List ℕ) (n : ℕ) : Type 0 where
  pub file : KnownFile
  pub there : known_at slots n ≡ Some file
  pub path_is : file.path ≡ path

number_at : (first : ℕ) (slots : List (Option KnownFile)) (path : List ℕ) (n : ℕ) → number_from first slots path ≡ Some n → (i : ℕ) × (n ≡ first + i) × HasNumber slots path i
number_at first [] path n found = absurd (cc)
number_at first (slot ∷ slots) path n found = go (has_path path slot) refl found (number_at (first + 1) slots path n)
  where
    here : (o : Option KnownFile) → has_path path o ≡ true → HasNumber (o ∷ slots) path 0
    here None is = absurd (cc)
    here (Some file) is = record { file = file; there = refl; path_is = (bytes_eq-Decides file.path path).0 is }

    go : (c : Bool) → has_path path slot ≡ c → (if c then Some first else number_from (first + 1) slots path) ≡ Some n
        → (number_from (first + 1) slots path ≡ Some n → (i : ℕ) × (n ≡ first + 1 + i) × HasNumber slots path i) → (i : ℕ) × (n ≡ first + i) × HasNumber (slot ∷ slots) path i
    go true is e later = (0, (let same : first ≡ n = cc in omega arith), here slot is)
    go false is e later = (let r = later e in (suc r.0, omega (arith, r.1), record { file = r.2.file; there = r.2.there; path_is = r.2.path_is }))

pub number_found : (slots : List (Option KnownFile)) (path : List ℕ) (n : ℕ) → number_of slots path ≡ Some n → HasNumber slots path n
number_found slots path n found = (let r = number_at 0 slots path n found in subst (HasNumber slots path) (let e : r.0 ≡ n = omega (arith, r.1) in e) r.2)

number_none : (first : ℕ) (slots : List (Option KnownFile)) (path : List ℕ) (n : ℕ) (file : KnownFile) → number_from first slots path ≡ None → known_at slots n ≡ Some file → file.path ≡ path → ⊥
number_none first [] path n file none there same = (cc)
number_none first (slot ∷ slots) path n file none there same = go (has_path path slot) refl none (λ k e at. number_none (first + 1) slots path k file e at same) n there
  where
    go : (c : Bool) → has_path path slot ≡ c → (if c then Some first else number_from (first + 1) slots path) ≡ None
        → ((k : ℕ) → number_from (first + 1) slots path ≡ None → known_at slots k ≡ Some file → ⊥) → (k : ℕ) → known_at (slot ∷ slots) k ≡ Some file → ⊥
    go true is e later k at = (cc)
    go false is e later zero at = both_ways (has_path path slot) is (ap (has_path path) at ∙ (bytes_eq-Decides file.path path).1 same)
    go false is e later (suc k) at = later k e at

pub number_new : (slots : List (Option KnownFile)) (path : List ℕ) (n : ℕ) (file : KnownFile) → number_of slots path ≡ None → known_at slots n ≡ Some file → file.path ≡ path → ⊥
number_new slots path n file none there same = number_none 0 slots path n file none there same
