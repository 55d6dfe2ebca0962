-- Slots, seen as known files and as named ones.
use Rattle.std.proofs.Common.{◌≡◌, ◌⊎◌, inl, inr, ℕ, zero, suc, ◌+◌, ◌<◌, ◌≤◌, Bool, true, false, List, [], ◌∷◌, ◌++◌, length, map, set, get_or, slice_get, Option, Some, None, refl, sym, ap, ◌∙◌, arith}
use Rattle.std.specs.Prelude.{is_some}
use Rattle.std.specs.List.{list_any}
use Rattle.std.proofs.lemmas.Bool.{cases_eq}
use Rattle.std.proofs.lemmas.Option.{slice_get-get_or}
use Rattle.wdt_units.specs.Have.{HaveFile}
use Rattle.wdt_ranges.specs.Files.{have_file}
use Rattle.wdt_logfmt.specs.Beginning.{free_from, free_number, known_at, with_known}
use Rattle.wdt_logfmt.specs.Landing.{IsAmong}
use Rattle.wdt_logfmt.specs.Marks.{is_marked, marked_of, spans_at}
use Rattle.wdt_logfmt.specs.View.{NamedFile, is_numbered}
use Rattle.wdt_files.specs.declared.slots.Slot.{Slot}
use Rattle.wdt_files.specs.PlainFiles.{known_of}
use Rattle.wdt_files.specs.Slots.{AreBare, filled, have_by, have_in, known_in, named_from, slot_at, slot_by, spans_by}
use Rattle.wdt_files.proofs.Known.{free_from_least, free_least, free_none}
use Rattle.wdt_files.proofs.Marks.{marked, spans_there, spans_unnamed}
use Rattle.wdt_files.proofs.Named.{IsUnnamed, kept_at, numbered, unnumbered}

-- ---- a slot that is read

pub past : (slots : List (Option Slot)) (n : ℕ) → length slots ≤ n → slot_at slots n ≡ None
past [] n le = refl
past (s ∷ slots) zero le = absurd (omega arith)
past (s ∷ slots) (suc n) le = past slots n (omega arith)

pub read : (slots : List (Option Slot)) (n : ℕ) (slot : Option Slot) → n < length slots → slot ≡ get_or slots n slot → slot_at slots n ≡ slot
read slots n slot lt is = ap slot_by (slice_get-get_or slots n slot lt) ∙ sym is

pub within : (slots : List (Option Slot)) (n : ℕ) (s : Slot) → slot_at slots n ≡ Some s → n < length slots
within [] n s there = absurd (cc)
within (o ∷ slots) zero s there = omega arith
within (o ∷ slots) (suc n) s there = omega (arith, within slots n s there)

-- ---- what is known and named of it

pub known_slot : (slots : List (Option Slot)) (n : ℕ) → known_at (map known_in slots) n ≡ known_in (slot_at slots n)
known_slot [] n = refl
known_slot (o ∷ slots) zero = refl
known_slot (o ∷ slots) (suc n) = known_slot slots n

have_slot : (slots : List (Option Slot)) (n : ℕ) (h : HaveFile) → slice_get (map have_in slots) n ≡ Some (Some h) → have_in (slot_at slots n) ≡ Some h
have_slot [] n h there = absurd (cc)
have_slot (o ∷ slots) zero h there = cc
have_slot (o ∷ slots) (suc n) h there = have_slot slots n h there

pub slot_have : (slots : List (Option Slot)) (n : ℕ) (s : Slot) → slot_at slots n ≡ Some s → slice_get (map have_in slots) n ≡ Some (have_in (Some s))
slot_have [] n s there = absurd (cc)
slot_have (o ∷ slots) zero s there = ap (λ (x : Option Slot). Some (have_in x)) there
slot_have (o ∷ slots) (suc n) s there = slot_have slots n s there

pub named_there : (slots : List (Option Slot)) (n : ℕ) (s : Slot) → slot_at slots n ≡ Some s → s.is_named ≡ true → slice_get (map have_in slots) n ≡ Some (Some (have_file s.file))
named_there slots n s there is = slot_have slots n s there ∙ ap (λ (b : Bool). Some (have_by b (have_file s.file))) is

pub unnamed_there : (slots : List (Option Slot)) (n : ℕ) (s : Slot) → slot_at slots n ≡ Some s → s.is_named ≡ false → IsUnnamed (map have_in slots) n
unnamed_there slots n s there is h e =
    let none : None ≡ Some h = ap (λ (b : Bool). have_by b (have_file s.file)) (sym is) ∙ sym (ap have_in there) ∙ have_slot slots n h e in
    cc

pub unnamed_free : (slots : List (Option Slot)) (n : ℕ) → slot_at slots n ≡ None → IsUnnamed (map have_in slots) n
unnamed_free slots n there h e =
    let none : None ≡ Some h = sym (ap have_in there) ∙ have_slot slots n h e in
    cc

-- a named file is known as what it is
pub known_as : (slots : List (Option Slot)) (f : NamedFile) → IsAmong f (named_from 0 (map have_in slots)) → known_at (map known_in slots) f.number ≡ Some (known_of f)
known_as slots f among =
    let r = kept_at (map have_in slots) 0 f among in
    let at : slice_get (map have_in slots) f.number ≡ Some (Some f.have) = ap (slice_get (map have_in slots)) (let e : f.number ≡ r.0 = omega (arith, r.1) in e) ∙ r.2 in
    known_slot slots f.number ∙ go (slot_at slots f.number) (have_slot slots f.number f.have at)
  where
    both : (s : Slot) (b : Bool) → have_by b (have_file s.file) ≡ Some f.have → have_file s.file ≡ f.have
    both s true e = cc
    both s false e = absurd (cc)

    go : (o : Option Slot) → have_in o ≡ Some f.have → known_in o ≡ Some (known_of f)
    go None e = absurd (cc)
    go (Some s) e = ap (λ (h : HaveFile). Some (record { path = h.path; size = h.size; stamp = h.stamp })) (both s s.is_named e)

-- ---- what is there of it

pub spans_slot : (slots : List (Option Slot)) (n : ℕ) → AreBare slots → spans_at (map marked_of (named_from 0 (map have_in slots))) n ≡ spans_by (slot_at slots n)
spans_slot slots n bare = go (slot_at slots n) refl
  where
    by : (s : Slot) (b : Bool) → s.is_named ≡ b → slot_at slots n ≡ Some s → spans_at (map marked_of (named_from 0 (map have_in slots))) n ≡ s.file.spans
    by s true is there = spans_there (map have_in slots) 0 n n (have_file s.file) (omega arith) (named_there slots n s there is)
    by s false is there = spans_unnamed (map have_in slots) 0 n n (omega arith) (unnamed_there slots n s there is) ∙ sym (bare n s there is)

    go : (o : Option Slot) → slot_at slots n ≡ o → spans_at (map marked_of (named_from 0 (map have_in slots))) n ≡ spans_by o
    go None there = spans_unnamed (map have_in slots) 0 n n (omega arith) (unnamed_free slots n there)
    go (Some s) there = by s s.is_named refl there

pub numbered_slot : (slots : List (Option Slot)) (n : ℕ) (s : Slot) → slot_at slots n ≡ Some s → list_any (is_numbered n) (named_from 0 (map have_in slots)) ≡ s.is_named
numbered_slot slots n s there = go s.is_named refl
  where
    go : (b : Bool) → s.is_named ≡ b → list_any (is_numbered n) (named_from 0 (map have_in slots)) ≡ b
    go true is = numbered (map have_in slots) 0 n n (have_file s.file) (omega arith) (named_there slots n s there is)
    go false is = unnumbered (map have_in slots) 0 n n (omega arith) (unnamed_there slots n s there is)

pub marked_slot : (slots : List (Option Slot)) (n : ℕ) (s : Slot) → slot_at slots n ≡ Some s → s.is_named ≡ is_marked (map marked_of (named_from 0 (map have_in slots))) n
marked_slot slots n s there = sym (marked (named_from 0 (map have_in slots)) n ∙ numbered_slot slots n s there)

pub marked_free : (slots : List (Option Slot)) (n : ℕ) → slot_at slots n ≡ None → is_marked (map marked_of (named_from 0 (map have_in slots))) n ≡ false
marked_free slots n there = marked (named_from 0 (map have_in slots)) n ∙ unnumbered (map have_in slots) 0 n n (omega arith) (unnamed_free slots n there)

-- ---- one file more

pub known_filled : (slots : List (Option Slot)) (s : Slot) → map known_in (filled slots s) ≡ with_known (map known_in slots) (record { path = s.file.path; size = s.file.size; stamp = s.file.stamp })
known_filled [] s = refl
known_filled (None ∷ slots) s = refl
known_filled (Some t ∷ slots) s = ap (λ w. known_in (Some t) ∷ w) (known_filled slots s)

pub named_filled : (slots : List (Option Slot)) (first : ℕ) (s : Slot) → s.is_named ≡ false → named_from first (map have_in (filled slots s)) ≡ named_from first (map have_in slots)
named_filled [] first s is = rw is refl
named_filled (None ∷ slots) first s is = rw is refl
named_filled (Some t ∷ slots) first s is = go (have_in (Some t)) (named_filled slots (first + 1) s is)
  where
    go : (o : Option HaveFile) → named_from (first + 1) (map have_in (filled slots s)) ≡ named_from (first + 1) (map have_in slots) → named_from first (o ∷ map have_in (filled slots s)) ≡ named_from first (o ∷ map have_in slots)
    go None rest = rest
    go (Some h) rest = ap (λ w. record { number = first; have = h } ∷ w) rest

slot_filled : (slots : List (Option Slot)) (s t : Slot) (n : ℕ) → slot_at (filled slots s) n ≡ Some t → (s ≡ t) ⊎ (slot_at slots n ≡ Some t)
slot_filled [] s t zero there = inl (cc)
slot_filled [] s t (suc n) there = absurd (cc)
slot_filled (None ∷ slots) s t zero there = inl (cc)
slot_filled (None ∷ slots) s t (suc n) there = inr there
slot_filled (Some u ∷ slots) s t zero there = inr there
slot_filled (Some u ∷ slots) s t (suc n) there = slot_filled slots s t n there

pub bare_filled : (slots : List (Option Slot)) (s : Slot) → s.file.spans ≡ [] → AreBare slots → AreBare (filled slots s)
bare_filled slots s none bare n t there is = elim (slot_filled slots s t n there) [
  | inl same ↦ ap (λ (u : Slot). u.file.spans) (sym same) ∙ none
  | inr was ↦ bare n t was is
]

pub filled_end : (slots : List (Option Slot)) (first n : ℕ) (s : Slot) → first + n ≡ free_from first (map known_in slots) → length slots ≤ n → slots ++ Some s ∷ [] ≡ filled slots s
filled_end [] first n s at le = refl
filled_end (None ∷ slots) first n s at le = absurd (omega (arith, at, le))
filled_end (Some t ∷ slots) first zero s at le = absurd (omega arith)
filled_end (Some t ∷ slots) first (suc n) s at le = ap (λ w. Some t ∷ w) (filled_end slots (first + 1) n s (omega (arith, at)) (omega arith))

pub filled_at : (slots : List (Option Slot)) (first n : ℕ) (s : Slot) → first + n ≡ free_from first (map known_in slots) → n < length slots → set slots n (Some s) ≡ filled slots s
filled_at [] first n s at lt = absurd (omega arith)
filled_at (None ∷ slots) first zero s at lt = refl
filled_at (None ∷ slots) first (suc n) s at lt = absurd (omega (arith, at))
filled_at (Some t ∷ slots) first zero s at lt = absurd (omega (arith, at, free_from_least (map known_in slots) (first + 1)))
filled_at (Some t ∷ slots) first (suc n) s at lt = ap (λ w. Some t ∷ w) (filled_at slots (first + 1) n s (omega (arith, at)) (omega arith))

-- a slot at or below the least free number is the first free one, or full
pub free_here : (slots : List (Option Slot)) (n : ℕ) (o : Option Slot) → n < length slots → o ≡ get_or slots n o → is_some o ≡ false → n ≤ free_number (map known_in slots) → n ≡ free_number (map known_in slots)
free_here slots n o lt is none le = omega (arith, le, free_least (map known_in slots) n (known_slot slots n ∙ ap known_in (read slots n o lt is) ∙ go o none))
  where
    go : (o : Option Slot) → is_some o ≡ false → known_in o ≡ None
    go None e = refl
    go (Some s) e = absurd (cc)

pub full_here : (slots : List (Option Slot)) (n : ℕ) (o : Option Slot) → n < length slots → o ≡ get_or slots n o → is_some o ≡ true → n ≤ free_number (map known_in slots) → n + 1 ≤ free_number (map known_in slots)
full_here slots n o lt is some le = elim (cases_eq n (free_number (map known_in slots))) [
  | inl same ↦
      let none : known_in o ≡ None = sym (ap known_in (read slots n o lt is)) ∙ sym (known_slot slots n) ∙ ap (known_at (map known_in slots)) same ∙ free_none (map known_in slots) in
      absurd (go o some none)
  | inr other ↦ omega (arith, le, other)
]
  where
    go : (o : Option Slot) → is_some o ≡ true → known_in o ≡ None → ⊥
    go None e none = cc
    go (Some s) e none = cc
