-- The files behind a block that landed are those that its entries lead to.
use Rattle.std.proofs.Common.{◌≡◌, ◌⊎◌, inl, inr, ℕ, zero, suc, ◌+◌, ◌<◌, Bool, true, false, List, [], ◌∷◌, length, map, set, sum_by, slice_get, Option, Some, None, refl, sym, ap, ◌∙◌, subst, arith}
use Rattle.std.specs.Prelude.{◌==◌, if◌then◌else◌, option_and_then, IfSome, IsSome}
use Rattle.std.specs.List.{list_any}
use Rattle.std.proofs.lemmas.Bool.{both_ways, cases_eq, eq-eqb, ne_eqb}
use Rattle.std.proofs.lemmas.List.{length-map, map-set, set-set}
use Rattle.wdt_units.specs.declared.blocks.Block.{Block}
use Rattle.wdt_units.specs.Have.{HaveFile, PlainSpan}
use Rattle.wdt_ranges.specs.Files.{have_file}
use Rattle.wdt_ranges.specs.Spans.{total_of}
use Rattle.wdt_logfmt.specs.declared.entry.LogEntry.TheVariants.{File, Covered}
use Rattle.wdt_logfmt.specs.Adding.{added, all_added, can_cover, can_name, covering, have_with, just_named, put_by_number, span_at}
use Rattle.wdt_logfmt.specs.Batches.{block_entries, file_entry, file_entry_by, files_behind, files_or, span_entry}
use Rattle.wdt_logfmt.specs.Beginning.{KnownFile, free_number, known_at, known_count, number_of}
use Rattle.wdt_logfmt.specs.Spelling.{written_version}
use Rattle.wdt_logfmt.specs.View.{NamedFile, bytes_in, is_numbered, is_view, spans_in}
use Rattle.wdt_logfmt.proofs.ForCallers.{all_added-append, batch-view, can_cover-parts, taken_true, total-with_span}
use Rattle.wdt_files.specs.declared.slots.Slot.{Slot}
use Rattle.wdt_files.specs.PlainFiles.{AreFiles, AreLawful, PlainFiles, with_landed}
use Rattle.wdt_files.specs.Slots.{AreBare, HasRoom, IsKept, IsLanded, have_by, have_in, have_landed, known_in, named_from, plain_files, slot_at, slot_by, spans_by}
use Rattle.wdt_files.proofs.InSlots.{known_slot, named_there, numbered_slot, unnamed_there, within}
use Rattle.wdt_files.proofs.Kept.{lawful_slots}
use Rattle.wdt_files.proofs.Marks.{bytes_summed, spans_summed}
use Rattle.wdt_files.proofs.Named.{file_of, length_kept, length_new, room_in, set_covered, set_named, sum_new, sum_set}

-- ---- lists

set_same : {A : Type 0} (xs : List A) (n : ℕ) (x : A) → slice_get xs n ≡ Some x → set xs n x ≡ xs
set_same [] n x here = refl
set_same (y ∷ xs) zero x here = (let same : y ≡ x = cc in ap (λ z. z ∷ xs) (sym same))
set_same (y ∷ xs) (suc n) x here = ap (λ w. y ∷ w) (set_same xs n x here)

get_set : {A : Type 0} (xs : List A) (n : ℕ) (x : A) → n < length xs → slice_get (set xs n x) n ≡ Some x
get_set [] n x lt = absurd (omega arith)
get_set (y ∷ xs) zero x lt = refl
get_set (y ∷ xs) (suc n) x lt = get_set xs n x (omega arith)

slot_set : (slots : List (Option Slot)) (n k : ℕ) (s t : Slot) → slot_at (set slots n (Some s)) k ≡ Some t → (s ≡ t) ⊎ (slot_at slots k ≡ Some t)
slot_set [] n k s t there = absurd (cc)
slot_set (o ∷ slots) zero zero s t there = inl (cc)
slot_set (o ∷ slots) zero (suc k) s t there = inr there
slot_set (o ∷ slots) (suc n) zero s t there = inr there
slot_set (o ∷ slots) (suc n) (suc k) s t there = slot_set slots n k s t there

pub if_some : {A : Type 0} (o : Option A) (P : A → Type 0) → ((x : A) → o ≡ Some x → P x) → IfSome o P
if_some None P each = tt
if_some (Some x) P each = each x refl

-- an answer of two steps has one of each
two_steps : {A B : Type 0} (o : Option A) (f : A → Option B) → IsSome (option_and_then f o) → (x : A) × (o ≡ Some x) × ((y : B) × (f x ≡ Some y))
two_steps None f some = absurd (cc)
two_steps (Some x) f some = (x, refl, go (f x) some)
  where
    go : {B : Type 0} (r : Option B) → IsSome r → (y : B) × (r ≡ Some y)
    go None some = absurd (cc)
    go (Some y) some = (y, refl)

only : (o : Option (List NamedFile)) → option_and_then (λ (gs : List NamedFile). Some gs) o ≡ o
only None = refl
only (Some gs) = refl

-- ---- what the block's entries lead to

-- the files of slots, once the block of one of them has landed
pub record Lands (slots : List (Option Slot)) (b : Block) (s : Slot) : Type 0 where
  pub room : HasRoom b (have_file s.file)
  pub behind : files_behind (named_from 0 (map have_in slots)) (block_entries (map known_in slots) (named_from 0 (map have_in slots)) b) ≡ named_from 0 (set (map have_in slots) b.file (Some (have_landed b (have_file s.file))))
  pub view : is_view (named_from 0 (set (map have_in slots) b.file (Some (have_landed b (have_file s.file))))) ≡ true

module _ (slots : List (Option Slot)) (b : Block) (s : Slot) (there : slot_at slots b.file ≡ Some s) (bare : AreBare slots) where
  abbrev known : List (Option KnownFile)
  known = map known_in slots

  abbrev haves : List (Option HaveFile)
  haves = map have_in slots

  abbrev have : HaveFile
  have = have_file s.file

  in_haves : b.file < length haves
  in_haves = omega (arith, length-map slots have_in, within slots b.file s there)

  -- the files with the block's named are those that its file's entry leads to
  named_by : (gs : List NamedFile) → all_added written_version (named_from 0 haves) (file_entry known (named_from 0 haves) b.file) ≡ Some gs → gs ≡ named_from 0 (set haves b.file (Some have))
  named_by gs adds = go s.is_named refl (numbered_slot slots b.file s there)
    where
      go : (c : Bool) → s.is_named ≡ c → list_any (is_numbered b.file) (named_from 0 haves) ≡ s.is_named → gs ≡ named_from 0 (set haves b.file (Some have))
      go true is numbered =
          let same : Some (named_from 0 haves) ≡ Some gs = sym (ap (λ (c : Bool). all_added written_version (named_from 0 haves) (if c then [] else file_entry_by (known_at known b.file) b.file)) (numbered ∙ is)) ∙ adds in
          let is_gs : named_from 0 haves ≡ gs = cc in
          sym is_gs ∙ ap (named_from 0) (sym (set_same haves b.file (Some have) (named_there slots b.file s there is)))
      go false is numbered =
          let told : known_at known b.file ≡ Some (record { path = s.file.path; size = s.file.size; stamp = s.file.stamp }) = known_slot slots b.file ∙ ap known_in there in
          let entry : all_added written_version (named_from 0 haves) (file_entry known (named_from 0 haves) b.file) ≡ added written_version (named_from 0 haves) (File b.file s.file.path s.file.size s.file.stamp) =
          ap (λ (c : Bool). all_added written_version (named_from 0 haves) (if c then [] else file_entry_by (known_at known b.file) b.file)) (numbered ∙ is)
          ∙ ap (λ (o : Option KnownFile). all_added written_version (named_from 0 haves) (file_entry_by o b.file)) told
          ∙ only (added written_version (named_from 0 haves) (File b.file s.file.path s.file.size s.file.stamp)) in
          let t = taken_true (can_name (named_from 0 haves) b.file s.file.path s.file.size) (put_by_number (just_named b.file s.file.path s.file.size s.file.stamp) (named_from 0 haves)) gs (sym entry ∙ adds) in
          let just : just_named b.file s.file.path s.file.size s.file.stamp ≡ file_of b.file have = ap (λ (ss : List PlainSpan). record { number = b.file; have = record { path = s.file.path; size = s.file.size; stamp = s.file.stamp; spans = ss } }) (sym (bare b.file s there is)) in
          sym t.1 ∙ ap (λ (x : NamedFile). put_by_number x (named_from 0 haves)) just ∙ sym (set_named haves 0 b.file b.file have (omega arith) in_haves (unnamed_there slots b.file s there is))

  -- and with its positions, those that its span's entry leads to
  module _ (more : List NamedFile) (adds : all_added written_version (named_from 0 (set haves b.file (Some have))) (span_entry b) ≡ Some more) where
    here : slice_get (set haves b.file (Some have)) b.file ≡ Some (Some have)
    here = get_set haves b.file (Some have) in_haves

    covered_by : (b.length ≡ 0 → ⊥) → (can_cover (named_from 0 (set haves b.file (Some have))) b.file (span_at b.offset b.length) ≡ true) × (map (covering b.file (span_at b.offset b.length)) (named_from 0 (set haves b.file (Some have))) ≡ more)
    covered_by other =
        let fs = named_from 0 (set haves b.file (Some have)) in
        let span = span_at b.offset b.length in
        let entry : all_added written_version (named_from 0 (set haves b.file (Some have))) (span_entry b) ≡ added written_version (named_from 0 (set haves b.file (Some have))) (Covered b.file b.offset b.length) =
        ap (λ (c : Bool). all_added written_version fs (if c then [] else Covered b.file b.offset b.length ∷ [])) (ne_eqb b.length 0 other) ∙ only (added written_version fs (Covered b.file b.offset b.length)) in
        taken_true (can_cover fs b.file span) (map (covering b.file span) fs) more (sym entry ∙ adds)

    room_by : HasRoom b have
    room_by some =
        let c = covered_by (λ none. omega (arith, some, none)) in
        sym (room_in (set haves b.file (Some have)) 0 b.file b.file (span_at b.offset b.length) have (omega arith) here)
        ∙ (can_cover-parts (named_from 0 (set haves b.file (Some have))) b.file (span_at b.offset b.length) c.0).room

    behind_by : more ≡ named_from 0 (set haves b.file (Some (have_landed b have)))
    behind_by = elim (cases_eq b.length 0) [
      | inl none ↦
          let same : Some (named_from 0 (set haves b.file (Some have))) ≡ Some more =
          sym (ap (λ (c : Bool). all_added written_version (named_from 0 (set haves b.file (Some have))) (if c then [] else Covered b.file b.offset b.length ∷ [])) (eq-eqb b.length 0 none)) ∙ adds in
          let is_more : named_from 0 (set haves b.file (Some have)) ≡ more = cc in
          sym is_more ∙ ap (λ (c : Bool). named_from 0 (set haves b.file (Some (if c then have else have_with (span_at b.offset b.length) have)))) (sym (eq-eqb b.length 0 none))
      | inr other ↦
          sym (covered_by other).1
          ∙ sym (set_covered (set haves b.file (Some have)) 0 b.file b.file (span_at b.offset b.length) have (omega arith) here)
          ∙ ap (named_from 0) (set-set haves b.file (Some have) (Some (have_with (span_at b.offset b.length) have)))
          ∙ ap (λ (c : Bool). named_from 0 (set haves b.file (Some (if c then have else have_with (span_at b.offset b.length) have)))) (sym (ne_eqb b.length 0 other))
    ]

  pub lands : AreLawful (plain_files slots) → IsSome (all_added written_version (named_from 0 (map have_in slots)) (block_entries (map known_in slots) (named_from 0 (map have_in slots)) b)) → Lands slots b s
  lands lawful can =
      let fs = named_from 0 haves in
      let split = all_added-append written_version fs (file_entry known fs b.file) (span_entry b) in
      let two = two_steps (all_added written_version fs (file_entry known fs b.file)) (λ (gs : List NamedFile). all_added written_version gs (span_entry b)) (subst IsSome split can) in
      let first : two.0 ≡ named_from 0 (set haves b.file (Some have)) = named_by two.0 two.1 in
      let second = subst (λ (gs : List NamedFile). all_added written_version gs (span_entry b) ≡ Some (two.2).0) first (two.2).1 in
      let all : all_added written_version fs (block_entries known fs b) ≡ Some (two.2).0 =
      split ∙ ap (option_and_then (λ (gs : List NamedFile). all_added written_version gs (span_entry b))) two.1 ∙ (two.2).1 in
      let is = behind_by (two.2).0 second in
      record {
        room = room_by (two.2).0 second;
        behind = ap (files_or fs) all ∙ is;
        view = subst (λ (gs : List NamedFile). is_view gs ≡ true) is (batch-view written_version fs (two.2).0 (block_entries known fs b) lawful.named.view all);
      }

-- ---- what is kept behind it

module _ (slots new : List (Option Slot)) (b : Block) (landed : IsLanded slots b new) where
  abbrev old : Slot
  old = landed.before

  abbrev now : Slot
  now = landed.after

  haves_now : map have_in new ≡ set (map have_in slots) b.file (Some (have_landed b (have_file old.file)))
  haves_now =
      ap (map have_in) landed.set ∙ map-set have_in slots b.file (Some now)
      ∙ ap (λ (o : Option HaveFile). set (map have_in slots) b.file o) (ap (λ (c : Bool). have_by c (have_file now.file)) landed.named ∙ ap Some landed.landed)

  known_landed : (h : HaveFile) → have_file now.file ≡ h → known_in (Some now) ≡ Some (record { path = h.path; size = h.size; stamp = h.stamp })
  known_landed h is = ap (λ (k : HaveFile). Some (record { path = k.path; size = k.size; stamp = k.stamp })) is

  known_same : map known_in new ≡ map known_in slots
  known_same =
      ap (map known_in) landed.set ∙ map-set known_in slots b.file (Some now)
      ∙ ap (λ (o : Option KnownFile). set (map known_in slots) b.file o) (known_landed (have_landed b (have_file old.file)) landed.landed ∙ same (b.length == 0))
      ∙ set_same (map known_in slots) b.file (known_in (Some old)) (slot_known slots b.file old landed.there)
    where
      same : (c : Bool) → Some (record {
        path = (if c then have_file old.file else have_with (span_at b.offset b.length) (have_file old.file)).path;
        size = (if c then have_file old.file else have_with (span_at b.offset b.length) (have_file old.file)).size;
        stamp = (if c then have_file old.file else have_with (span_at b.offset b.length) (have_file old.file)).stamp;
      }) ≡ known_in (Some old)
      same true = refl
      same false = refl

      slot_known : (slots : List (Option Slot)) (n : ℕ) (s : Slot) → slot_at slots n ≡ Some s → slice_get (map known_in slots) n ≡ Some (known_in (Some s))
      slot_known [] n s there = absurd (cc)
      slot_known (o ∷ slots) zero s there = ap (λ (x : Option Slot). Some (known_in x)) there
      slot_known (o ∷ slots) (suc n) s there = slot_known slots n s there

  in_slots : b.file < length (map have_in slots)
  in_slots = omega (arith, length-map slots have_in, within slots b.file old landed.there)

  pub slot_now : slot_at new b.file ≡ Some now
  slot_now = ap (λ (ss : List (Option Slot)). slot_at ss b.file) landed.set ∙ ap slot_by (get_set slots b.file (Some now) (within slots b.file old landed.there))

  -- a sum over the named files grows as it does at the block's
  sum_now : (count : NamedFile → ℕ) → AreBare slots → ((h : HaveFile) → h.spans ≡ [] → count (file_of b.file h) ≡ 0)
      → sum_by count (named_from 0 (map have_in new)) + count (file_of b.file (have_file old.file)) ≡ sum_by count (named_from 0 (map have_in slots)) + count (file_of b.file (have_landed b (have_file old.file)))
  sum_now count bare none = go old.is_named refl
    where
      go : (c : Bool) → old.is_named ≡ c → sum_by count (named_from 0 (map have_in new)) + count (file_of b.file (have_file old.file)) ≡ sum_by count (named_from 0 (map have_in slots)) + count (file_of b.file (have_landed b (have_file old.file)))
      go true is = omega (
        arith,
        ap (λ (hs : List (Option HaveFile)). sum_by count (named_from 0 hs)) haves_now,
        sum_set count (map have_in slots) 0 b.file b.file (have_file old.file) (have_landed b (have_file old.file)) (omega arith) (named_there slots b.file old landed.there is),
      )
      go false is = omega (
        arith,
        ap (λ (hs : List (Option HaveFile)). sum_by count (named_from 0 hs)) haves_now,
        sum_new count (map have_in slots) 0 b.file b.file (have_landed b (have_file old.file)) (omega arith) in_slots (unnamed_there slots b.file old landed.there is),
        none (have_file old.file) (bare b.file old landed.there is),
      )

  length_now : length (named_from 0 (map have_in new)) ≡ length (named_from 0 (map have_in slots)) + (if old.is_named then 0 else 1)
  length_now = ap (λ (hs : List (Option HaveFile)). length (named_from 0 hs)) haves_now ∙ go old.is_named refl
    where
      go : (c : Bool) → old.is_named ≡ c → length (named_from 0 (set (map have_in slots) b.file (Some (have_landed b (have_file old.file))))) ≡ length (named_from 0 (map have_in slots)) + (if c then 0 else 1)
      go true is = omega (arith, length_kept (map have_in slots) 0 b.file (have_file old.file) (have_landed b (have_file old.file)) (named_there slots b.file old landed.there is))
      go false is = omega (arith, length_new (map have_in slots) 0 b.file (have_landed b (have_file old.file)) in_slots (unnamed_there slots b.file old landed.there is))

  total_now : total_of (have_landed b (have_file old.file)).spans ≡ total_of old.file.spans + b.length
  total_now = elim (cases_eq b.length 0) [
    | inl none ↦ omega (arith, none, ap (λ (c : Bool). total_of (if c then have_file old.file else have_with (span_at b.offset b.length) (have_file old.file)).spans) (eq-eqb b.length 0 none))
    | inr other ↦ omega (arith, total-with_span (span_at b.offset b.length) old.file.spans, ap (λ (c : Bool). total_of (if c then have_file old.file else have_with (span_at b.offset b.length) (have_file old.file)).spans) (ne_eqb b.length 0 other))
  ]

  bare_now : AreBare slots → AreBare new
  bare_now bare k t there unnamed = elim (slot_set slots b.file k now t (subst (λ (ss : List (Option Slot)). slot_at ss k ≡ Some t) landed.set there)) [
    | inl same ↦ absurd (both_ways t.is_named unnamed (ap (λ (u : Slot). u.is_named) (sym same) ∙ landed.named))
    | inr was ↦ bare k t was unnamed
  ]

  module _ (number : List ℕ → Option ℕ) (free known named spans bytes : ℕ) (kept : IsKept slots number free known named spans bytes)
      (can : IsSome (all_added written_version (named_from 0 (map have_in slots)) (block_entries (map known_in slots) (named_from 0 (map have_in slots)) b))) where
    block_lands : Lands slots b old
    block_lands = lands slots b old landed.there kept.bare kept.lawful can

    pub landed_view : (self : PlainFiles) → plain_files slots ≡ self → plain_files new ≡ with_landed self b
    landed_view self seen =
        (λ i. record { known = known_same i; named = (ap (named_from 0) haves_now ∙ sym block_lands.behind) i })
        ∙ ap (λ (f : PlainFiles). with_landed f b) seen

    pub landed_lawful : AreLawful (plain_files new)
    landed_lawful = lawful_slots new (subst AreFiles (sym known_same) kept.lawful.known) (ap (λ (hs : List (Option HaveFile)). is_view (named_from 0 hs)) haves_now ∙ block_lands.view)

    pub landed_kept : (more fresh : ℕ) → more + length (spans_by (slot_at slots b.file)) ≡ spans + length (spans_by (slot_at new b.file)) → fresh ≡ named + (if old.is_named then 0 else 1) → IsKept new number free known fresh more (bytes + b.length)
    landed_kept more fresh counts counted = record {
      lawful = landed_lawful;
      bare = bare_now kept.bare;
      numbers = λ path. kept.numbers path ∙ ap (λ (k : List (Option KnownFile)). number_of k path) (sym known_same);
      next = kept.next ∙ ap free_number (sym known_same);
      known_counted = kept.known_counted ∙ ap known_count (sym known_same);
      named_counted = omega (arith, counted, kept.named_counted, length_now);
      spans_counted = omega (
        arith,
        counts,
        kept.spans_counted,
        spans_summed (named_from 0 (map have_in new)),
        spans_summed (named_from 0 (map have_in slots)),
        sum_now spans_in kept.bare (λ h none. ap length none),
        ap (λ (o : Option Slot). length (spans_by o)) landed.there,
        ap (λ (o : Option Slot). length (spans_by o)) slot_now,
        ap (λ (h : HaveFile). length h.spans) landed.landed,
      );
      bytes_counted = omega (
        arith,
        kept.bytes_counted,
        bytes_summed (named_from 0 (map have_in new)),
        bytes_summed (named_from 0 (map have_in slots)),
        sum_now bytes_in kept.bare (λ h none. ap total_of none),
        total_now,
      );
    }
