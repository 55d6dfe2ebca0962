-- What is kept stays within its limits.
use Rattle.std.proofs.Common.{◌≡◌, ℕ, ◌+◌, ◌<◌, ◌≤◌, Bool, true, false, nat_le, List, [], length, map, sum_by, Option, Some, None, refl, sym, ap, ◌∙◌, subst, arith}
use Rattle.std.specs.Prelude.{if◌then◌else◌}
use Rattle.std.specs.Str.{bytes_eq}
use Rattle.std.proofs.lemmas.Bool.{and_parts, leb-true}
use Rattle.std.proofs.lemmas.List.{length-map}
use Rattle.wdt_units.specs.declared.limits.TheConstants.{MAX_FILES, MAX_FILE_SIZE, MAX_SPANS, MAX_TOTAL}
use Rattle.wdt_units.specs.Path.{is_lawful, is_reserved}
use Rattle.wdt_ranges.specs.Files.{have_file}
use Rattle.wdt_ranges.specs.Spans.{are_apart}
use Rattle.wdt_logfmt.specs.Beginning.{KnownFile, free_number, known_count, number_of}
use Rattle.wdt_logfmt.specs.Marks.{marked_of}
use Rattle.wdt_logfmt.specs.Marks.{bytes_in as marked_bytes, spans_in as marked_spans}
use Rattle.wdt_logfmt.specs.View.{NamedFile, bytes_in, is_file, is_view, spans_in}
use Rattle.wdt_logfmt.proofs.ForCallers.{file_parts, new_slot, view_parts}
use Rattle.wdt_files.specs.declared.slots.Slot.{Slot}
use Rattle.wdt_files.specs.PlainFiles.{AreFiles, AreLawful, PlainFiles, there_at, with_file}
use Rattle.wdt_files.specs.Slots.{AreBare, IsKept, filled, have_in, known_in, named_from, plain_files, slot_at, spans_by}
use Rattle.wdt_files.proofs.InSlots.{bare_filled, known_as, known_filled, known_slot, named_filled, named_there, spans_slot}
use Rattle.wdt_files.proofs.Known.{files_with, free_grows, free_within, number_with}
use Rattle.wdt_files.proofs.Marks.{bytes_summed, spans_summed}
use Rattle.wdt_files.proofs.Named.{each_at, file_of, length_named, part_of}

module _ (slots : List (Option Slot)) (lawful : AreLawful (plain_files slots)) where
  abbrev named_files : List NamedFile
  named_files = named_from 0 (map have_in slots)

  pub few_slots : length slots ≤ MAX_FILES
  few_slots = omega (arith, lawful.known.few, length-map slots known_in)

  pub few_spans : sum_by spans_in (named_from 0 (map have_in slots)) ≤ MAX_SPANS
  few_spans =
      let p = and_parts (nat_le (sum_by spans_in named_files) MAX_SPANS) (nat_le (sum_by bytes_in named_files) MAX_TOTAL) (view_parts named_files lawful.named.view).limits in
      leb-true (sum_by spans_in named_files) MAX_SPANS p.0

  pub few_bytes : sum_by bytes_in (named_from 0 (map have_in slots)) ≤ MAX_TOTAL
  few_bytes =
      let p = and_parts (nat_le (sum_by spans_in named_files) MAX_SPANS) (nat_le (sum_by bytes_in named_files) MAX_TOTAL) (view_parts named_files lawful.named.view).limits in
      leb-true (sum_by bytes_in named_files) MAX_TOTAL p.1

  -- a slot's spans are a set of positions
  pub apart_slot : AreBare slots → (n : ℕ) (s : Slot) → slot_at slots n ≡ Some s → are_apart s.file.spans ≡ true
  apart_slot bare n s there = go s.is_named refl
    where
      go : (b : Bool) → s.is_named ≡ b → are_apart s.file.spans ≡ true
      go true is = (file_parts (file_of n (have_file s.file)) (each_at is_file (map have_in slots) 0 n n (have_file s.file) (omega arith) (named_there slots n s there is) (view_parts named_files lawful.named.view).each)).apart
      go false is = ap are_apart (bare n s there is)

  -- they are among all
  pub slot_spans : AreBare slots → (n : ℕ) (s : Slot) → slot_at slots n ≡ Some s → length s.file.spans ≤ sum_by spans_in (named_from 0 (map have_in slots))
  slot_spans bare n s there = go s.is_named refl
    where
      go : (b : Bool) → s.is_named ≡ b → length s.file.spans ≤ sum_by spans_in (named_from 0 (map have_in slots))
      go true is = part_of spans_in (map have_in slots) 0 n n (have_file s.file) (omega arith) (named_there slots n s there is)
      go false is = omega (arith, ap length (bare n s there is))

  pub slot_size : (n : ℕ) (s : Slot) → slot_at slots n ≡ Some s → s.file.size ≤ MAX_FILE_SIZE
  slot_size n s there = lawful.known.small n (record { path = s.file.path; size = s.file.size; stamp = s.file.stamp }) (known_slot slots n ∙ ap known_in there)

module _ (slots : List (Option Slot)) (number : List ℕ → Option ℕ) (free known named spans bytes : ℕ) (kept : IsKept slots number free known named spans bytes) where
  pub free_few : free ≤ MAX_FILES
  free_few = omega (arith, kept.next, free_within (map known_in slots), kept.lawful.known.few)

  pub named_few : named ≤ MAX_FILES
  named_few = omega (arith, kept.named_counted, length_named (map have_in slots) 0, length-map slots have_in, few_slots slots kept.lawful)

  pub spans_few : spans ≤ MAX_SPANS
  spans_few = omega (arith, kept.spans_counted, spans_summed (named_from 0 (map have_in slots)), few_spans slots kept.lawful)

  pub bytes_few : bytes ≤ MAX_TOTAL
  bytes_few = omega (arith, kept.bytes_counted, bytes_summed (named_from 0 (map have_in slots)), few_bytes slots kept.lawful)

  -- what is there of the file of a number
  pub there_in : (self : PlainFiles) (n : ℕ) → plain_files slots ≡ self → there_at self n ≡ spans_by (slot_at slots n)
  there_in self n seen = ap (λ (f : PlainFiles). there_at f n) (sym seen) ∙ spans_slot slots n kept.bare

-- slots whose files are as files are, and whose named files are a view
pub lawful_slots : (slots : List (Option Slot)) → AreFiles (map known_in slots) → is_view (named_from 0 (map have_in slots)) ≡ true → AreLawful (plain_files slots)
lawful_slots slots files view = record { known = files; named = record { view = view; known_as = known_as slots } }

-- ---- one file more

module _ (slots : List (Option Slot)) (number : List ℕ → Option ℕ) (free known named spans bytes : ℕ) (kept : IsKept slots number free known named spans bytes) (s : Slot) (unnamed : s.is_named ≡ false) (bare : s.file.spans ≡ []) where
  named_same : named_from 0 (map have_in (filled slots s)) ≡ named_from 0 (map have_in slots)
  named_same = named_filled slots 0 s unnamed

  pub filled_view : (self : PlainFiles) → plain_files slots ≡ self → plain_files (filled slots s) ≡ with_file self (record { path = s.file.path; size = s.file.size; stamp = s.file.stamp })
  filled_view self seen = (λ i. record { known = known_filled slots s i; named = named_same i }) ∙ ap (λ (f : PlainFiles). with_file f (record { path = s.file.path; size = s.file.size; stamp = s.file.stamp })) seen

  pub filled_free : free + 1 ≤ free_number (map known_in (filled slots s))
  filled_free = omega (arith, kept.next, free_grows (map known_in slots) (record { path = s.file.path; size = s.file.size; stamp = s.file.stamp }), ap free_number (known_filled slots s))

  module _ (new : number_of (map known_in slots) s.file.path ≡ None) (lawful : is_lawful s.file.path ≡ true) (own : is_reserved s.file.path ≡ false) (small : s.file.size ≤ MAX_FILE_SIZE) (few : known_count (map known_in slots) < MAX_FILES) where
    pub filled_lawful : AreLawful (plain_files (filled slots s))
    filled_lawful = lawful_slots (filled slots s)
        (subst AreFiles (sym (known_filled slots s)) (files_with (map known_in slots) (record { path = s.file.path; size = s.file.size; stamp = s.file.stamp }) kept.lawful.known new lawful own small few))
        (ap is_view named_same ∙ kept.lawful.named.view)

    pub filled_kept : (more : List ℕ → Option ℕ) (next : ℕ) → ((path : List ℕ) → more path ≡ (if bytes_eq s.file.path path then Some free else number path)) → next ≡ free_number (map known_in (filled slots s))
        → IsKept (filled slots s) more next (known + 1) named spans bytes
    filled_kept more next sets is = record {
      lawful = filled_lawful;
      bare = bare_filled slots s bare kept.bare;
      numbers = λ path. sets path
          ∙ (λ i. if bytes_eq s.file.path path then Some (kept.next i) else kept.numbers path i)
          ∙ sym (ap (λ (k : List (Option KnownFile)). number_of k path) (known_filled slots s) ∙ number_with 0 (map known_in slots) (record { path = s.file.path; size = s.file.size; stamp = s.file.stamp }) path new);
      next = is;
      known_counted = omega (arith, kept.known_counted, ap known_count (known_filled slots s), (new_slot (map known_in slots) (record { path = s.file.path; size = s.file.size; stamp = s.file.stamp })).count);
      named_counted = kept.named_counted ∙ sym (ap length named_same);
      spans_counted = kept.spans_counted ∙ sym (ap (λ (fs : List NamedFile). marked_spans (map marked_of fs)) named_same);
      bytes_counted = kept.bytes_counted ∙ sym (ap (λ (fs : List NamedFile). marked_bytes (map marked_of fs)) named_same);
    }
