use Rattle.std.proofs.Common.{List, Option, map, length, sum_by, sym, ap, ◌∙◌, subst, arith}
use Rattle.std.proofs.lemmas.List.{length-map}
use Rattle.wdt_logfmt.specs.declared.view.LogFile.{LogFile}
use Rattle.wdt_logfmt.specs.Beginning.{free_number, number_of}
use Rattle.wdt_logfmt.specs.View.{bytes_in, named_file, named_files, spans_in}
use Rattle.wdt_files.specs.declared.slots.Slot.{Slot}
use Rattle.wdt_files.specs.PlainFiles.{files_of}
use Rattle.wdt_files.specs.Slots.{known_in}
use Rattle.wdt_files.proofs.Kept.{few_slots}
use Rattle.wdt_files.proofs.Numbering.{AreOnce}
use Rattle.wdt_files.proofs.Opened.{lawful_log, log_counts}
use Rattle.wdt_files.proofs.files.Files.of.Goals as goal

pub numbers_of-requires-clause-once : goal.numbers_of-requires-clause-once
numbers_of-requires-clause-once c =
    let seen = c.in_ok-slots.ensures.files ∙ ap (λ (fs : List LogFile). files_of (named_files fs)) c.deref.ensures.value in
    let lawful = lawful_log c.in_ok-slots.slots.items (named_files c.args.view.now.files.items) seen c.requires in
    subst (λ (ss : List (Option Slot)). AreOnce (map known_in ss)) (sym c.deref-2.ensures.value) lawful.known.once

pub numbers_of-requires-clause-few : goal.numbers_of-requires-clause-few
numbers_of-requires-clause-few c =
    let seen = c.in_ok-slots.ensures.files ∙ ap (λ (fs : List LogFile). files_of (named_files fs)) c.deref.ensures.value in
    let lawful = lawful_log c.in_ok-slots.slots.items (named_files c.args.view.now.files.items) seen c.requires in
    omega (arith, few_slots c.in_ok-slots.slots.items lawful, ap length c.deref-2.ensures.value)

pub overflow_cast-count : goal.overflow_cast-count
overflow_cast-count c =
    let seen = c.in_ok-slots.ensures.files ∙ ap (λ (fs : List LogFile). files_of (named_files fs)) c.deref.ensures.value in
    let counts = log_counts c.in_ok-slots.slots.items (named_files c.args.view.now.files.items) seen c.requires in
    omega (arith, counts.few, length-map c.args.view.now.files.items named_file, c.len-count.ensures)

pub next_free-requires-clause-few : goal.next_free-requires-clause-few
next_free-requires-clause-few c =
    let seen = c.in_ok-slots.ensures.files ∙ ap (λ (fs : List LogFile). files_of (named_files fs)) c.deref.ensures.value in
    let lawful = lawful_log c.in_ok-slots.slots.items (named_files c.args.view.now.files.items) seen c.requires in
    omega (arith, few_slots c.in_ok-slots.slots.items lawful, ap length c.deref-3.ensures.value)

pub invariant_of-result : goal.invariant_of-result
invariant_of-result c =
    let seen = c.in_ok-slots.ensures.files ∙ ap (λ (fs : List LogFile). files_of (named_files fs)) c.deref.ensures.value in
    let counts = log_counts c.in_ok-slots.slots.items (named_files c.args.view.now.files.items) seen c.requires in
    let long = length-map c.args.view.now.files.items named_file in
    record {
      lawful = lawful_log c.in_ok-slots.slots.items (named_files c.args.view.now.files.items) seen c.requires;
      bare = c.in_ok-slots.ensures.bare;
      numbers = λ path. c.in_ok-numbers.ensures path ∙ ap (λ (ss : List (Option Slot)). number_of (map known_in ss) path) c.deref-2.ensures.value;
      next = c.next_free.ensures ∙ ap (λ (ss : List (Option Slot)). free_number (map known_in ss)) c.deref-3.ensures.value;
      known_counted = omega (arith, counts.known, long, c.len-count.ensures);
      named_counted = omega (arith, counts.named, long, c.len-count.ensures);
      spans_counted = c.spans_of.ensures ∙ ap (λ (fs : List LogFile). sum_by spans_in (named_files fs)) c.deref-4.ensures.value ∙ sym counts.spans;
      bytes_counted = c.bytes_of.ensures ∙ ap (λ (fs : List LogFile). sum_by bytes_in (named_files fs)) c.deref-5.ensures.value ∙ sym counts.bytes;
    }

pub returns-clause-sound : goal.returns-clause-sound
returns-clause-sound c =
    let seen = c.in_ok-slots.ensures.files ∙ ap (λ (fs : List LogFile). files_of (named_files fs)) c.deref.ensures.value in
    lawful_log c.in_ok-slots.slots.items (named_files c.args.view.now.files.items) seen c.requires
