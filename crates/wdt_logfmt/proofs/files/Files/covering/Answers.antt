use Rattle.std.proofs.Common.{inl, inr, Some, None, ap, sym, ◌∙◌, arith, length}
use Rattle.std.specs.Option.{option_map}
use Rattle.wdt_ranges.specs.Files.{have_file}
use Rattle.wdt_logfmt.specs.Adding.{span_at}
use Rattle.wdt_logfmt.specs.Slots.{files_in}
use Rattle.wdt_logfmt.proofs.Keeping.{answers, covered_from, keeps, kept_size, kept_spans, not_covered, room_false, roomless, short_or_long, too_many_bytes, too_many_spans}
use Rattle.std.proofs.Math.ListN.{length-set}
use Rattle.std.proofs.lemmas.Option.{slice_get_within}
use Rattle.wdt_logfmt.proofs.Slots.{no_room, room_in, slot-none, slot-there}
use Rattle.wdt_logfmt.proofs.Views.{limit_parts, view_parts}
use Rattle.wdt_logfmt.proofs.files.Files.covering.Goals as goal

pub returns-then-length-eq0 : goal.returns-then-length-eq0
returns-then-length-eq0 c = not_covered _ _ c.args.number (span_at c.args.offset c.args.length) c.self.view_is (short_or_long _ c.args.number (span_at c.args.offset c.args.length) (inl c.if-length-eq0.true))

pub returns-then-length-gt-MAX_BLOCK : goal.returns-then-length-gt-MAX_BLOCK
returns-then-length-gt-MAX_BLOCK c = not_covered _ _ c.args.number (span_at c.args.offset c.args.length) c.self.view_is (short_or_long _ c.args.number (span_at c.args.offset c.args.length) (inr c.if-length-gt-MAX_BLOCK.true))

pub returns-in_default : goal.returns-in_default
returns-in_default c =
    not_covered _ _ c.args.number (span_at c.args.offset c.args.length) c.self.view_is
    (roomless _ c.args.number (span_at c.args.offset c.args.length) (no_room _ c.args.number (span_at c.args.offset c.args.length) (slot-none c.self.inside.slots.items c.args.number (sym c.in_default.is ∙ c.take_file.ensures.file))))

pub with_span-requires-clause-size : goal.with_span-requires-clause-size
with_span-requires-clause-size c = kept_size c.self.inside.slots.items _ c.self.inside.spans c.self.inside.bytes c.self.invariant c.args.number c.in-Some.file (slot-there c.self.inside.slots.items c.args.number c.in-Some.file c.in-Some.ensures.file)

pub with_span-requires-clause-within : goal.with_span-requires-clause-within
with_span-requires-clause-within c = kept_spans c.self.inside.slots.items _ c.self.inside.spans c.self.inside.bytes c.self.invariant c.args.number c.in-Some.file (slot-there c.self.inside.slots.items c.args.number c.in-Some.file c.in-Some.ensures.file)

pub with_span-requires-clause-few : goal.with_span-requires-clause-few
with_span-requires-clause-few c = let l = limit_parts (files_in 0 c.self.inside.slots.items) (view_parts (files_in 0 c.self.inside.slots.items) c.self.invariant.view).limits in omega (arith, l.spans, c.self.invariant.span_count)

pub returns-in_default-covered : goal.returns-in_default-covered
returns-in_default-covered c =
    let s = span_at c.args.offset c.args.length in
    let here = slot-there c.self.inside.slots.items c.args.number c.in-Some.file c.in-Some.ensures.file in
    let given = ap (option_map (λ x. have_file x.0)) (sym c.in_default-covered.is) ∙ c.in_ok-covered.ensures.file in
    not_covered _ _ c.args.number s c.self.view_is (roomless _ c.args.number s (room_in c.self.inside.slots.items 0 c.args.number c.args.number s c.in-Some.file (omega arith) here ∙ room_false _ _ given))

pub overflow_add-bytes : goal.overflow_add-bytes
overflow_add-bytes c = let l = limit_parts (files_in 0 c.self.inside.slots.items) (view_parts (files_in 0 c.self.inside.slots.items) c.self.invariant.view).limits in omega (arith, l.bytes, c.self.invariant.byte_count)

pub returns-then-spans : goal.returns-then-spans
returns-then-spans c =
    let s = span_at c.args.offset c.args.length in
    let v = covered_from c.self.inside.slots.items c.self.inside.spans c.args.number c.in-Some.file s _ c.in-Some-covered.file c.in-Some-covered.spans c.in-Some.ensures.file c.in-Some-covered.is c.in_ok-covered.ensures.file c.in_ok-covered.ensures.spans in
    too_many_spans c.self.inside.slots.items _ c.self.inside.spans c.self.inside.bytes c.self.invariant c.args.number c.in-Some.file v.here s c.in-Some-covered.file v.is c.args.self c.self.view_is (omega arith) (omega arith) v.room c.in-Some-covered.spans v.counts c.if-spans.true

pub returns-then-bytes-gt-MAX_TOTAL : goal.returns-then-bytes-gt-MAX_TOTAL
returns-then-bytes-gt-MAX_TOTAL c =
    let s = span_at c.args.offset c.args.length in
    let v = covered_from c.self.inside.slots.items c.self.inside.spans c.args.number c.in-Some.file s _ c.in-Some-covered.file c.in-Some-covered.spans c.in-Some.ensures.file c.in-Some-covered.is c.in_ok-covered.ensures.file c.in_ok-covered.ensures.spans in
    too_many_bytes c.self.inside.slots.items _ c.self.inside.spans c.self.inside.bytes c.self.invariant c.args.number c.in-Some.file v.here s c.in-Some-covered.file v.is c.args.self c.self.view_is (omega arith) (omega arith) v.room c.in-Some-covered.spans v.counts c.if-bytes-gt-MAX_TOTAL.true

pub index_mut-requires : goal.index_mut-requires
index_mut-requires c =
    let there = slice_get_within c.self.inside.slots.items c.args.number (Some c.in-Some.file) (slot-there c.self.inside.slots.items c.args.number c.in-Some.file c.in-Some.ensures.file) in
    let long = ap length c.take_file.ensures.taken ∙ length-set c.self.inside.slots.items c.args.number None in
    omega arith

pub returns : goal.returns
returns c =
    let s = span_at c.args.offset c.args.length in
    let v = covered_from c.self.inside.slots.items c.self.inside.spans c.args.number c.in-Some.file s _ c.in-Some-covered.file c.in-Some-covered.spans c.in-Some.ensures.file c.in-Some-covered.is c.in_ok-covered.ensures.file c.in_ok-covered.ensures.spans in
    answers c.self.inside.slots.items _ c.self.inside.spans c.self.inside.bytes c.self.invariant c.args.number c.in-Some.file v.here s c.in-Some-covered.file v.is c.args.self c.self.view_is (omega arith) (omega arith) v.room c.in-Some-covered.spans v.counts
    c.if-spans.false c.if-bytes-gt-MAX_TOTAL.false c.take_file.new.slots.items c.take_file.ensures.taken

pub invariant_of-self : goal.invariant_of-self
invariant_of-self c =
    let s = span_at c.args.offset c.args.length in
    let v = covered_from c.self.inside.slots.items c.self.inside.spans c.args.number c.in-Some.file s _ c.in-Some-covered.file c.in-Some-covered.spans c.in-Some.ensures.file c.in-Some-covered.is c.in_ok-covered.ensures.file c.in_ok-covered.ensures.spans in
    keeps c.self.inside.slots.items _ c.self.inside.spans c.self.inside.bytes c.self.invariant c.args.number c.in-Some.file v.here s c.in-Some-covered.file v.is c.args.self c.self.view_is (omega arith) (omega arith) v.room c.in-Some-covered.spans v.counts
    c.if-spans.false c.if-bytes-gt-MAX_TOTAL.false c.take_file.new.slots.items c.take_file.ensures.taken
