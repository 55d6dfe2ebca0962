use Rattle.std.proofs.Common.{◌≡◌, ◌∙◌, sym, ap, length, map, refl, true}
use Rattle.std.specs.Prelude.{not}
use Rattle.wdt_tree.specs.Shown.{shown}
use Rattle.wdt_units.specs.Schedule.{is_due}
use Rattle.wdt_source.specs.Memory.{schedule_in}
use Rattle.wdt_source.specs.Order.{tree_of}
use Rattle.wdt_source.specs.Place.{file_at, IsPart}
use Rattle.wdt_source.specs.Told.{is_within}
use Rattle.wdt_source.proofs.Numbers.{fails_cant, fails_due, fails_from, fails_not, failed_cause, failed_number}
use Rattle.wdt_source.proofs.Places.{a_slip, no_slip, part_within, read_from, slip_from, told_at}
use Rattle.wdt_source.proofs.memory.MemSourceSource.read_exact_at.Goals as goal

-- a read that isn't within its file

pub returns-in_default-clause-cause : goal.returns-in_default-clause-cause
returns-in_default-clause-cause c = failed_cause c.fail.result _ _ c.fail.ensures.failed c.fail.ensures.tally.faults

pub returns-in_default-clause-slips : goal.returns-in_default-clause-slips
returns-in_default-clause-slips c =
    let files = map shown c.args.self.now.files.items in
    let place = c.place_of-place.result in
    slip_from (tree_of files) c.args.path.now (file_at files place) _ _ _ _ _ (told_at files c.args.path.now place c.place_of-place.ensures)
    (a_slip c.fail.result c.in_default.ensures.none (c.fail.ensures.tally.slipped.rose refl) c.fail.ensures.failed)

pub returns-in_default-clause-number : goal.returns-in_default-clause-number
returns-in_default-clause-number c = failed_number (Unit {0}) c.fail.result _ _ c.fail.ensures.failed c.fail.ensures.tally.schedule

pub returns-in_default-clause-fails : goal.returns-in_default-clause-fails
returns-in_default-clause-fails c =
    let files = map shown c.args.self.now.files.items in
    let place = c.place_of-place.result in
    fails_from (tree_of files) c.args.path.now (file_at files place) _ _ _ _ (told_at files c.args.path.now place c.place_of-place.ensures)
    (fails_cant _ (is_due (schedule_in c.args.self.now)) c.fail.result (ap not c.in_default.ensures.none) c.fail.ensures.failed)

-- one that fails by its number

pub returns-then-is_due-clause-cause : goal.returns-then-is_due-clause-cause
returns-then-is_due-clause-cause c = failed_cause c.fail-then-is_due.result _ _ c.fail-then-is_due.ensures.failed c.fail-then-is_due.ensures.tally.faults

pub returns-then-is_due-clause-slips : goal.returns-then-is_due-clause-slips
returns-then-is_due-clause-slips c =
    let files = map shown c.args.self.now.files.items in
    let place = c.place_of-place.result in
    slip_from (tree_of files) c.args.path.now (file_at files place) _ _ _ _ _ (told_at files c.args.path.now place c.place_of-place.ensures)
    (no_slip _ (rw (sym (c.in-Some.ensures.some.0)) (part_within (file_at files place) c.args.offset c.in-Some.bytes.now c.in-Some.ensures.some.1)) (c.fail-then-is_due.ensures.tally.slipped.stays refl))

pub returns-then-is_due-clause-number : goal.returns-then-is_due-clause-number
returns-then-is_due-clause-number c = failed_number (Unit {0}) c.fail-then-is_due.result _ _ c.fail-then-is_due.ensures.failed c.fail-then-is_due.ensures.tally.schedule

pub returns-then-is_due-clause-fails : goal.returns-then-is_due-clause-fails
returns-then-is_due-clause-fails c =
    let files = map shown c.args.self.now.files.items in
    let place = c.place_of-place.result in
    let within : is_within (file_at files place) c.args.offset (length c.args.into.now) ≡ true = rw (sym (c.in-Some.ensures.some.0)) (part_within (file_at files place) c.args.offset c.in-Some.bytes.now c.in-Some.ensures.some.1) in
    fails_from (tree_of files) c.args.path.now (file_at files place) _ _ _ _ (told_at files c.args.path.now place c.place_of-place.ensures)
    (fails_due _ (is_due (schedule_in c.args.self.now)) c.fail-then-is_due.result (ap not within) (sym c.is_due.ensures ∙ c.if-is_due.true) c.fail-then-is_due.ensures.failed)

-- one that succeeds

pub returns-clause-bytes : goal.returns-clause-bytes
returns-clause-bytes c =
    let files = map shown c.args.self.now.files.items in
    let place = c.place_of-place.result in
    let part : IsPart (file_at files place) c.args.offset c.copy_from_slice.new.self = rw c.copy_from_slice.ensures.after (c.in-Some.ensures.some.1) in
    read_from (tree_of files) c.args.path.now (file_at files place) c.args.offset c.copy_from_slice.new.self (told_at files c.args.path.now place c.place_of-place.ensures) part

pub returns-clause-slips : goal.returns-clause-slips
returns-clause-slips c =
    let files = map shown c.args.self.now.files.items in
    let place = c.place_of-place.result in
    slip_from (tree_of files) c.args.path.now (file_at files place) _ _ _ _ _ (told_at files c.args.path.now place c.place_of-place.ensures)
    (no_slip _ (rw (ap length c.copy_from_slice.ensures.after) (part_within (file_at files place) c.args.offset c.in-Some.bytes.now c.in-Some.ensures.some.1)) c.end.ensures.slips)

pub returns-clause-fails : goal.returns-clause-fails
returns-clause-fails c =
    let files = map shown c.args.self.now.files.items in
    let place = c.place_of-place.result in
    let within : is_within (file_at files place) c.args.offset (length c.copy_from_slice.new.self) ≡ true = rw (ap length c.copy_from_slice.ensures.after) (part_within (file_at files place) c.args.offset c.in-Some.bytes.now c.in-Some.ensures.some.1) in
    fails_from (tree_of files) c.args.path.now (file_at files place) _ _ _ _ (told_at files c.args.path.now place c.place_of-place.ensures)
    (fails_not _ (is_due (schedule_in c.args.self.now)) _ (ap not within) (sym c.is_due.ensures ∙ c.if-is_due.false))
