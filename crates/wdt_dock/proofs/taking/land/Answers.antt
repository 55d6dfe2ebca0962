use Rattle.std.proofs.Common.{◌∙◌, true, false, length, refl, sym, subst}
use Rattle.wdt_depot.specs.Moments.{IfTold}
use Rattle.wdt_depot.specs.Programs.{drive_of}
use Rattle.wdt_receiver_fsm.specs.PlainReceiver.{PlainReceiver}
use Rattle.wdt_dock.specs.Desk.{plain_of}
use Rattle.wdt_dock.specs.DockGood.{DockGood}
use Rattle.wdt_dock.proofs.Choices.{counts_lost, counts_none, disk_only, is_disk, not_disk, not_refused, same_stays}
use Rattle.wdt_dock.proofs.Goodness.{files_behind_are, told_after, told_lost}
use Rattle.wdt_dock.proofs.Keeping.{not_lost}
use Rattle.wdt_dock.proofs.LandRow.{back, back_is, begun, block, booked_so, books_now, calls_are, desk_on, fails_drops, fails_is, fails_lost, files_now, full_is, gives, known_now, logs_drops, logs_is, logs_loses, part, parts_now, reads_drops, reads_is, reads_loses, same_plain, short_is, there, unlogged_now}
use Rattle.wdt_dock.proofs.Landings.{desk_landed, good_later, good_now, land_ran, land_turns, log_ran, log_turns, lose_ran, lose_turns, whole_is_good}
use Rattle.wdt_dock.proofs.Waiting.{counts_same}
use Rattle.wdt_dock.specs.Sparing.{IsBeside}
use Rattle.wdt_dock.proofs.Sparing.{reads_spare, spares_same}
use Rattle.wdt_dock.proofs.taking.land.Goals as goal

pub unpiece-requires-clause-written : goal.unpiece-requires-clause-written
unpiece-requires-clause-written g c =
    let e = c.args.end.now in
    let log = c.args.log.now in
    let w = c.args.writer.now in
    let l = c.args.lane in
    let n = length c.args.bytes.now in
    gives e log w l n c.requires.lane c.requires.desk c.requires.begun c.land.new.self c.in_default.ensures.unchanged (short_is e log w l n c.requires.lane c.requires.desk c.requires.begun c.requires.short)

pub returns-in_default-clause-desk : goal.returns-in_default-clause-desk
returns-in_default-clause-desk g c =
    let e = c.args.end.now in
    let log = c.args.log.now in
    let w = c.args.writer.now in
    let l = c.args.lane in
    let n = length c.args.bytes.now in
    back e log w l n c.requires.lane c.requires.desk c.requires.begun c.land.new.self c.unpiece.new.self c.in_default.ensures.unchanged c.unpiece.ensures (short_is e log w l n c.requires.lane c.requires.desk c.requires.begun c.requires.short)

pub returns-then-not-is_full-clause-turns : goal.returns-then-not-is_full-clause-turns
returns-then-not-is_full-clause-turns g c =
    let e = c.args.end.now in
    let log = c.args.log.now in
    let w = c.args.writer.now in
    let l = c.args.lane in
    let n = length c.args.bytes.now in
    let w1 = c.land.new.self in
    let lands = c.in-Ok.ensures.landed in
    let e1 = c.land_block.new.self in
    let stood = c.land_block.ensures.plain in
    let e2 = c.read_on.new.self in
    let act = c.read_on.result in
    let said = c.read_on.ensures in
    land_turns (plain_of e log w) l c.args.bytes.now (block e log w l n c.requires.lane c.requires.desk c.requires.begun) (begun e log w l n c.requires.lane c.requires.desk c.requires.begun) (act, plain_of e2 log w1) _ (full_is e log w l n c.requires.lane c.requires.desk c.requires.begun w1 lands false c.is_full.result (c.is_full.ensures log) c.if-not-is_full.true) (reads_is e log w l n c.requires.lane c.requires.desk c.requires.begun w1 lands e1 stood e2 act said)

pub returns-then-not-is_full-clause-exact : goal.returns-then-not-is_full-clause-exact
returns-then-not-is_full-clause-exact g c = λ quiet.
    let e = c.args.end.now in
    let log = c.args.log.now in
    let w = c.args.writer.now in
    let l = c.args.lane in
    let n = length c.args.bytes.now in
    let w1 = c.land.new.self in
    let lands = c.in-Ok.ensures.landed in
    let e1 = c.land_block.new.self in
    let stood = c.land_block.ensures.plain in
    let e2 = c.read_on.new.self in
    let act = c.read_on.result in
    let said = c.read_on.ensures in
    land_ran (plain_of e log w) l c.args.bytes.now (block e log w l n c.requires.lane c.requires.desk c.requires.begun) (begun e log w l n c.requires.lane c.requires.desk c.requires.begun) (act, plain_of e2 log w1) (drive_of (g.D.Depot.state c.args.depot.now)) (full_is e log w l n c.requires.lane c.requires.desk c.requires.begun w1 lands false c.is_full.result (c.is_full.ensures log) c.if-not-is_full.true) (reads_is e log w l n c.requires.lane c.requires.desk c.requires.begun w1 lands e1 stood e2 act said)

pub returns-then-not-is_full-clause-desk : goal.returns-then-not-is_full-clause-desk
returns-then-not-is_full-clause-desk g c =
    let e = c.args.end.now in
    let log = c.args.log.now in
    let w = c.args.writer.now in
    let l = c.args.lane in
    let n = length c.args.bytes.now in
    let w1 = c.land.new.self in
    let lands = c.in-Ok.ensures.landed in
    let e1 = c.land_block.new.self in
    let stood = c.land_block.ensures.plain in
    let e2 = c.read_on.new.self in
    let act = c.read_on.result in
    let said = c.read_on.ensures in
    desk_landed e e2 log log w w1 l.0 n c.requires.desk (books_now e log w l n c.requires.lane c.requires.desk c.requires.begun w1 lands) (parts_now e log w l n c.requires.lane c.requires.desk c.requires.begun w1 lands) (reads_drops e log w l n c.requires.lane c.requires.desk c.requires.begun w1 lands e1 stood e2 act said)

pub returns-then-not-is_full-clause-good : goal.returns-then-not-is_full-clause-good
returns-then-not-is_full-clause-good g c = λ T whole.
    let e = c.args.end.now in
    let log = c.args.log.now in
    let w = c.args.writer.now in
    let l = c.args.lane in
    let n = length c.args.bytes.now in
    let w1 = c.land.new.self in
    let lands = c.in-Ok.ensures.landed in
    let e1 = c.land_block.new.self in
    let stood = c.land_block.ensures.plain in
    let e2 = c.read_on.new.self in
    let act = c.read_on.result in
    let said = c.read_on.ensures in
    let sound = not_lost e.answer c.requires.sound in
    good_now e log w l c.requires.desk.books (part e log w l n c.requires.lane c.requires.desk c.requires.begun) (there e log w l n c.requires.lane c.requires.desk c.requires.begun) (begun e log w l n c.requires.lane c.requires.desk c.requires.begun) T (plain_of e2 log w1) (g.D.Depot.state c.args.depot.now).told sound (reads_drops e log w l n c.requires.lane c.requires.desk c.requires.begun w1 lands e1 stood e2 act said) (known_now e log w l n c.requires.lane c.requires.desk c.requires.begun w1 lands) (files_behind_are e2 log w1 (books_now e log w l n c.requires.lane c.requires.desk c.requires.begun w1 lands) ∙ files_now e log w l n c.requires.lane c.requires.desk c.requires.begun w1 lands) whole

pub returns-then-not-is_full-clause-counts : goal.returns-then-not-is_full-clause-counts
returns-then-not-is_full-clause-counts g c =
    let e = c.args.end.now in
    let log = c.args.log.now in
    let w = c.args.writer.now in
    let l = c.args.lane in
    let n = length c.args.bytes.now in
    let w1 = c.land.new.self in
    let lands = c.in-Ok.ensures.landed in
    let e1 = c.land_block.new.self in
    let stood = c.land_block.ensures.plain in
    let e2 = c.read_on.new.self in
    let act = c.read_on.result in
    let said = c.read_on.ensures in
    counts_same _ (g.D.Depot.state c.args.depot.now) (λ lost. reads_loses e log w l n c.requires.lane c.requires.desk c.requires.begun w1 lands e1 stood e2 act said lost.0 lost.1)

pub log_all-requires-clause-books : goal.log_all-requires-clause-books
log_all-requires-clause-books g c =
    let e = c.args.end.now in
    let log = c.args.log.now in
    let w = c.args.writer.now in
    let l = c.args.lane in
    let n = length c.args.bytes.now in
    let w1 = c.land.new.self in
    let lands = c.in-Ok.ensures.landed in
    books_now e log w l n c.requires.lane c.requires.desk c.requires.begun w1 lands

pub unpiece-requires-in-Err-NoMemory-clause-written : goal.unpiece-requires-in-Err-NoMemory-clause-written
unpiece-requires-in-Err-NoMemory-clause-written g c =
    let e = c.args.end.now in
    let log = c.args.log.now in
    let w = c.args.writer.now in
    let l = c.args.lane in
    let n = length c.args.bytes.now in
    let w1 = c.land.new.self in
    let lands = c.in-Ok.ensures.landed in
    let log2 = c.log_all.new.log in
    let short = short_is e log w l n c.requires.lane c.requires.desk c.requires.begun c.requires.short in
    let back_so = back_is e log w l n c.requires.lane c.requires.desk c.requires.begun w1 lands c.log_all.new.writer c.unland.new.self c.in-Err-NoMemory.ensures.kept c.unland.ensures in
    gives e log w l n c.requires.lane c.requires.desk c.requires.begun c.unland.new.self back_so short

pub returns-in-Ok-log_all-clause-turns : goal.returns-in-Ok-log_all-clause-turns
returns-in-Ok-log_all-clause-turns g c =
    let e = c.args.end.now in
    let log = c.args.log.now in
    let w = c.args.writer.now in
    let l = c.args.lane in
    let n = length c.args.bytes.now in
    let w1 = c.land.new.self in
    let lands = c.in-Ok.ensures.landed in
    let e1 = c.land_block-in-Ok-log_all.new.self in
    let stood = c.land_block-in-Ok-log_all.ensures.plain in
    let e2 = c.read_on-in-Ok-log_all.new.self in
    let act = c.read_on-in-Ok-log_all.result in
    let said = c.read_on-in-Ok-log_all.ensures in
    let log2 = c.log_all.new.log in
    let w2 = c.log_all.new.writer in
    log_turns (plain_of e log w) l c.args.bytes.now (block e log w l n c.requires.lane c.requires.desk c.requires.begun) (begun e log w l n c.requires.lane c.requires.desk c.requires.begun) (act, plain_of e2 log2 w2) _ (full_is e log w l n c.requires.lane c.requires.desk c.requires.begun w1 lands true c.is_full.result (c.is_full.ensures log) c.if-not-is_full.false) (logs_is e log w l n c.requires.lane c.requires.desk c.requires.begun w1 lands e1 stood e2 act said log2 w2 c.in-Ok-log_all.ensures.plain)

pub returns-in-Ok-log_all-clause-exact : goal.returns-in-Ok-log_all-clause-exact
returns-in-Ok-log_all-clause-exact g c = λ quiet.
    let e = c.args.end.now in
    let log = c.args.log.now in
    let w = c.args.writer.now in
    let l = c.args.lane in
    let n = length c.args.bytes.now in
    let w1 = c.land.new.self in
    let lands = c.in-Ok.ensures.landed in
    let e1 = c.land_block-in-Ok-log_all.new.self in
    let stood = c.land_block-in-Ok-log_all.ensures.plain in
    let e2 = c.read_on-in-Ok-log_all.new.self in
    let act = c.read_on-in-Ok-log_all.result in
    let said = c.read_on-in-Ok-log_all.ensures in
    let log2 = c.log_all.new.log in
    let w2 = c.log_all.new.writer in
    log_ran (plain_of e log w) l c.args.bytes.now (block e log w l n c.requires.lane c.requires.desk c.requires.begun) (begun e log w l n c.requires.lane c.requires.desk c.requires.begun) (act, plain_of e2 log2 w2) (drive_of (g.D.Depot.state c.args.depot.now)) (drive_of (g.D.Depot.state c.log_all.new.depot)) (full_is e log w l n c.requires.lane c.requires.desk c.requires.begun w1 lands true c.is_full.result (c.is_full.ensures log) c.if-not-is_full.false) (calls_are e log w l n c.requires.lane c.requires.desk c.requires.begun w1 lands e1 stood true _ _ (c.in-Ok-log_all.ensures.exact e1 (not_refused c.in-Ok-log_all.field-0) quiet)) (logs_is e log w l n c.requires.lane c.requires.desk c.requires.begun w1 lands e1 stood e2 act said log2 w2 c.in-Ok-log_all.ensures.plain)

pub returns-in-Ok-log_all-clause-desk : goal.returns-in-Ok-log_all-clause-desk
returns-in-Ok-log_all-clause-desk g c =
    let e = c.args.end.now in
    let log = c.args.log.now in
    let w = c.args.writer.now in
    let l = c.args.lane in
    let n = length c.args.bytes.now in
    let w1 = c.land.new.self in
    let lands = c.in-Ok.ensures.landed in
    let e1 = c.land_block-in-Ok-log_all.new.self in
    let stood = c.land_block-in-Ok-log_all.ensures.plain in
    let e2 = c.read_on-in-Ok-log_all.new.self in
    let act = c.read_on-in-Ok-log_all.result in
    let said = c.read_on-in-Ok-log_all.ensures in
    let log2 = c.log_all.new.log in
    let w2 = c.log_all.new.writer in
    desk_landed e e2 log log2 w w2 l.0 n c.requires.desk c.log_all.ensures.books (c.log_all.ensures.parts ∙ parts_now e log w l n c.requires.lane c.requires.desk c.requires.begun w1 lands) (logs_drops e log w l n c.requires.lane c.requires.desk c.requires.begun w1 lands e1 stood e2 act said log2 w2 c.in-Ok-log_all.ensures.plain)

pub returns-in-Ok-log_all-clause-images : goal.returns-in-Ok-log_all-clause-images
returns-in-Ok-log_all-clause-images g c = λ T whole.
    let e = c.args.end.now in
    let log = c.args.log.now in
    let w = c.args.writer.now in
    let l = c.args.lane in
    let n = length c.args.bytes.now in
    let w1 = c.land.new.self in
    let lands = c.in-Ok.ensures.landed in
    let sound = not_lost e.answer c.requires.sound in
    c.log_all.ensures.images T (booked_so e log w l n c.requires.lane c.requires.desk c.requires.begun w1 lands T (g.D.Depot.state c.args.depot.now) sound (c.requires.rest.rests sound) whole)

pub returns-in-Ok-log_all-clause-good : goal.returns-in-Ok-log_all-clause-good
returns-in-Ok-log_all-clause-good g c = λ T whole.
    let e = c.args.end.now in
    let log = c.args.log.now in
    let w = c.args.writer.now in
    let l = c.args.lane in
    let n = length c.args.bytes.now in
    let w1 = c.land.new.self in
    let lands = c.in-Ok.ensures.landed in
    let e1 = c.land_block-in-Ok-log_all.new.self in
    let stood = c.land_block-in-Ok-log_all.ensures.plain in
    let e2 = c.read_on-in-Ok-log_all.new.self in
    let act = c.read_on-in-Ok-log_all.result in
    let said = c.read_on-in-Ok-log_all.ensures in
    let log2 = c.log_all.new.log in
    let w2 = c.log_all.new.writer in
    let sound = not_lost e.answer c.requires.sound in
    good_later e log w l c.requires.desk.books (part e log w l n c.requires.lane c.requires.desk c.requires.begun) (there e log w l n c.requires.lane c.requires.desk c.requires.begun) (begun e log w l n c.requires.lane c.requires.desk c.requires.begun) T e2 log2 w2 (g.D.Depot.state c.args.depot.now).told (g.D.Depot.state c.log_all.new.depot).told sound (desk_landed e e2 log log2 w w2 l.0 n c.requires.desk c.log_all.ensures.books (c.log_all.ensures.parts ∙ parts_now e log w l n c.requires.lane c.requires.desk c.requires.begun w1 lands) (logs_drops e log w l n c.requires.lane c.requires.desk c.requires.begun w1 lands e1 stood e2 act said log2 w2 c.in-Ok-log_all.ensures.plain)) (logs_drops e log w l n c.requires.lane c.requires.desk c.requires.begun w1 lands e1 stood e2 act said log2 w2 c.in-Ok-log_all.ensures.plain) (c.log_all.ensures.known ∙ known_now e log w l n c.requires.lane c.requires.desk c.requires.begun w1 lands) (c.log_all.ensures.files ∙ files_now e log w l n c.requires.lane c.requires.desk c.requires.begun w1 lands) c.log_all.ensures.reads (c.log_all.ensures.images T (booked_so e log w l n c.requires.lane c.requires.desk c.requires.begun w1 lands T (g.D.Depot.state c.args.depot.now) sound (c.requires.rest.rests sound) whole)) whole

pub returns-in-Ok-log_all-clause-counts : goal.returns-in-Ok-log_all-clause-counts
returns-in-Ok-log_all-clause-counts g c =
    let e = c.args.end.now in
    let log = c.args.log.now in
    let w = c.args.writer.now in
    let l = c.args.lane in
    let n = length c.args.bytes.now in
    let w1 = c.land.new.self in
    let lands = c.in-Ok.ensures.landed in
    let e1 = c.land_block-in-Ok-log_all.new.self in
    let stood = c.land_block-in-Ok-log_all.ensures.plain in
    let e2 = c.read_on-in-Ok-log_all.new.self in
    let act = c.read_on-in-Ok-log_all.result in
    let said = c.read_on-in-Ok-log_all.ensures in
    let log2 = c.log_all.new.log in
    let w2 = c.log_all.new.writer in
    counts_none _ _ (g.D.Depot.state c.args.depot.now) (g.D.Depot.state c.log_all.new.depot) (not_disk c.in-Ok-log_all.field-0) (λ lost. logs_loses e log w l n c.requires.lane c.requires.desk c.requires.begun w1 lands e1 stood e2 act said log2 w2 c.in-Ok-log_all.ensures.plain lost.0 lost.1) c.in-Ok-log_all.ensures.counts

pub returns-in-Err-Disk-clause-turns : goal.returns-in-Err-Disk-clause-turns
returns-in-Err-Disk-clause-turns g c =
    let e = c.args.end.now in
    let log = c.args.log.now in
    let w = c.args.writer.now in
    let l = c.args.lane in
    let n = length c.args.bytes.now in
    let w1 = c.land.new.self in
    let lands = c.in-Ok.ensures.landed in
    let e1 = c.land_block-in-Err-Disk.new.self in
    let stood = c.land_block-in-Err-Disk.ensures.plain in
    let e2 = c.fail_with.new.self in
    let act = c.fail_with.result in
    let said = c.fail_with.ensures in
    let log2 = c.log_all.new.log in
    let w2 = c.log_all.new.writer in
    let meaning = c.in-Err-Disk.ensures.meaning in
    let kept = c.in-Err-Disk.ensures.kept in
    lose_turns (plain_of e log w) l c.args.bytes.now (block e log w l n c.requires.lane c.requires.desk c.requires.begun) (begun e log w l n c.requires.lane c.requires.desk c.requires.begun) (act, plain_of e2 log2 w2) _ (c.in-Err-Disk.ensures.counts.rose (is_disk c.in-Err-Disk.field-0 c.in-Err-Disk.field-0-is)) (full_is e log w l n c.requires.lane c.requires.desk c.requires.begun w1 lands true c.is_full.result (c.is_full.ensures log) c.if-not-is_full.false) (λ none. c.in-Err-Disk.ensures.some (unlogged_now e log w l n c.requires.lane c.requires.desk c.requires.begun w1 lands none)) (fails_is e log w l n c.requires.lane c.requires.desk c.requires.begun w1 lands e1 stood e2 act said log2 w2 meaning kept)

pub returns-in-Err-Disk-clause-exact : goal.returns-in-Err-Disk-clause-exact
returns-in-Err-Disk-clause-exact g c = λ quiet.
    let e = c.args.end.now in
    let log = c.args.log.now in
    let w = c.args.writer.now in
    let l = c.args.lane in
    let n = length c.args.bytes.now in
    let w1 = c.land.new.self in
    let lands = c.in-Ok.ensures.landed in
    let e1 = c.land_block-in-Err-Disk.new.self in
    let stood = c.land_block-in-Err-Disk.ensures.plain in
    let e2 = c.fail_with.new.self in
    let act = c.fail_with.result in
    let said = c.fail_with.ensures in
    let log2 = c.log_all.new.log in
    let w2 = c.log_all.new.writer in
    let meaning = c.in-Err-Disk.ensures.meaning in
    let kept = c.in-Err-Disk.ensures.kept in
    lose_ran (plain_of e log w) l c.args.bytes.now (block e log w l n c.requires.lane c.requires.desk c.requires.begun) (begun e log w l n c.requires.lane c.requires.desk c.requires.begun) (act, plain_of e2 log2 w2) (drive_of (g.D.Depot.state c.args.depot.now)) (drive_of (g.D.Depot.state c.log_all.new.depot)) (full_is e log w l n c.requires.lane c.requires.desk c.requires.begun w1 lands true c.is_full.result (c.is_full.ensures log) c.if-not-is_full.false) (calls_are e log w l n c.requires.lane c.requires.desk c.requires.begun w1 lands e1 stood false _ _ (c.in-Err-Disk.ensures.exact e1 (disk_only c.in-Err-Disk.field-0 c.in-Err-Disk.field-0-is) quiet)) (fails_is e log w l n c.requires.lane c.requires.desk c.requires.begun w1 lands e1 stood e2 act said log2 w2 meaning kept)

pub returns-in-Err-Disk-clause-desk : goal.returns-in-Err-Disk-clause-desk
returns-in-Err-Disk-clause-desk g c =
    let e = c.args.end.now in
    let log = c.args.log.now in
    let w = c.args.writer.now in
    let l = c.args.lane in
    let n = length c.args.bytes.now in
    let w1 = c.land.new.self in
    let lands = c.in-Ok.ensures.landed in
    let e1 = c.land_block-in-Err-Disk.new.self in
    let stood = c.land_block-in-Err-Disk.ensures.plain in
    let e2 = c.fail_with.new.self in
    let act = c.fail_with.result in
    let said = c.fail_with.ensures in
    let log2 = c.log_all.new.log in
    let w2 = c.log_all.new.writer in
    let meaning = c.in-Err-Disk.ensures.meaning in
    let kept = c.in-Err-Disk.ensures.kept in
    desk_landed e e2 log log2 w w2 l.0 n c.requires.desk c.log_all.ensures.books (c.log_all.ensures.parts ∙ parts_now e log w l n c.requires.lane c.requires.desk c.requires.begun w1 lands) (fails_drops e log w l n c.requires.lane c.requires.desk c.requires.begun w1 lands e1 stood e2 act said log2 w2 meaning kept)

pub returns-in-Err-Disk-clause-rest : goal.returns-in-Err-Disk-clause-rest
returns-in-Err-Disk-clause-rest g c =
    let e = c.args.end.now in
    let log = c.args.log.now in
    let w = c.args.writer.now in
    let l = c.args.lane in
    let n = length c.args.bytes.now in
    let w1 = c.land.new.self in
    let lands = c.in-Ok.ensures.landed in
    let e1 = c.land_block-in-Err-Disk.new.self in
    let stood = c.land_block-in-Err-Disk.ensures.plain in
    let e2 = c.fail_with.new.self in
    let act = c.fail_with.result in
    let said = c.fail_with.ensures in
    let log2 = c.log_all.new.log in
    let w2 = c.log_all.new.writer in
    let meaning = c.in-Err-Disk.ensures.meaning in
    let kept = c.in-Err-Disk.ensures.kept in
    record { spots = c.log_all.ensures.spots; log_open = λ here. absurd (here (fails_lost e log w l n c.requires.lane c.requires.desk c.requires.begun w1 lands e1 stood e2 act said log2 w2 meaning kept)); rests = λ here. absurd (here (fails_lost e log w l n c.requires.lane c.requires.desk c.requires.begun w1 lands e1 stood e2 act said log2 w2 meaning kept)) }

pub returns-in-Err-Disk-clause-images : goal.returns-in-Err-Disk-clause-images
returns-in-Err-Disk-clause-images g c = λ T whole.
    let e = c.args.end.now in
    let log = c.args.log.now in
    let w = c.args.writer.now in
    let l = c.args.lane in
    let n = length c.args.bytes.now in
    let w1 = c.land.new.self in
    let lands = c.in-Ok.ensures.landed in
    let sound = not_lost e.answer c.requires.sound in
    c.log_all.ensures.images T (booked_so e log w l n c.requires.lane c.requires.desk c.requires.begun w1 lands T (g.D.Depot.state c.args.depot.now) sound (c.requires.rest.rests sound) whole)

pub returns-in-Err-Disk-clause-good : goal.returns-in-Err-Disk-clause-good
returns-in-Err-Disk-clause-good g c = λ T whole.
    let e = c.args.end.now in
    let log = c.args.log.now in
    let w = c.args.writer.now in
    let l = c.args.lane in
    let n = length c.args.bytes.now in
    let w1 = c.land.new.self in
    let lands = c.in-Ok.ensures.landed in
    let e1 = c.land_block-in-Err-Disk.new.self in
    let stood = c.land_block-in-Err-Disk.ensures.plain in
    let e2 = c.fail_with.new.self in
    let act = c.fail_with.result in
    let said = c.fail_with.ensures in
    let log2 = c.log_all.new.log in
    let w2 = c.log_all.new.writer in
    let meaning = c.in-Err-Disk.ensures.meaning in
    let kept = c.in-Err-Disk.ensures.kept in
    let sound = not_lost e.answer c.requires.sound in
    told_lost T (plain_of e log w) (plain_of e2 log2 w2) (g.D.Depot.state c.args.depot.now).told (g.D.Depot.state c.log_all.new.depot).told (fails_lost e log w l n c.requires.lane c.requires.desk c.requires.begun w1 lands e1 stood e2 act said log2 w2 meaning kept) (c.log_all.ensures.images T (booked_so e log w l n c.requires.lane c.requires.desk c.requires.begun w1 lands T (g.D.Depot.state c.args.depot.now) sound (c.requires.rest.rests sound) whole)) (whole_is_good T (plain_of e log w) l.0 (g.D.Depot.state c.args.depot.now).told whole)

pub returns-in-Err-Disk-clause-counts : goal.returns-in-Err-Disk-clause-counts
returns-in-Err-Disk-clause-counts g c =
    let e = c.args.end.now in
    let log = c.args.log.now in
    let w = c.args.writer.now in
    let l = c.args.lane in
    let n = length c.args.bytes.now in
    let w1 = c.land.new.self in
    let lands = c.in-Ok.ensures.landed in
    let e1 = c.land_block-in-Err-Disk.new.self in
    let stood = c.land_block-in-Err-Disk.ensures.plain in
    let e2 = c.fail_with.new.self in
    let act = c.fail_with.result in
    let said = c.fail_with.ensures in
    let log2 = c.log_all.new.log in
    let w2 = c.log_all.new.writer in
    let meaning = c.in-Err-Disk.ensures.meaning in
    let kept = c.in-Err-Disk.ensures.kept in
    counts_lost _ _ (g.D.Depot.state c.args.depot.now) (g.D.Depot.state c.log_all.new.depot) (is_disk c.in-Err-Disk.field-0 c.in-Err-Disk.field-0-is) (not_lost e.answer c.requires.sound, fails_lost e log w l n c.requires.lane c.requires.desk c.requires.begun w1 lands e1 stood e2 act said log2 w2 meaning kept) c.in-Err-Disk.ensures.counts

pub returns-in-Err-NoMemory-clause-desk : goal.returns-in-Err-NoMemory-clause-desk
returns-in-Err-NoMemory-clause-desk g c =
    let e = c.args.end.now in
    let log = c.args.log.now in
    let w = c.args.writer.now in
    let l = c.args.lane in
    let n = length c.args.bytes.now in
    let w1 = c.land.new.self in
    let lands = c.in-Ok.ensures.landed in
    let log2 = c.log_all.new.log in
    let w2 = c.unpiece-in-Err-NoMemory.new.self in
    let short = short_is e log w l n c.requires.lane c.requires.desk c.requires.begun c.requires.short in
    let back_so = back_is e log w l n c.requires.lane c.requires.desk c.requires.begun w1 lands c.log_all.new.writer c.unland.new.self c.in-Err-NoMemory.ensures.kept c.unland.ensures in
    desk_on e log log2 w2 (back e log w l n c.requires.lane c.requires.desk c.requires.begun c.unland.new.self w2 back_so c.unpiece-in-Err-NoMemory.ensures short) c.in-Err-NoMemory.ensures.meaning c.log_all.ensures.books.version

pub returns-in-Err-NoMemory-clause-images : goal.returns-in-Err-NoMemory-clause-images
returns-in-Err-NoMemory-clause-images g c = λ T whole.
    let e = c.args.end.now in
    let log = c.args.log.now in
    let w = c.args.writer.now in
    let l = c.args.lane in
    let n = length c.args.bytes.now in
    let w1 = c.land.new.self in
    let lands = c.in-Ok.ensures.landed in
    let sound = not_lost e.answer c.requires.sound in
    c.log_all.ensures.images T (booked_so e log w l n c.requires.lane c.requires.desk c.requires.begun w1 lands T (g.D.Depot.state c.args.depot.now) sound (c.requires.rest.rests sound) whole)

pub returns-in-Err-NoMemory-clause-good : goal.returns-in-Err-NoMemory-clause-good
returns-in-Err-NoMemory-clause-good g c = λ T whole.
    let e = c.args.end.now in
    let log = c.args.log.now in
    let w = c.args.writer.now in
    let l = c.args.lane in
    let n = length c.args.bytes.now in
    let w1 = c.land.new.self in
    let lands = c.in-Ok.ensures.landed in
    let log2 = c.log_all.new.log in
    let w2 = c.unpiece-in-Err-NoMemory.new.self in
    let short = short_is e log w l n c.requires.lane c.requires.desk c.requires.begun c.requires.short in
    let back_so = back_is e log w l n c.requires.lane c.requires.desk c.requires.begun w1 lands c.log_all.new.writer c.unland.new.self c.in-Err-NoMemory.ensures.kept c.unland.ensures in
    let sound = not_lost e.answer c.requires.sound in
    let desk2 = desk_on e log log2 w2 (back e log w l n c.requires.lane c.requires.desk c.requires.begun c.unland.new.self w2 back_so c.unpiece-in-Err-NoMemory.ensures short) c.in-Err-NoMemory.ensures.meaning c.log_all.ensures.books.version in
    let same = same_plain e log w l n c.requires.lane c.requires.desk c.requires.begun log2 w2 c.in-Err-NoMemory.ensures.meaning c.unland.new.self back_so c.unpiece-in-Err-NoMemory.ensures in
    told_after T e log2 w2 (plain_of e log2 w2) (g.D.Depot.state c.args.depot.now).told (g.D.Depot.state c.log_all.new.depot).told desk2 sound (same_stays (plain_of e log2 w2) (plain_of e log2 w2) refl) refl (files_behind_are e log2 w2 desk2.books) c.log_all.ensures.reads (c.log_all.ensures.images T (booked_so e log w l n c.requires.lane c.requires.desk c.requires.begun w1 lands T (g.D.Depot.state c.args.depot.now) sound (c.requires.rest.rests sound) whole))
    (subst (λ (r : PlainReceiver). IfTold (λ u. DockGood T r u.now) (g.D.Depot.state c.args.depot.now).told) (sym same) (whole_is_good T (plain_of e log w) l.0 (g.D.Depot.state c.args.depot.now).told whole))

pub returns-in_default-clause-spares : goal.returns-in_default-clause-spares
returns-in_default-clause-spares g c = spares_same (IsBeside c.args.writer.now.known) c.args.writer.now.files (g.D.Depot.state c.args.depot.now).told

pub returns-then-not-is_full-clause-spares : goal.returns-then-not-is_full-clause-spares
returns-then-not-is_full-clause-spares g c = spares_same (IsBeside c.args.writer.now.known) c.args.writer.now.files (g.D.Depot.state c.args.depot.now).told

pub returns-in-Ok-log_all-clause-spares : goal.returns-in-Ok-log_all-clause-spares
returns-in-Ok-log_all-clause-spares g c = reads_spare c.args.log.now c.args.writer.now c.requires.desk.books (g.D.Depot.state c.args.depot.now).told (g.D.Depot.state c.log_all.new.depot).told c.log_all.ensures.reads

pub returns-in-Err-Disk-clause-spares : goal.returns-in-Err-Disk-clause-spares
returns-in-Err-Disk-clause-spares g c = reads_spare c.args.log.now c.args.writer.now c.requires.desk.books (g.D.Depot.state c.args.depot.now).told (g.D.Depot.state c.log_all.new.depot).told c.log_all.ensures.reads

pub returns-in-Err-NoMemory-clause-spares : goal.returns-in-Err-NoMemory-clause-spares
returns-in-Err-NoMemory-clause-spares g c = reads_spare c.args.log.now c.args.writer.now c.requires.desk.books (g.D.Depot.state c.args.depot.now).told (g.D.Depot.state c.log_all.new.depot).told c.log_all.ensures.reads
