use Rattle.std.proofs.Common.{arith, subst}
use Rattle.wdt_depot.specs.Programs.{drive_of}
use Rattle.wdt_dock.specs.Desk.{plain_of}
use Rattle.wdt_dock.proofs.Choices.{counts_lost, counts_none}
use Rattle.wdt_dock.proofs.Goodness.{told_lost}
use Rattle.wdt_dock.proofs.Keeping.{not_lost}
use Rattle.wdt_dock.proofs.TakeRow.{badly_only, begun, block, broken_ran, broken_turns, desk_fails, desk_more, fails_lost, fails_said, good_more, joined, left_of, loses_more, more_ran, more_turns, rests_now, short_now, since, slips_landed, slips_only, spares_now, takes_said, uses, whole_now, written, wrote_badly, wrote_kept, wrote_well}
use Rattle.wdt_writer.specs.PlainWriter.{PlainWriter}
use Rattle.wdt_dock.specs.Sparing.{Between, IsBeside, Spares}
use Rattle.wdt_dock.proofs.Sparing.{spares_more}
use Rattle.wdt_dock.proofs.taking.take.Goals as goal

pub land-requires-clause-desk : goal.land-requires-clause-desk
land-requires-clause-desk g c =
    let e = c.args.end.now in
    let log = c.args.log.now in
    let w = c.args.writer.now in
    let l = c.args.lane in
    let bs = c.args.bytes.now in
    let w1 = c.piece.new.self in
    written e log w l bs c.requires.lane c.requires.desk c.requires.within c.requires.begun w1 c.in-Ok-eq0.ensures.taken (omega (arith, c.in-Ok-eq0.field-0-is, c.in-Ok-eq0.ensures.left))

pub land-requires-clause-rest : goal.land-requires-clause-rest
land-requires-clause-rest g c =
    let e = c.args.end.now in
    let log = c.args.log.now in
    let w = c.args.writer.now in
    let l = c.args.lane in
    let bs = c.args.bytes.now in
    record { spots = c.in-Ok-eq0.ensures.disk.spots; log_open = c.requires.rest.log_open; rests = λ here. rests_now e log w l bs c.requires.lane c.requires.desk c.requires.within c.requires.begun _ (g.D.Depot.state c.args.depot.now) (g.D.Depot.state c.piece.new.depot) c.in-Ok-eq0.ensures.disk (c.requires.rest.rests here) }

pub land-requires-clause-short : goal.land-requires-clause-short
land-requires-clause-short g c =
    let e = c.args.end.now in
    let log = c.args.log.now in
    let w = c.args.writer.now in
    let l = c.args.lane in
    let bs = c.args.bytes.now in
    short_now e log w l bs c.requires.lane c.requires.desk c.requires.within c.requires.begun

pub returns-in-Ok-eq0-clause-images : goal.returns-in-Ok-eq0-clause-images
returns-in-Ok-eq0-clause-images g c = λ T piece good.
    let e = c.args.end.now in
    let log = c.args.log.now in
    let w = c.args.writer.now in
    let l = c.args.lane in
    let bs = c.args.bytes.now in
    let w1 = c.piece.new.self in
    let sound = not_lost e.answer c.requires.sound in
    let one = since e log w l bs c.requires.lane c.requires.desk c.requires.within c.requires.begun _ (g.D.Depot.state c.args.depot.now) (g.D.Depot.state c.piece.new.depot) c.in-Ok-eq0.ensures.disk T sound (c.requires.rest.rests sound) good in
    joined T (g.D.Depot.state c.args.depot.now).told (g.D.Depot.state c.piece.new.depot).told (g.D.Depot.state c.land.new.depot).told one (c.land.ensures.images T (whole_now e log w l bs c.requires.lane c.requires.desk c.requires.within c.requires.begun w1 c.in-Ok-eq0.ensures.taken T (g.D.Depot.state c.args.depot.now).told (g.D.Depot.state c.piece.new.depot).told sound (omega (arith, c.in-Ok-eq0.field-0-is, c.in-Ok-eq0.ensures.left)) piece (uses e log w l bs c.requires.lane c.requires.desk c.requires.within c.requires.begun _ (g.D.Depot.state c.args.depot.now) (g.D.Depot.state c.piece.new.depot) c.in-Ok-eq0.ensures.disk).step one good))

pub returns-in-Ok-eq0-clause-good : goal.returns-in-Ok-eq0-clause-good
returns-in-Ok-eq0-clause-good g c = λ T piece good.
    let e = c.args.end.now in
    let log = c.args.log.now in
    let w = c.args.writer.now in
    let l = c.args.lane in
    let bs = c.args.bytes.now in
    let w1 = c.piece.new.self in
    let sound = not_lost e.answer c.requires.sound in
    let one = since e log w l bs c.requires.lane c.requires.desk c.requires.within c.requires.begun _ (g.D.Depot.state c.args.depot.now) (g.D.Depot.state c.piece.new.depot) c.in-Ok-eq0.ensures.disk T sound (c.requires.rest.rests sound) good in
    c.land.ensures.good T (whole_now e log w l bs c.requires.lane c.requires.desk c.requires.within c.requires.begun w1 c.in-Ok-eq0.ensures.taken T (g.D.Depot.state c.args.depot.now).told (g.D.Depot.state c.piece.new.depot).told sound (omega (arith, c.in-Ok-eq0.field-0-is, c.in-Ok-eq0.ensures.left)) piece (uses e log w l bs c.requires.lane c.requires.desk c.requires.within c.requires.begun _ (g.D.Depot.state c.args.depot.now) (g.D.Depot.state c.piece.new.depot) c.in-Ok-eq0.ensures.disk).step one good)

pub returns-in-Ok-eq0-clause-slips : goal.returns-in-Ok-eq0-clause-slips
returns-in-Ok-eq0-clause-slips g c = λ T.
    let e = c.args.end.now in
    let log = c.args.log.now in
    let w = c.args.writer.now in
    let l = c.args.lane in
    let bs = c.args.bytes.now in
    let w1 = c.piece.new.self in
    let sound = not_lost e.answer c.requires.sound in
    slips_landed e log w l bs c.requires.lane c.requires.desk c.requires.within c.requires.begun w1 c.in-Ok-eq0.ensures.taken T (g.D.Depot.state c.args.depot.now).slips (g.D.Depot.state c.piece.new.depot).slips (g.D.Depot.state c.land.new.depot).slips (g.D.Depot.state c.args.depot.now).told (g.D.Depot.state c.piece.new.depot).told sound (uses e log w l bs c.requires.lane c.requires.desk c.requires.within c.requires.begun _ (g.D.Depot.state c.args.depot.now) (g.D.Depot.state c.piece.new.depot) c.in-Ok-eq0.ensures.disk).step (λ good. since e log w l bs c.requires.lane c.requires.desk c.requires.within c.requires.begun _ (g.D.Depot.state c.args.depot.now) (g.D.Depot.state c.piece.new.depot) c.in-Ok-eq0.ensures.disk T sound (c.requires.rest.rests sound) good) c.piece.ensures.slips (c.land.ensures.slips T)

pub returns-in-Ok-clause-turns : goal.returns-in-Ok-clause-turns
returns-in-Ok-clause-turns g c =
    let e = c.args.end.now in
    let log = c.args.log.now in
    let w = c.args.writer.now in
    let l = c.args.lane in
    let bs = c.args.bytes.now in
    let w1 = c.piece.new.self in
    let e2 = c.take_piece.new.self in
    let act = c.take_piece.result in
    let said = c.take_piece.ensures in
    let more = c.in-Ok.left in
    more_turns (plain_of e log w) l bs (block e log w l bs c.requires.lane c.requires.desk c.requires.within c.requires.begun) (begun e log w l bs c.requires.lane c.requires.desk c.requires.within c.requires.begun) (act, plain_of e2 log w1) _ more (omega (arith, c.in-Ok.left-test)) (left_of e log w l bs c.requires.lane c.requires.desk c.requires.within c.requires.begun more c.in-Ok.ensures.left) (takes_said e log w l bs c.requires.lane c.requires.desk c.requires.within c.requires.begun w1 c.in-Ok.ensures.taken more c.in-Ok.ensures.left e2 act said)

pub returns-in-Ok-clause-exact : goal.returns-in-Ok-clause-exact
returns-in-Ok-clause-exact g c = λ quiet.
    let e = c.args.end.now in
    let log = c.args.log.now in
    let w = c.args.writer.now in
    let l = c.args.lane in
    let bs = c.args.bytes.now in
    let w1 = c.piece.new.self in
    let e2 = c.take_piece.new.self in
    let act = c.take_piece.result in
    let said = c.take_piece.ensures in
    let more = c.in-Ok.left in
    more_ran (plain_of e log w) l bs (block e log w l bs c.requires.lane c.requires.desk c.requires.within c.requires.begun) (begun e log w l bs c.requires.lane c.requires.desk c.requires.within c.requires.begun) (act, plain_of e2 log w1) more (drive_of (g.D.Depot.state c.args.depot.now)) (drive_of (g.D.Depot.state c.piece.new.depot)) (omega (arith, c.in-Ok.left-test)) (left_of e log w l bs c.requires.lane c.requires.desk c.requires.within c.requires.begun more c.in-Ok.ensures.left) ((uses e log w l bs c.requires.lane c.requires.desk c.requires.within c.requires.begun _ (g.D.Depot.state c.args.depot.now) (g.D.Depot.state c.piece.new.depot) c.in-Ok.ensures.disk).exact (wrote_kept more) quiet) (takes_said e log w l bs c.requires.lane c.requires.desk c.requires.within c.requires.begun w1 c.in-Ok.ensures.taken more c.in-Ok.ensures.left e2 act said)

pub returns-in-Ok-clause-desk : goal.returns-in-Ok-clause-desk
returns-in-Ok-clause-desk g c =
    let e = c.args.end.now in
    let log = c.args.log.now in
    let w = c.args.writer.now in
    let l = c.args.lane in
    let bs = c.args.bytes.now in
    let w1 = c.piece.new.self in
    let e2 = c.take_piece.new.self in
    let act = c.take_piece.result in
    let said = c.take_piece.ensures in
    let more = c.in-Ok.left in
    desk_more e log w l bs c.requires.lane c.requires.desk c.requires.within c.requires.begun w1 c.in-Ok.ensures.taken more c.in-Ok.ensures.left e2 act said

pub returns-in-Ok-clause-rest : goal.returns-in-Ok-clause-rest
returns-in-Ok-clause-rest g c =
    let e = c.args.end.now in
    let log = c.args.log.now in
    let w = c.args.writer.now in
    let l = c.args.lane in
    let bs = c.args.bytes.now in
    let sound = not_lost e.answer c.requires.sound in
    record { spots = c.in-Ok.ensures.disk.spots; log_open = λ here. c.requires.rest.log_open sound; rests = λ here. rests_now e log w l bs c.requires.lane c.requires.desk c.requires.within c.requires.begun _ (g.D.Depot.state c.args.depot.now) (g.D.Depot.state c.piece.new.depot) c.in-Ok.ensures.disk (c.requires.rest.rests sound) }

pub returns-in-Ok-clause-images : goal.returns-in-Ok-clause-images
returns-in-Ok-clause-images g c = λ T piece good.
    let e = c.args.end.now in
    let log = c.args.log.now in
    let w = c.args.writer.now in
    let l = c.args.lane in
    let bs = c.args.bytes.now in
    let sound = not_lost e.answer c.requires.sound in
    since e log w l bs c.requires.lane c.requires.desk c.requires.within c.requires.begun _ (g.D.Depot.state c.args.depot.now) (g.D.Depot.state c.piece.new.depot) c.in-Ok.ensures.disk T sound (c.requires.rest.rests sound) good

pub returns-in-Ok-clause-good : goal.returns-in-Ok-clause-good
returns-in-Ok-clause-good g c = λ T piece good.
    let e = c.args.end.now in
    let log = c.args.log.now in
    let w = c.args.writer.now in
    let l = c.args.lane in
    let bs = c.args.bytes.now in
    let w1 = c.piece.new.self in
    let e2 = c.take_piece.new.self in
    let act = c.take_piece.result in
    let said = c.take_piece.ensures in
    let more = c.in-Ok.left in
    let sound = not_lost e.answer c.requires.sound in
    good_more e log w l bs c.requires.lane c.requires.desk c.requires.within c.requires.begun w1 c.in-Ok.ensures.taken more c.in-Ok.ensures.left e2 act said T (g.D.Depot.state c.args.depot.now).told (g.D.Depot.state c.piece.new.depot).told sound piece (uses e log w l bs c.requires.lane c.requires.desk c.requires.within c.requires.begun _ (g.D.Depot.state c.args.depot.now) (g.D.Depot.state c.piece.new.depot) c.in-Ok.ensures.disk).step (since e log w l bs c.requires.lane c.requires.desk c.requires.within c.requires.begun _ (g.D.Depot.state c.args.depot.now) (g.D.Depot.state c.piece.new.depot) c.in-Ok.ensures.disk T sound (c.requires.rest.rests sound) good) good

pub returns-in-Ok-clause-counts : goal.returns-in-Ok-clause-counts
returns-in-Ok-clause-counts g c =
    let e = c.args.end.now in
    let log = c.args.log.now in
    let w = c.args.writer.now in
    let l = c.args.lane in
    let bs = c.args.bytes.now in
    let w1 = c.piece.new.self in
    let e2 = c.take_piece.new.self in
    let act = c.take_piece.result in
    let said = c.take_piece.ensures in
    let more = c.in-Ok.left in
    counts_none _ _ (g.D.Depot.state c.args.depot.now) (g.D.Depot.state c.piece.new.depot) (wrote_well more) (λ lost. loses_more e log w l bs c.requires.lane c.requires.desk c.requires.within c.requires.begun w1 c.in-Ok.ensures.taken more c.in-Ok.ensures.left e2 act said lost.0 lost.1) c.in-Ok.ensures.disk.counts

pub returns-in-Ok-clause-slips : goal.returns-in-Ok-clause-slips
returns-in-Ok-clause-slips g c = λ T.
    let e = c.args.end.now in
    let log = c.args.log.now in
    let w = c.args.writer.now in
    let l = c.args.lane in
    let bs = c.args.bytes.now in
    let sound = not_lost e.answer c.requires.sound in
    slips_only e log w l bs c.requires.lane c.requires.desk c.requires.within c.requires.begun T (g.D.Depot.state c.args.depot.now).slips (g.D.Depot.state c.piece.new.depot).slips (g.D.Depot.state c.args.depot.now).told sound c.piece.ensures.slips

pub returns-in-Err-Disk-clause-turns : goal.returns-in-Err-Disk-clause-turns
returns-in-Err-Disk-clause-turns g c =
    let e = c.args.end.now in
    let log = c.args.log.now in
    let w = c.args.writer.now in
    let l = c.args.lane in
    let bs = c.args.bytes.now in
    let w1 = c.piece.new.self in
    let e2 = c.fail_with.new.self in
    let act = c.fail_with.result in
    let said = c.fail_with.ensures in
    broken_turns (plain_of e log w) l bs (block e log w l bs c.requires.lane c.requires.desk c.requires.within c.requires.begun) (begun e log w l bs c.requires.lane c.requires.desk c.requires.within c.requires.begun) (act, plain_of e2 log w1) _ (c.in-Err-Disk.ensures.disk.counts.rose (wrote_badly c.in-Err-Disk.field-0 c.in-Err-Disk.field-0-is)) (fails_said e log w l bs c.requires.lane c.requires.desk c.requires.within c.requires.begun w1 c.in-Err-Disk.ensures.unchanged e2 act said)

pub returns-in-Err-Disk-clause-exact : goal.returns-in-Err-Disk-clause-exact
returns-in-Err-Disk-clause-exact g c = λ quiet.
    let e = c.args.end.now in
    let log = c.args.log.now in
    let w = c.args.writer.now in
    let l = c.args.lane in
    let bs = c.args.bytes.now in
    let w1 = c.piece.new.self in
    let e2 = c.fail_with.new.self in
    let act = c.fail_with.result in
    let said = c.fail_with.ensures in
    broken_ran (plain_of e log w) l bs (block e log w l bs c.requires.lane c.requires.desk c.requires.within c.requires.begun) (begun e log w l bs c.requires.lane c.requires.desk c.requires.within c.requires.begun) (act, plain_of e2 log w1) (drive_of (g.D.Depot.state c.args.depot.now)) (drive_of (g.D.Depot.state c.piece.new.depot)) ((uses e log w l bs c.requires.lane c.requires.desk c.requires.within c.requires.begun _ (g.D.Depot.state c.args.depot.now) (g.D.Depot.state c.piece.new.depot) c.in-Err-Disk.ensures.disk).exact (badly_only c.in-Err-Disk.field-0 c.in-Err-Disk.field-0-is) quiet) (fails_said e log w l bs c.requires.lane c.requires.desk c.requires.within c.requires.begun w1 c.in-Err-Disk.ensures.unchanged e2 act said)

pub returns-in-Err-Disk-clause-desk : goal.returns-in-Err-Disk-clause-desk
returns-in-Err-Disk-clause-desk g c =
    let e = c.args.end.now in
    let log = c.args.log.now in
    let w = c.args.writer.now in
    let l = c.args.lane in
    let bs = c.args.bytes.now in
    let w1 = c.piece.new.self in
    let e2 = c.fail_with.new.self in
    let act = c.fail_with.result in
    let said = c.fail_with.ensures in
    desk_fails e log w l bs c.requires.lane c.requires.desk c.requires.within c.requires.begun w1 c.in-Err-Disk.ensures.unchanged e2 act said

pub returns-in-Err-Disk-clause-rest : goal.returns-in-Err-Disk-clause-rest
returns-in-Err-Disk-clause-rest g c =
    let e = c.args.end.now in
    let log = c.args.log.now in
    let w = c.args.writer.now in
    let l = c.args.lane in
    let bs = c.args.bytes.now in
    let w1 = c.piece.new.self in
    let e2 = c.fail_with.new.self in
    let act = c.fail_with.result in
    let said = c.fail_with.ensures in
    record { spots = c.in-Err-Disk.ensures.disk.spots; log_open = λ here. absurd (here (fails_lost e log w l bs c.requires.lane c.requires.desk c.requires.within c.requires.begun w1 c.in-Err-Disk.ensures.unchanged e2 act said)); rests = λ here. absurd (here (fails_lost e log w l bs c.requires.lane c.requires.desk c.requires.within c.requires.begun w1 c.in-Err-Disk.ensures.unchanged e2 act said)) }

pub returns-in-Err-Disk-clause-images : goal.returns-in-Err-Disk-clause-images
returns-in-Err-Disk-clause-images g c = λ T piece good.
    let e = c.args.end.now in
    let log = c.args.log.now in
    let w = c.args.writer.now in
    let l = c.args.lane in
    let bs = c.args.bytes.now in
    let sound = not_lost e.answer c.requires.sound in
    since e log w l bs c.requires.lane c.requires.desk c.requires.within c.requires.begun _ (g.D.Depot.state c.args.depot.now) (g.D.Depot.state c.piece.new.depot) c.in-Err-Disk.ensures.disk T sound (c.requires.rest.rests sound) good

pub returns-in-Err-Disk-clause-good : goal.returns-in-Err-Disk-clause-good
returns-in-Err-Disk-clause-good g c = λ T piece good.
    let e = c.args.end.now in
    let log = c.args.log.now in
    let w = c.args.writer.now in
    let l = c.args.lane in
    let bs = c.args.bytes.now in
    let w1 = c.piece.new.self in
    let e2 = c.fail_with.new.self in
    let act = c.fail_with.result in
    let said = c.fail_with.ensures in
    let sound = not_lost e.answer c.requires.sound in
    told_lost T (plain_of e log w) (plain_of e2 log w1) (g.D.Depot.state c.args.depot.now).told (g.D.Depot.state c.piece.new.depot).told (fails_lost e log w l bs c.requires.lane c.requires.desk c.requires.within c.requires.begun w1 c.in-Err-Disk.ensures.unchanged e2 act said) (since e log w l bs c.requires.lane c.requires.desk c.requires.within c.requires.begun _ (g.D.Depot.state c.args.depot.now) (g.D.Depot.state c.piece.new.depot) c.in-Err-Disk.ensures.disk T sound (c.requires.rest.rests sound) good) good

pub returns-in-Err-Disk-clause-counts : goal.returns-in-Err-Disk-clause-counts
returns-in-Err-Disk-clause-counts g c =
    let e = c.args.end.now in
    let log = c.args.log.now in
    let w = c.args.writer.now in
    let l = c.args.lane in
    let bs = c.args.bytes.now in
    let w1 = c.piece.new.self in
    let e2 = c.fail_with.new.self in
    let act = c.fail_with.result in
    let said = c.fail_with.ensures in
    counts_lost _ _ (g.D.Depot.state c.args.depot.now) (g.D.Depot.state c.piece.new.depot) (wrote_badly c.in-Err-Disk.field-0 c.in-Err-Disk.field-0-is) (not_lost e.answer c.requires.sound, fails_lost e log w l bs c.requires.lane c.requires.desk c.requires.within c.requires.begun w1 c.in-Err-Disk.ensures.unchanged e2 act said) c.in-Err-Disk.ensures.disk.counts

pub returns-in-Err-Disk-clause-slips : goal.returns-in-Err-Disk-clause-slips
returns-in-Err-Disk-clause-slips g c = λ T.
    let e = c.args.end.now in
    let log = c.args.log.now in
    let w = c.args.writer.now in
    let l = c.args.lane in
    let bs = c.args.bytes.now in
    let sound = not_lost e.answer c.requires.sound in
    slips_only e log w l bs c.requires.lane c.requires.desk c.requires.within c.requires.begun T (g.D.Depot.state c.args.depot.now).slips (g.D.Depot.state c.piece.new.depot).slips (g.D.Depot.state c.args.depot.now).told sound c.piece.ensures.slips

pub returns-in-Err-NoMemory-clause-slips : goal.returns-in-Err-NoMemory-clause-slips
returns-in-Err-NoMemory-clause-slips g c = λ T.
    let e = c.args.end.now in
    let log = c.args.log.now in
    let w = c.args.writer.now in
    let l = c.args.lane in
    let bs = c.args.bytes.now in
    let sound = not_lost e.answer c.requires.sound in
    slips_only e log w l bs c.requires.lane c.requires.desk c.requires.within c.requires.begun T (g.D.Depot.state c.args.depot.now).slips (g.D.Depot.state c.piece.new.depot).slips (g.D.Depot.state c.args.depot.now).told sound c.piece.ensures.slips

pub returns-in-Ok-clause-spares : goal.returns-in-Ok-clause-spares
returns-in-Ok-clause-spares g c =
    spares_now c.args.end.now c.args.log.now c.args.writer.now c.args.lane c.args.bytes.now c.requires.lane c.requires.desk c.requires.within c.requires.begun _ (g.D.Depot.state c.args.depot.now) (g.D.Depot.state c.piece.new.depot) c.in-Ok.ensures.disk

pub returns-in-Err-Disk-clause-spares : goal.returns-in-Err-Disk-clause-spares
returns-in-Err-Disk-clause-spares g c =
    spares_now c.args.end.now c.args.log.now c.args.writer.now c.args.lane c.args.bytes.now c.requires.lane c.requires.desk c.requires.within c.requires.begun _ (g.D.Depot.state c.args.depot.now) (g.D.Depot.state c.piece.new.depot) c.in-Err-Disk.ensures.disk

pub returns-in-Err-NoMemory-clause-spares : goal.returns-in-Err-NoMemory-clause-spares
returns-in-Err-NoMemory-clause-spares g c =
    spares_now c.args.end.now c.args.log.now c.args.writer.now c.args.lane c.args.bytes.now c.requires.lane c.requires.desk c.requires.within c.requires.begun _ (g.D.Depot.state c.args.depot.now) (g.D.Depot.state c.piece.new.depot) c.in-Err-NoMemory.ensures.disk

pub returns-in-Ok-eq0-clause-spares : goal.returns-in-Ok-eq0-clause-spares
returns-in-Ok-eq0-clause-spares g c =
    let w = c.args.writer.now in
    let a = (g.D.Depot.state c.args.depot.now).told in
    let b = (g.D.Depot.state c.piece.new.depot).told in
    let d = (g.D.Depot.state c.land.new.depot).told in
    spares_more (IsBeside w.known) w.files a b d
    (spares_now c.args.end.now c.args.log.now c.args.writer.now c.args.lane c.args.bytes.now c.requires.lane c.requires.desk c.requires.within c.requires.begun _ (g.D.Depot.state c.args.depot.now) (g.D.Depot.state c.piece.new.depot) c.in-Ok-eq0.ensures.disk)
    (subst (λ (x : PlainWriter). Between (Spares (IsBeside x.known) x.files) b d) c.in-Ok-eq0.ensures.taken c.land.ensures.spares)
