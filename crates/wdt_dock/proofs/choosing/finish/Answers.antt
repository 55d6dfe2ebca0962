use Rattle.std.proofs.Common.{◌∙◌}
use Rattle.wdt_depot.specs.Programs.{drive_of}
use Rattle.wdt_dock.specs.Desk.{books_of, plain_of}
use Rattle.wdt_dock.proofs.Choices.{counts_lost, counts_none, desk_after, disk_only, finished_loses, finished_stays, is_disk, kept_plain, lost_here, lost_kept, lost_said, not_disk, not_refused, same_stays}
use Rattle.wdt_dock.proofs.Finishing.{finish_ran, finish_turns, lost_ran, lost_turns, short_is}
use Rattle.wdt_dock.proofs.Goodness.{booked, files_behind_are, told_after, told_lost}
use Rattle.wdt_dock.proofs.Keeping.{not_lost}
use Rattle.wdt_dock.proofs.Sparing.{reads_spare}
use Rattle.wdt_dock.proofs.choosing.finish.Goals as goal

pub returns-in-Ok-clause-turns : goal.returns-in-Ok-clause-turns
returns-in-Ok-clause-turns g c =
    let e = c.args.end.now in
    let w = c.args.writer.now in
    let w2 = c.log_all.new.writer in
    finish_turns e c.args.log.now w c.args.way c.args.lane (plain_of e c.log_all.new.log w2) (c.in-Ok.ensures.plain e) c.short_fault-short.result
    (c.short_fault-short.ensures ∙ short_is e c.args.log.now w c.args.way c.args.lane c.requires.desk.books c.requires.batched c.sized.result c.files.result c.bytes.result w2.files c.sized.ensures c.files.ensures c.bytes.ensures c.log_all.ensures.files)
    (c.finish.result, plain_of c.finish.new.self c.log_all.new.log w2) (c.finish.ensures (books_of c.log_all.new.log w2)) _

pub returns-in-Ok-clause-exact : goal.returns-in-Ok-clause-exact
returns-in-Ok-clause-exact g c = λ quiet.
    let e = c.args.end.now in
    let w = c.args.writer.now in
    let w2 = c.log_all.new.writer in
    finish_ran e c.args.log.now w c.args.way c.args.lane (plain_of e c.log_all.new.log w2) (c.in-Ok.ensures.plain e) c.short_fault-short.result
    (c.short_fault-short.ensures ∙ short_is e c.args.log.now w c.args.way c.args.lane c.requires.desk.books c.requires.batched c.sized.result c.files.result c.bytes.result w2.files c.sized.ensures c.files.ensures c.bytes.ensures c.log_all.ensures.files)
    (c.finish.result, plain_of c.finish.new.self c.log_all.new.log w2) (c.finish.ensures (books_of c.log_all.new.log w2))
    (drive_of (g.D.Depot.state c.args.depot.now)) (drive_of (g.D.Depot.state c.log_all.new.depot)) (c.in-Ok.ensures.exact e (not_refused c.in-Ok.field-0) quiet)

pub returns-in-Ok-clause-desk : goal.returns-in-Ok-clause-desk
returns-in-Ok-clause-desk g c =
    let e = c.args.end.now in
    let log2 = c.log_all.new.log in
    let w2 = c.log_all.new.writer in
    desk_after e c.finish.new.self c.args.log.now log2 c.args.writer.now w2 c.requires.desk c.log_all.ensures.books c.log_all.ensures.parts
    (finished_stays e c.finish.new.self c.args.log.now log2 c.args.writer.now w2 c.args.way c.args.lane c.finish.result c.requires.lane (c.in-Ok.ensures.plain e) c.short_fault-short.result (c.finish.ensures (books_of log2 w2)))

pub returns-in-Ok-clause-good : goal.returns-in-Ok-clause-good
returns-in-Ok-clause-good g c = λ T good.
    let e = c.args.end.now in
    let f = c.finish.new.self in
    let log = c.args.log.now in
    let w = c.args.writer.now in
    let log2 = c.log_all.new.log in
    let w2 = c.log_all.new.writer in
    let s0 = g.D.Depot.state c.args.depot.now in
    let sound = not_lost e.answer c.requires.sound in
    told_after T e log w (plain_of f log2 w2) s0.told (g.D.Depot.state c.log_all.new.depot).told c.requires.desk sound
    (finished_stays e f log log2 w w2 c.args.way c.args.lane c.finish.result c.requires.lane (c.in-Ok.ensures.plain e) c.short_fault-short.result (c.finish.ensures (books_of log2 w2)))
    c.log_all.ensures.known (files_behind_are f log2 w2 c.log_all.ensures.books ∙ c.log_all.ensures.files) c.log_all.ensures.reads
    (c.log_all.ensures.images T (booked T e log w s0 c.requires.desk.books (c.requires.rest.rests sound) sound good)) good

pub returns-in-Ok-clause-counts : goal.returns-in-Ok-clause-counts
returns-in-Ok-clause-counts g c =
    let e = c.args.end.now in
    let f = c.finish.new.self in
    let log2 = c.log_all.new.log in
    let w2 = c.log_all.new.writer in
    counts_none _ _ (g.D.Depot.state c.args.depot.now) (g.D.Depot.state c.log_all.new.depot) (not_disk c.in-Ok.field-0)
    (λ lost. finished_loses e f c.args.log.now log2 c.args.writer.now w2 c.args.way c.args.lane c.finish.result c.requires.lane (c.in-Ok.ensures.plain e) c.short_fault-short.result (c.finish.ensures (books_of log2 w2)) lost.0 lost.1) c.in-Ok.ensures.counts

pub returns-in-Err-Disk-clause-turns : goal.returns-in-Err-Disk-clause-turns
returns-in-Err-Disk-clause-turns g c =
    let e = c.args.end.now in
    let f = c.lose_disk.new.self in
    let log = c.args.log.now in
    let w = c.args.writer.now in
    let log2 = c.log_all.new.log in
    let w2 = c.log_all.new.writer in
    lost_turns e log w c.args.way c.args.lane (c.lose_disk.result, plain_of f log2 w2)
    (lost_said e f log log2 w w2 c.args.way c.args.lane c.lose_disk.result c.requires.lane (kept_plain e log log2 w w2 c.in-Err-Disk.ensures.meaning c.in-Err-Disk.ensures.kept) (c.lose_disk.ensures (books_of log2 w2)))
    _ (c.in-Err-Disk.ensures.counts.rose (is_disk c.in-Err-Disk.field-0 c.in-Err-Disk.field-0-is)) c.in-Err-Disk.ensures.some

pub returns-in-Err-Disk-clause-exact : goal.returns-in-Err-Disk-clause-exact
returns-in-Err-Disk-clause-exact g c = λ quiet.
    let e = c.args.end.now in
    let f = c.lose_disk.new.self in
    let log = c.args.log.now in
    let w = c.args.writer.now in
    let log2 = c.log_all.new.log in
    let w2 = c.log_all.new.writer in
    lost_ran e log w c.args.way c.args.lane (c.lose_disk.result, plain_of f log2 w2)
    (lost_said e f log log2 w w2 c.args.way c.args.lane c.lose_disk.result c.requires.lane (kept_plain e log log2 w w2 c.in-Err-Disk.ensures.meaning c.in-Err-Disk.ensures.kept) (c.lose_disk.ensures (books_of log2 w2)))
    (drive_of (g.D.Depot.state c.args.depot.now)) (drive_of (g.D.Depot.state c.log_all.new.depot)) (c.in-Err-Disk.ensures.exact e (disk_only c.in-Err-Disk.field-0 c.in-Err-Disk.field-0-is) quiet)

pub returns-in-Err-Disk-clause-desk : goal.returns-in-Err-Disk-clause-desk
returns-in-Err-Disk-clause-desk g c =
    let e = c.args.end.now in
    let f = c.lose_disk.new.self in
    let log = c.args.log.now in
    let w = c.args.writer.now in
    let log2 = c.log_all.new.log in
    let w2 = c.log_all.new.writer in
    desk_after e f log log2 w w2 c.requires.desk c.log_all.ensures.books c.log_all.ensures.parts
    (lost_kept e f log log2 w w2 c.args.way c.args.lane c.lose_disk.result c.requires.lane (kept_plain e log log2 w w2 c.in-Err-Disk.ensures.meaning c.in-Err-Disk.ensures.kept) (c.lose_disk.ensures (books_of log2 w2)))

pub returns-in-Err-Disk-clause-rest : goal.returns-in-Err-Disk-clause-rest
returns-in-Err-Disk-clause-rest g c =
    let e = c.args.end.now in
    let f = c.lose_disk.new.self in
    let log = c.args.log.now in
    let w = c.args.writer.now in
    let log2 = c.log_all.new.log in
    let w2 = c.log_all.new.writer in
    let lost = lost_here e f log log2 w w2 c.args.way c.args.lane c.lose_disk.result c.requires.lane (kept_plain e log log2 w w2 c.in-Err-Disk.ensures.meaning c.in-Err-Disk.ensures.kept) (c.lose_disk.ensures (books_of log2 w2)) in
    record { spots = c.log_all.ensures.spots; log_open = λ here. absurd (here lost); rests = λ here. absurd (here lost) }

pub returns-in-Err-Disk-clause-good : goal.returns-in-Err-Disk-clause-good
returns-in-Err-Disk-clause-good g c = λ T good.
    let e = c.args.end.now in
    let f = c.lose_disk.new.self in
    let log = c.args.log.now in
    let w = c.args.writer.now in
    let log2 = c.log_all.new.log in
    let w2 = c.log_all.new.writer in
    let s0 = g.D.Depot.state c.args.depot.now in
    let sound = not_lost e.answer c.requires.sound in
    let lost = lost_here e f log log2 w w2 c.args.way c.args.lane c.lose_disk.result c.requires.lane (kept_plain e log log2 w w2 c.in-Err-Disk.ensures.meaning c.in-Err-Disk.ensures.kept) (c.lose_disk.ensures (books_of log2 w2)) in
    told_lost T (plain_of e log w) (plain_of f log2 w2) s0.told (g.D.Depot.state c.log_all.new.depot).told lost (c.log_all.ensures.images T (booked T e log w s0 c.requires.desk.books (c.requires.rest.rests sound) sound good)) good

pub returns-in-Err-Disk-clause-counts : goal.returns-in-Err-Disk-clause-counts
returns-in-Err-Disk-clause-counts g c =
    let e = c.args.end.now in
    let f = c.lose_disk.new.self in
    let log = c.args.log.now in
    let w = c.args.writer.now in
    let log2 = c.log_all.new.log in
    let w2 = c.log_all.new.writer in
    counts_lost _ _ (g.D.Depot.state c.args.depot.now) (g.D.Depot.state c.log_all.new.depot) (is_disk c.in-Err-Disk.field-0 c.in-Err-Disk.field-0-is)
    (not_lost e.answer c.requires.sound, lost_here e f log log2 w w2 c.args.way c.args.lane c.lose_disk.result c.requires.lane (kept_plain e log log2 w w2 c.in-Err-Disk.ensures.meaning c.in-Err-Disk.ensures.kept) (c.lose_disk.ensures (books_of log2 w2)))
    c.in-Err-Disk.ensures.counts

pub returns-in-Err-NoMemory-clause-good : goal.returns-in-Err-NoMemory-clause-good
returns-in-Err-NoMemory-clause-good g c = λ T good.
    let e = c.args.end.now in
    let log = c.args.log.now in
    let w = c.args.writer.now in
    let log2 = c.log_all.new.log in
    let w2 = c.log_all.new.writer in
    let s0 = g.D.Depot.state c.args.depot.now in
    let sound = not_lost e.answer c.requires.sound in
    told_after T e log w (plain_of e log2 w2) s0.told (g.D.Depot.state c.log_all.new.depot).told c.requires.desk sound
    (same_stays (plain_of e log w) (plain_of e log2 w2) (kept_plain e log log2 w w2 c.in-Err-NoMemory.ensures.meaning c.in-Err-NoMemory.ensures.kept))
    c.log_all.ensures.known (files_behind_are e log2 w2 c.log_all.ensures.books ∙ c.log_all.ensures.files) c.log_all.ensures.reads
    (c.log_all.ensures.images T (booked T e log w s0 c.requires.desk.books (c.requires.rest.rests sound) sound good)) good

pub returns-in-Ok-clause-spares : goal.returns-in-Ok-clause-spares
returns-in-Ok-clause-spares g c = reads_spare c.args.log.now c.args.writer.now c.requires.desk.books (g.D.Depot.state c.args.depot.now).told (g.D.Depot.state c.log_all.new.depot).told c.log_all.ensures.reads

pub returns-in-Err-Disk-clause-spares : goal.returns-in-Err-Disk-clause-spares
returns-in-Err-Disk-clause-spares g c = reads_spare c.args.log.now c.args.writer.now c.requires.desk.books (g.D.Depot.state c.args.depot.now).told (g.D.Depot.state c.log_all.new.depot).told c.log_all.ensures.reads

pub returns-in-Err-NoMemory-clause-spares : goal.returns-in-Err-NoMemory-clause-spares
returns-in-Err-NoMemory-clause-spares g c = reads_spare c.args.log.now c.args.writer.now c.requires.desk.books (g.D.Depot.state c.args.depot.now).told (g.D.Depot.state c.log_all.new.depot).told c.log_all.ensures.reads
