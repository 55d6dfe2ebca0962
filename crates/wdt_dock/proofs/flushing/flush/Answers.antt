use Rattle.std.proofs.Common.{Err, sym, ap, ◌∙◌, subst}
use Rattle.std.proofs.lemmas.Bool.{both_ways}
use Rattle.wdt_dock.specs.Desk.{plain_of}
use Rattle.wdt_dock.specs.DockView.{HasLostDisk}
use Rattle.wdt_receiver_fsm.specs.End.{EndView}
use Rattle.wdt_dock.proofs.Choices.{kept_plain, lost_answer, same_stays}
use Rattle.wdt_dock.proofs.Flushed.{continues, kept_dock, logged_dock, lost_dock, same_logged}
use Rattle.wdt_dock.proofs.Goodness.{booked, files_behind_are, told_after, told_lost}
use Rattle.wdt_dock.proofs.flushing.flush.Goals as goal

pub returns-in-Ok-clause-dock : goal.returns-in-Ok-clause-dock
returns-in-Ok-clause-dock g c =
    let e = c.args.end.now in
    let log = c.args.log.now in
    let w = c.args.writer.now in
    logged_dock e log c.log_all.new.log w c.log_all.new.writer (g.D.Depot.state c.args.depot.now) (g.D.Depot.state c.log_all.new.depot) c.requires (c.in-Ok.ensures.plain e)
    c.log_all.ensures.books c.log_all.ensures.parts c.log_all.ensures.spots c.in-Ok.ensures.open c.in-Ok.ensures.logged
    (c.batches_add_up.ensures.flushes (plain_of e log w) c.requires.batched (continues log w c.requires.desk.books))

pub returns-in-Ok-clause-good : goal.returns-in-Ok-clause-good
returns-in-Ok-clause-good g c = λ T good.
    let e = c.args.end.now in
    let log = c.args.log.now in
    let w = c.args.writer.now in
    let log2 = c.log_all.new.log in
    let w2 = c.log_all.new.writer in
    let s0 = g.D.Depot.state c.args.depot.now in
    let sound : HasLostDisk e.answer → ⊥ = (λ lost. both_ways c.has_lost_disk.result c.if-has_lost_disk.false (c.has_lost_disk.ensures.1 (subst HasLostDisk (sym c.answer.ensures) lost))) in
    told_after T e log w (plain_of e log2 w2) s0.told (g.D.Depot.state c.log_all.new.depot).told c.requires.desk sound
    (same_logged e log log2 w w2 s0 (g.D.Depot.state c.log_all.new.depot) c.requires (c.in-Ok.ensures.plain e))
    c.log_all.ensures.known (files_behind_are e log2 w2 c.log_all.ensures.books ∙ c.log_all.ensures.files) c.log_all.ensures.reads
    (c.log_all.ensures.images T (booked T e log w s0 c.requires.desk.books (c.requires.rest.rests sound) sound good)) good

pub returns-in-Err-Disk-clause-good : goal.returns-in-Err-Disk-clause-good
returns-in-Err-Disk-clause-good g c = λ T good.
    let e = c.args.end.now in
    let log = c.args.log.now in
    let w = c.args.writer.now in
    let s0 = g.D.Depot.state c.args.depot.now in
    let sound : HasLostDisk e.answer → ⊥ = (λ lost. both_ways c.has_lost_disk.result c.if-has_lost_disk.false (c.has_lost_disk.ensures.1 (subst HasLostDisk (sym c.answer.ensures) lost))) in
    told_lost T (plain_of e log w) (plain_of c.fail.new.self c.log_all.new.log c.log_all.new.writer) s0.told (g.D.Depot.state c.log_all.new.depot).told (lost_answer c.fail.new.self.answer (ap (λ (x : EndView). x.answer) c.fail.ensures))
    (c.log_all.ensures.images T (booked T e log w s0 c.requires.desk.books (c.requires.rest.rests sound) sound good)) good

pub returns-in-Err-NoMemory-clause-good : goal.returns-in-Err-NoMemory-clause-good
returns-in-Err-NoMemory-clause-good g c = λ T good.
    let e = c.args.end.now in
    let log = c.args.log.now in
    let w = c.args.writer.now in
    let log2 = c.log_all.new.log in
    let w2 = c.log_all.new.writer in
    let s0 = g.D.Depot.state c.args.depot.now in
    let sound : HasLostDisk e.answer → ⊥ = (λ lost. both_ways c.has_lost_disk.result c.if-has_lost_disk.false (c.has_lost_disk.ensures.1 (subst HasLostDisk (sym c.answer.ensures) lost))) in
    told_after T e log w (plain_of e log2 w2) s0.told (g.D.Depot.state c.log_all.new.depot).told c.requires.desk sound
    (same_stays (plain_of e log w) (plain_of e log2 w2) (kept_plain e log log2 w w2 c.in-Err-NoMemory.ensures.meaning c.in-Err-NoMemory.ensures.kept))
    c.log_all.ensures.known (files_behind_are e log2 w2 c.log_all.ensures.books ∙ c.log_all.ensures.files) c.log_all.ensures.reads
    (c.log_all.ensures.images T (booked T e log w s0 c.requires.desk.books (c.requires.rest.rests sound) sound good)) good

pub returns-in-Err-Disk-clause-dock : goal.returns-in-Err-Disk-clause-dock
returns-in-Err-Disk-clause-dock g c =
    lost_dock c.args.end.now c.args.log.now c.log_all.new.log c.args.writer.now c.log_all.new.writer (g.D.Depot.state c.args.depot.now) (g.D.Depot.state c.log_all.new.depot) c.requires
    c.in-Err-Disk.ensures.meaning c.in-Err-Disk.ensures.kept c.log_all.ensures.books c.log_all.ensures.spots c.fail.new.self c.fail.ensures c.in-Err-Disk.ensures.some

pub returns-in-Err-NoMemory-clause-dock : goal.returns-in-Err-NoMemory-clause-dock
returns-in-Err-NoMemory-clause-dock g c =
    kept_dock c.args.end.now c.args.log.now c.log_all.new.log c.args.writer.now c.log_all.new.writer (g.D.Depot.state c.args.depot.now) (g.D.Depot.state c.log_all.new.depot) c.requires
    c.in-Err-NoMemory.ensures.meaning c.in-Err-NoMemory.ensures.kept c.log_all.ensures.books c.log_all.ensures.spots (c.in-Err-NoMemory.ensures.still_open (ap Err c.in-Err-NoMemory.field-0-is)) (c.in-Err-NoMemory.ensures.memory (ap Err c.in-Err-NoMemory.field-0-is))
