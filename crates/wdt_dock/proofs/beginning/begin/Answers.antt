use Rattle.std.proofs.Common.{ℕ, ◌+◌, Ok, Err, refl, sym, ap, ◌∙◌, subst}
use Rattle.wdt_units.specs.Counts.{Rises}
use Rattle.wdt_units.specs.declared.blocks.Block.{Block}
use Rattle.wdt_depot.specs.Programs.{drive_of}
use Rattle.wdt_sender_fsm.specs.declared.peers.PeerKind.TheVariants as peers
use Rattle.wdt_writer.specs.declared.fail.WriteFail.TheVariants as fails
use Rattle.wdt_writer.specs.Answers.{fault_at}
use Rattle.wdt_logfmt.specs.Beginning.{is_new}
use Rattle.wdt_receiver_fsm.specs.Plan.{EndsIn, PlanRan}
use Rattle.wdt_receiver_fsm.specs.PlainReceiver.{PlainReceiver}
use Rattle.wdt_receiver_fsm.specs.Turn.{Step, block_plan}
use Rattle.wdt_dock.specs.Beginning.{told_fault}
use Rattle.wdt_dock.specs.Desk.{books_of, plain_of}
use Rattle.wdt_dock.specs.DockView.{HasLostDisk}
use Rattle.wdt_dock.proofs.Begins.{begun_ran, begun_turns, limit_ran, limit_turns, refused_ran, refused_turns}
use Rattle.wdt_dock.proofs.Choices.{counts_none, desk_after}
use Rattle.wdt_dock.proofs.Goodness.{told_stays}
use Rattle.wdt_dock.proofs.Keeping.{Stays, not_lost}
use Rattle.wdt_receiver_fsm.proofs.ForCallers.{if_ok}
use Rattle.wdt_dock.proofs.Starts.{failed_counts, failed_desk, failed_good, fault_sound, fault_stays, is_err, leaves_failed, leaves_used, new_by, none_by, ok_disk, ok_not, plain_kept, started_desk, started_good, started_said, started_sound}
use Rattle.wdt_dock.proofs.Waiting.{counts_same, same_behind}
use Rattle.wdt_receiver_fsm.specs.Rows.{Block as BlockRead}
use Rattle.wdt_dock.specs.Sparing.{IsOtherRow}
use Rattle.wdt_dock.proofs.Sparing.{begun_spares, spares_same}
use Rattle.wdt_dock.proofs.beginning.begin.Goals as goal

-- ---- no more blocks may land on the lane

pub returns-then-landed-ge-MAX_BLOCKS-clause-turns :
    goal.returns-then-landed-ge-MAX_BLOCKS-clause-turns
returns-then-landed-ge-MAX_BLOCKS-clause-turns g c =
    let e = c.args.end.now in
    let f = c.fault.new.self in
    let log = c.args.log.now in
    let w = c.args.writer.now in
    let l = c.args.lane in
    let n = c.landed-landed.result in
    let y : Step = (c.fault.result, plain_of f log w) in
    let said = ap (λ (m : ℕ). told_fault (plain_of e log w) l (peers.OverLimit (m + 1))) (sym c.from-count.ensures) ∙ c.fault.ensures (books_of log w) in
    limit_turns e log w c.requires.desk c.requires.batched l c.args.header.now n c.landed-landed.ensures c.if-landed-ge-MAX_BLOCKS.true y said _

pub returns-then-landed-ge-MAX_BLOCKS-clause-exact :
    goal.returns-then-landed-ge-MAX_BLOCKS-clause-exact
returns-then-landed-ge-MAX_BLOCKS-clause-exact g c =
    let e = c.args.end.now in
    let f = c.fault.new.self in
    let log = c.args.log.now in
    let w = c.args.writer.now in
    let l = c.args.lane in
    let n = c.landed-landed.result in
    let s0 = g.D.Depot.state c.args.depot.now in
    let y : Step = (c.fault.result, plain_of f log w) in
    let said = ap (λ (m : ℕ). told_fault (plain_of e log w) l (peers.OverLimit (m + 1))) (sym c.from-count.ensures) ∙ c.fault.ensures (books_of log w) in
    λ quiet. limit_ran e log w c.requires.desk c.requires.batched l c.args.header.now n c.landed-landed.ensures c.if-landed-ge-MAX_BLOCKS.true y said (drive_of s0)

pub returns-then-landed-ge-MAX_BLOCKS-clause-desk :
    goal.returns-then-landed-ge-MAX_BLOCKS-clause-desk
returns-then-landed-ge-MAX_BLOCKS-clause-desk g c =
    let e = c.args.end.now in
    let f = c.fault.new.self in
    let log = c.args.log.now in
    let w = c.args.writer.now in
    let l = c.args.lane in
    let n = c.landed-landed.result in
    let said = ap (λ (m : ℕ). told_fault (plain_of e log w) l (peers.OverLimit (m + 1))) (sym c.from-count.ensures) ∙ c.fault.ensures (books_of log w) in
    desk_after e f log log w w c.requires.desk c.requires.desk.books refl (subst (λ (z : Step). Stays (plain_of e log w) z.1) said (fault_stays (plain_of e log w) l (peers.OverLimit (n + 1)) c.requires.lane))

pub returns-then-landed-ge-MAX_BLOCKS-clause-good :
    goal.returns-then-landed-ge-MAX_BLOCKS-clause-good
returns-then-landed-ge-MAX_BLOCKS-clause-good g c =
    let e = c.args.end.now in
    let f = c.fault.new.self in
    let log = c.args.log.now in
    let w = c.args.writer.now in
    let l = c.args.lane in
    let n = c.landed-landed.result in
    let s0 = g.D.Depot.state c.args.depot.now in
    let said = ap (λ (m : ℕ). told_fault (plain_of e log w) l (peers.OverLimit (m + 1))) (sym c.from-count.ensures) ∙ c.fault.ensures (books_of log w) in
    λ T header good. told_stays T (plain_of e log w) (plain_of f log w) s0.told (subst (λ (z : Step). Stays (plain_of e log w) z.1) said (fault_stays (plain_of e log w) l (peers.OverLimit (n + 1)) c.requires.lane)) refl (same_behind e f log w c.requires.desk.books) (not_lost e.answer c.requires.sound) good

pub returns-then-landed-ge-MAX_BLOCKS-clause-counts :
    goal.returns-then-landed-ge-MAX_BLOCKS-clause-counts
returns-then-landed-ge-MAX_BLOCKS-clause-counts g c =
    let e = c.args.end.now in
    let log = c.args.log.now in
    let w = c.args.writer.now in
    let l = c.args.lane in
    let n = c.landed-landed.result in
    let s0 = g.D.Depot.state c.args.depot.now in
    let said = ap (λ (m : ℕ). told_fault (plain_of e log w) l (peers.OverLimit (m + 1))) (sym c.from-count.ensures) ∙ c.fault.ensures (books_of log w) in
    counts_same _ s0 (λ lost. subst (λ (z : Step). HasLostDisk z.1.answer → ⊥) said (fault_sound (plain_of e log w) l (peers.OverLimit (n + 1))) lost.1)

-- ---- the block began

pub returns-in-Ok-clause-turns :
    goal.returns-in-Ok-clause-turns
returns-in-Ok-clause-turns g c =
    let e = c.args.end.now in
    let f = c.start_block.new.end in
    let log = c.args.log.now in
    let w = c.args.writer.now in
    let w2 = c.start.new.writer in
    let l = c.args.lane in
    let h = c.args.header.now in
    let s0 = g.D.Depot.state c.args.depot.now in
    let s1 = g.D.Depot.state c.start.new.depot in
    let none = none_by (fault_at w h) c.in-Ok.block c.in-Ok.ensures.refused in
    let sound = not_lost e.answer c.requires.sound in
    begun_turns e log w c.requires.desk c.requires.batched l h c.landed-landed.result c.landed-landed.ensures c.if-landed-ge-MAX_BLOCKS.false none (c.start_block.result, plain_of f log w2) (started_said e log w l h c.requires.desk sound s0 s1 c.requires.rest c.requires.lane c.requires.none c.requires.fits none f c.start_block.result c.in-Ok.block c.in-Ok.ensures.block c.start_block.ensures w2 c.in-Ok.ensures.started) _

pub returns-in-Ok-clause-exact :
    goal.returns-in-Ok-clause-exact
returns-in-Ok-clause-exact g c =
    let e = c.args.end.now in
    let f = c.start_block.new.end in
    let log = c.args.log.now in
    let w = c.args.writer.now in
    let w2 = c.start.new.writer in
    let l = c.args.lane in
    let h = c.args.header.now in
    let s0 = g.D.Depot.state c.args.depot.now in
    let s1 = g.D.Depot.state c.start.new.depot in
    let none = none_by (fault_at w h) c.in-Ok.block c.in-Ok.ensures.refused in
    let uses = c.in-Ok.ensures.disk none in
    let sound = not_lost e.answer c.requires.sound in
    λ quiet. begun_ran e log w c.requires.desk c.requires.batched l h c.landed-landed.result c.landed-landed.ensures c.if-landed-ge-MAX_BLOCKS.false none (c.start_block.result, plain_of f log w2) (started_said e log w l h c.requires.desk sound s0 s1 c.requires.rest c.requires.lane c.requires.none c.requires.fits none f c.start_block.result c.in-Ok.block c.in-Ok.ensures.block c.start_block.ensures w2 c.in-Ok.ensures.started) (drive_of s0) (drive_of s1) (uses.exact (ok_not c.in-Ok.block) quiet)

pub returns-in-Ok-clause-desk :
    goal.returns-in-Ok-clause-desk
returns-in-Ok-clause-desk g c =
    let e = c.args.end.now in
    let f = c.start_block.new.end in
    let log = c.args.log.now in
    let w = c.args.writer.now in
    let w2 = c.start.new.writer in
    let l = c.args.lane in
    let h = c.args.header.now in
    let s0 = g.D.Depot.state c.args.depot.now in
    let s1 = g.D.Depot.state c.start.new.depot in
    let none = none_by (fault_at w h) c.in-Ok.block c.in-Ok.ensures.refused in
    let sound = not_lost e.answer c.requires.sound in
    started_desk e log w l h c.requires.desk sound s0 s1 c.requires.rest c.requires.lane c.requires.none c.requires.fits none f c.start_block.result c.in-Ok.block c.in-Ok.ensures.block c.start_block.ensures w2 c.in-Ok.ensures.started

pub returns-in-Ok-clause-rest :
    goal.returns-in-Ok-clause-rest
returns-in-Ok-clause-rest g c =
    let e = c.args.end.now in
    let f = c.start_block.new.end in
    let log = c.args.log.now in
    let w = c.args.writer.now in
    let l = c.args.lane in
    let h = c.args.header.now in
    let s0 = g.D.Depot.state c.args.depot.now in
    let s1 = g.D.Depot.state c.start.new.depot in
    let none = none_by (fault_at w h) c.in-Ok.block c.in-Ok.ensures.refused in
    let uses = c.in-Ok.ensures.disk none in
    let sound = not_lost e.answer c.requires.sound in
    (leaves_used e log w l h c.requires.desk sound s0 s1 c.requires.rest (Ok c.in-Ok.block) uses).rest f

pub returns-in-Ok-clause-images :
    goal.returns-in-Ok-clause-images
returns-in-Ok-clause-images g c =
    let e = c.args.end.now in
    let log = c.args.log.now in
    let w = c.args.writer.now in
    let l = c.args.lane in
    let h = c.args.header.now in
    let s0 = g.D.Depot.state c.args.depot.now in
    let s1 = g.D.Depot.state c.start.new.depot in
    let none = none_by (fault_at w h) c.in-Ok.block c.in-Ok.ensures.refused in
    let uses = c.in-Ok.ensures.disk none in
    let sound = not_lost e.answer c.requires.sound in
    λ T good. (leaves_used e log w l h c.requires.desk sound s0 s1 c.requires.rest (Ok c.in-Ok.block) uses).images T good

pub returns-in-Ok-clause-good :
    goal.returns-in-Ok-clause-good
returns-in-Ok-clause-good g c =
    let e = c.args.end.now in
    let f = c.start_block.new.end in
    let log = c.args.log.now in
    let w = c.args.writer.now in
    let w2 = c.start.new.writer in
    let l = c.args.lane in
    let h = c.args.header.now in
    let s0 = g.D.Depot.state c.args.depot.now in
    let s1 = g.D.Depot.state c.start.new.depot in
    let none = none_by (fault_at w h) c.in-Ok.block c.in-Ok.ensures.refused in
    let uses = c.in-Ok.ensures.disk none in
    let sound = not_lost e.answer c.requires.sound in
    λ T header good. started_good e log w l h c.requires.desk sound s0 s1 c.requires.rest c.requires.lane c.requires.none c.requires.fits none f c.start_block.result c.in-Ok.block c.in-Ok.ensures.block c.start_block.ensures w2 c.in-Ok.ensures.started T header uses.step ((leaves_used e log w l h c.requires.desk sound s0 s1 c.requires.rest (Ok c.in-Ok.block) uses).images T good) good

pub returns-in-Ok-clause-counts :
    goal.returns-in-Ok-clause-counts
returns-in-Ok-clause-counts g c =
    let e = c.args.end.now in
    let f = c.start_block.new.end in
    let log = c.args.log.now in
    let w = c.args.writer.now in
    let w2 = c.start.new.writer in
    let l = c.args.lane in
    let h = c.args.header.now in
    let s0 = g.D.Depot.state c.args.depot.now in
    let s1 = g.D.Depot.state c.start.new.depot in
    let none = none_by (fault_at w h) c.in-Ok.block c.in-Ok.ensures.refused in
    let uses = c.in-Ok.ensures.disk none in
    let sound = not_lost e.answer c.requires.sound in
    counts_none _ _ s0 s1 (ok_disk c.in-Ok.block) (λ lost. started_sound e log w l h c.requires.desk sound s0 s1 c.requires.rest c.requires.lane c.requires.none c.requires.fits none f c.start_block.result c.in-Ok.block c.in-Ok.ensures.block c.start_block.ensures w2 c.in-Ok.ensures.started lost.1) uses.counts

-- ---- it didn't

pub returns-in-Err-clause-turns :
    goal.returns-in-Err-clause-turns
returns-in-Err-clause-turns g c =
    let e = c.args.end.now in
    let f = c.refuse.new.end in
    let log = c.args.log.now in
    let w = c.args.writer.now in
    let w2 = c.start.new.writer in
    let l = c.args.lane in
    let h = c.args.header.now in
    let s0 = g.D.Depot.state c.args.depot.now in
    let s1 = g.D.Depot.state c.start.new.depot in
    let fail = c.in-Err.fail in
    let by = c.in-Err.ensures in
    let sound = not_lost e.answer c.requires.sound in
    if_ok c.refuse.result _ _ (λ act refused.
    subst (λ (t : PlainReceiver). EndsIn (Rises s0.faults s1.faults) (block_plan (plain_of e log w) l h) (act, t)) (sym (plain_kept e log w l h c.requires.desk sound s0 s1 c.requires.rest w2 by.unchanged f))
    (refused_turns e log w c.requires.desk c.requires.batched l h c.landed-landed.result c.landed-landed.ensures c.if-landed-ge-MAX_BLOCKS.false fail by.refused (act, plain_of f log w) (refused (books_of log w)) (Rises s0.faults s1.faults) (λ is. (leaves_failed e log w l h c.requires.desk sound s0 s1 c.requires.rest w2 by.unchanged fail by.refused by.untouched by.disk).counts.rose (is_err fail fails.Disk is)) (λ known is. by.never known (is_err fail fails.Disk is)))) c.refuse.ensures.refused

pub returns-in-Err-clause-exact :
    goal.returns-in-Err-clause-exact
returns-in-Err-clause-exact g c =
    let e = c.args.end.now in
    let f = c.refuse.new.end in
    let log = c.args.log.now in
    let w = c.args.writer.now in
    let w2 = c.start.new.writer in
    let l = c.args.lane in
    let h = c.args.header.now in
    let s0 = g.D.Depot.state c.args.depot.now in
    let s1 = g.D.Depot.state c.start.new.depot in
    let fail = c.in-Err.fail in
    let by = c.in-Err.ensures in
    let sound = not_lost e.answer c.requires.sound in
    if_ok c.refuse.result _ _ (λ act refused quiet.
    subst (λ (t : PlainReceiver). PlanRan (block_plan (plain_of e log w) l h) (act, t) (drive_of s0) (drive_of s1)) (sym (plain_kept e log w l h c.requires.desk sound s0 s1 c.requires.rest w2 by.unchanged f))
    (refused_ran e log w c.requires.desk c.requires.batched l h c.landed-landed.result c.landed-landed.ensures c.if-landed-ge-MAX_BLOCKS.false fail by.refused (act, plain_of f log w) (refused (books_of log w)) s0 s1 (λ is. new_by (is_new w.known h) (λ known. by.never known (is_err fail fails.Disk is))) by.untouched (λ none. (by.disk none).exact) quiet)) c.refuse.ensures.refused

pub returns-in-Err-clause-desk :
    goal.returns-in-Err-clause-desk
returns-in-Err-clause-desk g c =
    let e = c.args.end.now in
    let f = c.refuse.new.end in
    let log = c.args.log.now in
    let w = c.args.writer.now in
    let w2 = c.start.new.writer in
    let l = c.args.lane in
    let h = c.args.header.now in
    let s0 = g.D.Depot.state c.args.depot.now in
    let s1 = g.D.Depot.state c.start.new.depot in
    let fail = c.in-Err.fail in
    let by = c.in-Err.ensures in
    let sound = not_lost e.answer c.requires.sound in
    failed_desk e log w l h c.requires.desk sound s0 s1 c.requires.rest w2 by.unchanged fail by.refused by.untouched by.disk _ f c.requires.lane c.refuse.result c.refuse.ensures.refused c.refuse.ensures.unchanged

pub returns-in-Err-clause-rest :
    goal.returns-in-Err-clause-rest
returns-in-Err-clause-rest g c =
    let e = c.args.end.now in
    let f = c.refuse.new.end in
    let log = c.args.log.now in
    let w = c.args.writer.now in
    let w2 = c.start.new.writer in
    let l = c.args.lane in
    let h = c.args.header.now in
    let s0 = g.D.Depot.state c.args.depot.now in
    let s1 = g.D.Depot.state c.start.new.depot in
    let fail = c.in-Err.fail in
    let by = c.in-Err.ensures in
    let sound = not_lost e.answer c.requires.sound in
    (leaves_failed e log w l h c.requires.desk sound s0 s1 c.requires.rest w2 by.unchanged fail by.refused by.untouched by.disk).rest f

pub returns-in-Err-clause-images :
    goal.returns-in-Err-clause-images
returns-in-Err-clause-images g c =
    let e = c.args.end.now in
    let log = c.args.log.now in
    let w = c.args.writer.now in
    let w2 = c.start.new.writer in
    let l = c.args.lane in
    let h = c.args.header.now in
    let s0 = g.D.Depot.state c.args.depot.now in
    let s1 = g.D.Depot.state c.start.new.depot in
    let fail = c.in-Err.fail in
    let by = c.in-Err.ensures in
    let sound = not_lost e.answer c.requires.sound in
    λ T good. (leaves_failed e log w l h c.requires.desk sound s0 s1 c.requires.rest w2 by.unchanged fail by.refused by.untouched by.disk).images T good

pub returns-in-Err-clause-good :
    goal.returns-in-Err-clause-good
returns-in-Err-clause-good g c =
    let e = c.args.end.now in
    let f = c.refuse.new.end in
    let log = c.args.log.now in
    let w = c.args.writer.now in
    let w2 = c.start.new.writer in
    let l = c.args.lane in
    let h = c.args.header.now in
    let s0 = g.D.Depot.state c.args.depot.now in
    let s1 = g.D.Depot.state c.start.new.depot in
    let fail = c.in-Err.fail in
    let by = c.in-Err.ensures in
    let sound = not_lost e.answer c.requires.sound in
    λ T header good. failed_good e log w l h c.requires.desk sound s0 s1 c.requires.rest w2 by.unchanged fail by.refused by.untouched by.disk _ f c.requires.lane c.refuse.result c.refuse.ensures.refused c.refuse.ensures.unchanged T good

pub returns-in-Err-clause-counts :
    goal.returns-in-Err-clause-counts
returns-in-Err-clause-counts g c =
    let e = c.args.end.now in
    let f = c.refuse.new.end in
    let log = c.args.log.now in
    let w = c.args.writer.now in
    let w2 = c.start.new.writer in
    let l = c.args.lane in
    let h = c.args.header.now in
    let s0 = g.D.Depot.state c.args.depot.now in
    let s1 = g.D.Depot.state c.start.new.depot in
    let fail = c.in-Err.fail in
    let by = c.in-Err.ensures in
    let sound = not_lost e.answer c.requires.sound in
    failed_counts e log w l h c.requires.desk sound s0 s1 c.requires.rest w2 by.unchanged fail by.refused by.untouched by.disk _ f c.requires.lane c.refuse.result c.refuse.ensures.refused c.refuse.ensures.unchanged c.refuse.ensures.memory

pub returns-then-landed-ge-MAX_BLOCKS-clause-spares : goal.returns-then-landed-ge-MAX_BLOCKS-clause-spares
returns-then-landed-ge-MAX_BLOCKS-clause-spares g c = spares_same (IsOtherRow c.args.writer.now.known (BlockRead c.args.header.now)) c.args.writer.now.files (g.D.Depot.state c.args.depot.now).told

pub returns-in-Ok-clause-spares : goal.returns-in-Ok-clause-spares
returns-in-Ok-clause-spares g c =
    begun_spares {E = Block} c.args.log.now c.args.writer.now c.requires.desk.books c.args.header.now (Ok c.in-Ok.block) (g.D.Depot.state c.args.depot.now) (g.D.Depot.state c.start.new.depot) c.in-Ok.ensures.untouched (λ none. (c.in-Ok.ensures.disk none).step)

pub returns-in-Err-clause-spares : goal.returns-in-Err-clause-spares
returns-in-Err-clause-spares g c =
    begun_spares {E = Block} c.args.log.now c.args.writer.now c.requires.desk.books c.args.header.now (Err c.in-Err.fail) (g.D.Depot.state c.args.depot.now) (g.D.Depot.state c.start.new.depot) c.in-Err.ensures.untouched (λ none. (c.in-Err.ensures.disk none).step)
