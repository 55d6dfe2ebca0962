use Rattle.std.proofs.Common.{◌≡◌, List, ℕ, suc, true, false, Bor, map, take, drop, sym, subst}
use Rattle.std.specs.Prelude.{IsSome}
use Rattle.std.specs.Str.{bytes_eq}
use Rattle.wdt_units.specs.declared.path.Name.{Name}
use Rattle.wdt_depot.specs.Moments.{Run}
use Rattle.wdt_depot.specs.Programs.{Calls, drive_of}
use Rattle.wdt_good.specs.Calls.{run_syncs}
use Rattle.wdt_good.specs.Good.{log_path}
use Rattle.wdt_good.specs.Sweeping.{Keeps, Swept}
use Rattle.wdt_log.proofs.Sweeping.{at_one, counts_done, counts_more, not_failed, not_refused, paths_more, paths_split, ran_failed, slips_more, swept_one, swept_part, syncs_failed, syncs_more}
use Rattle.wdt_log.proofs.syncing.sync_all.Goals as goal

abbrev path_of : Bor Name → List ℕ
path_of p = p.now

pub sync_beside-requires-clause-other : goal.sync_beside-requires-clause-other
sync_beside-requires-clause-other g c = at_one path_of c.args.paths.now c.loop-path.path-index c.path-item.result c.loop-path-test.true c.path-item.is (λ path. bytes_eq path log_path ≡ false) c.requires.others

pub returns-in_err-sync_beside-clause-kept : goal.returns-in_err-sync_beside-clause-kept
returns-in_err-sync_beside-clause-kept g c = swept_part (map path_of (take c.loop-path.path-index c.args.paths.now)) _ (g.D.Depot.state c.loop-path.depot).told _ c.loop-path.invariant.synced c.in_err-sync_beside.ensures.synced

pub returns-in_err-sync_beside-clause-exact : goal.returns-in_err-sync_beside-clause-exact
returns-in_err-sync_beside-clause-exact g c =
    let s0 = g.D.Depot.state c.args.depot.now in
    let s1 = g.D.Depot.state c.loop-path.depot in
    let s2 = g.D.Depot.state c.sync_beside.new.depot in
    let paths = c.args.paths.now in
    let i = c.loop-path.path-index in
    ran_failed (run_syncs (map path_of paths)) c.from_residual.result c.in_err-sync_beside.field-0.0 s0 s2 c.from_residual.ensures.1 (λ memory quiet.
    subst (λ (ps : List (List ℕ)). Calls (run_syncs ps) false (drive_of s0) (drive_of s2)) (sym (paths_split path_of paths i c.path-item.result c.loop-path-test.true c.path-item.is))
    (syncs_failed (map path_of (take i paths)) c.path-item.result.now s0 s1 s2 (map path_of (drop (suc i) paths)) c.loop-path.invariant.counts.own c.sync_beside.ensures.counts.own c.loop-path.invariant.exact (c.in_err-sync_beside.ensures.exact memory) quiet))

pub returns-in_err-sync_beside-clause-slips : goal.returns-in_err-sync_beside-clause-slips
returns-in_err-sync_beside-clause-slips g c =
    let paths = c.args.paths.now in
    let i = c.loop-path.path-index in
    slips_more (map path_of paths) (map path_of (take i paths)) c.path-item.result.now (g.D.Depot.state c.args.depot.now) (g.D.Depot.state c.loop-path.depot) (g.D.Depot.state c.sync_beside.new.depot)
    (λ d stand. at_one path_of paths i c.path-item.result c.loop-path-test.true c.path-item.is (λ path. IsSome (d path)) stand) c.loop-path.invariant.synced c.loop-path.invariant.slips c.sync_beside.ensures.slips

pub loop-path-preserved : goal.loop-path-preserved
loop-path-preserved g c =
    let s0 = g.D.Depot.state c.args.depot.now in
    let s1 = g.D.Depot.state c.loop-path.depot in
    let s2 = g.D.Depot.state c.sync_beside.new.depot in
    let paths = c.args.paths.now in
    let i = c.loop-path.path-index in
    let front = map path_of (take i paths) in
    let more = sym (paths_more path_of paths i c.path-item.result c.loop-path-test.true c.path-item.is) in
    record {
      synced = subst (λ (ps : List (List ℕ)). Run Keeps (Swept ps) s0.told s2.told) more (swept_one front c.path-item.result.now s0.told s1.told s2.told c.loop-path.invariant.synced c.in_ok-sync_beside.ensures.synced);
      exact = λ quiet. subst (λ (ps : List (List ℕ)). Calls (run_syncs ps) true (drive_of s0) (drive_of s2)) more
          (syncs_more front c.path-item.result.now s0 s1 s2 c.loop-path.invariant.counts.own c.sync_beside.ensures.counts.own c.loop-path.invariant.exact (c.in_ok-sync_beside.ensures.exact (not_refused c.in_ok-sync_beside.field-0)) quiet);
      slips = slips_more (map path_of paths) front c.path-item.result.now s0 s1 s2 (λ d stand. at_one path_of paths i c.path-item.result c.loop-path-test.true c.path-item.is (λ path. IsSome (d path)) stand) c.loop-path.invariant.synced c.loop-path.invariant.slips c.sync_beside.ensures.slips;
      spots = c.sync_beside.ensures.spots;
      counts = counts_more ⊥ s0 s1 s2 c.loop-path.invariant.counts (counts_done _ s1 s2 (not_failed c.in_ok-sync_beside.field-0) c.in_ok-sync_beside.ensures.counts);
    }
