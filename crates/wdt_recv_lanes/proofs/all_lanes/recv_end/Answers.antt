use Rattle.std.proofs.Common.{◌≡◌, sym, ◌∙◌, arith}
use Rattle.wdt_units.specs.LaneSets.{has_lane}
use Rattle.wdt_lanes.specs.Seats.{IsBack, RoseAtRest, SamePass}
use Rattle.wdt_lanes.proofs.Ending.{among_in, counted, flag_in, rested, rose_in, same_numbers, seat_has, whole}
use Rattle.wdt_lanes.proofs.Seating.{each_of}
use Rattle.wdt_recv_lanes.proofs.Counting.{seat_count}
use Rattle.wdt_recv_lanes.proofs.all_lanes.recv_end.Goals as goal

-- ---- where no lane ran

pub returns-then-is_err-clause-cut : goal.returns-then-is_err-clause-cut
returns-then-is_err-clause-cut g c =
    let each = c.retire_all.ensures in
    rested _ g.A.Accept.faults _ _ _ c.retire_all.new.acceptors _ c.as_mut_slice.ensures.value (whole _ _ _ (each.same ∙ c.as_mut_slice.ensures.len)) c.empty.ensures each (λ k o n r. r.1)

pub returns-then-is_err-clause-alarmed : goal.returns-then-is_err-clause-alarmed
returns-then-is_err-clause-alarmed g c =
    let each = c.retire_all.ensures in
    rested _ g.A.Accept.alarms _ _ _ c.retire_all.new.acceptors _ c.as_mut_slice.ensures.value (whole _ _ _ (each.same ∙ c.as_mut_slice.ensures.len)) c.empty-then-is_err.ensures each (λ k o n r. r.2)

-- ---- before the lanes run

pub seat_all-requires-clause-acceptors : goal.seat_all-requires-clause-acceptors
seat_all-requires-clause-acceptors g c = c.args.acceptors.ok.0 ∙ c.requires.acceptors ∙ sym (counted _ _ _ c.requires.all) ∙ sym c.args.passes.ok.0

pub run_lanes-hub-requires-after_bounds : goal.run_lanes-hub-requires-after_bounds
run_lanes-hub-requires-after_bounds g c κs within k d lt =
    let seated = c.seat_all.ensures in
    let seats = c.seat_all.new.seats.items in
    record {
      pass = seat_has (λ p. g.H.Hub.has c.args.hub p) (λ s. s.pass) seats _ seated.passes c.requires.passes k d lt;
      none_out = seat_has (λ x. g.A.Accept.out x ≡ 0) (λ s. s.acceptor) seats _ seated.acceptors c.requires.out k d lt;
    }

-- ---- behind them

pub returns-clause-passes : goal.returns-clause-passes
returns-clause-passes g c =
    let ran = c.run_lanes-hub.ensures.ran in
    let each =
    each_of (λ lane o n. SamePass g.H.Hub.has g.H.Hub.lane c.args.hub o n) (λ s. s.pass) c.seat_all.new.seats.items c.run_lanes-hub.new.seats.items c.args.passes.items c.unseat_all.new.passes.items c.seat_all.ensures.passes c.unseat_all.ensures.passes ran.same
    (λ k d lt. (ran.at k d lt).pass)
    in
    λ k d lt. (each.at k d (omega (arith, lt, each.same))).pass

pub returns-clause-all : goal.returns-clause-all
returns-clause-all g c =
    let ran = c.run_lanes-hub.ensures.ran in
    let each =
    each_of (λ lane o n. SamePass g.H.Hub.has g.H.Hub.lane c.args.hub o n) (λ s. s.pass) c.seat_all.new.seats.items c.run_lanes-hub.new.seats.items c.args.passes.items c.unseat_all.new.passes.items c.seat_all.ensures.passes c.unseat_all.ensures.passes ran.same
    (λ k d lt. (ran.at k d lt).pass)
    in
    same_numbers g.H.Hub.lane _ _ each.same (λ k d lt. (each.at k d lt).number) ∙ c.requires.all

pub returns-clause-acceptors : goal.returns-clause-acceptors
returns-clause-acceptors g c =
    let ran = c.run_lanes-hub.ensures.ran in
    each_of (λ lane o n. IsBack g.A.Accept.out g.A.Accept.mark o n) (λ s. s.acceptor) c.seat_all.new.seats.items c.run_lanes-hub.new.seats.items c.args.acceptors.items c.unseat_all.new.acceptors.items c.seat_all.ensures.acceptors c.unseat_all.ensures.acceptors ran.same
    (λ k d lt. (ran.at k d lt).acceptor)

pub returns-clause-cut : goal.returns-clause-cut
returns-clause-cut g c =
    let ran = c.run_lanes-hub.ensures.ran in
    let set = c.flagged.result.cut in
    each_of (λ lane o n. RoseAtRest (has_lane set lane) g.A.Accept.faults o n) (λ s. s.acceptor) c.seat_all.new.seats.items c.run_lanes-hub.new.seats.items c.args.acceptors.items c.unseat_all.new.acceptors.items c.seat_all.ensures.acceptors c.unseat_all.ensures.acceptors ran.same
    (λ k d lt. rose_in set k _ _ _ (flag_in (λ s. s.cut) set c.as_slice.result.now c.run_lanes-hub.new.seats.items c.seat_all.new.seats.items c.as_slice.ensures.value ran.same c.flagged.ensures.cut k d lt) (ran.at k d lt).cut)

pub returns-clause-alarmed : goal.returns-clause-alarmed
returns-clause-alarmed g c =
    let ran = c.run_lanes-hub.ensures.ran in
    let set = c.flagged.result.alarmed in
    each_of (λ lane o n. RoseAtRest (has_lane set lane) g.A.Accept.alarms o n) (λ s. s.acceptor) c.seat_all.new.seats.items c.run_lanes-hub.new.seats.items c.args.acceptors.items c.unseat_all.new.acceptors.items c.seat_all.ensures.acceptors c.unseat_all.ensures.acceptors ran.same
    (λ k d lt. rose_in set k _ _ _ (flag_in (λ s. s.alarmed) set c.as_slice.result.now c.run_lanes-hub.new.seats.items c.seat_all.new.seats.items c.as_slice.ensures.value ran.same c.flagged.ensures.alarmed k d lt) (ran.at k d lt).alarmed)

pub returns-clause-cut_among : goal.returns-clause-cut_among
returns-clause-cut_among g c =
    among_in (λ s. s.cut) c.flagged.result.cut c.as_slice.result.now c.run_lanes-hub.new.seats.items c.seat_all.new.seats.items (g.H.Hub.lanes c.args.hub) c.as_slice.ensures.value c.run_lanes-hub.ensures.ran.same
    (seat_count (λ s. s.pass) g.H.Hub.lane c.seat_all.new.seats.items c.args.passes.items (g.H.Hub.lanes c.args.hub) c.seat_all.ensures.passes c.requires.all) c.flagged.ensures.cut

pub returns-clause-alarmed_among : goal.returns-clause-alarmed_among
returns-clause-alarmed_among g c =
    among_in (λ s. s.alarmed) c.flagged.result.alarmed c.as_slice.result.now c.run_lanes-hub.new.seats.items c.seat_all.new.seats.items (g.H.Hub.lanes c.args.hub) c.as_slice.ensures.value c.run_lanes-hub.ensures.ran.same
    (seat_count (λ s. s.pass) g.H.Hub.lane c.seat_all.new.seats.items c.args.passes.items (g.H.Hub.lanes c.args.hub) c.seat_all.ensures.passes c.requires.all) c.flagged.ensures.alarmed
