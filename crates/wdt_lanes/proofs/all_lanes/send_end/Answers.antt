use Rattle.std.proofs.Common.{◌≡◌, Some, ap, sym, map, ◌∙◌, arith}
use Rattle.wdt_units.specs.LaneSets.{has_lane}
use Rattle.wdt_lanes.specs.Held.{RoseFor}
use Rattle.wdt_lanes.specs.Seats.{RoseAtRest, SamePass}
use Rattle.wdt_lanes.proofs.Ending.{among_in, counted, dialer_lanes, flag_in, pass_lanes, rested, rose_in, same_numbers, seat_count, seat_has, seat_tells, source_lanes, whole}
use Rattle.wdt_lanes.proofs.all_lanes.send_end.Goals as goal

pub returns-then-is_err-clause-cut : goal.returns-then-is_err-clause-cut
returns-then-is_err-clause-cut g c =
    let each = c.retire_all.ensures in
    rested _ g.C.Dial.faults _ _ _ c.retire_all.new.dialers _ c.as_mut_slice.ensures.value (whole _ _ _ (each.same ∙ c.as_mut_slice.ensures.len)) c.empty-then-is_err.ensures each (λ k o n r. r.1)

pub returns-then-is_err-clause-alarmed : goal.returns-then-is_err-clause-alarmed
returns-then-is_err-clause-alarmed g c =
    let each = c.retire_all.ensures in
    rested _ g.C.Dial.alarms _ _ _ c.retire_all.new.dialers _ c.as_mut_slice.ensures.value (whole _ _ _ (each.same ∙ c.as_mut_slice.ensures.len)) c.empty-then-is_err-2.ensures each (λ k o n r. r.2)

pub seat_all-requires-clause-sources : goal.seat_all-requires-clause-sources
seat_all-requires-clause-sources g c = c.args.sources.ok.0 ∙ c.requires.sources ∙ sym (counted _ _ _ c.requires.all) ∙ sym c.args.passes.ok.0

pub seat_all-requires-clause-dialers : goal.seat_all-requires-clause-dialers
seat_all-requires-clause-dialers g c = c.args.dialers.ok.0 ∙ c.requires.dialers ∙ sym (counted _ _ _ c.requires.all) ∙ sym c.args.passes.ok.0

pub run_lanes-hub-requires-after_bounds : goal.run_lanes-hub-requires-after_bounds
run_lanes-hub-requires-after_bounds g c κs within k d lt =
    let seated = c.seat_all.ensures in
    let now = c.as_mut_slice-2.ensures.value in
    let seats = c.as_mut_slice-2.result.now in
    record {
      pass = seat_has (λ p. g.H.Hub.has c.args.hub p) (λ s. s.pass) seats _ (ap (map (λ s. s.pass)) now ∙ seated.passes) c.requires.passes k d lt;
      none_out = seat_has (λ x. g.C.Dial.out x ≡ 0) (λ s. s.dialer) seats _ (ap (map (λ s. s.dialer)) now ∙ seated.dialers) c.requires.out k d lt;
      tree = seat_tells g.N.Run.told (λ r x. g.S.Source.told x ≡ Some r.tree) (λ s. s.source) seats _ (ap (map (λ s. s.source)) now ∙ seated.sources) c.requires.told k d lt;
    }

pub returns-clause-passes : goal.returns-clause-passes
returns-clause-passes g c =
    let ran = c.run_lanes-hub.ensures.ran in
    let now = c.as_mut_slice-2.ensures.value in
    let all = whole _ c.run_lanes-hub.new.seats _ (ran.same ∙ c.as_mut_slice-2.ensures.len) in
    let each =
    pass_lanes (λ lane o n. SamePass g.H.Hub.has g.H.Hub.lane c.args.hub o n) c.as_mut_slice-2.result.now c.run_lanes-hub.new.seats c.args.passes.items c.unseat_all.new.passes.items
    (ap (map (λ s. s.pass)) now ∙ c.seat_all.ensures.passes) (c.unseat_all.ensures.passes ∙ ap (map (λ s. s.pass)) all) ran.same (λ k d lt. (ran.at k d lt).pass)
    in
    λ k d lt. (each.at k d (omega (arith, lt, each.same))).pass

pub returns-clause-all : goal.returns-clause-all
returns-clause-all g c =
    let ran = c.run_lanes-hub.ensures.ran in
    let now = c.as_mut_slice-2.ensures.value in
    let all = whole _ c.run_lanes-hub.new.seats _ (ran.same ∙ c.as_mut_slice-2.ensures.len) in
    let each =
    pass_lanes (λ lane o n. SamePass g.H.Hub.has g.H.Hub.lane c.args.hub o n) c.as_mut_slice-2.result.now c.run_lanes-hub.new.seats c.args.passes.items c.unseat_all.new.passes.items
    (ap (map (λ s. s.pass)) now ∙ c.seat_all.ensures.passes) (c.unseat_all.ensures.passes ∙ ap (map (λ s. s.pass)) all) ran.same (λ k d lt. (ran.at k d lt).pass)
    in
    same_numbers g.H.Hub.lane _ _ each.same (λ k d lt. (each.at k d lt).number) ∙ c.requires.all

pub returns-clause-sources : goal.returns-clause-sources
returns-clause-sources g c =
    let ran = c.run_lanes-hub.ensures.ran in
    let all = whole _ c.run_lanes-hub.new.seats _ (ran.same ∙ c.as_mut_slice-2.ensures.len) in
    source_lanes _ c.as_mut_slice-2.result.now c.run_lanes-hub.new.seats _ _ (ap (map (λ s. s.source)) c.as_mut_slice-2.ensures.value ∙ c.seat_all.ensures.sources) (c.unseat_all.ensures.sources ∙ ap (map (λ s. s.source)) all) ran.same (λ k d lt. (ran.at k d lt).source)

pub returns-clause-dialers : goal.returns-clause-dialers
returns-clause-dialers g c =
    let ran = c.run_lanes-hub.ensures.ran in
    let all = whole _ c.run_lanes-hub.new.seats _ (ran.same ∙ c.as_mut_slice-2.ensures.len) in
    dialer_lanes _ c.as_mut_slice-2.result.now c.run_lanes-hub.new.seats _ _ (ap (map (λ s. s.dialer)) c.as_mut_slice-2.ensures.value ∙ c.seat_all.ensures.dialers) (c.unseat_all.ensures.dialers ∙ ap (map (λ s. s.dialer)) all) ran.same
    (λ k d lt. (ran.at k d lt).dialer)

pub returns-clause-lost : goal.returns-clause-lost
returns-clause-lost g c =
    let ran = c.run_lanes-hub.ensures.ran in
    let set = c.flagged-flags.result.lost in
    let all = whole _ c.run_lanes-hub.new.seats _ (ran.same ∙ c.as_mut_slice-2.ensures.len) in
    let flag = flag_in (λ s. s.lost) set c.as_slice.result.now c.run_lanes-hub.new.seats c.as_mut_slice-2.result.now (c.as_slice.ensures.value ∙ all) ran.same c.flagged-flags.ensures.lost in
    source_lanes (λ lane o n. RoseFor (has_lane set lane) (g.S.Source.faults o) (g.S.Source.faults n)) c.as_mut_slice-2.result.now c.run_lanes-hub.new.seats _ _ (ap (map (λ s. s.source)) c.as_mut_slice-2.ensures.value ∙ c.seat_all.ensures.sources) (c.unseat_all.ensures.sources ∙ ap (map (λ s. s.source)) all) ran.same
    (λ k d lt. rose_in set k _ _ _ (flag k d lt) (ran.at k d lt).lost)

pub returns-clause-cut : goal.returns-clause-cut
returns-clause-cut g c =
    let ran = c.run_lanes-hub.ensures.ran in
    let set = c.flagged-flags.result.cut in
    let all = whole _ c.run_lanes-hub.new.seats _ (ran.same ∙ c.as_mut_slice-2.ensures.len) in
    let flag = flag_in (λ s. s.cut) set c.as_slice.result.now c.run_lanes-hub.new.seats c.as_mut_slice-2.result.now (c.as_slice.ensures.value ∙ all) ran.same c.flagged-flags.ensures.cut in
    dialer_lanes (λ lane o n. RoseAtRest (has_lane set lane) g.C.Dial.faults o n) c.as_mut_slice-2.result.now c.run_lanes-hub.new.seats _ _ (ap (map (λ s. s.dialer)) c.as_mut_slice-2.ensures.value ∙ c.seat_all.ensures.dialers) (c.unseat_all.ensures.dialers ∙ ap (map (λ s. s.dialer)) all) ran.same
    (λ k d lt. rose_in set k _ _ _ (flag k d lt) (ran.at k d lt).cut)

pub returns-clause-alarmed : goal.returns-clause-alarmed
returns-clause-alarmed g c =
    let ran = c.run_lanes-hub.ensures.ran in
    let set = c.flagged-flags.result.alarmed in
    let all = whole _ c.run_lanes-hub.new.seats _ (ran.same ∙ c.as_mut_slice-2.ensures.len) in
    let flag = flag_in (λ s. s.alarmed) set c.as_slice.result.now c.run_lanes-hub.new.seats c.as_mut_slice-2.result.now (c.as_slice.ensures.value ∙ all) ran.same c.flagged-flags.ensures.alarmed in
    dialer_lanes (λ lane o n. RoseAtRest (has_lane set lane) g.C.Dial.alarms o n) c.as_mut_slice-2.result.now c.run_lanes-hub.new.seats _ _ (ap (map (λ s. s.dialer)) c.as_mut_slice-2.ensures.value ∙ c.seat_all.ensures.dialers) (c.unseat_all.ensures.dialers ∙ ap (map (λ s. s.dialer)) all) ran.same
    (λ k d lt. rose_in set k _ _ _ (flag k d lt) (ran.at k d lt).alarmed)

pub returns-clause-lost_among : goal.returns-clause-lost_among
returns-clause-lost_among g c =
    let ran = c.run_lanes-hub.ensures.ran in
    let all = whole _ c.run_lanes-hub.new.seats _ (ran.same ∙ c.as_mut_slice-2.ensures.len) in
    let count = seat_count g.H.Hub.lane c.as_mut_slice-2.result.now _ _ (ap (map (λ s. s.pass)) c.as_mut_slice-2.ensures.value ∙ c.seat_all.ensures.passes) c.requires.all in
    among_in (λ s. s.lost) c.flagged-flags.result.lost c.as_slice.result.now c.run_lanes-hub.new.seats c.as_mut_slice-2.result.now _ (c.as_slice.ensures.value ∙ all) ran.same count c.flagged-flags.ensures.lost

pub returns-clause-cut_among : goal.returns-clause-cut_among
returns-clause-cut_among g c =
    let ran = c.run_lanes-hub.ensures.ran in
    let all = whole _ c.run_lanes-hub.new.seats _ (ran.same ∙ c.as_mut_slice-2.ensures.len) in
    let count = seat_count g.H.Hub.lane c.as_mut_slice-2.result.now _ _ (ap (map (λ s. s.pass)) c.as_mut_slice-2.ensures.value ∙ c.seat_all.ensures.passes) c.requires.all in
    among_in (λ s. s.cut) c.flagged-flags.result.cut c.as_slice.result.now c.run_lanes-hub.new.seats c.as_mut_slice-2.result.now _ (c.as_slice.ensures.value ∙ all) ran.same count c.flagged-flags.ensures.cut

pub returns-clause-alarmed_among : goal.returns-clause-alarmed_among
returns-clause-alarmed_among g c =
    let ran = c.run_lanes-hub.ensures.ran in
    let all = whole _ c.run_lanes-hub.new.seats _ (ran.same ∙ c.as_mut_slice-2.ensures.len) in
    let count = seat_count g.H.Hub.lane c.as_mut_slice-2.result.now _ _ (ap (map (λ s. s.pass)) c.as_mut_slice-2.ensures.value ∙ c.seat_all.ensures.passes) c.requires.all in
    among_in (λ s. s.alarmed) c.flagged-flags.result.alarmed c.as_slice.result.now c.run_lanes-hub.new.seats c.as_mut_slice-2.result.now _ (c.as_slice.ensures.value ∙ all) ran.same count c.flagged-flags.ensures.alarmed
