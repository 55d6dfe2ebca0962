use Rattle.std.proofs.Common.{◌≡◌, List, get_or, set, map, take, drop, ◌++◌, length, sym, ap, ◌∙◌, subst, arith}
use Rattle.wdt_claims.specs.LaneWords.{finished}
use Rattle.wdt_claims.specs.Claimed.{AreLanes, IsLane}
use Rattle.wdt_history.specs.Slots.{Book, Slot, IsBook, claims_in, finished_slot}
use Rattle.wdt_history.proofs.Slots.{book_finished, finished_all, lane_in, same_book}
use Rattle.wdt_history.proofs.Turns.{next_of, more_of, all_of}
use Rattle.wdt_history.proofs.history.History.finish.Goals as goal

whole : (c : goal.After-self-1) → c.deref_mut-lane-items.result.now ≡ c.self.inside.lanes.items
whole c = c.deref_mut-lane-items.ensures.value

all_done : (c : goal.After-self-1) → take c.self.inside.lanes.len (c.loop-lane.lane-items ++ drop (length c.loop-lane.lane-items) c.self.inside.lanes.items) ≡ map finished_slot c.self.inside.lanes.items
all_done c =
    all_of finished_slot c.deref_mut-lane-items.result.now c.loop-lane.lane-items _ c.loop-lane.lane-index c.self.inside.lanes.len c.loop-lane.invariant c.loop-lane-test.false (omega (arith, c.deref_mut-lane-items.ensures.len, c.loop-lane.auto.lane-items))
    ∙ ap (map finished_slot) (whole c)

pub invariant_of-self : goal.invariant_of-self
invariant_of-self c =
    subst (λ (xs : List Slot). IsBook xs c.self.inside.ready) (sym (all_done c)) (book_finished c.self.inside.lanes.items c.self.inside.ready c.self.invariant)

pub finish-requires : goal.finish-requires
finish-requires c =
    let first = c.deref_mut-lane-items.result.now in
    let same : first ≡ c.self.inside.lanes.items = c.deref_mut-lane-items.ensures.value in
    subst (λ (s : Slot). IsLane s.claims) (sym (ap (λ (xs : List Slot). get_or xs c.loop-lane.lane-index c.lane-item.result) c.loop-lane.invariant ∙ next_of finished_slot first c.loop-lane.lane-index c.lane-item.result c.loop-lane-test.true))
    (lane_in first c.loop-lane.lane-index c.lane-item.result (subst (λ (xs : List Slot). AreLanes (map claims_in xs)) (sym same) c.self.invariant.lanes) c.loop-lane-test.true)

pub loop-lane-preserved : goal.loop-lane-preserved
loop-lane-preserved c =
    let first = c.deref_mut-lane-items.result.now in
    let item = c.lane-item.result in
    let read = ap (λ (xs : List Slot). get_or xs c.loop-lane.lane-index item) c.loop-lane.invariant ∙ next_of finished_slot first c.loop-lane.lane-index item c.loop-lane-test.true in
    ap (λ (xs : List Slot). set xs c.loop-lane.lane-index c.finish.new.self) c.loop-lane.invariant
    ∙ ap (set _ c.loop-lane.lane-index) (c.finish.ensures ∙ ap finished_slot read)
    ∙ more_of finished_slot first c.loop-lane.lane-index item c.loop-lane-test.true

pub returns : goal.returns
returns c =
    same_book (map claims_in (take c.self.inside.lanes.len (c.loop-lane.lane-items ++ drop (length c.loop-lane.lane-items) c.self.inside.lanes.items))) (map finished c.args.self.now.lanes) c.self.inside.ready c.args.self.now.ready
    (ap (map claims_in) (all_done c) ∙ finished_all c.self.inside.lanes.items ∙ ap (λ (b : Book). map finished b.lanes) c.self.view_is)
    (ap (λ (b : Book). b.ready) c.self.view_is)
