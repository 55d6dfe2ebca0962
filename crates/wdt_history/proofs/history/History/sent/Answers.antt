use Rattle.std.proofs.Common.{◌≡◌, map, set, sym, ap, ◌∙◌, subst, arith}
use Rattle.wdt_claims.specs.LaneWords.{Claims, sent}
use Rattle.wdt_claims.specs.Claimed.{lane_at, with_lane, AreLanes}
use Rattle.wdt_history.specs.Slots.{Book, Slot, claims_in}
use Rattle.wdt_history.proofs.Keeps.{sent_keeps}
use Rattle.wdt_history.proofs.Slots.{read_as, seen_as, slot_put, same_book}
use Rattle.wdt_history.proofs.history.History.sent.Goals as goal

lanes_are : (c : goal.After-self-1) → map claims_in c.self.inside.lanes.items ≡ c.args.self.now.lanes
lanes_are c = ap (λ (b : Book). b.lanes) c.self.view_is

is_sent : (c : goal.After-self-1) → c.sent.new.self.claims ≡ sent (lane_at c.args.self.now.lanes c.args.lane.0)
is_sent c =
    ap claims_in c.sent.ensures
    ∙ ap sent (read_as c.self.inside.lanes.items c.args.lane.0 c.index_mut.result.now c.args.self.now.lanes (lanes_are c) c.requires c.index_mut.ensures.value)

pub invariant_of-self : goal.invariant_of-self
invariant_of-self c =
    slot_put c.self.inside.lanes.items c.args.lane.0 c.index_mut.result.now c.sent.new.self c.self.inside.ready c.args.self.now.lanes c.self.invariant (lanes_are c) c.requires c.index_mut.ensures.value
    (omega (arith, ap (λ (s : Slot). s.room) c.sent.ensures))
    (subst (λ (s : Claims). AreLanes (with_lane c.args.self.now.lanes c.args.lane.0 s)) (sym (is_sent c)) (sent_keeps c.args.self.now.lanes c.args.lane.0 (subst AreLanes (lanes_are c) c.self.invariant.lanes) c.requires))

pub returns : goal.returns
returns c =
    same_book (map claims_in (set c.self.inside.lanes.items c.args.lane.0 c.sent.new.self)) (with_lane c.args.self.now.lanes c.args.lane.0 (sent (lane_at c.args.self.now.lanes c.args.lane.0))) c.self.inside.ready c.args.self.now.ready
    (seen_as c.self.inside.lanes.items c.args.lane.0 c.sent.new.self (sent (lane_at c.args.self.now.lanes c.args.lane.0)) c.args.self.now.lanes (lanes_are c) (is_sent c))
    (ap (λ (b : Book). b.ready) c.self.view_is)
