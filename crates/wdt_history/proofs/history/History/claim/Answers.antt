use Rattle.std.proofs.Common.{◌≡◌, None, map, set, sym, ap, ◌∙◌, subst, refl}
use Rattle.wdt_claims.specs.LaneWords.{claimed}
use Rattle.wdt_claims.specs.Claimed.{lane_at, with_lane, AreLanes}
use Rattle.wdt_history.specs.Slots.{Book, claims_in}
use Rattle.wdt_history.proofs.Keeps.{lanes_claimed}
use Rattle.wdt_history.proofs.Slots.{read_as, seen_as, same_book}
use Rattle.wdt_history.proofs.history.History.claim.Goals as goal

lanes_are : (c : goal.After-self-2-1) → map claims_in c.self.inside.lanes.items ≡ c.args.self.now.lanes
lanes_are c = ap (λ (b : Book). b.lanes) c.self.view_is

behind : (c : goal.After-self-2-1) → map claims_in (set c.self.inside.lanes.items c.args.lane.0 c.claim.new.self) ≡ with_lane c.args.self.now.lanes c.args.lane.0 (claimed c.args.block (lane_at c.args.self.now.lanes c.args.lane.0))
behind c =
    seen_as c.self.inside.lanes.items c.args.lane.0 c.claim.new.self (claimed c.args.block (lane_at c.args.self.now.lanes c.args.lane.0)) c.args.self.now.lanes (lanes_are c)
    (c.in_ok-claim.ensures.claimed ∙ ap (claimed c.args.block) (read_as c.self.inside.lanes.items c.args.lane.0 c.index_mut.result.now c.args.self.now.lanes (lanes_are c) c.requires.lane c.index_mut.ensures.value))

pub invariant_of-self-2 : goal.invariant_of-self-2
invariant_of-self-2 c = record {
  lanes = subst AreLanes (sym (behind c)) (lanes_claimed c.args.self.now.lanes c.args.lane.0 c.args.block (subst AreLanes (lanes_are c) c.self.invariant.lanes) c.requires.lane c.requires.still_open c.requires.few c.requires.absent);
  room = tt;
}

pub returns-clause-claimed : goal.returns-clause-claimed
returns-clause-claimed c = same_book (map claims_in (set c.self.inside.lanes.items c.args.lane.0 c.claim.new.self)) (with_lane c.args.self.now.lanes c.args.lane.0 (claimed c.args.block (lane_at c.args.self.now.lanes c.args.lane.0))) None None (behind c) refl
