use Rattle.std.proofs.Common.{◌≡◌, ◌+◌, ◌++◌, List, None, map, set, drop, sym, ap, ◌∙◌, subst, refl}
use Rattle.wdt_claims.specs.Blocks.{count_of, HaveSameBlocks}
use Rattle.wdt_claims.specs.LaneWords.{Claims, cut_to}
use Rattle.wdt_claims.specs.Checks.{fault_of}
use Rattle.wdt_claims.specs.Claimed.{lane_at, with_lane, count_kept, AreLanes}
use Rattle.wdt_history.specs.Slots.{Book, claims_in}
use Rattle.wdt_history.proofs.Slots.{read_as, seen_as, slot_put, same_book}
use Rattle.wdt_history.proofs.Turns.{conserved, cut_keeps}
use Rattle.wdt_history.proofs.history.History.local.Goals as goal

lanes_are : (c : goal.After-self-2-1) → map claims_in c.self.inside.lanes.items ≡ c.args.self.now.lanes
lanes_are c = ap (λ (b : Book). b.lanes) c.self.view_is

here : (c : goal.After-self-2-1) → c.index_mut-claims.result.now.claims ≡ lane_at c.args.self.now.lanes c.args.lane.0
here c = read_as c.self.inside.lanes.items c.args.lane.0 c.index_mut-claims.result.now c.args.self.now.lanes (lanes_are c) c.requires.lane c.index_mut-claims.ensures.value

-- the lane's new claims
is_cut : (c : goal.After-self-2-1) → c.cut.new.self.claims ≡ cut_to c.args.n 0 (lane_at c.args.self.now.lanes c.args.lane.0)
is_cut c = c.cut.ensures.cut ∙ ap (cut_to c.args.n 0) (here c)

behind : (c : goal.After-self-2-1) → map claims_in (set c.self.inside.lanes.items c.args.lane.0 c.cut.new.self) ≡ with_lane c.args.self.now.lanes c.args.lane.0 (cut_to c.args.n 0 (lane_at c.args.self.now.lanes c.args.lane.0))
behind c = seen_as c.self.inside.lanes.items c.args.lane.0 c.cut.new.self (cut_to c.args.n 0 (lane_at c.args.self.now.lanes c.args.lane.0)) c.args.self.now.lanes (lanes_are c) (is_cut c)

pub invariant_of-self-2 : goal.invariant_of-self-2
invariant_of-self-2 c =
    slot_put c.self.inside.lanes.items c.args.lane.0 c.index_mut-claims.result.now c.cut.new.self c.self.inside.ready c.args.self.now.lanes c.self.invariant (lanes_are c) c.requires.lane c.index_mut-claims.ensures.value c.cut.ensures.kept_room
    (subst (λ (s : Claims). AreLanes (with_lane c.args.self.now.lanes c.args.lane.0 s)) (sym (is_cut c))
    (cut_keeps c.args.self.now.lanes c.args.lane.0 c.args.n (subst AreLanes (lanes_are c) c.self.invariant.lanes) c.requires.lane c.requires.still_open
    (subst (λ (s : Claims). None ≡ fault_of s c.args.n) (here c) c.in_ok-check.ensures)))

pub returns-clause-cut : goal.returns-clause-cut
returns-clause-cut c =
    same_book (map claims_in (set c.self.inside.lanes.items c.args.lane.0 c.cut.new.self)) (with_lane c.args.self.now.lanes c.args.lane.0 (cut_to c.args.n 0 (lane_at c.args.self.now.lanes c.args.lane.0))) c.self.inside.ready c.args.self.now.ready (behind c) (ap (λ (b : Book). b.ready) c.self.view_is)

pub returns-clause-kept : goal.returns-clause-kept
returns-clause-kept c = λ b.
    ap (λ (ls : List Claims). count_of b c.cut.new.queue.waiting + count_kept b ls) (behind c)
    ∙ conserved c.args.self.now.lanes c.args.lane.0 c.args.n (cut_to c.args.n 0 (lane_at c.args.self.now.lanes c.args.lane.0)) c.args.queue.now.waiting c.cut.new.queue.waiting c.requires.lane refl
    (subst (λ (s : Claims). HaveSameBlocks c.cut.new.queue.waiting (c.args.queue.now.waiting ++ drop c.args.n s.kept)) (here c) c.cut.ensures.blocks) b
