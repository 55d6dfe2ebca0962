use Rattle.std.proofs.Common.{◌≡◌, ◌+◌, ◌++◌, List, None, is_some, map, set, drop, sym, ap, ◌∙◌, subst, refl}
use Rattle.wdt_claims.specs.Blocks.{count_of, HaveSameBlocks}
use Rattle.wdt_claims.specs.LaneWords.{Claims, closed_at}
use Rattle.wdt_claims.specs.Checks.{fault_of}
use Rattle.wdt_claims.specs.Claimed.{lane_at, with_lane, count_kept, AreLanes}
use Rattle.wdt_history.specs.Slots.{Book, claims_in}
use Rattle.wdt_history.proofs.Slots.{read_as, seen_as, slot_put, same_book}
use Rattle.wdt_claims.proofs.Shared.{none_of}
use Rattle.wdt_history.proofs.Turns.{conserved, close_keeps}
use Rattle.wdt_history.proofs.history.History.global.Goals as goal

lanes_are : (c : goal.After-self-2-1) → map claims_in c.self.inside.lanes.items ≡ c.args.self.now.lanes
lanes_are c = ap (λ (b : Book). b.lanes) c.self.view_is

here : (c : goal.After-self-2-1) → c.index_mut-claims.result.now.claims ≡ lane_at c.args.self.now.lanes c.args.lane.0
here c = read_as c.self.inside.lanes.items c.args.lane.0 c.index_mut-claims.result.now c.args.self.now.lanes (lanes_are c) c.requires.lane c.index_mut-claims.ensures.value

unclosed : (c : goal.After-self-2-1) → (lane_at c.args.self.now.lanes c.args.lane.0).closed ≡ None
unclosed c =
    ap (λ (s : Claims). s.closed) (sym (here c))
    ∙ none_of c.index_mut-claims.result.now.claims.closed (ap is_some (sym c.closed.ensures) ∙ sym c.is_some.ensures ∙ c.if-is_some.false)

-- the lane's new claims
is_closed : (c : goal.After-self-2-1) → c.close.new.self.claims ≡ closed_at c.args.n 0 (lane_at c.args.self.now.lanes c.args.lane.0)
is_closed c = c.close.ensures.closed ∙ ap (closed_at c.args.n 0) (here c)

behind : (c : goal.After-self-2-1) → map claims_in (set c.self.inside.lanes.items c.args.lane.0 c.close.new.self) ≡ with_lane c.args.self.now.lanes c.args.lane.0 (closed_at c.args.n 0 (lane_at c.args.self.now.lanes c.args.lane.0))
behind c = seen_as c.self.inside.lanes.items c.args.lane.0 c.close.new.self (closed_at c.args.n 0 (lane_at c.args.self.now.lanes c.args.lane.0)) c.args.self.now.lanes (lanes_are c) (is_closed c)

pub invariant_of-self-2 : goal.invariant_of-self-2
invariant_of-self-2 c =
    slot_put c.self.inside.lanes.items c.args.lane.0 c.index_mut-claims.result.now c.close.new.self c.self.inside.ready c.args.self.now.lanes c.self.invariant (lanes_are c) c.requires.lane c.index_mut-claims.ensures.value c.close.ensures.kept_room
    (subst (λ (s : Claims). AreLanes (with_lane c.args.self.now.lanes c.args.lane.0 s)) (sym (is_closed c))
    (close_keeps c.args.self.now.lanes c.args.lane.0 c.args.n (subst AreLanes (lanes_are c) c.self.invariant.lanes) c.requires.lane (unclosed c)
    (subst (λ (s : Claims). None ≡ fault_of s c.args.n) (here c) c.in_ok-check.ensures)))

pub returns-clause-closes : goal.returns-clause-closes
returns-clause-closes c = λ none.
    same_book (map claims_in (set c.self.inside.lanes.items c.args.lane.0 c.close.new.self)) (with_lane c.args.self.now.lanes c.args.lane.0 (closed_at c.args.n 0 (lane_at c.args.self.now.lanes c.args.lane.0))) c.self.inside.ready c.args.self.now.ready (behind c) (ap (λ (b : Book). b.ready) c.self.view_is)

pub returns-clause-kept : goal.returns-clause-kept
returns-clause-kept c = λ b.
    ap (λ (ls : List Claims). count_of b c.close.new.queue.waiting + count_kept b ls) (behind c)
    ∙ conserved c.args.self.now.lanes c.args.lane.0 c.args.n (closed_at c.args.n 0 (lane_at c.args.self.now.lanes c.args.lane.0)) c.args.queue.now.waiting c.close.new.queue.waiting c.requires.lane refl
    (subst (λ (s : Claims). HaveSameBlocks c.close.new.queue.waiting (c.args.queue.now.waiting ++ drop c.args.n s.kept)) (here c) c.close.ensures.blocks) b
