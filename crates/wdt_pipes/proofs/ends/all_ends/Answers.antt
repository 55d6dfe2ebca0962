use Rattle.std.proofs.Common.{◌≡◌, ℕ, ◌+◌, List, [], ◌∷◌, ◌++◌, add-one}
use Rattle.wdt_units.specs.declared.numbers.Lane.{Lane}
use Rattle.wdt_pipes.specs.Ends.{EndView, fails_of, new_end, new_ends}
use Rattle.wdt_pipes.proofs.ends.all_ends.Goals as goal

-- one lane's end behind those of the lanes before it
one_more : (pairs : List (Lane × ℕ)) (n : ℕ) (before after : List EndView) (end : EndView) (fails : List ℕ) → before ≡ new_ends n pairs → fails ≡ fails_of n pairs → end ≡ new_end fails → after ≡ before ++ end ∷ [] → after ≡ new_ends (n + 1) pairs
one_more pairs n before after end fails b f e a = rw add-one (cc)

pub loop-lane-preserved : goal.loop-lane-preserved
loop-lane-preserved g c = record {
  dialers = one_more c.args.dial_fails.now c.loop-lane.lane c.loop-lane.dialers.items c.push.new.self.items c.in_ok-dialer.dialer c.in_ok-dial_fails.dial_fails.items c.loop-lane.invariant.dialers c.in_ok-dial_fails.ensures c.in_ok-dialer.ensures.dialer c.in_ok-push.ensures.items;
  acceptors = one_more c.args.accept_fails.now c.loop-lane.lane c.loop-lane.acceptors.items c.push-in-loop-lane.new.self.items c.in_ok-dialer.acceptor c.in_ok-accept_fails.accept_fails.items c.loop-lane.invariant.acceptors c.in_ok-accept_fails.ensures c.in_ok-dialer.ensures.acceptor c.in_ok-push-2.ensures.items;
}
