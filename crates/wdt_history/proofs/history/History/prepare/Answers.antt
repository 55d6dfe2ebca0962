use Rattle.std.proofs.Common.{◌≡◌, ◌<◌, List, length, map, set, sym, ap, ◌∙◌, subst, refl, Some}
use Rattle.wdt_claims.specs.LaneWords.{Claims}
use Rattle.wdt_claims.specs.Claimed.{AreLanes}
use Rattle.wdt_history.specs.Slots.{Book, claims_in}
use Rattle.wdt_history.proofs.Slots.{room_made, same_claims, same_book}
use Rattle.wdt_history.proofs.history.History.prepare.Goals as goal

there : (c : goal.After-self-2-1) → c.args.lane.0 < length (map claims_in c.self.inside.lanes.items)
there c = subst (λ (xs : List Claims). c.args.lane.0 < length xs) (sym (ap (λ (b : Book). b.lanes) c.self.view_is)) c.requires

same : (c : goal.After-self-2-1) → map claims_in (set c.self.inside.lanes.items c.args.lane.0 c.prepare.new.self) ≡ map claims_in c.self.inside.lanes.items
same c = same_claims c.self.inside.lanes.items c.args.lane.0 c.index_mut.result.now c.prepare.new.self (there c) c.index_mut.ensures.value c.prepare.ensures.claims

pub invariant_of-self-2 : goal.invariant_of-self-2
invariant_of-self-2 c = record {
  lanes = subst AreLanes (sym (same c)) c.self.invariant.lanes;
  room = room_made c.self.inside.lanes.items c.args.lane c.prepare.new.self (there c) c.in_ok-prepare.ensures.room;
}

pub returns-clause-ready : goal.returns-clause-ready
returns-clause-ready c =
    same_book (map claims_in (set c.self.inside.lanes.items c.args.lane.0 c.prepare.new.self)) c.args.self.now.lanes (Some c.args.lane) (Some c.args.lane) (same c ∙ ap (λ (b : Book). b.lanes) c.self.view_is) refl
