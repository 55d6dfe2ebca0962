use Rattle.std.proofs.Common.{◌≡◌, List, [], replicate, ap, ◌∙◌, arith}
use Rattle.wdt_units.specs.declared.blocks.Block.{Block}
use Rattle.wdt_claims.specs.Blocks.{count_of}
use Rattle.wdt_claims.specs.LaneWords.{Claims, claimed, no_claims, sent}
use Rattle.wdt_claims.proofs.Shared.{count_of-append, count_of-nil}
use Rattle.wdt_claims.specs.Checks.{goes_back}
use Rattle.wdt_claims.specs.Claimed.{count_kept, lane_at, with_lane}
use Rattle.wdt_history.specs.Slots.{Book}
use Rattle.wdt_history.proofs.Keeps.{count_kept-none}
use Rattle.wdt_history.proofs.tests.a_block_comes_home.Goals as goal

none_back : (b : Block) (first after_claim after_sent : List Claims) → first ≡ replicate 2 no_claims → after_claim ≡ with_lane first 1 (claimed b (lane_at first 1)) → after_sent ≡ with_lane after_claim 1 (sent (lane_at after_claim 1))
    → goes_back (lane_at after_sent 1) 2 ≡ []
none_back b first after_claim after_sent e f g =
    ap (λ (lanes : List Claims). goes_back (lane_at lanes 1) 2)
    (g ∙ ap (λ (lanes : List Claims). with_lane lanes 1 (sent (lane_at lanes 1))) (f ∙ ap (λ (lanes : List Claims). with_lane lanes 1 (claimed b (lane_at lanes 1))) e))

abbrev lanes_in : Book → List Claims
lanes_in book = book.lanes

pub of-requires-clause-distinct : goal.of-requires-clause-distinct
of-requires-clause-distinct g c = λ b. omega (arith, ap (count_of b) c.new.ensures.items, count_of-nil b)

pub claim-requires-clause-absent : goal.claim-requires-clause-absent
claim-requires-clause-absent g c =
    ap (λ (book : Book). count_kept _ book.lanes) c.in_ok-prepare.ensures.ready
    ∙ ap (λ (book : Book). count_kept _ book.lanes) c.in_ok-history.ensures
    ∙ count_kept-none _ 2

pub global-told-requires-clause-absent : goal.global-told-requires-clause-absent
global-told-requires-clause-absent g c = λ b.
    omega (
      arith,
      count_of-append b c.in_ok-queue.queue.waiting (goes_back (lane_at c.sent.new.self.lanes 1) 2),
      c.in_ok-queue.ensures.blocks b,
      ap (count_of b) c.new.ensures.items,
      ap (count_of b)
          (none_back _ c.prepare.new.self.lanes c.claim.new.self.lanes c.sent.new.self.lanes
          (ap lanes_in c.in_ok-prepare.ensures.ready ∙ ap lanes_in c.in_ok-history.ensures)
          (ap lanes_in c.in_ok-claim.ensures.claimed)
          (ap lanes_in c.sent.ensures)),
      count_of-nil b,
    )
