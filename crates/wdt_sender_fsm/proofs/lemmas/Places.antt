-- Where blocks stand in a plain sender, and that confirmed blocks stay so through a step.
use Rattle.std.proofs.Common.{◌≡◌, ℕ, ◌<◌, ◌≤◌, List, length, true, Option, Some, None, IfSome, subst, sym, ap}
use Rattle.wdt_units.specs.Have.{HaveFile}
use Rattle.wdt_units.specs.declared.blocks.Block.{Block}
use Rattle.wdt_units.specs.declared.numbers.Lane.{Lane}
use Rattle.wdt_claims.proofs.Shared.{rising_distinct}
use Rattle.wdt_claims.specs.Blocks.{AreDistinct}
use Rattle.wdt_claims.specs.Places.{place_of}
use Rattle.wdt_claims.specs.declared.place.Place.TheVariants.{Confirmed}
use Rattle.wdt_tree.specs.Rest.{IsRest, is_rising}
use Rattle.wdt_sender_fsm.specs.declared.events.SendEvent.{SendEvent}
use Rattle.wdt_sender_fsm.specs.declared.inputs.SendIn.{SendIn}
use Rattle.wdt_sender_fsm.specs.Legal.{IsLegal}
use Rattle.wdt_sender_fsm.specs.Places.{claims_of, planned_now-is}
use Rattle.wdt_sender_fsm.specs.PlainSender.{HasPlaces, PlainSender, block_place, blocks_of, listed_blocks}
use Rattle.wdt_sender_fsm.specs.Sender.{FitsIn, IsSender, plan_of}
use Rattle.wdt_sender_fsm.specs.Touches.{Touches}
use Rattle.wdt_sender_fsm.specs.Turn.{send_turn}
use Rattle.wdt_sender_fsm.proofs.lemmas.Confirmed.{stays_confirmed}
use Rattle.wdt_sender_fsm.proofs.lemmas.Counts.{plan_rises}
use Rattle.wdt_sender_fsm.proofs.lemmas.Histories.{kept_on}
use Rattle.wdt_sender_fsm.proofs.lemmas.Placed.{placed_once}
use Rattle.wdt_sender_fsm.proofs.lemmas.Planned.{plan_is_rest}
use Rattle.wdt_sender_fsm.proofs.lemmas.Touching.{turn_touches}
use Rattle.wdt_sender_fsm.proofs.lemmas.Turns.{turn_keeps}

-- ---- one place each

rises : (s : PlainSender) → IsSender s → 1 ≤ s.block → is_rising (blocks_of s) ≡ true
rises s is some = go s.have is.plan.planned (plan_is_rest s is some) where
  go : (o : Option (List HaveFile)) → s.planned ≡ plan_of s.manifest s.block o → IfSome o (λ have. IsRest s.manifest have s.block (blocks_of s)) → is_rising (blocks_of s) ≡ true
  go None planned rest = ap (λ (p : Option (List Block)). is_rising (listed_blocks p)) planned
  go (Some have) planned rest = rest.rising

pub places : (s : PlainSender) → IsSender s → 1 ≤ s.block → HasPlaces s
places s is some = record {
  distinct = subst AreDistinct (sym (planned_now-is (blocks_of s) s.history)) (rising_distinct (blocks_of s) (plan_rises (blocks_of s) (rises s is some)));
  shared = placed_once (length s.lanes) (blocks_of s) s.history (rises s is some) is.legal;
}

-- ---- confirmed blocks

abbrev IsSure : ℕ → Block → List SendEvent → Type 0
IsSure n b h = place_of b (claims_of n h) ≡ Confirmed

sure_on : (s t : PlainSender) (l : Lane) (input : SendIn) (b : Block) → Touches s l input t → IsSender t → block_place s b ≡ Confirmed → block_place t b ≡ Confirmed
sure_on s t l input b touches is sure =
    subst (λ (h : List SendEvent). IsSure (length t.lanes) b h) (sym touches.history.behind)
    (kept_on (length t.lanes) (blocks_of t) (IsSure (length t.lanes) b) (λ h e before allowed. stays_confirmed (length t.lanes) (blocks_of t) h e b allowed before) s.history touches.history.entries
    (subst (λ (n : ℕ). IsSure n b s.history) (sym touches.lanes) sure) (subst (λ (h : List SendEvent). IsLegal (length t.lanes) (blocks_of t) h) touches.history.behind is.legal))

pub turn_confirmed : (s : PlainSender) (l : Lane) (input : SendIn) (b : Block) → IsSender s → l.0 < length s.lanes → FitsIn input → block_place s b ≡ Confirmed → block_place (send_turn s l input).1 b ≡ Confirmed
turn_confirmed s l input b is within fit sure = sure_on s (send_turn s l input).1 l input b (turn_touches s l input) (turn_keeps s l input is within fit) sure
