-- A step leaves an end within the limits.
use Rattle.std.proofs.Common.{ℕ, ◌≤◌, subst, sym}
use Rattle.wdt_units.specs.declared.numbers.Lane.{Lane}
use Rattle.wdt_tree.specs.Listing.{IsManifest}
use Rattle.wdt_sender_fsm.specs.declared.inputs.SendIn.{SendIn}
use Rattle.wdt_sender_fsm.specs.PlainSender.{PlainSender}
use Rattle.wdt_sender_fsm.specs.Touches.{Touches}
use Rattle.wdt_sender_fsm.specs.Turn.{send_turn}
use Rattle.wdt_sender_fsm.specs.Writes.{IsLawful}
use Rattle.wdt_sender_fsm.proofs.lemmas.Touching.{turn_touches}

lawful_on : (s t : PlainSender) (l : Lane) (input : SendIn) → Touches s l input t → IsLawful s → IsLawful t
lawful_on s t l input touches lawful =
    record {
      lanes = subst (λ (n : ℕ). (1 ≤ n) × (n ≤ 16)) (sym touches.lanes) lawful.lanes;
      block = subst (λ (n : ℕ). (1 ≤ n) × (n ≤ 67108864)) (sym touches.block) lawful.block;
      session = subst (λ (n : ℕ). n ≤ 18446744073709551615) (sym touches.session) lawful.session;
      manifest = subst IsManifest (sym touches.manifest) lawful.manifest;
    }

pub turn_lawful : (s : PlainSender) (l : Lane) (input : SendIn) → IsLawful s → IsLawful (send_turn s l input).1
turn_lawful s l input lawful = lawful_on s (send_turn s l input).1 l input (turn_touches s l input) lawful
