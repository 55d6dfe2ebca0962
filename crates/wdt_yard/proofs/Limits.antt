-- A sender within the limits begins within them, and stays there.
use Rattle.std.proofs.Common.{ℕ, ◌<◌, ◌≤◌, ◌^◌, List, replicate, sym, subst, arith}
use Rattle.std.proofs.lemmas.List.{length-replicate}
use Rattle.wdt_units.specs.declared.limits.TheConstants.{MAX_BLOCK}
use Rattle.wdt_units.specs.declared.numbers.Lane.{Lane}
use Rattle.wdt_tree.specs.Listing.{IsManifest}
use Rattle.wdt_tree.specs.declared.entry.Entry.{Entry}
use Rattle.wdt_sender_fsm.specs.declared.inputs.SendIn.{SendIn}
use Rattle.wdt_sender_fsm.specs.PlainSender.{PlainSender, new_lane, opened}
use Rattle.wdt_sender_fsm.specs.Touches.{Touches}
use Rattle.wdt_sender_fsm.specs.Writes.{IsLawful}

pub begins_within : (manifest : List Entry) (block session n : ℕ) → 1 ≤ n → n ≤ 16 → 1 ≤ block → block ≤ MAX_BLOCK → session < 2 ^ 64 → IsManifest manifest
    → IsLawful (opened manifest block session (replicate n new_lane))
begins_within manifest block session n some few least most fits is = record {
  lanes = (omega (arith, length-replicate n new_lane), omega (arith, length-replicate n new_lane));
  block = (least, most);
  session = omega arith;
  manifest = is;
}

pub stays_within : (s : PlainSender) (l : Lane) (input : SendIn) (t : PlainSender) → Touches s l input t → IsLawful s → IsLawful t
stays_within s l input t touches is = record {
  lanes = (omega (arith, touches.lanes, is.lanes.0), omega (arith, touches.lanes, is.lanes.1));
  block = (omega (arith, touches.block, is.block.0), omega (arith, touches.block, is.block.1));
  session = omega (arith, touches.session, is.session);
  manifest = subst IsManifest (sym touches.manifest) is.manifest;
}
