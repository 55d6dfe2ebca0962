-- An end that begins is of its run.
use Rattle.std.proofs.Common.{◌≡◌, ℕ, List, replicate, Option, Some, None, refl, sym, ap}
use Rattle.std.proofs.lemmas.Bool.{both_ways}
use Rattle.wdt_tree.specs.Told.{ToldRun}
use Rattle.wdt_tree.specs.declared.entry.Entry.{Entry}
use Rattle.wdt_sender_fsm.specs.declared.answers.EndAnswer.TheVariants.{Going}
use Rattle.wdt_sender_fsm.specs.PlainSender.{PlainSender, new_lane, opened}
use Rattle.wdt_sender_fsm.specs.Rules.{is_failure}
use Rattle.wdt_sender_fsm.specs.Writes.{IsLawful}
use Rattle.wdt_lanes.specs.Kept.{IsKept, Lists}

none_read : (run : Option ToldRun) (manifest : List Entry) (block session n : ℕ) → Lists run manifest → IsLawful (opened manifest block session (replicate n new_lane)) → IsKept run record { manifest = manifest; block = block } (opened manifest block session (replicate n new_lane))
none_read None manifest block session n lists lawful = record { lawful = lawful; tree = lists; listed = tt; manifest = refl; block = refl; refused = tt }
none_read (Some run) manifest block session n lists lawful = record {
  lawful = lawful;
  tree = lists;
  listed = tt;
  manifest = refl;
  block = refl;
  refused = λ kind e. absurd (both_ways (is_failure Going) refl (ap is_failure e));
}

-- an end that is opened with a manifest that lists the run's tree is of the run
pub opened_kept : (run : Option ToldRun) (manifest : List Entry) (block session n : ℕ) (s : PlainSender) → s ≡ opened manifest block session (replicate n new_lane) → IsLawful s → Lists run manifest → IsKept run record { manifest = manifest; block = block } s
opened_kept run manifest block session n s is lawful lists = rw is (none_read run manifest block session n lists (rw (sym is) lawful))
