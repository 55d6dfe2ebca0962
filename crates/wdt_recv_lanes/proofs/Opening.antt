-- An end that was opened over a depot as it was handed in is of its run.
use Rattle.std.proofs.Common.{◌≡◌, ℕ, List, [], length, Option, Some, None, sym, ap, ◌∙◌, subst}
use Rattle.std.specs.Prelude.{IfSome, option_map, replicate, sum_by}
use Rattle.wdt_units.specs.Tree.{File, length_of}
use Rattle.wdt_tree.specs.Told.{ToldRun}
use Rattle.wdt_depot.specs.Disk.{seen_of}
use Rattle.wdt_depot.specs.Moments.{IfTold, Told}
use Rattle.wdt_depot.specs.State.{Counts, State}
use Rattle.wdt_good.specs.Logged.{AllFit, GoodSince}
use Rattle.wdt_logfmt.specs.View.{Meaning}
use Rattle.wdt_log.specs.Others.{OthersStand, SlipsStand}
use Rattle.wdt_receiver_fsm.specs.declared.events.RecvEvent.{RecvEvent}
use Rattle.wdt_receiver_fsm.specs.PlainReceiver.{PlainReceiver, new_lane, opened}
use Rattle.wdt_receiver_fsm.specs.ReceiverHistory.{EndPast, end_of, end_of-none}
use Rattle.wdt_receiver_fsm.specs.Writes.{CanTell}
use Rattle.wdt_dock.specs.DockView.{HasLostDisk}
use Rattle.wdt_recv_lanes.specs.Kept.{GoodFor, HadOf, HasTotals, ImagesGood, IsBeside, IsKept, NoSlips, OthersRead, files_of, started_of}

-- nothing was read of the totals yet
no_totals : (run : Option ToldRun) (r : PlainReceiver) → r.history ≡ [] → HasTotals run r
no_totals None r none = tt
no_totals (Some told) r none =
    let unread : (end_of r.history).sized ≡ None = ap (λ (h : List RecvEvent). (end_of h).sized) none ∙ ap (λ (p : EndPast). p.sized) end_of-none in
    subst (λ o. IfSome o (λ totals. totals ≡ (length told.tree, sum_by length_of told.tree))) (sym unread) tt

slips_stand : (old new : Option Told) (n m : ℕ) → OthersStand old new → IfTold (λ t. n ≡ m) old → IfTold (λ t. n ≡ m) new
slips_stand None None n m others h = tt
slips_stand None (Some u) n m others h = absurd others
slips_stand (Some t) None n m others h = absurd others
slips_stand (Some t) (Some u) n m others h = h

no_slips : (run : Option ToldRun) (s0 s1 : State) → OthersStand s0.told s1.told → SlipsStand s0 s1 → NoSlips run s0.slips s1
no_slips None s0 s1 others slips = tt
no_slips (Some told) s0 s1 others slips = slips_stand s0.told s1.told s1.slips s0.slips others slips

others_read : (told : ToldRun) (old new : Option Told) → OthersStand old new → IfSome (option_map (λ t. seen_of t.now) old) (λ before. IfTold (λ t. (path : List ℕ) → IsBeside told.tree path → seen_of t.now path ≡ before path) new)
others_read told None None others = tt
others_read told None (Some u) others = absurd others
others_read told (Some t) None others = absurd others
others_read told (Some t) (Some u) others = λ path beside. ap (option_map (λ f. f.seen)) (others path beside.log beside.new_log)

others_stand : (run : Option ToldRun) (s0 s1 : State) → OthersStand s0.told s1.told → OthersRead run (files_of (started_of s0)) s1
others_stand None s0 s1 others = tt
others_stand (Some told) s0 s1 others = others_read told s0.told s1.told others

-- Where every image fits the run's tree as the depot is handed in, every image of each moment of an opening is good,
-- as it says of each such tree.
pub opened_images : (run : Option ToldRun) (s0 s1 : State) → IfSome run (λ told. IfTold (λ t. AllFit told.tree t.now) s0.told)
    → ((T : List File) → IfTold (λ t. AllFit T t.now) s0.told → GoodSince T [] s0.told s1.told) → ImagesGood run s0.told s1
opened_images None s0 s1 fits images = tt
opened_images (Some told) s0 s1 fits images = images told.tree fits

-- what an opening says of its end and its depot is all that is kept of the run, but for what the destination had
pub opened_kept : (run : Option ToldRun) (log : Meaning) (batch n : ℕ) (r : PlainReceiver) (failed : Type 0) (s0 s1 : State) → r ≡ opened log batch (replicate n new_lane) → CanTell r → HadOf run r
    → GoodFor run r s1 → ImagesGood run s0.told s1 → OthersStand s0.told s1.told → Counts failed s0 s1 → SlipsStand s0 s1 → IsKept run (started_of s0) r s1
opened_kept run log batch n r failed s0 s1 is tells had good images others counts slips = record {
  tells = tells;
  had = had;
  sized = no_totals run r (ap (λ (x : PlainReceiver). x.history) is);
  good = good;
  images = images;
  slips = no_slips run s0 s1 others slips;
  others = others_stand run s0 s1 others;
  later = counts.faults;
  lost = λ lost. absurd (subst HasLostDisk (ap (λ (x : PlainReceiver). x.answer) is) lost);
}
