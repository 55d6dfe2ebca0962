use Rattle.std.proofs.Common.{◌≡◌, ◌∙◌, ◌<◌, ◌++◌, ap, sym, ℕ, List, length, take, drop, map, arith, get_or}
use Rattle.std.specs.Prelude.{if◌then◌else◌, ◌%◌, ◌+◌}
use Rattle.std.proofs.Math.Seq.{take-append_seam}
use Rattle.wdt_depot.specs.Changes.{change_view}
use Rattle.wdt_depot.specs.Disk.{DiskFile}
use Rattle.wdt_depot.specs.Picks.{is_settled}
use Rattle.wdt_depot.specs.Slots.{file_with}
use Rattle.wdt_depot.proofs.Picks.{picks_synced, picks_seen, picks_patterned}
use Rattle.wdt_depot.proofs.memory.picking.pick_bytes.Goals as goal

pub returns-then-pick-eq-AS_SYNCED : goal.returns-then-pick-eq-AS_SYNCED
returns-then-pick-eq-AS_SYNCED c = c.take_all_back.ensures ∙ sym (picks_synced c.args.pick (file_with c.args.bytes.now.items (map change_view c.args.pending.now)) c.if-pick-eq-AS_SYNCED.true)

pub returns-then-pick-eq-AS_WRITTEN : goal.returns-then-pick-eq-AS_WRITTEN
returns-then-pick-eq-AS_WRITTEN c = sym (picks_seen c.args.pick (file_with c.args.bytes.now.items (map change_view c.args.pending.now)) c.if-pick-eq-AS_WRITTEN.true)

put_back : (new old : List ℕ) (n : ℕ) → n ≡ length new → take n (new ++ old) ≡ new
put_back new old n e = ap (λ (k : ℕ). take k (new ++ old)) e ∙ take-append_seam new old

pub returns : goal.returns
returns c =
    let f : DiskFile = file_with c.args.bytes.now.items (map change_view c.args.pending.now) in
    let new : List ℕ = c.fill_unsettled.new.bytes in
    let same : c.deref_mut.result.now ≡ f.seen = c.deref_mut.ensures.value in
    let size : length new ≡ length f.seen = c.fill_unsettled.auto.bytes ∙ ap (λ (l : List ℕ). length l) same in
    let each : (k : ℕ) → k < length f.seen → get_or new k 0 ≡ (if is_settled (length f.synced) f.ranges k then get_or f.seen k 0 else (c.args.pick + k) % 256) =
    (λ (k : ℕ) (below : k < length f.seen).
    c.fill_unsettled.ensures k (omega (arith, below, ap (λ (l : List ℕ). length l) same))
    ∙ (ap (λ (l : List ℕ). if is_settled c.args.synced f.ranges k then get_or l k 0 else (c.args.pick + k) % 256) same ∙ ap (λ (n : ℕ). if is_settled n f.ranges k then get_or f.seen k 0 else (c.args.pick + k) % 256) c.requires)) in
    put_back new (drop (length new) c.args.bytes.now.items) _ (omega (arith, size, c.args.bytes.now.ok.0)) ∙ picks_patterned c.args.pick f new c.if-pick-eq-AS_SYNCED.false c.if-pick-eq-AS_WRITTEN.false size each
