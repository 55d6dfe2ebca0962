-- Which bytes each pick takes, as the code computes them, and a worked row.
use Rattle.std.proofs.Common.{◌≡◌, ℕ, zero, suc, ◌+◌, ◌<◌, List, [], ◌∷◌, length, get_or, Bool, false, refl, sym, ◌∙◌, ap, arith}
use Rattle.std.specs.Prelude.{if◌then◌else◌, ◌==◌, ◌%◌, codes}
use Rattle.std.proofs.lemmas.Bool.Decides.{nat_tests}
use Rattle.std.proofs.lemmas.List.{ext_get_or}
use Rattle.wdt_units.specs.Have.{PlainSpan}
use Rattle.wdt_depot.specs.Disk.{DiskFile, clean, spliced, write_file}
use Rattle.wdt_depot.specs.PickLaws.{length-patterned}
use Rattle.wdt_depot.specs.Picks.{is_settled, patterned, picked_bytes}

-- worked: `ab` with `cd` written at 1 and not synced
abbrev half_written : DiskFile
half_written = write_file 1 (codes "cd") (clean (codes "ab"))

picks_nothing : picked_bytes 0 half_written ≡ codes "ab"
unfolding picked_bytes write_file spliced clean
picks_nothing = refl

picks_all : picked_bytes 1 half_written ≡ codes "acd"
unfolding picked_bytes write_file spliced clean
picks_all = refl

picks_a_pattern : picked_bytes 2 half_written ≡ 97 ∷ 3 ∷ 4 ∷ []
unfolding picked_bytes write_file spliced clean
picks_a_pattern = refl

-- what the code computes, pick by pick

pub picks_synced : (pick : ℕ) (f : DiskFile) → pick ≡ 0 → picked_bytes pick f ≡ f.synced
unfolding picked_bytes
picks_synced pick f e = ap (λ (n : ℕ). if n == 0 then f.synced else (if n == 1 then f.seen else patterned n (length f.synced) f.ranges 0 f.seen)) e

pub picks_seen : (pick : ℕ) (f : DiskFile) → pick ≡ 1 → picked_bytes pick f ≡ f.seen
unfolding picked_bytes
picks_seen pick f e = ap (λ (n : ℕ). if n == 0 then f.synced else (if n == 1 then f.seen else patterned n (length f.synced) f.ranges 0 f.seen)) e

patterned_at : (pick size : ℕ) (ranges : List PlainSpan) (k : ℕ) (bs : List ℕ) (i n : ℕ) → n ≡ k + i → i < length bs → get_or (patterned pick size ranges k bs) i 0 ≡ (if is_settled size ranges n then get_or bs i 0 else (pick + n) % 256)
patterned_at pick size ranges k [] i n e below = absurd (omega (arith, below))
patterned_at pick size ranges k (b ∷ bs) zero n e below = let at : k ≡ n = omega (arith, e) in ap (λ (m : ℕ). if is_settled size ranges m then b else (pick + m) % 256) at
patterned_at pick size ranges k (b ∷ bs) (suc i) n e below = patterned_at pick size ranges (suc k) bs i n (omega (arith, e)) (omega (arith, below))

-- bytes that are the pattern where they aren't on the disk
pub picks_patterned : (pick : ℕ) (f : DiskFile) (new : List ℕ) → (pick ≡ 0 → ⊥) → (pick ≡ 1 → ⊥) → length new ≡ length f.seen
    → ((k : ℕ) → k < length f.seen → get_or new k 0 ≡ (if is_settled (length f.synced) f.ranges k then get_or f.seen k 0 else (pick + k) % 256)) → new ≡ picked_bytes pick f
unfolding picked_bytes
picks_patterned pick f new none one size each =
    let zero_no : (pick == 0) ≡ false = grind (arith, nat_tests) in
    let one_no : (pick == 1) ≡ false = grind (arith, nat_tests) in
    let pattern : List ℕ = patterned pick (length f.synced) f.ranges 0 f.seen in
    let is_it : new ≡ pattern = ext_get_or 0 new pattern (size ∙ sym (length-patterned pick (length f.synced) f.ranges 0 f.seen)) (λ k below. each k (omega (arith, below, size)) ∙ sym (patterned_at pick (length f.synced) f.ranges 0 f.seen k k (omega arith) (omega (arith, below, size)))) in
    is_it ∙ sym (ap (λ (b : Bool). if b then f.synced else (if pick == 1 then f.seen else pattern)) zero_no ∙ ap (λ (b : Bool). if b then f.seen else pattern) one_no)
