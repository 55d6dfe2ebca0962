-- The journal of an end that begins.
use Rattle.std.proofs.Common.{◌≡◌, ℕ, ◌*◌, ◌≤◌, true, false, List, [], length, replicate, refl, sym, ap, ◌∙◌, arith}
use Rattle.std.proofs.lemmas.List.Folds.{sum_by-replicate}
use Rattle.std.proofs.lemmas.List.{length-replicate}
use Rattle.wdt_units.specs.declared.blocks.Block.{Block}
use Rattle.wdt_claims.specs.Blocks.{are_rising, count_of}
use Rattle.wdt_claims.specs.LaneWords.{Claims, no_claims}
use Rattle.wdt_queue.specs.Waiting.{Waiting}
use Rattle.wdt_claims.specs.Claimed.{count_kept}
use Rattle.wdt_history.proofs.Keeps.{count_kept-none}
use Rattle.wdt_sender_fsm.specs.Places.{claims_of}
use Rattle.wdt_sender_fsm.proofs.Shared.{claims_none, tabulate_one, tabulate_same}
use Rattle.wdt_sender_fsm.specs.SenderHistory.{EndPast, past_of, past_of-none, end_of-none}
use Rattle.wdt_yard.specs.declared.tally.Tally.{Tally}
use Rattle.wdt_yard.specs.Kept.{IsKept, total_kept, length_of}
use Rattle.wdt_yard.specs.Tallies.{no_tally, tally_of, tallies_of}

pub no_tallies_of : (n : ℕ) → replicate n no_tally ≡ tallies_of n []
no_tallies_of n = sym (tabulate_same n (λ k. no_tally) (λ k. tally_of (past_of [] k)) (λ k lt. ap tally_of (past_of-none k)) ∙ tabulate_one n no_tally)

pub starts_kept : (n : ℕ) (t : List Tally) (q : Waiting) (ls : List Claims) → n ≤ 16 → t ≡ replicate n no_tally → ls ≡ replicate n no_claims → are_rising q.waiting ≡ true → ((b : Block) → count_of b q.waiting ≡ count_of b []) → q.room ≡ 0 → IsKept t [] q ls false []
starts_kept n t q ls few told none up same room = record {
  few = omega (arith, few, many);
  claims = none ∙ sym (claims_none n) ∙ ap (λ m. claims_of m []) (sym many);
  tallied = told ∙ no_tallies_of n ∙ ap (λ m. tallies_of m []) (sym many);
  finished = sym (ap (λ (p : EndPast). p.has_finish) end_of-none);
  waiting = up;
  rising = refl;
  shared = λ b. omega (arith, same b, ap (count_kept b) none, count_kept-none b n);
  room = room ∙ sym (ap total_kept none ∙ sum_by-replicate length_of n no_claims ∙ zero_times n);
}
  where
    many : length t ≡ n
    many = ap (λ (xs : List Tally). length xs) told ∙ length-replicate n no_tally

    zero_times : (m : ℕ) → m * 0 ≡ 0
    zero_times m = omega arith
