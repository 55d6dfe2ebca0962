-- Checkpoints: what they keep, and what the finish makes of a list of lanes.
use Rattle.std.proofs.Common.{◌≡◌, ℕ, ◌+◌, ◌<◌, ◌≤◌, List, [], ◌∷◌, ◌++◌, length, get_or, take, drop, map, set, Option, None, refl, sym, ap, ◌∙◌, arith}
use Rattle.std.proofs.lemmas.Bool.Decides.{nat_tests}
use Rattle.std.proofs.lemmas.List.{append_assoc, append-nil, drop_all, take_all, take_at, drop_more, get_or_at, length-map, length-take-le, map_more, set_at}
use Rattle.wdt_units.specs.declared.blocks.Block.{Block}
use Rattle.wdt_claims.specs.Blocks.{count_of, HaveSameBlocks}
use Rattle.wdt_claims.specs.LaneWords.{Claims, cut_to, closed_at}
use Rattle.wdt_claims.proofs.Shared.{count_of-append, count_of-parts}
use Rattle.wdt_claims.specs.Checks.{fault_by, fault_of, open_fault}
use Rattle.wdt_claims.specs.Claimed.{lane_at, with_lane, count_kept, IsLane, AreLanes}
use Rattle.wdt_history.proofs.Keeps.{count_kept-with, is_at, lane_closed, lane_cut, lanes_with_fewer}

-- a count that isn't refused is within the list of an open lane
pub within_list : (s : Claims) (n : ℕ) → s.closed ≡ None → None ≡ fault_of s n → n ≤ length s.kept
within_list s n unclosed fine =
    let e : None ≡ open_fault s n = fine ∙ ap (λ (o : Option ℕ). fault_by o s n) unclosed in
    grind (arith, nat_tests)

-- a lane that keeps a front of its list
pub front_keeps : (lanes : List Claims) (l n : ℕ) (s : Claims) → AreLanes lanes → l < length lanes → IsLane s → s.kept ≡ take n (lane_at lanes l).kept → AreLanes (with_lane lanes l s)
front_keeps lanes l n s are lt is e =
    lanes_with_fewer lanes l s are lt is (λ b. omega (arith, ap (count_of b) e, count_of-parts b (lane_at lanes l).kept n))

pub cut_keeps : (lanes : List Claims) (l n : ℕ) → AreLanes lanes → l < length lanes → (lane_at lanes l).closed ≡ None → None ≡ fault_of (lane_at lanes l) n → AreLanes (with_lane lanes l (cut_to n 0 (lane_at lanes l)))
cut_keeps lanes l n are lt unclosed fine =
    front_keeps lanes l n (cut_to n 0 (lane_at lanes l)) are lt (lane_cut n (lane_at lanes l) (is_at lanes l are lt) unclosed (within_list (lane_at lanes l) n unclosed fine)) refl

pub close_keeps : (lanes : List Claims) (l n : ℕ) → AreLanes lanes → l < length lanes → (lane_at lanes l).closed ≡ None → None ≡ fault_of (lane_at lanes l) n → AreLanes (with_lane lanes l (closed_at n 0 (lane_at lanes l)))
close_keeps lanes l n are lt unclosed fine =
    front_keeps lanes l n (closed_at n 0 (lane_at lanes l)) are lt (lane_closed n (lane_at lanes l) (is_at lanes l are lt) (within_list (lane_at lanes l) n unclosed fine)) refl

-- each block stands as often in the queue and the lists together as before
pub conserved : (lanes : List Claims) (l n : ℕ) (s : Claims) (old new : List Block) → l < length lanes → s.kept ≡ take n (lane_at lanes l).kept → HaveSameBlocks new (old ++ drop n (lane_at lanes l).kept)
    → (b : Block) → count_of b new + count_kept b (with_lane lanes l s) ≡ count_of b old + count_kept b lanes
conserved lanes l n s old new lt e same b =
    omega (
      arith,
      same b,
      ap (count_of b) e,
      count_of-append b old (drop n (lane_at lanes l).kept),
      count_of-parts b (lane_at lanes l).kept n,
      count_kept-with b lanes l s lt,
    )

-- ---- the finish, lane after lane

pub next_of : {X : Type 0} (f : X → X) (xs : List X) (i : ℕ) (d : X) → i < length xs → get_or (map f (take i xs) ++ drop i xs) i d ≡ get_or xs i d
next_of {X} f xs i d lt =
    ap (λ (rest : List X). get_or (map f (take i xs) ++ rest) i d) (drop_more xs i d lt)
    ∙ get_or_at (map f (take i xs)) (get_or xs i d) (drop (i + 1) xs) d i (omega (arith, length-map (take i xs) f, length-take-le i xs))

pub more_of : {X : Type 0} (f : X → X) (xs : List X) (i : ℕ) (d : X) → i < length xs → set (map f (take i xs) ++ drop i xs) i (f (get_or xs i d)) ≡ map f (take (i + 1) xs) ++ drop (i + 1) xs
more_of {X} f xs i d lt =
    ap (λ (rest : List X). set (map f (take i xs) ++ rest) i (f (get_or xs i d))) (drop_more xs i d lt)
    ∙ set_at (map f (take i xs)) (get_or xs i d) (drop (i + 1) xs) (f (get_or xs i d)) i (omega (arith, length-map (take i xs) f, length-take-le i xs))
    ∙ sym (append_assoc (map f (take i xs)) (f (get_or xs i d) ∷ []) (drop (i + 1) xs))
    ∙ ap (λ (front : List X). front ++ drop (i + 1) xs) (sym (map_more f xs i d lt))

-- all are done, and nothing stands behind them
pub all_of : {X : Type 0} (f : X → X) (xs now rest : List X) (i n : ℕ) → now ≡ map f (take i xs) ++ drop i xs → length xs ≤ i → n ≡ length now → take n (now ++ rest) ≡ map f xs
all_of {X} f xs now rest i n e all whole =
    take_at now rest n (sym whole)
    ∙ e
    ∙ ap (λ (ys : List X). map f ys ++ drop i xs) (take_all i xs all)
    ∙ ap (λ (ys : List X). map f xs ++ ys) (drop_all i xs all)
    ∙ append-nil (map f xs)
