-- Each step of a lane keeps what holds of the lanes.
use Rattle.std.proofs.Common.{◌≡◌, ℕ, ◌+◌, ◌<◌, ◌≤◌, ◌^◌, true, false, List, [], ◌∷◌, ◌++◌, length, get_or, take, map, replicate, Option, None, IfSome, refl, sym, ap, ◌∙◌, subst, inl, inr, ◌*◌, arith}
use Rattle.std.proofs.lemmas.Bool.{cases_Bool, false≢true}
use Rattle.std.proofs.lemmas.List.{get_or_read, length-set, length-take-le, length-replicate, length-map, length_push}
use Rattle.std.proofs.lemmas.List.Elements.{All-set, All-map, All-replicate}
use Rattle.std.proofs.lemmas.List.Folds.{sum_by-replicate}
use Rattle.std.proofs.lemmas.List.Sums.{sum_by-set, sum_by-cons, get_or-le-sum_by}
use Rattle.std.proofs.lemmas.Option.{IfSome_then}
use Rattle.wdt_units.specs.declared.blocks.Block.{Block}
use Rattle.wdt_claims.specs.Blocks.{is_same}
use Rattle.wdt_claims.specs.LaneWords.{Claims, no_claims, claimed, sent, cut_to, closed_at, finished}
use Rattle.wdt_claims.proofs.Shared.{count_of-nil, count_of-push, one_if_same, one_if-true, one_if-false, one_block}
use Rattle.wdt_claims.specs.Claimed.{lane_at, with_lane, count_in, count_kept, IsLane, AreLanes}

-- ---- counts

pub count_kept-nil : (b : Block) → count_kept b [] ≡ 0
unfolding count_kept
count_kept-nil b = refl

pub count_kept-cons : (b : Block) (s : Claims) (lanes : List Claims) → count_kept b (s ∷ lanes) ≡ count_in b s + count_kept b lanes
unfolding count_kept
count_kept-cons b s lanes = sum_by-cons (count_in b) s lanes

pub count_kept-with : (b : Block) (lanes : List Claims) (l : ℕ) (s : Claims) → l < length lanes → count_kept b (with_lane lanes l s) + count_in b (lane_at lanes l) ≡ count_kept b lanes + count_in b s
unfolding count_kept
count_kept-with b lanes l s lt = sum_by-set (count_in b) lanes l s no_claims lt

pub count_in-le : (b : Block) (lanes : List Claims) (l : ℕ) → l < length lanes → count_in b (lane_at lanes l) ≤ count_kept b lanes
unfolding count_kept
count_in-le b lanes l lt = get_or-le-sum_by (count_in b) lanes l no_claims lt

pub count_kept-none : (b : Block) (n : ℕ) → count_kept b (replicate n no_claims) ≡ 0
unfolding count_kept
count_kept-none b n = sum_by-replicate (count_in b) n no_claims ∙ ap (λ (m : ℕ). n * m) (count_of-nil b) ∙ (omega arith)

pub count_kept-finished : (b : Block) (lanes : List Claims) → count_kept b (map finished lanes) ≡ count_kept b lanes
count_kept-finished b [] = refl
count_kept-finished b (s ∷ lanes) =
    omega (arith, count_kept-cons b (finished s) (map finished lanes), count_kept-cons b s lanes, count_kept-finished b lanes)

-- ---- one lane

pub lane_of_none : IsLane no_claims
lane_of_none = record { sure = omega arith; held = λ h. absurd (false≢true h); closed = tt; few = omega arith }

pub lane_claimed : (b : Block) (s : Claims) → IsLane s → s.closed ≡ None → length s.kept < 2 ^ 31 → IsLane (claimed b s)
lane_claimed b s is unclosed few = record {
  sure = omega (arith, is.sure, length_push s.kept b);
  held = λ h. omega (arith, is.sure, length_push s.kept b);
  closed = subst (λ (o : Option ℕ). IfSome o (λ (count : ℕ). (length (s.kept ++ b ∷ []) ≡ count) × (s.sure ≡ count) × (true ≡ false))) (sym unclosed) tt;
  few = omega (arith, few, length_push s.kept b);
}

pub lane_sent : (s : Claims) → IsLane s → IsLane (sent s)
lane_sent s is = record {
  sure = is.sure;
  held = λ h. absurd (false≢true h);
  closed = IfSome_then s.closed is.closed (λ count f. (f.0, f.1, refl));
  few = is.few;
}

pub lane_cut : (n : ℕ) (s : Claims) → IsLane s → s.closed ≡ None → n ≤ length s.kept → IsLane (cut_to n 0 s)
lane_cut n s is unclosed within = record {
  sure = omega (arith, length-take-le n s.kept within);
  held = λ h. absurd (false≢true h);
  closed = subst (λ (o : Option ℕ). IfSome o (λ (count : ℕ). (length (take n s.kept) ≡ count) × (n ≡ count) × (false ≡ false))) (sym unclosed) tt;
  few = omega (arith, is.few, length-take-le n s.kept within);
}

pub lane_closed : (n : ℕ) (s : Claims) → IsLane s → n ≤ length s.kept → IsLane (closed_at n 0 s)
lane_closed n s is within = record {
  sure = omega (arith, length-take-le n s.kept within);
  held = λ h. absurd (false≢true h);
  closed = (length-take-le n s.kept within, refl, refl);
  few = omega (arith, is.few, length-take-le n s.kept within);
}

pub lane_finished : (s : Claims) → IsLane s → IsLane (finished s)
lane_finished s is = record {
  sure = omega arith;
  held = λ h. absurd (false≢true h);
  closed = IfSome_then s.closed is.closed (λ count f. (f.0, f.0, refl));
  few = is.few;
}

-- ---- all lanes

pub lanes_with : (lanes : List Claims) (l : ℕ) (s : Claims) → AreLanes lanes → IsLane s → ((b : Block) → count_kept b (with_lane lanes l s) ≤ 1) → AreLanes (with_lane lanes l s)
lanes_with lanes l s are is once = record {
  each = All-set IsLane lanes l s is are.each;
  once = once;
  few = omega (arith, are.few, length-set lanes l s);
}

-- a lane whose list grew shorter
pub lanes_with_fewer : (lanes : List Claims) (l : ℕ) (s : Claims) → AreLanes lanes → l < length lanes → IsLane s → ((b : Block) → count_in b s ≤ count_in b (lane_at lanes l)) → AreLanes (with_lane lanes l s)
lanes_with_fewer lanes l s are lt is fewer = lanes_with lanes l s are is (λ b. omega (arith, are.once b, fewer b, count_kept-with b lanes l s lt))

pub lanes_claimed : (lanes : List Claims) (l : ℕ) (b : Block) → AreLanes lanes → l < length lanes → (lane_at lanes l).closed ≡ None → length (lane_at lanes l).kept < 2 ^ 31 → count_kept b lanes ≡ 0
    → AreLanes (with_lane lanes l (claimed b (lane_at lanes l)))
lanes_claimed lanes l b are lt unclosed few absent =
    lanes_with lanes l (claimed b (lane_at lanes l)) are (lane_claimed b (lane_at lanes l) (are.each l no_claims lt) unclosed few) once
  where
    grown : (x : Block) → count_kept x (with_lane lanes l (claimed b (lane_at lanes l))) ≡ count_kept x lanes + one_if_same x b
    grown x = omega (arith, count_kept-with x lanes l (claimed b (lane_at lanes l)) lt, count_of-push x (lane_at lanes l).kept b)

    once : (x : Block) → count_kept x (with_lane lanes l (claimed b (lane_at lanes l))) ≤ 1
    once x = elim (cases_Bool (is_same x b)) [
      | inl s ↦ omega (arith, grown x, one_if-true x b s, ap (λ (y : Block). count_kept y lanes) (one_block x b s), absent)
      | inr d ↦ omega (arith, grown x, one_if-false x b d, are.once x)
    ]

pub lanes_finished : (lanes : List Claims) → AreLanes lanes → AreLanes (map finished lanes)
lanes_finished lanes are = record {
  each = All-map IsLane finished lanes (λ k d lt. lane_finished (get_or lanes k d) (are.each k d lt));
  once = λ b. omega (arith, are.once b, count_kept-finished b lanes);
  few = omega (arith, are.few, length-map lanes finished);
}

pub lanes_of_none : (n : ℕ) → n < 2 ^ 8 → AreLanes (replicate n no_claims)
lanes_of_none n few = record {
  each = All-replicate IsLane n no_claims lane_of_none;
  once = λ b. omega (arith, count_kept-none b n);
  few = omega (arith, few, length-replicate n no_claims);
}

-- ---- a lane that was read and written

-- what was read at a lane's number is its claims
pub read_at : (lanes : List Claims) (l : ℕ) (x : Claims) → l < length lanes → x ≡ get_or lanes l x → x ≡ lane_at lanes l
read_at lanes l x lt e = get_or_read lanes l x lt e no_claims

pub is_at : (lanes : List Claims) (l : ℕ) → AreLanes lanes → l < length lanes → IsLane (lane_at lanes l)
is_at lanes l are lt = are.each l no_claims lt

pub sent_keeps : (lanes : List Claims) (l : ℕ) → AreLanes lanes → l < length lanes → AreLanes (with_lane lanes l (sent (lane_at lanes l)))
sent_keeps lanes l are lt = lanes_with_fewer lanes l (sent (lane_at lanes l)) are lt (lane_sent (lane_at lanes l) (is_at lanes l are lt)) (λ b. omega arith)
