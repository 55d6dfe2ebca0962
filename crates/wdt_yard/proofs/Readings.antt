-- What a journal keeps, as its history says it, and how many blocks go back.
use Rattle.std.proofs.Common.{◌≡◌, ℕ, ◌+◌, ◌≤◌, ◌<◌, ◌==◌, Bool, false, List, [], ◌∷◌, ◌++◌, length, get_or, take, drop, map, Option, Some, None, is_some, if◌then◌else◌, refl, sym, ap, ◌∙◌, arith}
use Rattle.std.proofs.lemmas.Bool.Decides.{nat_tests}
use Rattle.std.proofs.lemmas.List.{length-append, take-append-drop}
use Rattle.std.proofs.lemmas.List.Sums.{sum_by-cons, sum_by-set, get_or-le-sum_by}
use Rattle.wdt_units.specs.declared.blocks.Block.{Block}
use Rattle.wdt_claims.specs.Blocks.{count_of, AreDistinct}
use Rattle.wdt_claims.specs.LaneWords.{Claims, no_claims, finished}
use Rattle.wdt_claims.proofs.Shared.{count_of-append, count_of-nil, count_of-parts, rising_distinct, none_of}
use Rattle.wdt_queue.specs.Waiting.{Waiting}
use Rattle.wdt_claims.specs.Checks.{goes_back, back_by}
use Rattle.wdt_claims.specs.Claimed.{count_in, count_kept, lane_at, with_lane}
use Rattle.wdt_history.proofs.Keeps.{count_in-le}
use Rattle.wdt_sender_fsm.specs.declared.events.SendEvent.{SendEvent}
use Rattle.wdt_sender_fsm.specs.declared.events.SendEvent.TheVariants as events
use Rattle.wdt_sender_fsm.specs.Places.{queued}
use Rattle.wdt_sender_fsm.specs.SenderHistory.{LanePast, no_past, past_from, past_of, past_after}
use Rattle.wdt_yard.specs.declared.tally.Tally.{Tally}
use Rattle.wdt_yard.specs.Kept.{IsKept, length_of, total_kept}
use Rattle.wdt_yard.specs.Tallies.{tally_of}
use Rattle.wdt_yard.proofs.Entries.{tally_at}
use Rattle.wdt_yard.proofs.Queues.{nothing_in, queue_is}
use Rattle.wdt_sender_fsm.proofs.Shared.{claims_at, claims_length}

-- ---- what is read

pub lanes_within : {t : List Tally} {p : List Block} {q : Waiting} {ls : List Claims} {f : Bool} {h : List SendEvent} → IsKept t p q ls f h → length ls ≡ length t
lanes_within {t} {p} {q} {ls} {f} {h} k = ap length k.claims ∙ claims_length (length t) h

pub claims_read : {t : List Tally} {p : List Block} {q : Waiting} {ls : List Claims} {f : Bool} {h : List SendEvent} (l : ℕ) → IsKept t p q ls f h → l < length t → lane_at ls l ≡ (past_of h l).claims
claims_read {t} {p} {q} {ls} {f} {h} l k lt = ap (λ (xs : List Claims). lane_at xs l) k.claims ∙ claims_at (length t) h l lt

pub tally_read : {t : List Tally} {p : List Block} {q : Waiting} {ls : List Claims} {f : Bool} {h : List SendEvent} (l : ℕ) (x : Tally) → IsKept t p q ls f h → l < length t → x ≡ get_or t l x → x ≡ tally_of (past_of h l)
tally_read {t} {p} {q} {ls} {f} {h} l x k lt e = e ∙ ap (λ (xs : List Tally). get_or xs l x) k.tallied ∙ tally_at (length t) h l x lt

pub queue_read : {t : List Tally} {p : List Block} {q : Waiting} {ls : List Claims} {f : Bool} {h : List SendEvent} → IsKept t p q ls f h → q.waiting ≡ queued (length t) p h
queue_read {t} {p} {q} {ls} {f} {h} k = queue_is (length t) p q.waiting ls h k.claims k.rising k.waiting k.shared

-- a lane that isn't closed
pub still_open : {t : List Tally} {p : List Block} {q : Waiting} {ls : List Claims} {f : Bool} {h : List SendEvent} (l : ℕ) → IsKept t p q ls f h → l < length t → is_some (past_of h l).claims.closed ≡ false → (lane_at ls l).closed ≡ None
still_open {t} {p} {q} {ls} {f} {h} l k lt e = ap (λ (s : Claims). s.closed) (claims_read l k lt) ∙ none_of (past_of h l).claims.closed e

-- ---- totals

pub total_with : (ls : List Claims) (l : ℕ) (s : Claims) → l < length ls → total_kept (with_lane ls l s) + length_of (lane_at ls l) ≡ total_kept ls + length_of s
total_with ls l s lt = sum_by-set length_of ls l s no_claims lt

pub total-le : (ls : List Claims) (l : ℕ) → l < length ls → length_of (lane_at ls l) ≤ total_kept ls
total-le ls l lt = get_or-le-sum_by length_of ls l no_claims lt

pub total_finished : (ls : List Claims) → total_kept (map finished ls) ≡ total_kept ls
total_finished [] = refl
total_finished (s ∷ ls) = omega (arith, sum_by-cons length_of (finished s) (map finished ls), sum_by-cons length_of s ls, total_finished ls)

pub none_kept : (ls : List Claims) → ((b : Block) → count_kept b ls ≡ 0) → total_kept ls ≡ 0
unfolding count_kept
none_kept [] none = refl
none_kept (s ∷ ls) none =
    omega (
      arith,
      sum_by-cons length_of s ls,
      nothing_in s.kept (λ b. omega (arith, none b, sum_by-cons (count_in b) s ls)),
      none_kept ls (λ b. omega (arith, none b, sum_by-cons (count_in b) s ls)),
    )

pub parts_length : (n : ℕ) (xs : List Block) → length (take n xs) + length (drop n xs) ≡ length xs
parts_length n xs = sym (length-append (take n xs) (drop n xs)) ∙ ap length (take-append-drop n xs)

back_length : (o : Option ℕ) (s : Claims) (n : ℕ) → length (back_by o s n) ≤ length s.kept
back_length None s n = omega (arith, parts_length n s.kept)
back_length (Some m) s n = omega arith

back_count : (b : Block) (o : Option ℕ) (s : Claims) (n : ℕ) → count_of b (back_by o s n) ≤ count_of b s.kept
back_count b None s n = omega (arith, count_of-parts b s.kept n)
back_count b (Some m) s n = omega (arith, count_of-nil b)

-- what goes back has its room in the queue
pub back_fits : {t : List Tally} {p : List Block} {q : Waiting} {ls : List Claims} {f : Bool} {h : List SendEvent} (l n : ℕ) → IsKept t p q ls f h → l < length t → length (goes_back (lane_at ls l) n) ≤ q.room
back_fits {t} {p} {q} {ls} {f} {h} l n k lt =
    omega (arith, back_length (lane_at ls l).closed (lane_at ls l) n, k.room, total-le ls l (omega (arith, lt, lanes_within k)))

-- and isn't there yet
pub back_absent : {t : List Tally} {p : List Block} {q : Waiting} {ls : List Claims} {f : Bool} {h : List SendEvent} (l n : ℕ) → IsKept t p q ls f h → l < length t → AreDistinct (q.waiting ++ goes_back (lane_at ls l) n)
back_absent {t} {p} {q} {ls} {f} {h} l n k lt b =
    omega (
      arith,
      count_of-append b q.waiting (goes_back (lane_at ls l) n),
      back_count b (lane_at ls l).closed (lane_at ls l) n,
      count_in-le b ls l (omega (arith, lt, lanes_within k)),
      k.shared b,
      rising_distinct p k.rising b,
    )

-- how often no connection could be made is at most how much happened
one_more_try : (k l n : ℕ) → (if k == l then n + 1 else n) ≤ n + 1
one_more_try k l n = grind (arith, nat_tests)

one_try : (l : ℕ) (s : LanePast) (e : SendEvent) → (past_after l s e).failed_tries ≤ s.failed_tries + 1
one_try l s (events.NoLink k) = one_more_try k.0 l s.failed_tries
one_try l s _ = omega arith

tries_from : (l : ℕ) (s : LanePast) (h : List SendEvent) → (past_from l s h).failed_tries ≤ s.failed_tries + length h
tries_from l s [] = omega arith
tries_from l s (e ∷ h) = omega (arith, tries_from l (past_after l s e) h, one_try l s e)

pub tries-le : (h : List SendEvent) (l : ℕ) → (past_of h l).failed_tries ≤ length h
unfolding past_of
tries-le h l = omega (arith, tries_from l no_past h)
