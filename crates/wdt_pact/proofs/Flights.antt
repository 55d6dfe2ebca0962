-- What is on its way weighs no more than what was written, and an act leaves less to do at its lane.
use Rattle.std.proofs.Common.{◌≡◌, ◌⊎◌, inl, inr, ℕ, zero, suc, ◌+◌, ◌-◌, ◌*◌, ◌<◌, ◌≤◌, ◌||◌, ◌&&◌, min, not, nat_le, nat_lt, Bool, true, false, if◌then◌else◌, List, [], ◌∷◌, ◌++◌, length, take, is_some, sum_by, Option, Some, None, subst, sym, ap, ◌∙◌, refl, arith, append-nil}
use Rattle.std.proofs.lemmas.Bool.Decides.{nat_tests}
use Rattle.std.proofs.lemmas.List.Sums.{sum_by-append, sum_by-cons}
use Rattle.std.proofs.lemmas.Nat.{mul-le}
use Rattle.wdt_units.specs.declared.blocks.Header.{Header}
use Rattle.wdt_codec.specs.declared.frames.Frame.{Frame}
use Rattle.wdt_codec.specs.declared.frames.Frame.TheVariants as frames
use Rattle.wdt_sender_fsm.specs.Phases.{Message, Framed, Piece, piece_at, pieces_in, pieces_of, written_by}
use Rattle.wdt_sender_fsm.specs.Places.{tabulate}
use Rattle.wdt_sender_fsm.specs.declared.acts.SendAct.TheVariants as acts
use Rattle.wdt_pact.specs.Links.{Link, Way, cut_link, cut_way, front, front_by, front_of, has_room, less, lower, new_link, size_down, size_up, with_sent}
use Rattle.wdt_pact.specs.Measure.{cost_down, cost_up, flight, flight_by, weigh, weigh_by}
use Rattle.wdt_pact.specs.Pairs.{waits}

-- ---- one direction

-- what is written adds at most its own weight
pub weigh_more : {M : Type 0} (cost size : M → ℕ) (ms ns : List M) (room : Option ℕ) → weigh cost size (ms ++ ns) room ≤ weigh cost size ms room + sum_by cost ns
weigh_more {M} cost size [] ns room = omega (arith, alone ns room) where
  alone : (ns : List M) (room : Option ℕ) → weigh cost size ns room ≤ sum_by cost ns
  alone [] room = omega arith
  alone (n ∷ ns) room = go (has_room room (size n)) (alone ns (less room (size n))) where
    go : (b : Bool) → weigh cost size ns (less room (size n)) ≤ sum_by cost ns → weigh_by b (cost n) (weigh cost size ns (less room (size n))) ≤ sum_by cost (n ∷ ns)
    go true x = omega (arith, x, sum_by-cons cost n ns)
    go false x = omega arith
weigh_more {M} cost size (m ∷ ms) ns room = go (has_room room (size m)) (weigh_more cost size ms ns (less room (size m))) where
  go : (b : Bool) → weigh cost size (ms ++ ns) (less room (size m)) ≤ weigh cost size ms (less room (size m)) + sum_by cost ns
      → weigh_by b (cost m) (weigh cost size (ms ++ ns) (less room (size m))) ≤ weigh_by b (cost m) (weigh cost size ms (less room (size m))) + sum_by cost ns
  go true x = omega (arith, x)
  go false x = omega arith

-- less room takes no more
abbrev IsWithin : Option ℕ → Option ℕ → Type 0
IsWithin (Some small) (Some large) = small ≤ large
IsWithin None (Some large) = ⊥
IsWithin _ None = Unit {0}

within_less : (small large : Option ℕ) (n : ℕ) → IsWithin small large → IsWithin (less small n) (less large n)
within_less (Some small) (Some large) n w = omega (arith, w)
within_less None (Some large) n w = absurd w
within_less (Some small) None n w = tt
within_less None None n w = tt

room_within : (small large : Option ℕ) (n : ℕ) → IsWithin small large → has_room small n ≡ true → has_room large n ≡ true
room_within (Some small) (Some large) n w e = grind (arith, nat_tests, w, e)
room_within None (Some large) n w e = absurd w
room_within (Some small) None n w e = refl
room_within None None n w e = refl

weigh_less : {M : Type 0} (cost size : M → ℕ) (ms : List M) (small large : Option ℕ) → IsWithin small large → weigh cost size ms small ≤ weigh cost size ms large
weigh_less {M} cost size [] small large w = omega arith
weigh_less {M} cost size (m ∷ ms) small large w =
    go (has_room small (size m)) (has_room large (size m)) (room_within small large (size m) w) (weigh_less cost size ms (less small (size m)) (less large (size m)) (within_less small large (size m) w)) where
      go : (b c : Bool) → (b ≡ true → c ≡ true) → weigh cost size ms (less small (size m)) ≤ weigh cost size ms (less large (size m))
          → weigh_by b (cost m) (weigh cost size ms (less small (size m))) ≤ weigh_by c (cost m) (weigh cost size ms (less large (size m)))
      go true true more x = omega (arith, x)
      go true false more x = let e : false ≡ true = more refl in cc
      go false c more x = omega arith

lower_within : (room : Option ℕ) (n : ℕ) → IsWithin (lower room n) room
lower_within None n = tt
lower_within (Some room) n = omega arith

-- ---- a connection

pub cut_flight : (down up : ℕ) (k : Link) → flight (cut_link down up k) ≤ flight k
cut_flight down up k =
    omega (
      arith,
      weigh_less cost_down size_down k.down.sent (lower k.down.room down) k.down.room (lower_within k.down.room down),
      weigh_less cost_up size_up k.up.sent (lower k.up.room up) k.up.room (lower_within k.up.room up),
    )

pub down_flight : (k : Link) (ms : List Message) → flight (record k { down = with_sent k.down ms }) ≤ flight k + sum_by cost_down ms
down_flight k ms = omega (arith, weigh_more cost_down size_down k.down.sent ms k.down.room)

pub up_flight : (k : Link) (us : List Frame) → flight (record k { up = with_sent k.up us }) ≤ flight k + sum_by cost_up us
up_flight k us = omega (arith, weigh_more cost_up size_up k.up.sent us k.up.room)

-- those that wait
pub flights_more : (ks : List Link) (newest : Option Link) → sum_by flight (ks ++ waits newest) ≡ sum_by flight ks + flight_by newest
flights_more ks None = ap (sum_by flight) (append-nil ks) ∙ omega arith
flights_more ks (Some k) = omega (arith, sum_by-append flight ks (k ∷ []), sum_by-cons flight k [])

-- ---- what a block's messages weigh

pieces_weigh : (n k : ℕ) → sum_by cost_down (tabulate k (piece_at n)) ≡ 3 * k
pieces_weigh n zero = refl
pieces_weigh n (suc k) = omega (arith, sum_by-append cost_down (tabulate k (piece_at n)) (piece_at n k ∷ []), sum_by-cons cost_down (piece_at n k) [], pieces_weigh n k)

pub block_weighs : (h : Header) → sum_by cost_down (written_by (acts.SendBlock h)) ≡ 3 + 3 * pieces_in h.length
block_weighs h = omega (arith, sum_by-cons cost_down (Framed (frames.Block h)) (pieces_of h.length), pieces_weigh h.length (pieces_in h.length))

pub taken_weighs : (n : ℕ) (ms : List Message) → sum_by cost_down (take n ms) ≤ sum_by cost_down ms
taken_weighs zero ms = omega arith
taken_weighs (suc n) [] = omega arith
taken_weighs (suc n) (m ∷ ms) = omega (arith, sum_by-cons cost_down m (take n ms), sum_by-cons cost_down m ms, taken_weighs n ms)

pub frame_weighs : (f : Frame) → sum_by cost_down (Framed f ∷ []) ≡ 3
frame_weighs f = sum_by-cons cost_down (Framed f) []

pub up_weighs : (f : Frame) → sum_by cost_up (f ∷ []) ≡ cost_up f
up_weighs f = sum_by-cons cost_up f [] ∙ omega arith

-- ---- products

-- no more of what pays, and less to do
pub sinks : (w h high a low : ℕ) → h ≤ high → a < low → w * h + a < w * high + low
sinks w h high a low less falls = omega (arith, mul-le w h w high (omega arith) less, falls)

-- what pays falls
pub pays_off : (w h high a low : ℕ) → h + 1 ≤ high → a < w + low → w * h + a < w * high + low
pays_off w h high a low less falls =
    let m : w * (h + 1) ≡ w * h + w = grind arith in
    omega (arith, mul-le w (h + 1) w high (omega arith) less, m, falls)
