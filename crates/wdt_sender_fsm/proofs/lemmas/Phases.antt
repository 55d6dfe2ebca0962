-- What the two ends of a connection say in turn: no phase is both ends', and a block's pieces lead
-- through it.
use Rattle.std.proofs.Common.{◌≡◌, ℕ, zero, suc, ◌-◌, ◌*◌, ◌<◌, ◌≤◌, min, Some, ap, ◌∙◌, arith, refl, eq-eqb}
use Rattle.std.proofs.lemmas.Bool.{ne_eqb}
use Rattle.wdt_sender_fsm.specs.Phases.{Open, Met, Listing, Told, Sending, Mid, Asked, Bye, Over, Piece, down, up, with_left, pieces_in, piece_at, pieces_of}
use Rattle.wdt_sender_fsm.specs.Places.{tabulate}
use Rattle.wdt_sender_fsm.specs.Talk.{moved, OneTalker}
use Rattle.wdt_sender_fsm.proofs.lemmas.Talk.{moved-more}

pub one_talker : OneTalker down up
one_talker Open q r m u e f = cc
one_talker (Met ask) q r m u e f = cc
one_talker Listing q r m u e f = cc
one_talker Told q r m u e f = cc
one_talker Sending q r m u e f = cc
one_talker (Mid left) q r m u e f = cc
one_talker Asked q r m u e f = cc
one_talker Bye q r m u e f = cc
one_talker Over q r m u e f = cc

-- a piece of what is left
piece_moves : (left : ℕ) → 0 < left → down (with_left left) (Piece (min left 65536)) ≡ Some (with_left (left - min left 65536))
piece_moves left some = rw (ne_eqb left 0 (λ e. omega (arith, some, e)), eq-eqb (min left 65536) (min left 65536) refl) refl

-- what is left behind a piece
left_behind : (n k : ℕ) → 65536 * k < n → (n - 65536 * k) - min (n - 65536 * k) 65536 ≡ n - 65536 * suc k
left_behind n k some = omega (arith, some)

-- the first pieces of a block lead to what is left behind them
pieces_move : (n k : ℕ) → k ≤ pieces_in n → moved down (tabulate k (piece_at n)) (with_left n) ≡ Some (with_left (n - 65536 * k))
pieces_move n zero within = ap (λ left. Some (with_left left)) (omega arith)
pieces_move n (suc k) within =
    let some : 65536 * k < n = omega (arith, within) in
    moved-more down (with_left n) (tabulate k (piece_at n)) (with_left (n - 65536 * k)) (with_left (n - 65536 * suc k)) (piece_at n k)
    (pieces_move n k (omega (arith, within)))
    (piece_moves (n - 65536 * k) (omega (arith, some)) ∙ ap (λ left. Some (with_left left)) (left_behind n k some))

-- all of them lead to the next block
pub pieces_lead : (n : ℕ) → moved down (pieces_of n) (with_left n) ≡ Some Sending
pieces_lead n =
    let none : n - 65536 * pieces_in n ≡ 0 = omega arith in
    pieces_move n (pieces_in n) (omega arith) ∙ ap (λ left. Some (with_left left)) none
