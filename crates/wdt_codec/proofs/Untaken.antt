-- The bytes of a reader behind those that were taken.
use Rattle.std.proofs.Common.{◌≡◌, ℕ, ◌+◌, ◌-◌, List, ◌++◌, length, take, drop, refl, sym, ap, ◌∙◌, append_assoc, arith}
use Rattle.std.proofs.lemmas.List.{drop_at, drop-drop, length-append, take-append-drop, take_rest}
use Rattle.wdt_codec.specs.Stream.{Held}

-- what was lent is what wasn't taken
pub lent-is : (held : Held) (bytes lent : List ℕ) (start owed : ℕ) → record { untaken = drop start bytes; owed = owed } ≡ held → lent ≡ bytes → take (length lent - start) (drop start lent) ≡ held.untaken
lent-is held bytes lent start owed view same = rw (take_rest, same) (ap (λ (h : Held). h.untaken) view)

-- behind a front of it stands the rest, which ends where the bytes do
pub rest-is : (held : Held) (bytes front rest : List ℕ) (start owed n : ℕ) → record { untaken = drop start bytes; owed = owed } ≡ held → n ≡ length bytes → held.untaken ≡ front ++ rest → drop (n - length rest) bytes ≡ rest
rest-is held bytes front rest start owed n view len parts =
    let u : drop start bytes ≡ held.untaken = ap (λ (h : Held). h.untaken) view in
    let all : bytes ≡ (take start bytes ++ front) ++ rest = sym (take-append-drop start bytes) ∙ ap (λ w. take start bytes ++ w) (u ∙ parts) ∙ sym (append_assoc (take start bytes) front rest) in
    let at : n - length rest ≡ length (take start bytes ++ front) = omega (arith, len, ap length all, length-append (take start bytes ++ front) rest) in
    ap (drop (n - length rest)) all ∙ drop_at (take start bytes ++ front) rest (n - length rest) (sym at)

-- a piece, and what is left behind it
pub piece-is : (held : Held) (bytes lent piece : List ℕ) (start owed count : ℕ) → record { untaken = drop start bytes; owed = owed } ≡ held → lent ≡ bytes → piece ≡ take (start + count - start) (drop start lent) → held.untaken ≡ piece ++ drop (start + count) bytes
piece-is held bytes lent piece start owed count view same p =
    let u : drop start bytes ≡ held.untaken = ap (λ (h : Held). h.untaken) view in
    let n : start + count - start ≡ count = omega arith in
    let front : piece ≡ take count held.untaken = p ∙ rw (n, same, u) refl in
    let back : drop (start + count) bytes ≡ drop count held.untaken = sym (drop-drop count start bytes) ∙ ap (drop count) u in
    sym (take-append-drop count held.untaken) ∙ ap (λ w. w ++ drop count held.untaken) (sym front) ∙ ap (λ w. piece ++ w) (sym back)
