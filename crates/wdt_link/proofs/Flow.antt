-- How bytes go from a wire to those who take them.
use Rattle.std.proofs.Common.{◌≡◌, ℕ, ◌+◌, ◌-◌, ◌≤◌, ◌<◌, List, [], ◌∷◌, ◌++◌, length, take, Option, Some, None, Result, Ok, Err, refl, sym, ap, ◌∙◌, append_assoc, arith, subst}
use Rattle.std.specs.Prelude.{IfSome, IfOk, OnErr}
use Rattle.std.proofs.lemmas.List.{length-append, take_at, take-append-le}
use Rattle.wdt_codec.specs.Stream.{Held}
use Rattle.wdt_codec.specs.Grammar.{IsBadAt, IsFront, Starts}
use Rattle.wdt_link.specs.Traffic.{Keeps, Takes, Receives}
use Rattle.wdt_link.specs.Wires.{Cable}
use Rattle.wdt_link.specs.Streams.{EndsIn, Fills, traffic, traffic_of}

received_is : (front tail : List ℕ) → take (length (front ++ tail) - length tail) (front ++ tail) ≡ front
received_is front tail = take_at front tail (length (front ++ tail) - length tail) (omega (arith, length-append front tail))

received_of : (tail : List ℕ) (c : Cable) (e : EndsIn tail c) → take (length c.read - length tail) c.read ≡ e.front
received_of tail c e = let P : List ℕ → Type 0 = λ r. take (length r - length tail) r ≡ e.front in subst P (sym e.is) (received_is e.front tail)

-- bytes were taken of what is held
pub took : (bytes tail tail' : List ℕ) (told : Option Cable) → tail ≡ bytes ++ tail' → IfSome told (λ c. EndsIn tail c) → Keeps (Takes bytes) (traffic tail told) (traffic tail' told) × IfSome told (λ c. EndsIn tail' c)
took bytes tail tail' None p e = (tt, tt)
took bytes tail tail' (Some c) p e =
    let ends : EndsIn tail' c = record { front = e.front ++ bytes; is = e.is ∙ ap (λ w. e.front ++ w) p ∙ sym (append_assoc e.front bytes tail') } in (
      record {
        coming = ap (λ w. w ++ c.left) p ∙ append_assoc bytes tail' c.left;
        received = received_of tail' c ends ∙ sym (ap (λ f. f ++ bytes) (received_of tail c e));
        sent = refl;
      },
      ends,
    )

pub front_of : (bytes untaken untaken' waiting : List ℕ) → untaken ≡ bytes ++ untaken' → untaken ++ waiting ≡ bytes ++ (untaken' ++ waiting)
front_of bytes untaken untaken' waiting p = ap (λ u. u ++ waiting) p ∙ append_assoc bytes untaken' waiting

pub bad_more : (bytes more : List ℕ) (i : ℕ) → IsBadAt bytes i → IsBadAt (bytes ++ more) i
bad_more bytes more i h =
    let near : take i (bytes ++ more) ≡ take i bytes = take-append-le i bytes more (omega (arith, h.within)) in
    let at : take (i + 1) (bytes ++ more) ≡ take (i + 1) bytes = take-append-le (i + 1) bytes more (omega (arith, h.within)) in
    record { within = omega (arith, h.within, length-append bytes more); hope = subst IsFront (sym near) h.hope; none = λ s. h.none (subst Starts at s) }

pub bad_in : (untaken waiting left : List ℕ) (i : ℕ) → IsBadAt untaken i → IsBadAt ((untaken ++ waiting) ++ left) i
bad_in untaken waiting left i h = bad_more (untaken ++ waiting) left i (bad_more untaken waiting i h)

-- a reader gave something, or nothing
pub took_by : {T E : Type 0} (bytes_of : T → List ℕ) (P : T → Type 0) (h h' : Held) (waiting : List ℕ) (told : Option Cable) (result : Result T E) → ((x : T) → P x → h.untaken ≡ bytes_of x ++ h'.untaken) → IfOk result P → OnErr result (h' ≡ h) → IfSome told (λ c. EndsIn (h.untaken ++ waiting) c)
    → Keeps (Receives bytes_of result) (traffic (h.untaken ++ waiting) told) (traffic (h'.untaken ++ waiting) told) × IfSome told (λ c. EndsIn (h'.untaken ++ waiting) c)
took_by bytes_of P h h' waiting None result f ok err e = (tt, tt)
took_by bytes_of P h h' waiting (Some c) (Ok x) f ok err e = took (bytes_of x) (h.untaken ++ waiting) (h'.untaken ++ waiting) (Some c) (front_of (bytes_of x) h.untaken h'.untaken waiting (f x ok)) e
took_by bytes_of P h h' waiting (Some c) (Err x) f ok err e =
    let same : h'.untaken ≡ h.untaken = ap (λ (k : Held). k.untaken) err in
    (ap (λ u. traffic_of (u ++ waiting) c) same, subst (λ u. EndsIn (u ++ waiting) c) (sym same) e)

-- bytes went from the wire to what is held: what was read still ends in it
pub still_ends : (tail tail' : List ℕ) (told told' : Option Cable) → Fills tail told tail' told' → IfSome told (λ c. EndsIn tail c) → IfSome told' (λ c. EndsIn tail' c)
still_ends tail tail' None told' fills ends = let P : Option Cable → Type 0 = λ t. IfSome t (λ c. EndsIn tail' c) in subst P (sym fills) tt
still_ends tail tail' (Some c) None fills ends = absurd fills
still_ends tail tail' (Some c) (Some d) fills ends = record {
  front = ends.front;
  is = fills.read ∙ ap (λ r. r ++ fills.bytes) ends.is ∙ append_assoc ends.front tail fills.bytes ∙ ap (λ w. ends.front ++ w) (sym fills.held);
}
