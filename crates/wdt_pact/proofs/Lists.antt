-- A lane's lists.
use Rattle.std.proofs.Common.{◌≡◌, ◌⊎◌, inl, inr, ℕ, zero, suc, ◌≤◌, ◌||◌, Bool, true, false, List, [], ◌∷◌, ◌++◌, length, take, Option, Some, None, sym, ap, ◌∙◌, refl, append_assoc}
use Rattle.std.proofs.lemmas.Bool.{both_ways}
use Rattle.wdt_codec.specs.declared.frames.Frame.TheVariants as frames
use Rattle.wdt_sender_fsm.specs.Phases.{Message, Framed, Piece, piece_at}
use Rattle.wdt_sender_fsm.specs.Places.{tabulate}
use Rattle.wdt_pact.specs.Each.{Each}
use Rattle.wdt_units.specs.declared.blocks.Header.{Header}
use Rattle.wdt_pact.specs.Links.{Link, with_sent}
use Rattle.wdt_pact.specs.Stances.{Stance, Talks, Aborts, Silent}
use Rattle.wdt_pact.specs.Lists.{begun_heads, Splits-few, Splits-same, Leads, ListsBy, RestBy, AskedBy, flying, flying_by, blocks_in, is_done, has_done}

-- what has landed is a front of what was claimed
pub leads_of : (rs : Stance) (taken : Option Link) (kept landed : List Header) (begun : Option Header) (hand : List Message) (IsRest : List Header → Type 0) → ListsBy rs taken kept landed begun hand IsRest → Leads kept landed
leads_of rs (Some k) kept landed begun hand IsRest x = (flying_by rs begun hand k.down.sent ++ x.rest, x.same)
leads_of rs None kept landed begun hand IsRest x = x.0

few : (kept landed : List Header) → Leads kept landed → length landed ≤ length kept
few kept landed x = Splits-few kept landed x.0 x.1

or_false : (a b : Bool) → b ≡ false → (a || b) ≡ a
or_false true b e = refl
or_false false b e = e

pub landed_few : (rs : Stance) (taken : Option Link) (kept landed : List Header) (begun : Option Header) (hand : List Message) (IsRest : List Header → Type 0) → ListsBy rs taken kept landed begun hand IsRest → length landed ≤ length kept
landed_few rs taken kept landed begun hand IsRest x = few kept landed (leads_of rs taken kept landed begun hand IsRest x)

rest_weaker : (rs : Stance) (P Q : List Header → Type 0) → ((rest : List Header) → P rest → Q rest) → (rest : List Header) → RestBy rs P rest → RestBy rs Q rest
rest_weaker (Talks q) P Q f rest x = f rest x
rest_weaker Aborts P Q f rest x = tt
rest_weaker Silent P Q f rest x = tt

-- what is common of the rest may be common otherwise
pub lists_weaker : (rs : Stance) (taken : Option Link) (kept landed : List Header) (begun : Option Header) (hand : List Message) (P Q : List Header → Type 0) → ((rest : List Header) → P rest → Q rest) → ListsBy rs taken kept landed begun hand P → ListsBy rs taken kept landed begun hand Q
lists_weaker rs None kept landed begun hand P Q f x = x
lists_weaker rs (Some k) kept landed begun hand P Q f x = record { rest = x.rest; same = x.same; live = λ e. rest_weaker rs P Q f x.rest (x.live e); dead = x.dead }

-- ---- what flies

pub blocks_in-append : (xs ys : List Message) → blocks_in (xs ++ ys) ≡ blocks_in xs ++ blocks_in ys
blocks_in-append [] ys = refl
blocks_in-append (Framed (frames.Block h) ∷ xs) ys = ap (λ (hs : List Header). h ∷ hs) (blocks_in-append xs ys)
blocks_in-append (Framed f ∷ xs) ys = blocks_in-append xs ys
blocks_in-append (Piece n ∷ xs) ys = blocks_in-append xs ys

pub flying-more : (begun : Option Header) (hand : List Message) (ds ms : List Message) → flying begun hand (ds ++ ms) ≡ flying begun hand ds ++ blocks_in ms
flying-more begun hand ds ms =
    ap (λ (xs : List Message). begun_heads begun ++ blocks_in xs) (sym (append_assoc hand ds ms))
    ∙ (ap (λ (hs : List Header). begun_heads begun ++ hs) (blocks_in-append (hand ++ ds) ms)
    ∙ sym (append_assoc (begun_heads begun) (blocks_in (hand ++ ds)) (blocks_in ms)))

pub has_done-append : (xs ys : List Message) → has_done (xs ++ ys) ≡ (has_done xs || has_done ys)
has_done-append [] ys = refl
has_done-append (x ∷ xs) ys = go (has_done-append xs ys) (is_done x) where
  go : has_done (xs ++ ys) ≡ (has_done xs || has_done ys) → (b : Bool) → (b || has_done (xs ++ ys)) ≡ ((b || has_done xs) || has_done ys)
  go e true = refl
  go e false = e

-- pieces tell of no block, and aren't the last word
abbrev pub IsPiece : Message → Type 0
IsPiece (Piece n) = Unit {0}
IsPiece _ = ⊥

pub no_blocks : (ms : List Message) → Each IsPiece ms → blocks_in ms ≡ []
no_blocks [] e = refl
no_blocks (Piece n ∷ ms) e = no_blocks ms e.1
no_blocks (Framed f ∷ ms) e = absurd e.0

pub no_done : (ms : List Message) → Each IsPiece ms → has_done ms ≡ false
no_done [] e = refl
no_done (Piece n ∷ ms) e = no_done ms e.1
no_done (Framed f ∷ ms) e = absurd e.0

pub Each-append : {A : Type 0} (P : A → Type 0) (xs ys : List A) → Each P xs → Each P ys → Each P (xs ++ ys)
Each-append P [] ys a b = b
Each-append P (x ∷ xs) ys a b = (a.0, Each-append P xs ys a.1 b)

pub Each-take : {A : Type 0} (P : A → Type 0) (n : ℕ) (xs : List A) → Each P xs → Each P (take n xs)
Each-take P zero xs a = tt
Each-take P (suc n) [] a = tt
Each-take P (suc n) (x ∷ xs) a = (a.0, Each-take P n xs a.1)

pub are_pieces : (n k : ℕ) → Each IsPiece (tabulate k (piece_at n))
are_pieces n zero = tt
are_pieces n (suc k) = Each-append IsPiece (tabulate k (piece_at n)) (piece_at n k ∷ []) (are_pieces n k) (tt, tt)

-- ---- the lists as the sender writes

-- messages are written: some of the rest flies now
pub lists_written : (rs : Stance) (k : Link) (ms : List Message) (kept landed old new : List Header) (begun : Option Header) (hand : List Message) (IsRest : List Header → Type 0) → (rs ≡ Silent) ⊎ (k.greeted ≡ true) → old ≡ blocks_in ms ++ new → IsRest new → ListsBy rs (Some k) kept landed begun hand (λ rest. rest ≡ old) → ListsBy rs (Some record k { down = with_sent k.down ms }) kept landed begun hand IsRest
lists_written (Talks q) k ms kept landed old new begun hand IsRest (inl e) split is x = cc
lists_written (Talks q) k ms kept landed old new begun hand IsRest (inr live) split is x =
    record {
      rest = new;
      same = Splits-same kept landed (flying begun hand k.down.sent ++ x.rest) (flying begun hand (k.down.sent ++ ms) ++ new) x.same
          (ap (λ (hs : List Header). flying begun hand k.down.sent ++ hs) (x.live live ∙ split)
          ∙ (sym (append_assoc (flying begun hand k.down.sent) (blocks_in ms) new)
          ∙ ap (λ (hs : List Header). hs ++ new) (sym (flying-more begun hand k.down.sent ms))));
      live = λ e. is;
      dead = λ e. absurd (both_ways k.greeted e live);
    }
lists_written Aborts k ms kept landed old new begun hand IsRest how split is x = record { rest = x.rest; same = x.same; live = x.live; dead = x.dead }
lists_written Silent k ms kept landed old new begun hand IsRest how split is x = record { rest = x.rest; same = x.same; live = x.live; dead = x.dead }

-- messages without a last word are written by a lane that holds a block
pub asked_written : (rs : Stance) (k : Link) (ms : List Message) (kept landed : List Header) (begun : Option Header) (hand : List Message) (held : Bool) → (rs ≡ Silent) ⊎ (held ≡ true) → has_done ms ≡ false → AskedBy rs (Some k) kept landed begun hand held → AskedBy rs (Some record k { down = with_sent k.down ms }) kept landed begun hand held
asked_written (Talks q) k ms kept landed begun hand held (inl e) none x = λ e'. cc
asked_written (Talks q) k ms kept landed begun hand held (inr holds) none x =
    λ e. absurd (both_ways held (x (sym same ∙ e)).1 holds) where
      same : has_done (hand ++ (k.down.sent ++ ms)) ≡ has_done (hand ++ k.down.sent)
      same =
          ap has_done (sym (append_assoc hand k.down.sent ms)) ∙ (has_done-append (hand ++ k.down.sent) ms
          ∙ or_false (has_done (hand ++ k.down.sent)) (has_done ms) none)
asked_written Aborts k ms kept landed begun hand held how none x = tt
asked_written Silent k ms kept landed begun hand held how none x = tt
