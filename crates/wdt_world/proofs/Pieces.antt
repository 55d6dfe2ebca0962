-- The pieces of a block, one after the other.
use Rattle.std.proofs.Common.{◌≡◌, ℕ, suc, ◌+◌, ◌-◌, ◌*◌, min, List, [], ◌∷◌, ◌++◌, length, map, Option, Some, None, subst, sym, ap, ◌∙◌, refl, arith, append_assoc}
use Rattle.std.proofs.lemmas.List.{append-nil}
use Rattle.wdt_sender_fsm.specs.Phases.{Message, Piece, piece_at, piece_most}
use Rattle.wdt_sender_fsm.specs.Places.{tabulate}
use Rattle.wdt_wire.specs.declared.side.Side.TheVariants.{Down}
use Rattle.wdt_wire.specs.Wires.{written}
use Rattle.wdt_pact.specs.Links.{Link, Way, with_sent}
use Rattle.wdt_pact.specs.Pairs.{Pair, top, with_top}
use Rattle.wdt_pact.specs.Pairs as pairs
use Rattle.wdt_world.specs.Blocks.{WrotePieces}
use Rattle.wdt_world.specs.Lines.{LinesView, on_top}
use Rattle.wdt_world.specs.Pairing.{ShowsLines}
use Rattle.wdt_world.specs.Said.{SaidBytes, message_of}
use Rattle.wdt_world.proofs.Lining.{top_shows}
use Rattle.wdt_world.proofs.Listening.{top_same}
use Rattle.wdt_world.proofs.Showing.{map_append, wrote_down}

-- ---- the sender's connection of a pair

pub top_with : (p : Pair) (j k : Link) → top p ≡ Some j → top (with_top p k) ≡ Some k
top_with p j k is = there p.newest where
  there : (newest : Option Link) → pairs.top_by (pairs.put_newest newest k) (pairs.put_taken newest p.taken k) ≡ Some k
  there None = refl
  there (Some t) = refl

pub with_twice : (p : Pair) (j k : Link) → with_top (with_top p j) k ≡ with_top p k
with_twice p j k = twice p.newest where
  twice : (newest : Option Link) → record p { taken = pairs.put_taken (pairs.put_newest newest j) (pairs.put_taken newest p.taken j) k; newest = pairs.put_newest (pairs.put_newest newest j) k }
      ≡ record p { taken = pairs.put_taken newest p.taken k; newest = pairs.put_newest newest k }
  twice None = refl
  twice (Some t) = refl

-- more messages are handed to a write
pub sent_more : (way : Way Message) (ms more : List Message) → with_sent (with_sent way ms) more ≡ with_sent way (ms ++ more)
sent_more way ms more = ap (λ (all : List Message). record { sent = all; room = way.room }) (append_assoc way.sent ms more)

pub sent_none : (way : Way Message) → with_sent way [] ≡ way
sent_none way = ap (λ (all : List Message). record { sent = all; room = way.room }) (append-nil way.sent)

-- ---- pieces

-- none was written
pub wrote_none : (length n : ℕ) (v : LinesView) → WrotePieces length n n v v
wrote_none length n v =
    record {
      said = [];
      pieces = append-nil (tabulate n (piece_at length));
      shows = λ p k is shows. subst (λ (q : Pair). ShowsLines v q) (sym (ap (λ (way : Way Message). with_top p record k { down = way }) (sent_none k.down) ∙ top_same p k is)) shows;
    }

-- bytes of the block were written
bytes_show : (v : LinesView) (p : Pair) (k : Link) (bytes : List ℕ) → top p ≡ Some k → ShowsLines v p
    → ShowsLines (on_top (λ wire. written wire Down bytes) v) (with_top p record k { down = with_sent k.down (Piece (length bytes) ∷ []) })
bytes_show v p k bytes is shows =
    subst (λ (bs : List ℕ). ShowsLines (on_top (λ wire. written wire Down bs) v) (with_top p record k { down = with_sent k.down (Piece (length bytes) ∷ []) })) (append-nil bytes)
    (top_shows (λ wire. written wire Down (bytes ++ [])) (λ j. record j { down = with_sent j.down (Piece (length bytes) ∷ []) }) (λ s r wire link. wrote_down s r wire link (SaidBytes bytes ∷ []) (tt, tt)) v p k is shows)

wrote_next : (n from i : ℕ) (old v : LinesView) (bytes : List ℕ) → WrotePieces n from i old v → length bytes ≡ min (n - piece_most * i) piece_most
    → WrotePieces n from (suc i) old (on_top (λ wire. written wire Down bytes) v)
wrote_next n from i old v bytes wrote long =
    record {
      said = wrote.said ++ SaidBytes bytes ∷ [];
      pieces = ap (λ (ms : List Message). tabulate from (piece_at n) ++ ms) (map_append message_of wrote.said (SaidBytes bytes ∷ []))
          ∙ (sym (append_assoc (tabulate from (piece_at n)) (map message_of wrote.said) (Piece (length bytes) ∷ []))
          ∙ (ap (λ (ms : List Message). ms ++ Piece (length bytes) ∷ []) wrote.pieces ∙ ap (λ (k : ℕ). tabulate i (piece_at n) ++ Piece k ∷ []) long));
      shows = λ p k is shows.
          let j : Link = record k { down = with_sent k.down (map message_of wrote.said) } in
          let next : ShowsLines (on_top (λ wire. written wire Down bytes) v) (with_top (with_top p j) record j { down = with_sent j.down (Piece (length bytes) ∷ []) }) =
          bytes_show v (with_top p j) j bytes (top_with p k j is) (wrote.shows p k is shows) in
          subst (ShowsLines (on_top (λ wire. written wire Down bytes) v))
          (with_twice p j record j { down = with_sent j.down (Piece (length bytes) ∷ []) }
          ∙ ap (λ (way : Way Message). with_top p record k { down = way })
          (sent_more k.down (map message_of wrote.said) (Piece (length bytes) ∷ []) ∙ ap (with_sent k.down) (sym (map_append message_of wrote.said (SaidBytes bytes ∷ [])))))
          next;
    }

-- the next piece was written
pub wrote_more : (n from i : ℕ) (old v new : LinesView) (bytes : List ℕ) → WrotePieces n from i old v → length bytes ≡ min (n - i * piece_most) piece_most → new ≡ on_top (λ wire. written wire Down bytes) v
    → WrotePieces n from (i + 1) old new
wrote_more n from i old v new bytes wrote long is =
    let next : suc i ≡ i + 1 = omega arith in
    let turned : i * piece_most ≡ piece_most * i = omega arith in
    subst (λ (k : ℕ). WrotePieces n from k old new) next
    (subst (WrotePieces n from (suc i) old) (sym is) (wrote_next n from i old v bytes wrote (long ∙ ap (λ (k : ℕ). min (n - k) piece_most) turned)))
