-- A block is sent as its pair sends it.
use Rattle.std.proofs.Common.{◌≡◌, ℕ, zero, suc, ◌+◌, ◌-◌, ◌*◌, ◌<◌, ◌≤◌, min, nat_le, Bool, true, false, not, ◌&&◌, is_some, List, [], ◌∷◌, ◌++◌, length, map, take, Option, Some, None, subst, sym, ap, ◌∙◌, refl, arith, append_assoc, if◌then◌else◌}
use Rattle.std.proofs.lemmas.Bool.{leb-false, leb-true}
use Rattle.std.proofs.lemmas.List.{append-nil, length-append, take-append-le, take_all}
use Rattle.wdt_units.specs.declared.blocks.Header.{Header}
use Rattle.wdt_codec.specs.Frames.{Fits, spell}
use Rattle.wdt_codec.specs.declared.frames.Frame.{Frame}
use Rattle.wdt_codec.specs.declared.frames.Frame.TheVariants as frames
use Rattle.wdt_sender_fsm.specs.declared.acts.SendAct.TheVariants as acts
use Rattle.wdt_sender_fsm.specs.declared.inputs.SendIn.{SendIn}
use Rattle.wdt_sender_fsm.specs.declared.inputs.SendIn.TheVariants as inputs
use Rattle.wdt_sender_fsm.specs.Phases.{Message, Framed, piece_at, piece_most, pieces_in, written_by}
use Rattle.wdt_sender_fsm.specs.Places.{tabulate}
use Rattle.wdt_wire.specs.declared.side.Side.TheVariants.{Down}
use Rattle.wdt_wire.specs.Wires.{PlainWire, written}
use Rattle.wdt_pact.specs.Links.{Link, Way, is_cut, with_sent}
use Rattle.wdt_pact.specs.Pairs.{Pair, SendHas, recv_stops, send_loses, send_stops, send_writes, top, with_top, wrote_or_lost}
use Rattle.wdt_world.specs.Blocks.{SendsBlock, WrotePieces}
use Rattle.wdt_world.specs.Hands.{Sends}
use Rattle.wdt_world.specs.Lines.{LinesView, can_write_on, on_top, top_wire}
use Rattle.wdt_world.specs.Pairing.{ShowsLines}
use Rattle.wdt_world.specs.Said.{SaidFrame, message_of}
use Rattle.wdt_world.proofs.Lining.{rehold, top_shows}
use Rattle.wdt_world.proofs.Listening.{top_same}
use Rattle.wdt_world.proofs.Pieces.{sent_more, sent_none, top_with, with_twice, wrote_more, wrote_none}
use Rattle.wdt_world.proofs.Putting.{top_shown}
use Rattle.wdt_world.proofs.Showing.{map_append, works_down, wrote_down}
use Rattle.wdt_world.proofs.Telling.{wrote_goes}

-- ---- lists

length_tabulate : {A : Type 0} (n : ℕ) (f : ℕ → A) → length (tabulate n f) ≡ n
length_tabulate zero f = refl
length_tabulate (suc n) f = let more : length (tabulate n f ++ f n ∷ []) ≡ length (tabulate n f) + 1 = length-append (tabulate n f) (f n ∷ []) in omega (arith, more, length_tabulate n f)

-- the front of what is listed by number
take_tabulate : {A : Type 0} (k n : ℕ) (f : ℕ → A) → k ≤ n → take k (tabulate n f) ≡ tabulate k f
take_tabulate k zero f le = let none : k ≡ 0 = omega (arith, le) in ap (λ (i : ℕ). take i []) none ∙ ap (λ (i : ℕ). tabulate i f) (sym none)
take_tabulate {A} k (suc n) f le = by (λ less. take_tabulate k n f less) (nat_le k n) refl where
  front : k ≤ n → take k (tabulate n f ++ f n ∷ []) ≡ take k (tabulate n f)
  front less = take-append-le k (tabulate n f) (f n ∷ []) (omega (arith, less, length_tabulate n f))

  whole : k ≡ suc n → take k (tabulate (suc n) f) ≡ tabulate k f
  whole is = take_all k (tabulate (suc n) f) (omega (arith, is, length_tabulate (suc n) f)) ∙ ap (λ (i : ℕ). tabulate i f) (sym is)

  by : (k ≤ n → take k (tabulate n f) ≡ tabulate k f) → (b : Bool) → nat_le k n ≡ b → take k (tabulate n f ++ f n ∷ []) ≡ tabulate k f
  by before true is = front (leb-true k n is) ∙ before (leb-true k n is)
  by before false is = whole (omega (arith, le, leb-false k n is))

-- ---- the header, and pieces behind it

-- pieces behind pieces
wrote_both : (n a b c : ℕ) (u v w : LinesView) → WrotePieces n a b u v → WrotePieces n b c v w → WrotePieces n a c u w
wrote_both n a b c u v w first second =
    record {
      said = first.said ++ second.said;
      pieces = ap (λ (ms : List Message). tabulate a (piece_at n) ++ ms) (map_append message_of first.said second.said)
          ∙ (sym (append_assoc (tabulate a (piece_at n)) (map message_of first.said) (map message_of second.said))
          ∙ (ap (λ (ms : List Message). ms ++ map message_of second.said) first.pieces ∙ second.pieces));
      shows = λ p k is shows.
          let j : Link = record k { down = with_sent k.down (map message_of first.said) } in
          subst (ShowsLines w)
          (with_twice p j record j { down = with_sent j.down (map message_of second.said) }
          ∙ ap (λ (way : Way Message). with_top p record k { down = way }) (sent_more k.down (map message_of first.said) (map message_of second.said) ∙ ap (with_sent k.down) (sym (map_append message_of first.said second.said))))
          (second.shows (with_top p j) j (top_with p k j is) (first.shows p k is shows));
    }

-- a frame was written
frame_shows : (v : LinesView) (p : Pair) (k : Link) (frame : Frame) → Fits frame → top p ≡ Some k → ShowsLines v p
    → ShowsLines (on_top (λ wire. written wire Down (spell frame)) v) (with_top p record k { down = with_sent k.down (Framed frame ∷ []) })
frame_shows v p k frame fits is shows =
    subst (λ (bs : List ℕ). ShowsLines (on_top (λ wire. written wire Down bs) v) (with_top p record k { down = with_sent k.down (Framed frame ∷ []) })) (append-nil (spell frame))
    (top_shows (λ wire. written wire Down (spell frame ++ [])) (λ j. record j { down = with_sent j.down (Framed frame ∷ []) }) (λ s r wire link. wrote_down s r wire link (SaidFrame frame ∷ []) (fits, tt)) v p k is shows)

-- what was written of a block so far
abbrev pub block_to : Header → ℕ → List Message
block_to h sent = Framed (frames.Block h) ∷ tabulate sent (piece_at h.length)

block_shows : (v w : LinesView) (p : Pair) (k : Link) (h : Header) (sent : ℕ) → Fits (frames.Block h) → top p ≡ Some k → ShowsLines v p → WrotePieces h.length 0 sent (on_top (λ wire. written wire Down (spell (frames.Block h))) v) w
    → ShowsLines w (with_top p record k { down = with_sent k.down (block_to h sent) })
block_shows v w p k h sent fits is shows wrote =
    let j : Link = record k { down = with_sent k.down (Framed (frames.Block h) ∷ []) } in
    subst (ShowsLines w)
    (with_twice p j record j { down = with_sent j.down (map message_of wrote.said) }
    ∙ ap (λ (way : Way Message). with_top p record k { down = way }) (sent_more k.down (Framed (frames.Block h) ∷ []) (map message_of wrote.said) ∙ ap (λ (ms : List Message). with_sent k.down (Framed (frames.Block h) ∷ ms)) wrote.pieces))
    (wrote.shows (with_top p j) j (top_with p k j is) (frame_shows v p k (frames.Block h) fits is shows))

-- ---- all of it

some_top : (k : Option Link) → is_some k ≡ true → (j : Link) × (k ≡ Some j)
some_top None there = absurd (not_there there) where
  not_there : false ≡ true → ⊥
  not_there e = cc
some_top (Some j) there = (j, refl)

-- messages of which the lane is told whether they went well
told_shows : (v w : LinesView) (p : Pair) (k : Link) (ms : List Message) (input : SendIn) → top p ≡ Some k → send_stops p.send ≡ false → ShowsLines v p → input ≡ wrote_or_lost (can_write_on (top_wire v) Down)
    → ShowsLines w (with_top p record k { down = with_sent k.down ms }) → Sends p.send (Some input) w (send_writes p ms (Some k))
told_shows v w p k ms input is here shows told now =
    let t = top_shown v p k is shows in
    let works : can_write_on (top_wire v) Down ≡ (not (is_cut k.down) && not (recv_stops p.recv)) = ap (λ (wire : Option PlainWire). can_write_on wire Down) t.there ∙ works_down (send_stops p.send) (recv_stops p.recv) t.wire k t.shows in
    let went : Bool = not (is_cut k.down) && not (recv_stops p.recv) in
    record {
      told = ap SendHas (sym (told ∙ ap wrote_or_lost works));
      shows = rehold w (with_top p record k { down = with_sent k.down ms }) (SendHas (wrote_or_lost went)) p.recv (here ∙ sym (wrote_goes went)) refl now;
    }

pub sends_whole : (Fails : Type 0) (v w : LinesView) (p : Pair) (h : Header) (input : SendIn) → Fits (frames.Block h) → send_stops p.send ≡ false → is_some (top p) ≡ true → ShowsLines v p
    → WrotePieces h.length 0 (pieces_in h.length) (on_top (λ wire. written wire Down (spell (frames.Block h))) v) w → input ≡ wrote_or_lost (can_write_on (top_wire v) Down) → SendsBlock Fails p h input w
sends_whole Fails v w p h input fits here there shows wrote told =
    let t = some_top (top p) there in
    record {
      lost = None;
      cause = λ none. absurd (none refl);
      sends = subst (λ (k : Option Link). Sends p.send (Some input) w (send_writes p (block_to h (pieces_in h.length)) k)) (sym t.1)
          (told_shows v w p t.0 (block_to h (pieces_in h.length)) input t.1 here shows told (block_shows v w p t.0 h (pieces_in h.length) fits t.1 shows wrote));
    }

-- ---- the source fails

few_le : (a b : ℕ) → b < a → nat_le a b ≡ false
few_le a b less = by (nat_le a b) refl where
  by : (c : Bool) → nat_le a b ≡ c → c ≡ false
  by true is = absurd (omega (arith, less, leb-true a b is))
  by false is = refl

lost_shows : (w : LinesView) (p : Pair) (k : Link) (ms : List Message) (unwritten : Bool) → send_stops p.send ≡ false → ShowsLines w (with_top p record k { down = with_sent k.down ms })
    → Sends p.send (Some (inputs.SourceLost unwritten)) w (send_loses p (Some k) ms unwritten)
lost_shows w p k ms unwritten here now =
    record { told = refl; shows = rehold w (with_top p record k { down = with_sent k.down ms }) (SendHas (inputs.SourceLost unwritten)) p.recv here refl now }

lost_by : (v w : LinesView) (p : Pair) (k : Link) (h : Header) (sent : ℕ) → suc sent < pieces_in h.length → Fits (frames.Block h) → top p ≡ Some k → send_stops p.send ≡ false → ShowsLines v p
    → WrotePieces h.length 0 (suc sent) (on_top (λ wire. written wire Down (spell (frames.Block h))) v) w → Sends p.send (Some (inputs.SourceLost false)) w (send_loses p (Some k) (take (suc (suc sent)) (written_by (acts.SendBlock h))) false)
lost_by v w p k h sent few fits is here shows wrote =
    let front : take (suc (suc sent)) (written_by (acts.SendBlock h)) ≡ block_to h (suc sent) = ap (λ (ms : List Message). Framed (frames.Block h) ∷ ms) (take_tabulate (suc sent) (pieces_in h.length) (piece_at h.length) (omega (arith, few))) in
    subst (λ (ms : List Message). Sends p.send (Some (inputs.SourceLost false)) w (send_loses p (Some k) ms false)) (sym front)
    (lost_shows w p k (block_to h (suc sent)) false here (block_shows v w p k h (suc sent) fits is shows wrote))

pub sends_part : (Fails : Type 0) (v w : LinesView) (p : Pair) (h : Header) (sent : ℕ) → Fails → 1 ≤ sent → sent < pieces_in h.length → Fits (frames.Block h) → send_stops p.send ≡ false → is_some (top p) ≡ true → ShowsLines v p
    → WrotePieces h.length 0 sent (on_top (λ wire. written wire Down (spell (frames.Block h))) v) w → SendsBlock Fails p h (inputs.SourceLost false) w
sends_part Fails v w p h zero fails some few fits here there shows wrote = absurd (omega (arith, some))
sends_part Fails v w p h (suc sent) fails some few fits here there shows wrote =
    let t = some_top (top p) there in
    record {
      lost = Some (suc sent);
      cause = λ none. fails;
      sends = subst
          (λ (b : Bool). Sends p.send (Some (inputs.SourceLost false)) w (if b then send_writes p (written_by (acts.SendBlock h)) (top p) else send_loses p (top p) (take (suc (suc sent)) (written_by (acts.SendBlock h))) false))
          (sym (few_le (pieces_in h.length) (suc sent) few))
          (subst (λ (k : Option Link). Sends p.send (Some (inputs.SourceLost false)) w (send_loses p k (take (suc (suc sent)) (written_by (acts.SendBlock h))) false)) (sym t.1)
          (lost_by v w p t.0 h sent few fits t.1 here shows wrote));
    }

-- nothing was written
pub sends_none : (Fails : Type 0) (v : LinesView) (p : Pair) (h : Header) → Fails → 0 < pieces_in h.length → send_stops p.send ≡ false → is_some (top p) ≡ true → ShowsLines v p → SendsBlock Fails p h (inputs.SourceLost true) v
sends_none Fails v p h fails some here there shows =
    let t = some_top (top p) there in
    let same : with_top p record t.0 { down = with_sent t.0.down [] } ≡ p = ap (λ (way : Way Message). with_top p record t.0 { down = way }) (sent_none t.0.down) ∙ top_same p t.0 t.1 in
    record {
      lost = Some 0;
      cause = λ none. fails;
      sends = subst
          (λ (b : Bool). Sends p.send (Some (inputs.SourceLost true)) v (if b then send_writes p (written_by (acts.SendBlock h)) (top p) else send_loses p (top p) [] true))
          (sym (few_le (pieces_in h.length) 0 some))
          (subst (λ (k : Option Link). Sends p.send (Some (inputs.SourceLost true)) v (send_loses p k [] true)) (sym t.1)
          (lost_shows v p t.0 [] true here (subst (ShowsLines v) (sym same) shows)));
    }

-- ---- the first piece

pub first_wrote : (n : ℕ) (v w : LinesView) (bytes : List ℕ) → length bytes ≡ min n piece_most → w ≡ on_top (λ wire. written wire Down bytes) v → WrotePieces n 0 1 v w
first_wrote n v w bytes long is =
    let same : min n piece_most ≡ min (n - 0 * piece_most) piece_most = ap (λ (k : ℕ). min k piece_most) (whole n) in
    wrote_more n 0 0 v v w bytes (wrote_none n 0 v) (long ∙ same) is where
      whole : (n : ℕ) → n ≡ n - 0 * piece_most
      whole n = omega arith

-- all pieces from the first on
pub then_wrote : (n sent : ℕ) (u v w : LinesView) (bytes : List ℕ) → length bytes ≡ min n piece_most → v ≡ on_top (λ wire. written wire Down bytes) u → WrotePieces n 1 sent v w → WrotePieces n 0 sent u w
then_wrote n sent u v w bytes long is rest = wrote_both n 0 1 sent u v w (first_wrote n u v bytes long is) rest
