-- What a lane writes is what its pair writes.
use Rattle.std.proofs.Common.{◌≡◌, ℕ, Bool, true, false, not, ◌&&◌, is_some, List, [], ◌∷◌, ◌++◌, map, Option, Some, None, option_map, subst, sym, ap, ◌∙◌, refl}
use Rattle.std.proofs.lemmas.List.{append-nil}
use Rattle.std.specs.List.{flat_map}
use Rattle.wdt_codec.specs.Frames.{Fits, spell}
use Rattle.wdt_codec.specs.declared.frames.Frame.{Frame}
use Rattle.wdt_sender_fsm.specs.declared.inputs.SendIn.{SendIn}
use Rattle.wdt_sender_fsm.specs.Phases.{Framed}
use Rattle.wdt_receiver_fsm.specs.declared.inputs.RecvIn.{RecvIn}
use Rattle.wdt_wire.specs.declared.side.Side.TheVariants.{Down, Up}
use Rattle.wdt_wire.specs.Wires.{PlainWire, written}
use Rattle.wdt_pact.specs.Bytes.{spell_up}
use Rattle.wdt_pact.specs.Each.{Each}
use Rattle.wdt_pact.specs.Links.{Link, is_cut, with_sent}
use Rattle.wdt_pact.specs.Pairs.{Pair, RecvHas, SendHas, recv_stops, recv_writes, recv_wrote_or_lost, send_left, send_stops, send_writes, top, with_top, wrote_or_lost}
use Rattle.wdt_world.specs.declared.hands.RecvHand.TheVariants as recv
use Rattle.wdt_world.specs.Hands.{Receives, Sends}
use Rattle.wdt_world.specs.Lines.{LinesView, can_write_on, on_top, taken_on, top_wire}
use Rattle.wdt_world.specs.Pairing.{ShowsLines}
use Rattle.wdt_world.specs.Said.{FitsSaid, Said, SaidFrame, message_of, written_as}
use Rattle.wdt_world.specs.Shown.{IsAnswer}
use Rattle.wdt_world.proofs.Lining.{rehold, top_shows}
use Rattle.wdt_world.proofs.Putting.{taken_put, taken_shown, top_shown}
use Rattle.wdt_world.proofs.Showing.{works_down, works_up, wrote_down, wrote_up}

-- ---- the sender

-- a write leaves that the lane hasn't stopped
pub wrote_goes : (b : Bool) → send_stops (SendHas (wrote_or_lost b)) ≡ false
wrote_goes true = refl
wrote_goes false = refl

-- messages are written on the sender's connection, and the write works or doesn't
pub writes_some : (v : LinesView) (p : Pair) (k : Link) (said : List Said) → top p ≡ Some k → send_stops p.send ≡ false → Each FitsSaid said → ShowsLines v p
    → Sends p.send (Some (wrote_or_lost (can_write_on (top_wire v) Down))) (on_top (λ w. written w Down (flat_map written_as said)) v) (send_writes p (map message_of said) (Some k))
writes_some v p k said is here fits shows =
    let t = top_shown v p k is shows in
    let works : can_write_on (top_wire v) Down ≡ (not (is_cut k.down) && not (recv_stops p.recv)) = ap (λ (w : Option PlainWire). can_write_on w Down) t.there ∙ works_down (send_stops p.send) (recv_stops p.recv) t.wire k t.shows in
    let g : Link → Link = λ j. record j { down = with_sent j.down (map message_of said) } in
    record {
      told = ap (λ (b : Bool). SendHas (wrote_or_lost b)) (sym works);
      shows = rehold (on_top (λ w. written w Down (flat_map written_as said)) v) (with_top p (g k)) (SendHas (wrote_or_lost (not (is_cut k.down) && not (recv_stops p.recv)))) p.recv
          (here ∙ sym (wrote_goes (not (is_cut k.down) && not (recv_stops p.recv)))) refl
          (top_shows (λ w. written w Down (flat_map written_as said)) g (λ s r wire link. wrote_down s r wire link said fits) v p k is shows);
    }

writes_top : (v : LinesView) (p : Pair) (said : List Said) (k : Option Link) → top p ≡ k → is_some k ≡ true → send_stops p.send ≡ false → Each FitsSaid said → ShowsLines v p
    → Sends p.send (Some (wrote_or_lost (can_write_on (top_wire v) Down))) (on_top (λ w. written w Down (flat_map written_as said)) v) (send_writes p (map message_of said) k)
writes_top v p said None is there here fits shows = absurd (not_there there) where
  not_there : false ≡ true → ⊥
  not_there e = cc
writes_top v p said (Some k) is there here fits shows = writes_some v p k said is here fits shows

pub writes_down : (v : LinesView) (p : Pair) (said : List Said) → is_some (top p) ≡ true → send_stops p.send ≡ false → Each FitsSaid said → ShowsLines v p
    → Sends p.send (Some (wrote_or_lost (can_write_on (top_wire v) Down))) (on_top (λ w. written w Down (flat_map written_as said)) v) (send_writes p (map message_of said) (top p))
writes_down v p said there here fits shows = writes_top v p said (top p) refl there here fits shows

-- a frame is written
pub says_down : (v new : LinesView) (p : Pair) (frame : Frame) (bytes : List ℕ) (works : Bool) (input : SendIn) → Fits frame → send_stops p.send ≡ false → is_some (top p) ≡ true → ShowsLines v p
    → bytes ≡ spell frame → new ≡ on_top (λ w. written w Down bytes) v → works ≡ can_write_on (top_wire v) Down → input ≡ wrote_or_lost works → Sends p.send (Some input) new (send_writes p (Framed frame ∷ []) (top p))
says_down v new p frame bytes works input fits here there shows spells is works_is input_is =
    subst (λ (n : LinesView). Sends p.send (Some input) n (send_writes p (Framed frame ∷ []) (top p))) (sym is)
    (subst (λ (bs : List ℕ). Sends p.send (Some input) (on_top (λ w. written w Down bs) v) (send_writes p (Framed frame ∷ []) (top p))) (append-nil (spell frame) ∙ sym spells)
    (subst (λ (i : SendIn). Sends p.send (Some i) (on_top (λ w. written w Down (spell frame ++ [])) v) (send_writes p (Framed frame ∷ []) (top p))) (sym (input_is ∙ ap wrote_or_lost works_is))
    (writes_down v p (SaidFrame frame ∷ []) there here (fits, tt) shows)))

-- ---- the receiver

answer_goes : (b : Bool) → recv_stops (RecvHas (recv_wrote_or_lost b)) ≡ false
answer_goes true = refl
answer_goes false = refl

answers_some : (v : LinesView) (p : Pair) (k : Link) (frame : Frame) → p.taken ≡ Some k → recv_stops p.recv ≡ false → IsAnswer frame → ShowsLines v p
    → Receives p.recv (Some (recv.Has (recv_wrote_or_lost (can_write_on v.taken Up)))) (taken_on (λ w. written w Up (spell_up (frame ∷ []))) v) (recv_writes p frame (Some k))
answers_some v p k frame is here fits shows =
    let t = taken_shown v p k is shows in
    let works : can_write_on v.taken Up ≡ (not (is_cut k.up) && not (send_left p.newest p.send)) = ap (λ (w : Option PlainWire). can_write_on w Up) t.there ∙ works_up (send_left p.newest p.send) (recv_stops p.recv) t.wire k t.shows in
    let j : Link = record k { up = with_sent k.up (frame ∷ []) } in
    record {
      told = ap (λ (b : Bool). RecvHas (recv_wrote_or_lost b)) (sym works);
      shows = rehold (taken_on (λ w. written w Up (spell_up (frame ∷ []))) v) record p { taken = Some j } p.send (RecvHas (recv_wrote_or_lost (not (is_cut k.up) && not (send_left p.newest p.send)))) refl
          (here ∙ sym (answer_goes (not (is_cut k.up) && not (send_left p.newest p.send))))
          (subst (λ (w : Option PlainWire). ShowsLines record v { taken = option_map (λ w. written w Up (spell_up (frame ∷ []))) w } record p { taken = Some j }) (sym t.there)
          (taken_put v p (written t.wire Up (spell_up (frame ∷ []))) j (wrote_up (send_left p.newest p.send) (recv_stops p.recv) t.wire k (frame ∷ []) (fits, tt) t.shows) shows));
    }

answers_on : (v : LinesView) (p : Pair) (frame : Frame) (k : Option Link) → p.taken ≡ k → is_some k ≡ true → recv_stops p.recv ≡ false → IsAnswer frame → ShowsLines v p
    → Receives p.recv (Some (recv.Has (recv_wrote_or_lost (can_write_on v.taken Up)))) (taken_on (λ w. written w Up (spell_up (frame ∷ []))) v) (recv_writes p frame k)
answers_on v p frame None is there here fits shows = absurd (not_there there) where
  not_there : false ≡ true → ⊥
  not_there e = cc
answers_on v p frame (Some k) is there here fits shows = answers_some v p k frame is here fits shows

-- a frame is written
pub says_up : (v new : LinesView) (p : Pair) (frame : Frame) (bytes : List ℕ) (works : Bool) (input : RecvIn) → IsAnswer frame → recv_stops p.recv ≡ false → is_some p.taken ≡ true → ShowsLines v p
    → bytes ≡ spell frame → new ≡ taken_on (λ w. written w Up bytes) v → works ≡ can_write_on v.taken Up → input ≡ recv_wrote_or_lost works → Receives p.recv (Some (recv.Has input)) new (recv_writes p frame p.taken)
says_up v new p frame bytes works input fits here there shows spells is works_is input_is =
    subst (λ (n : LinesView). Receives p.recv (Some (recv.Has input)) n (recv_writes p frame p.taken)) (sym is)
    (subst (λ (bs : List ℕ). Receives p.recv (Some (recv.Has input)) (taken_on (λ w. written w Up bs) v) (recv_writes p frame p.taken)) (append-nil (spell frame) ∙ sym spells)
    (subst (λ (i : RecvIn). Receives p.recv (Some (recv.Has i)) (taken_on (λ w. written w Up (spell frame ++ [])) v) (recv_writes p frame p.taken)) (sym (input_is ∙ ap recv_wrote_or_lost works_is))
    (answers_on v p frame p.taken refl there here fits shows)))
