-- One message that is taken.
use Rattle.std.proofs.Common.{◌≡◌, ℕ, List, [], ◌∷◌, ◌++◌, ◌-◌, length, take, drop, Option, Some, None, IsSome, Result, Ok, Err, refl, sym, ap, ◌∙◌, subst, append_assoc}
use Rattle.std.specs.Option.{option_and_then}
use Rattle.std.proofs.lemmas.List.{append-nil, take_rest, drop_at}
use Rattle.wdt_units.specs.Tree.{File}
use Rattle.wdt_units.specs.declared.blocks.Header.{Header}
use Rattle.wdt_codec.specs.declared.frames.Frame.TheVariants as frames
use Rattle.wdt_codec.specs.Frames.{FitsHeader, spell}
use Rattle.wdt_codec.specs.Stream.{Message, IsMessage, AreMessages, stream_of}
use Rattle.wdt_rehearsal.specs.declared.receiver.Receiver.{Receiver}
use Rattle.wdt_rehearsal.specs.declared.receiver.TakeFail.{TakeFail}
use Rattle.wdt_rehearsal.specs.declared.receiver.TakeFail.TheVariants as fails
use Rattle.wdt_rehearsal.specs.Landing.{AddsBlock}
use Rattle.wdt_rehearsal.specs.Sending.{Sends}
use Rattle.wdt_rehearsal.specs.Received.{Landing, after_frame, received, progress, nothing_held, Took}

one : (after : Option Landing) → option_and_then (received []) after ≡ after
one None = refl
one (Some s) = refl

-- what one message leaves
pub received-one : (m : Message) (s : Landing) → received (m ∷ []) s ≡ after_frame s.stage s.landed m.frame m.raw
received-one m s = one (after_frame s.stage s.landed m.frame m.raw)

-- what one message spells
pub stream-one : (m : Message) → stream_of (m ∷ []) ≡ spell m.frame ++ m.raw
stream-one m = append-nil (spell m.frame ++ m.raw)

pub took-ok : (after : Option Landing) (u : Unit {0}) (new : Receiver) → Took after (Ok u) new → (after ≡ Some (progress new)) × (new.reader ≡ nothing_held)
took-ok None u new h = absurd h
took-ok (Some s) u new h = (ap Some (sym h.0), h.1)

pub took-expected : (after : Option Landing) (new : Receiver) → IsSome after → Took after (Err fails.Unexpected) new → ⊥
took-expected None new some h = absurd cc
took-expected (Some s) new some h = h

-- a message at the end of a list of bytes is taken by itself
pub last-taken : (m : Message) (old wire : List ℕ) (start : ℕ) → start ≡ length old → wire ≡ old ++ (spell m.frame ++ m.raw) → take (length wire - start) (drop start wire) ≡ stream_of (m ∷ [])
last-taken m old wire start at is =
    take_rest wire start ∙ ap (drop start) is ∙ drop_at old (spell m.frame ++ m.raw) start (sym at) ∙ sym (stream-one m)

-- what a receiving half answers of the message at the end of a list of bytes
pub taken : (m : Message) (s : Landing) (old wire lent : List ℕ) (start : ℕ) (result : Result Unit TakeFail) (new : Receiver) → IsMessage m → start ≡ length old → wire ≡ old ++ (spell m.frame ++ m.raw) → lent ≡ wire
    → ((ms : List Message) → AreMessages ms → take (length lent - start) (drop start lent) ≡ stream_of ms → Took (received ms s) result new)
    → Took (after_frame s.stage s.landed m.frame m.raw) result new
taken m s old wire lent start result new message at is same clause =
    let spelled : take (length lent - start) (drop start lent) ≡ stream_of (m ∷ []) =
    subst (λ w. take (length w - start) (drop start w) ≡ stream_of (m ∷ [])) (sym same) (last-taken m old wire start at is) in
    subst (λ (a : Option Landing). Took a result new) (received-one m s) (clause (m ∷ []) (message, tt) spelled)

-- what a receiving half answers of a block at the end of a list of bytes
pub block-taken : (told : Option (List File)) (h : Header) (s : Landing) (old mid wire lent : List ℕ) (start : ℕ) (result : Result Unit TakeFail) (new : Receiver) → FitsHeader h → start ≡ length old
    → mid ≡ old ++ spell (frames.Block h) → (adds : AddsBlock told h.path h.offset h.length mid wire) → lent ≡ wire
    → ((ms : List Message) → AreMessages ms → take (length lent - start) (drop start lent) ≡ stream_of ms → Took (received ms s) result new)
    → Took (after_frame s.stage s.landed (frames.Block h) adds.bytes) result new
block-taken told h s old mid wire lent start result new fits at spelled adds same clause =
    let m : Message = record { frame = frames.Block h; raw = adds.bytes } in
    taken m s old wire lent start result new (record { fits = fits; whole = adds.long }) at
    (adds.added ∙ ap (λ x. x ++ adds.bytes) spelled ∙ append_assoc old (spell (frames.Block h)) adds.bytes) same clause

-- the block was taken
pub block-sent : (told : Option (List File)) (h : Header) (s : Landing) (mid wire : List ℕ) (u : Unit {0}) (new : Receiver) → (adds : AddsBlock told h.path h.offset h.length mid wire)
    → Took (after_frame s.stage s.landed (frames.Block h) adds.bytes) (Ok u) new → Sends told h s (progress new) × (new.reader ≡ nothing_held)
block-sent told h s mid wire u new adds took =
    let ok = took-ok (after_frame s.stage s.landed (frames.Block h) adds.bytes) u new took in
    (record { bytes = adds.bytes; long = adds.long; after = ok.0; read = adds.read }, ok.1)
