-- Where the receiver takes blocks, no count is on its way to the sender.
use Rattle.std.proofs.Common.{◌≡◌, inl, inr, ℕ, ◌-◌, ◌==◌, min, Bool, true, false, if◌then◌else◌, List, [], ◌∷◌, ◌++◌, Option, Some, None, subst, sym, refl}
use Rattle.std.proofs.lemmas.Bool.{both_ways}
use Rattle.std.proofs.lemmas.Option.{same_Some}
use Rattle.wdt_units.specs.declared.blocks.Header.{Header}
use Rattle.wdt_codec.specs.declared.frames.Frame.{Frame}
use Rattle.wdt_codec.specs.declared.frames.Frame.TheVariants as frames
use Rattle.wdt_sender_fsm.specs.declared.inputs.SendIn.TheVariants as inputs
use Rattle.wdt_sender_fsm.specs.declared.states.SendLane.{SendLane}
use Rattle.wdt_sender_fsm.specs.Phases.{Phase, Open, Met, Listing, Told, Sending, Mid, Asked, Bye, Over, Message, Framed, Piece, down, up, phase_by, phase_heard, with_left, piece_most}
use Rattle.wdt_sender_fsm.specs.Talk.{moved}
use Rattle.wdt_pact.proofs.Below.{moved-first}
use Rattle.wdt_pact.specs.Each.{Each}
use Rattle.wdt_pact.specs.Links.{Link}
use Rattle.wdt_pact.specs.Pairs.{SendHold, SendHas, top_by}
use Rattle.wdt_pact.specs.Stances.{Stance, Talks, Aborts, Silent, OnLink, AgreeOn, AgreeWaiting, send_stance, send_there, stand}
use Rattle.wdt_pact.specs.Conversation.{Common, Tells, AllTell, send_in_hand, up_sent, said_there}
use Rattle.wdt_pact.proofs.Links.{is_first, waits_at, waits_not}

-- the receiver has told what it was to tell of itself
abbrev pub is_told : Phase → Bool
is_told Listing = true
is_told Told = true
is_told _ = false

abbrev is_before : Phase → Bool
is_before Open = true
is_before (Met ask) = true
is_before Listing = true
is_before Told = true
is_before _ = false

left_after : (n : ℕ) → is_before (with_left n) ≡ false
left_after n = go (n == 0) where
  go : (b : Bool) → is_before (if b then Sending else Mid n) ≡ false
  go true = refl
  go false = refl

after_some : (p q : Phase) → is_before p ≡ false → Some p ≡ Some q → is_before q ≡ false
after_some p q b e = subst (λ (x : Phase). is_before x ≡ false) (same_Some p q e) b

piece_after : (left n : ℕ) (b : Bool) (q : Phase) → (if b then Some (with_left (left - n)) else None) ≡ Some q → is_before q ≡ false
piece_after left n true q e = after_some (with_left (left - n)) q (left_after (left - n)) e
piece_after left n false q e = cc

after_stays : (p q : Phase) (m : Message) → is_before p ≡ false → down p m ≡ Some q → is_before q ≡ false
after_stays Sending q (Framed (frames.Block h)) b e = after_some (with_left h.length) q (left_after h.length) e
after_stays Sending q (Framed frames.Done) b e = after_some Asked q refl e
after_stays (Mid left) q (Piece n) b e = piece_after left n (n == min left piece_most) q e
after_stays Bye q (Framed frames.Done) b e = after_some Over q refl e
after_stays p q m b e = cc

all_after : (ms : List Message) (p q : Phase) → is_before p ≡ false → moved down ms p ≡ Some q → is_before q ≡ false
all_after [] p q b e = after_some p q b e
all_after (m ∷ ms) p q b e = let f = moved-first down p q m ms e in all_after ms f.0 q (after_stays p f.0 m b f.1) f.2

told_before : (p : Phase) → is_told p ≡ true → is_before p ≡ true
told_before Listing e = refl
told_before Told e = refl
told_before p e = cc

told_some : (p q : Phase) → is_told p ≡ true → Some p ≡ Some q → is_told q ≡ true
told_some p q b e = subst (λ (x : Phase). is_told x ≡ true) (same_Some p q e) b

told_stays : (p q : Phase) (u : Frame) → is_told p ≡ true → up p u ≡ Some q → is_told q ≡ true
told_stays Listing q (frames.Chunks have) b e = told_some Told q refl e
told_stays Listing q u b e = cc
told_stays p q u b e = cc

pub all_told : (us : List Frame) (p q : Phase) → is_told p ≡ true → moved up us p ≡ Some q → is_told q ≡ true
all_told [] p q b e = told_some p q b e
all_told (u ∷ us) p q b e = let f = moved-first up p q u us e in all_told us f.0 q (told_stays p f.0 u b f.1) f.2

-- a sender that was just told doesn't talk to a receiver that takes blocks
pub told_apart : (s : Phase) (ds : List Message) (us : List Frame) → OnLink (Talks s) (Talks Sending) ds us → is_told s ≡ true → ⊥
told_apart s ds us (inl a) t = both_ways (is_before s) (all_after ds Sending s refl a.1) (told_before s t)
told_apart s ds us (inr a) t = both_ways true (sym (all_told us s Sending t a.1)) refl

-- ---- counts

abbrev is_greeting : Frame → Bool
is_greeting (frames.Greeting m) = true
is_greeting _ = false

abbrev IsOther : Frame → Type 0
IsOther f = is_greeting f ≡ false

greeting_tells : (u : Frame) (p q : Phase) → is_greeting u ≡ true → up p u ≡ Some q → is_told q ≡ true
greeting_tells (frames.Greeting m) (Met true) q b e = told_some Listing q refl e
greeting_tells (frames.Greeting m) (Met false) q b e = told_some Told q refl e
greeting_tells (frames.Greeting m) p q b e = cc
greeting_tells u p q b e = cc

others_up : (us : List Frame) (s : Phase) → moved up us s ≡ Some Sending → Each IsOther us
others_up [] s e = tt
others_up (u ∷ us) s e = (go (is_greeting u) refl, others_up us f.0 f.2) where
  f : (q : Phase) × (up s u ≡ Some q) × (moved up us q ≡ Some Sending)
  f = moved-first up s Sending u us e

  go : (b : Bool) → is_greeting u ≡ b → is_greeting u ≡ false
  go true is = absurd (both_ways true (sym (all_told us f.0 Sending (greeting_tells u s f.0 is f.1) f.2)) refl)
  go false is = is

others_way : (s : Phase) (ds : List Message) (us : List Frame) → OnLink (Talks s) (Talks Sending) ds us → Each IsOther us
others_way s ds us (inl a) = subst (λ (xs : List Frame). Each IsOther xs) (sym a.0) tt
others_way s ds us (inr a) = others_up us s a.1

-- what is no count stays true of a longer list
tells_more : (g : Common) (l : ℕ) (landed more : List Header) (f : Frame) → is_greeting f ≡ false → Tells g l landed f → Tells g l more f
tells_more g l landed more (frames.Greeting m) b t = cc
tells_more g l landed more f b t = t

each_more : (g : Common) (l : ℕ) (landed more : List Header) (us : List Frame) → Each IsOther us → Each (Tells g l landed) us → Each (Tells g l more) us
each_more g l landed more [] b e = tt
each_more g l landed more (u ∷ us) b e = (tells_more g l landed more u b.0 e.0, each_more g l landed more us b.1 e.1)

both_each : (P : Frame → Type 0) (xs ys : List Frame) → Each P xs → Each P ys → Each P (xs ++ ys)
both_each P [] ys a b = b
both_each P (x ∷ xs) ys a b = (a.0, both_each P xs ys a.1 b)

heard_told : (f : Frame) (o : Option Phase) (s : Phase) → is_greeting f ≡ true → stand false (phase_heard f o) ≡ Talks s → is_told s ≡ true
heard_told f None s b e = cc
heard_told f (Some p) s b e = go (up p f) refl e where
  go : (o : Option Phase) → up p f ≡ o → stand false o ≡ Talks s → is_told s ≡ true
  go None is x = cc
  go (Some q) is x = let same : q ≡ s = cc in subst (λ (v : Phase). is_told v ≡ true) same (greeting_tells f p q b is)

-- what a sender has in hand, where it doesn't stand just told, is no count
hand_other : (lane : SendLane) (acked : Bool) (hold : SendHold) (s : Phase) → send_stance lane acked hold ≡ Talks s → (is_told s ≡ true → ⊥) → Each IsOther (send_in_hand hold)
hand_other lane acked (SendHas (inputs.Got f)) s is apart = (go (is_greeting f) refl, tt) where
  go : (b : Bool) → is_greeting f ≡ b → is_greeting f ≡ false
  go true e = absurd (apart (heard_told f (phase_by lane.ask false lane.state) s e is))
  go false e = e
hand_other lane acked hold s is apart = tt

told_first : (s : Phase) → is_told s ≡ true → is_first s ≡ false
told_first Listing e = refl
told_first Told e = refl
told_first s e = cc

-- what goes up to a sender stays true where a block lands
pub tells_landed : (g : Common) (l : ℕ) (landed more : List Header) (lane : SendLane) (acked : Bool) (hold : SendHold) (st : Stance) (k : Link) (newest : Option Link) → send_stance lane acked hold ≡ st → AgreeOn (send_there newest st) (Talks Sending) (Some k) → AgreeWaiting st newest → AllTell st (Tells g l landed) (send_in_hand hold ++ (up_sent (top_by newest (Some k)) ++ said_there newest [])) → AllTell st (Tells g l more) (send_in_hand hold ++ (up_sent (top_by newest (Some k)) ++ said_there newest []))
tells_landed g l landed more lane acked hold (Talks s) k None is on wait t =
    each_more g l landed more (send_in_hand hold ++ (k.up.sent ++ []))
    (both_each IsOther (send_in_hand hold) (k.up.sent ++ []) (hand_other lane acked hold s is (told_apart s k.down.sent k.up.sent on)) (both_each IsOther k.up.sent [] (others_way s k.down.sent k.up.sent on) tt)) t
tells_landed g l landed more lane acked hold (Talks s) k (Some x) is on wait t =
    let none : x.up.sent ≡ [] = (waits_at s x.down.sent x.up.sent wait).0 in
    each_more g l landed more (send_in_hand hold ++ (x.up.sent ++ []))
    (both_each IsOther (send_in_hand hold) (x.up.sent ++ []) (hand_other lane acked hold s is (λ e. waits_not s x.down.sent x.up.sent wait (told_first s e)))
    (both_each IsOther x.up.sent [] (subst (λ (xs : List Frame). Each IsOther xs) (sym none) tt) tt)) t
tells_landed g l landed more lane acked hold Aborts k newest is on wait t = tt
tells_landed g l landed more lane acked hold Silent k newest is on wait t = tt
