-- A history in which no lane has read what the destination has is legal whatever is planned.
use Rattle.std.proofs.Common.{◌≡◌, ℕ, List, [], ◌∷◌, ◌++◌, Bool, true, false, subst, sym, ap, refl, append_assoc}
use Rattle.wdt_units.specs.declared.blocks.Block.{Block}
use Rattle.wdt_sender_fsm.specs.declared.events.SendEvent.{SendEvent}
use Rattle.wdt_sender_fsm.specs.declared.events.SendEvent.TheVariants as events
use Rattle.wdt_sender_fsm.specs.declared.peers.PeerKind.{PeerKind}
use Rattle.wdt_sender_fsm.specs.declared.peers.PeerKind.TheVariants as peers
use Rattle.wdt_sender_fsm.specs.Legal.{Fits, IsFault, legal_from, IsLegal}
use Rattle.wdt_sender_fsm.specs.SenderHistory.{EndPast, no_end, end_of, end_from, end_after}
use Rattle.wdt_sender_fsm.proofs.lemmas.Pasts.{later}

-- what was read stays read
stays_listed : (s : EndPast) (es : List SendEvent) → s.is_listed ≡ true → (end_from s es).is_listed ≡ true
stays_listed s [] is = is
stays_listed s (e ∷ es) is = stays_listed (end_after s e) es ((later s e).listed is)

end_behind : (s : EndPast) (b es : List SendEvent) → end_from s (b ++ es) ≡ end_from (end_from s b) es
end_behind s [] es = refl
end_behind s (e ∷ b) es = end_behind (end_after s e) b es

unlisted : (b es : List SendEvent) → (end_of (b ++ es)).is_listed ≡ false → (end_of b).is_listed ≡ false
unfolding end_of
unlisted b es none = go (end_from no_end b).is_listed refl where
  go : (x : Bool) → (end_from no_end b).is_listed ≡ x → (end_from no_end b).is_listed ≡ false
  go true is = let listed = stays_listed (end_from no_end b) es is in let e = ap (λ s. s.is_listed) (end_behind no_end b es) in cc
  go false is = is

fault_for_any : (n : ℕ) (p q : List Block) (b : List SendEvent) (l : ℕ) (kind : PeerKind) → (end_of b).is_listed ≡ false → IsFault n p b l kind → IsFault n q b l kind
fault_for_any n p q b l (peers.EarlyDone count) none f = let listed = f.0 in cc
fault_for_any n p q b l kind none f = f

fits_for_any : (n : ℕ) (p q : List Block) (b : List SendEvent) (e : SendEvent) → (end_of b).is_listed ≡ false → Fits n p b e → Fits n q b e
fits_for_any n p q b (events.Claim l c) none f = let listed = f.0 in absurd (apart listed none) where
  apart : (end_of b).is_listed ≡ true → (end_of b).is_listed ≡ false → ⊥
  apart x y = cc
fits_for_any n p q b (events.Finish l) none f = let listed = f.0 in absurd (apart listed none) where
  apart : (end_of b).is_listed ≡ true → (end_of b).is_listed ≡ false → ⊥
  apart x y = cc
fits_for_any n p q b (events.Peer l kind) none f = fault_for_any n p q b l.0 kind none f
fits_for_any n p q b e none f = f

legal_for_any : (n : ℕ) (p q : List Block) (b h : List SendEvent) → (end_of (b ++ h)).is_listed ≡ false → legal_from n p b h → legal_from n q b h
legal_for_any n p q b [] none l = tt
legal_for_any n p q b (e ∷ es) none l = (
  (l.0.0, fits_for_any n p q b e (unlisted b (e ∷ es) none) l.0.1),
  legal_for_any n p q (b ++ e ∷ []) es (subst (λ (x : List SendEvent). (end_of x).is_listed ≡ false) (sym (append_assoc b (e ∷ []) es)) none) l.1,
)

pub replans : (n : ℕ) (p q : List Block) (h : List SendEvent) → (end_of h).is_listed ≡ false → IsLegal n p h → IsLegal n q h
unfolding IsLegal
replans n p q h none l = legal_for_any n p q [] h none l
