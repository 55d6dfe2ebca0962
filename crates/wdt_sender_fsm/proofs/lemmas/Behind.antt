-- What entries make of pasts that stand already.
use Rattle.std.proofs.Common.{◌≡◌, ℕ, List, [], ◌∷◌, ◌++◌, refl}
use Rattle.wdt_sender_fsm.specs.declared.events.SendEvent.{SendEvent}
use Rattle.wdt_sender_fsm.specs.SenderHistory.{LanePast, EndPast, no_past, no_end, past_after, past_from, past_of, end_after, end_from, end_of}

pub from_behind : (l : ℕ) (p : LanePast) (h es : List SendEvent) → past_from l p (h ++ es) ≡ past_from l (past_from l p h) es
from_behind l p [] es = refl
from_behind l p (e ∷ h) es = from_behind l (past_after l p e) h es

-- a lane's past behind further entries
pub past_behind : (h es : List SendEvent) (l : ℕ) → past_of (h ++ es) l ≡ past_from l (past_of h l) es
unfolding past_of
past_behind h es l = from_behind l no_past h es

pub end_from_behind : (x : EndPast) (h es : List SendEvent) → end_from x (h ++ es) ≡ end_from (end_from x h) es
end_from_behind x [] es = refl
end_from_behind x (e ∷ h) es = end_from_behind (end_after x e) h es

-- the end's past behind further entries
pub end_behind : (h es : List SendEvent) → end_of (h ++ es) ≡ end_from (end_of h) es
unfolding end_of
end_behind h es = end_from_behind no_end h es
