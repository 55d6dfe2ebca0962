-- What a sender's history says of each lane, and of the whole end.
use Rattle.std.specs.Prelude.{◌≡◌, refl, ℕ, ◌+◌, ◌==◌, Bool, true, false, if◌then◌else◌, List, [], ◌∷◌, ◌++◌, Option, Some, None}
use Rattle.wdt_claims.specs.LaneWords.{Claims, no_claims, claimed, sent, cut_to, closed_at, finished}
use Rattle.wdt_sender_fsm.specs.declared.events.SendEvent.{SendEvent}
use Rattle.wdt_sender_fsm.specs.declared.events.SendEvent.TheVariants.{Linked, NoLink, Lost, Greet, Chunks, Claim, Sent, Done, Global, Finish, Acked, Quit, Abort, Peer}

-- ---- of one lane

-- what a history says of one lane
pub record LanePast : Type 0 where
  -- its blocks, how many have surely landed, whether the last is being written, and what closed it
  pub claims : Claims
  -- how many connections it had, and how often none could be made
  pub connections : ℕ
  pub failed_tries : ℕ
  -- it has a connection that wasn't lost
  pub is_up : Bool
  -- since its last connection was made it was told how many of its blocks the receiver has
  pub is_greeted : Bool
  -- since then it read the receiver's last word
  pub has_finish : Bool
  -- it answered the receiver's last word
  pub is_acked : Bool
  -- it was given up
  pub has_quit : Bool

-- nothing has happened to it
abbrev pub no_past : LanePast
no_past =
    record {
      claims = no_claims;
      connections = 0;
      failed_tries = 0;
      is_up = false;
      is_greeted = false;
      has_finish = false;
      is_acked = false;
      has_quit = false;
    }

-- a lane is closed once, by the first that says so
abbrev pub close_by : Option ℕ → ℕ → Claims → Claims
close_by None n s = closed_at n 0 s
close_by (Some m) n s = s

-- lane l's claims behind an entry
abbrev pub claims_after : ℕ → Claims → SendEvent → Claims
claims_after l s (Greet k n) = if k.0 == l then cut_to n 0 s else s
claims_after l s (Claim k b) = if k.0 == l then claimed b s else s
claims_after l s (Sent k) = if k.0 == l then sent s else s
claims_after l s (Global k c n) = if c.0 == l then close_by s.closed n s else s
claims_after l s (Finish k) = finished s
claims_after l s _ = s

-- how many connections it had
abbrev pub connections_after : ℕ → ℕ → SendEvent → ℕ
connections_after l s (Linked k c) = if k.0 == l then s + 1 else s
connections_after l s _ = s

-- how often none could be made
abbrev pub failed_tries_after : ℕ → ℕ → SendEvent → ℕ
failed_tries_after l s (NoLink k) = if k.0 == l then s + 1 else s
failed_tries_after l s _ = s

-- whether it has a connection that wasn't lost
abbrev pub is_up_after : ℕ → Bool → SendEvent → Bool
is_up_after l s (Linked k c) = if k.0 == l then true else s
is_up_after l s (Lost k) = if k.0 == l then false else s
is_up_after l s _ = s

-- whether it was told its count on its last connection
abbrev pub is_greeted_after : ℕ → Bool → SendEvent → Bool
is_greeted_after l s (Linked k c) = if k.0 == l then false else s
is_greeted_after l s (Greet k n) = if k.0 == l then true else s
is_greeted_after l s _ = s

-- whether it read the receiver's last word on its last connection
abbrev pub has_finish_after : ℕ → Bool → SendEvent → Bool
has_finish_after l s (Linked k c) = if k.0 == l then false else s
has_finish_after l s (Finish k) = if k.0 == l then true else s
has_finish_after l s _ = s

-- whether it answered that
abbrev pub is_acked_after : ℕ → Bool → SendEvent → Bool
is_acked_after l s (Acked k) = if k.0 == l then true else s
is_acked_after l s _ = s

-- whether it was given up
abbrev pub has_quit_after : ℕ → Bool → SendEvent → Bool
has_quit_after l s (Quit k) = if k.0 == l then true else s
has_quit_after l s _ = s

-- a lane's past with one more entry
abbrev pub past_after : ℕ → LanePast → SendEvent → LanePast
past_after l s e =
    record {
      claims = claims_after l s.claims e;
      connections = connections_after l s.connections e;
      failed_tries = failed_tries_after l s.failed_tries e;
      is_up = is_up_after l s.is_up e;
      is_greeted = is_greeted_after l s.is_greeted e;
      has_finish = has_finish_after l s.has_finish e;
      is_acked = is_acked_after l s.is_acked e;
      has_quit = has_quit_after l s.has_quit e;
    }

-- a lane's past with some more entries
abbrev pub past_from : ℕ → LanePast → List SendEvent → LanePast
past_from l s [] = s
past_from l s (e ∷ es) = past_from l (past_after l s e) es

-- what a history says of a lane
unfoldable pub past_of : List SendEvent → ℕ → LanePast
past_of h l = past_from l no_past h

past_from-more : (l : ℕ) (s : LanePast) (h : List SendEvent) (e : SendEvent) → past_from l s (h ++ e ∷ []) ≡ past_after l (past_from l s h) e
past_from-more l s [] e = refl
past_from-more l s (d ∷ h) e = past_from-more l (past_after l s d) h e

-- a history that grows by an entry
pub past_of-more : (h : List SendEvent) (e : SendEvent) (l : ℕ) → past_of (h ++ e ∷ []) l ≡ past_after l (past_of h l) e
unfolding past_of
past_of-more h e l = past_from-more l no_past h e

-- nothing has happened
pub past_of-none : (l : ℕ) → past_of [] l ≡ no_past
unfolding past_of
past_of-none l = refl

-- ---- of the whole end

-- what a history says of the whole end
pub record EndPast : Type 0 where
  -- a lane read what the destination has
  pub is_listed : Bool
  -- a lane read the receiver's last word
  pub has_finish : Bool
  -- a lane read that the receiver has failed, or what no receiver may say
  pub has_fault : Bool

-- nothing has happened to it
abbrev pub no_end : EndPast
no_end = record { is_listed = false; has_finish = false; has_fault = false }

-- whether some lane read what the destination has, behind an entry
abbrev pub is_listed_after : Bool → SendEvent → Bool
is_listed_after s (Chunks k) = true
is_listed_after s _ = s

-- whether some lane read the receiver's last word
abbrev pub end_finish_after : Bool → SendEvent → Bool
end_finish_after s (Finish k) = true
end_finish_after s _ = s

-- whether some lane read a failure or a fault
abbrev pub has_fault_after : Bool → SendEvent → Bool
has_fault_after s (Abort k code) = true
has_fault_after s (Peer k kind) = true
has_fault_after s _ = s

-- the end's past with one more entry
abbrev pub end_after : EndPast → SendEvent → EndPast
end_after s e =
    record {
      is_listed = is_listed_after s.is_listed e;
      has_finish = end_finish_after s.has_finish e;
      has_fault = has_fault_after s.has_fault e;
    }

-- the end's past with some more entries
abbrev pub end_from : EndPast → List SendEvent → EndPast
end_from s [] = s
end_from s (e ∷ es) = end_from (end_after s e) es

-- what a history says of the whole end
unfoldable pub end_of : List SendEvent → EndPast
end_of h = end_from no_end h

end_from-more : (s : EndPast) (h : List SendEvent) (e : SendEvent) → end_from s (h ++ e ∷ []) ≡ end_after (end_from s h) e
end_from-more s [] e = refl
end_from-more s (d ∷ h) e = end_from-more (end_after s d) h e

-- a history that grows by an entry
pub end_of-more : (h : List SendEvent) (e : SendEvent) → end_of (h ++ e ∷ []) ≡ end_after (end_of h) e
unfolding end_of
end_of-more h e = end_from-more no_end h e

-- nothing has happened
pub end_of-none : end_of [] ≡ no_end
unfolding end_of
end_of-none = refl

-- ---- whose entry it is

-- the lane whose step an entry is of
abbrev pub lane_of : SendEvent → ℕ
lane_of (Linked k c) = k.0
lane_of (NoLink k) = k.0
lane_of (Lost k) = k.0
lane_of (Greet k n) = k.0
lane_of (Chunks k) = k.0
lane_of (Claim k b) = k.0
lane_of (Sent k) = k.0
lane_of (Done k) = k.0
lane_of (Global k c n) = k.0
lane_of (Finish k) = k.0
lane_of (Acked k) = k.0
lane_of (Quit k) = k.0
lane_of (Abort k code) = k.0
lane_of (Peer k kind) = k.0
