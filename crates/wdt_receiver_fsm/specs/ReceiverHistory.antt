-- What a receiver's history says of each lane, and of the whole end.
use Rattle.std.specs.Prelude.{◌≡◌, refl, ℕ, ◌+◌, ◌==◌, ◌||◌, Bool, true, false, if◌then◌else◌, List, [], ◌∷◌, ◌++◌, Option, Some, None}
use Rattle.wdt_units.specs.declared.blocks.Block.{Block}
use Rattle.wdt_codec.specs.declared.frames.Settings.{Settings}
use Rattle.wdt_receiver_fsm.specs.declared.events.RecvEvent.{RecvEvent}
use Rattle.wdt_receiver_fsm.specs.declared.events.RecvEvent.TheVariants.{Take, NoLink, Met, Sized, Begin, Land, Dropped, Idle, Told, Close, Finish, Acked, Quit, Abort, Peer}
use Rattle.wdt_receiver_fsm.specs.Sets.{has, lanes_of, without}

-- ---- of one lane

-- what a history says of one lane
pub record RecvPast : Type 0 where
  -- the blocks that landed on it, in order, and the one that is begun
  pub landed : List Block
  pub begun : Option Block
  -- how many connections it took, and how often none could be taken
  pub takes : ℕ
  pub failed_tries : ℕ
  -- it has a connection that wasn't lost
  pub is_up : Bool
  -- the sender said that nothing more is to come, and nothing was told to it since that lets it send more
  pub is_idle : Bool
  -- the closed lanes of which it told since its last connection was taken
  pub told : List ℕ
  -- and those of which it told since the sender last said that nothing more is to come
  pub telling : List ℕ
  -- it read the answer to the last word
  pub is_acked : Bool
  -- it was given up, after the finish or before
  pub has_quit : Bool
  pub is_closed : Bool

-- nothing has happened on a lane
abbrev pub no_past : RecvPast
no_past =
    record {
      landed = [];
      begun = None;
      takes = 0;
      failed_tries = 0;
      is_up = false;
      is_idle = false;
      told = [];
      telling = [];
      is_acked = false;
      has_quit = false;
      is_closed = false;
    }

-- blocks that landed, and one more
abbrev pub with_begun : List Block → Option Block → List Block
with_begun landed None = landed
with_begun landed (Some b) = landed ++ b ∷ []

-- one more has landed
abbrev pub landed_after : ℕ → List Block → Option Block → RecvEvent → List Block
landed_after l s b (Land k) = if k.0 == l then with_begun s b else s
landed_after l s b _ = s

-- a block begins, lands, or is lost
abbrev pub begun_after : ℕ → Option Block → RecvEvent → Option Block
begun_after l s (Begin k b) = if k.0 == l then Some b else s
begun_after l s (Land k) = if k.0 == l then None else s
begun_after l s (Dropped k) = if k.0 == l then None else s
begun_after l s _ = s

-- a connection more is taken
abbrev pub takes_after : ℕ → ℕ → RecvEvent → ℕ
takes_after l s (Take k c) = if k.0 == l then s + 1 else s
takes_after l s _ = s

-- a try more has failed
abbrev pub failed_tries_after : ℕ → ℕ → RecvEvent → ℕ
failed_tries_after l s (NoLink k) = if k.0 == l then s + 1 else s
failed_tries_after l s _ = s

-- a connection is taken, or lost
abbrev pub is_up_after : ℕ → Bool → RecvEvent → Bool
is_up_after l s (Take k c) = if k.0 == l then true else s
is_up_after l s (Dropped k) = if k.0 == l then false else s
is_up_after l s _ = s

-- the sender is through, or has more to send
abbrev pub is_idle_after : ℕ → Bool → RecvEvent → Bool
is_idle_after l s (Idle k) = if k.0 == l then true else s
is_idle_after l s (Told k q) = if k.0 == l then false else s
is_idle_after l s (Dropped k) = if k.0 == l then false else s
is_idle_after l s _ = s

-- lanes of which it told on its connection
abbrev pub told_after : ℕ → List ℕ → RecvEvent → List ℕ
told_after l s (Take k c) = if k.0 == l then [] else s
told_after l s (Told k q) = if k.0 == l then s ++ lanes_of q else s
told_after l s _ = s

-- lanes of which it told and to which the sender has not answered
abbrev pub telling_after : ℕ → List ℕ → RecvEvent → List ℕ
telling_after l s (Told k q) = if k.0 == l then lanes_of q else s
telling_after l s (Idle k) = if k.0 == l then [] else s
telling_after l s (Dropped k) = if k.0 == l then [] else s
telling_after l s _ = s

-- the last word is answered
abbrev pub is_acked_after : ℕ → Bool → RecvEvent → Bool
is_acked_after l s (Acked k) = if k.0 == l then true else s
is_acked_after l s _ = s

-- it is given up after the finish
abbrev pub has_quit_after : ℕ → Bool → RecvEvent → Bool
has_quit_after l s (Quit k) = if k.0 == l then true else s
has_quit_after l s _ = s

-- it is given up before the finish
abbrev pub is_closed_after : ℕ → Bool → RecvEvent → Bool
is_closed_after l s (Close k) = if k.0 == l then true else s
is_closed_after l s _ = s

-- a lane's past with one more entry
abbrev pub past_after : ℕ → RecvPast → RecvEvent → RecvPast
past_after l s e =
    record {
      landed = landed_after l s.landed s.begun e;
      begun = begun_after l s.begun e;
      takes = takes_after l s.takes e;
      failed_tries = failed_tries_after l s.failed_tries e;
      is_up = is_up_after l s.is_up e;
      is_idle = is_idle_after l s.is_idle e;
      told = told_after l s.told e;
      telling = telling_after l s.telling e;
      is_acked = is_acked_after l s.is_acked e;
      has_quit = has_quit_after l s.has_quit e;
      is_closed = is_closed_after l s.is_closed e;
    }

-- a lane's past behind some entries
abbrev pub past_from : ℕ → RecvPast → List RecvEvent → RecvPast
past_from l s [] = s
past_from l s (e ∷ es) = past_from l (past_after l s e) es

-- what a history says of a lane
unfoldable pub past_of : List RecvEvent → ℕ → RecvPast
past_of g l = past_from l no_past g

past_from-append : (l : ℕ) (s : RecvPast) (g es : List RecvEvent) → past_from l s (g ++ es) ≡ past_from l (past_from l s g) es
past_from-append l s [] es = refl
past_from-append l s (d ∷ g) es = past_from-append l (past_after l s d) g es

-- a history that grows by some entries
pub past_of-append : (g es : List RecvEvent) (l : ℕ) → past_of (g ++ es) l ≡ past_from l (past_of g l) es
unfolding past_of
past_of-append g es l = past_from-append l no_past g es

-- nothing has happened
pub past_of-none : (l : ℕ) → past_of [] l ≡ no_past
unfolding past_of
past_of-none l = refl

-- ---- of the whole end

-- what a history says of the whole end
pub record EndPast : Type 0 where
  -- the first settings, and the first totals, that were read
  pub met : Option Settings
  pub sized : Option (ℕ × ℕ)
  -- the finish has come
  pub has_finish : Bool
  -- a lane read that the sender has failed, or what no sender may say
  pub has_fault : Bool

-- nothing has happened at an end
abbrev pub no_end : EndPast
no_end = record { met = None; sized = None; has_finish = false; has_fault = false }

-- the first that was
abbrev pub first_of : {A : Type 0} → Option A → A → Option A
first_of None later = Some later
first_of (Some first) later = Some first

-- the first settings
abbrev pub met_after : Option Settings → RecvEvent → Option Settings
met_after s (Met k settings) = first_of s settings
met_after s _ = s

-- the first totals
abbrev pub sized_after : Option (ℕ × ℕ) → RecvEvent → Option (ℕ × ℕ)
sized_after s (Sized k files bytes) = first_of s (files, bytes)
sized_after s _ = s

-- the finish comes
abbrev pub has_finish_after : Bool → RecvEvent → Bool
has_finish_after s Finish = true
has_finish_after s _ = s

-- the sender has failed, or said what it may not say
abbrev pub has_fault_after : Bool → RecvEvent → Bool
has_fault_after s (Abort k code) = true
has_fault_after s (Peer k kind) = true
has_fault_after s _ = s

-- an end's past with one more entry
abbrev pub end_after : EndPast → RecvEvent → EndPast
end_after s e =
    record {
      met = met_after s.met e;
      sized = sized_after s.sized e;
      has_finish = has_finish_after s.has_finish e;
      has_fault = has_fault_after s.has_fault e;
    }

-- an end's past behind some entries
abbrev pub end_from : EndPast → List RecvEvent → EndPast
end_from s [] = s
end_from s (e ∷ es) = end_from (end_after s e) es

-- what a history says of the whole end
unfoldable pub end_of : List RecvEvent → EndPast
end_of g = end_from no_end g

end_from-append : (s : EndPast) (g es : List RecvEvent) → end_from s (g ++ es) ≡ end_from (end_from s g) es
end_from-append s [] es = refl
end_from-append s (d ∷ g) es = end_from-append (end_after s d) g es

-- a history that grows by some entries
pub end_of-append : (g es : List RecvEvent) → end_of (g ++ es) ≡ end_from (end_of g) es
unfolding end_of
end_of-append g es = end_from-append no_end g es

-- nothing has happened
pub end_of-none : end_of [] ≡ no_end
unfolding end_of
end_of-none = refl

-- ---- of a closed lane: which lanes told of it and weren't idle since, and whether one of them was

-- what a history says of a lane that is told of
pub record Confirm : Type 0 where
  pub tellers : List ℕ
  pub is_confirmed : Bool

-- nothing was told
abbrev pub no_confirm : Confirm
no_confirm = record { tellers = []; is_confirmed = false }

-- which lanes told of it and were not idle since
abbrev pub tellers_after : ℕ → List ℕ → RecvEvent → List ℕ
tellers_after c s (Told k q) = if has (lanes_of q) c then k.0 ∷ s else s
tellers_after c s (Idle k) = without k.0 s
tellers_after c s (Dropped k) = without k.0 s
tellers_after c s _ = s

-- a lane that told of it is idle
abbrev pub is_confirmed_after : List ℕ → Bool → RecvEvent → Bool
is_confirmed_after tellers s (Idle k) = s || has tellers k.0
is_confirmed_after tellers s _ = s

-- the same with one more entry
abbrev pub confirm_after : ℕ → Confirm → RecvEvent → Confirm
confirm_after c s e =
    record {
      tellers = tellers_after c s.tellers e;
      is_confirmed = is_confirmed_after s.tellers s.is_confirmed e;
    }

-- the same behind some entries
abbrev pub confirm_from : ℕ → Confirm → List RecvEvent → Confirm
confirm_from c s [] = s
confirm_from c s (e ∷ es) = confirm_from c (confirm_after c s e) es

-- what a history says of a lane that is told of as closed
unfoldable pub confirm_of : List RecvEvent → ℕ → Confirm
confirm_of g c = confirm_from c no_confirm g

confirm_from-append : (c : ℕ) (s : Confirm) (g es : List RecvEvent) → confirm_from c s (g ++ es) ≡ confirm_from c (confirm_from c s g) es
confirm_from-append c s [] es = refl
confirm_from-append c s (d ∷ g) es = confirm_from-append c (confirm_after c s d) g es

-- a history that grows by some entries
pub confirm_of-append : (g es : List RecvEvent) (c : ℕ) → confirm_of (g ++ es) c ≡ confirm_from c (confirm_of g c) es
unfolding confirm_of
confirm_of-append g es c = confirm_from-append c no_confirm g es

-- nothing has happened
pub confirm_of-none : (c : ℕ) → confirm_of [] c ≡ no_confirm
unfolding confirm_of
confirm_of-none c = refl

-- ---- what has landed, of all lanes in the order in which it landed

-- the begun blocks of all lanes, with another for one lane
abbrev pub with_begun_at : (ℕ → Option Block) → ℕ → Option Block → ℕ → Option Block
with_begun_at begun l b k = if k == l then b else begun k

-- the block that is begun, if there is one
abbrev pub begun_list : Option Block → List Block
begun_list None = []
begun_list (Some b) = b ∷ []

-- behind blocks that are begun on the lanes
abbrev pub landed_from : (ℕ → Option Block) → List RecvEvent → List Block
landed_from begun [] = []
landed_from begun (Begin k b ∷ es) = landed_from (with_begun_at begun k.0 (Some b)) es
landed_from begun (Dropped k ∷ es) = landed_from (with_begun_at begun k.0 None) es
landed_from begun (Land k ∷ es) = begun_list (begun k.0) ++ landed_from (with_begun_at begun k.0 None) es
landed_from begun (_ ∷ es) = landed_from begun es

-- the blocks that have landed
unfoldable pub landed_of : List RecvEvent → List Block
landed_of g = landed_from (λ k. None) g

-- an entry that lands no block
abbrev pub lands_none : RecvEvent → Bool
lands_none (Land l) = false
lands_none e = true

-- ---- whose entry it is

-- the lane whose step an entry is of: the finish is of none
abbrev pub lane_of : RecvEvent → Option ℕ
lane_of (Take k c) = Some k.0
lane_of (NoLink k) = Some k.0
lane_of (Met k settings) = Some k.0
lane_of (Sized k files bytes) = Some k.0
lane_of (Begin k b) = Some k.0
lane_of (Land k) = Some k.0
lane_of (Dropped k) = Some k.0
lane_of (Idle k) = Some k.0
lane_of (Told k q) = Some k.0
lane_of (Close k) = Some k.0
lane_of Finish = None
lane_of (Acked k) = Some k.0
lane_of (Quit k) = Some k.0
lane_of (Abort k code) = Some k.0
lane_of (Peer k kind) = Some k.0
