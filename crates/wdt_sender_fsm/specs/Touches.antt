-- What a step of a lane leaves as it is, and what it makes of the plan and of the other lanes' pasts.
use Rattle.std.specs.Prelude.{◌≡◌, ◌≢◌, ℕ, ◌==◌, Bool, true, false, List, [], ◌∷◌, ◌++◌, length, Some, None}
use Rattle.std.specs.List.{All, list_any}
use Rattle.wdt_claims.specs.LaneWords.{closed_at, finished}
use Rattle.wdt_units.specs.Have.{HaveFile}
use Rattle.wdt_units.specs.declared.numbers.Lane.{Lane}
use Rattle.wdt_codec.specs.declared.frames.Frame.TheVariants as frames
use Rattle.wdt_rest.specs.RestOf.{rest_of}
use Rattle.wdt_sender_fsm.specs.declared.events.SendEvent.{SendEvent}
use Rattle.wdt_sender_fsm.specs.declared.events.SendEvent.TheVariants as events
use Rattle.wdt_sender_fsm.specs.declared.inputs.SendIn.{SendIn}
use Rattle.wdt_sender_fsm.specs.declared.inputs.SendIn.TheVariants as inputs
use Rattle.wdt_sender_fsm.specs.PlainSender.{PlainSender, lane_at, past_at}
use Rattle.wdt_sender_fsm.specs.SenderHistory.{LanePast, lane_of}

-- entries of a lane that stand behind a history
pub record Adds (l : Lane) (before after : List SendEvent) : Type 0 where
  pub entries : List SendEvent
  pub behind : after ≡ before ++ entries
  pub own : All (λ e. lane_of e ≡ l.0) entries

-- the plan is as before; or nothing was known of the destination, the lane read what it has, and the plan
-- is what it lacks
pub data Plans (s : PlainSender) (input : SendIn) (t : PlainSender) : Type 0 where
  AsBefore : t.have ≡ s.have → t.planned ≡ s.planned → Plans s input t
  Anew : (have : List HaveFile) → input ≡ inputs.Got (frames.Chunks have) → s.have ≡ None → t.have ≡ Some have → t.planned ≡ Some (rest_of s.manifest have s.block) → Plans s input t

-- an entry tells that this lane is closed
abbrev pub is_global_of : ℕ → SendEvent → Bool
is_global_of k (events.Global l c n) = c.0 == k
is_global_of k e = false

-- a lane's past behind another lane's entries: as it was, but where they tell that the lane is closed, or
-- that everything has landed
pub data Beside (k : ℕ) (es : List SendEvent) (before after : LanePast) : Type 0 where
  AsItWas : after ≡ before → Beside k es before after
  NowClosed : (count : ℕ) → list_any (is_global_of k) es ≡ true → before.claims.closed ≡ None → after ≡ record before { claims = closed_at count 0 before.claims } → Beside k es before after
  NowFinished : (l : Lane) → es ≡ events.Finish l ∷ [] → after ≡ record before { claims = finished before.claims } → Beside k es before after

-- a step of a lane leaves what is sent, how many lanes there are, and how the other lanes stand; what it
-- notes are entries of that lane
pub record Touches (s : PlainSender) (l : Lane) (input : SendIn) (t : PlainSender) : Type 0 where
  pub manifest : t.manifest ≡ s.manifest
  pub block : t.block ≡ s.block
  pub session : t.session ≡ s.session
  pub lanes : length t.lanes ≡ length s.lanes
  pub others : (j : ℕ) → j ≢ l.0 → lane_at t j ≡ lane_at s j
  pub history : Adds l s.history t.history
  pub plan : Plans s input t
  pub pasts : (k : ℕ) → k ≢ l.0 → Beside k history.entries (past_at s k) (past_at t k)
