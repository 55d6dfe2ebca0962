-- What a step of a lane leaves as it is.
use Rattle.std.specs.Prelude.{◌≡◌, ◌≢◌, ℕ, true, List, ◌++◌, length, Option, Some}
use Rattle.wdt_units.specs.Lanes.{AllOf}
use Rattle.wdt_units.specs.declared.numbers.Lane.{Lane}
use Rattle.wdt_logfmt.specs.Beginning.{KnownFile, known_at}
use Rattle.wdt_logfmt.specs.Marks.{is_there}
use Rattle.wdt_receiver_fsm.specs.declared.events.RecvEvent.{RecvEvent}
use Rattle.wdt_receiver_fsm.specs.PlainReceiver.{PlainReceiver, lane_at, marks_at}
use Rattle.wdt_receiver_fsm.specs.ReceiverHistory.{lane_of}

-- entries of a lane, or of none, that stand behind a history
pub record Adds (l : Lane) (before after : List RecvEvent) : Type 0 where
  pub entries : List RecvEvent
  pub behind : after ≡ before ++ entries
  pub own : AllOf lane_of l.0 entries

-- no number changes its file
abbrev pub Keeps : List (Option KnownFile) → List (Option KnownFile) → Type 0
Keeps before after = (number : ℕ) (file : KnownFile) → known_at before number ≡ Some file → known_at after number ≡ Some file

-- each position that was there is
abbrev pub StaysThere : PlainReceiver → PlainReceiver → Type 0
StaysThere r t = (number position : ℕ) → is_there (marks_at r) number position ≡ true → is_there (marks_at t) number position ≡ true

-- a step of a lane leaves what the log said as it was opened, the batch size, how many lanes there are, and
-- how the other lanes stand; what it notes are entries of that lane, or the finish; and the files that are
-- known keep their numbers
pub record Touches (r : PlainReceiver) (l : Lane) (t : PlainReceiver) : Type 0 where
  pub opening : t.opening ≡ r.opening
  pub batch : t.batch ≡ r.batch
  pub lanes : length t.lanes ≡ length r.lanes
  pub others : (j : ℕ) → j ≢ l.0 → lane_at t j ≡ lane_at r j
  pub history : Adds l r.history t.history
  pub known : Keeps r.known t.known
