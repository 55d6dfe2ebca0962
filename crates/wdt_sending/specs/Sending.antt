-- What a sending end is handed, and what it leaves once its lanes have ended.
use Rattle.std.specs.Prelude.{◌≡◌, ◌≢◌, ◌⊎◌, ◌≤◌, ℕ, true, List, [], length, map, Option, Some, IfSome}
use Rattle.std.specs.List.{All}
use Rattle.wdt_units.specs.Counts.{capped}
use Rattle.wdt_units.specs.Tree.{File}
use Rattle.wdt_units.specs.declared.limits.TheConstants.{MAX_BLOCK, MAX_LANES}
use Rattle.wdt_units.specs.declared.numbers.LaneSet.{LaneSet}
use Rattle.wdt_gate.specs.Told.{upto}
use Rattle.wdt_tree.specs.Told.{ToldRun}
use Rattle.wdt_tree.specs.declared.entry.Entry.{Entry}
use Rattle.wdt_sender_fsm.specs.declared.answers.EndAnswer.TheVariants as answers
use Rattle.wdt_sender_fsm.specs.declared.answers.RefusedKind.{RefusedKind}
use Rattle.wdt_sender_fsm.specs.declared.events.SendEvent.{SendEvent}
use Rattle.wdt_sender_fsm.specs.PlainSender.{PlainSender}
use Rattle.wdt_sender_fsm.specs.Sender.{IsSender}
use Rattle.wdt_yard.specs.Refused.{WasRefused}
use Rattle.wdt_yard.specs.Turns.{IsLegalOfSome}
use Rattle.wdt_lanes.specs.Kept.{Begun, IsKept, Lists}
use Rattle.wdt_lanes.specs.LaneLists.{EachLane}
use Rattle.wdt_lanes.specs.Seats.{IsBack, SameSource}
use Rattle.wdt_tool.specs.declared.status.Status.{Status}
use Rattle.wdt_tool.specs.declared.status.Status.TheVariants.{NoMemory}
use Rattle.wdt_sending.specs.Counted.{SomeRose}
use Rattle.wdt_sending.specs.Judging.{has_some, status_of}

-- ---- what it is handed

-- An end may be opened with these: 1 to 16 lanes, and blocks of 1 to 67,108,864 bytes. The manifest lists the run's
-- tree.
pub record MayBegin (run : Option ToldRun) (manifest : List Entry) (lanes block : ℕ) : Type 0 where
  pub some_lanes : 1 ≤ lanes
  pub few_lanes : lanes ≤ MAX_LANES
  pub some_block : 1 ≤ block
  pub block_limit : block ≤ MAX_BLOCK
  pub lists : Lists run manifest

-- so many lanes have each a source, which tells the run's tree, and a dialer with no connection out
pub record MaySendOver {S C : Type 0} (told : S → Option (List File)) (out : C → ℕ) (run : Option ToldRun) (lanes : ℕ) (sources : List S) (dialers : List C) : Type 0 where
  pub as_many_sources : length sources ≡ lanes
  pub as_many_dialers : length dialers ≡ lanes
  pub tree : IfSome run (λ r. All (λ source. told source ≡ Some r.tree) sources)
  pub home : All (λ dialer. out dialer ≡ 0) dialers

-- how it begins
abbrev pub begun_of : List Entry → ℕ → Begun
begun_of manifest block = record { manifest = manifest; block = block }

-- ---- what its lanes met

-- where there is a lane in the set, the count of one of these rose
abbrev pub MetBy : {A : Type 0} → LaneSet → (A → ℕ) → List A → List A → Type 0
MetBy set count old new = has_some set ≡ true → SomeRose count old new

-- the same of a count that an object and its connections tell together
abbrev pub MetAtRest : {A : Type 0} → LaneSet → (A → ℕ) → List A → List A → Type 0
MetAtRest {A} set count old new = MetBy set (λ (object : A). capped (count object)) old new

-- ---- what it leaves

-- the lanes of an end may run: it has the passes of all lanes of its hub, a source that tells the run's tree and a
-- dialer with no connection out for each
pub record MaySend {H P S C : Type 0} (has : H → P → Type 0) (lane : P → ℕ) (lanes : H → ℕ) (told : S → Option (List File)) (out : C → ℕ) (run : Option ToldRun)
    (hub : H) (passes : List P) (sources : List S) (dialers : List C) : Type 0 where
  pub own : All (has hub) passes
  pub each : map lane passes ≡ upto 0 (lanes hub)
  pub few : lanes hub ≤ MAX_LANES
  pub as_many : length sources ≡ lanes hub
  pub as_many_too : length dialers ≡ lanes hub
  pub tree : IfSome run (λ r. All (λ source. told source ≡ Some r.tree) sources)
  pub home : All (λ dialer. out dialer ≡ 0) dialers

-- the plain sender that it was in the end, of its run and as it began, and what its status comes of
pub record SenderTaken (run : Option ToldRun) (begun : Begun) (lost cut alarmed : LaneSet) (history : List SendEvent) (status : Status) : Type 0 where
  pub sent : PlainSender
  pub is_sender : IsSender sent
  pub kept : IsKept run begun sent
  pub diskless : sent.answer ≢ answers.Disk
  pub refused : (kind : RefusedKind) → sent.answer ≡ answers.Refused kind → WasRefused sent kind
  pub noted : history ≡ sent.history
  pub judged : status ≡ status_of (has_some lost) (has_some cut) (has_some alarmed) sent.answer

-- it was taken so, or there was no memory to take it: then there is no history
abbrev pub SenderEnds : Option ToldRun → Begun → LaneSet → LaneSet → LaneSet → List SendEvent → Status → Type 0
SenderEnds run begun lost cut alarmed history status = ((status ≡ NoMemory) × (history ≡ [])) ⊎ SenderTaken run begun lost cut alarmed history status

-- All comes back in the order of the lanes, the history is legal, and what the lanes met has its causes.
pub record SenderLeaves {S C : Type 0} (told : S → Option (List File)) (source_faults source_slips : S → ℕ) (faults alarms out mark : C → ℕ) (run : Option ToldRun) (begun : Begun)
    (sources more_sources : List S) (dialers more_dialers : List C) (history : List SendEvent) (status : Status) : Type 0 where
  pub sources_back : EachLane (λ lane old new. SameSource told source_slips run old new) sources more_sources
  pub dialers_back : EachLane (λ lane old new. IsBack out mark old new) dialers more_dialers
  pub legal : IsLegalOfSome history
  pub lost : LaneSet
  pub cut : LaneSet
  pub alarmed : LaneSet
  pub ended : SenderEnds run begun lost cut alarmed history status
  pub lost_by : MetBy lost source_faults sources more_sources
  pub cut_by : MetAtRest cut faults dialers more_dialers
  pub alarmed_by : MetAtRest alarmed alarms dialers more_dialers
