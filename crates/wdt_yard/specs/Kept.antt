-- What a journal keeps beside its history, and that the history says the same.
use Rattle.std.specs.Prelude.{◌≡◌, ℕ, ◌-◌, ◌≤◌, Bool, true, List, length, sum_by, option_map, vec_items, vec_len, vec_capacity}
use Rattle.wdt_units.specs.declared.blocks.Block.{Block}
use Rattle.wdt_claims.specs.Blocks.{are_rising}
use Rattle.wdt_claims.specs.LaneWords.{Claims}
use Rattle.wdt_queue.specs.Waiting.{Waiting}
use Rattle.wdt_sender_fsm.specs.declared.events.SendEvent.{SendEvent}
use Rattle.wdt_sender_fsm.specs.Places.{AreShared, claims_of}
use Rattle.wdt_sender_fsm.specs.PlainSender.{listed_blocks}
use Rattle.wdt_sender_fsm.specs.SenderHistory.{end_of}
use Rattle.wdt_yard.specs.declared.journal.Journal.TheInside.{Inside}
use Rattle.wdt_yard.specs.declared.tally.Tally.{Tally}
use Rattle.wdt_yard.specs.Ledger.{Ledger}
use Rattle.wdt_yard.specs.Tallies.{tallies_of}

-- what contracts see of a journal: room is what its list of entries has left
abbrev pub seen : Inside → Ledger
seen journal =
    record {
      lanes = length journal.tallies.items;
      planned = option_map vec_items journal.planned;
      history = journal.events.items;
      spare = vec_capacity journal.events - vec_len journal.events;
      ready = journal.claims.ready;
    }

-- how many blocks a lane's list has
abbrev pub length_of : Claims → ℕ
length_of claims = length claims.kept

-- how many blocks stand in the lists of the lanes
abbrev pub total_kept : List Claims → ℕ
total_kept lanes = sum_by length_of lanes

-- what is kept is what the history says, and what waits is the rest of the plan
pub record IsKept (tallies : List Tally) (planned : List Block) (queue : Waiting) (lanes : List Claims) (finish : Bool) (h : List SendEvent) : Type 0 where
  pub few : length tallies ≤ 16
  pub claims : lanes ≡ claims_of (length tallies) h
  pub tallied : tallies ≡ tallies_of (length tallies) h
  pub finished : finish ≡ (end_of h).has_finish
  pub waiting : are_rising queue.waiting ≡ true
  pub rising : are_rising planned ≡ true
  pub shared : AreShared planned queue.waiting lanes
  pub room : queue.room ≡ total_kept lanes

-- the journal keeps what its history says
abbrev pub IsJournal : Inside → Type 0
IsJournal journal =
    IsKept journal.tallies.items (listed_blocks (option_map vec_items journal.planned)) journal.queue journal.claims.lanes journal.has_finish journal.events.items
