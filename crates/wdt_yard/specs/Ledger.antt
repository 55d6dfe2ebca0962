-- What a sender's journal is seen as, and what it keeps of each lane beside the claims.
use Rattle.std.specs.Prelude.{ℕ, ◌-◌, Bool, true, false, List, [], ◌∷◌, ◌++◌, Option}
use Rattle.wdt_units.specs.declared.blocks.Block.{Block}
use Rattle.wdt_units.specs.declared.numbers.Lane.{Lane}
use Rattle.wdt_sender_fsm.specs.declared.events.SendEvent.{SendEvent}
use Rattle.wdt_sender_fsm.specs.declared.events.SendEvent.TheVariants.{Linked, NoLink, Lost, Greet, Chunks, Claim, Sent, Done, Global, Finish, Acked, Quit, Abort, Peer}

-- a history and what follows from it, with the room for more
pub record Ledger : Type 0 where
  -- how many lanes there are
  pub lanes : ℕ
  -- the blocks that are to be sent, once they are planned
  pub planned : Option (List Block)
  pub history : List SendEvent
  -- how many more entries can be noted without memory
  pub spare : ℕ
  -- the lane that can claim a block without memory, if any
  pub ready : Option Lane

-- one more entry stands in the history
abbrev pub with_entry : Ledger → SendEvent → Ledger
with_entry ledger entry = record ledger { history = ledger.history ++ entry ∷ []; spare = ledger.spare - 1 }

-- an entry that changes nothing of what is kept of the lanes
abbrev pub is_quiet : SendEvent → Bool
is_quiet (Linked lane conn) = false
is_quiet (NoLink lane) = false
is_quiet (Lost lane) = true
is_quiet (Greet lane count) = false
is_quiet (Chunks lane) = true
is_quiet (Claim lane block) = false
is_quiet (Sent lane) = false
is_quiet (Done lane) = true
is_quiet (Global lane closed count) = false
is_quiet (Finish lane) = false
is_quiet (Acked lane) = false
is_quiet (Quit lane) = true
is_quiet (Abort lane code) = true
is_quiet (Peer lane kind) = true
