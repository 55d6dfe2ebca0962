-- What a receiver's notes are seen as: the history, and nothing that follows from it.
use Rattle.std.specs.Prelude.{ℕ, ◌-◌, ◌||◌, Bool, List, [], ◌∷◌, ◌++◌}
use Rattle.wdt_receiver_fsm.specs.declared.events.RecvEvent.{RecvEvent}
use Rattle.wdt_receiver_fsm.specs.ReceiverHistory.{past_of}

-- the notes of an end
pub record NotesView : Type 0 where
  -- how many lanes it has
  pub lanes : ℕ
  -- all that happened, in order
  pub history : List RecvEvent
  -- how many more entries can be noted without memory
  pub room : ℕ

-- nothing has happened on so many lanes
abbrev pub no_notes : ℕ → NotesView
no_notes lanes = record { lanes = lanes; history = []; room = 0 }

-- one more entry is noted
abbrev pub with_entry : NotesView → RecvEvent → NotesView
with_entry notes entry = record notes { history = notes.history ++ entry ∷ []; room = notes.room - 1 }

-- a lane is acknowledged, or closed
abbrev pub is_done_in : List RecvEvent → ℕ → Bool
is_done_in g l = (past_of g l).is_acked || (past_of g l).is_closed
