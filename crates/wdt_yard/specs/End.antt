-- What a sender's end is seen as, with the room that was made for a step.
use Rattle.std.specs.Prelude.{◌≡◌, ℕ, ◌-◌, ◌||◌, ◌<◌, ◌≤◌, Bool, List, [], ◌∷◌, length, slice_get, is_some, Option, All}
use Rattle.wdt_claims.specs.Blocks.{count_of}
use Rattle.wdt_units.specs.declared.limits.TheConstants.{MAX_BLOCK}
use Rattle.wdt_units.specs.Have.{HaveFile}
use Rattle.wdt_units.specs.declared.blocks.Block.{Block}
use Rattle.wdt_units.specs.declared.numbers.Lane.{Lane}
use Rattle.wdt_codec.specs.declared.frames.Mark.{Mark}
use Rattle.wdt_tree.specs.declared.entry.Entry.{Entry}
use Rattle.wdt_sender_fsm.specs.declared.events.SendEvent.{SendEvent}
use Rattle.wdt_sender_fsm.specs.declared.states.SendLane.{SendLane}
use Rattle.wdt_sender_fsm.specs.declared.states.SendState.{SendState}
use Rattle.wdt_sender_fsm.specs.declared.states.SendState.TheVariants.{Connect}
use Rattle.wdt_sender_fsm.specs.PlainSender.{PlainSender, is_ended, lane_or_ended, listed_blocks, noted}
use Rattle.wdt_sender_fsm.specs.SenderHistory.{past_of}
use Rattle.wdt_yard.specs.Ledger.{Ledger}

-- the plain sender, and what was made ready for the next step
pub record EndView : Type 0 where
  pub plain : PlainSender
  -- how many more entries can be noted without memory
  pub spare : ℕ
  -- the lane that can claim a block without memory, if any
  pub ready : Option Lane

-- one more entry stands in the history
abbrev pub with_note : EndView → SendEvent → EndView
with_note view entry = record view { plain = noted view.plain (entry ∷ []); spare = view.spare - 1 }

-- the state of a lane
abbrev pub state_in : List SendLane → ℕ → SendState
state_in lanes l = (lane_or_ended (slice_get lanes l)).state

-- a lane is acknowledged or closed
abbrev pub is_done_in : List SendEvent → ℕ → Bool
is_done_in h l = (past_of h l).is_acked || is_some (past_of h l).claims.closed

-- a lane has ended or is closed
abbrev pub is_out_in : List SendEvent → List SendLane → ℕ → Bool
is_out_in h lanes l = is_ended (state_in lanes l) || is_some (past_of h l).claims.closed

-- the blocks are of the first n files
abbrev pub AreOf : ℕ → List Block → Type 0
AreOf n blocks = (block : Block) → 1 ≤ count_of block blocks → block.file < n

-- each mark is of one of n lanes
abbrev pub AreThere : ℕ → List Mark → Type 0
AreThere n marks = All (λ (mark : Mark). mark.lane.0 < n) marks

-- a lane that dials may have a further connection
abbrev pub MayDial : List SendLane → List SendEvent → Type 0
MayDial lanes h = (l : ℕ) → state_in lanes l ≡ Connect → (past_of h l).connections < 8

-- what an end keeps true of its parts
pub record IsEnd (manifest : List Entry) (block : ℕ) (have : Option (List HaveFile)) (ledger : Ledger) (lanes : List SendLane) : Type 0 where
  pub same : length lanes ≡ ledger.lanes
  pub block_size : (1 ≤ block) × (block ≤ MAX_BLOCK)
  pub listed : is_some have ≡ is_some ledger.planned
  pub files : AreOf (length manifest) (listed_blocks ledger.planned)
  pub dialing : MayDial lanes ledger.history
