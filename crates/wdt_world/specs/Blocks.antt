-- What a lane writes of a block.
use Rattle.std.specs.Prelude.{◌≡◌, ℕ, ◌++◌, List, map, Option, None, Some}
use Rattle.wdt_units.specs.declared.blocks.Header.{Header}
use Rattle.wdt_sender_fsm.specs.declared.inputs.SendIn.{SendIn}
use Rattle.wdt_sender_fsm.specs.Phases.{piece_at}
use Rattle.wdt_sender_fsm.specs.Places.{tabulate}
use Rattle.wdt_pact.specs.Links.{Link, with_sent}
use Rattle.wdt_pact.specs.Pairs.{Pair, send_sends, top, with_top}
use Rattle.wdt_world.specs.Hands.{Sends}
use Rattle.wdt_world.specs.Lines.{LinesView}
use Rattle.wdt_world.specs.Pairing.{ShowsLines}
use Rattle.wdt_world.specs.Said.{Said, message_of}

-- of a block of so many bytes these pieces were written, from the one number on up to the other
pub record WrotePieces (length from to : ℕ) (old new : LinesView) : Type 0 where
  pub said : List Said
  pub pieces : tabulate from (piece_at length) ++ map message_of said ≡ tabulate to (piece_at length)
  pub shows : (p : Pair) (k : Link) → top p ≡ Some k → ShowsLines old p → ShowsLines new (with_top p record k { down = with_sent k.down (map message_of said) })

-- A block was sent as a pair sends it: whole, or until the source failed behind so many pieces, which it did only for
-- this reason.
pub record SendsBlock (Fails : Type 0) (p : Pair) (header : Header) (input : SendIn) (v : LinesView) : Type 0 where
  pub lost : Option ℕ
  pub cause : (lost ≡ None → ⊥) → Fails
  pub sends : Sends p.send (Some input) v (send_sends p header lost)
