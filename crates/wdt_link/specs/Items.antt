-- What is carried, as plain data.
use Rattle.wdt_link.specs.declared.said.Item.{Item}
use Rattle.wdt_link.specs.declared.said.Item.TheVariants.{Frame, Piece}
use Rattle.wdt_link.specs.Saying.{PlainSaid, Whole, Part}

-- a frame as a frame, a piece with its path, place and bytes
abbrev pub plain : Item → PlainSaid
plain (Frame frame) = Whole frame
plain (Piece path offset bytes) = Part path offset bytes.items
