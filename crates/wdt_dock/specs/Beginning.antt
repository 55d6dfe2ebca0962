-- A block that the writer begins, or doesn't, as an end with its files sees it.
use Rattle.std.specs.Prelude.{◌≡◌, ℕ, zero, suc, ◌++◌, [], ◌∷◌}
use Rattle.wdt_units.specs.declared.blocks.Block.{Block}
use Rattle.wdt_units.specs.declared.blocks.Header.{Header}
use Rattle.wdt_units.specs.declared.numbers.Lane.{Lane}
use Rattle.wdt_logfmt.specs.Beginning.{block_of}
use Rattle.wdt_sender_fsm.specs.declared.answers.EndAnswer.TheVariants as answers
use Rattle.wdt_sender_fsm.specs.declared.peers.PeerKind.{PeerKind}
use Rattle.wdt_sender_fsm.specs.declared.peers.PeerKind.TheVariants as peers
use Rattle.wdt_writer.specs.declared.fail.WriteFail.{WriteFail}
use Rattle.wdt_writer.specs.declared.fail.WriteFail.TheVariants as fails
use Rattle.wdt_writer.specs.PlainWriter.{PlainWriter, begins, lands}
use Rattle.wdt_receiver_fsm.specs.declared.events.RecvEvent.TheVariants as events
use Rattle.wdt_receiver_fsm.specs.PlainReceiver.{PlainReceiver, failed, noted}
use Rattle.wdt_receiver_fsm.specs.Turn.{Step, tells_failure}
use Rattle.wdt_receiver_fsm.specs.End.{Books}

-- ---- a block that begins

-- the writer once a block of so many bytes is begun on a lane: an empty one has landed
abbrev pub starts_by : PlainWriter → ℕ → Block → ℕ → PlainWriter
starts_by w lane b zero = lands w lane b
starts_by w lane b (suc left) = w

-- the writer once the header's block is begun on a lane, or has landed
abbrev pub starts : PlainWriter → ℕ → Header → PlainWriter
starts w lane h = starts_by (begins w lane h) lane (block_of w.known h) h.length

-- what is kept of the files once a block of so many bytes is begun: an empty one is to be logged
abbrev pub books_with : Books → Block → ℕ → Books
books_with books b zero = record books { unlogged = books.unlogged ++ b ∷ [] }
books_with books b (suc left) = books

-- ---- a block that doesn't

-- the sender said what it may not say, and the lane tells it
abbrev pub told_fault : PlainReceiver → Lane → PeerKind → Step
told_fault r l kind = tells_failure (failed (noted r (events.Peer l kind ∷ [])) (answers.Peer kind)) l

-- Where the writer doesn't begin a block, the step comes to this: the disk failed, or the sender is told why the
-- block may not begin. There is no step where memory ran out.
abbrev pub IsRefused : PlainReceiver → Lane → WriteFail → Step → Type 0
IsRefused r l fails.Disk step = step ≡ tells_failure (failed r answers.Disk) l
IsRefused r l fails.NoMemory step = ⊥
IsRefused r l (fails.SizeDiffers size stamp told_size told_stamp) step = step ≡ told_fault r l (peers.SizeDiffers size stamp told_size told_stamp)
IsRefused r l (fails.Overlap offset) step = step ≡ told_fault r l (peers.Overlap offset)
IsRefused r l (fails.OverLimit count) step = step ≡ told_fault r l (peers.OverLimit count)
