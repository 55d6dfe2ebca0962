-- What has landed, what of it is logged, and what isn't yet.
use Rattle.std.specs.Prelude.{◌≡◌, ◌≢◌, ℕ, ◌==◌, ◌<◌, not, Bool, false, IsTrue, List, [], ◌∷◌, ◌++◌, filter, length, map, Option, None}
use Rattle.wdt_units.specs.declared.limits.TheConstants.{MAX_BLOCKS}
use Rattle.wdt_units.specs.declared.blocks.Block.{Block}
use Rattle.wdt_units.specs.declared.numbers.Lane.{Lane}
use Rattle.wdt_logfmt.specs.Adding.{all_added}
use Rattle.wdt_logfmt.specs.Batches.{entries_of, have_known_files}
use Rattle.wdt_logfmt.specs.Beginning.{KnownFile}
use Rattle.wdt_logfmt.specs.Marks.{marked_of, marks_of}
use Rattle.wdt_logfmt.specs.Spelling.{written_version}
use Rattle.wdt_logfmt.specs.View.{NamedFile, is_view}
use Rattle.wdt_sender_fsm.specs.Rules.{is_failure}
use Rattle.wdt_receiver_fsm.specs.declared.events.RecvEvent.{RecvEvent}
use Rattle.wdt_receiver_fsm.specs.Outcomes.{Lands}
use Rattle.wdt_receiver_fsm.specs.PlainReceiver.{PlainReceiver, bytes_of}
use Rattle.wdt_receiver_fsm.specs.ReceiverHistory.{landed_of}
use Rattle.wdt_receiver_fsm.specs.Turn.{Put}

-- blocks can be logged: their files are known, and their entries continue the files that a log says
pub record Continues (known : List (Option KnownFile)) (files : List NamedFile) (blocks : List Block) : Type 0 where
  pub known_files : IsTrue (have_known_files known blocks)
  pub added : all_added written_version files (entries_of known files blocks) ≢ None

-- what landed can be logged, and a block that lands by what the lane hands in can be logged behind it
pub record CanLog (r : PlainReceiver) (l : Lane) (put : Put) : Type 0 where
  pub now : Continues r.known r.log.files r.unlogged
  pub next : (b : Block) → Lands r l put b → Continues r.known r.log.files (r.unlogged ++ b ∷ [])

-- Block for block, what landed is what is logged of it and then what isn't; and the log names and covers what
-- it did as it was opened, with the logged blocks, and nothing else.
pub record AddsUp (opening files : List NamedFile) (unlogged : List Block) (g : List RecvEvent) : Type 0 where
  pub logged : List Block
  pub landed : landed_of g ≡ logged ++ unlogged
  pub marks : marks_of opening logged ≡ map marked_of files
  pub view : IsTrue (is_view files)

-- a block has bytes
abbrev pub is_filled : Block → Bool
is_filled b = not (b.length == 0)

-- fewer bytes aren't logged than a batch has, and fewer blocks with bytes than a lane may have
pub record IsBelowBatch (batch : ℕ) (unlogged : List Block) : Type 0 where
  pub bytes : bytes_of unlogged < batch
  pub blocks : length (filter is_filled unlogged) < MAX_BLOCKS

-- what landed adds up, and on an end that hasn't failed less than a batch of it isn't logged
pub record IsBatched (r : PlainReceiver) : Type 0 where
  pub batch : 0 < r.batch
  pub adds_up : AddsUp r.opening r.log.files r.unlogged r.history
  pub below : is_failure r.answer ≡ false → IsBelowBatch r.batch r.unlogged
