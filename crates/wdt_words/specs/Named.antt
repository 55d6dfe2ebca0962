-- What a form of a command names, as plain data.
use Rattle.std.specs.Prelude.{ℕ, List, [], slice_get, Option, Some, None, option_map}
use Rattle.wdt_words.specs.Words.{command_of, transfer_of}
use Rattle.wdt_words.specs.declared.command.Command.{Command}
use Rattle.wdt_words.specs.declared.command.Command.TheVariants.{Rehearse, Plan, Log}
use Rattle.wdt_words.specs.declared.command.Transfer.{Transfer}
use Rattle.wdt_words.specs.declared.command.Transfer.TheVariants.{Copy, Send, Recv}

-- the folders and the host by their bytes, the host's port, and how many lanes
pub record PlainNamed : Type 0 where
  pub source : List ℕ
  pub dest : List ℕ
  pub host : List ℕ
  pub port : ℕ
  pub lanes : ℕ

-- a text, or an empty one in its place
abbrev pub text_or : Option (List ℕ) → List ℕ
text_or None = []
text_or (Some text) = text

-- the word at a place, from 0
abbrev pub word_at : List (List ℕ) → ℕ → List ℕ
word_at words at = text_or (slice_get words at)

-- the folder to copy from, where the command has one
abbrev pub source_of : List (List ℕ) → Command → List ℕ
source_of words Rehearse = word_at words 1
source_of words (Plan block) = word_at words 1
source_of words Log = []

-- the folder to copy to, where the command has one
abbrev pub dest_of : List (List ℕ) → Command → List ℕ
dest_of words Rehearse = []
dest_of words (Plan block) = word_at words 2
dest_of words Log = word_at words 1

-- what the words name, as a form of a command
abbrev pub named_by : List (List ℕ) → Command → PlainNamed
named_by words command = record { source = source_of words command; dest = dest_of words command; host = []; port = 0; lanes = 1 }

-- what the words name, as a form of a transfer
abbrev pub named_in : List (List ℕ) → Transfer → PlainNamed
named_in words (Copy lanes block batch) = record { source = word_at words 1; dest = word_at words 2; host = []; port = 0; lanes = lanes }
named_in words (Send port lanes block session) = record { source = word_at words 1; dest = []; host = word_at words 2; port = port; lanes = lanes }
named_in words (Recv port lanes batch) = record { source = []; dest = word_at words 1; host = word_at words 2; port = port; lanes = lanes }

-- the first, or else the other
abbrev pub first_of : Option PlainNamed → Option PlainNamed → Option PlainNamed
first_of None other = other
first_of (Some named) other = Some named

-- what the words name, where they are a form
abbrev pub named_of : List (List ℕ) → Option PlainNamed
named_of words =
    first_of (option_map (named_by words) (command_of words)) (option_map (named_in words) (transfer_of words))
