-- The receiving half: what the messages of a wire land.
use Rattle.std.specs.Prelude.{◌≡◌, ℕ, ◌+◌, ◌-◌, Bool, ◌==◌, ◌&&◌, nat_lt, List, [], ◌∷◌, ◌++◌, length, map, option_to_list, Option, Some, None, option_and_then, Result, Ok, Err, if◌then◌else◌}
use Rattle.std.specs.Str.{bytes_eq}
use Rattle.wdt_units.specs.Tree.{File}
use Rattle.wdt_units.specs.declared.blocks.Header.{Header}
use Rattle.wdt_tree.specs.Shown.{shown}
use Rattle.wdt_tree.specs.declared.entry.Plain.{Plain}
use Rattle.wdt_codec.specs.declared.frames.Settings.{Settings}
use Rattle.wdt_codec.specs.declared.frames.Frame.{Frame}
use Rattle.wdt_codec.specs.declared.frames.Frame.TheVariants as frames
use Rattle.wdt_codec.specs.Stream.{Held, Message}
use Rattle.wdt_rehearsal.specs.declared.receiver.Receiver.{Receiver}
use Rattle.wdt_rehearsal.specs.declared.receiver.Stage.{Stage}
use Rattle.wdt_rehearsal.specs.declared.receiver.Stage.TheVariants as stages
use Rattle.wdt_rehearsal.specs.declared.receiver.TakeFail.{TakeFail}
use Rattle.wdt_rehearsal.specs.declared.receiver.TakeFail.TheVariants as fails

-- what the receiving half waits for, and the files that have landed, the last one as far as it has come
pub record Landing : Type 0 where
  pub stage : Stage
  pub landed : List File

-- ---- what each message leaves

-- settings that it serves: version 1, one lane, and the question what it has
abbrev pub is_served : Settings → Bool
is_served s = s.version == 1 && s.lanes == 1 && s.ask

-- the file of a block, where it has these bytes
abbrev pub begun_file : Header → List ℕ → File
begun_file h raw = record { path = h.path; stamp = h.stamp; bytes = raw }

-- a block goes on where a file ends
abbrev pub is_next : File → Header → Bool
is_next file h = bytes_eq file.path h.path && file.stamp == h.stamp && length file.bytes == h.offset

-- the file with these bytes behind its own
abbrev pub grown_file : File → List ℕ → File
grown_file file raw = record { path = file.path; stamp = file.stamp; bytes = file.bytes ++ raw }

-- the files behind this one, where there are any such
abbrev pub with_first : File → Option (List File) → Option (List File)
with_first file None = None
with_first file (Some files) = Some (file ∷ files)

-- the files with a block's bytes behind the last one, where the block goes on there
abbrev pub grown : List File → Header → List ℕ → Option (List File)
grown [] h raw = None
grown (file ∷ []) h raw = if is_next file h then Some (grown_file file raw ∷ []) else None
grown (file ∷ other ∷ files) h raw = with_first file (grown (other ∷ files) h raw)

-- the files landed at this stage, where there are any such
abbrev pub at_stage : Stage → Option (List File) → Option Landing
at_stage stage None = None
at_stage stage (Some files) = Some (record { stage = stage; landed = files })

-- where so many files and bytes are to come, the first block of a file begins it, and a further one
-- goes on behind the last file
abbrev pub after_block : ℕ → ℕ → List File → Header → List ℕ → Option Landing
after_block files bytes landed h raw =
    if nat_lt bytes h.length then None
    else if h.offset == 0 then
    (if files == 0 then None else Some (record { stage = stages.Blocks (files - 1) (bytes - h.length); landed = landed ++ begun_file h raw ∷ [] }))
    else at_stage (stages.Blocks files (bytes - h.length)) (grown landed h raw)

-- what a frame with its raw bytes leaves, where it may come
abbrev pub after_frame : Stage → List File → Frame → List ℕ → Option Landing
after_frame stages.Settings landed (frames.Settings s) raw = if is_served s then Some (record { stage = stages.Size; landed = landed }) else None
after_frame stages.Size landed (frames.Size files bytes) raw = Some (record { stage = stages.Blocks files bytes; landed = landed })
after_frame (stages.Blocks files bytes) landed (frames.Block h) raw = after_block files bytes landed h raw
after_frame (stages.Blocks files bytes) landed frames.Done raw = if files == 0 && bytes == 0 then Some (record { stage = stages.Bye; landed = landed }) else None
after_frame stages.Bye landed frames.Done raw = Some (record { stage = stages.Over; landed = landed })
after_frame stage landed frame raw = None

-- what a list of messages leaves, where each may come
abbrev pub received : List Message → Landing → Option Landing
received [] s = Some s
received (m ∷ ms) s = option_and_then (received ms) (after_frame s.stage s.landed m.frame m.raw)

-- ---- what the code has of it

-- a receiving half, as what it waits for and what has landed
abbrev pub progress : Receiver → Landing
progress r = record { stage = r.stage; landed = map shown (r.landed.items ++ option_to_list r.open_file) }

-- no byte is held back
abbrev pub nothing_held : Held
nothing_held = record { untaken = []; owed = 0 }

-- it went on to what the messages leave and holds nothing back, or memory ran out, or one of them may not come
abbrev pub Took : Option Landing → Result Unit TakeFail → Receiver → Type 0
Took (Some after) (Ok u) new = (progress new ≡ after) × (new.reader ≡ nothing_held)
Took (Some after) (Err fails.NoMemory) new = Unit {0}
Took (Some after) (Err fails.Unexpected) new = ⊥
Took None (Ok u) new = ⊥
Took None (Err fail) new = Unit {0}

-- ---- what its parts do

-- it went on to that, or memory ran out, or nothing may come of it
abbrev pub Steps : Option Landing → Result Unit TakeFail → Landing → Type 0
Steps (Some after) (Ok u) new = new ≡ after
Steps (Some after) (Err fails.NoMemory) new = Unit {0}
Steps (Some after) (Err fails.Unexpected) new = ⊥
Steps None (Ok u) new = ⊥
Steps None (Err fail) new = Unit {0}

-- how many files are still to begin behind a block at an offset
abbrev pub files_left : ℕ → ℕ → Result ℕ TakeFail
files_left files offset = if offset == 0 then (if files == 0 then Err fails.Unexpected else Ok (files - 1)) else Ok files

-- the files with the one that a block begins, or with the block's bytes behind the last one
abbrev pub with_block : List File → Header → List ℕ → Option (List File)
with_block landed h raw = if h.offset == 0 then Some (landed ++ begun_file h raw ∷ []) else grown landed h raw

-- the file to which bytes come, behind those that have landed
abbrev pub IsFileFor : Option (List File) → Result Plain TakeFail → List File → List ℕ → Type 0
IsFileFor (Some files) (Ok file) landed raw = files ≡ landed ++ grown_file (shown file) raw ∷ []
IsFileFor (Some files) (Err fails.NoMemory) landed raw = Unit {0}
IsFileFor (Some files) (Err fails.Unexpected) landed raw = ⊥
IsFileFor None (Ok file) landed raw = ⊥
IsFileFor None (Err fail) landed raw = Unit {0}

-- bytes of a block, from what a reader held to the end of a list
pub record Fills (old new : Held) (before after : List ℕ) : Type 0 where
  pub raw : List ℕ
  pub long : length raw + new.owed ≡ old.owed
  pub taken : old.untaken ≡ raw ++ new.untaken
  pub added : after ≡ before ++ raw
