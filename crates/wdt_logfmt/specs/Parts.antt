-- The parts of a log by their places in its bytes.
use Rattle.std.specs.Prelude.{ℕ, ◌+◌, List, [], ◌∷◌, drop, slice_index, Option, None, option_map}
use Rattle.wdt_logfmt.specs.View.{NamedFile}
use Rattle.wdt_logfmt.specs.Meaning.{Gate, entry_added}

-- the files with the entry at the front of the bytes, and the bytes behind it
abbrev pub front_added : ℕ → List NamedFile → List ℕ → Option (List NamedFile × List ℕ)
front_added version fs [] = None
front_added version fs (kind ∷ bytes) = entry_added version fs kind bytes

-- so many bytes were taken
abbrev pub with_rest : List ℕ → Option (ℕ × List NamedFile) → Option (List NamedFile × List ℕ)
with_rest bytes taken = option_map (λ (x : ℕ × List NamedFile). (x.1, drop x.0 bytes)) taken

-- one byte more was taken
abbrev pub with_kind : Option (ℕ × List NamedFile) → Option (ℕ × List NamedFile)
with_kind taken = option_map (λ (x : ℕ × List NamedFile). (x.0 + 1, x.1)) taken

-- the gate at a place of a log of version 1, up to which there are these files
abbrev pub gate_at : List ℕ → ℕ → List NamedFile → Gate
gate_at bytes place fs = record { version = 1; place = place; files = fs; byte = slice_index bytes place; rest = drop (place + 1) bytes }
