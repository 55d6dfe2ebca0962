-- Files of a Chunks that have come in part.
use Rattle.std.specs.Prelude.{◌≡◌, ℕ, ◌+◌, ◌≤◌, List, ◌++◌, length, take, map}
use Rattle.wdt_units.specs.declared.limits.TheConstants.{MAX_FILES, MAX_SPANS}
use Rattle.wdt_ranges.specs.Files.{have_file}
use Rattle.wdt_codec.specs.declared.chunks.Partial.{Partial}
use Rattle.wdt_codec.specs.Chunks.{files_from, chunks_at}
use Rattle.wdt_codec.specs.Reading.{with_front}

-- what was read stands at the front of the bytes, and the rest is read whatever it is
pub record Stands (p : Partial) (bytes : List ℕ) : Type 0 where
  pub within : p.taken ≤ length bytes
  pub used : p.used ≤ MAX_SPANS
  pub few : length p.files.items + p.left ≤ MAX_FILES
  pub goes : (u : List ℕ) → chunks_at (take p.taken bytes ++ u) ≡ with_front (map have_file p.files.items) (files_from p.left p.used u)
