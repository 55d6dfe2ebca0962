-- What contracts see of a folder as a source.
use Rattle.std.specs.Prelude.{ℕ}
use Rattle.wdt_folder.specs.declared.source.FolderSource.{FolderSource}

-- how many of its calls failed
abbrev pub source_faults : {R File Dir : Type 0} → FolderSource R File Dir → ℕ
source_faults s = s.faults
