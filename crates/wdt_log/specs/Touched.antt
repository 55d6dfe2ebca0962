-- The files that a batch touches, kept apart from all others until the batch is logged.
use Rattle.std.specs.Prelude.{◌≡◌, ℕ, ◌==◌, if◌then◌else◌, List, [], ◌∷◌, Option, Some, None, option_map, IsSome, IsTrue}
use Rattle.wdt_units.specs.Have.{HaveFile}
use Rattle.wdt_logfmt.specs.declared.entry.LogEntry.{LogEntry}
use Rattle.wdt_logfmt.specs.declared.entry.LogEntry.TheVariants.{File, Covered}
use Rattle.wdt_logfmt.specs.Adding.{added, all_added, have_with, just_named, span_at}
use Rattle.wdt_logfmt.specs.View.{NamedFile, is_view}

-- the file of this number
abbrev pub numbered : ℕ → List NamedFile → Option HaveFile
numbered n [] = None
numbered n (f ∷ fs) = if f.number == n then Some f.have else numbered n fs

-- the first, and where it is none the other
abbrev pub or_else : Option HaveFile → Option HaveFile → Option HaveFile
or_else None other = other
or_else (Some f) other = Some f

-- the file of this number as it is touched, and else as it stands among the others
abbrev pub laid : List NamedFile → List NamedFile → ℕ → Option HaveFile
laid ts fs n = or_else (numbered n ts) (numbered n fs)

-- the file of a number with an entry, from those before it
abbrev pub entered : LogEntry → (ℕ → Option HaveFile) → ℕ → Option HaveFile
entered (File number path size stamp) before n = if number == n then Some (just_named number path size stamp).have else before n
entered (Covered number offset count) before n = if number == n then option_map (have_with (span_at offset count)) (before n) else before n

-- the same files by number
abbrev pub SameFiles : (ℕ → Option HaveFile) → (ℕ → Option HaveFile) → Type 0
SameFiles f g = (n : ℕ) → g n ≡ f n

-- the files that a batch of a log of this version leads to, by their numbers
abbrev pub AreAdded : ℕ → List NamedFile → List LogEntry → (ℕ → Option HaveFile) → Type 0
AreAdded version fs es look = (gs : List NamedFile) → all_added version fs es ≡ Some gs → SameFiles look (λ n. numbered n gs)

-- an entry continues the files that are seen so lawfully
abbrev pub CanEnter : ℕ → (ℕ → Option HaveFile) → LogEntry → Type 0
CanEnter version look e = (gs : List NamedFile) × IsTrue (is_view gs) × SameFiles look (λ n. numbered n gs) × IsSome (added version gs e)
