-- What an image must hold before a batch may count.
use Rattle.std.specs.Prelude.{◌≡◌, ℕ, List, [], ◌∷◌, Some}
use Rattle.wdt_units.specs.Tree.{File}
use Rattle.wdt_depot.specs.Disk.{Image}
use Rattle.wdt_logfmt.specs.declared.entry.LogEntry.{LogEntry}
use Rattle.wdt_logfmt.specs.declared.entry.LogEntry.TheVariants.{File as Named, Covered}
use Rattle.wdt_logfmt.specs.Adding.{added, just_named, span_at}
use Rattle.wdt_logfmt.specs.View.{NamedFile}
use Rattle.wdt_good.specs.Good.{Each, FitsTree, HasTreeBytes, Stands}

-- For an entry behind these files: a file that it names is the tree's, and stands; a span that it covers
-- holds the tree's bytes.
abbrev pub HoldsEntry : List File → Image → List NamedFile → LogEntry → Type 0
HoldsEntry T i fs (Named number path size stamp) = FitsTree T (just_named number path size stamp) × Stands (i path) (just_named number path size stamp)
HoldsEntry T i fs (Covered number offset count) = Each (λ f. f.number ≡ number → HasTreeBytes T (i f.have.path) f (span_at offset count ∷ [])) fs

-- The same for each entry of a batch of a log of this version, behind the files that those before it
-- lead to.
abbrev pub HoldsBatch : ℕ → List File → Image → List NamedFile → List LogEntry → Type 0
HoldsBatch version T i fs [] = Unit {0}
HoldsBatch version T i fs (e ∷ es) = HoldsEntry T i fs e × ((gs : List NamedFile) → added version fs e ≡ Some gs → HoldsBatch version T i gs es)

-- the paths that a batch may make the log forget: none, since no entry forgets a file
abbrev pub forgotten_of : List LogEntry → List (List ℕ)
forgotten_of es = []
