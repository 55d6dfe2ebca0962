-- Files of a log and those that they grew to: what a batch says is among the files that it leads to.
use Rattle.std.specs.Prelude.{◌≡◌, ℕ, List, IsTrue}
use Rattle.wdt_units.specs.Have.{is_in}
use Rattle.wdt_ranges.specs.Spans.{has}
use Rattle.wdt_logfmt.specs.declared.entry.LogEntry.{LogEntry}
use Rattle.wdt_logfmt.specs.declared.entry.LogEntry.TheVariants.{File as Named, Covered}
use Rattle.wdt_logfmt.specs.Adding.{just_named, span_at}
pub use Rattle.wdt_logfmt.specs.Landing.{IsAmong}
use Rattle.wdt_logfmt.specs.View.{NamedFile}

-- the same file, of which no less is covered
pub record Grows (f g : NamedFile) : Type 0 where
  pub number : g.number ≡ f.number
  pub path : g.have.path ≡ f.have.path
  pub size : g.have.size ≡ f.have.size
  pub stamp : g.have.stamp ≡ f.have.stamp
  pub spans : (k : ℕ) → IsTrue (has f.have.spans k) → IsTrue (has g.have.spans k)

-- one of these files is what the file grew to
abbrev pub GrowsIn : List NamedFile → NamedFile → Type 0
GrowsIn gs f = (g : NamedFile) × IsAmong g gs × Grows f g

-- what an entry says is among the files: that it names the file, or covers the span
abbrev pub Says : List NamedFile → LogEntry → Type 0
Says gs (Named number path size stamp) = GrowsIn gs (just_named number path size stamp)
Says gs (Covered number offset count) = (g : NamedFile) × IsAmong g gs × (g.number ≡ number) × ((k : ℕ) → IsTrue (is_in k (span_at offset count)) → IsTrue (has g.have.spans k))
