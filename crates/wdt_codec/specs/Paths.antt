-- The bytes of a path.
use Rattle.std.specs.Prelude.{ℕ, List}
use Rattle.wdt_units.specs.declared.scan.PathScan.TheVariants.{Start}
use Rattle.wdt_units.specs.Scan.{next, leaves, scan_after}
use Rattle.wdt_codec.specs.Reading.{Reading, byte_where, times}

-- the bytes of a path, so many: each leaves room for those that must follow it
unfoldable pub path_at : ℕ → Reading (List ℕ)
path_at n = times (λ more s. byte_where (λ b. leaves more (next s b))) scan_after n Start
