-- A path byte for byte: what may come next, and how many bytes it must still have at least.
use Rattle.std.specs.Prelude.{Bool, false, ℕ, Option, Some, None, nat_lt, nat_le, ◌==◌, if◌then◌else◌}
use Rattle.wdt_units.specs.declared.scan.PathScan.{PathScan}
use Rattle.wdt_units.specs.declared.scan.PathScan.TheVariants.{Start, Dot, Dots, Plain, Last, Two, Three, AfterE0, AfterEd, AfterF0, AfterF4}

-- the first byte of a character
abbrev pub lead : ℕ → Option PathScan
lead b =
    if nat_lt b 1 then None
    else if nat_lt b 128 then Some Plain
    else if nat_lt b 194 then None
    else if nat_lt b 224 then Some Last
    else if nat_lt b 225 then Some AfterE0
    else if nat_lt b 237 then Some Two
    else if nat_lt b 238 then Some AfterEd
    else if nat_lt b 240 then Some Two
    else if nat_lt b 241 then Some AfterF0
    else if nat_lt b 244 then Some Three
    else if nat_lt b 245 then Some AfterF4
    else None

-- a byte of a range
abbrev pub among : ℕ → ℕ → PathScan → ℕ → Option PathScan
among low high s b = if nat_lt b low then None else if nat_lt high b then None else Some s

-- the state behind a byte, where a path may go on with it
abbrev pub next : PathScan → ℕ → Option PathScan
next Start b = if b == 47 then None else if b == 46 then Some Dot else lead b
next Dot b = if b == 47 then None else if b == 46 then Some Dots else lead b
next Dots b = if b == 47 then None else lead b
next Plain b = if b == 47 then Some Start else lead b
next Last b = among 128 191 Plain b
next Two b = among 128 191 Last b
next Three b = among 128 191 Two b
next AfterE0 b = among 160 191 Last b
next AfterEd b = among 128 159 Last b
next AfterF0 b = among 144 191 Two b
next AfterF4 b = among 128 143 Two b

-- the least number of bytes that end a path from here
abbrev pub need : PathScan → ℕ
need Start = 1
need Dot = 1
need Dots = 1
need Plain = 0
need Last = 1
need Two = 2
need Three = 3
need AfterE0 = 2
need AfterEd = 2
need AfterF0 = 3
need AfterF4 = 3

-- a path may end within so many bytes more
abbrev pub leaves : ℕ → Option PathScan → Bool
leaves more None = false
leaves more (Some s) = nat_le (need s) more

-- the same, where so many bytes still follow
abbrev pub within : ℕ → Option PathScan → Option PathScan
within more None = None
within more (Some s) = if nat_le (need s) more then Some s else None

-- a state, where there is one
abbrev pub or_plain : Option PathScan → PathScan
or_plain None = Plain
or_plain (Some s) = s

-- the state behind a byte that a path may go on with
abbrev pub scan_after : PathScan → ℕ → PathScan
scan_after s b = or_plain (next s b)
