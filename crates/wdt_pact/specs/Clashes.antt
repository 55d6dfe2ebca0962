-- Blocks that clash, by their headers, and blocks of which a destination has nothing.
use Rattle.std.specs.Prelude.{◌≡◌, ℕ, ◌+◌, ◌<◌, ◌≤◌, ◌==◌, ◌||◌, ◌&&◌, Bool, false, List, ◌++◌}
use Rattle.std.specs.Str.{bytes_eq}
use Rattle.wdt_units.specs.Have.{HaveFile, is_covered, is_named}
use Rattle.wdt_units.specs.declared.blocks.Header.{Header}
use Rattle.wdt_logfmt.specs.Adding.{overlap, span_at}
use Rattle.wdt_pact.specs.Conversation.{Receiving}
use Rattle.wdt_pact.specs.Lists.{begun_heads}

-- two blocks of one file share a position, or one of them has none
abbrev pub clash : Header → Header → Bool
clash g h = bytes_eq g.path h.path && (g.length == 0 || (h.length == 0 || overlap (span_at g.offset g.length) (span_at h.offset h.length)))

-- the blocks that landed on a lane, and the one that is begun there
abbrev pub heads_of : Receiving → List Header
heads_of r = r.landed ++ begun_heads r.begun

-- a destination has no position of a block, and doesn't name the file of an empty one
pub record IsMissing (have : List HaveFile) (h : Header) : Type 0 where
  pub covered : (position : ℕ) → h.offset ≤ position → position < h.offset + h.length → is_covered have h.path position ≡ false
  pub named : h.length ≡ 0 → is_named have h.path ≡ false
