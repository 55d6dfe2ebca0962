-- What a link over a wire is seen as.
use Rattle.std.specs.Prelude.{◌≡◌, ℕ, ◌<◌, length, Option, IfSome}
use Rattle.wdt_units.specs.Counts.{added}
use Rattle.wdt_codec.specs.Grammar.{IsFront}
use Rattle.wdt_link.specs.Owing.{Owing}
use Rattle.wdt_link.specs.Traffic.{Traffic}

-- its bytes where told, the faults of its wire and its own, its alarms and slips, and what is owed
pub record ByteLinkView : Type 0 where
  pub told : Option Traffic
  pub wire : ℕ
  pub own : ℕ
  pub alarms : ℕ
  pub slips : ℕ
  pub owing : Owing

-- how often a call failed, for the wire's failure or for one of the link's own
abbrev pub faults_of : ByteLinkView → ℕ
faults_of link = added link.own link.wire

-- all that still comes is a proper front of a frame's spelling
abbrev pub EndsInFrame : Option Traffic → Type 0
EndsInFrame told = IfSome told (λ traffic. IsFront traffic.coming)

-- fewer than so many bytes still come
abbrev pub EndsInPiece : ℕ → Option Traffic → Type 0
EndsInPiece count told = IfSome told (λ traffic. length traffic.coming < count)
