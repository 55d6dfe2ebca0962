-- Why an end has failed, where its history doesn't say so.
use Rattle.std.specs.Prelude.{◌≡◌, ◌≢◌, List, Some, None}
use Rattle.wdt_units.specs.Have.{HaveFile}
use Rattle.wdt_codec.specs.Chunks.{FitsChunks}
use Rattle.wdt_sender_fsm.specs.declared.answers.EndAnswer.TheVariants as answers
use Rattle.wdt_sender_fsm.specs.declared.answers.RefusedKind.{RefusedKind}
use Rattle.wdt_sender_fsm.specs.Chunks.{refusal, unordered_at}
use Rattle.wdt_sender_fsm.specs.PlainSender.{PlainSender}

-- the tree isn't sent for this reason to a destination that has so much, which was told in the grammar's
-- ranges and in order; and no other list of what a destination has was planned by
pub record WasRefused (s : PlainSender) (kind : RefusedKind) : Type 0 where
  pub have : List HaveFile
  pub fits : FitsChunks have
  pub ordered : unordered_at have ≡ None
  pub refused : refusal s.manifest have s.block ≡ Some kind
  pub unplanned : s.have ≡ None

-- an end that refuses the tree has a reason
abbrev pub HasReason : PlainSender → Type 0
HasReason s = (kind : RefusedKind) → s.answer ≡ answers.Refused kind → WasRefused s kind

-- it wasn't its disk: a sender has none
abbrev pub HasNoDisk : PlainSender → Type 0
HasNoDisk s = s.answer ≢ answers.Disk
