-- The plan of a source's tree to a destination.
use Rattle.std.specs.Prelude.{◌≡◌, ℕ, List, Option, None, Ok, IfSome}
use Rattle.wdt_tree.specs.declared.entry.Entry.{Entry}
use Rattle.wdt_tree.specs.Listing.{IsAccepted, Orders}
use Rattle.wdt_tree.specs.Rest.{IsRest}
use Rattle.wdt_depot.specs.Disk.{seen_of}
use Rattle.wdt_depot.specs.Moments.{IfTold, Told}
use Rattle.wdt_logfmt.specs.View.{Meaning, have_of}
use Rattle.wdt_good.specs.Good.{log_of}
use Rattle.wdt_rest.specs.RestOf.{rest_of}
use Rattle.wdt_discover.specs.Plan.{refusal}
use Rattle.wdt_tool.specs.PlanLines.{plan_text}

-- The text is that of a plan, in blocks of so many bytes: there is a tree, which is the listing's where that
-- is told, and a log, which is the destination's where the disk is told. They fit each other, and the
-- list is what is still to be sent of the tree (`IsRest`: a condition on positions).
pub record IsPlan (block : ℕ) (listing : Option (List Entry)) (told : Option Told) (text : List ℕ) : Type 0 where
  pub entries : List Entry
  pub accepted : IfSome listing IsAccepted
  pub order : IfSome listing (λ listed. Orders listed entries)
  pub meaning : Meaning
  pub means : IfTold (λ t. log_of (seen_of t.now) ≡ Ok meaning) told
  pub fits : refusal entries (have_of meaning.files) block ≡ None
  pub rest : IsRest entries (have_of meaning.files) block (rest_of entries (have_of meaning.files) block)
  pub is : text ≡ plan_text entries (rest_of entries (have_of meaning.files) block)
