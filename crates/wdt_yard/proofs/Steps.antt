-- A step where memory didn't run out.
use Rattle.std.proofs.Common.{◌≡◌, Bool, refl}
use Rattle.wdt_units.specs.declared.numbers.Lane.{Lane}
use Rattle.wdt_sender_fsm.specs.declared.rows.SendRow.{SendRow}
use Rattle.wdt_sender_fsm.specs.declared.rows.SendRow.TheVariants as rows
use Rattle.wdt_sender_fsm.specs.PlainSender.{PlainSender}
use Rattle.wdt_sender_fsm.specs.Rows.{shown}
use Rattle.wdt_sender_fsm.specs.Turn.{ruled, turned}

pub unstarved : (s : PlainSender) (l : Lane) (row : SendRow) → ((mute : Bool) → row ≡ rows.Starved mute → ⊥) → turned s l (shown row) ≡ ruled s l (shown row)
unstarved s l (rows.Starved mute) other = absurd (other mute refl)
unstarved s l _ other = refl
