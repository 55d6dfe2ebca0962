-- The forms of words that name another machine.
use Rattle.std.specs.Prelude.{ℕ, ◌&&◌, List, [], ◌∷◌, Option, None, option_and_then, option_map, if◌then◌else◌}
use Rattle.wdt_units.specs.declared.limits.TheConstants.{MAX_LANES}
use Rattle.wdt_words.specs.Names.{is_name}
use Rattle.wdt_words.specs.Numbers.{number_in, IsWithin}
use Rattle.wdt_words.specs.Options.{batch_of, block_of, lanes_of, options_of, session_of, AreWithin}
use Rattle.wdt_words.specs.declared.command.Transfer.{Transfer}
use Rattle.wdt_words.specs.declared.command.Transfer.TheVariants.{Send, Recv}
use Rattle.wdt_words.specs.declared.options.Form.{Form}
use Rattle.wdt_words.specs.declared.options.Form.TheVariants as forms
use Rattle.wdt_words.specs.declared.options.Options.{Options}
use Rattle.wdt_words.specs.declared.remote.Aim.{Aim}
use Rattle.wdt_words.specs.declared.remote.TheConstants.{MAX_PORT}

-- a port, and options
abbrev pub aim : ℕ → Options → Aim
aim port options = record { port = port; options = options }

-- PORT, and options of the form
abbrev pub aim_at : Form → List ℕ → List (List ℕ) → Option Aim
aim_at form port words = option_and_then (λ p. option_map (aim p) (options_of form words)) (number_in 1 MAX_PORT port)

-- SRC or DST, HOST PORT, and options of the form
abbrev pub aim_form : Form → List (List ℕ) → Option Aim
aim_form form [] = None
aim_form form (name ∷ []) = None
aim_form form (name ∷ host ∷ []) = None
aim_form form (name ∷ host ∷ port ∷ words) = if is_name name && is_name host then aim_at form port words else None

-- the port and the options lie within their limits
pub record IsAimed (a : Aim) : Type 0 where
  pub port : IsWithin 1 MAX_PORT a.port
  pub options : AreWithin a.options

-- a send to this port with these options
abbrev pub send_with : Aim → Transfer
send_with a = Send a.port (lanes_of a.options) (block_of a.options) (session_of a.options)

-- SRC HOST PORT, and options
abbrev pub send_form : List (List ℕ) → Option Transfer
send_form words = option_map send_with (aim_form forms.Send words)

-- a receiver at this port with these options
abbrev pub recv_with : Aim → Transfer
recv_with a = Recv a.port (lanes_of a.options) (batch_of a.options)

-- DST HOST PORT, and options
abbrev pub recv_form : List (List ℕ) → Option Transfer
recv_form words = option_map recv_with (aim_form forms.Recv words)

-- port and lanes lie within their limits
pub record IsReachable (port lanes : ℕ) : Type 0 where
  pub first_port : IsWithin 1 MAX_PORT port
  pub some_lanes : IsWithin 1 MAX_LANES lanes
