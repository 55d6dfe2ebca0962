-- The words that lines begin with.
use Rattle.std.specs.Prelude.{ℕ, List, Option, Some, None, if◌then◌else◌, codes}
use Rattle.std.specs.Str.{bytes_eq}
use Rattle.wdt_script.specs.declared.word.Word.{Word}
use Rattle.wdt_script.specs.declared.word.Word.TheVariants.{S, R, Cut, Deny, Refuse, Stop, Settle, Resume}

-- the word that these bytes spell
abbrev pub word_of : List ℕ → Option Word
word_of bytes =
    if bytes_eq bytes (codes "s") then Some S
    else if bytes_eq bytes (codes "r") then Some R
    else if bytes_eq bytes (codes "cut") then Some Cut
    else if bytes_eq bytes (codes "deny") then Some Deny
    else if bytes_eq bytes (codes "refuse") then Some Refuse
    else if bytes_eq bytes (codes "stop") then Some Stop
    else if bytes_eq bytes (codes "settle") then Some Settle
    else if bytes_eq bytes (codes "resume") then Some Resume
    else None
