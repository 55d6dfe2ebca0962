-- What a lawful path is.
use Rattle.std.specs.Prelude.{ℕ, Bool, List, ◌&&◌, ◌||◌, not, ◌==◌, nat_lt, nat_le, length, codes}
use Rattle.std.specs.List.{slice_split, list_all, list_any}
use Rattle.std.specs.Str.{is_utf8, bytes_eq}
use Rattle.wdt_units.specs.declared.limits.TheConstants.{MAX_PATH}

-- neither empty nor `.` nor `..`
abbrev pub is_part : List ℕ → Bool
is_part part = not (length part == 0) && not (bytes_eq part (codes ".")) && not (bytes_eq part (codes ".."))

-- each part between slashes is a part of a path
unfoldable pub has_parts : List ℕ → Bool
has_parts bytes = list_all is_part (slice_split (λ b. b == 47) bytes)

-- at least one byte and no more than a path may have, none of them 0, of lawful parts
unfoldable pub is_shaped : List ℕ → Bool
is_shaped bytes = nat_lt 0 (length bytes) && nat_le (length bytes) MAX_PATH
    && not (list_any (λ b. b == 0) bytes) && has_parts bytes

-- UTF-8 text of that shape
unfoldable pub is_lawful : List ℕ → Bool
is_lawful bytes = is_utf8 bytes && is_shaped bytes

-- where a receiver keeps its log
abbrev pub log_path : List ℕ
log_path = codes ".wlog"

-- where a receiver writes a new log before it puts it in the other's place
abbrev pub new_log_path : List ℕ
new_log_path = codes ".wlog.new"

-- one of the receiver's own files
abbrev pub is_reserved : List ℕ → Bool
is_reserved path = bytes_eq path log_path || bytes_eq path new_log_path
