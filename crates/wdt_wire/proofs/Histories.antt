-- What a direction of a wire holds of its connection's history.
use Rattle.std.proofs.Common.{◌≡◌, ℕ, ◌+◌, ◌-◌, ◌≤◌, min, List, ◌++◌, length, take, drop, Option, Some, None, refl, sym, ap, ◌∙◌, arith}
use Rattle.std.specs.Prelude.{IfSome}
use Rattle.std.proofs.lemmas.List.{drop-append-le, drop-drop, drop-take, length-append, length-drop, length-take, take_min}
use Rattle.wdt_wire.specs.Connection.{Direction, Holds, IsDirection, cut, new_direction, room_of, taking, write}
use Rattle.wdt_wire.specs.Ways.{PlainWay, arriving, behind, cut_way, less, lower, new_way, with_bytes}

pub new-holds : Holds new_direction new_way
new-holds = record { sound = record { front = omega arith; within = tt }; untaken = refl; room = refl }

-- ---- bytes are written

write-sound : (written bytes : List ℕ) (taken : ℕ) (limit : Option ℕ) → IsDirection record { written = written; taken = taken; limit = limit } → IsDirection record { written = arriving limit (written ++ bytes); taken = taken; limit = limit }
write-sound written bytes taken None s = record { front = omega (arith, s.front, length-append written bytes); within = tt }
write-sound written bytes taken (Some limit) s =
    let len : length (take limit (written ++ bytes)) ≡ min limit (length written + length bytes) = simp (length-take, length-append) in
    record { front = omega (arith, s.front, s.within, len); within = omega (arith, len) }

write-untaken : (written bytes : List ℕ) (taken : ℕ) (limit : Option ℕ) → IsDirection record { written = written; taken = taken; limit = limit } → arriving (room_of limit taken) (drop taken written ++ bytes) ≡ drop taken (arriving limit (written ++ bytes))
write-untaken written bytes taken None s = sym (drop-append-le taken written bytes s.front)
write-untaken written bytes taken (Some limit) s =
    let whole : taken + (limit - taken) ≡ limit = omega (arith, s.front, s.within) in
    ap (take (limit - taken)) (sym (drop-append-le taken written bytes s.front))
    ∙ (sym (drop-take taken (limit - taken) (written ++ bytes)) ∙ ap (λ (n : ℕ). drop taken (take n (written ++ bytes))) whole)

pub write-holds : (d : Direction) (way : PlainWay) (bytes : List ℕ) → Holds d way → Holds (write bytes d) (with_bytes bytes way)
write-holds d way bytes h =
    record {
      sound = write-sound d.written bytes d.taken d.limit h.sound;
      untaken = ap (λ (room : Option ℕ). arriving room (way.untaken ++ bytes)) h.room ∙ (ap (λ (u : List ℕ). arriving (room_of d.limit d.taken) (u ++ bytes)) h.untaken ∙ write-untaken d.written bytes d.taken d.limit h.sound);
      room = h.room;
    }

-- ---- bytes are taken

less-room : (limit : Option ℕ) (taken n : ℕ) → less (room_of limit taken) n ≡ room_of limit (taken + n)
less-room None taken n = refl
less-room (Some limit) taken n = let e : limit - taken - n ≡ limit - (taken + n) = omega arith in ap Some e

pub take-holds : (d : Direction) (way : PlainWay) (n owed : ℕ) → n ≤ length way.untaken → Holds d way → Holds (taking n d) (behind n owed way)
take-holds d way n owed few h =
    record {
      sound = record { front = omega (arith, few, h.sound.front, ap length h.untaken, length-drop d.taken d.written); within = h.sound.within };
      untaken = ap (drop n) h.untaken ∙ drop-drop n d.taken d.written;
      room = ap (λ (room : Option ℕ). less room n) h.room ∙ less-room d.limit d.taken n;
    }

-- ---- the direction is cut

cut-sound : (written : List ℕ) (taken n : ℕ) (limit : Option ℕ) → IsDirection record { written = written; taken = taken; limit = limit } → IsDirection (cut n record { written = written; taken = taken; limit = limit })
cut-sound written taken n None s =
    let len : length (take (taken + n) written) ≡ min (taken + n) (length written) = length-take (taken + n) written in
    record { front = omega (arith, s.front, len); within = omega (arith, len) }
cut-sound written taken n (Some limit) s =
    let len : length (take (min limit (taken + n)) written) ≡ min (min limit (taken + n)) (length written) = length-take (min limit (taken + n)) written in
    record { front = omega (arith, s.front, s.within, len); within = omega (arith, len) }

-- a limit behind the end changes nothing
take-past : (limit n : ℕ) (xs : List ℕ) → length xs ≤ limit → take n xs ≡ take (min limit n) xs
take-past limit n xs over =
    let e : min n (length xs) ≡ min (min limit n) (length xs) = omega arith in
    sym (take_min n xs) ∙ (ap (λ (m : ℕ). take m xs) e ∙ take_min (min limit n) xs)

cut-untaken : (written : List ℕ) (taken n : ℕ) (limit : Option ℕ) → IsDirection record { written = written; taken = taken; limit = limit } → take n (drop taken written) ≡ drop taken (arriving (lower limit (taken + n)) written)
cut-untaken written taken n None s = sym (drop-take taken n written)
cut-untaken written taken n (Some limit) s = sym (drop-take taken n written) ∙ ap (drop taken) (take-past limit (taken + n) written s.within)

lower-room : (limit : Option ℕ) (taken n : ℕ) → IfSome limit (λ l. taken ≤ l) → lower (room_of limit taken) n ≡ room_of (lower limit (taken + n)) taken
lower-room None taken n within = let e : n ≡ taken + n - taken = omega arith in ap Some e
lower-room (Some limit) taken n within = let e : min (limit - taken) n ≡ min limit (taken + n) - taken = omega (arith, within) in ap Some e

taken-within : (written : List ℕ) (taken : ℕ) (limit : Option ℕ) → IsDirection record { written = written; taken = taken; limit = limit } → IfSome limit (λ l. taken ≤ l)
taken-within written taken None s = tt
taken-within written taken (Some limit) s = omega (arith, s.front, s.within)

pub cut-holds : (d : Direction) (way : PlainWay) (n : ℕ) → Holds d way → Holds (cut n d) (cut_way n way)
cut-holds d way n h =
    record {
      sound = cut-sound d.written d.taken n d.limit h.sound;
      untaken = ap (take n) h.untaken ∙ cut-untaken d.written d.taken n d.limit h.sound;
      room = ap (λ (room : Option ℕ). lower room n) h.room ∙ lower-room d.limit d.taken n (taken-within d.written d.taken d.limit h.sound);
    }
