-- Counts that rise, and counts that are added up.
use Rattle.std.proofs.Common.{◌≡◌, ℕ, ◌+◌, ◌≤◌, arith}
use Rattle.wdt_units.specs.Counts.{Rises, RoseBy, added, capped}

-- a count that rose within a stretch rose over it
pub rises_wider : (a b c d : ℕ) → a ≤ b → c ≤ d → Rises b c → Rises a d
rises_wider a b c d p q r = record { later = omega (arith, r.later); more = λ h. grind (arith, h, p, q, r.later, r.more) }

-- a sum doesn't fall where its parts don't
pub added_later : (a b a' b' : ℕ) → a ≤ a' → b ≤ b' → added a b ≤ added a' b'
added_later a b a' b' p q = omega arith

-- it rises where a part does
pub added_left : (a b a' b' : ℕ) → Rises a a' → b ≤ b' → Rises (added a b) (added a' b')
added_left a b a' b' p q = record { later = omega (arith, p.later); more = λ h. omega (arith, p.later, p.more) }

pub added_right : (a b a' b' : ℕ) → a ≤ a' → Rises b b' → Rises (added a b) (added a' b')
added_right a b a' b' p q = record { later = omega (arith, q.later); more = λ h. omega (arith, q.later, q.more) }

-- a sum is told as it is
pub capped-added : (a b : ℕ) → capped (added a b) ≡ added a b
capped-added a b = omega arith

-- a count that rose by so many, and then by so many more
pub rose_more : (m n a b c : ℕ) → RoseBy m a b → RoseBy n b c → RoseBy (m + n) a c
rose_more m n a b c p q = omega (arith, p, q)

-- a count that rose rose by one
pub rose_one : (a b : ℕ) → Rises a b → RoseBy 1 a b
rose_one a b r = grind (arith, r.later, r.more)
