-- Reading from the front of the bytes: a value and the bytes behind it, or why there is none.
use Rattle.std.specs.Prelude.{◌≡◌, Bool, ℕ, zero, suc, ◌+◌, ◌*◌, ◌/◌, ◌^◌, List, [], ◌∷◌, ◌++◌, length, Result, Ok, Err, nat_lt, ◌==◌, if◌then◌else◌}
use Rattle.wdt_codec.specs.declared.stop.Stop.{Stop}
use Rattle.wdt_codec.specs.declared.stop.Stop.TheVariants.{NotYet, Bad}
use Rattle.wdt_codec.specs.declared.fails.ReadFail.{ReadFail}
use Rattle.wdt_codec.specs.declared.fails.ReadFail.TheVariants as fails

-- a way to read a value: the value and the bytes behind it, or why there is none
abbrev pub Reading : Type 0 → Type 0
Reading A = List ℕ → Result (A × List ℕ) Stop

infixl 10 ◌>>=◌
-- the reading goes on with what was read, or stops where it stopped
abbrev pub ◌>>=◌ : {A B : Type 0} → Result A Stop → (A → Result B Stop) → Result B Stop
(Ok x) >>= f = f x
(Err e) >>= f = Err e

-- two fields, the second by what the first says
abbrev pub both : {A B : Type 0} → Reading A → (A → Reading B) → Reading (A × B)
both f g bytes = f bytes >>= λ x. g x.0 x.1 >>= λ y. Ok ((x.0, y.0), y.1)

-- a field under another name
abbrev pub made : {A B : Type 0} → (A → B) → Reading A → Reading B
made make read bytes = read bytes >>= λ x. Ok (make x.0, x.1)

-- the byte at the front stops the reading
abbrev pub stopped : {A : Type 0} → List ℕ → Result A Stop
stopped bytes = Err (Bad (length bytes))

-- a field behind its tag, or else one of the others
abbrev pub alt : {A B : Type 0} → ℕ → (A → B) → Reading A → Reading B → Reading B
alt tag make read others [] = Err NotYet
alt tag make read others (b ∷ bytes) = if b == tag then made make read bytes else others (b ∷ bytes)

-- a field whose barred values stop at their last byte
abbrev pub except : {A : Type 0} → (A → Bool) → Reading A → Reading A
except bar read bytes = read bytes >>= λ x. if bar x.0 then Err (Bad (suc (length x.1))) else Ok x

-- one byte that passes
abbrev pub byte_where : (ℕ → Bool) → Reading ℕ
byte_where ok [] = Err NotYet
byte_where ok (b ∷ bytes) = if ok b then Ok (b, bytes) else stopped (b ∷ bytes)

-- the list of a first item and those behind it
abbrev pub cons : {A : Type 0} → A × List A → List A
cons (x, xs) = x ∷ xs

-- n items: each by how many follow it and by a state that the items before have left
unfoldable pub times : {S A : Type 0} → (ℕ → S → Reading A) → (S → A → S) → ℕ → S → Reading (List A)
times step next zero s bytes = Ok ([], bytes)
times step next (suc n) s bytes = made cons (both (step n s) λ x. times step next n (next s x)) bytes

-- what was read before, and what is still read
abbrev pub with_front : {A : Type 0} → List A → Result (List A × List ℕ) Stop → Result (List A × List ℕ) Stop
with_front front read = read >>= λ x. Ok (front ++ x.0, x.1)

-- no tag
abbrev pub unknown : {A : Type 0} → Reading A
unknown [] = Err NotYet
unknown (b ∷ bytes) = stopped (b ∷ bytes)

-- the last n bytes of a number from low to high, high byte first, where those before are the number p
unfoldable pub digits : ℕ → ℕ → ℕ → ℕ → Reading ℕ
digits low high zero p bytes = Ok (p, bytes)
digits low high (suc n) p [] = Err NotYet
digits low high (suc n) p (b ∷ bytes) =
    if nat_lt (p * 256 + b) (low / 256 ^ n) then stopped (b ∷ bytes)
    else if nat_lt (high / 256 ^ n) (p * 256 + b) then stopped (b ∷ bytes)
    else digits low high n (p * 256 + b) bytes

-- a number from low to high in so many bytes, high byte first
abbrev pub number_at : ℕ → ℕ → ℕ → Reading ℕ
number_at width low high bytes = digits low high width 0 bytes

-- What a function returned, seen by view, is what reading gives.
abbrev pub Answers : {X Y : Type 0} → (X → Y) → Result X Stop → Result Y Stop → Type 0
Answers view (Ok x) read = read ≡ Ok (view x)
Answers view (Err d) read = read ≡ Err d

-- why a reading failed, as a function that takes memory says it
abbrev pub failed : Stop → ReadFail
failed NotYet = fails.NotYet
failed (Bad left) = fails.Bad left

-- the same of a function that may want memory
abbrev pub Fails : {Y : Type 0} → ReadFail → Result Y Stop → Type 0
Fails fails.NoMemory read = Unit {0}
Fails fails.NotYet read = read ≡ Err NotYet
Fails (fails.Bad left) read = read ≡ Err (Bad left)

-- What a function that may want memory returned, seen by view, is what reading gives.
abbrev pub Gives : {X Y : Type 0} → (X → Y) → Result X ReadFail → Result Y Stop → Type 0
Gives view (Ok x) read = read ≡ Ok (view x)
Gives view (Err e) read = Fails e read
