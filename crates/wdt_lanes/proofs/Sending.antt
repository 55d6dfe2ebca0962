-- How what was sent adds up.
use Rattle.std.proofs.Common.{◌≡◌, ℕ, ◌+◌, ◌≤◌, List, [], ◌++◌, true, false, length, take, Option, Some, None, Result, Ok, Err, refl, sym, ap, ◌∙◌, append_assoc, append-nil, arith}
use Rattle.std.proofs.lemmas.List.{length-append, length-take, take_all}
use Rattle.wdt_units.specs.declared.blocks.Header.{Header}
use Rattle.wdt_codec.specs.declared.frames.Frame.TheVariants as frames
use Rattle.wdt_codec.specs.Frames.{spell}
use Rattle.wdt_sender_fsm.specs.declared.acts.SendAct.TheVariants as acts
use Rattle.wdt_sender_fsm.specs.declared.inputs.SendIn.{SendIn}
use Rattle.wdt_sender_fsm.specs.declared.inputs.SendIn.TheVariants as inputs
use Rattle.wdt_link.specs.declared.fails.LinkFail.{LinkFail}
use Rattle.wdt_link.specs.Traffic.{Traffic, Tells, Sends}
use Rattle.wdt_lanes.specs.Performing.{IsFrontOf, Puts, PutsMuch, PutsMuchBy, PutsSome, IsMuchBy, IsBlockPart, Performs, is_piece_answer}

pub puts_none : (a : Traffic) → Puts [] a a
puts_none a = record { coming = refl; received = refl; sent = sym (append-nil a.sent) }

pub puts_more : (w v : List ℕ) (a b c : Traffic) → Puts w a b → Puts v b c → Puts (w ++ v) a c
puts_more w v a b c p q = record {
  coming = q.coming ∙ p.coming;
  received = q.received ∙ p.received;
  sent = q.sent ∙ ap (λ s. s ++ v) p.sent ∙ append_assoc a.sent w v;
}

pub tells_more : {A : Type 0} (P Q R : A → A → Type 0) (a b c : Option A) → ((x y z : A) → P x y → Q y z → R x z) → Tells P a b → Tells Q b c → Tells R a c
tells_more P Q R None None None f p q = tt
tells_more P Q R None None (Some z) f p q = q
tells_more P Q R None (Some y) c f p q = absurd p
tells_more P Q R (Some x) None None f p q = tt
tells_more P Q R (Some x) None (Some z) f p q = absurd q
tells_more P Q R (Some x) (Some y) None f p q = tt
tells_more P Q R (Some x) (Some y) (Some z) f p q = f x y z p q

pub tells_map : {A : Type 0} (P Q : A → A → Type 0) (a b : Option A) → ((x y : A) → P x y → Q x y) → Tells P a b → Tells Q a b
tells_map P Q None None f p = tt
tells_map P Q None (Some y) f p = p
tells_map P Q (Some x) None f p = tt
tells_map P Q (Some x) (Some y) f p = f x y p

pub tells_same : {A : Type 0} (P : A → A → Type 0) (a : Option A) → ((x : A) → P x x) → Tells P a a
tells_same P None f = tt
tells_same P (Some x) f = f x

-- a sending call puts its bytes, or a front of them
pub sends_much : {T E : Type 0} (result : Result T E) (bytes : List ℕ) (a b : Traffic) → Sends result bytes a b → PutsMuch result (length bytes) a b
sends_much (Ok x) bytes a b s = (bytes, record { coming = s.coming; received = s.received; sent = s.sent }, refl)
sends_much (Err e) bytes a b s = (take s.sent.0 bytes, record { coming = s.coming; received = s.received; sent = s.sent.1 }, omega (arith, length-take s.sent.0 bytes))

pub some_more : (n m : ℕ) (a b c : Traffic) → PutsSome n a b → PutsSome m b c → PutsSome (n + m) a c
some_more n m a b c p q = (p.0 ++ q.0, puts_more p.0 q.0 a b c p.1 q.1, omega (arith, length-append p.0 q.0, p.2, q.2))

-- ---- a block

pub nothing_sent : (header : Header) (a : Option Traffic) → Tells (Performs (acts.SendBlock header) inputs.Starved) a a
nothing_sent header a = tells_same (Performs (acts.SendBlock header) inputs.Starved) a (λ x. ([], puts_none x, ([], omega arith, 0, refl)))

fails_at_head : (e : LinkFail) (head : List ℕ) (len : ℕ) (x y : Traffic) → Sends {T = Unit {0}} (Err e) head x y → (written : List ℕ) × Puts written x y × IsFrontOf head len written
fails_at_head e head len x y s = (take s.sent.0 head, record { coming = s.coming; received = s.received; sent = s.sent.1 }, ([], omega arith, s.sent.0, ap (take s.sent.0) (sym (append-nil head))))

fails_behind : (u : Unit {0}) (e : LinkFail) (head : List ℕ) (m len : ℕ) (x y z : Traffic) → m ≤ len → Sends {E = LinkFail} (Ok u) head x y → PutsMuch {T = Unit {0}} (Err e) m y z → (written : List ℕ) × Puts written x z × IsFrontOf head len written
fails_behind u e head m len x y z few s q =
    let p : Puts head x y = record { coming = s.coming; received = s.received; sent = s.sent } in
    (head ++ q.0, puts_more head q.0 x y z p q.1, (q.0, omega (arith, q.2, few), length (head ++ q.0), sym (take_all (length (head ++ q.0)) (head ++ q.0) (omega arith))))

pub lost_at_head : (e : LinkFail) (header : Header) (a b : Option Traffic) → Tells (Sends {T = Unit {0}} (Err e) (spell (frames.Block header))) a b → Tells (Performs (acts.SendBlock header) inputs.Lost) a b
lost_at_head e header a b s = tells_map (Sends {T = Unit {0}} (Err e) (spell (frames.Block header))) (Performs (acts.SendBlock header) inputs.Lost) a b (λ x y. fails_at_head e (spell (frames.Block header)) header.length x y) s

pub starved_at_head : (e : LinkFail) (header : Header) (a b : Option Traffic) → Tells (Sends {T = Unit {0}} (Err e) (spell (frames.Block header))) a b → Tells (Performs (acts.SendBlock header) inputs.Starved) a b
starved_at_head e header a b s = tells_map (Sends {T = Unit {0}} (Err e) (spell (frames.Block header))) (Performs (acts.SendBlock header) inputs.Starved) a b (λ x y. fails_at_head e (spell (frames.Block header)) header.length x y) s

pub lost_behind : (u : Unit {0}) (e : LinkFail) (header : Header) (m : ℕ) (a b c : Option Traffic) → m ≤ header.length → Tells (Sends {E = LinkFail} (Ok u) (spell (frames.Block header))) a b → Tells (PutsMuch {T = Unit {0}} (Err e) m) b c → Tells (Performs (acts.SendBlock header) inputs.Lost) a c
lost_behind u e header m a b c few p q = tells_more (Sends {E = LinkFail} (Ok u) (spell (frames.Block header))) (PutsMuch {T = Unit {0}} (Err e) m) (Performs (acts.SendBlock header) inputs.Lost) a b c (λ x y z. fails_behind u e (spell (frames.Block header)) m header.length x y z few) p q

pub starved_behind : (u : Unit {0}) (e : LinkFail) (header : Header) (m : ℕ) (a b c : Option Traffic) → m ≤ header.length → Tells (Sends {E = LinkFail} (Ok u) (spell (frames.Block header))) a b → Tells (PutsMuch {T = Unit {0}} (Err e) m) b c → Tells (Performs (acts.SendBlock header) inputs.Starved) a c
starved_behind u e header m a b c few p q = tells_more (Sends {E = LinkFail} (Ok u) (spell (frames.Block header))) (PutsMuch {T = Unit {0}} (Err e) m) (Performs (acts.SendBlock header) inputs.Starved) a b c (λ x y z. fails_behind u e (spell (frames.Block header)) m header.length x y z few) p q

part_is : (answer : SendIn) → is_piece_answer answer ≡ true → (head : List ℕ) (len : ℕ) (w : List ℕ) → IsMuchBy answer len (length w) → IsBlockPart answer head len (head ++ w)
part_is inputs.Wrote is head len w much = (w, much, refl)
part_is inputs.Lost is head len w much = (w, much, length (head ++ w), sym (take_all (length (head ++ w)) (head ++ w) (omega arith)))
part_is inputs.Starved is head len w much = (w, much, length (head ++ w), sym (take_all (length (head ++ w)) (head ++ w) (omega arith)))
part_is (inputs.SourceLost false) is head len w much = (w, much, refl)
part_is (inputs.SourceLost true) is head len w much = cc
part_is answer is head len w much = cc

much_sum : (answer : SendIn) (first rest len n m k : ℕ) → n ≡ first → first + rest ≡ len → k ≡ n + m → IsMuchBy answer rest m → IsMuchBy answer len k
much_sum inputs.Wrote first rest len n m k e f h much = omega (arith, e, f, h, much)
much_sum answer first rest len n m k e f h much = omega (arith, e, f, h, much)

pub block_sent : (u v : Unit {0}) (header : Header) (answer : SendIn) (first rest : ℕ) (a b c d : Option Traffic) → is_piece_answer answer ≡ true → first + rest ≡ header.length → Tells (Sends {E = LinkFail} (Ok u) (spell (frames.Block header))) a b → Tells (PutsMuch {E = LinkFail} (Ok v) first) b c → Tells (PutsMuchBy answer rest) c d
    → Tells (Performs (acts.SendBlock header) answer) a d
block_sent u v header answer first rest a b c d is sum p q r =
    let head = spell (frames.Block header) in
    let Q : Traffic → Traffic → Type 0 = λ y z. (w : List ℕ) × Puts w y z × IsMuchBy answer header.length (length w) in
    let behind : Tells Q b d = tells_more (PutsMuch {E = LinkFail} (Ok v) first) (PutsMuchBy answer rest) Q b c d
    (λ y z t i j. (i.0 ++ j.0, puts_more i.0 j.0 y z t i.1 j.1, much_sum answer first rest header.length (length i.0) (length j.0) (length (i.0 ++ j.0)) i.2 sum (length-append i.0 j.0) j.2)) q r in
    tells_more (Sends {E = LinkFail} (Ok u) head) Q (Performs (acts.SendBlock header) answer) a b d
    (λ x y z s i. (head ++ i.0, puts_more head i.0 x y z record { coming = s.coming; received = s.received; sent = s.sent } i.1, part_is answer is head header.length i.0 i.2)) p behind
