-- What the receiving half makes of a block and of a stream of messages.
use Rattle.std.proofs.Common.{◌≡◌, ℕ, ◌+◌, ◌-◌, ◌<◌, ◌≤◌, ◌==◌, nat_lt, Bool, true, false, if◌then◌else◌, List, [], ◌∷◌, ◌++◌, length, take, drop, map, option_and_then, Result, Ok, Err, Option, Some, None, refl, sym, ap, ◌∙◌, subst, append_assoc, arith}
use Rattle.std.proofs.lemmas.Bool.Decides.{nat_tests}
use Rattle.std.proofs.lemmas.List.{length-append, map-append}
use Rattle.std.proofs.Math.Seq.{take-append_seam, drop-append_seam}
use Rattle.wdt_units.specs.Tree.{File}
use Rattle.wdt_units.specs.declared.blocks.Header.{Header}
use Rattle.wdt_tree.specs.Shown.{shown}
use Rattle.wdt_tree.specs.declared.entry.Plain.{Plain}
use Rattle.wdt_codec.specs.declared.frames.Frame.{Frame}
use Rattle.wdt_codec.specs.declared.frames.Frame.TheVariants as frames
use Rattle.wdt_codec.specs.Frames.{owed_by, spell}
use Rattle.wdt_codec.specs.declared.fails.NextFail.{NextFail}
use Rattle.wdt_codec.specs.declared.fails.NextFail.TheVariants as next_fails
use Rattle.wdt_codec.specs.Grammar.{IsFrame, IsReason, Finds, with_rest}
use Rattle.wdt_codec.specs.Stream.{Held, Message, IsMessage, AreMessages, stream_of}
use Rattle.wdt_rehearsal.specs.Received.{Landing, IsFileFor, Steps, Took, after_block, after_frame, at_stage, begun_file, grown, grown_file, is_next, progress, received, with_block, with_first}
use Rattle.wdt_rehearsal.specs.declared.receiver.Receiver.{Receiver}
use Rattle.wdt_rehearsal.specs.declared.receiver.Stage.TheVariants as stages
use Rattle.wdt_rehearsal.specs.declared.receiver.TakeFail.{TakeFail}
use Rattle.wdt_rehearsal.specs.declared.receiver.TakeFail.TheVariants as fails

if-true : {A : Type 0} (b : Bool) (x y : A) → b ≡ true → (if b then x else y) ≡ x
if-true true x y h = refl
if-true false x y h = absurd cc

if-false : {A : Type 0} (b : Bool) (x y : A) → b ≡ false → (if b then x else y) ≡ y
if-false true x y h = absurd cc
if-false false x y h = refl

not-zero : (n : ℕ) → 0 < n → (n == 0) ≡ false
not-zero n h = grind (arith, nat_tests)

is-zero : (n : ℕ) → n ≡ 0 → (n == 0) ≡ true
is-zero n h = grind (arith, nat_tests)

not-less : (m n : ℕ) → n ≤ m → nat_lt m n ≡ false
not-less m n h = grind (arith, nat_tests)

is-less : (m n : ℕ) → m < n → nat_lt m n ≡ true
is-less m n h = grind (arith, nat_tests)

-- ---- the file of a block

pub grown-last : (files : List File) (file : File) (h : Header) (raw : List ℕ) → is_next file h ≡ true → grown (files ++ file ∷ []) h raw ≡ Some (files ++ grown_file file raw ∷ [])
grown-last [] file h raw next = if-true (is_next file h) (Some (grown_file file raw ∷ [])) None next
grown-last (f ∷ []) file h raw next = ap (with_first f) (grown-last [] file h raw next)
grown-last (f ∷ g ∷ files) file h raw next = ap (with_first f) (grown-last (g ∷ files) file h raw next)

grown-other : (files : List File) (file : File) (h : Header) (raw : List ℕ) → is_next file h ≡ false → grown (files ++ file ∷ []) h raw ≡ None
grown-other [] file h raw next = if-false (is_next file h) (Some (grown_file file raw ∷ [])) None next
grown-other (f ∷ []) file h raw next = ap (with_first f) (grown-other [] file h raw next)
grown-other (f ∷ g ∷ files) file h raw next = ap (with_first f) (grown-other (g ∷ files) file h raw next)

with-grown : (landed : List File) (h : Header) (raw : List ℕ) → 0 < h.offset → with_block landed h raw ≡ grown landed h raw
with-grown landed h raw later = if-false (h.offset == 0) (Some (landed ++ begun_file h raw ∷ [])) (grown landed h raw) (not-zero h.offset later)

refused-file : (found : Option (List File)) (landed : List File) (raw : List ℕ) (fail : TakeFail) → found ≡ None → IsFileFor found (Err fail) landed raw
refused-file None landed raw fail e = tt
refused-file (Some files) landed raw fail e = absurd cc

pub file-next : (old new : List Plain) (file : Plain) (h : Header) (raw : List ℕ) → 0 < h.offset → old ≡ new ++ file ∷ [] → is_next (shown file) h ≡ true
    → IsFileFor (with_block (map shown old) h raw) (Ok file) (map shown new) raw
file-next old new file h raw later is next =
    subst (λ (found : Option (List File)). IsFileFor found (Ok file) (map shown new) raw)
    (sym (with-grown (map shown old) h raw later ∙ ap (λ (files : List File). grown files h raw) (ap (map shown) is ∙ map-append shown new (file ∷ [])) ∙ grown-last (map shown new) (shown file) h raw next)) refl

pub file-other : (old new : List Plain) (file : Plain) (h : Header) (raw : List ℕ) (landed : List File) → 0 < h.offset → old ≡ new ++ file ∷ [] → is_next (shown file) h ≡ false
    → IsFileFor (with_block (map shown old) h raw) (Err fails.Unexpected) landed raw
file-other old new file h raw landed later is next =
    refused-file (with_block (map shown old) h raw) landed raw fails.Unexpected
    (with-grown (map shown old) h raw later ∙ ap (λ (files : List File). grown files h raw) (ap (map shown) is ∙ map-append shown new (file ∷ [])) ∙ grown-other (map shown new) (shown file) h raw next)

-- there is no file to go on with
pub file-none : (old : List Plain) (h : Header) (raw : List ℕ) (landed : List File) → 0 < h.offset → old ≡ [] → IsFileFor (with_block (map shown old) h raw) (Err fails.Unexpected) landed raw
file-none old h raw landed later none =
    refused-file (with_block (map shown old) h raw) landed raw fails.Unexpected
    (with-grown (map shown old) h raw later ∙ ap (λ (files : List Plain). grown (map shown files) h raw) none)

-- ---- what a block leaves

pub after-first : (files bytes : ℕ) (landed : List File) (h : Header) (raw : List ℕ) → h.length ≤ bytes → h.offset ≡ 0 → 0 < files
    → after_block files bytes landed h raw ≡ Some (record { stage = stages.Blocks (files - 1) (bytes - h.length); landed = landed ++ begun_file h raw ∷ [] })
after-first files bytes landed h raw fits first some =
    if-false (nat_lt bytes h.length) None _ (not-less bytes h.length fits)
    ∙ if-true (h.offset == 0) _ _ (is-zero h.offset first)
    ∙ if-false (files == 0) None _ (not-zero files some)

pub after-next : (files bytes : ℕ) (landed : List File) (file : File) (h : Header) (raw : List ℕ) → h.length ≤ bytes → 0 < h.offset → is_next file h ≡ true
    → after_block files bytes (landed ++ file ∷ []) h raw ≡ Some (record { stage = stages.Blocks files (bytes - h.length); landed = landed ++ grown_file file raw ∷ [] })
after-next files bytes landed file h raw fits later next =
    if-false (nat_lt bytes h.length) None _ (not-less bytes h.length fits)
    ∙ if-false (h.offset == 0) _ _ (not-zero h.offset later)
    ∙ ap (at_stage (stages.Blocks files (bytes - h.length))) (grown-last landed file h raw next)

-- ---- a stream of messages

-- no spelling is empty
spell-some : (f : Frame) → 1 ≤ length (spell f)
spell-some (frames.Settings s) = omega arith
spell-some (frames.Greeting m) = omega arith
spell-some (frames.Size files bytes) = omega arith
spell-some (frames.Block h) = omega arith
spell-some frames.Done = omega arith
spell-some (frames.Chunks files) = omega arith
spell-some frames.Wait = omega arith
spell-some (frames.ErrMarks ms) = omega arith
spell-some (frames.Abort code) = omega arith

-- the messages that are left, where some were taken
pub record Leaves (ms : List Message) (old : Landing) (untaken : List ℕ) (now : Landing) : Type 0 where
  pub rest : List Message
  pub are : AreMessages rest
  pub spelled : untaken ≡ stream_of rest
  pub same : received ms old ≡ received rest now

-- a frame and what follows it are the first message's
record IsNext (ms : List Message) (f : Frame) (rest : List ℕ) : Type 0 where
  m : Message
  others : List Message
  is : ms ≡ m ∷ others
  message : IsMessage m
  are : AreMessages others
  frame : f ≡ m.frame
  left : rest ≡ m.raw ++ stream_of others

no-frame : (f : Frame) (rest : List ℕ) → [] ≡ spell f ++ rest → ⊥
no-frame f rest e = let long : 0 ≡ length (spell f) + length rest = ap length e ∙ length-append (spell f) rest in omega (arith, spell-some f, long)

next-is : (ms : List Message) (untaken rest : List ℕ) (f : Frame) → AreMessages ms → untaken ≡ stream_of ms → IsFrame untaken f rest
    → ((g : Frame) (more : List ℕ) → IsFrame untaken g more → (f ≡ g) × (rest ≡ more)) → IsNext ms f rest
next-is [] untaken rest f are spelled found only = absurd (no-frame f rest (sym spelled ∙ found.1))
next-is (m ∷ others) untaken rest f are spelled found only =
    let same = only m.frame (m.raw ++ stream_of others) (are.0.fits, spelled ∙ append_assoc (spell m.frame) m.raw (stream_of others)) in
    record { m = m; others = others; is = refl; message = are.0; are = are.1; frame = same.0; left = same.1 }

-- what a step along the first message gives
next-stepped : (u : Result Unit TakeFail) (m : Message) (others : List Message) (f : Frame) (rest : List ℕ) (now new : Landing) → IsMessage m → f ≡ m.frame → rest ≡ m.raw ++ stream_of others
    → (owed_by f ≤ length rest → Steps (after_frame now.stage now.landed f (take (owed_by f) rest)) u new) → Steps (after_frame now.stage now.landed m.frame m.raw) u new
next-stepped u m others f rest now new message frame left stepped =
    let long : owed_by f ≡ length m.raw = ap owed_by frame ∙ sym message.whole in
    let whole : length rest ≡ length m.raw + length (stream_of others) = ap length left ∙ length-append m.raw (stream_of others) in
    let raw : take (owed_by f) rest ≡ m.raw = ap (λ k. take k rest) long ∙ ap (take (length m.raw)) left ∙ take-append_seam m.raw (stream_of others) in
    let along : after_frame now.stage now.landed f (take (owed_by f) rest) ≡ after_frame now.stage now.landed m.frame m.raw = ap (λ (g : Frame). after_frame now.stage now.landed g (take (owed_by f) rest)) frame ∙ ap (after_frame now.stage now.landed m.frame) raw in
    subst (λ (o : Option Landing). Steps o u new) along (stepped (omega (arith, long, whole)))

step-some : (found : Option Landing) (u : Unit {0}) (new : Landing) → Steps found (Ok u) new → found ≡ Some new
step-some None u new steps = absurd steps
step-some (Some after) u new steps = ap Some (sym steps)

pub leaves-step : (ms : List Message) (old now new : Landing) (untaken rest left : List ℕ) (f : Frame) (u : Unit {0}) → Leaves ms old untaken now → IsFrame untaken f rest
    → ((g : Frame) (more : List ℕ) → IsFrame untaken g more → (f ≡ g) × (rest ≡ more))
    → (owed_by f ≤ length rest → Steps (after_frame now.stage now.landed f (take (owed_by f) rest)) (Ok u) new) → left ≡ drop (owed_by f) rest → Leaves ms old left new
leaves-step ms old now new untaken rest left f u so_far found only stepped is =
    let n = next-is so_far.rest untaken rest f so_far.are so_far.spelled found only in
    let long : owed_by f ≡ length n.m.raw = ap owed_by n.frame ∙ sym n.message.whole in
    let after : after_frame now.stage now.landed n.m.frame n.m.raw ≡ Some new = step-some _ u new (next-stepped (Ok u) n.m n.others f rest now new n.message n.frame n.left stepped) in
    record {
      rest = n.others;
      are = n.are;
      spelled = is ∙ ap (λ k. drop k rest) long ∙ ap (drop (length n.m.raw)) n.left ∙ drop-append_seam n.m.raw (stream_of n.others);
      same = so_far.same ∙ ap (λ (xs : List Message). received xs now) n.is ∙ ap (option_and_then (received n.others)) after;
    }

took-no-room : (found : Option Landing) (new : Receiver) → Took found (Err fails.NoMemory) new
took-no-room None new = tt
took-no-room (Some after) new = tt

took-fail : (others : List Message) (found : Option Landing) (fail : TakeFail) (x : Landing) (new : Receiver) → Steps found (Err fail) x → Took (option_and_then (received others) found) (Err fail) new
took-fail others None fail x new steps = tt
took-fail others (Some after) fails.NoMemory x new steps = took-no-room (received others after) new
took-fail others (Some after) fails.Unexpected x new steps = absurd steps

-- a message that may not come, or want of memory
pub took-step : (ms : List Message) (old now : Landing) (x : Landing) (untaken rest : List ℕ) (f : Frame) (fail : TakeFail) (new : Receiver) → Leaves ms old untaken now → IsFrame untaken f rest
    → ((g : Frame) (more : List ℕ) → IsFrame untaken g more → (f ≡ g) × (rest ≡ more))
    → (owed_by f ≤ length rest → Steps (after_frame now.stage now.landed f (take (owed_by f) rest)) (Err fail) x) → Took (received ms old) (Err fail) new
took-step ms old now x untaken rest f fail new so_far found only stepped =
    let n = next-is so_far.rest untaken rest f so_far.are so_far.spelled found only in
    subst (λ (o : Option Landing). Took o (Err fail) new) (sym (so_far.same ∙ ap (λ (xs : List Message). received xs now) n.is))
    (took-fail n.others _ fail x new (next-stepped (Err fail) n.m n.others f rest now x n.message n.frame n.left stepped))

-- where no frame was found and memory didn't run out, no message is left
none-left : (rest : List Message) (untaken after : List ℕ) (e : NextFail) → (e ≡ next_fails.NoMemory → ⊥) → AreMessages rest → untaken ≡ stream_of rest
    → ((g : Frame) (more : List ℕ) → IsFrame untaken g more → Finds (with_rest after (Err e)) g more) → rest ≡ []
none-left [] untaken after e other are spelled finds = refl
none-left (m ∷ others) untaken after e other are spelled finds = absurd (go e other (finds m.frame (m.raw ++ stream_of others) (are.0.fits, spelled ∙ append_assoc (spell m.frame) m.raw (stream_of others))))
  where
    go : (e : NextFail) → (e ≡ next_fails.NoMemory → ⊥) → Finds (with_rest after (Err e)) m.frame (m.raw ++ stream_of others) → ⊥
    go next_fails.NoMemory other h = other refl
    go next_fails.NotYet other h = h
    go (next_fails.Bad at) other h = h

-- no more bytes have come
pub took-end : (ms : List Message) (old : Landing) (untaken after : List ℕ) (e : NextFail) (u : Unit {0}) (new : Receiver) → e ≡ next_fails.NotYet → Leaves ms old untaken (progress new)
    → ((g : Frame) (more : List ℕ) → IsFrame untaken g more → Finds (with_rest after (Err e)) g more) → new.reader.untaken ≡ untaken → new.reader.owed ≡ 0 → Took (received ms old) (Ok u) new
took-end ms old untaken after e u new is so_far finds kept none =
    let over : so_far.rest ≡ [] = none-left so_far.rest untaken after e (λ h. cc) so_far.are so_far.spelled finds in
    let untaken-is : new.reader.untaken ≡ [] = kept ∙ so_far.spelled ∙ ap stream_of over in
    let first : ◌≡◌ {A = Held} new.reader (record { untaken = new.reader.untaken; owed = 0 }) = ap (λ (k : ℕ). let r : Held = record { untaken = new.reader.untaken; owed = k } in r) none in
    subst (λ (o : Option Landing). Took o (Ok u) new) (sym (so_far.same ∙ ap (λ (xs : List Message). received xs (progress new)) over))
    (refl, first ∙ ap (λ (xs : List ℕ). let r : Held = record { untaken = xs; owed = 0 } in r) untaken-is)

-- bytes that are no message's
pub took-bad : (ms : List Message) (old now : Landing) (untaken after : List ℕ) (e : NextFail) (at : ℕ) (new : Receiver) → e ≡ next_fails.Bad at → Leaves ms old untaken now
    → ((g : Frame) (more : List ℕ) → IsFrame untaken g more → Finds (with_rest after (Err e)) g more) → IsReason untaken e → Took (received ms old) (Err fails.Unexpected) new
took-bad ms old now untaken after e at new is so_far finds reason =
    let over : so_far.rest ≡ [] = none-left so_far.rest untaken after e (λ h. cc) so_far.are so_far.spelled finds in
    let none : length untaken ≡ 0 = ap length so_far.spelled ∙ ap (λ (xs : List Message). length (stream_of xs)) over in
    let bad = subst (IsReason untaken) is reason in
    absurd (omega (arith, bad.within, none))
