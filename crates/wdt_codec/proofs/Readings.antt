-- A stream has one reading.
use Rattle.std.proofs.Common.{◌≡◌, ℕ, ◌<◌, List, [], ◌∷◌, ◌++◌, length, take, drop, refl, sym, ap, ◌∙◌, append_assoc, arith}
use Rattle.std.proofs.lemmas.List.{drop_at, take_at, length-append}
use Rattle.wdt_codec.specs.declared.frames.Frame.{Frame}
use Rattle.wdt_codec.specs.declared.frames.Frame.TheVariants as frames
use Rattle.wdt_codec.specs.Frames.{Fits, owed_by, spell, frame_at}
use Rattle.wdt_codec.specs.Stream.{Message, AreMessages, stream_of}
use Rattle.wdt_codec.proofs.Exact.{frame-exact}
use Rattle.wdt_codec.proofs.Field.{ok_is}

pub one-frame : (f g : Frame) (u v : List ℕ) → Fits f → Fits g → spell f ++ u ≡ spell g ++ v → (f ≡ g) × (u ≡ v)
one-frame f g u v hf hg e =
    let same = ok_is (f, u) (g, v) (sym (frame-exact.again f u hf) ∙ ap frame_at e ∙ frame-exact.again g v hg) in
    (ap (λ (p : Frame × List ℕ). p.0) same, ap (λ (p : Frame × List ℕ). p.1) same)

some_byte : (f : Frame) → 0 < length (spell f)
some_byte (frames.Settings s) = omega arith
some_byte (frames.Greeting m) = omega arith
some_byte (frames.Size files bytes) = omega arith
some_byte (frames.Block h) = omega arith
some_byte frames.Done = omega arith
some_byte (frames.Chunks fs) = omega arith
some_byte frames.Wait = omega arith
some_byte (frames.ErrMarks ms) = omega arith
some_byte (frames.Abort n) = omega arith

none_is : (m : Message) (rest : List ℕ) → [] ≡ (spell m.frame ++ m.raw) ++ rest → ⊥
none_is m rest e = absurd (omega (arith, some_byte m.frame, ap length e, length-append (spell m.frame ++ m.raw) rest, length-append (spell m.frame) m.raw))

same_parts : (a b u v : List ℕ) → length a ≡ length b → a ++ u ≡ b ++ v → (a ≡ b) × (u ≡ v)
same_parts a b u v len e =
    (sym (take_at a u (length a) refl) ∙ ap (take (length a)) e ∙ take_at b v (length a) (sym len), sym (drop_at a u (length a) refl) ∙ ap (drop (length a)) e ∙ drop_at b v (length a) (sym len))

pub one-stream : (ms ns : List Message) → AreMessages ms → AreMessages ns → stream_of ms ≡ stream_of ns → ms ≡ ns
one-stream [] [] a b e = refl
one-stream [] (n ∷ ns) a b e = absurd (none_is n (stream_of ns) e)
one-stream (m ∷ ms) [] a b e = absurd (none_is m (stream_of ms) (sym e))
one-stream (m ∷ ms) (n ∷ ns) a b e =
    let e' : spell m.frame ++ (m.raw ++ stream_of ms) ≡ spell n.frame ++ (n.raw ++ stream_of ns) = sym (append_assoc (spell m.frame) m.raw (stream_of ms)) ∙ e ∙ append_assoc (spell n.frame) n.raw (stream_of ns) in
    let f = one-frame m.frame n.frame (m.raw ++ stream_of ms) (n.raw ++ stream_of ns) a.0.fits b.0.fits e' in
    let len : length m.raw ≡ length n.raw = a.0.whole ∙ ap owed_by f.0 ∙ sym b.0.whole in
    let p = same_parts m.raw n.raw (stream_of ms) (stream_of ns) len f.1 in
    let head : m ≡ n = ap (λ (g : Frame). record m { frame = g }) f.0 ∙ ap (λ (r : List ℕ). record n { raw = r }) p.0 in
    ap (λ (x : Message). x ∷ ms) head ∙ ap (λ (xs : List Message). n ∷ xs) (one-stream ms ns a.1 b.1 p.1)
