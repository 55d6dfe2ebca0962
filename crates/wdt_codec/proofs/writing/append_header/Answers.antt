use Rattle.std.proofs.Common.{◌≡◌, ℕ, List, ◌∷◌, ◌++◌, length, ◌∙◌, ap, arith}
use Rattle.byteorder.specs.Endian.{big_bytes}
use Rattle.wdt_units.specs.declared.blocks.Header.{Header}
use Rattle.wdt_units.proofs.Shared.{lawful}
use Rattle.wdt_codec.specs.Frames.{spell_header}
use Rattle.wdt_codec.proofs.writing.append_header.Goals as goal

-- what stands behind the path
abbrev part : Header → List ℕ
part h = big_bytes 8 h.size ++ (big_bytes 8 h.stamp ++ (big_bytes 8 h.offset ++ big_bytes 4 h.length))

joined : (old new front path back : List ℕ) (h : Header) → new ≡ old ++ (front ++ (path ++ back)) → front ≡ 0x44 ∷ big_bytes 2 (length path) → path ≡ h.path → back ≡ part h → new ≡ old ++ 0x44 ∷ spell_header h
joined old new front path back h all f p b =
    all ∙ ap (λ w. old ++ (w ++ (path ++ back))) f ∙ ap (λ w. old ++ (0x44 ∷ big_bytes 2 (length path) ++ (path ++ w))) b
    ∙ ap (λ w. old ++ (0x44 ∷ big_bytes 2 (length w) ++ (w ++ part h))) p

pub overflow_cast-path : goal.overflow_cast-path
overflow_cast-path c = omega (arith, ((lawful c.bytes-path.result.now).0 (rw c.bytes-path.ensures.value c.bytes-path.ensures.lawful)).most)

pub returns-in-Ok : goal.returns-in-Ok
returns-in-Ok c = record {
  spelled = joined _ _ _ _ _ c.args.header.now c.in-Ok.ensures.spelled c.front_text-front.ensures c.bytes-path.ensures.value c.part_text.ensures;
  unchanged = tt;
}
