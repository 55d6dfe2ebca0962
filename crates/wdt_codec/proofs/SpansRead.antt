-- Spans that were read are a set of positions.
use Rattle.std.proofs.Common.{◌≡◌, ℕ, ◌+◌, ◌*◌, ◌≤◌, true, List, [], ◌∷◌, length, Ok, refl, arith}
use Rattle.std.specs.Prelude.{nat_le, nat_lt, ◌&&◌}
use Rattle.std.proofs.lemmas.Bool.{and_from, le-leb, lt-ltb}
use Rattle.wdt_units.specs.Have.{PlainSpan}
use Rattle.wdt_ranges.specs.Spans.{end_of, is_span, are_apart_from, are_apart}
use Rattle.wdt_codec.specs.Chunks.{FitSpans, spans_at}
use Rattle.wdt_codec.proofs.Field.{AreBytes}
use Rattle.wdt_codec.proofs.HaveExact.{spans-exact}

apart_from : (size least : ℕ) (ss : List PlainSpan) → size ≤ 1099511627776 → FitSpans size least ss → are_apart_from least ss ≡ true
apart_from size least [] small f = refl
apart_from size least (s ∷ ss) small f =
    let span : is_span s ≡ true = and_from (nat_lt 0 s.count) (nat_le (end_of s) 1099511627776) (lt-ltb 0 s.count f.1) (le-leb (end_of s) 1099511627776 (omega (arith, f.2))) in
    and_from (nat_le least s.offset && is_span s) _ (and_from (nat_le least s.offset) (is_span s) (le-leb least s.offset f.0) span) (apart_from size (s.offset + s.count + 1) ss small f.3)

pub spans-apart : (size n : ℕ) (bytes : List ℕ) (ss : List PlainSpan) (rest : List ℕ) → size ≤ 1099511627776 → 2 * n ≤ size + 1 → AreBytes bytes → spans_at size n 0 bytes ≡ Ok (ss, rest)
    → (length ss ≡ n) × (are_apart ss ≡ true)
spans-apart size n bytes ss rest small room fine e =
    let r = (spans-exact size n (omega arith) room).got bytes ss rest fine e in
    (r.0.0, apart_from size 0 ss small r.0.1)
