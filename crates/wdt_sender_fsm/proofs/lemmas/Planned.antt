-- The plan is the rest of the tree: what the destination lacks, block for block.
use Rattle.std.proofs.Common.{◌≡◌, ℕ, ◌+◌, ◌≤◌, ◌^◌, ◌&&◌, nat_lt, nat_le, List, [], ◌∷◌, length, true, Option, Some, None, IfSome, subst, sym, arith, refl}
use Rattle.std.specs.List.{list_all}
use Rattle.std.proofs.lemmas.Bool.{and_from, le-leb, lt-ltb}
use Rattle.wdt_units.specs.Have.{PlainSpan, HaveFile}
use Rattle.wdt_units.specs.declared.blocks.Block.{Block}
use Rattle.wdt_codec.specs.Chunks.{FitSpans, FitFiles}
use Rattle.wdt_ranges.specs.Spans.{end_of, is_span, are_apart_from}
use Rattle.wdt_rest.specs.RestOf.{IsHave, has_set}
use Rattle.wdt_rest.proofs.Shared.{list_is_rest}
use Rattle.wdt_tree.specs.Rest.{IsRest}
use Rattle.wdt_sender_fsm.specs.PlainSender.{PlainSender, blocks_of, listed_blocks}
use Rattle.wdt_sender_fsm.specs.Sender.{IsAccepted, IsSender, plan_of}
use Rattle.wdt_sender_fsm.proofs.lemmas.Lists.{ordered}

-- ---- what is told of a destination is a have

apart : (size least : ℕ) (ss : List PlainSpan) → size ≤ 1099511627776 → FitSpans size least ss → are_apart_from least ss ≡ true
apart size least [] small fit = refl
apart size least (s ∷ ss) small fit =
    and_from (nat_le least s.offset && is_span s) (are_apart_from (end_of s + 1) ss)
    (and_from (nat_le least s.offset) (is_span s) (le-leb least s.offset fit.0)
    (and_from (nat_lt 0 s.count) (nat_le (end_of s) (2 ^ 40)) (lt-ltb 0 s.count (omega (arith, fit.1))) (le-leb (end_of s) (2 ^ 40) (omega (arith, fit.2, small)))))
    (apart size (s.offset + s.count + 1) ss small fit.3)

sets : (used : ℕ) (files : List HaveFile) → FitFiles used files → list_all has_set files ≡ true
sets used [] fit = refl
sets used (file ∷ files) fit =
    and_from (has_set file) (list_all has_set files) (apart file.size 0 file.spans fit.0.size fit.0.spans) (sets (used + length file.spans) files fit.1)

is_have : (s : PlainSender) (have : List HaveFile) → IsAccepted s.manifest s.block have → IsHave have
is_have s have is = record { rising = ordered have is.ordered; sets = sets 0 have is.fits.files }

-- ---- the plan

pub plan_is_rest : (s : PlainSender) → IsSender s → 1 ≤ s.block → IfSome s.have (λ have. IsRest s.manifest have s.block (blocks_of s))
plan_is_rest s is some = go s.have is.plan.planned is.plan.accepted where
  go : (o : Option (List HaveFile)) → s.planned ≡ plan_of s.manifest s.block o → IfSome o (IsAccepted s.manifest s.block) → IfSome o (λ have. IsRest s.manifest have s.block (blocks_of s))
  go None planned accepted = tt
  go (Some have) planned accepted =
      subst (λ (p : Option (List Block)). IsRest s.manifest have s.block (listed_blocks p)) (sym planned) (list_is_rest s.manifest have s.block (omega (arith, some)) (is_have s have accepted))
