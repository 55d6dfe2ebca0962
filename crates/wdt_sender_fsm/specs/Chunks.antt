-- What a destination has, as it is told: its order, how it differs from what was told before, and
-- why the tree isn't sent to it.
use Rattle.std.specs.Prelude.{ℕ, ◌+◌, ◌==◌, ◌&&◌, Bool, true, false, if◌then◌else◌, List, [], ◌∷◌, Option, Some, None}
use Rattle.std.specs.Option.{option_map}
use Rattle.std.specs.Str.{bytes_eq}
use Rattle.wdt_units.specs.Have.{PlainSpan, HaveFile}
use Rattle.wdt_units.specs.Tree.{is_before}
use Rattle.wdt_tree.specs.declared.entry.Entry.{Entry}
use Rattle.wdt_rest.specs.Fitting.{first_unfit}
use Rattle.wdt_rest.specs.Refusal.{refusal_after_as, refusal_as, stale_as, too_many_as}
use Rattle.wdt_sender_fsm.specs.declared.answers.RefusedKind.{RefusedKind}
use Rattle.wdt_sender_fsm.specs.declared.answers.RefusedKind.TheVariants.{Stale, TooManyBlocks}

-- ---- its order

-- the least place from here on whose path doesn't come behind the one before it
abbrev pub unordered_from : ℕ → List ℕ → List HaveFile → Option ℕ
unordered_from at before [] = None
unordered_from at before (file ∷ files) = if is_before before file.path then unordered_from (at + 1) file.path files else Some at

-- the least place, counted from 0, whose path doesn't come behind the one before it
abbrev pub unordered_at : List HaveFile → Option ℕ
unordered_at [] = None
unordered_at (file ∷ files) = unordered_from 1 file.path files

-- ---- how it differs

-- two spans are one
abbrev pub is_same_span : PlainSpan → PlainSpan → Bool
is_same_span a b = a.offset == b.offset && a.count == b.count

-- two lists of spans are one
abbrev pub are_same_spans : List PlainSpan → List PlainSpan → Bool
are_same_spans [] [] = true
are_same_spans (a ∷ xs) (b ∷ ys) = is_same_span a b && are_same_spans xs ys
are_same_spans _ _ = false

-- the same is told of one file: path, size, stamp and spans
abbrev pub is_same_file : HaveFile → HaveFile → Bool
is_same_file a b = bytes_eq a.path b.path && a.size == b.size && a.stamp == b.stamp && are_same_spans a.spans b.spans

-- the least place from here on at which two lists differ: a missing file is a difference
abbrev pub different_from : ℕ → List HaveFile → List HaveFile → Option ℕ
different_from at [] [] = None
different_from at (a ∷ xs) (b ∷ ys) = if is_same_file a b then different_from (at + 1) xs ys else Some at
different_from at _ _ = Some at

-- the least place, counted from 0, at which two lists differ
abbrev pub different_at : List HaveFile → List HaveFile → Option ℕ
different_at first later = different_from 0 first later

-- ---- why the tree isn't sent

-- what is said of a file that isn't
abbrev pub stale_of : List Entry → HaveFile → RefusedKind
stale_of = stale_as Stale

-- the first file that isn't one of the tree
abbrev pub first_stale : List Entry → List HaveFile → Option RefusedKind
first_stale entries have = option_map (stale_of entries) (first_unfit entries have)

-- more blocks than a plan may have are too many
abbrev pub too_many : ℕ → Option RefusedKind
too_many = too_many_as TooManyBlocks

-- the one thing for which the tree isn't sent, if any: a file that isn't one of the tree, else too many
-- blocks
abbrev pub refusal_after : List Entry → List HaveFile → ℕ → Option RefusedKind → Option RefusedKind
refusal_after = refusal_after_as TooManyBlocks

-- why the tree isn't sent to a destination that has so much, if so
abbrev pub refusal : List Entry → List HaveFile → ℕ → Option RefusedKind
refusal = refusal_as Stale TooManyBlocks
