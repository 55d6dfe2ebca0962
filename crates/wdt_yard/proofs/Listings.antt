-- What the destination has, told first or again.
use Rattle.std.proofs.Common.{◌≡◌, ℕ, List, Option, Some, None, refl, ap, ◌∙◌}
use Rattle.std.specs.Option.{option_map}
use Rattle.wdt_units.specs.Have.{HaveFile}
use Rattle.wdt_units.specs.declared.numbers.Lane.{Lane}
use Rattle.wdt_sender_fsm.specs.Chunks.{different_at, refusal, unordered_at}
use Rattle.wdt_sender_fsm.specs.PlainSender.{PlainSender}
use Rattle.wdt_sender_fsm.specs.Turn.{listed, listed_after, listed_again, listed_in, planned_by}

-- nothing was told before
pub none_told : (o : Option (List HaveFile)) (have : List HaveFile) → None ≡ option_map (λ first. different_at first have) o → o ≡ None
none_told None have e = refl
none_told (Some first) have e = cc

pub listed_once : (s : PlainSender) (l : Lane) (have : List HaveFile) → unordered_at have ≡ None → s.have ≡ None → listed s l have ≡ planned_by s l have (refusal s.manifest have s.block)
listed_once s l have order told = ap (listed_in s l have) order ∙ ap (listed_after s l have) told

after_told : (s : PlainSender) (l : Lane) (have : List HaveFile) (o : Option (List HaveFile)) (d : Option ℕ) → Some d ≡ option_map (λ first. different_at first have) o → listed_after s l have o ≡ listed_again s l have d
after_told s l have None d e = cc
after_told s l have (Some first) d e = ap (listed_again s l have) (same d (different_at first have) e) where
  same : (a b : Option ℕ) → Some a ≡ Some b → b ≡ a
  same a b e = cc

pub listed_twice : (s : PlainSender) (l : Lane) (have : List HaveFile) (d : Option ℕ) → unordered_at have ≡ None → Some d ≡ option_map (λ first. different_at first have) s.have → listed s l have ≡ listed_again s l have d
listed_twice s l have d order told = ap (listed_in s l have) order ∙ after_told s l have s.have d told

pub listed_wrong : (s : PlainSender) (l : Lane) (have : List HaveFile) (at : ℕ) → unordered_at have ≡ Some at → listed s l have ≡ listed_in s l have (Some at)
listed_wrong s l have at e = ap (listed_in s l have) e
