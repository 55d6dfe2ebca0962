-- The queue rises as the plan does, so its first block is its least.
use Rattle.std.proofs.Common.{◌≡◌, ◌⊎◌, ◌||◌, List, [], ◌∷◌, filter, Bool, true, false, cond, Some, subst, sym, ◌∙◌, refl, inl, inr}
use Rattle.std.specs.List.{list_all}
use Rattle.std.proofs.lemmas.Bool.{and_from, and_parts}
use Rattle.std.proofs.lemmas.Option.{same_Some}
use Rattle.wdt_claims.specs.Blocks.{is_same}
use Rattle.wdt_units.specs.declared.blocks.Block.{Block}
use Rattle.wdt_claims.proofs.Shared.{one_block}
use Rattle.wdt_tree.specs.Rest.{is_earlier, is_rising}
use Rattle.wdt_claims.specs.Places.{is_among, is_queued}
use Rattle.wdt_sender_fsm.specs.declared.events.SendEvent.{SendEvent}
use Rattle.wdt_sender_fsm.proofs.lemmas.Histories.{false_true}
use Rattle.wdt_sender_fsm.specs.Places.{claims_of, planned_now-is, queue_of, queued, least_of}
use Rattle.std.specs.Prelude.{ℕ}

pub filter_all : (p q : Block → Bool) (xs : List Block) → list_all q xs ≡ true → list_all q (filter p xs) ≡ true
filter_all p q [] all = refl
filter_all p q (x ∷ xs) all = let parts = and_parts (q x) (list_all q xs) all in go (p x) parts.0 (filter_all p q xs parts.1) where
  go : (b : Bool) → q x ≡ true → list_all q (filter p xs) ≡ true → list_all q (cond b (x ∷ filter p xs) (filter p xs)) ≡ true
  go true here rest = and_from (q x) (list_all q (filter p xs)) here rest
  go false here rest = rest

filter_rises : (p : Block → Bool) (xs : List Block) → is_rising xs ≡ true → is_rising (filter p xs) ≡ true
filter_rises p [] rising = refl
filter_rises p (x ∷ xs) rising =
    let parts = and_parts (list_all (is_earlier x) xs) (is_rising xs) rising in
    go (p x) (filter_all p (is_earlier x) xs parts.0) (filter_rises p xs parts.1) where
      go : (b : Bool) → list_all (is_earlier x) (filter p xs) ≡ true → is_rising (filter p xs) ≡ true → is_rising (cond b (x ∷ filter p xs) (filter p xs)) ≡ true
      go true here rest = and_from (list_all (is_earlier x) (filter p xs)) (is_rising (filter p xs)) here rest
      go false here rest = rest

pub queue_rises : (n : ℕ) (planned : List Block) (h : List SendEvent) → is_rising planned ≡ true → is_rising (queued n planned h) ≡ true
queue_rises n planned h rising =
    subst (λ (p : List Block). is_rising (queue_of p (claims_of n h)) ≡ true) (sym (planned_now-is planned h)) (filter_rises (is_queued (claims_of n h)) planned rising)

all_among : (q : Block → Bool) (xs : List Block) (c : Block) → list_all q xs ≡ true → is_among xs c ≡ true → q c ≡ true
all_among q [] c all among = false_true among
all_among q (x ∷ xs) c all among =
    let parts = and_parts (q x) (list_all q xs) all in go (is_same c x) refl parts.0 (all_among q xs c parts.1) among where
      go : (same : Bool) → is_same c x ≡ same → q x ≡ true → (is_among xs c ≡ true → q c ≡ true) → (same || is_among xs c) ≡ true → q c ≡ true
      go true e here rest a = subst (λ (y : Block). q y ≡ true) (sym (one_block c x e)) here
      go false e here rest a = rest a

least_first : (xs : List Block) (b c : Block) → is_rising xs ≡ true → least_of xs ≡ Some b → is_among xs c ≡ true → (c ≡ b) ⊎ (is_earlier b c ≡ true)
least_first [] b c rising least among = false_true among
least_first (x ∷ xs) b c rising least among =
    let parts = and_parts (list_all (is_earlier x) xs) (is_rising xs) rising in
    go (is_same c x) refl (same_Some x b least) (all_among (is_earlier x) xs c parts.0) among where
      go : (same : Bool) → is_same c x ≡ same → x ≡ b → (is_among xs c ≡ true → is_earlier x c ≡ true) → (same || is_among xs c) ≡ true → (c ≡ b) ⊎ (is_earlier b c ≡ true)
      go true e is later a = inl (one_block c x e ∙ is)
      go false e is later a = inr (subst (λ (y : Block). is_earlier y c ≡ true) is (later a))

-- the block that a lane takes is the least that waits
pub takes_least : (n : ℕ) (planned : List Block) (h : List SendEvent) (b c : Block) → is_rising planned ≡ true → least_of (queued n planned h) ≡ Some b → is_among (queued n planned h) c ≡ true → (c ≡ b) ⊎ (is_earlier b c ≡ true)
takes_least n planned h b c rising least among = least_first (queued n planned h) b c (queue_rises n planned h rising) least among
