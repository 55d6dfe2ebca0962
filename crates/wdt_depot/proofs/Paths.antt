-- The index of places by their paths.
use Rattle.std.proofs.Common.{◌≡◌, ℕ, suc, ◌<◌, List, Option, Some, None, Bool, true, false, refl, sym, ◌∙◌, subst, arith}
use Rattle.std.specs.Prelude.{if◌then◌else◌, IsSome, OnErr, Result, Ok, Err, String}
use Rattle.std.specs.Global.{Global}
use Rattle.std.specs.BTreeMap.{BTreeMap, IsUnchanged, UpdatesBy}
use Rattle.std.specs.Map.{lookup}
use Rattle.std.specs.Cmp.Lexicographic.{slice_cmp}
use Rattle.std.specs.Ordering.{is_eq, nat_cmp}
use Rattle.std.specs.Str.{bytes_eq}
use Rattle.std.specs.String.{string_bytes, string_cmp}
use Rattle.std.proofs.lemmas.Map.Text.{btree_map_updates_text}
use Rattle.std.proofs.lemmas.Slice.Eq.{bytes_eq-Decides}
use Rattle.wdt_depot.specs.Memory.{KeepsPaths, KeepsPathsBut}
use Rattle.wdt_depot.specs.Slots.{IsOnce, IsWithin, with_slot}
use Rattle.wdt_depot.specs.View.{index_of}

pub index_updates : (path : List ℕ) (m n : BTreeMap (String Global) ℕ) (w : Option ℕ) → UpdatesBy string_cmp (λ k. slice_cmp nat_cmp path (string_bytes k)) m n w → index_of n ≡ with_slot path w (index_of m)
unfolding with_slot index_of
index_updates path m n w h = λ j q. btree_map_updates_text path m n w h q j

same_path : (p q : List ℕ) → bytes_eq p q ≡ true → p ≡ q
same_path p q e = (bytes_eq-Decides p q).0 e

-- a path more, or another place for one

pub within_with : (f : List ℕ → Option ℕ) (n m : ℕ) (p : List ℕ) → m ≡ suc n → IsWithin f n → IsWithin (with_slot p (Some n) f) m
unfolding with_slot
within_with f n m p size within q i e = go (bytes_eq p q) e
  where
    go : (b : Bool) → (if b then Some n else f q) ≡ Some i → i < m
    go true h = let same : n ≡ i = cc in omega (arith, same, size)
    go false h = omega (arith, within q i h, size)

pub once_with : (f : List ℕ → Option ℕ) (n : ℕ) (p : List ℕ) → IsWithin f n → IsOnce f → IsOnce (with_slot p (Some n) f)
unfolding with_slot
once_with f n p within once q r i eq er = go (bytes_eq p q) (bytes_eq p r) refl refl eq er
  where
    go : (b c : Bool) → bytes_eq p q ≡ b → bytes_eq p r ≡ c → (if b then Some n else f q) ≡ Some i → (if c then Some n else f r) ≡ Some i → q ≡ r
    go true true e g x y = sym (same_path p q e) ∙ same_path p r g
    go true false e g x y = let same : n ≡ i = cc in absurd (omega (arith, same, within r i y))
    go false true e g x y = let same : n ≡ i = cc in absurd (omega (arith, same, within q i x))
    go false false e g x y = once q r i x y

pub keeps_with : (f : List ℕ → Option ℕ) (n : ℕ) (p : List ℕ) → KeepsPaths f (with_slot p (Some n) f)
unfolding with_slot
keeps_with f n p q h = go (bytes_eq p q)
  where
    go : (b : Bool) → IsSome (if b then Some n else f q)
    go true = refl
    go false = h

-- a place that goes from one path to another

pub within_moved : (f : List ℕ → Option ℕ) (n i : ℕ) (source target : List ℕ) → f source ≡ Some i → IsWithin f n → IsWithin (with_slot source None (with_slot target (Some i) f)) n
unfolding with_slot
within_moved f n i source target there within q k e = go (bytes_eq source q) (bytes_eq target q) e
  where
    go : (b c : Bool) → (if b then None else (if c then Some i else f q)) ≡ Some k → k < n
    go true c h = cc
    go false true h = let same : i ≡ k = cc in omega (arith, same, within source i there)
    go false false h = within q k h

pub once_moved : (f : List ℕ → Option ℕ) (i : ℕ) (source target : List ℕ) → f source ≡ Some i → IsOnce f → IsOnce (with_slot source None (with_slot target (Some i) f))
unfolding with_slot
once_moved f i source target there once q r k eq er = go (bytes_eq source q) (bytes_eq target q) (bytes_eq source r) (bytes_eq target r) refl refl refl refl eq er
  where
    not_source : (p : List ℕ) → bytes_eq source p ≡ false → source ≡ p → ⊥
    not_source p e same = let it_is : bytes_eq source p ≡ true = (bytes_eq-Decides source p).1 same in cc

    go : (a b c d : Bool) → bytes_eq source q ≡ a → bytes_eq target q ≡ b → bytes_eq source r ≡ c → bytes_eq target r ≡ d → (if a then None else (if b then Some i else f q)) ≡ Some k → (if c then None else (if d then Some i else f r)) ≡ Some k → q ≡ r
    go true b c d e1 e2 e3 e4 x y = cc
    go false b true d e1 e2 e3 e4 x y = cc
    go false true false true e1 e2 e3 e4 x y = sym (same_path target q e2) ∙ same_path target r e4
    go false true false false e1 e2 e3 e4 x y = absurd (not_source r e3 (once source r k (there ∙ x) y))
    go false false false true e1 e2 e3 e4 x y = absurd (not_source q e1 (once source q k (there ∙ y) x))
    go false false false false e1 e2 e3 e4 x y = once q r k x y

pub keeps_moved : (f : List ℕ → Option ℕ) (i : ℕ) (source target : List ℕ) → KeepsPathsBut source f (with_slot source None (with_slot target (Some i) f))
unfolding with_slot
keeps_moved f i source target q other h = go (bytes_eq source q) (bytes_eq target q) other
  where
    go : (b c : Bool) → b ≡ false → IsSome (if b then None else (if c then Some i else f q))
    go true c e = cc
    go false true e = refl
    go false false e = h

-- the same, said of equal data

pub within_as : (f g : List ℕ → Option ℕ) (place n m : ℕ) (p : List ℕ) → place ≡ n → m ≡ suc n → g ≡ with_slot p (Some place) f → IsWithin f n → IsWithin g m
within_as f g place n m p at size is within =
    subst (λ (h : List ℕ → Option ℕ). IsWithin h m) (sym is) (subst (λ (k : ℕ). IsWithin (with_slot p (Some k) f) m) (sym at) (within_with f n m p size within))

pub once_as : (f g : List ℕ → Option ℕ) (place n : ℕ) (p : List ℕ) → place ≡ n → g ≡ with_slot p (Some place) f → IsWithin f n → IsOnce f → IsOnce g
once_as f g place n p at is within once =
    subst IsOnce (sym is) (subst (λ (k : ℕ). IsOnce (with_slot p (Some k) f)) (sym at) (once_with f n p within once))

-- an index of the same entries
pub index_unchanged : (m n : BTreeMap (String Global) ℕ) → IsUnchanged m n → index_of n ≡ index_of m
unfolding index_of
index_unchanged m n h = λ j path. lookup (λ k. is_eq (slice_cmp nat_cmp path (string_bytes k))) (h j)

pub on_err : {T E : Type 0} (r : Result T E) (P : Type 0) → P → OnErr r P
on_err (Ok x) P p = tt
on_err (Err e) P p = p
