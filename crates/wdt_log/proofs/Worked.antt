-- Worked batches, for tests.
use Rattle.std.proofs.Common.{◌≡◌, ℕ, ◌<◌, ◌^◌, true, List, [], ◌∷◌, length, Option, Some, arith, refl, sym, ap, ◌∙◌, subst, lit<}
use Rattle.std.specs.Prelude.{Err, IsSome, Ok, OnOk, Result}
use Rattle.std.proofs.lemmas.Option.{same_Some}
use Rattle.wdt_units.specs.Path.{is_lawful}
use Rattle.wdt_units.proofs.Shared.{lawful-is}
use Rattle.wdt_logfmt.specs.declared.entry.LogEntry.{LogEntry}
use Rattle.wdt_logfmt.specs.declared.entry.LogEntry.TheVariants.{File, Covered}
use Rattle.wdt_logfmt.specs.Adding.{all_added, can_cover, can_name}
use Rattle.wdt_logfmt.specs.Spelling.{spell_all, written_version}
use Rattle.wdt_logfmt.specs.View.{NamedFile}
use Rattle.wdt_log.specs.OpenLog.{Continues}
use Rattle.wdt_log.specs.declared.fail.LogFail.{LogFail}

-- `a` of two bytes, both covered
abbrev pub a_file : NamedFile
a_file = record { number = 0; have = record { path = 97 ∷ []; size = 2; stamp = 0; spans = record { offset = 0; count = 2 } ∷ [] } }

abbrev pub b_file : NamedFile
b_file = record { number = 1; have = record { path = 98 ∷ []; size = 0; stamp = 7; spans = [] } }

-- the batch that names `a` and covers it, and the one that names `b`
abbrev pub a_batch : List ℕ → List LogEntry
a_batch path = File 0 path 2 0 ∷ Covered 0 0 2 ∷ []

abbrev pub b_batch : List ℕ → List LogEntry
b_batch path = File 1 path 0 7 ∷ []

a_lawful : is_lawful (97 ∷ []) ≡ true
a_lawful = lawful-is (97 ∷ []) (omega arith) (omega arith) ((refl, omega arith), tt)

b_lawful : is_lawful (98 ∷ []) ≡ true
b_lawful = lawful-is (98 ∷ []) (omega arith) (omega arith) ((refl, omega arith), tt)

a_nameable : can_name [] 0 (97 ∷ []) 2 ≡ true
unfolding can_name
a_nameable = rw a_lawful refl

b_nameable : can_name (a_file ∷ []) 1 (98 ∷ []) 0 ≡ true
unfolding can_name
b_nameable = rw b_lawful refl

a_leads : all_added written_version [] (a_batch (97 ∷ [])) ≡ Some (a_file ∷ [])
unfolding can_cover
a_leads = rw a_nameable refl

b_leads : all_added written_version (a_file ∷ []) (b_batch (98 ∷ [])) ≡ Some (a_file ∷ b_file ∷ [])
b_leads = rw b_nameable refl

pub a_small : (path : List ℕ) → path ≡ 97 ∷ [] → length (spell_all (a_batch path)) < 2 ^ 32
a_small path is = subst (λ (p : List ℕ). length (spell_all (a_batch p)) < 2 ^ 32) (sym is) (lit< tt)

pub b_small : (path : List ℕ) → path ≡ 98 ∷ [] → length (spell_all (b_batch path)) < 2 ^ 32
b_small path is = subst (λ (p : List ℕ). length (spell_all (b_batch p)) < 2 ^ 32) (sym is) (lit< tt)

a_leads_from : (path : List ℕ) (fs : List NamedFile) → path ≡ 97 ∷ [] → fs ≡ [] → all_added written_version fs (a_batch path) ≡ Some (a_file ∷ [])
a_leads_from path fs is none = ap (λ (p : List ℕ). all_added written_version fs (a_batch p)) is ∙ ap (λ (gs : List NamedFile). all_added written_version gs (a_batch (97 ∷ []))) none ∙ a_leads

b_leads_from : (path : List ℕ) (fs : List NamedFile) → path ≡ 98 ∷ [] → fs ≡ a_file ∷ [] → all_added written_version fs (b_batch path) ≡ Some (a_file ∷ b_file ∷ [])
b_leads_from path fs is one = ap (λ (p : List ℕ). all_added written_version fs (b_batch p)) is ∙ ap (λ (gs : List NamedFile). all_added written_version gs (b_batch (98 ∷ []))) one ∙ b_leads

some_has : {A : Type 0} (o : Option A) (x : A) → o ≡ Some x → IsSome o
some_has {A} o x is = subst (λ (w : Option A). IsSome w) (sym is) refl

pub a_continues : (path : List ℕ) (fs : List NamedFile) → path ≡ 97 ∷ [] → fs ≡ [] → Continues written_version fs (a_batch path)
a_continues path fs is none = some_has (all_added written_version fs (a_batch path)) (a_file ∷ []) (a_leads_from path fs is none)

pub b_continues : (path : List ℕ) (fs : List NamedFile) → path ≡ 98 ∷ [] → fs ≡ a_file ∷ [] → Continues written_version fs (b_batch path)
b_continues path fs is one = some_has (all_added written_version fs (b_batch path)) (a_file ∷ b_file ∷ []) (b_leads_from path fs is one)

pub a_left : (r : Result (Unit {0}) LogFail) (path : List ℕ) (fs gs : List NamedFile) → path ≡ 97 ∷ [] → fs ≡ [] → OnOk r (all_added written_version fs (a_batch path) ≡ Some gs) → OnOk r (gs ≡ a_file ∷ [])
a_left (Ok done) path fs gs is none added = same_Some gs (a_file ∷ []) (sym added ∙ a_leads_from path fs is none)
a_left (Err fail) path fs gs is none added = tt
