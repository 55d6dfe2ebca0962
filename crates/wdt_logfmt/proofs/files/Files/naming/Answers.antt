use Rattle.std.proofs.Common.{◌≡◌, ℕ, List, [], Option, Some, ap, sym, ◌∙◌, subst, arith}
use Rattle.std.specs.Option.{is_some, IfSome}
use Rattle.wdt_units.specs.Have.{PlainSpan}
use Rattle.wdt_ranges.specs.declared.have.FileHave.{FileHave}
use Rattle.wdt_logfmt.specs.Adding.{just_named}
use Rattle.std.proofs.lemmas.Bool.{not-true, not-false}
use Rattle.wdt_logfmt.specs.Slots.{slot_of}
use Rattle.wdt_logfmt.proofs.Keeping.{named, kept_naming, nameable, not_named, number_there, path_there, unnameable}
use Rattle.wdt_logfmt.proofs.Slots.{slot-taken, slot_file}
use Rattle.wdt_logfmt.proofs.files.Files.naming.Goals as goal

pub returns-in_default : goal.returns-in_default
returns-in_default c =
    not_named _ _ c.args.number c.args.path.now c.args.size c.args.stamp c.self.view_is
    (unnameable _ c.args.number c.args.path.now c.args.size (sym c.in_ok-name.ensures.nameable ∙ ap is_some c.in_default.is))

pub returns-then-is_taken : goal.returns-then-is_taken
returns-then-is_taken c =
    not_named _ _ c.args.number c.args.path.now c.args.size c.args.stamp c.self.view_is
    (number_there _ c.args.number c.args.path.now c.args.size (slot-taken c.self.inside.slots.items c.args.number ∙ sym (c.is_taken.ensures ∙ ap (λ (ss : List (Option FileHave)). is_some (slot_of ss c.args.number)) c.deref.ensures.value) ∙ c.if-is_taken.true))

pub returns-then-not-branch : goal.returns-then-not-branch
returns-then-not-branch c =
    not_named _ _ c.args.number c.args.path.now c.args.size c.args.stamp c.self.view_is
    (path_there _ c.args.number c.args.path.now c.args.size (sym (c.self.invariant.paths c.args.path.now) ∙ not-false _ (sym c.in_ok-add_path.ensures.added ∙ c.if-not-branch.true)))

-- the parts of a file that is named
just_file : (n : ℕ) (name path : List ℕ) (size stamp : ℕ) (spans : List PlainSpan) → name ≡ path → spans ≡ [] → slot_file n (record { path = name; size = size; stamp = stamp; spans = spans }) ≡ just_named n path size stamp
just_file n name path size stamp spans p q = (λ i. record { number = n; have = record { path = p i; size = size; stamp = stamp; spans = q i } })

name_is : (found : Option (List ℕ)) (name path : List ℕ) → found ≡ Some name → IfSome found (λ x. x ≡ path) → name ≡ path
name_is found name path is h = subst (λ (o : Option (List ℕ)). IfSome o (λ x. x ≡ path)) is h

pub returns : goal.returns
returns c =
    let file = just_file c.args.number c.in-Some.name c.args.path.now c.args.size c.args.stamp c.none.result (name_is _ c.in-Some.name c.args.path.now c.in-Some.is c.in_ok-name.ensures.name) c.none.ensures in
    named c.self.inside.slots.items c.make_slot.new.slots.items _ c.self.inside.spans c.self.inside.bytes c.self.invariant c.in_ok-make_slot.ensures.same (omega (arith, c.in_ok-make_slot.ensures.few)) c.args.number (omega (arith, c.in_ok-make_slot.ensures.there))
    c.args.path.now c.args.size c.args.stamp _ file
    (nameable _ c.args.number c.args.path.now c.args.size (sym c.in_ok-name.ensures.nameable ∙ ap is_some c.in-Some.is)
    (slot-taken c.self.inside.slots.items c.args.number ∙ sym (c.is_taken.ensures ∙ ap (λ (ss : List (Option FileHave)). is_some (slot_of ss c.args.number)) c.deref.ensures.value) ∙ c.if-is_taken.false)
    (sym (c.self.invariant.paths c.args.path.now) ∙ not-true _ (sym c.in_ok-add_path.ensures.added ∙ c.if-not-branch.false)))
    c.args.self c.self.view_is

pub invariant_of-self : goal.invariant_of-self
invariant_of-self c =
    let file = just_file c.args.number c.in-Some.name c.args.path.now c.args.size c.args.stamp c.none.result (name_is _ c.in-Some.name c.args.path.now c.in-Some.is c.in_ok-name.ensures.name) c.none.ensures in
    kept_naming c.self.inside.slots.items c.make_slot.new.slots.items _ c.self.inside.spans c.self.inside.bytes c.self.invariant c.in_ok-make_slot.ensures.same (omega (arith, c.in_ok-make_slot.ensures.few)) c.args.number (omega (arith, c.in_ok-make_slot.ensures.there))
    c.args.path.now c.args.size c.args.stamp _ file
    (nameable _ c.args.number c.args.path.now c.args.size (sym c.in_ok-name.ensures.nameable ∙ ap is_some c.in-Some.is)
    (slot-taken c.self.inside.slots.items c.args.number ∙ sym (c.is_taken.ensures ∙ ap (λ (ss : List (Option FileHave)). is_some (slot_of ss c.args.number)) c.deref.ensures.value) ∙ c.if-is_taken.false)
    (sym (c.self.invariant.paths c.args.path.now) ∙ not-true _ (sym c.in_ok-add_path.ensures.added ∙ c.if-not-branch.false)))
    _ c.in_ok-add_path.ensures.paths
