use Rattle.std.proofs.Common.{◌≡◌, ℕ, ◌<◌, ◌^◌, true, List, [], ◌∷◌, length, arith, length-append, ap, ◌∙◌}
use Rattle.wdt_units.specs.Path.{is_lawful}
use Rattle.wdt_logfmt.specs.declared.entry.LogEntry.TheVariants.{File, Covered}
use Rattle.wdt_logfmt.specs.Spelling.{spell, spell_all}
use Rattle.wdt_logfmt.proofs.Appending.{length-file, path-short}
use Rattle.wdt_logfmt.proofs.tests.add_halves.Goals as goal

small : (n : ℕ) (path : List ℕ) (size stamp a b d e : ℕ) → is_lawful path ≡ true → length (spell_all (File n path size stamp ∷ Covered n a b ∷ Covered n d e ∷ [])) < 2 ^ 32
small n path size stamp a b d e lawful =
    omega (
      arith,
      path-short path lawful,
      length-file n path size stamp,
      length-append (spell (File n path size stamp)) (spell_all (Covered n a b ∷ Covered n d e ∷ [])),
      length-append (spell (Covered n a b)) (spell_all (Covered n d e ∷ [])),
      length-append (spell (Covered n d e)) [],
    )

pub write_batch-requires : goal.write_batch-requires
write_batch-requires c = small c.args.number c.in_ok-path.path 8 7 4 4 0 4 (ap is_lawful c.in_ok-path.ensures.value ∙ c.in_ok-path.ensures.lawful)
