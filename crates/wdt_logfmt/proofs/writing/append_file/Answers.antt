use Rattle.std.proofs.Common.{◌≡◌, ℕ, List, ◌∷◌, ◌++◌, length, ◌∙◌, ap, append_assoc}
use Rattle.byteorder.specs.Endian.{big_bytes}
use Rattle.wdt_logfmt.specs.declared.entry.LogEntry.TheVariants.{File}
use Rattle.wdt_logfmt.specs.Spelling.{spell}
use Rattle.wdt_logfmt.proofs.Results.{on-ok}
use Rattle.wdt_logfmt.proofs.writing.append_file.Goals as goal

joined : (old one two new front path back : List ℕ) (n size stamp : ℕ) → one ≡ old ++ front → two ≡ one ++ path → new ≡ two ++ back → front ≡ 0x46 ∷ (big_bytes 4 n ++ big_bytes 2 (length path)) → back ≡ big_bytes 8 size ++ big_bytes 8 stamp
    → new ≡ old ++ spell (File n path size stamp)
joined old one two new front path back n size stamp a b d f e =
    d ∙ ap (λ w. w ++ back) (b ∙ ap (λ w. w ++ path) a) ∙ append_assoc (old ++ front) path back ∙ append_assoc old front (path ++ back) ∙ ap (λ w. old ++ (w ++ (path ++ back))) f
    ∙ ap (λ w. old ++ (0x46 ∷ (big_bytes 4 n ++ big_bytes 2 (length path)) ++ (path ++ w))) e

pub returns-clause-spelled : goal.returns-clause-spelled
returns-clause-spelled c =
    on-ok c.append-3.result
    (λ e. joined c.args.into.now.items c.append.new.into.items c.append-2.new.into.items c.append-3.new.into.items c.front_text.result c.args.path.now c.size_text.result c.args.number c.args.size c.args.stamp
    c.in_ok-append.ensures.spelled c.in_ok-append-2.ensures.spelled e c.front_text.ensures c.size_text.ensures)
    c.append-3.ensures.spelled
