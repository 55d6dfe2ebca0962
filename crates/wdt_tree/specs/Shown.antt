-- Files of the code as files of a tree, and files of a tree as they are listed.
use Rattle.std.specs.Prelude.{length}
use Rattle.wdt_units.specs.Tree.{File}
use Rattle.wdt_tree.specs.declared.entry.Plain.{Plain}
use Rattle.wdt_tree.specs.declared.entry.Entry.{Entry}

-- a whole file, without where it stands in memory
abbrev pub shown : Plain → File
shown plain = record { path = plain.path; stamp = plain.stamp; bytes = plain.bytes.items }

-- a file as it is listed
abbrev pub entry_of_file : File → Entry
entry_of_file file = record { path = file.path; size = length file.bytes; stamp = file.stamp }
