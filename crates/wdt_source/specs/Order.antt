-- Files in the order of their paths. The tree that files are doesn't hang on the order that they come in.
use Rattle.std.specs.Prelude.{List, [], ◌∷◌, Option, Some, None, if◌then◌else◌}
use Rattle.wdt_units.specs.Tree.{File, is_below, is_tree}

-- a file among files in order, behind those whose paths come before its own
abbrev pub put : File → List File → List File
put file [] = file ∷ []
put file (x ∷ xs) = if is_below x file then x ∷ put file xs else file ∷ x ∷ xs

-- the files in the order of their paths
abbrev pub in_order : List File → List File
in_order [] = []
in_order (file ∷ files) = put file (in_order files)

-- the tree of these files, where they are one
abbrev pub tree_of : List File → Option (List File)
tree_of files = if is_tree (in_order files) then Some (in_order files) else None
