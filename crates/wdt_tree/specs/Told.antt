-- What a run tells.
use Rattle.std.specs.Prelude.{List}
use Rattle.wdt_units.specs.Tree.{File}
use Rattle.wdt_units.specs.Have.{HaveFile}

-- the tree that is copied, in the order of its paths, and what the destination has of it as the run begins
pub record ToldRun : Type 0 where
  pub tree : List File
  pub have : List HaveFile
