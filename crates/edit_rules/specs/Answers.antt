-- An answer of a reader of list-directed input and the reader behind it, against what is given at its place.
use Rattle.std.specs.Prelude.{◌≡◌, ℕ, List}
use Rattle.edit_meaning.specs.ListInput.{Given}
use Rattle.edit_rules.specs.Reader.{given_as, StandsIn, IsWithin, KeepsPlace}
use Rattle.edit_rules.specs.declared.list_reader.ListReader.{ListReader}
use Rattle.edit_rules.specs.declared.list_reader.Next.{Next}

pub record Answers (old : ListReader) (line : List ℕ) (wanted : Given) (next : Next) : Type 0 where
  pub gives : given_as line next.item next.reader ≡ wanted
  pub stands : StandsIn old line → StandsIn next.reader line
  pub within : IsWithin line next.item
  pub keeps : KeepsPlace next.item old next.reader
