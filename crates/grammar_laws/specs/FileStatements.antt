-- That the statements of a file spell one tree at most, and an included file one part.
use Rattle.std.specs.Prelude.{◌≡◌, ℕ, List}
use Rattle.fortran_grammar.specs.f_tree.declared.units.File.{File}
use Rattle.fortran_grammar.specs.f_tree.declared.units.Part.{Part}
use Rattle.fortran_grammar.specs.fortran_text.declared.source.Statement.{Statement}
use Rattle.fortran_grammar.specs.UnitsOfFile.{SpellsFile}
use Rattle.fortran_grammar.specs.IncludedFiles.{SpellsPart}

-- The statements of a file spell one tree at most.
abbrev pub EachFileSpellsOneTree : Type 0
EachFileSpellsOneTree = (sources : List Statement) (a b : File) → SpellsFile sources a → SpellsFile sources b → a ≡ b

-- The statements of an included file spell one part at most.
abbrev pub EachPartSpellsOneTree : Type 0
EachPartSpellsOneTree = (name : List ℕ) (sources : List Statement) (a b : Part) → SpellsPart name sources a → SpellsPart name sources b → a ≡ b
