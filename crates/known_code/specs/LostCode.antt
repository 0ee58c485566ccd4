-- Functions whose code has an item that links nothing (C89, 3.1.2 and 3.6.6.1).
use Rattle.std.specs.Prelude.{◌≡◌, Bool, false, ◌||◌, List, [], ◌∷◌}
use Rattle.c_tree.specs.declared.file.CFile.{CFile}
use Rattle.c_tree.specs.Linking.{Function, program}
use Rattle.c_totality.specs.Totality.{AreWellFormed, AreLinked}
use Rattle.flat_linker.specs.LostNames.{some_lost}

-- whether the code of one of some functions has one
abbrev pub some_code_lost : List Function → Bool
some_code_lost [] = false
some_code_lost (function ∷ later) = some_lost function.code || some_code_lost later

-- files that are well formed and keep the rules of linking, but for the limit on bytes, have no such function
abbrev pub NoCodeIsLost : Type 0
NoCodeIsLost = (files : List CFile) → AreWellFormed files → AreLinked files → some_code_lost (program files).functions ≡ false
