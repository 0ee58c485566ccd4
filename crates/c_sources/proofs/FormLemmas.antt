-- Trees that texts spell are well formed.
use Rattle.std.specs.Prelude.{ℕ, List, [], ◌∷◌, Result, Ok, Err, IfOk}
use Rattle.c_tree.specs.declared.file.CFile.{CFile}
use Rattle.c_tree.specs.CText.{CText, WellFormed, kinds}
use Rattle.c_totality.specs.Totality.{AreWellFormed, no_file, one_file}
use Rattle.c_sources.specs.declared.failing.CSourceFail.{CSourceFail}
use Rattle.c_sources.specs.CFiles.{AreSpelled}

one_formed : (bytes : List ℕ) (file : CFile) → CText bytes file → WellFormed file
one_formed bytes file spelled = record { tokens = kinds spelled.tokens; reads = spelled.reads }

formed : (texts : List (List ℕ)) (files : List CFile) → AreSpelled texts files → AreWellFormed files
unfolding AreSpelled
formed [] [] are = no_file
formed [] (file ∷ files) are = absurd are
formed (text ∷ texts) [] are = absurd are
formed (text ∷ texts) (file ∷ files) are = one_file (one_formed _ file are.0) (formed texts files are.1)

pub trees_formed : (texts : List (List ℕ)) (result : Result (List CFile) CSourceFail) → IfOk result (AreSpelled texts) → IfOk result AreWellFormed
trees_formed texts (Ok files) are = formed texts files are
trees_formed texts (Err why) are = tt
