-- What ends the cases of a switch, and the statements of a block (C89, 3.6.2 and 3.6.4.2).
use Rattle.std.specs.Prelude.{ℕ, Bool, true, false, ◌&&◌, List, [], ◌∷◌, codes, bytes_eq, Option, if◌then◌else◌}
use Rattle.c_tree.specs.declared.statement.CCase.{CCase}
use Rattle.c_tree.specs.Tokens.{Word, Sign}
use Rattle.c_tree.specs.CLabels.{LabelsOf}
use Rattle.c_readers.specs.Readers.{Tokens, Outcome, Reader, found, refused}
use Rattle.c_statement_readers.specs.CaseReader.{leaves_number}
use Rattle.c_statement_readers.specs.LabelTests.{meet}
use Rattle.c_statement_readers.specs.StatementReader.{closes_anywhere}

-- Whether the cases end there, or another one begins: behind the brace, or behind the word.
unfoldable pub case_ending : List CCase → Reader Bool
case_ending items [] = refused []
case_ending items (Word text ∷ more) = if bytes_eq text (codes "case") && leaves_number items then found false more else refused (Word text ∷ more)
case_ending items (Sign text ∷ more) = if bytes_eq text (codes "}") then found true more else refused (Sign text ∷ more)
case_ending items (token ∷ more) = refused (token ∷ more)

unfoldable pub ending_by : (LabelsOf → Bool) → LabelsOf → List ℕ → Tokens → Bool → Option (Outcome Bool)
ending_by closes before text more true = if closes before then found true more else refused (Sign text ∷ more)
ending_by closes before text more false = found false (Sign text ∷ more)

-- Whether the statements end there: behind the brace, where the labels pass the test, or where another one begins.
unfoldable pub ending : (LabelsOf → Bool) → LabelsOf → Reader Bool
ending closes before [] = found false []
ending closes before (Sign text ∷ more) = ending_by closes before text more (bytes_eq text (codes "}"))
ending closes before (token ∷ more) = found false (token ∷ more)

-- The test at the brace of a whole function, and at that of a block within one.
abbrev pub closes_by : Bool → LabelsOf → Bool
closes_by true = meet
closes_by false = closes_anywhere
