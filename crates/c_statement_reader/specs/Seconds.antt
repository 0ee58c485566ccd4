-- The second block of an `if`, where one stands (C89, 3.6.4.1).
use Rattle.std.specs.Prelude.{ℕ, Bool, true, false, List, [], ◌∷◌, codes, bytes_eq, Option, Some, None}
use Rattle.c_tree.specs.declared.statement.CStmt.{CStmt}
use Rattle.c_tree.specs.Tokens.{Word}
use Rattle.c_tree.specs.CLabels.{LabelsOf, no_label, labels_of_all}
use Rattle.c_readers.specs.Readers.{Tokens, Outcome, Reader, found, ◌>>=◌}
use Rattle.c_statement_readers.specs.StatementReader.{Inner, braced}

unfoldable pub second_by : Inner → ℕ → LabelsOf → List ℕ → Tokens → Bool → Option (Outcome (Option (List CStmt)))
second_by inner count before text more true = braced inner count before more >>= (λ second. found (Some second))
second_by inner count before text more false = found None (Word text ∷ more)

-- `else` and another block, where it stands.
unfoldable pub second_block : Inner → ℕ → LabelsOf → Reader (Option (List CStmt))
second_block inner count before [] = found None []
second_block inner count before (Word text ∷ more) = second_by inner count before text more (bytes_eq text (codes "else"))
second_block inner count before (token ∷ more) = found None (token ∷ more)

abbrev pub labels_of_second : Option (List CStmt) → LabelsOf
labels_of_second None = no_label
labels_of_second (Some second) = labels_of_all second
