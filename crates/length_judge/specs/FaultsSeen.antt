-- The uses of length (*) that a statement makes as it may not, and its lengths past the greatest. ANSI X3.9-1978, sections 6.2, 10.4, 12.10 and
-- 15.9.3.
use Rattle.std.specs.Prelude.{Bool, false, not, ◌&&◌, ◌||◌, List, ◌++◌, map}
use Rattle.f_tree.specs.declared.expressions.Expr.{Expr}
use Rattle.f_tree.specs.declared.refusals.Kind.TheVariants.{UseOfAssumedLength, StorageTooLarge}
use Rattle.f_tree.specs.declared.refusals.Refusal.{Refusal}
use Rattle.f_tree.specs.declared.statements.Body.{Body}
use Rattle.f_tree.specs.declared.statements.Body.TheOpen as body
use Rattle.f_tree.specs.declared.statements.Stmt.{Stmt}
use Rattle.f_tree.specs.declared.units.Unit.{Unit as WrittenUnit}
use Rattle.f_tree.specs.Values.{Bytes}
use Rattle.f_tree.specs.Folds.{layer_of, fold_body}
use Rattle.f_tree.specs.Attributes.{constants_of}
use Rattle.declaration_rows.specs.Judgement.{unless}
use Rattle.declaration_rows.specs.LengthRows.{LengthFaults, layer_length_faults, files_alone, statement_length_rows}
use Rattle.declaration_rows.specs.NameRows.{stood}
use Rattle.declaration_rows.specs.ReferenceRows.{parts_of}
use Rattle.length_judge.specs.declared.lengths.Lengths.{Lengths}
use Rattle.length_judge.specs.declared.lengths.Parts.{Parts}
use Rattle.length_judge.specs.declared.names.Names.{Names}
use Rattle.length_judge.specs.declared.statements.Faults.{Faults}
use Rattle.length_judge.specs.KnownNames.{naming_in, constants_in, naming_with}
use Rattle.length_judge.specs.LengthsSeen.{lengths_in, no_parts, onward}

unfoldable pub faults_seen : LengthFaults → Faults
faults_seen f = record { misused = f.misused; too_long = f.too_long }

unfoldable pub faults_in : Names → Body → Faults
faults_in names b = faults_seen (fold_body (layer_length_faults (naming_in names) (constants_in names)) b)

unfoldable pub faults_of : Parts → Faults
faults_of p = record { misused = p.misused; too_long = p.too_long }

unfoldable pub both_faults : Faults → Faults → Faults
both_faults a b = record { misused = a.misused || b.misused; too_long = a.too_long || b.too_long }

-- an assignment
unfoldable pub assigned_faults : Lengths → Lengths → Faults
assigned_faults target e = record {
  misused = (target.misused || target.joined) || (e.misused || (target.refers && (target.has_star || e.has_star)));
  too_long = target.too_long || e.too_long;
}

-- the parts that some expressions are
unfoldable pub parts_in : Names → List Expr → Parts
parts_in names es = onward no_parts (map (lengths_in names) es)

-- operands of length (*) that stand in parentheses alone where CALL or FILE= has them
unfoldable pub alone_in : Names → Body → Bool
alone_in names b = elim (layer_of b) [
  | body.Call x es ↦ (parts_in names es).parenthesised
  | body.Transfer way controls items ↦ files_alone (naming_in names) (constants_in names) controls
  | body.Auxiliary which controls ↦ files_alone (naming_in names) (constants_in names) controls
  | _ ↦ false
]

-- another statement, without a statement in it
unfoldable pub plain_faults : Names → Body → Faults
plain_faults names b = record {
  misused = alone_in names b || (parts_in names (parts_of b).expressions).misused;
  too_long = (parts_in names (parts_of b).expressions).too_long;
}

-- a statement, given the dummy arguments of the statement function that it defines
unfoldable pub faults_with : WrittenUnit → List Bytes → Body → Faults
faults_with u ds b = faults_seen (fold_body (layer_length_faults (naming_with u ds) (constants_of u)) b)

-- the rows of a statement
unfoldable pub rows_of : Stmt → Faults → Bool → List Refusal
rows_of s f star = stood s (unless (not (f.misused || star)) UseOfAssumedLength) ++ stood s (unless (not f.too_long) StorageTooLarge)

unfoldable pub statement_rows : WrittenUnit → Stmt → List Refusal
statement_rows u s = stood s (statement_length_rows u s.body)
