-- Runs of small sets that come at once to a call which disagrees.
use Rattle.std.specs.Prelude.{ℕ, pos, List, [], ◌∷◌, codes, Some, None}
use Rattle.agreeing_runs.specs.f_tree.declared.names.Basic.TheVariants as type
use Rattle.agreeing_runs.specs.f_tree.declared.expressions.Expr.{Expr}
use Rattle.agreeing_runs.specs.f_tree.declared.expressions.Expr as expr
use Rattle.agreeing_runs.specs.f_tree.declared.statements.Body.{Body}
use Rattle.agreeing_runs.specs.f_tree.declared.statements.Body as body
use Rattle.agreeing_runs.specs.f_tree.declared.statements.DummyArgument.TheVariants as dummy
use Rattle.agreeing_runs.specs.f_tree.declared.statements.Stmt.{Stmt}
use Rattle.agreeing_runs.specs.f_tree.declared.statements.UnitKind.{UnitKind}
use Rattle.agreeing_runs.specs.f_tree.declared.statements.UnitKind.TheVariants as kind
use Rattle.agreeing_runs.specs.f_tree.declared.units.FileSet.{FileSet}
use Rattle.agreeing_runs.specs.f_tree.declared.units.Unit.{Unit as WrittenUnit}
use Rattle.agreeing_runs.specs.f_tree.Meaning.{units_of, ftn}
use Rattle.agreeing_runs.specs.f_tree.Runs.{no_options, setting_apart, standard_units}
use Rattle.agreeing_runs.specs.Mismatches.{IsMismatched}

abbrev pub on : ℕ → Body → Stmt
on card b = record { label = None; file = 0; card = card; body = b }

-- a procedure S of one dummy argument
abbrev pub procedure : UnitKind → WrittenUnit
procedure k = record { file = 0; card = 3; kind = k; name = Some (codes "s"); dummies = dummy.Named (codes "i") ∷ []; statements = on 4 body.End ∷ [] }

abbrev pub subroutine : WrittenUnit
subroutine = procedure kind.Subroutine

abbrev pub logical_function : WrittenUnit
logical_function = procedure (kind.Function (record { basic = type.Logical; length = None }))

-- `CALL S(..)`, `END`, and a procedure
unfoldable pub calling_s : List Expr → WrittenUnit → FileSet
calling_s es u = record {
  files = record {
    units = record { file = 0; card = 1; kind = kind.Main; name = None; dummies = []; statements = on 1 (body.Call (codes "s") es) ∷ on 2 body.End ∷ [] } ∷ u ∷ [];
  } ∷ [];
}

abbrev pub num : ℕ → Expr
num n = expr.Int (pos n)

-- the state after so many steps of the run of a set whose names stand apart
abbrev pub IsMismatchedAt : FileSet → ℕ → Type 0
IsMismatchedAt set n = IsMismatched (setting_apart (units_of no_options set)) (units_of no_options set)
    (ftn (setting_apart (units_of no_options set)) (units_of no_options set) (standard_units []) n)

unfoldable pub mismatch_sources_opened : Unit {0}
unfolding calling_s
mismatch_sources_opened = tt
