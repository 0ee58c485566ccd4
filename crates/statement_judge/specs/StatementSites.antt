-- What is known where a statement stands, as the code has it, and when it is what the unit says.
use Rattle.std.specs.Prelude.{◌≡◌, ℕ, nat_eq, Bool, Option, Some, None}
use Rattle.std.specs.HashSet.{contains}
use Rattle.f_tree.specs.declared.statements.Body.{Body}
use Rattle.f_tree.specs.declared.statements.Body.TheOpen as body
use Rattle.f_tree.specs.Folds.{fold_body}
use Rattle.declaration_rows.specs.StatementRows as rows
use Rattle.expression_judge.specs.SeenNames.{AreSeen}
use Rattle.statement_judge.specs.declared.site.Site.{Site}

unfoldable pub may_branch : Site → ℕ → Bool
may_branch site label = contains nat_eq site.branches.now label

unfoldable pub is_format : Site → ℕ → Bool
is_format site label = contains nat_eq site.formats.now label

-- the label of the DO or DO WHILE that a statement is or guards, none where its END DO ends it
unfoldable pub layer_loop : body.Body-F (Option (Option ℕ)) → Option (Option ℕ)
layer_loop (body.Do label control) = Some label
layer_loop (body.DoWhile label e) = Some label
layer_loop (body.IfOne e loop) = loop
layer_loop _ = None

unfoldable pub loop_in : Body → Option (Option ℕ)
loop_in b = fold_body layer_loop b

-- what the code knows where a statement stands is what is known there
pub record IsSite (known : rows.Site) (site : Site) : Type 0 where
  pub names : AreSeen known.known site.names.now
  pub branches : (label : ℕ) → known.branches label ≡ may_branch site label
  pub formats : (label : ℕ) → known.formats label ≡ is_format site label

-- and, of the loop that it is or guards, whether its range ends
pub record EndsLoop (known : rows.Site) (site : Site) (loop : Option (Option ℕ)) : Type 0 where
  pub ends : (label : Option ℕ) → loop ≡ Some label → known.ends_loop label ≡ site.ends_loop
