-- The expressions that references point to.
use Rattle.std.specs.Prelude.{List, map}
use Rattle.std.specs.Borrow.{Bor}
use Rattle.f_tree.specs.declared.expressions.Expr.{Expr}
use Rattle.f_tree.specs.Values.{Bytes}
use Rattle.statement_parts.specs.declared.calls.CallPart.{CallPart}

abbrev pub trees : List (Bor Expr) → List Expr
trees references = map (λ reference. reference.now) references

-- a name with its actual arguments
unfoldable pub call_in : CallPart → Bytes × List Expr
call_in c = (c.name.now, c.arguments.now)
