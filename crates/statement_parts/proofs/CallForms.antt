-- The reference that each form of a statement makes by CALL.
use Rattle.std.specs.Prelude.{◌≡◌, List, Some, None}
use Rattle.std.proofs.Common.{refl}
use Rattle.f_tree.specs.Values.{Bytes}
use Rattle.f_tree.specs.Folds.{folds_opened}
use Rattle.f_tree.specs.declared.expressions.Expr.{Expr}
use Rattle.f_tree.specs.declared.statements.Body.{Body, Call, IfOne', more_of-Body, end_of-Body}
use Rattle.f_tree.specs.declared.statements.Body.TheVariants as body
use Rattle.declaration_rows.specs.ReferenceRows.{only, layer_parts, parts_of}

pub call-Call : (x : Bytes) (es : List Expr) → (parts_of (body.Call x es)).call ≡ Some (x, es)
unfolding folds_opened parts_of layer_parts only
call-Call x es = refl

pub call-IfOne : (e : Expr) (b : Body) → (parts_of (body.IfOne e b)).call ≡ (parts_of b).call
unfolding folds_opened parts_of layer_parts only
call-IfOne e b = refl

pub call_other : (b : Body) → ((x : Bytes) (es : List Expr) → b ≡ body.Call x es → ⊥) → ((e : Expr) (c : Body) → b ≡ body.IfOne e c → ⊥) → (parts_of b).call ≡ None
unfolding folds_opened parts_of layer_parts only
call_other (Call x es) one two = absurd (one x es refl)
call_other (IfOne' e s (more_of-Body b end_of-Body)) one two = absurd (two e b refl)
call_other _ one two = refl

pub ruleset call_forms = (call-Call, call-IfOne)
