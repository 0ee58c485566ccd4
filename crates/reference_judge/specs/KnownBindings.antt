-- What is known in the definition of a statement function with some dummy arguments, and the references of a statement by what is known.
use Rattle.std.specs.Prelude.{List, ◌++◌, Option, Some, None, is_some, if◌then◌else◌}
use Rattle.f_tree.specs.declared.names.Basic.{Basic}
use Rattle.f_tree.specs.declared.statements.Body.{Body}
use Rattle.f_tree.specs.declared.units.Unit.{Unit as WrittenUnit}
use Rattle.f_tree.specs.Values.{Bytes}
use Rattle.f_tree.specs.Lines.{Naming}
use Rattle.f_tree.specs.declared.expressions.Expr.{Expr}
use Rattle.f_tree.specs.declared.statements.Body.TheOpen as body
use Rattle.f_tree.specs.Folds.{layer_of}
use Rattle.f_tree.specs.Uses.{is_among, heading_of, defines_function}
use Rattle.f_tree.specs.Attributes.{dummy_among}
use Rattle.declaration_rows.specs.Judgement.{Known}
use Rattle.declaration_rows.specs.NameRows.{given_names, own_attributes, signatures_of, signature_among, dummy_or, unless_dummy}
use Rattle.declaration_rows.specs.ReferenceRows.{Reference, parts_of, references_in, call_of}

-- a dummy argument with its own type
unfoldable pub bound_basic : Naming → List Bytes → Bytes → Option Basic
bound_basic own ds x = if is_among x ds then Some (own x).basic else None

unfoldable pub known_with : WrittenUnit → List Bytes → Known
known_with u ds = record {
  attribute = λ x. dummy_or (given_names u x) (own_attributes u x) (dummy_among (own_attributes u) 0 ds x);
  dummies = λ x. unless_dummy (signature_among x (signatures_of u)) (dummy_among (own_attributes u) 0 ds x);
  is_bound = λ x. is_some (dummy_among (own_attributes u) 0 ds x);
}

unfoldable pub references_known : Known → Body → List Reference
references_known known b = references_in known (parts_of b).expressions ++ call_of known (parts_of b).call

-- the target of the assignment that defines a statement function, given the names of the arrays
unfoldable pub defined_target : List Bytes → Body → Option Expr
defined_target arrays b = elim (layer_of b) [ body.Assign target e ↦ if defines_function arrays (heading_of target) then Some target else None | _ ↦ None ]
