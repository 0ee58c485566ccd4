-- The definitions of statement functions among statements. ANSI X3.9-1978, section 15.4.
use Rattle.std.specs.Prelude.{Bool, false, List, [], map, bytes_eq, Option, Some, None}
use Rattle.f_tree.specs.declared.expressions.Expr.{Expr}
use Rattle.f_tree.specs.declared.statements.Body.TheOpen as body
use Rattle.f_tree.specs.declared.statements.Stmt.{Stmt}
use Rattle.f_tree.specs.declared.units.Unit.{Unit as WrittenUnit}
use Rattle.f_tree.specs.Folds.{layer_of}
use Rattle.f_tree.specs.Values.{Bytes}
use Rattle.f_tree.specs.Uses.{heading_of, alone_in}
use Rattle.f_tree.specs.Attributes.{Expansion, from_all, definitions_in, expansions_from, arrays_of}
use Rattle.name_facts.specs.declaration_rows.NameRows.{own_attributes}

-- it is the name that is there
unfoldable pub is_same : Bytes → Option Bytes → Bool
is_same x None = false
is_same x (Some y) = bytes_eq y x

-- a name that stands alone
unfoldable pub is_name : Bytes → Expr → Bool
is_name x e = is_same x (heading_of e).alone

-- the names that stand alone among the arguments of a definition: its dummy arguments
unfoldable pub names_alone : List Expr → List Bytes
names_alone es = alone_in (map heading_of es)

-- something is assigned to a name with a list
unfoldable pub assigns_with_list : Bytes → Stmt → Bool
assigns_with_list x s = elim (layer_of s.body) [ body.Assign target e ↦ is_same x (heading_of target).applied | _ ↦ false ]

-- the statement functions that statements define, each expression over those before it
unfoldable pub expansions_in : WrittenUnit → List Stmt → List Expansion
expansions_in u ss = expansions_from (own_attributes u) [] (from_all (definitions_in (arrays_of u)) ss)
