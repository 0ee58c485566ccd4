-- What is known of statement functions, statement by statement.
use Rattle.std.specs.Prelude.{◌≡◌, Bool, true, false, not, List, [], ◌++◌, map, Option, Some, None, if◌then◌else◌}
use Rattle.f_tree.specs.declared.names.Basic.{Basic}
use Rattle.f_tree.specs.declared.refusals.Kind.{Kind}
use Rattle.f_tree.specs.declared.refusals.Kind.TheVariants.{NameHasTypeReal, BadStatementFunction}
use Rattle.f_tree.specs.declared.expressions.Expr.{Expr}
use Rattle.f_tree.specs.declared.refusals.Refusal.{Refusal}
use Rattle.f_tree.specs.declared.statements.Stmt.{Stmt}
use Rattle.f_tree.specs.declared.units.Unit.{Unit as WrittenUnit}
use Rattle.f_tree.specs.Values.{Bytes}
use Rattle.f_tree.specs.Uses.{is_among, heading_of, defines_function}
use Rattle.f_tree.specs.Lines.{Naming}
use Rattle.f_tree.specs.Attributes.{Definition, Expansion, arrays_of, definition_by, definitions_in, from_all, with_expansions}
use Rattle.declaration_rows.specs.NameRows.{given_names, own_attributes, Signature, signature_of, signature_among, definition_rows, definitions_rows, defined_rows}
use Rattle.declaration_rows.specs.Verdicts.{first_of}
use Rattle.declaration_rows.specs.StatementRows.{is_typed}
use Rattle.kind_order.specs.Unless.{unless_least}
use Rattle.refusal_order.specs.Earliest.{least as lesser, least_of}
use Rattle.expression_judge.specs.declared.names.Fact.{Fact}
use Rattle.expression_judge.specs.declared.names.Names.{Names}
use Rattle.expression_judge.specs.SeenNames.{unit_fact, function_in, IsFact}
use Rattle.name_facts.specs.declared.fact.NameFact.{NameFact}
use Rattle.name_facts.specs.declared.table.NameFacts.{NameFacts}
use Rattle.name_facts.specs.GivenFacts.{fact_in as told}

-- the names of the unit are what all its statements give
pub record AreGiven (u : WrittenUnit) (names : Names) : Type 0 where
  pub facts : (x : Bytes) → IsFact (given_names u x) (unit_fact names x)

-- what a table of names tells an expression of a name
unfoldable pub seen_of : NameFact → Fact
seen_of f = record { class = f.class; basic = f.basic; rank = f.rank; sized = f.sized }

unfoldable pub seen_among : NameFacts → List Bytes → Bytes → Option Fact
seen_among table xs x = if is_among x xs then Some (seen_of (told table x)) else None

-- the functions that are defined are those of a list
pub record AreFunctions (names : Names) (signatures : List Signature) : Type 0 where
  pub functions : (x : Bytes) → function_in names x ≡ signature_among x signatures

-- a function is noted unless there is one of its name
unfoldable pub basics_or : Option (List Basic) → Bool → List Basic → Option (List Basic)
basics_or (Some bs) here basics = Some bs
basics_or None true basics = Some basics
basics_or None false basics = None

-- only the dummy arguments change
pub record KeepsNames (old new : Names) : Type 0 where
  pub facts : (x : Bytes) → unit_fact new x ≡ unit_fact old x
  pub functions : (x : Bytes) → function_in new x ≡ function_in old x

-- a dummy argument with its own type
unfoldable pub bound_basic : Naming → List Bytes → Bytes → Option Basic
bound_basic own ds x = if is_among x ds then Some (own x).basic else None

-- the row of a dummy argument, given those behind it
unfoldable pub dummy_found : Basic → Bool → Option Kind
dummy_found basic again = lesser (unless_least (is_typed basic) NameHasTypeReal) (unless_least (not again) BadStatementFunction)

-- a definition is judged, whatever the terms of the functions before it
pub record JudgesDefinition (u : WrittenUnit) (names : Names) (d : Definition) (found : Option Kind) : Type 0 where
  pub fault : (es : List Expansion) (signatures : List Signature) → AreFunctions names signatures
      → found ≡ least_of (definition_rows (with_expansions (given_names u) es) (with_expansions (own_attributes u) es) signatures d)

-- a statement is judged, and the function that it defines is noted
pub record JudgesStatement (u : WrittenUnit) (old new : Names) (ds : List Definition) (found : Option Kind) : Type 0 where
  pub fault : (es : List Expansion) (signatures : List Signature) → AreFunctions old signatures
      → found ≡ least_of (definitions_rows (given_names u) (own_attributes u) es signatures ds)
  pub functions : (signatures : List Signature) → AreFunctions old signatures → AreFunctions new (signatures ++ map (signature_of (own_attributes u)) ds)
  pub facts : (x : Bytes) → unit_fact new x ≡ unit_fact old x

-- what an assignment defines
unfoldable pub definitions_by : WrittenUnit → Expr → Expr → List Definition
definitions_by u target value = if defines_function (arrays_of u) (heading_of target) then definition_by (heading_of target) value else []

-- all statements are judged, and their functions are noted
pub record JudgesStatements (u : WrittenUnit) (ss : List Stmt) (new : Names) (found : Option Refusal) : Type 0 where
  pub fault : found ≡ first_of (defined_rows (given_names u) (own_attributes u) (arrays_of u) [] [] ss)
  pub functions : AreFunctions new (map (signature_of (own_attributes u)) (from_all (definitions_in (arrays_of u)) ss))
  pub facts : AreGiven u new
