-- The labels that the values of expressions are, as they count where an argument is passed, and as the code tells them.
-- ANSI X3.9-1978, sections 8.6, 15.4 and 15.9.3.5.
use Rattle.std.specs.Prelude.{◌≡◌, ℕ, Bool, true, false, not, List, [], ◌∷◌, ◌++◌, map, bytes_eq, Option, Some, None, is_some, option_map, if◌then◌else◌}
use Rattle.std.specs.HashMap.{get_by}
use Rattle.std.specs.List.{list_all}
use Rattle.f_tree.specs.declared.names.Basic.{Basic}
use Rattle.f_tree.specs.declared.names.Basic.TheVariants.{Character}
use Rattle.f_tree.specs.declared.names.Class.{Class}
use Rattle.f_tree.specs.declared.names.Class.TheVariants as class
use Rattle.f_tree.specs.declared.expressions.Expr.{Expr}
use Rattle.f_tree.specs.declared.expressions.Expr.TheOpen as expr
use Rattle.f_tree.specs.declared.statements.Body.{Body}
use Rattle.f_tree.specs.declared.units.Unit.{Unit as WrittenUnit}
use Rattle.f_tree.specs.Folds.{fold_expr}
use Rattle.f_tree.specs.Values.{Bytes}
use Rattle.f_tree.specs.Terms.{Term, Terms}
use Rattle.f_tree.specs.Facts.{Attribute}
use Rattle.f_tree.specs.Reading.{Read, name_read, applied_read}
use Rattle.f_tree.specs.Lines.{Naming}
use Rattle.f_tree.specs.Uses.{Use, is_among, uses_of_body}
use Rattle.f_tree.specs.Attributes.{Expansion, Definition, expansion_among, expansions_from, arrays_of}
use Rattle.lowering_laws.specs.Layer.{may_be_other, passes_other}
use Rattle.name_facts.specs.declaration_rows.NameRows.{own_attributes, all_names, definitions_of}
use Rattle.name_facts.specs.declared.fact.ConstantValue.{ConstantValue}
use Rattle.name_facts.specs.declared.fact.ConstantValue.TheVariants as constant
use Rattle.name_facts.specs.declared.table.NameFacts.{NameFacts}
use Rattle.name_facts.specs.GivenFacts.{fact_in}
use Rattle.name_table.specs.Named.{texts}
use Rattle.loop_entries.specs.declared.labels.FunctionLabels.{FunctionLabels}
use Rattle.loop_entries.specs.declared.labels.Scope.{Scope}

-- WHAT IS MEANT: a term that is passed is a label other than those of a set where one of these labels is
pub record MayBe (t : Term) (labels : List ℕ) : Type 0 where
  pub tells : (known : ℕ → Bool) → may_be_other known t ≡ not (list_all known labels)

pub record AnyMayBe (ts : Terms) (labels : List ℕ) : Type 0 where
  pub tells : (known : ℕ → Bool) → passes_other known ts ≡ not (list_all known labels)

-- an expression, by its value or as an actual argument
pub record ReadMayBe (r : Read) (labels : List ℕ) : Type 0 where
  pub value : MayBe r.value labels
  pub actual : MayBe r.actual labels

unfoldable pub ReadsMayBe : List Read → List (List ℕ) → Type 0
ReadsMayBe [] [] = Unit {0}
ReadsMayBe [] (labels ∷ more) = ⊥
ReadsMayBe (r ∷ rs) [] = ⊥
ReadsMayBe (r ∷ rs) (labels ∷ more) = ReadMayBe r labels × ReadsMayBe rs more

-- WHAT THE CODE TELLS of names
unfoldable pub labels_at : FunctionLabels → Bytes → Option (List ℕ)
labels_at functions x = option_map (λ labels. labels.items) (get_by (λ k. bytes_eq x k.now) functions.labels)

unfoldable pub constant_labels : Option ConstantValue → List ℕ
constant_labels (Some (constant.Label l)) = l ∷ []
constant_labels _ = []

unfoldable pub own_labels : Option (List ℕ) → List ℕ
own_labels None = []
own_labels (Some labels) = labels

-- a name alone, by its class
unfoldable pub class_labels : Class → Option ConstantValue → Option (List ℕ) → List ℕ
class_labels class.Constant value own = constant_labels value
class_labels class.StatementFunction value own = own_labels own
class_labels _ value own = []

-- what is told where an expression stands: the names of the unit, its statement functions, and the dummy arguments of the one that is defined
pub record Told : Type 0 where
  pub table : NameFacts
  pub functions : FunctionLabels
  pub dummies : List Bytes

abbrev pub told_by : Scope → Told
told_by scope = record { table = scope.table.now; functions = scope.functions.now; dummies = texts scope.dummies.now }

unfoldable pub name_labels : Told → Bytes → List ℕ
name_labels told x =
    if is_among x told.dummies then [] else class_labels (fact_in told.table x).class (fact_in told.table x).constant (labels_at told.functions x)

-- a statement function that is defined
unfoldable pub function_labels : Class → Option (List ℕ) → Option (List ℕ)
function_labels class.StatementFunction own = own
function_labels _ own = None

unfoldable pub joined : List (List ℕ) → List ℕ
joined [] = []
joined (labels ∷ more) = labels ++ joined more

-- its arguments are valued, and then its expression
unfoldable pub with_arguments : Option (List ℕ) → List (List ℕ) → List ℕ
with_arguments None more = []
with_arguments (Some labels) more = joined more ++ labels

unfoldable pub applied_labels : Told → Bytes → List (List ℕ) → List ℕ
applied_labels told x more =
    if is_among x told.dummies then joined more else with_arguments (function_labels (fact_in told.table x).class (labels_at told.functions x)) more

-- one layer of an expression, given the labels of its parts
unfoldable pub layer_labels : Told → expr.Expr-F (List ℕ) → List ℕ
layer_labels told (expr.Name x) = name_labels told x
layer_labels told (expr.Apply x more) = applied_labels told x more
layer_labels told (expr.Plus labels) = labels
layer_labels told (expr.Paren labels) = labels
layer_labels told (expr.AltReturn l) = l ∷ []
layer_labels told (expr.Bind more labels) = joined more ++ labels
layer_labels told _ = []

unfoldable pub labels_of : Told → Expr → List ℕ
labels_of told e = fold_expr (layer_labels told) e

-- the labels of a name are told, alone and with a list
pub record TellsName (a : Attribute) (told : Told) (x : Bytes) : Type 0 where
  pub alone : ReadMayBe (name_read x a) (name_labels told x)
  pub applied : (rs : List Read) (more : List (List ℕ)) → ReadsMayBe rs more → ReadMayBe (applied_read x a rs) (applied_labels told x more)

pub record TellsNames (names : Naming) (told : Told) : Type 0 where
  pub each : (x : Bytes) → TellsName (names x) told x

-- STATEMENT FUNCTIONS (15.4): the value of one of type CHARACTER is fitted to its length, and no label
unfoldable pub is_fitted : Basic → Option ℕ → Bool
is_fitted Character (Some n) = true
is_fitted _ _ = false

unfoldable pub value_labels : Told → Bytes → Expr → List ℕ
value_labels told x e = if is_fitted (fact_in told.table x).basic (fact_in told.table x).width then [] else labels_of told e

-- the labels that the term of a function may be are these
unfoldable pub IsToldAs : Option Term → Option (List ℕ) → Type 0
IsToldAs None None = Unit {0}
IsToldAs (Some t) (Some labels) = MayBe t labels
IsToldAs _ _ = ⊥

-- of the names of a unit that are statement functions the labels are told
pub record AreFunctionLabels (u : WrittenUnit) (es : List Expansion) (functions : FunctionLabels) : Type 0 where
  pub of : (x : Bytes) → is_among x (all_names u) ≡ true → IsToldAs (expansion_among x es) (labels_at functions x)

-- a function is noted, unless there is one of its name
pub data NotesFunction (table : NameFacts) (before after : FunctionLabels) (x : Bytes) (dummies : List Bytes) (e : Expr) : Type 0 where
  is_there : is_some (labels_at before x) ≡ true → after ≡ before → NotesFunction table before after x dummies e
  is_put : is_some (labels_at before x) ≡ false → (labels : List ℕ)
      → ((known : ℕ → Bool) → list_all known labels ≡ list_all known (value_labels (record { table = table; functions = before; dummies = dummies }) x e))
      → ((q : Bytes) → labels_at after q ≡ (if bytes_eq x q then Some labels else labels_at before q)) → NotesFunction table before after x dummies e

-- definitions are noted behind others
pub record NotesFunctions (u : WrittenUnit) (before after : FunctionLabels) (ds : List Definition) : Type 0 where
  pub noted : (es : List Expansion) → AreFunctionLabels u es before → AreFunctionLabels u (expansions_from (own_attributes u) es ds) after

abbrev pub use_names : List Use → List Bytes
use_names us = map (λ (v : Use). v.name) us

-- the names of a statement are names of the unit
pub record IsStatementOf (u : WrittenUnit) (b : Body) : Type 0 where
  pub named : (x : Bytes) → is_among x (use_names (uses_of_body (arrays_of u) b)) ≡ true → is_among x (all_names u) ≡ true

unfoldable pub all_expansions : WrittenUnit → List Expansion
all_expansions u = expansions_from (own_attributes u) [] (definitions_of u)
