-- What it means that an expression is what it is judged to be: its reading is well typed as a value, as an actual argument
-- or a place, and by its pieces; and that what is known of names is what the unit makes of them.
-- ANSI X3.9-1978, sections 5, 6 and 15.
use Rattle.std.specs.Prelude.{◌≡◌, ℕ, Bool, true, false, List, [], ◌∷◌, length, map, Some, None, IsTrue}
use Rattle.fortran_text.specs.f_tree.declared.names.Basic.{Basic}
use Rattle.fortran_text.specs.f_tree.declared.names.Basic.TheVariants.{Character}
use Rattle.fortran_text.specs.f_tree.declared.names.Class.TheVariants as class
use Rattle.fortran_text.specs.f_tree.declared.expressions.Expr.{Expr}
use Rattle.fortran_text.specs.f_tree.Values.{Bytes, Datum}
use Rattle.fortran_text.specs.f_tree.Terms.{Term, terms}
use Rattle.fortran_text.specs.f_tree.Facts.{Attribute, Facts}
use Rattle.fortran_text.specs.f_tree.Reading.{Read, read}
use Rattle.fortran_text.specs.f_tree.Lines.{is_array}
use Rattle.fortran_text.specs.f_tree.WellTyped.{Sort, ValueOf, PlaceOf, AProcedure, ALabel, IsOf, IsValued, ArePieces, IsVariable, is_variable, is_procedure_name, is_callee, has_size, rank_of, Typed, AreTyped}
use Rattle.declaration_rows.specs.Judgement.{What, AValue, APlace, AnArray, AProcedureName, AFunctionName, AnExit, NoOperand, Judged, Known, judge}

-- the pieces of a text, of which there is one at least
pub record JoinsPieces (c : Facts) (count : ℕ) (env : List Sort) (ts : List Term) : Type 0 where
  pub sort : Sort
  pub sorts : List Sort
  pub are_pieces : ArePieces (sort ∷ sorts)
  pub typed : AreTyped c count env (terms ts) (sort ∷ sorts)

-- one value of a type
pub record FitsOne (c : Facts) (count : ℕ) (env : List Sort) (basic : Basic) (r : Read) : Type 0 where
  pub valued : Typed c count env r.value (ValueOf basic)
  pub joins : basic ≡ Character → JoinsPieces c count env r.pieces

-- where it is a name alone, it is no array
unfoldable pub IsNoArray : Known → Read → Type 0
IsNoArray known r = (x : Bytes) → r.named ≡ Some x → is_array (known.attribute x) ≡ false

pub record FitsValue (c : Facts) (count : ℕ) (env : List Sort) (known : Known) (basic : Basic) (r : Read) : Type 0 where
  pub one : FitsOne c count env basic r
  pub passes : Typed c count env r.actual (ValueOf basic)
  pub no_base : r.base ≡ None
  pub no_array : IsNoArray known r

pub record FitsPlace (c : Facts) (count : ℕ) (env : List Sort) (known : Known) (basic : Basic) (r : Read) : Type 0 where
  pub one : FitsOne c count env basic r
  pub has_values : IsValued basic
  pub passes : Typed c count env r.actual (PlaceOf basic)
  pub owner : Bytes
  pub owner_is : r.base ≡ Some owner
  pub owner_basic : (known.attribute owner).basic ≡ basic
  pub no_array : IsNoArray known r

pub record FitsArray (c : Facts) (count : ℕ) (env : List Sort) (known : Known) (basic : Basic) (sized : Bool) (r : Read) : Type 0 where
  pub has_values : IsValued basic
  pub passes : Typed c count env r.actual (PlaceOf basic)
  pub name : Bytes
  pub name_is : r.named ≡ Some name
  pub owner_is : r.base ≡ Some name
  pub owner_basic : (known.attribute name).basic ≡ basic
  pub array : is_array (known.attribute name) ≡ true
  pub variable : IsVariable c name basic
  pub has_bounds : IsTrue sized → IsTrue (has_size (c.program.attribute name).dimensions)

-- an expression that is what it is judged to be
unfoldable pub FitsAs : Facts → ℕ → List Sort → Known → What → Basic → Read → Type 0
FitsAs c count env known AValue basic r = FitsValue c count env known basic r
FitsAs c count env known APlace basic r = FitsPlace c count env known basic r
FitsAs c count env known (AnArray sized) basic r = FitsArray c count env known basic sized r
FitsAs c count env known AProcedureName basic r = Typed c count env r.actual AProcedure
FitsAs c count env known AFunctionName basic r = Unit {0}
FitsAs c count env known (AnExit label) basic r = Typed c count env r.actual (ALabel label)
FitsAs c count env known NoOperand basic r = ⊥

unfoldable pub Fits : Facts → ℕ → List Sort → Known → Judged → Read → Type 0
Fits c count env known j r = FitsAs c count env known j.what j.basic r

-- a variable or an array as it is known and as it is in the unit
pub record AgreesOnVariable (c : Facts) (known : Known) (x : Bytes) : Type 0 where
  pub class_is : IsTrue (is_variable (c.program.attribute x).class)
  pub basic_is : (c.program.attribute x).basic ≡ (known.attribute x).basic
  pub rank_is : rank_of c x ≡ length (known.attribute x).dimensions
  pub size_is : IsTrue (has_size (known.attribute x).dimensions) → IsTrue (has_size (c.program.attribute x).dimensions)
  pub has_values : IsValued (known.attribute x).basic

-- a constant has a value of its type, and is no array (8.6)
pub record IsConstant (count : ℕ) (a : Attribute) : Type 0 where
  pub value : Datum
  pub value_is : a.constant ≡ Some value
  pub typed : IsOf count (ValueOf a.basic) value
  pub no_array : is_array a ≡ false

-- a term by which a name is replaced
pub record IsReplaced (c : Facts) (count : ℕ) (env : List Sort) (a : Attribute) : Type 0 where
  pub term : Term
  pub term_is : a.expansion ≡ Some term
  pub typed : Typed c count env term (ValueOf a.basic)

-- What is known of the names is what they are in a unit: variables, constants, procedures, statement functions over
-- the types of their dummy arguments, and the dummy arguments of the statement function that is being defined.
pub record Agrees (c : Facts) (count : ℕ) (env : List Sort) (known : Known) : Type 0 where
  pub variables : (x : Bytes) → IsTrue (is_variable (known.attribute x).class) → AgreesOnVariable c known x
  pub constants : (x : Bytes) → (known.attribute x).class ≡ class.Constant → IsConstant count (known.attribute x)
  pub procedures : (x : Bytes) → IsTrue (is_procedure_name (known.attribute x).class) → IsTrue (is_procedure_name (c.program.attribute x).class)
  pub callees : (x : Bytes) → IsTrue (is_callee (known.attribute x).class) → IsTrue (is_callee (c.program.attribute x).class)
  pub functions : (x : Bytes) (basics : List Basic) → (known.attribute x).class ≡ class.StatementFunction → known.dummies x ≡ Some basics →
      IsReplaced c count (map ValueOf basics) (known.attribute x)
  pub dummies : (x : Bytes) → (known.attribute x).class ≡ class.StatementFunction → known.is_bound x ≡ true → IsReplaced c count env (known.attribute x)

-- a name is read as it is known, or it is known to be none that stands in an expression
pub data IsReadAs (known : Known) (names : Bytes → Attribute) (x : Bytes) : Type 0 where
  read_alike : names x ≡ known.attribute x → IsReadAs known names x
  never_read : (known.attribute x).class ≡ class.Unit → IsReadAs known names x

-- An expression that breaks no row is read as what it is judged to be, wherever what is known of the names is what they are
-- and what they are read as.
abbrev pub EachFaultlessExpressionIsTyped : Type 0
EachFaultlessExpressionIsTyped = (c : Facts) (count : ℕ) (env : List Sort) (known : Known) (names : Bytes → Attribute) (e : Expr) → Agrees c count env known →
    ((x : Bytes) → IsReadAs known names x) → (judge known e).faults ≡ [] → Fits c count env known (judge known e) (read names e)
