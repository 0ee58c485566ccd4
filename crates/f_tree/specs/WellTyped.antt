-- Expressions that are well typed: each operand is of the type that its place wants, each name is what the unit
-- declares, and each subscript has its dimension. Of these it is said that valuing never comes to a form without meaning.
-- ANSI X3.9-1978, sections 5 (arrays and substrings), 6 (expressions) and 15 (functions).
use Rattle.std.specs.Prelude.{◌≡◌, ℕ, zero, suc, ◌<◌, ℤ, Bool, true, false, List, [], ◌∷◌, length, replicate, Some, None, is_some, IsTrue, codes, pos}
use Rattle.f_tree.specs.declared.names.Basic.{Basic}
use Rattle.f_tree.specs.declared.names.Basic.TheVariants.{Integer, Logical, Character}
use Rattle.f_tree.specs.declared.names.Class.{Class}
use Rattle.f_tree.specs.declared.names.Class.TheVariants as class
use Rattle.f_tree.specs.Values.{Bytes, Spot, Datum, IsInt, IsLog, IsText, IsSpot, IsProc, IsLabel, Nothing, Act, NoMeaning, Checked, Gives, Fails}
use Rattle.f_tree.specs.Terms.{Prefix, Negate, Complement, Operator, Add, Subtract, Multiply, Divide, IsLess, IsLessOrEqual, IsEqual, IsNotEqual, IsGreater, IsGreaterOrEqual, Both, Either, Same, Different, Function, Power, Truncation, Magnitude, Remainder, SignTransfer, PositiveDifference, Largest, Smallest, CharacterCode, CharacterOfCode, TextLength, IndexOf, LexicallyGreaterOrEqual, LexicallyGreater, LexicallyLessOrEqual, LexicallyLess, Front, Fitted, InclusiveOr, LogicalProduct, ExclusiveOr, BitComplement, BitShift, BitTest, BitSet, BitClear, Wanted, AsSubroutine, AsFunction, Callee, Term, Val, Fetch, At, All, Element, Alone, Part, Joined, Before, Between, Intrinsically, Refer, Bind, Bound, Terms, NoMore, More}
use Rattle.f_tree.specs.Store.{Store}
use Rattle.f_tree.specs.Facts.{Dimension, Facts, Frame}
use Rattle.f_tree.specs.Attributes.{bare, no_program, no_frame}
use Rattle.f_tree.specs.Valuing.{Red, Valued, Bad, Asks, whole, bounds_of, elements_of, prefixed, operated, applied, reduce, reduce_all}

-- what an operand is: a value of a type, a place of a type, a procedure, a label, or none
pub data Sort : Type 0 where
  ValueOf : Basic → Sort
  PlaceOf : Basic → Sort
  AProcedure : Sort
  ALabel : ℕ → Sort
  Absent : Sort

-- what is of a sort; a place stands in one of so many sequences
pub data IsOf (count : ℕ) : Sort → Datum → Type 0 where
  integer : (z : ℤ) → IsOf count (ValueOf Integer) (IsInt z)
  logical : (b : Bool) → IsOf count (ValueOf Logical) (IsLog b)
  text : (cs : Bytes) → IsOf count (ValueOf Character) (IsText cs)
  place : (p : Spot) (basic : Basic) → p.basic ≡ basic → p.sequence < count → IsOf count (PlaceOf basic) (IsSpot p)
  procedure : (x : Bytes) → IsOf count AProcedure (IsProc x)
  label : (l : ℕ) → IsOf count (ALabel l) (IsLabel l)
  nothing : IsOf count Absent Nothing

pub data AreOf (count : ℕ) : List Sort → List Datum → Type 0 where
  none_of : AreOf count [] []
  more_of : (sort : Sort) (sorts : List Sort) (d : Datum) (ds : List Datum) → IsOf count sort d → AreOf count sorts ds → AreOf count (sort ∷ sorts) (d ∷ ds)

-- an act that is named in what a run may meet
unfoldable pub is_named : Act → Bool
is_named NoMeaning = false
is_named _ = true

-- an answer with a property, or an act that is named
unfoldable pub Answers : {A : Type 0} → (A → Type 0) → Checked A → Type 0
Answers P (Gives a) = P a
Answers P (Fails act) = IsTrue (is_named act)

-- what a call is to answer
unfoldable pub IsAnswer : ℕ → Wanted → Datum → Type 0
IsAnswer count AsSubroutine d = Unit {0}
IsAnswer count (AsFunction basic width) d = IsOf count (ValueOf basic) d

-- types that have values
pub data IsValued : Basic → Type 0 where
  integers : IsValued Integer
  logicals : IsValued Logical
  texts : IsValued Character

-- operators with the type of their operand and of their value (6.1, 6.4)
pub data Precedes : Prefix → Basic → Type 0 where
  negates : Precedes Negate Integer
  complements : Precedes Complement Logical

-- operators with the type of their operands and of their value (6.1, 6.3, 6.4)
pub data Operates : Operator → Basic → Basic → Type 0 where
  adds : Operates Add Integer Integer
  subtracts : Operates Subtract Integer Integer
  multiplies : Operates Multiply Integer Integer
  divides : Operates Divide Integer Integer
  less : Operates IsLess Integer Logical
  less_or_equal : Operates IsLessOrEqual Integer Logical
  equal : Operates IsEqual Integer Logical
  not_equal : Operates IsNotEqual Integer Logical
  greater : Operates IsGreater Integer Logical
  greater_or_equal : Operates IsGreaterOrEqual Integer Logical
  text_less : Operates IsLess Character Logical
  text_less_or_equal : Operates IsLessOrEqual Character Logical
  text_equal : Operates IsEqual Character Logical
  text_not_equal : Operates IsNotEqual Character Logical
  text_greater : Operates IsGreater Character Logical
  text_greater_or_equal : Operates IsGreaterOrEqual Character Logical
  both : Operates Both Logical Logical
  either : Operates Either Logical Logical
  same : Operates Same Logical Logical
  different : Operates Different Logical Logical

abbrev pub integers_of : ℕ → List Sort
integers_of n = replicate n (ValueOf Integer)

-- the pieces of a concatenation: values and places of type CHARACTER
pub data IsPiece : Sort → Type 0 where
  piece_value : IsPiece (ValueOf Character)
  piece_place : IsPiece (PlaceOf Character)

pub data ArePieces : List Sort → Type 0 where
  no_pieces : ArePieces []
  more_pieces : (sort : Sort) (sorts : List Sort) → IsPiece sort → ArePieces sorts → ArePieces (sort ∷ sorts)

-- functions with the sorts of their arguments and the type of their value (15.10, MIL-STD-1753)
pub data Applies : Function → List Sort → Basic → Type 0 where
  power : Applies Power (ValueOf Integer ∷ ValueOf Integer ∷ []) Integer
  truncation : Applies Truncation (ValueOf Integer ∷ []) Integer
  magnitude : Applies Magnitude (ValueOf Integer ∷ []) Integer
  remainder : Applies Remainder (ValueOf Integer ∷ ValueOf Integer ∷ []) Integer
  sign_transfer : Applies SignTransfer (ValueOf Integer ∷ ValueOf Integer ∷ []) Integer
  positive_difference : Applies PositiveDifference (ValueOf Integer ∷ ValueOf Integer ∷ []) Integer
  largest : (n : ℕ) → Applies Largest (ValueOf Integer ∷ integers_of n) Integer
  smallest : (n : ℕ) → Applies Smallest (ValueOf Integer ∷ integers_of n) Integer
  character_code : Applies CharacterCode (ValueOf Character ∷ []) Integer
  character_of_code : Applies CharacterOfCode (ValueOf Integer ∷ []) Character
  length_of_pieces : (sort : Sort) (sorts : List Sort) → ArePieces (sort ∷ sorts) → Applies TextLength (sort ∷ sorts) Integer
  index_of : Applies IndexOf (ValueOf Character ∷ ValueOf Character ∷ []) Integer
  lexically_greater_or_equal : Applies LexicallyGreaterOrEqual (ValueOf Character ∷ ValueOf Character ∷ []) Logical
  lexically_greater : Applies LexicallyGreater (ValueOf Character ∷ ValueOf Character ∷ []) Logical
  lexically_less_or_equal : Applies LexicallyLessOrEqual (ValueOf Character ∷ ValueOf Character ∷ []) Logical
  lexically_less : Applies LexicallyLess (ValueOf Character ∷ ValueOf Character ∷ []) Logical
  front : (n : ℕ) → Applies (Front n) (ValueOf Character ∷ []) Character
  fitted : (n : ℕ) → Applies (Fitted n) (ValueOf Character ∷ []) Character
  inclusive_or : Applies InclusiveOr (ValueOf Integer ∷ ValueOf Integer ∷ []) Integer
  logical_product : Applies LogicalProduct (ValueOf Integer ∷ ValueOf Integer ∷ []) Integer
  exclusive_or : Applies ExclusiveOr (ValueOf Integer ∷ ValueOf Integer ∷ []) Integer
  bit_complement : Applies BitComplement (ValueOf Integer ∷ []) Integer
  bit_shift : Applies BitShift (ValueOf Integer ∷ ValueOf Integer ∷ []) Integer
  bit_test : Applies BitTest (ValueOf Integer ∷ ValueOf Integer ∷ []) Logical
  bit_set : Applies BitSet (ValueOf Integer ∷ ValueOf Integer ∷ []) Integer
  bit_clear : Applies BitClear (ValueOf Integer ∷ ValueOf Integer ∷ []) Integer

-- names of variables and arrays, and of procedures (18)
unfoldable pub is_variable : Class → Bool
is_variable class.Stored = true
is_variable class.Dummy = true
is_variable class.Result = true
is_variable _ = false

unfoldable pub is_procedure_name : Class → Bool
is_procedure_name class.Procedure = true
is_procedure_name class.DummyProcedure = true
is_procedure_name class.Intrinsic = true
is_procedure_name _ = false

pub record IsVariable (c : Facts) (x : Bytes) (basic : Basic) : Type 0 where
  pub class_is : IsTrue (is_variable (c.program.attribute x).class)
  pub basic_is : (c.program.attribute x).basic ≡ basic

abbrev pub rank_of : Facts → Bytes → ℕ
rank_of c x = length (c.program.attribute x).dimensions

-- is an array not of assumed size (5.1.2)
unfoldable pub has_size : List Dimension → Bool
has_size [] = true
has_size (d ∷ ds) = elim d.upper [ None ↦ false | Some t ↦ has_size ds ]

-- names that a reference or a CALL may name: procedures, and the names of a unit and of its entries (15.5, 15.6)
unfoldable pub is_callee : Class → Bool
is_callee class.Procedure = true
is_callee class.DummyProcedure = true
is_callee class.Result = true
is_callee class.Unit = true
is_callee _ = false

-- a reference that may be made: a name that may be called as a function, with operands of some sorts
pub record IsReference (c : Facts) (count : ℕ) (callee : Callee) (ds : List Datum) : Type 0 where
  pub class_is : IsTrue (is_callee (c.program.attribute callee.name).class)
  pub basic : Basic
  pub width : ℕ
  pub want_is : callee.want ≡ AsFunction basic width
  pub sorts : List Sort
  pub operands : AreOf count sorts ds

-- valuing comes to what has a property, to an act that is named, or to a call, with whose answer the rest has another property
unfoldable pub Meant : {A T : Type 0} → Facts → ℕ → (A → Type 0) → (T → Type 0) → Red A T → Type 0
Meant c count P Q (Valued a) = P a
Meant c count P Q (Bad act) = IsTrue (is_named act)
Meant c count P Q (Asks callee ds rest) = IsReference c count callee ds × ((d : Datum) → IsAnswer count callee.want d → Q (rest d))

-- the last place of a substring is written or not
pub data IsLast : Sort → Type 0 where
  written_last : IsLast (ValueOf Integer)
  own_last : IsLast Absent

-- the sort of an argument of a statement function, counted from 0
pub data IsNth : List Sort → ℕ → Sort → Type 0 where
  first_one : (sort : Sort) (sorts : List Sort) → IsNth (sort ∷ sorts) zero sort
  later_one : (other : Sort) (sorts : List Sort) (k : ℕ) (sort : Sort) → IsNth sorts k sort → IsNth (other ∷ sorts) (suc k) sort

mutual
  -- a term of a sort, over the sorts of the arguments of the statement function around it
  pub data Typed (c : Facts) (count : ℕ) : List Sort → Term → Sort → Type 0 where
    is_val : (env : List Sort) (d : Datum) (sort : Sort) → IsOf count sort d → Typed c count env (Val d) sort
    is_fetch : (env : List Sort) (t : Term) (basic : Basic) → IsValued basic → Typed c count env t (PlaceOf basic) → Typed c count env (Fetch t) (ValueOf basic)
    is_at : (env : List Sort) (x : Bytes) (basic : Basic) → IsVariable c x basic → Typed c count env (At x) (PlaceOf basic)
    is_named_procedure : (env : List Sort) (x : Bytes) → IsTrue (is_procedure_name (c.program.attribute x).class) → Typed c count env (At x) AProcedure
    is_all : (env : List Sort) (x : Bytes) (basic : Basic) → IsVariable c x basic → IsTrue (has_size (c.program.attribute x).dimensions) → Typed c count env (All x) (PlaceOf basic)
    is_element : (env : List Sort) (x : Bytes) (ts : Terms) (basic : Basic) → IsVariable c x basic → AreTyped c count env ts (integers_of (rank_of c x)) →
        Typed c count env (Element x ts) (PlaceOf basic)
    is_alone : (env : List Sort) (t : Term) (basic : Basic) → Typed c count env t (PlaceOf basic) → Typed c count env (Alone t) (PlaceOf basic)
    is_part : (env : List Sort) (x : Bytes) (t from to : Term) (last : Sort) → IsLast last → Typed c count env t (PlaceOf Character) →
        Typed c count env from (ValueOf Integer) → Typed c count env to last → Typed c count env (Part x t from to) (PlaceOf Character)
    is_joined : (env : List Sort) (ts : Terms) (sorts : List Sort) → ArePieces sorts → AreTyped c count env ts sorts → Typed c count env (Joined ts) (ValueOf Character)
    is_before : (env : List Sort) (op : Prefix) (t : Term) (basic : Basic) → Precedes op basic → Typed c count env t (ValueOf basic) →
        Typed c count env (Before op t) (ValueOf basic)
    is_between : (env : List Sort) (op : Operator) (t u : Term) (basic result : Basic) → Operates op basic result → Typed c count env t (ValueOf basic) →
        Typed c count env u (ValueOf basic) → Typed c count env (Between op t u) (ValueOf result)
    is_intrinsic : (env : List Sort) (function : Function) (ts : Terms) (sorts : List Sort) (basic : Basic) → Applies function sorts basic →
        AreTyped c count env ts sorts → Typed c count env (Intrinsically function ts) (ValueOf basic)
    is_refer : (env : List Sort) (x : Bytes) (basic : Basic) (width : ℕ) (ts : Terms) (sorts : List Sort) → IsTrue (is_callee (c.program.attribute x).class) →
        AreTyped c count env ts sorts →
        Typed c count env (Refer (record { name = x; want = AsFunction basic width }) ts) (ValueOf basic)
    is_bind : (env : List Sort) (ts : Terms) (sorts : List Sort) (t : Term) (sort : Sort) → AreTyped c count env ts sorts → Typed c count sorts t sort →
        Typed c count env (Bind ts t) sort
    is_bound : (env : List Sort) (k : ℕ) (sort : Sort) → IsNth env k sort → Typed c count env (Bound k) sort

  pub data AreTyped (c : Facts) (count : ℕ) : List Sort → Terms → List Sort → Type 0 where
    no_terms : (env : List Sort) → AreTyped c count env NoMore []
    more_terms : (env : List Sort) (t : Term) (ts : Terms) (sort : Sort) (sorts : List Sort) → Typed c count env t sort → AreTyped c count env ts sorts →
        AreTyped c count env (More t ts) (sort ∷ sorts)

-- what a variable or array stands for: a place of its type, with bounds for its dimensions
pub record IsHeld (c : Facts) (f : Frame) (count : ℕ) (x : Bytes) (d : Datum) : Type 0 where
  pub placed : IsOf count (PlaceOf (c.program.attribute x).basic) d
  pub ranked : length (bounds_of c f x) ≡ rank_of c x
  pub sized : IsTrue (has_size (c.program.attribute x).dimensions) → IsTrue (is_some (elements_of (bounds_of c f x)))

-- what an active procedure holds to: each variable stands for a place of its type, each procedure name for a procedure
pub record Sound (c : Facts) (f : Frame) (count : ℕ) : Type 0 where
  pub variables : (x : Bytes) → IsTrue (is_variable (c.program.attribute x).class) → Answers (IsHeld c f count x) (whole c f x)
  pub procedures : (x : Bytes) → IsTrue (is_procedure_name (c.program.attribute x).class) → Answers (IsOf count AProcedure) (whole c f x)

-- a well-typed expression comes to a value of its sort, to an act that is named, or to a call, with whose answer it is well typed again
abbrev pub EachTermIsMeant : Type 0
EachTermIsMeant = (c : Facts) (f : Frame) (s : Store) → Sound c f (length s) → (sorts : List Sort) (env : List Datum) → AreOf (length s) sorts env →
    (t : Term) (sort : Sort) → Typed c (length s) sorts t sort →
    Meant c (length s) (IsOf (length s) sort) (λ rest. Typed c (length s) sorts rest sort) (reduce c f s env t)

-- and so do operands, from left to right
abbrev pub EachListIsMeant : Type 0
EachListIsMeant = (c : Facts) (f : Frame) (s : Store) → Sound c f (length s) → (env : List Sort) (values : List Datum) → AreOf (length s) env values →
    (ts : Terms) (sorts : List Sort) → AreTyped c (length s) env ts sorts →
    Meant c (length s) (AreOf (length s) sorts) (λ rest. AreTyped c (length s) env rest sorts) (reduce_all c f s values ts)

-- the operators and the functions of well-typed operands
abbrev pub EachPrefixIsMeant : Type 0
EachPrefixIsMeant = (n : ℕ) (op : Prefix) (basic : Basic) (d : Datum) → Precedes op basic → IsOf n (ValueOf basic) d → Answers (IsOf n (ValueOf basic)) (prefixed op d)

abbrev pub EachOperatorIsMeant : Type 0
EachOperatorIsMeant = (n : ℕ) (op : Operator) (basic result : Basic) (a b : Datum) → Operates op basic result → IsOf n (ValueOf basic) a → IsOf n (ValueOf basic) b →
    Answers (IsOf n (ValueOf result)) (operated op a b)

abbrev pub EachFunctionIsMeant : Type 0
EachFunctionIsMeant = (n : ℕ) (function : Function) (sorts : List Sort) (basic : Basic) (ds : List Datum) → Applies function sorts basic → AreOf n sorts ds →
    Answers (IsOf n (ValueOf basic)) (applied function ds)

-- a unit in which each name is an integer variable, all in one numeric storage unit
unfoldable pub one_variable : Facts
one_variable = record {
  program = record no_program { attribute = λ x. record (bare class.Stored None) { basic = Integer; width = Some 4 } };
  home = λ x. Some (record { sequence = 0; first = 0 });
}

-- what is said above is met: there is such a unit, and in it `I+3` is well typed
pub record IsMet : Type 0 where
  pub sound : Sound one_variable no_frame 1
  pub typed : Typed one_variable 1 [] (Between Add (Fetch (At (codes "i"))) (Val (IsInt (pos 3)))) (ValueOf Integer)
