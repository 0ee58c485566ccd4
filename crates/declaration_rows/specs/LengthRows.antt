-- The uses of length `(*)` that are refused (F39), and items that are too large (F53). ANSI X3.9-1978, sections 5.7 (substrings), 6.2
-- (concatenation), 6.3 (relations), 8.4.2 (CHARACTER), 10.4 (assignment), 15.9.3 (arguments) and 15.10 (intrinsic functions).
use Rattle.std.specs.Prelude.{ℕ, suc, ◌+◌, nat_lt, ℤ, pos, ◌-ℤ◌, int_lt, nat_abs, Bool, true, false, not, ◌&&◌, ◌||◌, List, [], ◌∷◌, ◌++◌, map, length, Option, Some, None, is_some, if◌then◌else◌}
use Rattle.std.specs.List.{list_any}
use Rattle.fortran_text.specs.f_tree.declared.names.Class.TheVariants as class
use Rattle.fortran_text.specs.f_tree.declared.expressions.Expr.{Expr}
use Rattle.fortran_text.specs.f_tree.declared.expressions.Expr as whole
use Rattle.fortran_text.specs.f_tree.declared.expressions.Expr.TheOpen as expr
use Rattle.fortran_text.specs.f_tree.declared.expressions.BinaryOp.{BinaryOp}
use Rattle.fortran_text.specs.f_tree.declared.expressions.BinaryOp.TheVariants as op
use Rattle.fortran_text.specs.f_tree.declared.refusals.Kind.{Kind}
use Rattle.fortran_text.specs.f_tree.declared.refusals.Kind.TheVariants.{UseOfAssumedLength, StorageTooLarge}
use Rattle.fortran_text.specs.f_tree.declared.refusals.Refusal.{Refusal}
use Rattle.fortran_text.specs.f_tree.declared.statements.Body.{Body}
use Rattle.fortran_text.specs.f_tree.declared.statements.Body.TheOpen as body
use Rattle.fortran_text.specs.f_tree.declared.statements.Control.{Control}
use Rattle.fortran_text.specs.f_tree.declared.statements.ControlValue.{ControlValue}
use Rattle.fortran_text.specs.f_tree.declared.statements.ControlValue.TheVariants as value
use Rattle.fortran_text.specs.f_tree.declared.statements.ControlWord.{ControlWord}
use Rattle.fortran_text.specs.f_tree.declared.statements.ControlWord.TheVariants as word
use Rattle.fortran_text.specs.f_tree.declared.statements.Stmt.{Stmt}
use Rattle.fortran_text.specs.f_tree.declared.units.Unit.{Unit as WrittenUnit}
use Rattle.fortran_text.specs.f_tree.Values.{Bytes, Datum, IsInt}
use Rattle.fortran_text.specs.f_tree.Folds.{fold_expr, fold_body}
use Rattle.fortran_text.specs.f_tree.Facts.{Attribute}
use Rattle.fortran_text.specs.f_tree.Attributes.{Constant, constants_of, constant_value, Definition, definitions_in, arrays_of, typed_name, option_list}
use Rattle.fortran_text.specs.f_tree.Lines.{Naming, is_character, size_of}
use Rattle.fortran_text.specs.f_tree.Uses.{is_among}
use Rattle.declaration_rows.specs.Judgement.{unless}
use Rattle.declaration_rows.specs.NameRows.{given_names, own_attributes, all_names, stood, at_first, mentions, first_statements, is_star}
use Rattle.declaration_rows.specs.ReferenceRows.{expressions_of_items, expressions_of_controls, expressions_of_control}
use Rattle.declaration_rows.specs.SharedStorageRows.{most_storage}

-- WHAT AN EXPRESSION SAYS OF LENGTHS
pub record Lengths : Type 0 where
  pub tree : Expr
  -- an operand of length (*) that is no constant
  pub star : Bool
  -- the same in parentheses, and nothing else
  pub parenthesised : Bool
  -- a concatenation with such an operand, which only a character assignment may assign
  pub joined : Bool
  -- such an operand stands somewhere in it
  pub has_star : Bool
  -- a reference of an external function or a statement function stands in it
  pub refers : Bool
  -- it uses such an operand as it may not, or has a length past the greatest
  pub misused : Bool
  pub too_long : Bool
  -- the greatest length, an operand of length (*) counting for nothing
  pub longest : ℕ

unfoldable pub with_tree : Expr → Lengths
with_tree e = record {
  tree = e;
  star = false;
  parenthesised = false;
  joined = false;
  has_star = false;
  refers = false;
  misused = false;
  too_long = false;
  longest = 0;
}

unfoldable pub any_of : (Lengths → Bool) → List Lengths → Bool
any_of test ls = list_any test ls

-- a concatenation is misused where it is no part of another one and is not assigned
unfoldable pub is_misused : Lengths → Bool
is_misused l = l.misused || l.joined

-- with what holds of its parts
unfoldable pub over : Expr → List Lengths → Lengths
over e ls = record (with_tree e) {
  has_star = any_of (λ l. l.has_star) ls;
  refers = any_of (λ l. l.refers) ls;
  misused = any_of is_misused ls;
  too_long = any_of (λ l. l.too_long) ls;
}

unfoldable pub trees : List Lengths → List Expr
trees ls = map (λ l. l.tree) ls

unfoldable pub option_tree : Option Lengths → Option Expr
option_tree None = None
option_tree (Some l) = Some l.tree

-- an operand of length (*) with a reference in a later one
unfoldable pub star_before_reference : List Lengths → Bool
star_before_reference [] = false
star_before_reference (l ∷ ls) = (l.star && any_of (λ m. m.refers) ls) || star_before_reference ls

unfoldable pub is_star_of : Attribute → Bool
is_star_of a = is_character a.basic && not (is_some a.width)

unfoldable pub declared_width : Option ℕ → ℕ
declared_width None = 0
declared_width (Some n) = n

unfoldable pub width_or_none : Attribute → ℕ
width_or_none a = if is_character a.basic then declared_width a.width else 0

-- a name, or a function by its list
unfoldable pub named : Attribute → Lengths → Lengths
named a l = record l { star = is_star_of a; has_star = l.has_star || is_star_of a; longest = width_or_none a }

unfoldable pub name_lengths : Attribute → Lengths → Lengths
name_lengths a l = elim a.class [ class.Constant ↦ record l { longest = width_or_none a } | _ ↦ named a l ]

-- a name with a list
unfoldable pub applied_lengths : Attribute → List Lengths → Lengths → Lengths
applied_lengths a ls l = elim a.class [
  | class.Intrinsic ↦ record l { misused = l.misused || star_before_reference ls; longest = 1 }
  | class.Procedure ↦ record (named a l) { refers = true; misused = l.misused || any_of (λ m. m.parenthesised) ls }
  | class.DummyProcedure ↦ record (named a l) { refers = true; misused = l.misused || any_of (λ m. m.parenthesised) ls }
  | class.Result ↦ record (named a l) { refers = true; misused = l.misused || any_of (λ m. m.parenthesised) ls }
  | class.StatementFunction ↦ record (named a l) { refers = true }
  | _ ↦ named a l
]

-- the length of a substring whose two places are constant, one that is left out being the first or the last
unfoldable pub integer_at : Option Datum → Option ℤ
integer_at (Some (IsInt z)) = Some z
integer_at _ = None

unfoldable pub place_value : List Constant → Option Expr → Option ℤ → Option ℤ
place_value cs None default = default
place_value cs (Some e) default = integer_at (constant_value cs e)

unfoldable pub span : Option ℤ → Option ℤ → Option ℕ
span (Some a) (Some b) = if int_lt b a then Some 0 else Some (suc (nat_abs (b -ℤ a)))
span _ _ = None

unfoldable pub last_by : Bool → ℕ → Option ℤ
last_by true n = None
last_by false n = Some (pos n)

unfoldable pub part_lengths : Option ℕ → Lengths → Lengths → Lengths
part_lengths None base l = record l { star = base.star; has_star = l.has_star || base.star; longest = base.longest }
part_lengths (Some n) base l = record l { longest = n }

unfoldable pub is_relation : BinaryOp → Bool
is_relation op.Less = true
is_relation op.LessOrEqual = true
is_relation op.Equal = true
is_relation op.NotEqual = true
is_relation op.Greater = true
is_relation op.GreaterOrEqual = true
is_relation _ = false

unfoldable pub is_joining : BinaryOp → Bool
is_joining op.Concatenate = true
is_joining _ = false

-- a concatenation: what its operands join is not misused yet
unfoldable pub joined_lengths : Lengths → Lengths → Lengths → Lengths
joined_lengths a b l = record l {
  joined = a.star || (b.star || (a.joined || b.joined));
  misused = a.misused || b.misused;
  too_long = l.too_long || nat_lt most_storage (a.longest + b.longest);
  longest = a.longest + b.longest;
}

unfoldable pub binary_lengths : BinaryOp → Lengths → Lengths → Lengths → Lengths
binary_lengths o a b l =
    if is_joining o then joined_lengths a b l
    else record l { misused = l.misused || (is_relation o && star_before_reference (a ∷ b ∷ [])) }

-- parentheses change nothing for a concatenation
unfoldable pub paren_lengths : Lengths → Lengths → Lengths
paren_lengths a l = record l {
  parenthesised = a.star || a.parenthesised;
  star = a.star;
  joined = a.joined;
  misused = a.misused;
  longest = a.longest;
}

unfoldable pub layer_lengths : Naming → List Constant → expr.Expr-F Lengths → Lengths
layer_lengths names cs (expr.Int z) = with_tree (whole.Int z)
layer_lengths names cs (expr.Logical b) = with_tree (whole.Logical b)
layer_lengths names cs (expr.Text t) = record (with_tree (whole.Text t)) { longest = length t }
layer_lengths names cs (expr.Name x) = name_lengths (names x) (with_tree (whole.Name x))
layer_lengths names cs (expr.Apply x ls) = applied_lengths (names x) ls (over (whole.Apply x (trees ls)) ls)
layer_lengths names cs (expr.Part l from to) =
    part_lengths (span (place_value cs (option_tree from) (Some (pos 1))) (place_value cs (option_tree to) (last_by l.star l.longest))) l
    (over (whole.Part l.tree (option_tree from) (option_tree to)) (l ∷ option_list from ++ option_list to))
layer_lengths names cs (expr.Minus l) = over (whole.Minus l.tree) (l ∷ [])
layer_lengths names cs (expr.Plus l) = over (whole.Plus l.tree) (l ∷ [])
layer_lengths names cs (expr.Not l) = over (whole.Not l.tree) (l ∷ [])
layer_lengths names cs (expr.Paren l) = paren_lengths l (over (whole.Paren l.tree) (l ∷ []))
layer_lengths names cs (expr.Binary o a b) = binary_lengths o a b (over (whole.Binary o a.tree b.tree) (a ∷ b ∷ []))
layer_lengths names cs (expr.AltReturn label) = with_tree (whole.AltReturn label)
layer_lengths names cs (expr.Bind ls l) = over (whole.Bind (trees ls) l.tree) (ls ++ l ∷ [])
layer_lengths names cs (expr.Bound k) = with_tree (whole.Bound k)

unfoldable pub lengths_of : Naming → List Constant → Expr → Lengths
lengths_of names cs e = fold_expr (layer_lengths names cs) e

-- STATEMENTS
pub record LengthFaults : Type 0 where
  pub misused : Bool
  pub too_long : Bool

unfoldable pub no_faults : LengthFaults
no_faults = record { misused = false; too_long = false }

unfoldable pub faults_of : List Lengths → LengthFaults
faults_of ls = record { misused = any_of is_misused ls; too_long = any_of (λ l. l.too_long) ls }

-- an assignment may assign what it joins; where its left side has a reference, no operand of length (*) may stand in it
unfoldable pub assigned_faults : Lengths → Lengths → LengthFaults
assigned_faults target e = record {
  misused = is_misused target || (e.misused || (target.refers && (target.has_star || e.has_star)));
  too_long = target.too_long || e.too_long;
}

unfoldable pub both_faults : LengthFaults → LengthFaults → LengthFaults
both_faults a b = record { misused = a.misused || b.misused; too_long = a.too_long || b.too_long }

-- FILE= with nothing but such an operand in parentheses
unfoldable pub is_file_alone : Naming → List Constant → ControlWord → ControlValue → Bool
is_file_alone names cs word.File (value.Value e) = (lengths_of names cs e).parenthesised
is_file_alone names cs _ _ = false

unfoldable pub files_alone : Naming → List Constant → List Control → Bool
files_alone names cs controls = list_any (λ (c : Control). is_file_alone names cs c.word c.value) controls

unfoldable pub controls_faults : Naming → List Constant → List Control → LengthFaults
controls_faults names cs controls =
    both_faults (record { misused = files_alone names cs controls; too_long = false }) (faults_of (map (lengths_of names cs) (expressions_of_controls controls)))

-- arguments of CALL: none is such an operand in parentheses
unfoldable pub arguments_faults : List Lengths → LengthFaults
arguments_faults ls = both_faults (record { misused = any_of (λ l. l.parenthesised) ls; too_long = false }) (faults_of ls)

unfoldable pub layer_length_faults : Naming → List Constant → body.Body-F LengthFaults → LengthFaults
layer_length_faults names cs (body.Assign target e) = assigned_faults (lengths_of names cs target) (lengths_of names cs e)
layer_length_faults names cs (body.GotoList labels e) = faults_of (lengths_of names cs e ∷ [])
layer_length_faults names cs (body.IfSign e below at above) = faults_of (lengths_of names cs e ∷ [])
layer_length_faults names cs (body.IfOne e faults) = both_faults (faults_of (lengths_of names cs e ∷ [])) faults
layer_length_faults names cs (body.IfThen e) = faults_of (lengths_of names cs e ∷ [])
layer_length_faults names cs (body.ElseIf e) = faults_of (lengths_of names cs e ∷ [])
layer_length_faults names cs (body.Do label control) = faults_of (map (lengths_of names cs) (expressions_of_control control))
layer_length_faults names cs (body.DoWhile label e) = faults_of (lengths_of names cs e ∷ [])
layer_length_faults names cs (body.Call x es) = arguments_faults (map (lengths_of names cs) es)
layer_length_faults names cs (body.Return e) = faults_of (map (lengths_of names cs) (option_list e))
layer_length_faults names cs (body.Transfer way controls items) =
    both_faults (controls_faults names cs controls) (faults_of (map (lengths_of names cs) (expressions_of_items items)))
layer_length_faults names cs (body.Auxiliary which controls) = controls_faults names cs controls
layer_length_faults names cs _ = no_faults

-- In the definition of a statement function its dummy arguments have the types of their names; none has length (*).
unfoldable pub dummies_star : WrittenUnit → List Definition → Bool
dummies_star u [] = false
dummies_star u (d ∷ ds) = list_any (λ y. is_character (own_attributes u y).basic && is_star (typed_name u y).length) d.dummies || dummies_star u ds

unfoldable pub names_for : WrittenUnit → List Definition → Naming
names_for u [] x = given_names u x
names_for u (d ∷ ds) x = if is_among x d.dummies then own_attributes u x else given_names u x

unfoldable pub statement_length_rows : WrittenUnit → Body → List Kind
statement_length_rows u b =
    let definitions = definitions_in (arrays_of u) b in
    let faults = fold_body (layer_length_faults (names_for u definitions) (constants_of u)) b in
    unless (not (faults.misused || dummies_star u definitions)) UseOfAssumedLength ++ unless (not faults.too_long) StorageTooLarge

unfoldable pub length_rows_from : WrittenUnit → List Stmt → List Refusal
length_rows_from u [] = []
length_rows_from u (s ∷ ss) = stood s (statement_length_rows u s.body) ++ length_rows_from u ss

-- NAMES. Length (*) belongs to dummies, constants, and the names of a function and its entries; a stored name has it nowhere, which the rows of
-- its bounds tell. A procedure that is no dummy has none either.
unfoldable pub is_external_star : WrittenUnit → Bytes → Attribute → Bool
is_external_star u x a = elim a.class [
  | class.Procedure ↦ is_character a.basic && is_star (typed_name u x).length
  | class.StatementFunction ↦ is_character a.basic && is_star (typed_name u x).length
  | _ ↦ false
]

-- F53 of one item: what is stored, and a declared length
unfoldable pub is_large_item : Attribute → Bool
is_large_item a = elim a.class [
  | class.Stored ↦ nat_lt most_storage (size_of a)
  | _ ↦ is_character a.basic && nat_lt most_storage (declared_width a.width)
]

unfoldable pub item_rows : WrittenUnit → List Bytes → List Refusal
item_rows u [] = []
item_rows u (x ∷ xs) =
    at_first u (mentions u x) (first_statements u x)
    (unless (not (is_external_star u x (given_names u x))) UseOfAssumedLength ++ unless (not (is_large_item (given_names u x))) StorageTooLarge)
    ++ item_rows u xs

unfoldable pub unit_length_rows : WrittenUnit → List Refusal
unit_length_rows u = length_rows_from u u.statements ++ item_rows u (all_names u)

unfoldable pub length_rows_opened : Unit {0}
unfolding most_storage with_tree any_of is_misused over trees option_tree star_before_reference is_star_of declared_width width_or_none named name_lengths applied_lengths integer_at place_value span last_by part_lengths is_relation is_joining joined_lengths binary_lengths paren_lengths layer_lengths lengths_of no_faults faults_of assigned_faults both_faults is_file_alone files_alone controls_faults arguments_faults layer_length_faults dummies_star names_for statement_length_rows length_rows_from is_external_star is_large_item item_rows unit_length_rows
length_rows_opened = tt
