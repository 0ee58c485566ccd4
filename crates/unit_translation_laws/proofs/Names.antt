-- The names of a function of the file are told apart.
use Rattle.std.specs.Prelude.{◌≡◌, ◌≢◌, ℕ, suc, ◌+◌, ◌<◌, ◌≤◌, ◌^◌, ◌%◌, ℤ, pos, negsuc, nat_abs, Bool, true, false, List, [], ◌∷◌, ◌++◌, map, length, reverse, Option, Some, None, codes, decimal, if◌then◌else◌}
use Rattle.std.proofs.Common.{refl, sym, ap, ◌∙◌, subst, arith}
use Rattle.std.proofs.lemmas.List.{append_assoc, reverse-append}
use Rattle.std.proofs.lemmas.Fmt.{decimal_by_steps}
use Rattle.unit_translation.specs.f_tree.Values.{Bytes}
use Rattle.unit_translation.specs.f_tree.CNames.{is_name, has_underscore, external_name, variable_name, constant_name, made_name, FunctionResult, ConstantOf, DimensionOf, LowerBoundOf}
use Rattle.unit_translation.specs.f_tree.Setting.{IsIn, first_in, later_in}
use Rattle.main_translation_laws.proofs.fortran_laws.CNameLaws.{variable_name-injective, variable_name-not_made, variable_name-external}
use Rattle.unit_translation.specs.c_tree.declared.types.NumberType.{NumberType}
use Rattle.unit_translation.specs.main_file.MainFile.{list_names, temporary_names}
use Rattle.main_translation_laws.proofs.Lists.{AreApart, none_apart, one_apart, InEither, in_one, in_other, in_either, in_map, in_at, apart_append, apart_map, distinct_by, none_by}
use Rattle.main_translation_laws.proofs.Names.{IsConstantName, of_constant, IsTemporaryName, of_temporary, IsListName, of_list, IsVariableName, of_variable, IsCalledName, same_first, constant_front, temporary_front, list_front, constant_temporary, constant_list, constant_variable, constant_called, temporary_list, temporary_variable, variable_list, called_temporary, called_list, called_variable, constants_told, temporaries_apart, lists_apart, list_among, temporary_among, variable_names_apart}
use Rattle.unit_translation.specs.unit_file.UnitFile.{Variable, Parameter, Callee, KeptBound, Inventory, bound_name, result_names, lasting_names, framed_names}
use Rattle.unit_translation.specs.unit_file.UnitNames.{constant_names, called_names}
use Rattle.unit_programs.specs.unit_file_laws.KnownUnits.{NamesDiffer}
use Rattle.bound_names.specs.BoundNames.{IsBoundName, of_lower, of_size, IsNoDigit}
use Rattle.bound_names.proofs.ToldNames.{bounds_are_no_temporaries, bounds_are_no_lists, bounds_are_no_constants, bounds_end_in_digits}

-- ## The last byte of a name

pub record HasLast (name : List ℕ) (byte : ℕ) : Type 0 where
  pub front : List ℕ
  pub is : name ≡ front ++ byte ∷ []

lasts_differ : (x y : List ℕ) (a b : ℕ) → HasLast x a → HasLast y b → a ≢ b → x ≢ y
lasts_differ x y a b one other differ same =
    let backward : a ∷ reverse one.front ≡ b ∷ reverse other.front = sym (reverse-append one.front (a ∷ [])) ∙ ap reverse (sym one.is ∙ same ∙ other.is) ∙ reverse-append other.front (b ∷ []) in
    differ (same_first a b (reverse one.front) (reverse other.front) backward)

pub last_behind : (front name : List ℕ) (byte : ℕ) → HasLast name byte → HasLast (front ++ name) byte
last_behind front name byte one = record { front = front ++ one.front; is = ap (λ rest. front ++ rest) one.is ∙ sym (append_assoc front one.front (byte ∷ [])) }

external_by : (x : Bytes) (b : Bool) → HasLast (if b then x ++ codes "__" else x ++ codes "_") 95
external_by x true = last_behind x (codes "__") 95 (record { front = codes "_"; is = refl })
external_by x false = record { front = x; is = refl }

pub external_last : (x : Bytes) → HasLast (external_name x) 95
unfolding external_name
external_last x = external_by x (has_underscore x)

-- a name that does not end in an underscore
pub record IsClosedName (name : List ℕ) : Type 0 where
  pub byte : ℕ
  pub last : HasLast name byte
  pub other : byte ≢ 95

decimal_closed : (n : ℕ) → n < 2 ^ 64 → IsClosedName (decimal n)
decimal_closed n small =
    decimal_by_steps (λ m ds. IsClosedName ds)
    (λ m below. record { byte = 48 + m; last = record { front = []; is = refl }; other = λ same. omega (arith, below, same) })
    (λ m ds _ _. record { byte = 48 + m % 10; last = record { front = ds; is = refl }; other = λ same. omega (arith, same) })
    n small

numbered_closed : (front : List ℕ) (n : ℕ) → n < 2 ^ 64 → IsClosedName (front ++ decimal n)
numbered_closed front n small = let d = decimal_closed n small in record { byte = d.byte; last = last_behind front (decimal n) d.byte d.last; other = d.other }

constant_is_closed : (z : ℤ) → nat_abs z < 2 ^ 64 → IsClosedName (made_name (ConstantOf z))
unfolding made_name constant_name
constant_is_closed (pos n) small = numbered_closed (codes "c__") n small
constant_is_closed (negsuc n) small = numbered_closed (codes "c_n") (suc n) small

constant_closed : (name : List ℕ) → IsConstantName name → IsClosedName name
constant_closed name (of_constant z small is) = subst IsClosedName (sym is) (constant_is_closed z small)

temporary_closed : (name : List ℕ) → IsTemporaryName name → IsClosedName name
unfolding made_name
temporary_closed name (of_temporary k small is) = subst IsClosedName (sym is) (numbered_closed (codes "i__") k small)

list_closed : (name : List ℕ) → IsListName name → IsClosedName name
unfolding made_name
list_closed name (of_list k small is) = subst IsClosedName (sym is) (numbered_closed (codes "io___") k small)

-- the variable for a result
abbrev IsResultName : List ℕ → Type 0
IsResultName name = name ≡ made_name FunctionResult

result_closed : (name : List ℕ) → IsResultName name → IsClosedName name
unfolding made_name
result_closed name is = subst IsClosedName (sym is) (record { byte = 108; last = record { front = codes "ret_va"; is = refl }; other = λ same. omega (arith, same) })

external_closed : (x : Bytes) (y : List ℕ) → IsClosedName y → external_name x ≢ y
external_closed x y closed = lasts_differ (external_name x) y 95 closed.byte (external_last x) closed.last (λ same. closed.other (sym same))

-- ## The name of the result

result_front : made_name FunctionResult ≡ 114 ∷ 101 ∷ codes "t_val"
unfolding made_name
result_front = refl

result_list : (x y : List ℕ) → IsResultName x → IsListName y → x ≢ y
result_list x y is (of_list k _ f) same = omega (arith, same_first 114 105 (101 ∷ codes "t_val") (111 ∷ (codes "___" ++ decimal k)) (sym result_front ∙ sym is ∙ same ∙ f ∙ list_front k))

result_temporary : (x y : List ℕ) → IsResultName x → IsTemporaryName y → x ≢ y
result_temporary x y is (of_temporary k _ f) same = omega (arith, same_first 114 105 (101 ∷ codes "t_val") (95 ∷ (95 ∷ decimal k)) (sym result_front ∙ sym is ∙ same ∙ f ∙ temporary_front k))

constant_result : (x y : List ℕ) → IsConstantName x → IsResultName y → x ≢ y
constant_result x y (of_constant z _ e) is same = let c = constant_front z in omega (arith, same_first 99 114 c.0 (101 ∷ codes "t_val") (sym c.1 ∙ sym e ∙ same ∙ is ∙ result_front))

called_result : (x y : List ℕ) → IsCalledName x → IsResultName y → x ≢ y
called_result x y called is same = called.no_result (codes "t_val") (same ∙ is ∙ result_front)

variable_result : (x y : List ℕ) → IsVariableName x → IsResultName y → x ≢ y
variable_result x y (of_variable v named f) is same = variable_name-not_made v named FunctionResult tt (sym f ∙ same ∙ is)

-- ## The names of kept bounds

-- the name of one ends in a digit
bound_told : (x y : List ℕ) (byte : ℕ) → IsBoundName x → HasLast y byte → IsNoDigit byte → x ≢ y
bound_told x y byte bound last none same = bounds_end_in_digits x last.front byte bound none (same ∙ last.is)

bound_variable : (x y : List ℕ) → IsBoundName x → IsVariableName y → x ≢ y
bound_variable x y (of_lower z k small is) (of_variable v named f) same = variable_name-not_made v named (LowerBoundOf (variable_name z) k) small (sym f ∙ sym same ∙ is)
bound_variable x y (of_size z k small is) (of_variable v named f) same = variable_name-not_made v named (DimensionOf (variable_name z) k) small (sym f ∙ sym same ∙ is)

bound_temporary : (x y : List ℕ) → IsBoundName x → IsTemporaryName y → x ≢ y
bound_temporary x y bound (of_temporary k small f) same = bounds_are_no_temporaries x k bound small (same ∙ f)

bound_list : (x y : List ℕ) → IsBoundName x → IsListName y → x ≢ y
bound_list x y bound (of_list k small f) same = bounds_are_no_lists x k bound small (same ∙ f)

constant_bound : (x y : List ℕ) → IsConstantName x → IsBoundName y → x ≢ y
constant_bound x y (of_constant z small e) bound same = bounds_are_no_constants y z bound small (sym same ∙ e)

bound_result : (x y : List ℕ) → IsBoundName x → IsResultName y → x ≢ y
unfolding made_name
bound_result x y bound is same = bounds_end_in_digits x (codes "ret_va") 108 bound (λ low high. omega (arith, high)) (same ∙ is)

external_bound : (x : Bytes) (y : List ℕ) → IsBoundName y → external_name x ≢ y
external_bound x y bound same = bound_told y (external_name x) 95 bound (external_last x) (λ low high. omega (arith, high)) (sym same)

-- a name that does not end in a digit
pub record IsUnnumbered (name : List ℕ) : Type 0 where
  pub byte : ℕ
  pub last : HasLast name byte
  pub no_digit : IsNoDigit byte

unnumbered_bound : (x y : List ℕ) → IsUnnumbered x → IsBoundName y → x ≢ y
unnumbered_bound x y is bound same = bound_told y x is.byte bound is.last is.no_digit (sym same)

-- ## All names of a function

-- what is called: a function of the library, or that of a procedure, whose name no variable and no dummy has
pub data IsOfCallee (v : Inventory) (name : List ℕ) : Type 0 where
  of_library : IsCalledName name → IsUnnumbered name → IsOfCallee v name
  of_procedure : (x : Bytes) → name ≡ external_name x → ((one : Variable) → IsIn one v.variables → one.name ≢ x) → ((p : Parameter) → IsIn p v.parameters → p.name ≢ x) → IsOfCallee v name

pub record HasUnitNames (zs : List ℤ) (v : Inventory) : Type 0 where
  pub constants : AreApart zs
  pub small : (z : ℤ) → IsIn z zs → nat_abs z < 2 ^ 64
  pub variables : AreApart (map (λ (one : Variable). one.name) v.variables)
  pub variables_named : (one : Variable) → IsIn one v.variables → is_name one.name ≡ true
  pub parameters : AreApart (map (λ (p : Parameter). p.name) v.parameters)
  pub parameters_named : (p : Parameter) → IsIn p v.parameters → is_name p.name ≡ true
  pub apart : (p : Parameter) (one : Variable) → IsIn p v.parameters → IsIn one v.variables → p.name ≢ one.name
  pub lists : 1 + length v.lists ≤ 2 ^ 64
  pub temporaries : 1 + v.temporaries ≤ 2 ^ 64
  pub kept : AreApart (map bound_name v.bounds)
  pub kept_named : (one : KeptBound) → IsIn one v.bounds → IsBoundName (bound_name one)
  pub called : (call : Callee) → IsIn call v.calls → IsOfCallee v call.name

module _ (zs : List ℤ) (v : Inventory) (has : HasUnitNames zs v) where
  abbrev its_variables : List (List ℕ)
  its_variables = map (λ (one : Variable). variable_name one.name) v.variables

  abbrev its_parameters : List (List ℕ)
  its_parameters = map (λ (p : Parameter). variable_name p.name) v.parameters

  abbrev its_temporaries : List (List ℕ)
  its_temporaries = temporary_names 1 v.temporaries

  abbrev its_bounds : List (List ℕ)
  its_bounds = map bound_name v.bounds

  -- ### Each by its sort

  constant_sort : (name : List ℕ) → IsIn name (constant_names zs) → IsConstantName name
  constant_sort name o = let found = in_map (λ z. made_name (ConstantOf z)) zs name o in of_constant found.from (has.small found.from found.among) (sym found.is)

  list_sort : (name : List ℕ) → IsIn name (list_names 1 v.lists) → IsListName name
  list_sort name o =
      let found = list_among 1 v.lists name o in
      let below = found.below in
      let few = has.lists in of_list found.number (omega (arith, below, few)) found.is

  temporary_sort : (name : List ℕ) → IsIn name its_temporaries → IsTemporaryName name
  temporary_sort name o =
      let found = temporary_among 1 v.temporaries name o in
      let below = found.below in
      let few = has.temporaries in of_temporary found.number (omega (arith, below, few)) found.is

  variable_sort : (name : List ℕ) → IsIn name its_variables → IsVariableName name
  variable_sort name o = let found = in_map (λ (one : Variable). variable_name one.name) v.variables name o in of_variable found.from.name (has.variables_named found.from found.among) (sym found.is)

  parameter_sort : (name : List ℕ) → IsIn name its_parameters → IsVariableName name
  parameter_sort name o = let found = in_map (λ (p : Parameter). variable_name p.name) v.parameters name o in of_variable found.from.name (has.parameters_named found.from found.among) (sym found.is)

  result_sort : (type : Option NumberType) (name : List ℕ) → IsIn name (result_names type) → IsResultName name
  result_sort (Some type) _ first_in = refl
  result_sort (Some type) name (later_in o) = elim o [ ]
  result_sort None name o = elim o [ ]

  -- of the lasting names, and of those of the frame
  data IsLasting (name : List ℕ) : Type 0 where
    lasting_variable : IsIn name its_variables → IsLasting name
    lasting_list : IsListName name → IsLasting name

  lasting_sort : (name : List ℕ) → IsIn name (lasting_names v) → IsLasting name
  lasting_sort name o = by (in_either name its_variables (list_names 1 v.lists) o)
    where
      by : InEither name its_variables (list_names 1 v.lists) → IsLasting name
      by (in_one p) = lasting_variable p
      by (in_other p) = lasting_list (list_sort name p)

  bound_sort : (name : List ℕ) → IsIn name its_bounds → IsBoundName name
  bound_sort name o = let found = in_map bound_name v.bounds name o in subst IsBoundName found.is (has.kept_named found.from found.among)

  data IsFramed (name : List ℕ) : Type 0 where
    framed_parameter : IsIn name its_parameters → IsFramed name
    framed_result : IsResultName name → IsFramed name
    framed_temporary : IsTemporaryName name → IsFramed name
    framed_bound : IsBoundName name → IsFramed name

  framed_sort : (name : List ℕ) → IsIn name (framed_names v) → IsFramed name
  framed_sort name o = by (in_either name its_parameters (result_names v.returned ++ (its_temporaries ++ its_bounds)) o)
    where
      at_last : InEither name its_temporaries its_bounds → IsFramed name
      at_last (in_one p) = framed_temporary (temporary_sort name p)
      at_last (in_other p) = framed_bound (bound_sort name p)

      behind : InEither name (result_names v.returned) (its_temporaries ++ its_bounds) → IsFramed name
      behind (in_one p) = framed_result (result_sort v.returned name p)
      behind (in_other p) = at_last (in_either name its_temporaries its_bounds p)

      by : InEither name its_parameters (result_names v.returned ++ (its_temporaries ++ its_bounds)) → IsFramed name
      by (in_one p) = framed_parameter p
      by (in_other p) = behind (in_either name (result_names v.returned) (its_temporaries ++ its_bounds) p)

  called_sort : (name : List ℕ) → IsIn name (called_names v) → IsOfCallee v name
  called_sort name o = let found = in_map (λ (call : Callee). call.name) v.calls name o in subst (IsOfCallee v) found.is (has.called found.from found.among)

  -- ### Two sorts

  parameter_variable : (x y : List ℕ) → IsIn x its_parameters → IsIn y its_variables → x ≢ y
  parameter_variable x y p q same =
      let one = in_map (λ (a : Parameter). variable_name a.name) v.parameters x p in
      let other = in_map (λ (a : Variable). variable_name a.name) v.variables y q in
      has.apart one.from other.from one.among other.among (variable_name-injective one.from.name other.from.name (one.is ∙ same ∙ sym other.is))

  framed_lasting : (x y : List ℕ) → IsFramed x → IsLasting y → x ≢ y
  framed_lasting x y (framed_parameter p) (lasting_variable q) same = parameter_variable x y p q same
  framed_lasting x y (framed_parameter p) (lasting_list q) same = variable_list x y (parameter_sort x p) q same
  framed_lasting x y (framed_result is) (lasting_variable q) same = variable_result y x (variable_sort y q) is (sym same)
  framed_lasting x y (framed_result is) (lasting_list q) same = result_list x y is q same
  framed_lasting x y (framed_temporary p) (lasting_variable q) same = temporary_variable x y p (variable_sort y q) same
  framed_lasting x y (framed_temporary p) (lasting_list q) same = temporary_list x y p q same
  framed_lasting x y (framed_bound p) (lasting_variable q) same = bound_variable x y p (variable_sort y q) same
  framed_lasting x y (framed_bound p) (lasting_list q) same = bound_list x y p q same

  constant_lasting : (x y : List ℕ) → IsConstantName x → IsLasting y → x ≢ y
  constant_lasting x y c (lasting_variable q) = constant_variable x y c (variable_sort y q)
  constant_lasting x y c (lasting_list q) = constant_list x y c q

  constant_framed : (x y : List ℕ) → IsConstantName x → IsFramed y → x ≢ y
  constant_framed x y c (framed_parameter p) = constant_variable x y c (parameter_sort y p)
  constant_framed x y c (framed_result is) = constant_result x y c is
  constant_framed x y c (framed_temporary p) = constant_temporary x y c p
  constant_framed x y c (framed_bound p) = constant_bound x y c p

  constant_callee : (x y : List ℕ) → IsConstantName x → IsOfCallee v y → x ≢ y
  constant_callee x y c (of_library called unnumbered) same = constant_called x y c called same
  constant_callee x y c (of_procedure z is no_variable no_parameter) same = external_closed z x (constant_closed x c) (sym is ∙ sym same)

  callee_lasting : (x y : List ℕ) → IsOfCallee v x → IsLasting y → x ≢ y
  callee_lasting x y (of_library called unnumbered) (lasting_variable q) same = called_variable x y called (variable_sort y q) same
  callee_lasting x y (of_library called unnumbered) (lasting_list q) same = called_list x y called q same
  callee_lasting x y (of_procedure z is no_variable no_parameter) (lasting_variable q) same =
      let found = in_map (λ (a : Variable). variable_name a.name) v.variables y q in
      no_variable found.from found.among (variable_name-external found.from.name z (found.is ∙ sym same ∙ is))
  callee_lasting x y (of_procedure z is no_variable no_parameter) (lasting_list q) same = external_closed z y (list_closed y q) (sym is ∙ same)

  callee_framed : (x y : List ℕ) → IsOfCallee v x → IsFramed y → x ≢ y
  callee_framed x y (of_library called unnumbered) (framed_parameter p) same = called_variable x y called (parameter_sort y p) same
  callee_framed x y (of_library called unnumbered) (framed_result is) same = called_result x y called is same
  callee_framed x y (of_library called unnumbered) (framed_temporary p) same = called_temporary x y called p same
  callee_framed x y (of_library called unnumbered) (framed_bound p) same = unnumbered_bound x y unnumbered p same
  callee_framed x y (of_procedure z is no_variable no_parameter) (framed_parameter p) same =
      let found = in_map (λ (a : Parameter). variable_name a.name) v.parameters y p in
      no_parameter found.from found.among (variable_name-external found.from.name z (found.is ∙ sym same ∙ is))
  callee_framed x y (of_procedure z is no_variable no_parameter) (framed_result at) same = external_closed z y (result_closed y at) (sym is ∙ same)
  callee_framed x y (of_procedure z is no_variable no_parameter) (framed_temporary p) same = external_closed z y (temporary_closed y p) (sym is ∙ same)
  callee_framed x y (of_procedure z is no_variable no_parameter) (framed_bound p) same = external_bound z y p (sym is ∙ same)

  -- ### The whole

  result_apart : (type : Option NumberType) → AreApart (result_names type)
  result_apart None = none_apart
  result_apart (Some type) = one_apart (λ y o. elim o [ ]) none_apart

  behind_temporaries : (x y : List ℕ) → IsTemporaryName x → IsIn y its_bounds → x ≢ y
  behind_temporaries x y temporary q same = bound_temporary y x (bound_sort y q) temporary (sym same)

  behind_result : (x y : List ℕ) → IsResultName x → InEither y its_temporaries its_bounds → x ≢ y
  behind_result x y result (in_one q) same = result_temporary x y result (temporary_sort y q) same
  behind_result x y result (in_other q) same = bound_result y x (bound_sort y q) result (sym same)

  behind_parameters : (x y : List ℕ) → IsVariableName x → IsIn y (result_names v.returned ++ (its_temporaries ++ its_bounds)) → x ≢ y
  behind_parameters x y variable o = by (in_either y (result_names v.returned) (its_temporaries ++ its_bounds) o)
    where
      at_last : InEither y its_temporaries its_bounds → x ≢ y
      at_last (in_one p) same = temporary_variable y x (temporary_sort y p) variable (sym same)
      at_last (in_other p) same = bound_variable y x (bound_sort y p) variable (sym same)

      by : InEither y (result_names v.returned) (its_temporaries ++ its_bounds) → x ≢ y
      by (in_one p) same = variable_result x y variable (result_sort v.returned y p) same
      by (in_other p) same = at_last (in_either y its_temporaries its_bounds p) same

  framed_apart : AreApart (framed_names v)
  framed_apart =
      apart_append its_parameters (result_names v.returned ++ (its_temporaries ++ its_bounds)) (variable_names_apart (λ (p : Parameter). p.name) v.parameters has.parameters)
      (apart_append (result_names v.returned) (its_temporaries ++ its_bounds) (result_apart v.returned)
      (apart_append its_temporaries its_bounds (temporaries_apart 1 v.temporaries has.temporaries) has.kept (λ x y p q. behind_temporaries x y (temporary_sort x p) q))
      (λ x y p q. behind_result x y (result_sort v.returned x p) (in_either y its_temporaries its_bounds q)))
      (λ x y p q. behind_parameters x y (parameter_sort x p) q)

  pub names_differ : NamesDiffer zs v
  names_differ = record {
    constants = distinct_by (constant_names zs) (apart_map (λ z. made_name (ConstantOf z)) zs (λ y z p q e. constants_told y z (has.small y p) (has.small z q) e) has.constants);
    lasting = distinct_by (lasting_names v)
        (apart_append its_variables (list_names 1 v.lists) (variable_names_apart (λ (one : Variable). one.name) v.variables has.variables) (lists_apart 1 v.lists has.lists) (λ x y p q. variable_list x y (variable_sort x p) (list_sort y q)));
    framed = distinct_by (framed_names v) framed_apart;
    not_lasting = λ i name at. none_by name (lasting_names v) (λ other o. framed_lasting name other (framed_sort name (in_at (framed_names v) i name at)) (lasting_sort other o));
    not_own = λ i name at. let sort = constant_sort name (in_at (constant_names zs) i name at) in (
      none_by name (lasting_names v) (λ other o. constant_lasting name other sort (lasting_sort other o)),
      none_by name (framed_names v) (λ other o. constant_framed name other sort (framed_sort other o)),
      none_by name (called_names v) (λ other o. constant_callee name other sort (called_sort other o)),
    );
    not_objects = λ i name at. let sort = called_sort name (in_at (called_names v) i name at) in (
      none_by name (lasting_names v) (λ other o. callee_lasting name other sort (lasting_sort other o)),
      none_by name (framed_names v) (λ other o. callee_framed name other sort (framed_sort other o)),
    );
  }
