-- The names of the functions of files of several units stand for their objects, and for the functions that they call.
use Rattle.std.specs.Prelude.{◌≡◌, ℕ, zero, suc, ◌+◌, ◌-◌, ◌<◌, ◌≤◌, nat_le, nat_lt, nat_eq, ℤ, pos, Bool, true, false, not, ◌&&◌, List, [], ◌∷◌, ◌++◌, map, length, replicate, position, Option, Some, None, is_some, unwrap_or, slice_get, bytes_eq}
use Rattle.std.specs.Ordering.{int_eq}
use Rattle.std.proofs.Common.{refl, sym, ap, ◌∙◌, subst, arith}
use Rattle.std.proofs.lemmas.Bool.{and_left, ltb-true, le-leb, lt-leb}
use Rattle.std.proofs.lemmas.List.{length-append, length-map, length-replicate}
use Rattle.std.proofs.lemmas.Slice.Eq.{bytes_eq-Decides}
use Rattle.unit_places.specs.f_tree.declared.names.Basic.{Basic}
use Rattle.unit_places.specs.f_tree.declared.names.Class.{Class}
use Rattle.unit_places.specs.f_tree.declared.names.Class.TheVariants as class
use Rattle.unit_places.specs.f_tree.Values.{Bytes}
use Rattle.unit_places.specs.f_tree.Facts.{Bounds, Facts}
use Rattle.unit_places.specs.f_tree.Valuing.{size_of_dimension}
use Rattle.unit_places.specs.f_tree.CNames.{variable_name, made_name, ControlList, ConstantOf, FunctionResult}
use Rattle.unit_places.specs.c_tree.declared.types.NumberType.{NumberType}
use Rattle.unit_places.specs.c_tree.declared.types.ListType.TheVariants as list_type
use Rattle.unit_places.specs.c_tree.declared.expression.UnaryOp.TheVariants as prefix
use Rattle.unit_places.specs.c_tree.declared.file.CFunction.{CFunction}
use Rattle.unit_places.specs.c_tree.Access.{Access, ToNumber, ToPointer, ToFunction, ToList}
use Rattle.unit_places.specs.c_tree.Objects.{bytes_of_number}
use Rattle.unit_places.specs.c_tree.Terms.{Variable, Array, Routine}
use Rattle.unit_places.specs.c_tree.Declarations.{Declared, made, filled, variable, unset, parameter_access, declared_parameter, declared_statics, declared_externs}
use Rattle.unit_places.specs.c_tree.Builtins.{builtin_names}
use Rattle.unit_places.specs.c_tree.Drafts.{Scope}
use Rattle.unit_places.specs.c_tree.FlatForm.{whole_body}
use Rattle.unit_places.specs.c_tree.Linking.{Routines, routine, declared_constants, file_scope}
use Rattle.unit_places.specs.c_image.Addresses.{Through, number_term}
use Rattle.unit_places.specs.c_image.Elements.{Quantity, quantity_term}
use Rattle.unit_places.specs.c_structure.Expressions.{Names, strings_in}
use Rattle.unit_places.specs.c_structure.Expressions as written
use Rattle.unit_places.specs.c_emit.Numbers.{is_numeric, is_variable, has_number, has_shape, is_scalar, is_array}
use Rattle.unit_places.specs.c_structure_laws.Fitting.{KnowsArray}
use Rattle.unit_places.specs.linking_laws.Linked as linked
use Rattle.unit_places.specs.linking_laws.Linked.{AreDistinct, IsNone}
use Rattle.unit_places.proofs.linking_laws.Places.{get_front, get_back, map_at, within, taken, skipped}
use Rattle.unit_places.proofs.linking_laws.Scopes.{scopes_are_known, file_scopes_are_known}
use Rattle.unit_places.specs.emitted_names.KnownNames.{IsPlain, array_of, StartIsPlain, Calls}
use Rattle.unit_places.proofs.emitted_names.TermNames.{number_plain, prefixed_plain}
use Rattle.unit_places.specs.procedure_emission.EmittedUnits.{is_number_pointer, is_function_pointer}
use Rattle.unit_places.specs.main_file.MainFile.{list_names}
use Rattle.unit_places.proofs.main_file_laws.Listed.{stands_by, declared_variable, declared_listing, declared_temporary}
use Rattle.unit_places.proofs.main_file_laws.Known.{position_finds}
use Rattle.unit_places.specs.unit_file.UnitFile as file
use Rattle.unit_places.specs.unit_file.UnitFile.{Listing, BoundKind, LowerOf, SizeOf, KeptBound, Inventory, Bases, WrittenUnit, constant_for, parameter_for, unit_locals, unit_function, result_count, frame_count, first_list, first_string, first_parameter, result_object, first_temporary, first_bound, is_bound, place_of_bound, quantity_in, place_or_none, place_of_constant, place_of_variable, place_of_list, lasting_names, framed_names, parameter_object, address_in, lower_of, size_of}
use Rattle.unit_places.specs.unit_file.UnitNames.{constant_names, called_names, object_names, object_name, string_at, own_names, routine_name}
use Rattle.unit_places.specs.unit_sites.UnitSites.{inventories, Site}
use Rattle.unit_places.specs.UnitPlaces.{file_with}
use Rattle.unit_places.proofs.Declared.{unit_strings, unit_statics_count, unit_lasting_names, unit_variable, unit_listing, framed_by, framed_are, framed_parameter, framed_result, framed_temporary, declared_bound, framed_bound}
use Rattle.unit_file_laws.specs.KnownUnits.{NamesDiffer, IsVariable, IsParameter, NamesAreListed, unit_writing, unit_names, scope_in, UnitIsKnown, UnitFilesAreKnown}
use Rattle.unit_file_laws.proofs.Listed.{framed_names_are, framed_names_by, externs_are, number_access, function_access}

-- ## Positions

some_place : (found : Option ℕ) → is_some found ≡ true → (i : ℕ) × (found ≡ Some i)
some_place (Some i) h = (i, refl)
some_place None h = absurd (cc)

list_named : (k : ℕ) (ls : List Listing) (i : ℕ) (l : Listing) → slice_get ls i ≡ Some l → slice_get (list_names k ls) i ≡ Some (made_name (ControlList (k + i)))
list_named k [] i l at = absurd (cc)
list_named k (m ∷ ls) zero l at = ap (λ n. Some (made_name (ControlList n))) {x = k} {y = k + 0} (omega arith)
list_named k (m ∷ ls) (suc i) l at = list_named (suc k) ls i l at ∙ ap (λ n. Some (made_name (ControlList n))) {x = suc k + i} {y = k + suc i} (omega arith)

list_names_count : (k : ℕ) (ls : List Listing) → length (list_names k ls) ≡ length ls
list_names_count k [] = refl
list_names_count k (l ∷ ls) = ap suc (list_names_count (suc k) ls)

-- the constants of a file
abbrev declared_constant : ℤ → Declared
declared_constant z = made (made_name (ConstantOf z)) (variable ToNumber) (filled 4 (bytes_of_number z))

constants_declared : (zs : List ℤ) → declared_constants (map constant_for zs) ≡ map declared_constant zs
constants_declared [] = refl
constants_declared (z ∷ zs) = ap (λ ds. declared_constant z ∷ ds) (constants_declared zs)

constants_named : (zs : List ℤ) → linked.names_of (map declared_constant zs) ≡ map (λ z. made_name (ConstantOf z)) zs
constants_named [] = refl
constants_named (z ∷ zs) = ap (λ ns. made_name (ConstantOf z) ∷ ns) (constants_named zs)

-- truth of parts
both_hold : (s t : Bool) → s && t ≡ true → (s ≡ true) × (t ≡ true)
both_hold true true h = (refl, refl)
both_hold true false h = absurd (cc)
both_hold false t h = absurd (cc)

not_so : (s : Bool) → not s ≡ true → s ≡ false
not_so true h = absurd (cc)
not_so false h = refl

-- no number, and some number
count_none : (count : Option ℕ) → is_some count ≡ false → count ≡ None
count_none None h = refl
count_none (Some n) h = absurd (cc)

count_some : (count : Option ℕ) → is_some count ≡ true → (n : ℕ) × (count ≡ Some n)
count_some None h = absurd (cc)
count_some (Some n) h = (n, refl)

module _ (numbers : Routines) (objects : List ℕ → Option ℕ) (functions : List CFunction) (ws : List WrittenUnit) (s : Site) (w : WrittenUnit) (facts : Facts) (kind : ℕ → ℕ → Option Basic) (owned : s.bases.own ≡ length ws)
    (constants_before : s.bases.file + length s.constants ≤ s.bases.function) (differ : NamesDiffer s.constants w.inventory)
    (listed : NamesAreListed w.inventory facts) (strings : length (whole_body w.body).items.strings ≡ length w.inventory.strings) where
  abbrev v : Inventory
  v = w.inventory

  abbrev b : Bases
  b = s.bases

  abbrev outer : Scope
  outer = file_scope numbers objects s.bases.file (file_with s.constants functions)

  abbrev scope : Scope
  scope = scope_in numbers objects functions s w

  abbrev names : Names
  names = unit_names ws s w

  inner : linked.NamesAreKnown numbers outer b.function (unit_function w)
  inner = scopes_are_known numbers outer b.function (unit_function w)

  around : linked.FileNamesAreKnown numbers objects s.bases.file (file_with s.constants functions)
  around = file_scopes_are_known numbers objects s.bases.file (file_with s.constants functions)

  -- ## Where the frame stands

  all_strings : length (linked.strings (unit_function w)) ≡ length v.strings
  all_strings = ap (λ (ss : List (List ℕ)). length (ss ++ (whole_body w.body).items.strings)) (unit_strings v) ∙ strings

  frame_is : linked.frame b.function (unit_function w) ≡ first_parameter v b
  frame_is =
      let kept = unit_statics_count v in
      let passed = all_strings in
      omega (arith, kept, passed)

  -- ## Names of objects

  own_name : (i : ℕ) (name : List ℕ) → slice_get (object_names v) i ≡ Some name → object_name s.constants v b (b.function + i) ≡ name
  unfolding object_name
  own_name i name at =
      taken (nat_le b.function (b.function + i)) (unwrap_or (slice_get (object_names v) ((b.function + i) - b.function)) []) (unwrap_or (slice_get (constant_names s.constants) ((b.function + i) - b.file)) []) (le-leb b.function (b.function + i) (omega arith))
      ∙ ap (λ k. unwrap_or (slice_get (object_names v) k) []) {x = (b.function + i) - b.function} {y = i} (omega arith) ∙ ap (λ o. unwrap_or o []) at

  lasting_name : (i : ℕ) (name : List ℕ) → slice_get (lasting_names v) i ≡ Some name → object_name s.constants v b (b.function + i) ≡ name
  lasting_name i name at = own_name i name (get_front (lasting_names v) (replicate (length v.strings) [] ++ framed_names v) i name at)

  lasting_count : length (lasting_names v) ≡ length v.variables + length v.lists
  lasting_count =
      length-append (map (λ (one : file.Variable). variable_name one.name) v.variables) (list_names 1 v.lists) ∙ (λ i. length-map v.variables (λ (one : file.Variable). variable_name one.name) i + list_names_count 1 v.lists i)

  framed_name : (k : ℕ) (name : List ℕ) → slice_get (framed_names v) k ≡ Some name → object_name s.constants v b (first_parameter v b + k) ≡ name
  framed_name k name at =
      let kept = lasting_count in
      let blanks : length {A = List ℕ} (replicate (length v.strings) []) ≡ length v.strings = length-replicate (length v.strings) [] in
      ap (object_name s.constants v b) {x = first_parameter v b + k} {y = b.function + (length v.variables + length v.lists + length v.strings + k)} (omega arith)
      ∙ own_name (length v.variables + length v.lists + length v.strings + k) name
      (get_back (lasting_names v) (replicate (length v.strings) [] ++ framed_names v) (length v.variables + length v.lists + length v.strings + k) (length v.strings + k) name (omega (arith, kept))
      (get_back (replicate (length v.strings) []) (framed_names v) (length v.strings + k) k name (omega (arith, blanks)) at))

  file_name : (i : ℕ) (name : List ℕ) → slice_get (constant_names s.constants) i ≡ Some name → object_name s.constants v b (b.file + i) ≡ name
  unfolding object_name
  file_name i name at =
      let less = within (constant_names s.constants) i name at in
      let count = length-map s.constants (λ z. made_name (ConstantOf z)) in
      skipped (nat_le b.function (b.file + i)) (unwrap_or (slice_get (object_names v) ((b.file + i) - b.function)) []) (unwrap_or (slice_get (constant_names s.constants) ((b.file + i) - b.file)) [])
      (lt-leb b.function (b.file + i) (omega (arith, less, count, constants_before)))
      ∙ ap (λ k. unwrap_or (slice_get (constant_names s.constants) k) []) {x = (b.file + i) - b.file} {y = i} (omega arith) ∙ ap (λ o. unwrap_or o []) at

  no_string : (k : ℕ) → k < first_string v b → string_at v b k ≡ None
  unfolding string_at
  no_string k below =
      skipped (nat_le (first_string v b) k && nat_lt k (first_parameter v b)) (Some (v.texts (unwrap_or (slice_get v.strings (k - first_string v b)) 0))) None
      (and_left (nat_le (first_string v b) k) (nat_lt k (first_parameter v b)) (lt-leb (first_string v b) k below))

  -- ## What they stand for

  plain_variable : (k : ℕ) (access : Access) → scope (object_name s.constants v b k) ≡ Variable k access → IsPlain scope names (Variable k access)
  unfolding strings_in
  plain_variable k access known = record { knows = known; no_strings = refl }

  plain_array : (k : ℕ) (access : Access) → string_at v b k ≡ None → scope (object_name s.constants v b k) ≡ Array k access → IsPlain scope names (Array k access)
  unfolding strings_in written.string_at
  plain_array k access none known = record {
    knows = subst (λ found. KnowsArray scope (object_name s.constants v b k) found k access) (sym none) known;
    no_strings = ap (λ found. written.string_at found k) none;
  }

  distinct_lasting : AreDistinct (linked.names_of (declared_statics (unit_locals v)))
  distinct_lasting = subst AreDistinct (sym (unit_lasting_names v)) differ.lasting

  none_lasting : (name : List ℕ) → IsNone name (lasting_names v) → IsNone name (linked.names_of (declared_statics (unit_locals v)))
  none_lasting name none = subst (IsNone name) (sym (unit_lasting_names v)) none

  distinct_framed : AreDistinct (linked.names_of (linked.framed (unit_function w)))
  distinct_framed = subst AreDistinct (sym (framed_names_are v)) differ.framed

  none_framed : (name : List ℕ) → IsNone name (framed_names v) → IsNone name (linked.names_of (linked.framed (unit_function w)))
  none_framed name none = subst (IsNone name) (sym (framed_names_are v)) none

  none_called : (name : List ℕ) → IsNone name (called_names v) → IsNone name (declared_externs (unit_locals v))
  none_called name none = subst (IsNone name) (sym (externs_are v)) none

  variable_stands : (i : ℕ) (one : file.Variable) → slice_get v.variables i ≡ Some one → scope (object_name s.constants v b (b.function + i)) ≡ stands_by one.count (b.function + i)
  variable_stands i one at =
      ap scope (lasting_name i (variable_name one.name) (get_front (map (λ (z : file.Variable). variable_name z.name) v.variables) (list_names 1 v.lists) i (variable_name one.name) (map_at (λ (z : file.Variable). variable_name z.name) v.variables i one at)))
      ∙ inner.lasting i (declared_variable one) distinct_lasting (unit_variable v i one at)

  -- an object of the frame
  framed_stands : (i : ℕ) (d : Declared) → slice_get (framed_by v) i ≡ Some d → scope (object_name s.constants v b (first_parameter v b + i)) ≡ d.stands (first_parameter v b + i)
  framed_stands i d at =
      let named : slice_get (framed_names v) i ≡ Some d.name = ap (λ ns. slice_get ns i) (framed_names_by v) ∙ map_at (λ (e : Declared). e.name) (framed_by v) i d at in
      ap scope (framed_name i d.name named)
      ∙ inner.in_frame i d distinct_framed (none_lasting d.name (differ.not_lasting i d.name named)) (ap (λ ds. slice_get ds i) (framed_are v) ∙ at)
      ∙ ap (λ n. d.stands (n + i)) frame_is

  parameter_stands : (x : Bytes) (points : _) (access : Access) → (p : IsParameter v x points) → parameter_access p.one.type ≡ access → scope (object_name s.constants v b (parameter_object v b x)) ≡ Variable (parameter_object v b x) access
  parameter_stands x points access p is =
      subst (λ place. scope (object_name s.constants v b (first_parameter v b + unwrap_or place (frame_count v))) ≡ Variable (first_parameter v b + unwrap_or place (frame_count v)) access) (sym p.placed)
      (framed_stands p.place (declared_parameter (parameter_for p.one)) (framed_parameter v p.place p.one p.at) ∙ ap (Variable (first_parameter v b + p.place)) is)

  -- ## Variables, arrays and dummies

  stored_plain : (x : Bytes) (p : IsVariable v x false) → IsPlain scope names (Variable (b.function + place_or_none (place_of_variable v x)) ToNumber)
  stored_plain x p =
      subst (λ place. IsPlain scope names (Variable (b.function + place_or_none place) ToNumber)) (sym p.placed)
      (plain_variable (b.function + p.place) ToNumber (variable_stands p.place p.one p.at ∙ ap (λ count. stands_by count (b.function + p.place)) (count_none p.one.count p.counted)))

  stored_array : (x : Bytes) (p : IsVariable v x true) → IsPlain scope names (Array (b.function + place_or_none (place_of_variable v x)) ToNumber)
  stored_array x p =
      let n = count_some p.one.count p.counted in
      let less = within v.variables p.place p.one p.at in
      subst (λ place. IsPlain scope names (Array (b.function + place_or_none place) ToNumber)) (sym p.placed)
      (plain_array (b.function + p.place) ToNumber (no_string (b.function + p.place) (omega (arith, less))) (variable_stands p.place p.one p.at ∙ ap (λ count. stands_by count (b.function + p.place)) n.1))

  dummy_plain : (x : Bytes) → IsParameter v x is_number_pointer → IsPlain scope names (Variable (parameter_object v b x) (ToPointer ToNumber))
  dummy_plain x p = plain_variable (parameter_object v b x) (ToPointer ToNumber) (parameter_stands x is_number_pointer (ToPointer ToNumber) p (number_access p.one.type p.typed))

  result_plain : (type : NumberType) → v.returned ≡ Some type → IsPlain scope names (Variable (result_object v b) ToNumber)
  result_plain type is =
      plain_variable (result_object v b) ToNumber (framed_stands (length v.parameters) (made (made_name FunctionResult) (variable ToNumber) (unset 4)) (framed_result v type is))

  scalar_by : (x : Bytes) (k : Class) → (facts.program.attribute x).class ≡ k → is_variable k ≡ true → is_numeric (facts.program.attribute x).basic ≡ true → has_shape (facts.program.attribute x).dimensions ≡ false →
      IsPlain scope names (number_term (address_in v b x k))
  unfolding address_in is_variable
  scalar_by x class.Stored is variable numeric none = stored_plain x (subst (IsVariable v x) none (listed.stored x is numeric))
  scalar_by x class.Dummy is variable numeric none = prefixed_plain scope names prefix.Deref (Variable (parameter_object v b x) (ToPointer ToNumber)) (dummy_plain x (listed.dummies x is numeric))
  scalar_by x class.Result is variable numeric none = let r = (listed.results x is numeric).1 in result_plain r.0 r.1
  scalar_by x other is variable numeric none = absurd (cc)

  array_by : (x : Bytes) (k : Class) → (facts.program.attribute x).class ≡ k → is_variable k ≡ true → is_numeric (facts.program.attribute x).basic ≡ true → has_shape (facts.program.attribute x).dimensions ≡ true →
      StartIsPlain scope names (array_of (address_in v b x k))
  unfolding address_in is_variable
  array_by x class.Stored is variable numeric some = stored_array x (subst (IsVariable v x) some (listed.stored x is numeric))
  array_by x class.Dummy is variable numeric some = dummy_plain x (listed.dummies x is numeric)
  array_by x class.Result is variable numeric some = let no : true ≡ false = sym some ∙ (listed.results x is numeric).0 in absurd (cc)
  array_by x other is variable numeric some = absurd (cc)

  scalar_plain : (x : Bytes) → is_scalar (unit_writing s w facts kind) x ≡ true → IsPlain scope names (number_term (address_in v b x (facts.program.attribute x).class))
  unfolding is_scalar has_number
  scalar_plain x holds =
      let both = both_hold (is_variable (facts.program.attribute x).class && is_numeric (facts.program.attribute x).basic) (not (has_shape (facts.program.attribute x).dimensions)) holds in
      let number = both_hold (is_variable (facts.program.attribute x).class) (is_numeric (facts.program.attribute x).basic) both.0 in
      scalar_by x (facts.program.attribute x).class refl number.0 number.1 (not_so (has_shape (facts.program.attribute x).dimensions) both.1)

  array_plain : (x : Bytes) → is_array (unit_writing s w facts kind) x ≡ true → StartIsPlain scope names (array_of (address_in v b x (facts.program.attribute x).class))
  unfolding is_array has_number
  array_plain x holds =
      let both = both_hold (is_variable (facts.program.attribute x).class && is_numeric (facts.program.attribute x).basic) (has_shape (facts.program.attribute x).dimensions) holds in
      let number = both_hold (is_variable (facts.program.attribute x).class) (is_numeric (facts.program.attribute x).basic) both.0 in
      array_by x (facts.program.attribute x).class refl number.0 number.1 both.1

  pointer_stands : (x : Bytes) (parameter : ℕ) (k : Class) → (facts.program.attribute x).class ≡ class.DummyProcedure → k ≡ class.DummyProcedure → address_in v b x k ≡ Through parameter → scope (object_name s.constants v b parameter) ≡ Variable parameter ToFunction
  unfolding address_in
  pointer_stands x parameter class.DummyProcedure is same at =
      let p = listed.procedures x is in
      let there : parameter_object v b x ≡ parameter = through_same (parameter_object v b x) parameter at in
      subst (λ k. scope (object_name s.constants v b k) ≡ Variable k ToFunction) there (parameter_stands x is_function_pointer ToFunction p (function_access p.one.type p.typed))
    where
      through_same : (m n : ℕ) → Through m ≡ Through n → m ≡ n
      through_same m n h = cc
  pointer_stands x parameter other is same at = absurd (cc)

  -- ## Temporaries, constants and control lists

  temporary_plain : (k : ℕ) → nat_lt k v.temporaries ≡ true → IsPlain scope names (Variable (first_temporary v b + k) ToNumber)
  temporary_plain k h =
      let below = ltb-true k v.temporaries h in
      let index = length v.parameters + (result_count v.returned + k) in
      subst (λ n. IsPlain scope names (Variable n ToNumber)) {x = first_parameter v b + index} {y = first_temporary v b + k} (omega arith)
      (plain_variable (first_parameter v b + index) ToNumber (framed_stands index (declared_temporary (1 + k)) (framed_temporary v k below)))

  constant_stands : (i : ℕ) (z : ℤ) → slice_get s.constants i ≡ Some z → scope (object_name s.constants v b (b.file + i)) ≡ Variable (b.file + i) ToNumber
  constant_stands i z at =
      let name = made_name (ConstantOf z) in
      let named = map_at (λ (y : ℤ). made_name (ConstantOf y)) s.constants i z at in
      let none = differ.not_own i name named in
      ap scope (file_name i name named)
      ∙ inner.others name (none_lasting name none.0) (none_framed name none.1) (none_called name none.2)
      ∙ around.constants i (declared_constant z) (subst AreDistinct (sym (ap linked.names_of (constants_declared s.constants) ∙ constants_named s.constants)) differ.constants)
      (ap (λ ds. slice_get ds i) (constants_declared s.constants) ∙ map_at declared_constant s.constants i z at)

  constant_plain : (z : ℤ) → is_some (place_of_constant s.constants z) ≡ true → IsPlain scope names (Variable (b.file + place_or_none (place_of_constant s.constants z)) ToNumber)
  constant_plain z h =
      let place = some_place (place_of_constant s.constants z) h in
      let found = position_finds (int_eq z) s.constants place.0 place.1 in
      subst (λ p. IsPlain scope names (Variable (b.file + place_or_none p) ToNumber)) (sym place.1) (plain_variable (b.file + place.0) ToNumber (constant_stands place.0 found.one found.at))

  list_plain : (n i : ℕ) → place_of_list v n ≡ Some i → IsPlain scope names (Variable (first_list v b + place_or_none (place_of_list v n)) (ToList list_type.Transfer))
  list_plain n i is =
      let found = position_finds (λ (l : Listing). nat_eq n l.step) v.lists i is in
      let name = made_name (ControlList (1 + i)) in
      let count = length-map v.variables (λ (z : file.Variable). variable_name z.name) in
      let there = length v.variables + i in
      subst (λ p. IsPlain scope names (Variable (first_list v b + place_or_none p) (ToList list_type.Transfer))) (sym is)
      (subst (λ k. IsPlain scope names (Variable k (ToList list_type.Transfer))) {x = b.function + there} {y = first_list v b + i} (omega arith)
      (plain_variable (b.function + there) (ToList list_type.Transfer)
      (ap scope (lasting_name there name (get_back (map (λ (z : file.Variable). variable_name z.name) v.variables) (list_names 1 v.lists) there i name (omega (arith, count)) (list_named 1 v.lists i found.one found.at)))
      ∙ inner.lasting there (declared_listing (1 + i) found.one) distinct_lasting (unit_listing v i found.one found.at))))

  pub bound_plain : (i : ℕ) (one : KeptBound) → slice_get v.bounds i ≡ Some one → IsPlain scope names (Variable (first_bound v b + i) ToNumber)
  bound_plain i one at =
      let index = length v.parameters + (result_count v.returned + (v.temporaries + i)) in
      subst (λ n. IsPlain scope names (Variable n ToNumber)) {x = first_parameter v b + index} {y = first_bound v b + i} (omega arith)
      (plain_variable (first_parameter v b + index) ToNumber (framed_stands index (declared_bound one) (framed_bound v i one at)))

  lower_plain : (o : Option Bounds) → IsPlain scope names (quantity_term (lower_of o))
  lower_plain None = number_plain scope names (pos 0)
  lower_plain (Some bounds) = number_plain scope names bounds.lower

  size_plain : (o : Option Bounds) → IsPlain scope names (quantity_term (size_of o))
  size_plain None = number_plain scope names (pos 0)
  size_plain (Some bounds) = number_plain scope names (pos (size_of_dimension bounds))

  -- a bound that is kept, or another
  quantity_plain : (x : Bytes) (k : ℕ) (which : BoundKind) (written : Quantity) → IsPlain scope names (quantity_term written) → IsPlain scope names (quantity_term (quantity_in v b (place_of_bound v x k which) written))
  unfolding quantity_in
  quantity_plain x k which written other = by (place_of_bound v x k which) refl
    where
      by : (found : Option ℕ) → place_of_bound v x k which ≡ found → IsPlain scope names (quantity_term (quantity_in v b found written))
      by None is = other
      by (Some i) is = let found = position_finds (is_bound x k which) v.bounds i is in bound_plain i found.one found.at

  -- ## Functions

  routine_stands : (i k : ℕ) (name : List ℕ) → slice_get (called_names v) i ≡ Some name → numbers name ≡ Some k → scope name ≡ Routine k
  routine_stands i k name at number =
      let none = differ.not_objects i name at in
      inner.called i name (ap (λ ns. slice_get ns i) (externs_are v) ∙ at) (none_lasting name none.0) (none_framed name none.1) ∙ ap routine number

  call_known : (i k : ℕ) (name : List ℕ) → slice_get (called_names v) i ≡ Some name → position (bytes_eq name) builtin_names ≡ Some k → numbers name ≡ Some (length ws + k) → Calls scope names (unit_writing s w facts kind) name
  call_known i k name at is number =
      let found = position_finds (bytes_eq name) builtin_names k is in
      let same : name ≡ found.one = (bytes_eq-Decides name found.one).0 found.passes in
      let as_many = length-map ws (λ (z : WrittenUnit). z.inventory) in
      let counted = length-map (inventories ws) (λ (z : Inventory). z.name) in
      let called : routine_name (inventories ws) (s.bases.own + k) ≡ name =
      ap (λ o. unwrap_or o []) (get_back (own_names (inventories ws)) builtin_names (s.bases.own + k) k found.one (omega (arith, as_many, counted, owned)) found.at) ∙ sym same in
      subst (λ p. scope (routine_name (inventories ws) (s.bases.own + unwrap_or p 0)) ≡ Routine (s.bases.own + unwrap_or p 0)) (sym is)
      (ap scope called ∙ routine_stands i (length ws + k) name at number ∙ ap Routine {x = length ws + k} {y = s.bases.own + k} (omega (arith, owned)))

  all_known : UnitIsKnown numbers objects functions ws s w facts kind
  all_known = record {
    names = record {
      scalars = scalar_plain;
      arrays = array_plain;
      lowers = λ x k holds. quantity_plain x k LowerOf (lower_of (slice_get (facts.program.attribute x).bounds k)) (lower_plain (slice_get (facts.program.attribute x).bounds k));
      sizes = λ x k holds. quantity_plain x k SizeOf (size_of (slice_get (facts.program.attribute x).bounds k)) (size_plain (slice_get (facts.program.attribute x).bounds k));
      temporaries = temporary_plain;
      constants = constant_plain;
    };
    lists = list_plain;
    calls = call_known;
    routines = λ i k at number. routine_stands i k (routine_name (inventories ws) k) at number;
    pointers = λ x parameter is at. pointer_stands x parameter (facts.program.attribute x).class is is at;
  }

pub unit_files_are_known : UnitFilesAreKnown
unit_files_are_known numbers objects functions ws s w facts kind owned before differ listed strings = all_known numbers objects functions ws s w facts kind owned before differ listed strings
