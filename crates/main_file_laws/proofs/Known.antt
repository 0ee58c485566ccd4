-- The names of a main program's function stand for its objects.
use Rattle.std.specs.Prelude.{◌≡◌, ℕ, zero, suc, ◌+◌, ◌-◌, ◌<◌, nat_le, nat_lt, nat_eq, ℤ, pos, Bool, true, false, ◌&&◌, List, [], ◌∷◌, ◌++◌, map, length, replicate, position, Option, Some, None, is_some, option_map, unwrap_or, slice_get, bytes_eq, if◌then◌else◌}
use Rattle.std.specs.Ordering.{int_eq}
use Rattle.std.proofs.Common.{refl, sym, ap, ◌∙◌, subst, arith}
use Rattle.std.proofs.lemmas.Bool.{and_left, ltb-true, le-leb, lt-leb}
use Rattle.std.proofs.lemmas.List.{length-append, length-map, length-replicate}
use Rattle.std.proofs.lemmas.Slice.Eq.{bytes_eq-Decides}
use Rattle.main_file.specs.f_tree.declared.names.Basic.{Basic}
use Rattle.main_file.specs.f_tree.Values.{Bytes}
use Rattle.main_file.specs.f_tree.Facts.{Bounds, Facts}
use Rattle.main_file.specs.f_tree.CNames.{variable_name, made_name, NumberTemporary, ControlList, ConstantOf}
use Rattle.linking_laws.specs.c_tree.declared.statement.CStmt.{CStmt}
use Rattle.linking_laws.specs.c_tree.declared.types.ListType.TheVariants as list_type
use Rattle.linking_laws.specs.c_tree.Access.{Access, ToNumber, ToList}
use Rattle.linking_laws.specs.c_tree.Objects.{bytes_of_number}
use Rattle.linking_laws.specs.c_tree.Terms.{Variable, Array, Routine}
use Rattle.linking_laws.specs.c_tree.Declarations.{Declared, made, filled, variable, declared_statics, declared_automatics, declared_externs}
use Rattle.linking_laws.specs.c_tree.Builtins.{builtin_names}
use Rattle.linking_laws.specs.c_tree.FlatForm.{whole_body}
use Rattle.linking_laws.specs.c_tree.Linking.{Routines, routine, declared_constants, file_scope}
use Rattle.main_file.specs.c_image.Elements.{quantity_term}
use Rattle.main_file.specs.f_tree.Valuing.{size_of_dimension}
use Rattle.linking_laws.specs.c_structure.Expressions.{Names, strings_in}
use Rattle.linking_laws.specs.c_structure.Expressions as written
use Rattle.main_file.specs.c_emit.Numbers.{is_scalar, is_array}
use Rattle.linking_laws.specs.c_structure_laws.Fitting.{KnowsArray}
use Rattle.linking_laws.specs.Linked as linked
use Rattle.linking_laws.specs.Linked.{AreDistinct, IsNone, scope_of}
use Rattle.linking_laws.proofs.Places.{some_same, get_front, get_back, map_at, within, taken, skipped, position_step}
use Rattle.linking_laws.proofs.Scopes.{scopes_are_known, file_scopes_are_known}
use Rattle.emitted_names.specs.KnownNames.{IsPlain, Calls}
use Rattle.emitted_names.proofs.TermNames.{number_plain}
use Rattle.main_file.specs.MainFile as main
use Rattle.main_file.specs.MainFile.{Inventory, Listing, Called, Bases, constant_for, main_locals, main_function, main_file, first_list, first_string, first_temporary, place_of_constant, place_of_variable, place_of_list, constant_names, lasting_names, temporary_names, called_names, list_names, function_names, object_name, string_at, names_of, lower_of, size_of, writing_of}
use Rattle.main_file_laws.specs.KnownFile.{NamesDiffer, VariablesAreListed, scope_in, FileIsKnown, MainFilesAreKnown}
use Rattle.main_file_laws.proofs.Listed.{stands_by, declared_variable, declared_listing, declared_temporary, no_strings, lasting_names_are, statics_count, variable_at, listing_at, temporary_names_are, temporary_at, externs_listed}

-- ## Positions

-- what stands where a test first passes
pub record IsFound {A : Type 0} (test : A → Bool) (xs : List A) (i : ℕ) : Type 0 where
  pub one : A
  pub at : slice_get xs i ≡ Some one
  pub passes : test one ≡ true

one_more : {A : Type 0} (test : A → Bool) (x : A) (xs : List A) (i : ℕ) (found : Option ℕ) → option_map suc found ≡ Some i → ((j : ℕ) → found ≡ Some j → IsFound test xs j) → IsFound test (x ∷ xs) i
one_more test x xs i (Some j) h later =
    let f = later j refl in
    let same : suc j ≡ i = some_same (suc j) i h in
    record { one = f.one; at = ap (slice_get (x ∷ xs)) (sym same) ∙ f.at; passes = f.passes }
one_more test x xs i None h later = absurd (cc)

found_by : {A : Type 0} (test : A → Bool) (x : A) (xs : List A) (i : ℕ) (t : Bool) → test x ≡ t → (if t then Some 0 else option_map suc (position test xs)) ≡ Some i → ((j : ℕ) → position test xs ≡ Some j → IsFound test xs j)
    → IsFound test (x ∷ xs) i
found_by test x xs i true is h later = let same : 0 ≡ i = some_same 0 i h in record { one = x; at = ap (slice_get (x ∷ xs)) (sym same); passes = is }
found_by test x xs i false is h later = one_more test x xs i (position test xs) h later

pub position_finds : {A : Type 0} (test : A → Bool) (xs : List A) (i : ℕ) → position test xs ≡ Some i → IsFound test xs i
position_finds test [] i h = absurd (cc)
position_finds test (x ∷ xs) i h = found_by test x xs i (test x) refl (sym (position_step test x xs) ∙ h) (λ j. position_finds test xs j)

some_place : (found : Option ℕ) → is_some found ≡ true → (i : ℕ) × (found ≡ Some i)
some_place (Some i) h = (i, refl)
some_place None h = absurd (cc)

temporary_named : (k n i : ℕ) → i < n → slice_get (temporary_names k n) i ≡ Some (made_name (NumberTemporary (k + i)))
temporary_named k zero i below = absurd (let no : ⊥ = omega (arith, below) in no)
temporary_named k (suc n) zero below = ap (λ m. Some (made_name (NumberTemporary m))) {x = k} {y = k + 0} (omega arith)
temporary_named k (suc n) (suc i) below = temporary_named (suc k) n i (omega (arith, below)) ∙ ap (λ m. Some (made_name (NumberTemporary m))) {x = suc k + i} {y = k + suc i} (omega arith)

list_named : (k : ℕ) (ls : List Listing) (i : ℕ) (l : Listing) → slice_get ls i ≡ Some l → slice_get (list_names k ls) i ≡ Some (made_name (ControlList (k + i)))
list_named k [] i l at = absurd (cc)
list_named k (m ∷ ls) zero l at = ap (λ n. Some (made_name (ControlList n))) {x = k} {y = k + 0} (omega arith)
list_named k (m ∷ ls) (suc i) l at = list_named (suc k) ls i l at ∙ ap (λ n. Some (made_name (ControlList n))) {x = suc k + i} {y = k + suc i} (omega arith)

list_names_count : (k : ℕ) (ls : List Listing) → length (list_names k ls) ≡ length ls
list_names_count k [] = refl
list_names_count k (l ∷ ls) = ap suc (list_names_count (suc k) ls)

-- the constants of a file
abbrev declared_constant : ℤ → Declared
declared_constant z = made (made_name (ConstantOf z)) (variable ToNumber) (filled 4 (bytes_of_number z))

constants_declared : (zs : List ℤ) → declared_constants (map constant_for zs) ≡ map declared_constant zs
constants_declared [] = refl
constants_declared (z ∷ zs) = ap (λ ds. declared_constant z ∷ ds) (constants_declared zs)

constants_named : (zs : List ℤ) → linked.names_of (map declared_constant zs) ≡ map (λ z. made_name (ConstantOf z)) zs
constants_named [] = refl
constants_named (z ∷ zs) = ap (λ ns. made_name (ConstantOf z) ∷ ns) (constants_named zs)

module _ (numbers : Routines) (objects : List ℕ → Option ℕ) (v : Inventory) (b : Bases) (facts : Facts) (kind : ℕ → ℕ → Option Basic) (body : List CStmt) (differ : NamesDiffer v b)
    (listed : VariablesAreListed v facts b kind) (strings : length (whole_body body).items.strings ≡ length v.strings) where
  inner : linked.NamesAreKnown numbers (file_scope numbers objects b.file (main_file v body)) b.function (main_function v body)
  inner = scopes_are_known numbers (file_scope numbers objects b.file (main_file v body)) b.function (main_function v body)

  around : linked.FileNamesAreKnown numbers objects b.file (main_file v body)
  around = file_scopes_are_known numbers objects b.file (main_file v body)

  -- ## Where the frame stands

  all_strings : length (linked.strings (main_function v body)) ≡ length v.strings
  all_strings = ap (λ (ss : List (List ℕ)). length (ss ++ (whole_body body).items.strings)) (no_strings v) ∙ strings

  frame_is : linked.frame b.function (main_function v body) ≡ first_temporary v b
  frame_is =
      let kept = statics_count v in
      let passed = all_strings in
      omega (arith, kept, passed)

  -- ## Names of objects

  own_name : (i : ℕ) (name : List ℕ) → slice_get (function_names v) i ≡ Some name → object_name v b (b.function + i) ≡ name
  unfolding object_name
  own_name i name at =
      taken (nat_le b.function (b.function + i)) (unwrap_or (slice_get (function_names v) ((b.function + i) - b.function)) []) (unwrap_or (slice_get (constant_names v) ((b.function + i) - b.file)) []) (le-leb b.function (b.function + i) (omega arith))
      ∙ ap (λ k. unwrap_or (slice_get (function_names v) k) []) {x = (b.function + i) - b.function} {y = i} (omega arith) ∙ ap (λ o. unwrap_or o []) at

  lasting_name : (i : ℕ) (name : List ℕ) → slice_get (lasting_names v) i ≡ Some name → object_name v b (b.function + i) ≡ name
  lasting_name i name at = own_name i name (get_front (lasting_names v) (replicate (length v.strings) [] ++ temporary_names 1 v.temporaries) i name at)

  lasting_count : length (lasting_names v) ≡ length v.variables + length v.lists
  lasting_count = length-append (map (λ (one : main.Variable). variable_name one.name) v.variables) (list_names 1 v.lists) ∙ (λ i. length-map v.variables (λ (one : main.Variable). variable_name one.name) i + list_names_count 1 v.lists i)

  temporary_name : (k : ℕ) (name : List ℕ) → slice_get (temporary_names 1 v.temporaries) k ≡ Some name → object_name v b (first_temporary v b + k) ≡ name
  temporary_name k name at =
      let kept = lasting_count in
      let blanks : length {A = List ℕ} (replicate (length v.strings) []) ≡ length v.strings = length-replicate (length v.strings) [] in
      ap (object_name v b) {x = first_temporary v b + k} {y = b.function + (length v.variables + length v.lists + length v.strings + k)} (omega arith)
      ∙ own_name (length v.variables + length v.lists + length v.strings + k) name
      (get_back (lasting_names v) (replicate (length v.strings) [] ++ temporary_names 1 v.temporaries) (length v.variables + length v.lists + length v.strings + k) (length v.strings + k) name (omega (arith, kept))
      (get_back (replicate (length v.strings) []) (temporary_names 1 v.temporaries) (length v.strings + k) k name (omega (arith, blanks)) at))

  file_name : (i : ℕ) (name : List ℕ) → slice_get (constant_names v) i ≡ Some name → object_name v b (b.file + i) ≡ name
  unfolding object_name
  file_name i name at =
      let less = within (constant_names v) i name at in
      let count = length-map v.constants (λ z. made_name (ConstantOf z)) in
      let before = differ.behind in
      skipped (nat_le b.function (b.file + i)) (unwrap_or (slice_get (function_names v) ((b.file + i) - b.function)) []) (unwrap_or (slice_get (constant_names v) ((b.file + i) - b.file)) []) (lt-leb b.function (b.file + i) (omega (arith, less, count, before)))
      ∙ ap (λ k. unwrap_or (slice_get (constant_names v) k) []) {x = (b.file + i) - b.file} {y = i} (omega arith) ∙ ap (λ o. unwrap_or o []) at

  no_string : (k : ℕ) → k < first_string v b → string_at v b k ≡ None
  unfolding string_at
  no_string k below =
      skipped (nat_le (first_string v b) k && nat_lt k (first_temporary v b)) (Some (v.texts (unwrap_or (slice_get v.strings (k - first_string v b)) 0))) None
      (and_left (nat_le (first_string v b) k) (nat_lt k (first_temporary v b)) (lt-leb (first_string v b) k below))

  -- ## What they stand for

  plain_variable : (k : ℕ) (access : Access) → scope_in numbers objects v b body (object_name v b k) ≡ Variable k access → IsPlain (scope_in numbers objects v b body) (names_of v b) (Variable k access)
  unfolding strings_in
  plain_variable k access known = record { knows = known; no_strings = refl }

  plain_array : (k : ℕ) (access : Access) → string_at v b k ≡ None → scope_in numbers objects v b body (object_name v b k) ≡ Array k access → IsPlain (scope_in numbers objects v b body) (names_of v b) (Array k access)
  unfolding strings_in written.string_at
  plain_array k access none known = record {
    knows = subst (λ found. KnowsArray (scope_in numbers objects v b body) (object_name v b k) found k access) (sym none) known;
    no_strings = ap (λ found. written.string_at found k) none;
  }

  distinct_lasting : AreDistinct (linked.names_of (declared_statics (main_locals v)))
  distinct_lasting = subst AreDistinct (sym (lasting_names_are v)) differ.lasting

  none_lasting : (name : List ℕ) → IsNone name (lasting_names v) → IsNone name (linked.names_of (declared_statics (main_locals v)))
  none_lasting name none = subst (IsNone name) (sym (lasting_names_are v)) none

  none_framed : (name : List ℕ) → IsNone name (temporary_names 1 v.temporaries) → IsNone name (linked.names_of (declared_automatics (main_locals v)))
  none_framed name none = subst (IsNone name) (sym (temporary_names_are v)) none

  none_called : (name : List ℕ) → IsNone name (called_names v) → IsNone name (declared_externs (main_locals v))
  none_called name none = subst (IsNone name) (sym (externs_listed v)) none

  variable_stands : (i : ℕ) (one : main.Variable) → slice_get v.variables i ≡ Some one → scope_in numbers objects v b body (object_name v b (b.function + i)) ≡ stands_by one.count (b.function + i)
  variable_stands i one at =
      ap (scope_in numbers objects v b body) (lasting_name i (variable_name one.name) (get_front (map (λ (w : main.Variable). variable_name w.name) v.variables) (list_names 1 v.lists) i (variable_name one.name) (map_at (λ (w : main.Variable). variable_name w.name) v.variables i one at)))
      ∙ inner.lasting i (declared_variable one) distinct_lasting (variable_at v i one at)

  scalar_plain : (x : Bytes) → is_scalar (writing_of v b facts kind) x ≡ true → IsPlain (scope_in numbers objects v b body) (names_of v b) (Variable (b.function + main.place_or_none (place_of_variable v x)) ToNumber)
  scalar_plain x holds =
      let l = listed.scalars x holds in
      let i = l.0 in
      let one = l.1 in
      subst (λ place. IsPlain (scope_in numbers objects v b body) (names_of v b) (Variable (b.function + main.place_or_none place) ToNumber)) (sym l.2)
      (plain_variable (b.function + i) ToNumber (variable_stands i one l.3 ∙ ap (λ count. stands_by count (b.function + i)) l.4))

  array_plain : (x : Bytes) → is_array (writing_of v b facts kind) x ≡ true → IsPlain (scope_in numbers objects v b body) (names_of v b) (Array (b.function + main.place_or_none (place_of_variable v x)) ToNumber)
  array_plain x holds =
      let l = listed.arrays x holds in
      let i = l.0 in
      let one = l.1 in
      let count = l.2 in
      let less = within v.variables i one l.4 in
      subst (λ place. IsPlain (scope_in numbers objects v b body) (names_of v b) (Array (b.function + main.place_or_none place) ToNumber)) (sym l.3)
      (plain_array (b.function + i) ToNumber (no_string (b.function + i) (omega (arith, less))) (variable_stands i one l.4 ∙ ap (λ count. stands_by count (b.function + i)) l.5))

  temporary_plain : (k : ℕ) → nat_lt k v.temporaries ≡ true → IsPlain (scope_in numbers objects v b body) (names_of v b) (Variable (first_temporary v b + k) ToNumber)
  temporary_plain k h =
      let below = ltb-true k v.temporaries h in
      let named = temporary_named 1 v.temporaries k below in
      plain_variable (first_temporary v b + k) ToNumber
      (ap (scope_in numbers objects v b body) (temporary_name k (made_name (NumberTemporary (1 + k))) named)
      ∙ inner.in_frame k (declared_temporary (1 + k)) (subst AreDistinct (sym (temporary_names_are v)) differ.temporaries) (none_lasting (made_name (NumberTemporary (1 + k))) (differ.not_lasting k (made_name (NumberTemporary (1 + k))) named))
      (temporary_at v k below)
      ∙ ap (λ n. Variable (n + k) ToNumber) frame_is)

  constant_stands : (i : ℕ) (z : ℤ) → slice_get v.constants i ≡ Some z → scope_in numbers objects v b body (object_name v b (b.file + i)) ≡ Variable (b.file + i) ToNumber
  constant_stands i z at =
      let name = made_name (ConstantOf z) in
      let named = map_at (λ (y : ℤ). made_name (ConstantOf y)) v.constants i z at in
      let none = differ.not_own i name named in
      ap (scope_in numbers objects v b body) (file_name i name named)
      ∙ inner.others name (none_lasting name none.0) (none_framed name none.1) (none_called name none.2)
      ∙ around.constants i (declared_constant z) (subst AreDistinct (sym (ap linked.names_of (constants_declared v.constants) ∙ constants_named v.constants)) differ.constants)
      (ap (λ ds. slice_get ds i) (constants_declared v.constants) ∙ map_at declared_constant v.constants i z at)

  constant_plain : (z : ℤ) → is_some (place_of_constant v z) ≡ true → IsPlain (scope_in numbers objects v b body) (names_of v b) (Variable (b.file + main.place_or_none (place_of_constant v z)) ToNumber)
  constant_plain z h =
      let place = some_place (place_of_constant v z) h in
      let found = position_finds (int_eq z) v.constants place.0 place.1 in
      subst (λ p. IsPlain (scope_in numbers objects v b body) (names_of v b) (Variable (b.file + main.place_or_none p) ToNumber)) (sym place.1) (plain_variable (b.file + place.0) ToNumber (constant_stands place.0 found.one found.at))

  list_plain : (n i : ℕ) → place_of_list v n ≡ Some i → IsPlain (scope_in numbers objects v b body) (names_of v b) (Variable (first_list v b + main.place_or_none (place_of_list v n)) (ToList list_type.Transfer))
  list_plain n i is =
      let found = position_finds (λ (l : Listing). nat_eq n l.step) v.lists i is in
      let name = made_name (ControlList (1 + i)) in
      let count = length-map v.variables (λ (w : main.Variable). variable_name w.name) in
      let there = length v.variables + i in
      subst (λ p. IsPlain (scope_in numbers objects v b body) (names_of v b) (Variable (first_list v b + main.place_or_none p) (ToList list_type.Transfer))) (sym is)
      (subst (λ k. IsPlain (scope_in numbers objects v b body) (names_of v b) (Variable k (ToList list_type.Transfer))) {x = b.function + there} {y = first_list v b + i} (omega arith)
      (plain_variable (b.function + there) (ToList list_type.Transfer)
      (ap (scope_in numbers objects v b body) (lasting_name there name (get_back (map (λ (w : main.Variable). variable_name w.name) v.variables) (list_names 1 v.lists) there i name (omega (arith, count)) (list_named 1 v.lists i found.one found.at)))
      ∙ inner.lasting there (declared_listing (1 + i) found.one) distinct_lasting (listing_at v i found.one found.at))))

  quantity_plain : (o : Option Bounds) → IsPlain (scope_in numbers objects v b body) (names_of v b) (quantity_term (lower_of o))
  quantity_plain None = number_plain (scope_in numbers objects v b body) (names_of v b) (pos 0)
  quantity_plain (Some bounds) = number_plain (scope_in numbers objects v b body) (names_of v b) bounds.lower

  size_plain : (o : Option Bounds) → IsPlain (scope_in numbers objects v b body) (names_of v b) (quantity_term (size_of o))
  size_plain None = number_plain (scope_in numbers objects v b body) (names_of v b) (pos 0)
  size_plain (Some bounds) = number_plain (scope_in numbers objects v b body) (names_of v b) (pos (size_of_dimension bounds))

  call_known : (i k : ℕ) (name : List ℕ) → slice_get (called_names v) i ≡ Some name → position (bytes_eq name) builtin_names ≡ Some k → numbers name ≡ Some (b.own + k) →
      Calls (scope_in numbers objects v b body) (names_of v b) (writing_of v b facts kind) name
  call_known i k name at is number =
      let found = position_finds (bytes_eq name) builtin_names k is in
      let same : name ≡ found.one = (bytes_eq-Decides name found.one).0 found.passes in
      let none = differ.not_objects i name at in
      let called : unwrap_or (slice_get builtin_names ((b.own + k) - b.own)) [] ≡ name =
      ap (λ m. unwrap_or (slice_get builtin_names m) []) {x = (b.own + k) - b.own} {y = k} (omega arith) ∙ ap (λ o. unwrap_or o []) found.at ∙ sym same in
      subst (λ p. scope_in numbers objects v b body (unwrap_or (slice_get builtin_names ((b.own + unwrap_or p 0) - b.own)) []) ≡ Routine (b.own + unwrap_or p 0)) (sym is)
      (ap (scope_in numbers objects v b body) called
      ∙ inner.called i name (ap (λ ns. slice_get ns i) (externs_listed v) ∙ at) (none_lasting name none.0) (none_framed name none.1) ∙ ap routine number)

  all_known : FileIsKnown numbers objects v b facts kind body
  all_known = record {
    names = record {
      scalars = scalar_plain;
      arrays = array_plain;
      lowers = λ x k holds. quantity_plain (slice_get (facts.program.attribute x).bounds k);
      sizes = λ x k holds. size_plain (slice_get (facts.program.attribute x).bounds k);
      temporaries = temporary_plain;
      constants = constant_plain;
    };
    lists = list_plain;
    calls = call_known;
  }

pub main_files_are_known : MainFilesAreKnown
main_files_are_known numbers objects v b facts kind body differ listed strings = all_known numbers objects v b facts kind body differ listed strings
