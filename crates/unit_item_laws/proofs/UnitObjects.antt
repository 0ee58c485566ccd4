-- What the objects of a unit are called.
use Rattle.std.specs.Prelude.{◌≡◌, ℕ, zero, suc, ◌+◌, ◌-◌, ◌<◌, ◌≤◌, nat_le, nat_lt, nat_eq, ℤ, Bool, true, false, ◌&&◌, List, [], ◌∷◌, ◌++◌, map, length, replicate, Option, Some, None, is_some, unwrap_or, slice_get, bytes_eq}
use Rattle.std.specs.Ordering.{int_eq}
use Rattle.std.proofs.Common.{refl, sym, ap, ◌∙◌, arith}
use Rattle.std.proofs.lemmas.Bool.{ltb-true, lt-ltb, le-leb, lt-leb}
use Rattle.std.proofs.lemmas.List.{length-append, length-map, length-replicate}
use Rattle.std.proofs.lemmas.Slice.Eq.{bytes_eq-Decides}
use Rattle.item_emission.specs.f_tree.Values.{Bytes}
use Rattle.item_emission.specs.f_tree.CNames.{variable_name, made_name, FunctionResult, NumberTemporary, ControlList, ConstantOf}
use Rattle.item_emission.specs.c_tree.declared.types.NumberType.{NumberType}
use Rattle.item_emission.specs.c_tree.Builtins.{builtin_names}
use Rattle.item_emission.specs.main_file.MainFile.{list_names, temporary_names}
use Rattle.unit_file_laws.specs.unit_file.UnitFile as file
use Rattle.unit_file_laws.specs.unit_file.UnitFile.{Listing, BoundKind, LowerOf, SizeOf, KeptBound, Inventory, Bases, name_of_bound, bound_name, result_count, frame_count, first_list, first_string, first_parameter, result_object, first_temporary, first_bound, is_same_kind, is_bound, place_or_none, place_of_constant, place_of_variable, place_of_parameter, place_of_list, place_of_string, lasting_names, result_names, framed_names, parameter_object}
use Rattle.unit_file_laws.specs.unit_file.UnitNames.{constant_names, object_names, object_name, string_at, own_names, routine_name}
use Rattle.unit_file_laws.specs.unit_sites.UnitSites.{Site}
use Rattle.item_emission.proofs.ObjectNames.{get_front, get_back, map_at, chosen, other, and_false, and_true, position_finds, within, some_place, temporary_named, list_named, list_names_count, equal_is, same_number}

result_names_count : (returned : Option NumberType) → length (result_names returned) ≡ result_count returned
result_names_count None = refl
result_names_count (Some type) = refl

temporary_names_count : (k n : ℕ) → length (temporary_names k n) ≡ n
temporary_names_count k zero = refl
temporary_names_count k (suc n) = ap suc (temporary_names_count (suc k) n)

same_kind : (one other : BoundKind) → is_same_kind one other ≡ true → one ≡ other
unfolding is_same_kind
same_kind LowerOf LowerOf h = refl
same_kind SizeOf SizeOf h = refl
same_kind LowerOf SizeOf h = absurd (cc)
same_kind SizeOf LowerOf h = absurd (cc)

both_are : (a b : Bool) → a && b ≡ true → (a ≡ true) × (b ≡ true)
both_are true true h = (refl, refl)
both_are true false h = absurd (cc)
both_are false b h = absurd (cc)

-- a bound that is found has the name that is looked for
pub found_name : (x : Bytes) (place : ℕ) (kind : BoundKind) (one : KeptBound) → is_bound x place kind one ≡ true → bound_name one ≡ name_of_bound x place kind
unfolding is_bound
found_name x place kind one h =
    let first = both_are (bytes_eq x one.dummy) (nat_eq place one.place && is_same_kind kind one.kind) h in
    let second = both_are (nat_eq place one.place) (is_same_kind kind one.kind) first.1 in
    let name : x ≡ one.dummy = (bytes_eq-Decides x one.dummy).0 first.0 in
    let number : place ≡ one.place = sym (same_number place one.place second.0) in
    let same : kind ≡ one.kind = same_kind kind one.kind second.1 in
    sym (λ i. name_of_bound (name i) (number i) (same i))

module _ (s : Site) (v : Inventory) where
  abbrev b : Bases
  b = s.bases

  -- what stands in the frame behind the result
  abbrev its_kept : List (List ℕ)
  its_kept = temporary_names 1 v.temporaries ++ map bound_name v.bounds

  own_name : (i : ℕ) (name : List ℕ) → slice_get (object_names v) i ≡ Some name → object_name s.constants v b (b.function + i) ≡ name
  unfolding object_name
  own_name i name at =
      chosen (nat_le b.function (b.function + i)) (unwrap_or (slice_get (object_names v) ((b.function + i) - b.function)) []) (unwrap_or (slice_get (constant_names s.constants) ((b.function + i) - b.file)) []) (le-leb b.function (b.function + i) (omega arith))
      ∙ ap (λ k. unwrap_or (slice_get (object_names v) k) []) {x = (b.function + i) - b.function} {y = i} (omega arith) ∙ ap (λ o. unwrap_or o []) at

  lasting_name : (i : ℕ) (name : List ℕ) → slice_get (lasting_names v) i ≡ Some name → object_name s.constants v b (b.function + i) ≡ name
  lasting_name i name at = own_name i name (get_front (lasting_names v) (replicate (length v.strings) [] ++ framed_names v) i name at)

  lasting_count : length (lasting_names v) ≡ length v.variables + length v.lists
  lasting_count =
      length-append (map (λ (one : file.Variable). variable_name one.name) v.variables) (list_names 1 v.lists) ∙ (λ i. length-map v.variables (λ (one : file.Variable). variable_name one.name) i + list_names_count 1 v.lists i)

  framed_name : (k : ℕ) (name : List ℕ) → slice_get (framed_names v) k ≡ Some name → object_name s.constants v b (first_parameter v b + k) ≡ name
  framed_name k name at =
      let kept = lasting_count in
      let blanks : length {A = List ℕ} (replicate (length v.strings) []) ≡ length v.strings = length-replicate (length v.strings) [] in
      ap (object_name s.constants v b) {x = first_parameter v b + k} {y = b.function + (length v.variables + length v.lists + length v.strings + k)} (omega arith)
      ∙ own_name (length v.variables + length v.lists + length v.strings + k) name
      (get_back (lasting_names v) (replicate (length v.strings) [] ++ framed_names v) (length v.variables + length v.lists + length v.strings + k) (length v.strings + k) name (omega (arith, kept))
      (get_back (replicate (length v.strings) []) (framed_names v) (length v.strings + k) k name (omega (arith, blanks)) at))

  file_name : s.bases.file + length s.constants ≤ s.bases.function → (i : ℕ) (name : List ℕ) → slice_get (constant_names s.constants) i ≡ Some name → object_name s.constants v b (b.file + i) ≡ name
  unfolding object_name
  file_name before i name at =
      let less = within (constant_names s.constants) i name at in
      let count = length-map s.constants (λ z. made_name (ConstantOf z)) in
      other (nat_le b.function (b.file + i)) (unwrap_or (slice_get (object_names v) ((b.file + i) - b.function)) []) (unwrap_or (slice_get (constant_names s.constants) ((b.file + i) - b.file)) [])
      (lt-leb b.function (b.file + i) (omega (arith, less, count, before)))
      ∙ ap (λ k. unwrap_or (slice_get (constant_names s.constants) k) []) {x = (b.file + i) - b.file} {y = i} (omega arith) ∙ ap (λ o. unwrap_or o []) at

  no_string : (k : ℕ) → k < first_string v b → string_at v b k ≡ None
  unfolding string_at
  no_string k below =
      other (nat_le (first_string v b) k && nat_lt k (first_parameter v b)) (Some (v.texts (unwrap_or (slice_get v.strings (k - first_string v b)) 0))) None
      (and_false (nat_le (first_string v b) k) (nat_lt k (first_parameter v b)) (lt-leb (first_string v b) k below))

  -- ## Variables, parameters and the result

  pub variable_is : (x : Bytes) (i : ℕ) → place_of_variable v x ≡ Some i → object_name s.constants v b (b.function + place_or_none (place_of_variable v x)) ≡ variable_name x
  variable_is x i is =
      let found = position_finds (λ (one : file.Variable). bytes_eq x one.name) v.variables i is in
      let same : x ≡ found.one.name = (bytes_eq-Decides x found.one.name).0 found.passes in
      ap (λ o. object_name s.constants v b (b.function + place_or_none o)) is
      ∙ lasting_name i (variable_name found.one.name)
      (get_front (map (λ (one : file.Variable). variable_name one.name) v.variables) (list_names 1 v.lists) i (variable_name found.one.name) (map_at (λ (one : file.Variable). variable_name one.name) v.variables i found.one found.at))
      ∙ ap variable_name (sym same)

  pub variable_is_no_string : (x : Bytes) (i : ℕ) → place_of_variable v x ≡ Some i → string_at v b (b.function + place_or_none (place_of_variable v x)) ≡ None
  variable_is_no_string x i is =
      let found = position_finds (λ (one : file.Variable). bytes_eq x one.name) v.variables i is in
      let less = within v.variables i found.one found.at in
      ap (λ o. string_at v b (b.function + place_or_none o)) is ∙ no_string (b.function + i) (omega (arith, less))

  pub parameter_is : (x : Bytes) (i : ℕ) → place_of_parameter v x ≡ Some i → object_name s.constants v b (parameter_object v b x) ≡ variable_name x
  parameter_is x i is =
      let found = position_finds (λ (one : file.Parameter). bytes_eq x one.name) v.parameters i is in
      let same : x ≡ found.one.name = (bytes_eq-Decides x found.one.name).0 found.passes in
      ap (λ o. object_name s.constants v b (first_parameter v b + unwrap_or o (frame_count v))) is
      ∙ framed_name i (variable_name found.one.name)
      (get_front (map (λ (one : file.Parameter). variable_name one.name) v.parameters) (result_names v.returned ++ its_kept) i (variable_name found.one.name)
      (map_at (λ (one : file.Parameter). variable_name one.name) v.parameters i found.one found.at))
      ∙ ap variable_name (sym same)

  parameters_count : length (map (λ (one : file.Parameter). variable_name one.name) v.parameters) ≡ length v.parameters
  parameters_count = length-map v.parameters (λ (one : file.Parameter). variable_name one.name)

  pub result_is : (type : NumberType) → v.returned ≡ Some type → object_name s.constants v b (result_object v b) ≡ made_name FunctionResult
  result_is type is =
      let count = parameters_count in
      framed_name (length v.parameters) (made_name FunctionResult)
      (get_back (map (λ (one : file.Parameter). variable_name one.name) v.parameters) (result_names v.returned ++ its_kept) (length v.parameters) 0 (made_name FunctionResult) (omega (arith, count))
      (ap (λ returned. slice_get (result_names returned ++ its_kept) 0) is))

  -- ## Temporaries, constants, control lists and texts

  pub temporary_is : (k : ℕ) → nat_lt k v.temporaries ≡ true → object_name s.constants v b (first_temporary v b + k) ≡ made_name (NumberTemporary (suc k))
  temporary_is k h =
      let count = parameters_count in
      let results = result_names_count v.returned in
      let index = length v.parameters + (result_count v.returned + k) in
      let name = made_name (NumberTemporary (1 + k)) in
      ap (object_name s.constants v b) {x = first_temporary v b + k} {y = first_parameter v b + index} (omega arith)
      ∙ framed_name index name
      (get_back (map (λ (one : file.Parameter). variable_name one.name) v.parameters) (result_names v.returned ++ its_kept) index (result_count v.returned + k) name (omega (arith, count))
      (get_back (result_names v.returned) its_kept (result_count v.returned + k) k name (omega (arith, results))
      (get_front (temporary_names 1 v.temporaries) (map bound_name v.bounds) k name (temporary_named 1 v.temporaries k (ltb-true k v.temporaries h)))))
      ∙ ap (λ n. made_name (NumberTemporary n)) {x = 1 + k} {y = suc k} (omega arith)

  pub bound_is : (i : ℕ) (one : KeptBound) → slice_get v.bounds i ≡ Some one → object_name s.constants v b (first_bound v b + i) ≡ bound_name one
  bound_is i one at =
      let count = parameters_count in
      let results = result_names_count v.returned in
      let kept = temporary_names_count 1 v.temporaries in
      let index = length v.parameters + (result_count v.returned + (v.temporaries + i)) in
      let name = bound_name one in
      ap (object_name s.constants v b) {x = first_bound v b + i} {y = first_parameter v b + index} (omega arith)
      ∙ framed_name index name
      (get_back (map (λ (one : file.Parameter). variable_name one.name) v.parameters) (result_names v.returned ++ its_kept) index (result_count v.returned + (v.temporaries + i)) name (omega (arith, count))
      (get_back (result_names v.returned) its_kept (result_count v.returned + (v.temporaries + i)) (v.temporaries + i) name (omega (arith, results))
      (get_back (temporary_names 1 v.temporaries) (map bound_name v.bounds) (v.temporaries + i) i name (omega (arith, kept)) (map_at bound_name v.bounds i one at))))

  pub constant_is : s.bases.file + length s.constants ≤ s.bases.function → (z : ℤ) → is_some (place_of_constant s.constants z) ≡ true → object_name s.constants v b (b.file + place_or_none (place_of_constant s.constants z)) ≡ made_name (ConstantOf z)
  constant_is before z h =
      let place = some_place (place_of_constant s.constants z) h in
      let found = position_finds (int_eq z) s.constants place.0 place.1 in
      ap (λ o. object_name s.constants v b (b.file + place_or_none o)) place.1
      ∙ file_name before place.0 (made_name (ConstantOf found.one)) (map_at (λ (y : ℤ). made_name (ConstantOf y)) s.constants place.0 found.one found.at)
      ∙ ap (λ y. made_name (ConstantOf y)) (sym (equal_is z found.one found.passes))

  pub list_is : (n i : ℕ) → place_of_list v n ≡ Some i → object_name s.constants v b (first_list v b + place_or_none (place_of_list v n)) ≡ made_name (ControlList (suc i))
  list_is n i is =
      let found = position_finds (λ (l : Listing). nat_eq n l.step) v.lists i is in
      let name = made_name (ControlList (1 + i)) in
      let count = length-map v.variables (λ (one : file.Variable). variable_name one.name) in
      let there = length v.variables + i in
      ap (λ o. object_name s.constants v b (first_list v b + place_or_none o)) is
      ∙ ap (object_name s.constants v b) {x = first_list v b + i} {y = b.function + there} (omega arith)
      ∙ lasting_name there name (get_back (map (λ (one : file.Variable). variable_name one.name) v.variables) (list_names 1 v.lists) there i name (omega (arith, count)) (list_named 1 v.lists i found.one found.at))
      ∙ ap (λ k. made_name (ControlList k)) {x = 1 + i} {y = suc i} (omega arith)

  text_by : (n i : ℕ) → slice_get v.strings i ≡ Some n → string_at v b (first_string v b + i) ≡ Some (v.texts n)
  unfolding string_at
  text_by n i at =
      let less = within v.strings i n at in
      chosen (nat_le (first_string v b) (first_string v b + i) && nat_lt (first_string v b + i) (first_parameter v b)) (Some (v.texts (unwrap_or (slice_get v.strings ((first_string v b + i) - first_string v b)) 0))) None
      (and_true (nat_le (first_string v b) (first_string v b + i)) (nat_lt (first_string v b + i) (first_parameter v b)) (le-leb (first_string v b) (first_string v b + i) (omega arith)) (lt-ltb (first_string v b + i) (first_parameter v b) (omega (arith, less))))
      ∙ ap (λ k. Some (v.texts (unwrap_or (slice_get v.strings k) 0))) {x = (first_string v b + i) - first_string v b} {y = i} (omega arith)
      ∙ ap (λ o. Some (v.texts (unwrap_or o 0))) at

  pub text_is : (n i : ℕ) → place_of_string v n ≡ Some i → string_at v b (first_string v b + place_or_none (place_of_string v n)) ≡ Some (v.texts n)
  text_is n i is =
      let found = position_finds (nat_eq n) v.strings i is in
      ap (λ o. string_at v b (first_string v b + place_or_none o)) is ∙ text_by n i (found.at ∙ ap Some (same_number n found.one found.passes))

-- ## Functions of the library

past : {A : Type 0} (xs ys : List A) (n k : ℕ) → n ≡ length xs + k → slice_get (xs ++ ys) n ≡ slice_get ys k
past [] ys n k at = ap (slice_get ys) {x = n} {y = k} (omega (arith, at))
past (x ∷ xs) ys zero k at = absurd (let no : ⊥ = omega (arith, at) in no)
past (x ∷ xs) ys (suc n) k at = past xs ys n k (omega (arith, at))

-- they have their numbers behind those of the program
pub library_is : (vs : List Inventory) (own k : ℕ) → own ≡ length vs → routine_name vs (own + k) ≡ unwrap_or (slice_get builtin_names k) []
library_is vs own k owned =
    let counted = length-map vs (λ (u : Inventory). u.name) in
    ap (λ o. unwrap_or o []) (past (own_names vs) builtin_names (own + k) k (omega (arith, counted, owned)))
