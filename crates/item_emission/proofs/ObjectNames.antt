-- What the objects of a main program are called.
use Rattle.std.specs.Prelude.{◌≡◌, ℕ, zero, suc, ◌+◌, ◌-◌, ◌<◌, ◌≤◌, nat_le, nat_lt, nat_eq, ℤ, Bool, true, false, not, ◌&&◌, List, [], ◌∷◌, ◌++◌, map, length, replicate, position, Option, Some, None, is_some, option_map, unwrap_or, slice_get, bytes_eq, if◌then◌else◌}
use Rattle.std.specs.List.{position_or_len}
use Rattle.std.specs.Ordering.{int_eq}
use Rattle.std.proofs.Common.{refl, sym, ap, ◌∙◌, arith}
use Rattle.std.proofs.lemmas.Bool.{ltb-true, ltb-false, lt-ltb, le-ltb, le-leb, lt-leb}
use Rattle.std.proofs.lemmas.Int.{ints}
use Rattle.std.proofs.lemmas.Bool.Decides.{nat_tests}
use Rattle.std.proofs.lemmas.List.{length-append, length-map, length-replicate}
use Rattle.std.proofs.lemmas.Slice.Eq.{bytes_eq-Decides}
use Rattle.main_file.specs.f_tree.Values.{Bytes}
use Rattle.main_file.specs.f_tree.CNames.{variable_name, made_name, NumberTemporary, ControlList, ConstantOf}
use Rattle.main_file.specs.MainFile as main
use Rattle.main_file.specs.MainFile.{Inventory, Listing, Bases, first_list, first_string, first_temporary, place_of_constant, place_of_variable, place_of_list, place_of_string, place_or_none, constant_names, lasting_names, temporary_names, list_names, function_names, object_name, string_at}

-- ## Places in lists

pub some_same : {A : Type 0} (a b : A) → Some a ≡ Some b → a ≡ b
some_same a b h = cc

pub get_front : {A : Type 0} (xs ys : List A) (i : ℕ) (x : A) → slice_get xs i ≡ Some x → slice_get (xs ++ ys) i ≡ Some x
get_front [] ys i x at = absurd (cc)
get_front (y ∷ xs) ys zero x at = at
get_front (y ∷ xs) ys (suc i) x at = get_front xs ys i x at

pub get_back : {A : Type 0} (xs ys : List A) (n i : ℕ) (x : A) → n ≡ length xs + i → slice_get ys i ≡ Some x → slice_get (xs ++ ys) n ≡ Some x
get_back [] ys n i x at got = ap (slice_get ys) {x = n} {y = i} (omega (arith, at)) ∙ got
get_back (y ∷ xs) ys zero i x at got = absurd (let no : ⊥ = omega (arith, at) in no)
get_back (y ∷ xs) ys (suc n) i x at got = get_back xs ys n i x (omega (arith, at)) got

pub map_at : {A B : Type 0} (f : A → B) (xs : List A) (i : ℕ) (x : A) → slice_get xs i ≡ Some x → slice_get (map f xs) i ≡ Some (f x)
map_at f [] i x at = absurd (cc)
map_at f (y ∷ xs) zero x at = ap Some (ap f (some_same y x at))
map_at f (y ∷ xs) (suc i) x at = map_at f xs i x at

pub chosen : {A : Type 0} (t : Bool) (a c : A) → t ≡ true → (if t then a else c) ≡ a
chosen true a c h = refl
chosen false a c h = absurd (cc)

pub other : {A : Type 0} (t : Bool) (a c : A) → t ≡ false → (if t then a else c) ≡ c
other true a c h = absurd (cc)
other false a c h = refl

pub and_false : (s t : Bool) → s ≡ false → s && t ≡ false
and_false true t h = absurd (cc)
and_false false t h = refl

pub and_true : (s t : Bool) → s ≡ true → t ≡ true → s && t ≡ true
and_true true t h k = k
and_true false t h k = absurd (cc)

lt_more : (n m : ℕ) (b : Bool) → nat_lt n m ≡ b → nat_lt (1 + n) (suc m) ≡ b
lt_more n m true h = let less = ltb-true n m h in lt-ltb (1 + n) (suc m) (omega (arith, less))
lt_more n m false h = let more = ltb-false n m h in le-ltb (1 + n) (suc m) (omega (arith, more))

position_step : {A : Type 0} (test : A → Bool) (x : A) (xs : List A) → position test (x ∷ xs) ≡ (if test x then Some 0 else option_map suc (position test xs))
position_step test x xs = by (test x) (position_or_len test xs) (nat_lt (position_or_len test xs) (length xs)) refl
  where
    by : (t : Bool) (n : ℕ) (b : Bool) → nat_lt n (length xs) ≡ b →
        (if nat_lt (if not t then 1 + n else 0) (length (x ∷ xs)) then Some (if not t then 1 + n else 0) else None) ≡ (if t then Some 0 else option_map suc (if b then Some n else None))
    by true n b h = chosen (nat_lt 0 (length (x ∷ xs))) (Some 0) None (lt-ltb 0 (suc (length xs)) (omega arith))
    by false n true h = chosen (nat_lt (1 + n) (length (x ∷ xs))) (Some (1 + n)) None (lt_more n (length xs) true h) ∙ ap Some {x = 1 + n} {y = suc n} (omega arith)
    by false n false h = other (nat_lt (1 + n) (length (x ∷ xs))) (Some (1 + n)) None (lt_more n (length xs) false h)

-- what stands where a test first passes
pub record IsFound {A : Type 0} (test : A → Bool) (xs : List A) (i : ℕ) : Type 0 where
  pub one : A
  pub at : slice_get xs i ≡ Some one
  pub passes : test one ≡ true

one_more : {A : Type 0} (test : A → Bool) (x : A) (xs : List A) (i : ℕ) (found : Option ℕ) → option_map suc found ≡ Some i → ((j : ℕ) → found ≡ Some j → IsFound test xs j) → IsFound test (x ∷ xs) i
one_more test x xs i (Some j) h later =
    let f = later j refl in
    let same : suc j ≡ i = some_same (suc j) i h in
    record { one = f.one; at = ap (slice_get (x ∷ xs)) (sym same) ∙ f.at; passes = f.passes }
one_more test x xs i None h later = absurd (cc)

found_by : {A : Type 0} (test : A → Bool) (x : A) (xs : List A) (i : ℕ) (t : Bool) → test x ≡ t → (if t then Some 0 else option_map suc (position test xs)) ≡ Some i → ((j : ℕ) → position test xs ≡ Some j → IsFound test xs j)
    → IsFound test (x ∷ xs) i
found_by test x xs i true is h later = let same : 0 ≡ i = some_same 0 i h in record { one = x; at = ap (slice_get (x ∷ xs)) (sym same); passes = is }
found_by test x xs i false is h later = one_more test x xs i (position test xs) h later

pub position_finds : {A : Type 0} (test : A → Bool) (xs : List A) (i : ℕ) → position test xs ≡ Some i → IsFound test xs i
position_finds test [] i h = absurd (cc)
position_finds test (x ∷ xs) i h = found_by test x xs i (test x) refl (sym (position_step test x xs) ∙ h) (λ j. position_finds test xs j)

pub within : {A : Type 0} (xs : List A) (i : ℕ) (x : A) → slice_get xs i ≡ Some x → i < length xs
within [] i x at = absurd (cc)
within (y ∷ xs) zero x at = omega arith
within (y ∷ xs) (suc i) x at = let less = within xs i x at in omega (arith, less)

pub some_place : (found : Option ℕ) → is_some found ≡ true → (i : ℕ) × (found ≡ Some i)
some_place (Some i) h = (i, refl)
some_place None h = absurd (cc)

pub temporary_named : (k n i : ℕ) → i < n → slice_get (temporary_names k n) i ≡ Some (made_name (NumberTemporary (k + i)))
temporary_named k zero i below = absurd (let no : ⊥ = omega (arith, below) in no)
temporary_named k (suc n) zero below = ap (λ m. Some (made_name (NumberTemporary m))) {x = k} {y = k + 0} (omega arith)
temporary_named k (suc n) (suc i) below = temporary_named (suc k) n i (omega (arith, below)) ∙ ap (λ m. Some (made_name (NumberTemporary m))) {x = suc k + i} {y = k + suc i} (omega arith)

pub list_named : (k : ℕ) (ls : List Listing) (i : ℕ) (l : Listing) → slice_get ls i ≡ Some l → slice_get (list_names k ls) i ≡ Some (made_name (ControlList (k + i)))
list_named k [] i l at = absurd (cc)
list_named k (m ∷ ls) zero l at = ap (λ n. Some (made_name (ControlList n))) {x = k} {y = k + 0} (omega arith)
list_named k (m ∷ ls) (suc i) l at = list_named (suc k) ls i l at ∙ ap (λ n. Some (made_name (ControlList n))) {x = suc k + i} {y = k + suc i} (omega arith)

pub list_names_count : (k : ℕ) (ls : List Listing) → length (list_names k ls) ≡ length ls
list_names_count k [] = refl
list_names_count k (l ∷ ls) = ap suc (list_names_count (suc k) ls)

pub equal_is : (z y : ℤ) → int_eq z y ≡ true → z ≡ y
equal_is z y h = grind (arith, ints)

pub same_number : (n m : ℕ) → nat_eq n m ≡ true → m ≡ n
same_number n m h = grind (arith, nat_tests)

-- ## Objects

module _ (v : Inventory) (b : Bases) where
  own_name : (i : ℕ) (name : List ℕ) → slice_get (function_names v) i ≡ Some name → object_name v b (b.function + i) ≡ name
  unfolding object_name
  own_name i name at =
      chosen (nat_le b.function (b.function + i)) (unwrap_or (slice_get (function_names v) ((b.function + i) - b.function)) []) (unwrap_or (slice_get (constant_names v) ((b.function + i) - b.file)) []) (le-leb b.function (b.function + i) (omega arith))
      ∙ ap (λ k. unwrap_or (slice_get (function_names v) k) []) {x = (b.function + i) - b.function} {y = i} (omega arith) ∙ ap (λ o. unwrap_or o []) at

  lasting_name : (i : ℕ) (name : List ℕ) → slice_get (lasting_names v) i ≡ Some name → object_name v b (b.function + i) ≡ name
  lasting_name i name at = own_name i name (get_front (lasting_names v) (replicate (length v.strings) [] ++ temporary_names 1 v.temporaries) i name at)

  lasting_count : length (lasting_names v) ≡ length v.variables + length v.lists
  lasting_count = length-append (map (λ (one : main.Variable). variable_name one.name) v.variables) (list_names 1 v.lists) ∙ (λ i. length-map v.variables (λ (one : main.Variable). variable_name one.name) i + list_names_count 1 v.lists i)

  own_temporary : (k : ℕ) (name : List ℕ) → slice_get (temporary_names 1 v.temporaries) k ≡ Some name → object_name v b (first_temporary v b + k) ≡ name
  own_temporary k name at =
      let kept = lasting_count in
      let blanks : length {A = List ℕ} (replicate (length v.strings) []) ≡ length v.strings = length-replicate (length v.strings) [] in
      ap (object_name v b) {x = first_temporary v b + k} {y = b.function + (length v.variables + length v.lists + length v.strings + k)} (omega arith)
      ∙ own_name (length v.variables + length v.lists + length v.strings + k) name
      (get_back (lasting_names v) (replicate (length v.strings) [] ++ temporary_names 1 v.temporaries) (length v.variables + length v.lists + length v.strings + k) (length v.strings + k) name (omega (arith, kept))
      (get_back (replicate (length v.strings) []) (temporary_names 1 v.temporaries) (length v.strings + k) k name (omega (arith, blanks)) at))

  file_name : b.file + length v.constants ≤ b.function → (i : ℕ) (name : List ℕ) → slice_get (constant_names v) i ≡ Some name → object_name v b (b.file + i) ≡ name
  unfolding object_name
  file_name before i name at =
      let less = within (constant_names v) i name at in
      let count = length-map v.constants (λ z. made_name (ConstantOf z)) in
      other (nat_le b.function (b.file + i)) (unwrap_or (slice_get (function_names v) ((b.file + i) - b.function)) []) (unwrap_or (slice_get (constant_names v) ((b.file + i) - b.file)) []) (lt-leb b.function (b.file + i) (omega (arith, less, count, before)))
      ∙ ap (λ k. unwrap_or (slice_get (constant_names v) k) []) {x = (b.file + i) - b.file} {y = i} (omega arith) ∙ ap (λ o. unwrap_or o []) at

  pub no_string : (k : ℕ) → k < first_string v b → string_at v b k ≡ None
  unfolding string_at
  no_string k below =
      other (nat_le (first_string v b) k && nat_lt k (first_temporary v b)) (Some (v.texts (unwrap_or (slice_get v.strings (k - first_string v b)) 0))) None
      (and_false (nat_le (first_string v b) k) (nat_lt k (first_temporary v b)) (lt-leb (first_string v b) k below))

  pub variable_object : (x : Bytes) (i : ℕ) → place_of_variable v x ≡ Some i → object_name v b (b.function + place_or_none (place_of_variable v x)) ≡ variable_name x
  variable_object x i is =
      let found = position_finds (λ (one : main.Variable). bytes_eq x one.name) v.variables i is in
      let same : x ≡ found.one.name = (bytes_eq-Decides x found.one.name).0 found.passes in
      ap (λ o. object_name v b (b.function + place_or_none o)) is
      ∙ lasting_name i (variable_name found.one.name)
      (get_front (map (λ (w : main.Variable). variable_name w.name) v.variables) (list_names 1 v.lists) i (variable_name found.one.name) (map_at (λ (w : main.Variable). variable_name w.name) v.variables i found.one found.at))
      ∙ ap variable_name (sym same)

  pub variable_is_no_string : (x : Bytes) (i : ℕ) → place_of_variable v x ≡ Some i → string_at v b (b.function + place_or_none (place_of_variable v x)) ≡ None
  variable_is_no_string x i is =
      let found = position_finds (λ (one : main.Variable). bytes_eq x one.name) v.variables i is in
      let less = within v.variables i found.one found.at in
      ap (λ o. string_at v b (b.function + place_or_none o)) is ∙ no_string (b.function + i) (omega (arith, less))

  pub temporary_is : (k : ℕ) → nat_lt k v.temporaries ≡ true → object_name v b (first_temporary v b + k) ≡ made_name (NumberTemporary (suc k))
  temporary_is k h =
      own_temporary k (made_name (NumberTemporary (1 + k))) (temporary_named 1 v.temporaries k (ltb-true k v.temporaries h)) ∙ ap (λ n. made_name (NumberTemporary n)) {x = 1 + k} {y = suc k} (omega arith)

  pub constant_is : b.file + length v.constants ≤ b.function → (z : ℤ) → is_some (place_of_constant v z) ≡ true → object_name v b (b.file + place_or_none (place_of_constant v z)) ≡ made_name (ConstantOf z)
  constant_is before z h =
      let place = some_place (place_of_constant v z) h in
      let found = position_finds (int_eq z) v.constants place.0 place.1 in
      ap (λ o. object_name v b (b.file + place_or_none o)) place.1
      ∙ file_name before place.0 (made_name (ConstantOf found.one)) (map_at (λ (y : ℤ). made_name (ConstantOf y)) v.constants place.0 found.one found.at)
      ∙ ap (λ y. made_name (ConstantOf y)) (sym (equal_is z found.one found.passes))

  pub list_is : (n i : ℕ) → place_of_list v n ≡ Some i → object_name v b (first_list v b + place_or_none (place_of_list v n)) ≡ made_name (ControlList (suc i))
  list_is n i is =
      let found = position_finds (λ (l : Listing). nat_eq n l.step) v.lists i is in
      let name = made_name (ControlList (1 + i)) in
      let count = length-map v.variables (λ (w : main.Variable). variable_name w.name) in
      let there = length v.variables + i in
      ap (λ o. object_name v b (first_list v b + place_or_none o)) is
      ∙ ap (object_name v b) {x = first_list v b + i} {y = b.function + there} (omega arith)
      ∙ lasting_name there name (get_back (map (λ (w : main.Variable). variable_name w.name) v.variables) (list_names 1 v.lists) there i name (omega (arith, count)) (list_named 1 v.lists i found.one found.at))
      ∙ ap (λ k. made_name (ControlList k)) {x = 1 + i} {y = suc i} (omega arith)

  text_by : (n i : ℕ) → slice_get v.strings i ≡ Some n → string_at v b (first_string v b + i) ≡ Some (v.texts n)
  unfolding string_at
  text_by n i at =
      let less = within v.strings i n at in
      chosen (nat_le (first_string v b) (first_string v b + i) && nat_lt (first_string v b + i) (first_temporary v b)) (Some (v.texts (unwrap_or (slice_get v.strings ((first_string v b + i) - first_string v b)) 0))) None
      (and_true (nat_le (first_string v b) (first_string v b + i)) (nat_lt (first_string v b + i) (first_temporary v b)) (le-leb (first_string v b) (first_string v b + i) (omega arith)) (lt-ltb (first_string v b + i) (first_temporary v b) (omega (arith, less))))
      ∙ ap (λ k. Some (v.texts (unwrap_or (slice_get v.strings k) 0))) {x = (first_string v b + i) - first_string v b} {y = i} (omega arith)
      ∙ ap (λ o. Some (v.texts (unwrap_or o 0))) at

  pub text_is : (n i : ℕ) → place_of_string v n ≡ Some i → string_at v b (first_string v b + place_or_none (place_of_string v n)) ≡ Some (v.texts n)
  text_is n i is =
      let found = position_finds (nat_eq n) v.strings i is in
      ap (λ o. string_at v b (first_string v b + place_or_none o)) is ∙ text_by n i (found.at ∙ ap Some (same_number n found.one found.passes))
