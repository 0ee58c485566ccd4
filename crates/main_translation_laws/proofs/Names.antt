-- The names in the file of a main program are told apart.
use Rattle.std.specs.Prelude.{◌≡◌, ◌≢◌, ℕ, zero, suc, ◌+◌, ◌<◌, ◌≤◌, ◌^◌, ℤ, pos, negsuc, nat_abs, nat_eq, Bool, true, false, not, ◌&&◌, ◌||◌, List, [], ◌∷◌, ◌++◌, map, length, reverse, codes, decimal}
use Rattle.std.proofs.Common.{refl, sym, ap, ◌∙◌, subst, arith}
use Rattle.std.proofs.lemmas.Bool.{eq-eqb}
use Rattle.std.proofs.lemmas.List.{append_cancel_left, reverse-append}
use Rattle.std.proofs.lemmas.Fmt.{decimal_injective}
use Rattle.main_programs.specs.f_tree.Values.{Bytes}
use Rattle.main_programs.specs.f_tree.CNames.{is_name, has_underscore, is_reserved, takes_underscores, variable_name, constant_name, made_name, NumberTemporary, ControlList, ConstantOf}
use Rattle.main_programs.specs.f_tree.Setting.{IsIn, first_in, later_in}
use Rattle.main_programs.proofs.fortran_laws.CNameLaws.{variable_name-injective, variable_name-not_made}
use Rattle.main_programs.specs.main_file.MainFile.{Variable, Listing, Called, Inventory, Bases, list_names, temporary_names, constant_names, lasting_names, called_names}
use Rattle.main_programs.specs.main_file_laws.KnownFile.{NamesDiffer}
use Rattle.main_translation_laws.proofs.Lists.{AreApart, none_apart, one_apart, InEither, in_one, in_other, in_either, in_map, in_mapped, in_at, apart_append, apart_map, distinct_by, none_by}

-- ## Sorts of names

pub data IsConstantName (name : List ℕ) : Type 0 where
  of_constant : (z : ℤ) → nat_abs z < 2 ^ 64 → name ≡ made_name (ConstantOf z) → IsConstantName name

pub data IsTemporaryName (name : List ℕ) : Type 0 where
  of_temporary : (k : ℕ) → k < 2 ^ 64 → name ≡ made_name (NumberTemporary k) → IsTemporaryName name

pub data IsListName (name : List ℕ) : Type 0 where
  of_list : (k : ℕ) → k < 2 ^ 64 → name ≡ made_name (ControlList k) → IsListName name

pub data IsVariableName (name : List ℕ) : Type 0 where
  of_variable : (x : Bytes) → is_name x ≡ true → name ≡ variable_name x → IsVariableName name

-- a function of the library: its name has an underscore, but none at the end, and begins as no made name does
pub record IsCalledName (name : List ℕ) : Type 0 where
  pub underscored : has_underscore name ≡ true
  pub closed : (rest : List ℕ) → reverse name ≢ 95 ∷ rest
  pub no_temporary : (rest : List ℕ) → name ≢ 105 ∷ (95 ∷ (95 ∷ rest))
  pub no_list : (rest : List ℕ) → name ≢ 105 ∷ (111 ∷ rest)
  pub no_c : (rest : List ℕ) → name ≢ 99 ∷ rest
  pub no_result : (rest : List ℕ) → name ≢ 114 ∷ (101 ∷ rest)

-- the same by a test
unfoldable pub begins : List ℕ → List ℕ → Bool
begins [] name = true
begins (b ∷ front) [] = false
begins (b ∷ front) (c ∷ name) = nat_eq b c && begins front name

unfoldable pub looks_called : List ℕ → Bool
looks_called name = has_underscore name && (not (begins (95 ∷ []) (reverse name)) && (not (begins (codes "i__") name) && (not (begins (codes "io") name) && (not (begins (codes "c") name) && not (begins (codes "re") name)))))

begins_with : (front rest : List ℕ) → begins front (front ++ rest) ≡ true
unfolding begins
begins_with [] rest = refl
begins_with (b ∷ front) rest = (λ i. eq-eqb b b refl i && begins_with front rest i)

pub not_begun : (front rest name : List ℕ) → not (begins front name) ≡ true → name ≢ front ++ rest
not_begun front rest name h same = let begun : begins front name ≡ true = ap (begins front) same ∙ begins_with front rest in let no : false ≡ true = sym (ap not begun) ∙ h in absurd (cc)

first_of : (a b : Bool) → a && b ≡ true → a ≡ true
first_of true b h = refl
first_of false b h = absurd (cc)

other_of : (a b : Bool) → a && b ≡ true → b ≡ true
other_of true b h = h
other_of false b h = absurd (cc)

pub called_name : (name : List ℕ) → looks_called name ≡ true → IsCalledName name
unfolding looks_called
called_name name h =
    let behind = other_of (has_underscore name) _ h in
    let later = other_of (not (begins (95 ∷ []) (reverse name))) _ behind in
    let last = other_of (not (begins (codes "i__") name)) _ later in
    record {
      underscored = first_of (has_underscore name) _ h;
      closed = λ rest. not_begun (95 ∷ []) rest (reverse name) (first_of (not (begins (95 ∷ []) (reverse name))) _ behind);
      no_temporary = λ rest. not_begun (codes "i__") rest name (first_of (not (begins (codes "i__") name)) _ later);
      no_list = λ rest. not_begun (codes "io") rest name (first_of (not (begins (codes "io") name)) _ last);
      no_c = λ rest. not_begun (codes "c") rest name (first_of (not (begins (codes "c") name)) _ (other_of (not (begins (codes "io") name)) _ last));
      no_result = λ rest. not_begun (codes "re") rest name (other_of (not (begins (codes "c") name)) _ (other_of (not (begins (codes "io") name)) _ last));
    }

pub same_first : (a b : ℕ) (x y : List ℕ) → a ∷ x ≡ b ∷ y → a ≡ b
same_first a b x y e = cc

pub same_rest : (a b : ℕ) (x y : List ℕ) → a ∷ x ≡ b ∷ y → x ≡ y
same_rest a b x y e = cc

-- ## Names of two sorts

pub constant_front : (z : ℤ) → (rest : List ℕ) × (made_name (ConstantOf z) ≡ 99 ∷ rest)
unfolding made_name constant_name
constant_front (pos n) = (codes "__" ++ decimal n, refl)
constant_front (negsuc n) = (codes "_n" ++ decimal (suc n), refl)

pub temporary_front : (k : ℕ) → made_name (NumberTemporary k) ≡ 105 ∷ 95 ∷ (95 ∷ decimal k)
unfolding made_name
temporary_front k = refl

pub list_front : (k : ℕ) → made_name (ControlList k) ≡ 105 ∷ 111 ∷ (codes "___" ++ decimal k)
unfolding made_name
list_front k = refl

pub constant_temporary : (x y : List ℕ) → IsConstantName x → IsTemporaryName y → x ≢ y
constant_temporary x y (of_constant z _ e) (of_temporary k _ f) h =
    let c = constant_front z in omega (arith, same_first 99 105 c.0 (95 ∷ (95 ∷ decimal k)) (sym c.1 ∙ sym e ∙ h ∙ f ∙ temporary_front k))

pub constant_list : (x y : List ℕ) → IsConstantName x → IsListName y → x ≢ y
constant_list x y (of_constant z _ e) (of_list k _ f) h =
    let c = constant_front z in omega (arith, same_first 99 105 c.0 (111 ∷ (codes "___" ++ decimal k)) (sym c.1 ∙ sym e ∙ h ∙ f ∙ list_front k))

pub constant_variable : (x y : List ℕ) → IsConstantName x → IsVariableName y → x ≢ y
constant_variable x y (of_constant z small e) (of_variable v named f) h = variable_name-not_made v named (ConstantOf z) small (sym f ∙ sym h ∙ e)

pub constant_called : (x y : List ℕ) → IsConstantName x → IsCalledName y → x ≢ y
constant_called x y (of_constant z _ e) called h = let c = constant_front z in called.no_c c.0 (sym h ∙ e ∙ c.1)

pub temporary_list : (x y : List ℕ) → IsTemporaryName x → IsListName y → x ≢ y
temporary_list x y (of_temporary k _ e) (of_list j _ f) h =
    omega (arith, same_first 95 111 (95 ∷ decimal k) (codes "___" ++ decimal j) (same_rest 105 105 (95 ∷ (95 ∷ decimal k)) (111 ∷ (codes "___" ++ decimal j)) (sym (temporary_front k) ∙ sym e ∙ h ∙ f ∙ list_front j)))

pub temporary_variable : (x y : List ℕ) → IsTemporaryName x → IsVariableName y → x ≢ y
temporary_variable x y (of_temporary k small e) (of_variable v named f) h = variable_name-not_made v named (NumberTemporary k) small (sym f ∙ sym h ∙ e)

pub variable_list : (x y : List ℕ) → IsVariableName x → IsListName y → x ≢ y
variable_list x y (of_variable v named e) (of_list k small f) h = variable_name-not_made v named (ControlList k) small (sym e ∙ h ∙ f)

pub called_temporary : (x y : List ℕ) → IsCalledName x → IsTemporaryName y → x ≢ y
called_temporary x y called (of_temporary k _ f) h = called.no_temporary (decimal k) (h ∙ f ∙ temporary_front k)

pub called_list : (x y : List ℕ) → IsCalledName x → IsListName y → x ≢ y
called_list x y called (of_list k _ f) h = called.no_list (codes "___" ++ decimal k) (h ∙ f ∙ list_front k)

left_false : (a b : Bool) → (a || b) ≡ false → a ≡ true → {A : Type 0} → A
left_false true b h t = absurd (cc)
left_false false b h t = absurd (cc)

called_by : (name v : List ℕ) → IsCalledName name → (takes : Bool) → takes_underscores v ≡ takes → name ≡ variable_name v → {A : Type 0} → A
unfolding variable_name takes_underscores
called_by name v called true h e =
    let long : name ≡ v ++ codes "__" = e ∙ rw h refl in
    absurd (called.closed (95 ∷ reverse v) (ap reverse long ∙ reverse-append v (codes "__")))
called_by name v called false h e =
    let short : name ≡ v = e ∙ rw h refl in
    left_false (has_underscore v) (is_reserved v) h (ap has_underscore (sym short) ∙ called.underscored)

pub called_variable : (x y : List ℕ) → IsCalledName x → IsVariableName y → x ≢ y
called_variable x y called (of_variable v named f) h = called_by x v called (takes_underscores v) refl (h ∙ f)

-- ## Names of one sort

pub constants_told : (y z : ℤ) → nat_abs y < 2 ^ 64 → nat_abs z < 2 ^ 64 → made_name (ConstantOf y) ≡ made_name (ConstantOf z) → y ≡ z
unfolding made_name constant_name
constants_told (pos m) (pos n) p q e = ap pos (decimal_injective m n p q (append_cancel_left (codes "c__") (decimal m) (decimal n) e))
constants_told (pos m) (negsuc n) p q e =
    absurd (omega (arith, same_first 95 110 (decimal m) (decimal (suc n)) (same_rest 95 95 (95 ∷ decimal m) (110 ∷ decimal (suc n)) (same_rest 99 99 (95 ∷ (95 ∷ decimal m)) (95 ∷ (110 ∷ decimal (suc n))) e))))
constants_told (negsuc m) (pos n) p q e =
    absurd (omega (arith, same_first 110 95 (decimal (suc m)) (decimal n) (same_rest 95 95 (110 ∷ decimal (suc m)) (95 ∷ decimal n) (same_rest 99 99 (95 ∷ (110 ∷ decimal (suc m))) (95 ∷ (95 ∷ decimal n)) e))))
constants_told (negsuc m) (negsuc n) p q e =
    let same : suc m ≡ suc n = decimal_injective (suc m) (suc n) p q (append_cancel_left (codes "c_n") (decimal (suc m)) (decimal (suc n)) e) in
    let less : m ≡ n = omega (arith, same) in ap negsuc less

temporaries_told : (j k : ℕ) → j < 2 ^ 64 → k < 2 ^ 64 → made_name (NumberTemporary j) ≡ made_name (NumberTemporary k) → j ≡ k
unfolding made_name
temporaries_told j k p q e = decimal_injective j k p q (append_cancel_left (codes "i__") (decimal j) (decimal k) e)

lists_told : (j k : ℕ) → j < 2 ^ 64 → k < 2 ^ 64 → made_name (ControlList j) ≡ made_name (ControlList k) → j ≡ k
unfolding made_name
lists_told j k p q e = decimal_injective j k p q (append_cancel_left (codes "io___") (decimal j) (decimal k) e)

-- ## The lists of names

pub record IsNumbered (f : ℕ → List ℕ) (first count : ℕ) (name : List ℕ) : Type 0 where
  pub number : ℕ
  pub from : first ≤ number
  pub below : number < first + count
  pub is : name ≡ f number

pub list_among : (k : ℕ) (ls : List Listing) (name : List ℕ) → IsIn name (list_names k ls) → IsNumbered (λ j. made_name (ControlList j)) k (length ls) name
list_among k [] name o = elim o [ ]
list_among k (l ∷ ls) _ first_in = record { number = k; from = omega arith; below = omega arith; is = refl }
list_among k (l ∷ ls) name (later_in o) =
    let found = list_among (suc k) ls name o in
    let from = found.from in
    let below = found.below in
    record { number = found.number; from = omega (arith, from); below = omega (arith, below); is = found.is }

pub lists_apart : (k : ℕ) (ls : List Listing) → k + length ls ≤ 2 ^ 64 → AreApart (list_names k ls)
lists_apart k [] few = none_apart
lists_apart k (l ∷ ls) few =
    one_apart
    (λ name o same.
    let found = list_among (suc k) ls name o in
    let from = found.from in
    let below = found.below in
    let equal : k ≡ found.number = lists_told k found.number (omega (arith, few)) (omega (arith, few, below)) (same ∙ found.is) in
    absurd (omega (arith, equal, from)))
    (lists_apart (suc k) ls (omega (arith, few)))

pub temporary_among : (k n : ℕ) (name : List ℕ) → IsIn name (temporary_names k n) → IsNumbered (λ j. made_name (NumberTemporary j)) k n name
temporary_among k zero name o = elim o [ ]
temporary_among k (suc n) _ first_in = record { number = k; from = omega arith; below = omega arith; is = refl }
temporary_among k (suc n) name (later_in o) =
    let found = temporary_among (suc k) n name o in
    let from = found.from in
    let below = found.below in
    record { number = found.number; from = omega (arith, from); below = omega (arith, below); is = found.is }

pub temporaries_apart : (k n : ℕ) → k + n ≤ 2 ^ 64 → AreApart (temporary_names k n)
temporaries_apart k zero few = none_apart
temporaries_apart k (suc n) few =
    one_apart
    (λ name o same.
    let found = temporary_among (suc k) n name o in
    let from = found.from in
    let below = found.below in
    let equal : k ≡ found.number = temporaries_told k found.number (omega (arith, few)) (omega (arith, few, below)) (same ∙ found.is) in
    absurd (omega (arith, equal, from)))
    (temporaries_apart (suc k) n (omega (arith, few)))

-- names in C of what is told apart by its name
pub variable_names_apart : {A : Type 0} (name : A → Bytes) (xs : List A) → AreApart (map name xs) → AreApart (map (λ one. variable_name (name one)) xs)
variable_names_apart name [] none_apart = none_apart
variable_names_apart name (x ∷ xs) (one_apart none later) =
    one_apart
    (λ y o same. let found = in_map (λ one. variable_name (name one)) xs y o in
    none (name found.from) (in_mapped name found.from xs found.among) (variable_name-injective (name x) (name found.from) (same ∙ sym found.is)))
    (variable_names_apart name xs later)

-- ## All names of a file

-- what is said of the parts of a file
pub record HasNames (v : Inventory) (b : Bases) : Type 0 where
  pub constants : AreApart v.constants
  pub small : (z : ℤ) → IsIn z v.constants → nat_abs z < 2 ^ 64
  pub variables : AreApart (map (λ (one : Variable). one.name) v.variables)
  pub named : (one : Variable) → IsIn one v.variables → is_name one.name ≡ true
  pub lists : 1 + length v.lists ≤ 2 ^ 64
  pub temporaries : 1 + v.temporaries ≤ 2 ^ 64
  pub called : (call : Called) → IsIn call v.calls → IsCalledName call.name
  pub behind : b.file + length v.constants ≤ b.function

module _ (v : Inventory) (b : Bases) (has : HasNames v b) where
  constant_sort : (name : List ℕ) → IsIn name (constant_names v) → IsConstantName name
  constant_sort name o = let found = in_map (λ z. made_name (ConstantOf z)) v.constants name o in of_constant found.from (has.small found.from found.among) (sym found.is)

  list_sort : (name : List ℕ) → IsIn name (list_names 1 v.lists) → IsListName name
  list_sort name o =
      let found = list_among 1 v.lists name o in
      let below = found.below in
      let few = has.lists in of_list found.number (omega (arith, below, few)) found.is

  temporary_sort : (name : List ℕ) → IsIn name (temporary_names 1 v.temporaries) → IsTemporaryName name
  temporary_sort name o =
      let found = temporary_among 1 v.temporaries name o in
      let below = found.below in
      let few = has.temporaries in of_temporary found.number (omega (arith, below, few)) found.is

  variable_sort : (name : List ℕ) → IsIn name (map (λ (one : Variable). variable_name one.name) v.variables) → IsVariableName name
  variable_sort name o = let found = in_map (λ (one : Variable). variable_name one.name) v.variables name o in of_variable found.from.name (has.named found.from found.among) (sym found.is)

  called_sort : (name : List ℕ) → IsIn name (called_names v) → IsCalledName name
  called_sort name o = let found = in_map (λ (call : Called). call.name) v.calls name o in subst IsCalledName found.is (has.called found.from found.among)

  -- a name of another sort than those of the variables and of the control lists
  no_lasting : (name : List ℕ) → ((y : List ℕ) → IsVariableName y → name ≢ y) → ((y : List ℕ) → IsListName y → name ≢ y) → (other : List ℕ) → IsIn other (lasting_names v) → name ≢ other
  no_lasting name no_variable no_list other o = by (in_either other (map (λ (one : Variable). variable_name one.name) v.variables) (list_names 1 v.lists) o)
    where
      by : InEither other (map (λ (one : Variable). variable_name one.name) v.variables) (list_names 1 v.lists) → name ≢ other
      by (in_one p) = no_variable other (variable_sort other p)
      by (in_other p) = no_list other (list_sort other p)

  pub names_differ : NamesDiffer v b
  names_differ = record {
    constants = distinct_by (constant_names v) (apart_map (λ z. made_name (ConstantOf z)) v.constants (λ y z p q e. constants_told y z (has.small y p) (has.small z q) e) has.constants);
    lasting = distinct_by (lasting_names v)
        (apart_append (map (λ (one : Variable). variable_name one.name) v.variables) (list_names 1 v.lists) (variable_names_apart (λ (one : Variable). one.name) v.variables has.variables) (lists_apart 1 v.lists has.lists)
        (λ x y p q. variable_list x y (variable_sort x p) (list_sort y q)));
    temporaries = distinct_by (temporary_names 1 v.temporaries) (temporaries_apart 1 v.temporaries has.temporaries);
    not_lasting = λ i name at. let sort = temporary_sort name (in_at (temporary_names 1 v.temporaries) i name at) in
        none_by name (lasting_names v) (no_lasting name (λ y is. temporary_variable name y sort is) (λ y is. temporary_list name y sort is));
    not_own = λ i name at. let sort = constant_sort name (in_at (constant_names v) i name at) in (
      none_by name (lasting_names v) (no_lasting name (λ y is. constant_variable name y sort is) (λ y is. constant_list name y sort is)),
      none_by name (temporary_names 1 v.temporaries) (λ y o. constant_temporary name y sort (temporary_sort y o)),
      none_by name (called_names v) (λ y o. constant_called name y sort (called_sort y o)),
    );
    not_objects = λ i name at. let sort = called_sort name (in_at (called_names v) i name at) in (
      none_by name (lasting_names v) (no_lasting name (λ y is. called_variable name y sort is) (λ y is. called_list name y sort is)),
      none_by name (temporary_names 1 v.temporaries) (λ y o. called_temporary name y sort (temporary_sort y o)),
    );
    behind = has.behind;
  }
