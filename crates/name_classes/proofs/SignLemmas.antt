-- Sets of the names that statements state something of, statement by statement.
use Rattle.std.specs.Prelude.{◌≡◌, ℕ, Bool, true, false, ◌||◌, ◌&&◌, List, [], ◌∷◌, ◌++◌, map, bytes_eq, Option, Some, None, is_some, option_map, if◌then◌else◌}
use Rattle.std.proofs.Common.{◌+◌, ◌<◌, ◌≤◌, take, get_or, length, refl, sym, ap, subst, ◌∙◌, arith}
use Rattle.std.proofs.lemmas.List.{append-nil, append_assoc, map-append, take_more, take_all}
use Rattle.f_tree.specs.declared.statements.Body.{Body}
use Rattle.f_tree.specs.declared.statements.ConstantDefinition.{ConstantDefinition}
use Rattle.f_tree.specs.declared.statements.Stmt.{Stmt}
use Rattle.f_tree.specs.declared.statements.Dimension.{Dimension as WrittenDimension}
use Rattle.f_tree.specs.declared.units.Unit.{Unit as WrittenUnit}
use Rattle.f_tree.specs.Values.{Bytes}
use Rattle.f_tree.specs.Reading.{function_named}
use Rattle.f_tree.specs.Uses.{Use, Manner, is_among, all_of, uses_of_body, uses_of_statements}
use Rattle.f_tree.specs.Attributes as written
use Rattle.f_tree.specs.Attributes.{Shaped, from_all, constants_in, shaped_in, dimensions_among, array_names, arrays_of, is_used_as, with_list, called, has_function, is_not_empty, own_names, all_dummies, class_of}
use Rattle.expression_judge.specs.Intrinsics.{intrinsic_named, intrinsic_of}
use Rattle.expression_judge.proofs.FoundLaws.{intrinsic-named}
use Rattle.name_table.specs.declared.name_set.NameSet.{NameSet}
use Rattle.name_table.specs.Named.{names_in, IsNameSet}
use Rattle.name_table.proofs.SetLemmas.{among_both}
use Rattle.name_table.proofs.Texts.{bytes_eq_flip}
use Rattle.name_uses.specs.UsesSeen.{Adds}
use Rattle.name_classes.specs.declared.signs.Signs.{Signs}
use Rattle.name_classes.specs.StatedNames.{constant_names, used_as, used_as_in}
use Rattle.name_classes.specs.KnownSigns.{Lists, AreDeclared, Declares, AreSets, AreEntries, Enters, AreEntrySets, AreUsed, UsesNames, AreUsedSets, AreSigns, AreSignSets, signs_in, unit_uses}

-- ONE STATEMENT MORE
from_push : (f : Body → List Bytes) (ss : List Stmt) (s : Stmt) → from_all f (ss ++ s ∷ []) ≡ from_all f ss ++ f s.body
unfolding from_all
from_push f [] s = append-nil (f s.body)
from_push f (t ∷ ss) s = ap (λ xs. f t.body ++ xs) (from_push f ss s) ∙ sym (append_assoc (f t.body) (from_all f ss) (f s.body))

from_more : (f : Body → List Bytes) (ss : List Stmt) (i : ℕ) (s d : Stmt) → i < length ss → s ≡ get_or ss i d → from_all f (take (i + 1) ss) ≡ from_all f (take i ss) ++ f s.body
from_more f ss i s d h is =
    ap (from_all f) (take_more ss i d h) ∙ from_push f (take i ss) (get_or ss i d) ∙ ap (λ (t : Stmt). from_all f (take i ss) ++ f t.body) (sym is)

pub lists_more : (f : Body → List Bytes) (ss : List Stmt) (i : ℕ) (s d : Stmt) (old new : NameSet) → i < length ss → s ≡ get_or ss i d → Lists old (from_all f (take i ss)) → Adds old new (f s.body)
    → Lists new (from_all f (take (i + 1) ss))
lists_more f ss i s d old new h is known adds = record {
  names = adds.put ∙ ap (λ xs. xs ++ f s.body) known.names ∙ sym (from_more f ss i s d h is);
  is_set = adds.is_set;
}

pub lists_behind : (f : Body → List Bytes) (start : List Bytes) (ss : List Stmt) (i : ℕ) (s d : Stmt) (old new : NameSet) → i < length ss → s ≡ get_or ss i d
    → Lists old (start ++ from_all f (take i ss)) → Adds old new (f s.body) → Lists new (start ++ from_all f (take (i + 1) ss))
lists_behind f start ss i s d old new h is known adds = record {
  names =
      adds.put ∙ ap (λ xs. xs ++ f s.body) known.names ∙ append_assoc start (from_all f (take i ss)) (f s.body) ∙ ap (λ xs. start ++ xs) (sym (from_more f ss i s d h is));
  is_set = adds.is_set;
}

pub lists_none : (f : Body → List Bytes) (set : NameSet) → names_in set ≡ [] → IsNameSet set → Lists set (from_all f [])
unfolding from_all
lists_none f set none known = record { names = none; is_set = known }

pub lists_head : (f : Body → List Bytes) (old new : NameSet) (xs ys : List Bytes) → names_in old ≡ [] → Adds old new xs → xs ≡ ys → Lists new (ys ++ from_all f [])
unfolding from_all
lists_head f old new xs ys none adds is = record { names = adds.put ∙ ap (λ zs. zs ++ xs) none ∙ is ∙ sym (append-nil ys); is_set = adds.is_set }

chosen : (b : Bool) (x : Bytes) (both xs ys : List Bytes) → both ≡ xs ++ ys → (if b then x ∷ both else both) ≡ (if b then x ∷ xs else xs) ++ ys
chosen true x both xs ys is = ap (λ zs. x ∷ zs) is
chosen false x both xs ys is = is

-- a name stands in some manner
used_both : (test : Manner → Bool) (us vs : List Use) → used_as test (us ++ vs) ≡ used_as test us ++ used_as test vs
unfolding used_as
used_both test [] vs = refl
used_both test (u ∷ us) vs = chosen (test u.manner) u.name (used_as test (us ++ vs)) (used_as test us) (used_as test vs) (used_both test us vs)

and_true : (b : Bool) → (b && true) ≡ b
and_true true = refl
and_true false = refl

and_false : (b : Bool) → (b && false) ≡ false
and_false true = refl
and_false false = refl

used_one : (b : Bool) (x y : Bytes) (ys : List Bytes) (rest : Bool) → is_among x ys ≡ rest → is_among x (if b then y ∷ ys else ys) ≡ ((bytes_eq y x && b) || rest)
unfolding is_among
used_one true x y ys rest is = ap (λ c. bytes_eq x y || c) is ∙ ap (λ c. c || rest) (bytes_eq_flip x y ∙ sym (and_true (bytes_eq y x)))
used_one false x y ys rest is = is ∙ ap (λ c. c || rest) (sym (and_false (bytes_eq y x)))

used_is : (test : Manner → Bool) (x : Bytes) (us : List Use) → is_among x (used_as test us) ≡ is_used_as test x us
unfolding used_as is_used_as is_among
used_is test x [] = refl
used_is test x (u ∷ us) = used_one (test u.manner) x u.name (used_as test us) (is_used_as test x us) (used_is test x us)

uses_from : (test : Manner → Bool) (arrays : List Bytes) (ss : List Stmt) → from_all (used_as_in test arrays) ss ≡ used_as test (uses_of_statements arrays ss)
unfolding from_all used_as_in uses_of_statements all_of used_as
uses_from test arrays [] = refl
uses_from test arrays (s ∷ ss) =
    ap (λ xs. used_as test (uses_of_body arrays s.body) ++ xs) (uses_from test arrays ss) ∙ sym (used_both test (uses_of_body arrays s.body) (uses_of_statements arrays ss))

constants_from : (ss : List Stmt) → from_all constant_names ss ≡ map (λ (d : ConstantDefinition). d.name) (from_all constants_in ss)
unfolding from_all constant_names
constants_from [] = refl
constants_from (s ∷ ss) =
    ap (λ xs. map (λ (d : ConstantDefinition). d.name) (constants_in s.body) ++ xs) (constants_from ss)
    ∙ sym (map-append (λ (d : ConstantDefinition). d.name) (constants_in s.body) (from_all constants_in ss))

array_one : (b : Bool) (first : WrittenDimension) (more rest : List WrittenDimension) (there : Bool) → there ≡ is_not_empty rest → (b || there) ≡ is_not_empty (if b then first ∷ more else rest)
unfolding is_not_empty
array_one true first more rest there is = refl
array_one false first more rest there is = is

-- an array is a name with dimensions
array_by : (x y : Bytes) (dims : List WrittenDimension) (rest : List WrittenDimension) (names : List Bytes) → is_among x names ≡ is_not_empty rest
    → is_among x (elim dims [ [] ↦ names | first ∷ more ↦ y ∷ names ]) ≡ is_not_empty (elim dims [ [] ↦ rest | first ∷ more ↦ if bytes_eq y x then first ∷ more else rest ])
unfolding is_among
array_by x y [] rest names is = is
array_by x y (first ∷ more) rest names is = ap (λ b. b || is_among x names) (bytes_eq_flip x y) ∙ array_one (bytes_eq y x) first more rest (is_among x names) is

array_is : (x : Bytes) (ds : List Shaped) → is_among x (array_names ds) ≡ is_not_empty (dimensions_among x ds)
unfolding array_names dimensions_among is_among is_not_empty
array_is x [] = refl
array_is x (d ∷ ds) = array_by x d.name d.dimensions (dimensions_among x ds) (array_names ds) (array_is x ds)

-- an intrinsic function
known_function : (o : Option _) → (elim o [ Some f ↦ true | None ↦ false ]) ≡ is_some (option_map intrinsic_of o)
known_function None = refl
known_function (Some f) = refl

has_function_is : (x : Bytes) → has_function x ≡ is_some (intrinsic_named x)
unfolding has_function
has_function_is x = known_function (function_named x) ∙ ap is_some (intrinsic-named x)

-- WHAT THE SETS OF A UNIT SAY
among_listed : (set : NameSet) (names : List Bytes) (x : Bytes) → Lists set names → is_among x (names_in set) ≡ is_among x names
among_listed set names x known = ap (is_among x) known.names

pub sets_of : (u : WrittenUnit) (signs : Signs) → AreSigns u signs → AreSignSets signs
sets_of u signs known = record {
  arrays = known.arrays.is_set;
  declared = record {
    constants = known.declared.constants.is_set;
    typed = known.declared.typed.is_set;
    externals = known.declared.externals.is_set;
    intrinsics = known.declared.intrinsics.is_set;
  };
  entries = record { own_names = known.entries.own_names.is_set; dummies = known.entries.dummies.is_set };
  used = record { assigned = known.used.assigned.is_set; with_list = known.used.with_list.is_set; called = known.used.called.is_set };
}

pub listed_is : (u : WrittenUnit) (signs : Signs) (x : Bytes) → AreSigns u signs → is_among x (names_in signs.used.with_list) ≡ is_used_as with_list x (unit_uses u)
listed_is u signs x known =
    among_listed signs.used.with_list (from_all (used_as_in with_list (arrays_of u)) u.statements) x known.used.with_list
    ∙ ap (is_among x) (uses_from with_list (arrays_of u) u.statements) ∙ used_is with_list x (unit_uses u)

pub called_is : (u : WrittenUnit) (signs : Signs) (x : Bytes) → AreSigns u signs → is_among x (names_in signs.used.called) ≡ is_used_as called x (unit_uses u)
called_is u signs x known =
    among_listed signs.used.called (from_all (used_as_in called (arrays_of u)) u.statements) x known.used.called
    ∙ ap (is_among x) (uses_from called (arrays_of u) u.statements) ∙ used_is called x (unit_uses u)

array_listed : (u : WrittenUnit) (signs : Signs) (x : Bytes) → AreSigns u signs → is_among x (names_in signs.arrays) ≡ is_not_empty (dimensions_among x (from_all shaped_in u.statements))
unfolding arrays_of
array_listed u signs x known = among_listed signs.arrays (arrays_of u) x known.arrays ∙ array_is x (from_all shaped_in u.statements)

pub own_listed : (u : WrittenUnit) (signs : Signs) (x : Bytes) → AreSigns u signs → is_among x (names_in signs.entries.own_names) ≡ is_among x (own_names u)
unfolding own_names
own_listed u signs x known = ap (is_among x) known.entries.own_names.names

pub dummy_listed : (u : WrittenUnit) (signs : Signs) (x : Bytes) → AreSigns u signs → is_among x (names_in signs.entries.dummies) ≡ is_among x (all_dummies u)
unfolding all_dummies
dummy_listed u signs x known = ap (is_among x) known.entries.dummies.names

abbrev signs : Bool → Bool → Bool → Bool → Bool → Bool → Bool → Bool → Bool → Bool → written.Signs
signs constant dummy own array external intrinsic list call assigned function = record {
  is_constant = constant;
  is_dummy = dummy;
  is_own_name = own;
  is_array = array;
  is_external = external;
  is_intrinsic = intrinsic;
  has_list = list;
  is_called = call;
  is_assigned_with_list = assigned;
  is_known_function = function;
}

alike : (a b c d e f g h i j k l m n o p q r s t : Bool) → a ≡ k → b ≡ l → c ≡ m → d ≡ n → e ≡ o → f ≡ p → g ≡ q → h ≡ r → i ≡ s → j ≡ t → signs a b c d e f g h i j ≡ signs k l m n o p q r s t
alike a b c d e f g h i j k l m n o p q r s t h1 h2 h3 h4 h5 h6 h7 h8 h9 h10 =
    ap (λ z. signs z b c d e f g h i j) h1 ∙ ap (λ z. signs k z c d e f g h i j) h2 ∙ ap (λ z. signs k l z d e f g h i j) h3 ∙ ap (λ z. signs k l m z e f g h i j) h4
    ∙ ap (λ z. signs k l m n z f g h i j) h5 ∙ ap (λ z. signs k l m n o z g h i j) h6 ∙ ap (λ z. signs k l m n o p z h i j) h7 ∙ ap (λ z. signs k l m n o p q z i j) h8
    ∙ ap (λ z. signs k l m n o p q r z j) h9 ∙ ap (λ z. signs k l m n o p q r s z) h10

pub signs_are : (u : WrittenUnit) (known : Signs) (x : Bytes) → AreSigns u known → signs_in known x ≡ written.signs_of u (unit_uses u) x
unfolding signs_in written.signs_of
signs_are u known x are =
    alike _ _ _ _ _ _ _ _ _ _ _ _ _ _ _ _ _ _ _ _
    (ap (is_among x) (are.declared.constants.names ∙ constants_from u.statements)) (dummy_listed u known x are) (own_listed u known x are) (array_listed u known x are)
    (ap (is_among x) are.declared.externals.names) (ap (is_among x) are.declared.intrinsics.names) (listed_is u known x are) (called_is u known x are)
    (ap (is_among x) are.used.assigned.names) (sym (has_function_is x))

pub class_found : (u : WrittenUnit) (known : Signs) (x : Bytes) → AreSigns u known → written.class_by (written.own_class u) (signs_in known x) ≡ class_of u (unit_uses u) x
unfolding class_of
class_found u known x are = ap (written.class_by (written.own_class u)) (signs_are u known x are)
