-- The stored names of a main program: no name stands twice among them, and each is what the test says of it.
use Rattle.std.specs.List.{list_all}
use Rattle.std.specs.Prelude.{◌≡◌, ◌≢◌, ℕ, ◌<◌, ◌≤◌, nat_lt, Bool, true, false, not, ◌&&◌, ◌||◌, List, [], ◌∷◌, ◌++◌, Option, Some, None, is_some, bytes_eq, if◌then◌else◌}
use Rattle.std.proofs.Common.{refl, sym, ap, ◌∙◌, subst, arith}
use Rattle.std.proofs.lemmas.Bool.{and_parts, or_parts, both_ways, ltb-true, eqb-true}
use Rattle.main_translation_laws.specs.f_tree.declared.names.Class.{Class}
use Rattle.main_translation_laws.specs.f_tree.declared.names.Class.TheVariants as class
use Rattle.main_translation_laws.specs.f_tree.declared.statements.UnitKind.{UnitKind}
use Rattle.main_translation_laws.specs.f_tree.declared.statements.UnitKind.TheVariants as kind
use Rattle.main_translation_laws.specs.f_tree.declared.units.Unit.{Unit as WrittenUnit}
use Rattle.main_translation_laws.specs.f_tree.CNames.{is_name}
use Rattle.main_translation_laws.specs.f_tree.Values.{Bytes}
use Rattle.main_translation_laws.specs.f_tree.Facts.{Attribute, Member}
use Rattle.main_translation_laws.specs.f_tree.Setting.{IsIn, first_in, later_in, IsMember, here, there, AreDistinct, no_names, another_name}
use Rattle.main_translation_laws.specs.f_tree.Valuing.{elements_of, extent_of}
use Rattle.main_translation_laws.specs.f_tree.Uses.{Use, is_among, uses_of_statements, seen_from, first_seen}
use Rattle.main_translation_laws.specs.f_tree.Attributes.{from_all, option_list, entry_names_in, own_class, Signs, class_by, own_names, signs_of, class_of, Constant, bare, with_class, without_expansion, with_dimensions, with_expansions, Expansion, arrays_of, attribute_of, Described, described, attribute_in, names_of, all_described}
use Rattle.main_translation_laws.specs.f_tree.Lines.{size_by, size_of, is_stored, stored_among}
use Rattle.main_translation_laws.specs.c_emit.Numbers.{is_numeric}
use Rattle.main_translation_laws.proofs.fortran_laws.SimpleAttributes.{described_name}
use Rattle.main_translation_laws.proofs.linking_laws.Places.{same_bytes}
use Rattle.main_translation_laws.specs.main_translation.Contents.{count_by}
use Rattle.main_translation_laws.specs.main_programs.MainRuns.{bytes_in}
use Rattle.main_translation_laws.proofs.Lists.{AreApart, none_apart, one_apart}
use Rattle.plain_mains.specs.PlainUnits.{has_four_units, is_number, is_of_call, has_plain_bounds, has_constant_bounds, is_plain_variable, is_plain_name}
use Rattle.plain_mains.proofs.Described.{all_in, size_is}

-- ## Names are seen once

seen_by : (seen : List Bytes) (name : Bytes) (rest more : List Bytes) (x : Bytes) (old : Bool) → is_among name seen ≡ old → (IsIn x rest → is_among x seen ≡ false) →
    (IsIn x more → is_among x (name ∷ seen) ≡ false) → IsIn x (if old then rest else name ∷ more) → is_among x seen ≡ false
unfolding is_among
seen_by seen name rest more x true is one other o = one o
seen_by seen name rest more _ false is one other first_in = is
seen_by seen name rest more x false is one other (later_in o) = (or_parts (bytes_eq x name) (is_among x seen) (other o)).1

-- a name that is seen from here on was not seen before
seen_anew : (seen : List Bytes) (us : List Use) (x : Bytes) → IsIn x (seen_from seen us) → is_among x seen ≡ false
unfolding seen_from
seen_anew seen [] x o = elim o [ ]
seen_anew seen (u ∷ us) x o =
    seen_by seen u.name (seen_from seen us) (seen_from (u.name ∷ seen) us) x (is_among u.name seen) refl (seen_anew seen us x) (seen_anew (u.name ∷ seen) us x) o

is_other : (name x : Bytes) (seen : List Bytes) → is_among x (name ∷ seen) ≡ false → name ≢ x
unfolding is_among
is_other name x seen anew same = both_ways (bytes_eq x name) (or_parts (bytes_eq x name) (is_among x seen) anew).0 (same_bytes x name (sym same))

apart_by : (name : Bytes) (rest more : List Bytes) (old : Bool) → AreApart rest → AreApart more → ((x : Bytes) → IsIn x more → name ≢ x) → AreApart (if old then rest else name ∷ more)
apart_by name rest more true one other new = one
apart_by name rest more false one other new = one_apart new other

seen_apart : (seen : List Bytes) (us : List Use) → AreApart (seen_from seen us)
unfolding seen_from
seen_apart seen [] = none_apart
seen_apart seen (u ∷ us) =
    apart_by u.name (seen_from seen us) (seen_from (u.name ∷ seen) us) (is_among u.name seen) (seen_apart seen us) (seen_apart (u.name ∷ seen) us)
    (λ x o. is_other u.name x seen (seen_anew (u.name ∷ seen) us x o))

pub first_apart : (us : List Use) → AreApart (first_seen us)
unfolding first_seen
first_apart us = seen_apart [] us

-- ## The unit's own name is not stored

by_third : (P : Class → Type 0) (a b c : Bool) (k l m n : Class) → P k → P l → P m → c ≡ true → P (if a then k else if b then l else if c then m else n)
by_third P true b c k l m n first second third is = first
by_third P false true c k l m n first second third is = second
by_third P false false true k l m n first second third is = third
by_third P false false false k l m n first second third is = absurd (cc)

pub either_class : (P : Class → Type 0) (t : Bool) (k l : Class) → P k → P l → P (if t then k else l)
either_class P true k l one other = one
either_class P false k l one other = other

-- a class of names without storage
abbrev IsNotStored : Class → Type 0
IsNotStored k = is_stored (bare k None) ≡ false

own_class_by : (own : Class) (g : Signs) → IsNotStored own → g.is_own_name ≡ true → IsNotStored (class_by own g)
unfolding class_by is_stored bare
own_class_by own g not_stored is =
    by_third IsNotStored g.is_constant g.is_dummy g.is_own_name class.Constant _ own _ refl
    (either_class IsNotStored (g.is_external || (g.is_called || (g.has_list && not g.is_array))) class.DummyProcedure class.Dummy refl refl) not_stored is

own_is_not_stored : (u : WrittenUnit) (k : UnitKind) → u.kind ≡ k → IsNotStored (own_class u)
unfolding own_class is_stored bare
own_is_not_stored u kind.Main is = rw is refl
own_is_not_stored u kind.Subroutine is = rw is refl
own_is_not_stored u (kind.Function spec) is = rw is refl
own_is_not_stored u kind.BlockData is = rw is refl

first_among : (y : Bytes) (ys : List Bytes) → is_among y (y ∷ ys) ≡ true
unfolding is_among
first_among y ys = ap (λ t. t || is_among y ys) (same_bytes y y refl)

own_sign : (u : WrittenUnit) (uses : List Use) (y : Bytes) → u.name ≡ Some y → (signs_of u uses y).is_own_name ≡ true
unfolding signs_of own_names option_list
own_sign u uses y is =
    let later : List Bytes = from_all entry_names_in u.statements in subst (λ name. is_among y (option_list name ++ later) ≡ true) (sym is) (first_among y later)

-- ## The stored names

module _ (u : WrittenUnit) (uses : List Use) (cs : List Constant) (es : List Expansion) where
  abbrev of_name : Bytes → Attribute
  of_name x = attribute_of u uses cs es x

  own_name_not_stored : (y : Bytes) → u.name ≡ Some y → is_stored (of_name y) ≡ false
  unfolding attribute_of with_expansions without_expansion with_dimensions with_class class_of is_stored bare
  own_name_not_stored y is = own_class_by (own_class u) (signs_of u uses y) (own_is_not_stored u u.kind refl) (own_sign u uses y is)

  named_by : (y x : Bytes) (xs : List Bytes) (size : ℕ) (ms : List Member) (kept : Bool) → (IsMember x ms → IsIn x xs) →
      IsMember x (if kept then record { name = y; size = size } ∷ ms else ms) → IsIn x (y ∷ xs)
  named_by y _ xs size ms true later here = first_in
  named_by y x xs size ms true later (there o) = later_in (later o)
  named_by y x xs size ms false later o = later_in (later o)

  -- a name that is stored is one of the names
  stored_is_named : (xs : List Bytes) (x : Bytes) → IsMember x (stored_among (described u uses cs es xs)) → IsIn x xs
  unfolding described stored_among
  stored_is_named [] x o = elim o [ ]
  stored_is_named (y ∷ xs) x o = named_by y x xs (size_of (of_name y)) (stored_among (described u uses cs es xs)) (is_stored (of_name y)) (stored_is_named xs x) o

  distinct_by : (m : Member) (ms : List Member) (kept : Bool) → (IsMember m.name ms → ⊥) → AreDistinct ms → AreDistinct (if kept then m ∷ ms else ms)
  distinct_by m ms true none later = another_name none later
  distinct_by m ms false none later = later

  distinct_described : (xs : List Bytes) → AreApart xs → AreDistinct (stored_among (described u uses cs es xs))
  unfolding described stored_among
  distinct_described [] none_apart = no_names
  distinct_described (x ∷ xs) (one_apart none later) =
      distinct_by (record { name = x; size = size_of (of_name x) }) (stored_among (described u uses cs es xs)) (is_stored (of_name x))
      (λ o. none x (stored_is_named xs x o) refl) (distinct_described xs later)

  distinct_named : (name : Option Bytes) (xs : List Bytes) → u.name ≡ name → AreApart xs → AreDistinct (stored_among (described u uses cs es (option_list name ++ xs)))
  unfolding described stored_among option_list
  distinct_named None xs is apart = distinct_described xs apart
  distinct_named (Some y) xs is apart =
      subst (λ kept. AreDistinct (if kept then record { name = y; size = size_of (of_name y) } ∷ stored_among (described u uses cs es xs) else stored_among (described u uses cs es xs)))
      (sym (own_name_not_stored y is)) (distinct_described xs apart)

  -- a stored name is one of the names that is kept, with the size of its attribute
  record IsKept (xs : List Bytes) (m : Member) : Type 0 where
    among : IsIn m.name xs
    stored : is_stored (of_name m.name) ≡ true
    size : m.size ≡ size_of (of_name m.name)

  kept_later : (y : Bytes) (xs : List Bytes) (m : Member) → IsKept xs m → IsKept (y ∷ xs) m
  kept_later y xs m k = record { among = later_in k.among; stored = k.stored; size = k.size }

  kept_by : (y : Bytes) (xs : List Bytes) (ms : List Member) (m : Member) (kept : Bool) → is_stored (of_name y) ≡ kept → (IsIn m ms → IsKept xs m) →
      IsIn m (if kept then record { name = y; size = size_of (of_name y) } ∷ ms else ms) → IsKept (y ∷ xs) m
  kept_by y xs ms _ true is later first_in = record { among = first_in; stored = is; size = refl }
  kept_by y xs ms m true is later (later_in o) = kept_later y xs m (later o)
  kept_by y xs ms m false is later o = kept_later y xs m (later o)

  kept_name : (xs : List Bytes) (m : Member) → IsIn m (stored_among (described u uses cs es xs)) → IsKept xs m
  unfolding described stored_among
  kept_name [] m o = elim o [ ]
  kept_name (y ∷ xs) m o = kept_by y xs (stored_among (described u uses cs es xs)) m (is_stored (of_name y)) refl (kept_name xs m) o

  described_at : (xs : List Bytes) (x : Bytes) → IsIn x xs → IsIn (record { name = x; attribute = of_name x }) (described u uses cs es xs)
  unfolding described
  described_at [] x o = elim o [ ]
  described_at (y ∷ xs) _ first_in = first_in
  described_at (y ∷ xs) x (later_in o) = later_in (described_at xs x o)

  -- what a name of the list is, is found by its name
  found_name : (xs : List Bytes) (x : Bytes) → IsIn x xs → attribute_in (described u uses cs es xs) x ≡ of_name x
  found_name xs x o = described_name (λ a. a ≡ of_name x) u uses cs es xs x o refl

-- ## What the test says of a stored name

-- a stored name of numbers, and its size
pub record IsPlainMember (a : Attribute) (m : Member) : Type 0 where
  pub named : is_name m.name ≡ true
  pub numeric : is_numeric a.basic ≡ true
  pub wide : a.width ≡ Some 4
  pub counted : is_some (elements_of a.bounds) ≡ true
  pub sized : m.size ≡ bytes_in (count_by a.bounds)
  pub within : extent_of (elements_of a.bounds) 4 ≤ m.size
  pub small : m.size < 2147483648
  pub bounded : size_of a < 67108865

pub four_units : (width : Option ℕ) → has_four_units width ≡ true → width ≡ Some 4
unfolding has_four_units
four_units None is = absurd (cc)
four_units (Some n) is = ap Some (eqb-true n 4 is)

variable_of_stored : (a b : Bool) → a ≡ true → (not a || b) ≡ true → b ≡ true
variable_of_stored true b is holds = holds
variable_of_stored false b is holds = absurd (cc)

plain_variable : (d : Described) → is_plain_name d ≡ true → is_stored d.attribute ≡ true → (has_constant_bounds d.attribute && is_plain_variable d) ≡ true
unfolding is_plain_name
plain_variable d plain stored =
    let behind = (and_parts (not (is_of_call d.attribute.class)) _ plain).1 in
    let parts = and_parts (has_constant_bounds d.attribute) (not (is_stored d.attribute) || is_plain_variable d) behind in
    ap (λ t. t && is_plain_variable d) parts.0 ∙ variable_of_stored (is_stored d.attribute) (is_plain_variable d) stored parts.1

member_by : (u : WrittenUnit) (uses : List Use) (cs : List Constant) (es : List Expansion) (m : Member) → m.size ≡ size_of (attribute_of u uses cs es m.name) →
    (has_constant_bounds (attribute_of u uses cs es m.name) && is_plain_variable (record { name = m.name; attribute = attribute_of u uses cs es m.name })) ≡ true →
    IsPlainMember (attribute_of u uses cs es m.name) m
unfolding has_constant_bounds is_plain_variable is_number size_of size_by
member_by u uses cs es m size plain =
    let a : Attribute = attribute_of u uses cs es m.name in
    let whole = and_parts (has_plain_bounds a && is_some (elements_of a.bounds)) (is_name m.name && (is_number a && nat_lt (size_of a) 67108865)) plain in
    let counted = (and_parts (has_plain_bounds a) (is_some (elements_of a.bounds)) whole.0).1 in
    let parts = and_parts (is_name m.name) (is_number a && nat_lt (size_of a) 67108865) whole.1 in
    let rest = and_parts (is_number a) (nat_lt (size_of a) 67108865) parts.1 in
    let number = and_parts (is_numeric a.basic) (has_four_units a.width) rest.0 in
    let wide : a.width ≡ Some 4 = four_units a.width number.1 in
    let extent : m.size ≡ extent_of (elements_of a.bounds) 4 = size ∙ ap (size_by a) wide in
    record {
      named = parts.0;
      numeric = number.0;
      wide = wide;
      counted = counted;
      sized = extent ∙ size_is a.bounds counted;
      within = subst (λ n. extent_of (elements_of a.bounds) 4 ≤ n) (sym extent) (omega arith);
      small = subst (λ n. n < 2147483648) (sym size) (let less : size_of a < 67108865 = ltb-true (size_of a) 67108865 rest.1 in omega (arith, less));
      bounded = ltb-true (size_of a) 67108865 rest.1;
    }

-- a test that tells that what is stored is a plain variable with constant bounds
abbrev pub TellsStored : (Described → Bool) → Type 0
TellsStored test = (d : Described) → test d ≡ true → is_stored d.attribute ≡ true → (has_constant_bounds d.attribute && is_plain_variable d) ≡ true

plain_among : (test : Described → Bool) → TellsStored test → (u : WrittenUnit) (uses : List Use) (cs : List Constant) (es : List Expansion) (xs : List Bytes) →
    list_all test (described u uses cs es xs) ≡ true → (m : Member) → IsIn m (stored_among (described u uses cs es xs)) → IsPlainMember (attribute_in (described u uses cs es xs) m.name) m
plain_among test tells u uses cs es xs plain m o =
    let kept = kept_name u uses cs es xs m o in
    let own : Described = record { name = m.name; attribute = attribute_of u uses cs es m.name } in
    let variable = tells own (all_in test (described u uses cs es xs) own plain (described_at u uses cs es xs m.name kept.among)) kept.stored in
    subst (λ a. IsPlainMember a m) (sym (found_name u uses cs es xs m.name kept.among)) (member_by u uses cs es m kept.size variable)

-- ## Of a unit

-- what a test tells of each name tells what is stored
pub told_member : (test : Described → Bool) → TellsStored test → (u : WrittenUnit) → list_all test (all_described u) ≡ true → (m : Member) → IsIn m (stored_among (all_described u)) →
    IsPlainMember (attribute_in (all_described u) m.name) m
unfolding all_described
told_member test tells u plain m o = plain_among test tells u _ _ _ _ plain m o

pub plain_member : (u : WrittenUnit) → list_all is_plain_name (all_described u) ≡ true → (m : Member) → IsIn m (stored_among (all_described u)) → IsPlainMember (attribute_in (all_described u) m.name) m
plain_member = told_member is_plain_name plain_variable

pub stored_member : (u : WrittenUnit) (m : Member) → IsIn m (stored_among (all_described u)) → is_stored (attribute_in (all_described u) m.name) ≡ true
unfolding all_described
stored_member u m o =
    let kept = kept_name u _ _ _ _ m o in subst (λ a. is_stored a ≡ true) (sym (found_name u _ _ _ _ m.name kept.among)) kept.stored

pub distinct_stored : (u : WrittenUnit) → AreDistinct (stored_among (all_described u))
unfolding all_described names_of
distinct_stored u = distinct_named u (uses_of_statements (arrays_of u) u.statements) _ _ u.name _ refl (first_apart _)
