-- What the names of a unit of sums are: of type INTEGER, stored, and no arrays. ANSI X3.9-1978, sections 4.1.2, 8 and 18.
use Rattle.std.specs.Prelude.{◌≡◌, ℕ, nat_le, Bool, true, false, ◌&&◌, List, [], ◌∷◌, map, bytes_eq, Some, None, if◌then◌else◌}
use Rattle.std.proofs.Common.{refl, sym, subst}
use Rattle.std.proofs.lemmas.Slice.Eq.{bytes_eq-Decides}
use Rattle.f_tree.specs.declared.names.Basic.TheVariants.{Integer}
use Rattle.f_tree.specs.declared.names.Class.TheVariants as class
use Rattle.f_tree.specs.declared.names.Options.{Options}
use Rattle.f_tree.specs.declared.statements.Stmt.{Stmt}
use Rattle.f_tree.specs.declared.units.Unit.{Unit as WrittenUnit}
use Rattle.f_tree.specs.Values.{Bytes}
use Rattle.f_tree.specs.Facts.{Attribute}
use Rattle.f_tree.specs.SimplePrograms.{begins_with}
use Rattle.f_tree.specs.SimplePrograms.{is_integer_letter, IsName}
use Rattle.f_tree.specs.SimplePrograms.{main_program}
use Rattle.f_tree.specs.Setting.{IsIn, first_in, later_in}
use Rattle.f_tree.specs.Uses.{Use, is_among, uses_of_statements, seen_from, first_seen}
use Rattle.f_tree.specs.Attributes.{from_all, typed_in, shaped_in, implicit_in, Constant, Expansion, type_among, dimensions_among, typed_or_implied, implied, first_of_two, heading_type, typed_name, bare, width_by, constant_bounds, attribute_of, described, attribute_in, arrays_of, names_of, all_described, attributes_opened}
use Rattle.f_tree.specs.Lines.{program_of, with_ties, unit_read}
use Rattle.fortran_laws.proofs.SimpleNames.{AreSimple, no_types, no_shapes, no_implicit_types, none_in, AreAlone, one_use, statements_alone, no_either, no_dimensions_among, stored_class}

-- the type of a name is by its first letter, and in numeric storage units
integer_if : (b : Bool) → b ≡ true → (typed_or_implied None (if b then Some (record { basic = Integer; length = None }) else None)).basic ≡ Integer
unfolding attributes_opened
integer_if b is = subst (λ c. (typed_or_implied None (if c then Some (record { basic = Integer; length = None }) else None)).basic ≡ Integer) (sym is) refl

pub integer_by_letter : (x : Bytes) → IsName x → (typed_or_implied None (implied x [])).basic ≡ Integer
unfolding implied attributes_opened begins_with is_integer_letter
integer_by_letter [] name = absurd (let same = name.first in cc)
integer_by_letter (c ∷ rest) name = integer_if (nat_le 105 c && nat_le c 110) name.first

four_if : (cs : List Constant) (b : Bool) → width_by cs (typed_or_implied None (if b then Some (record { basic = Integer; length = None }) else None)) ≡ Some 4
unfolding attributes_opened
four_if cs true = refl
four_if cs false = refl

pub four_by_letter : (cs : List Constant) (x : Bytes) → width_by cs (typed_or_implied None (implied x [])) ≡ Some 4
unfolding implied attributes_opened
four_by_letter cs [] = refl
four_by_letter cs (c ∷ rest) = four_if cs (nat_le 105 c && nat_le c 110)

pub typed_by_letter : (file : ℕ) (ss : List Stmt) → AreSimple ss → (x : Bytes) → typed_name (main_program file ss) x ≡ typed_or_implied None (implied x [])
unfolding typed_name main_program attributes_opened
typed_by_letter file ss simple x =
    subst (λ ts. typed_or_implied (type_among x ts) (first_of_two (heading_type (main_program file ss) x (type_among x ts)) (implied x (from_all implicit_in ss)))
    ≡ typed_or_implied None (implied x [])) (sym (none_in typed_in no_types ss simple))
    (subst (λ groups. typed_or_implied None (first_of_two None (implied x groups)) ≡ typed_or_implied None (implied x []))
    (sym (none_in implicit_in no_implicit_types ss simple)) refl)

-- a variable of one numeric storage unit, and no array
pub record IsVariableName (a : Attribute) : Type 0 where
  pub class_is : a.class ≡ class.Stored
  pub width_is : a.width ≡ Some 4
  pub no_dimensions : a.dimensions ≡ []
  pub no_bounds : a.bounds ≡ []

mapped_none : {A B : Type 0} (f : A → B) (xs : List A) → xs ≡ [] → map f xs ≡ []
mapped_none f xs empty = subst (λ ys. map f ys ≡ []) (sym empty) refl

pub each_is_variable : (file : ℕ) (ss : List Stmt) → AreSimple ss → (us : List Use) → AreAlone us → (cs : List Constant) (es : List Expansion) (x : Bytes) →
    IsVariableName (attribute_of (main_program file ss) us cs es x)
unfolding attribute_of main_program attributes_opened
each_is_variable file ss simple us alone cs es x = record {
  class_is = stored_class file ss simple us alone x;
  width_is = subst (λ t. width_by cs t ≡ Some 4) (sym (typed_by_letter file ss simple x)) (four_by_letter cs x);
  no_dimensions = mapped_none _ (dimensions_among x (from_all shaped_in ss)) (no_dimensions_among x (from_all shaped_in ss) (none_in shaped_in no_shapes ss simple));
  no_bounds = subst (λ ds. constant_bounds ds ≡ []) (sym (mapped_none _ (dimensions_among x (from_all shaped_in ss))
      (no_dimensions_among x (from_all shaped_in ss) (none_in shaped_in no_shapes ss simple)))) refl;
}

pub each_is_integer : (file : ℕ) (ss : List Stmt) → AreSimple ss → (us : List Use) (cs : List Constant) (es : List Expansion) (x : Bytes) → IsName x →
    (attribute_of (main_program file ss) us cs es x).basic ≡ Integer
unfolding attribute_of main_program attributes_opened
each_is_integer file ss simple us cs es x name = subst (λ t. t.basic ≡ Integer) (sym (typed_by_letter file ss simple x)) (integer_by_letter x name)

-- a name that is described is what it is described as
found_if : (P : Attribute → Type 0) (y x : Bytes) (a b : Attribute) (t : Bool) → bytes_eq y x ≡ t → (y ≡ x → P a) → (bytes_eq y x ≡ false → P b) → P (if t then a else b)
found_if P y x a b true is own other = own ((bytes_eq-Decides y x).0 is)
found_if P y x a b false is own other = other is

own_is_true : (x : Bytes) → bytes_eq x x ≡ false → ⊥
own_is_true x is = let same : bytes_eq x x ≡ true = (bytes_eq-Decides x x).1 refl in absurd (cc)

pub described_name : (P : Attribute → Type 0) (u : WrittenUnit) (us : List Use) (cs : List Constant) (es : List Expansion) (xs : List Bytes) (x : Bytes) → IsIn x xs →
    P (attribute_of u us cs es x) → P (attribute_in (described u us cs es xs) x)
unfolding described attribute_in
described_name P u us cs es [] x among is = elim among [ ]
described_name P u us cs es (y ∷ xs) x first_in is =
    found_if P x x (attribute_of u us cs es x) (attribute_in (described u us cs es xs) x) (bytes_eq x x) refl (λ same. is) (λ apart. absurd (own_is_true x apart))
described_name P u us cs es (y ∷ xs) x (later_in among) is =
    found_if P y x (attribute_of u us cs es y) (attribute_in (described u us cs es xs) x) (bytes_eq y x) refl
    (λ same. subst (λ z. P (attribute_of u us cs es z)) (sym same) is) (λ apart. described_name P u us cs es xs x among is)

-- what holds of each description, and of a name that is not of the unit, holds of each name
pub each_described : (P : Attribute → Type 0) (u : WrittenUnit) (us : List Use) (cs : List Constant) (es : List Expansion) (xs : List Bytes) (x : Bytes) →
    P (bare class.Unit None) → ((y : Bytes) → P (attribute_of u us cs es y)) → P (attribute_in (described u us cs es xs) x)
unfolding described attribute_in
each_described P u us cs es [] x none each = none
each_described P u us cs es (y ∷ xs) x none each =
    found_if P y x (attribute_of u us cs es y) (attribute_in (described u us cs es xs) x) (bytes_eq y x) refl (λ same. each y) (λ apart. each_described P u us cs es xs x none each)

-- a name that is used is seen
seen_if : (x y : Bytes) (ys : List Bytes) (t : Bool) → bytes_eq x y ≡ t → (bytes_eq x y ≡ false → IsIn x ys) → IsIn x (y ∷ ys)
seen_if x y ys true is later = subst (λ z. IsIn x (z ∷ ys)) ((bytes_eq-Decides x y).0 is) first_in
seen_if x y ys false is later = later_in (later is)

kept_if : (P : List Bytes → Type 0) (xs ys : List Bytes) (t : Bool) → (t ≡ true → P xs) → (t ≡ false → P ys) → P (if t then xs else ys)
kept_if P xs ys true one other = one refl
kept_if P xs ys false one other = other refl

pub used_is_seen : (seen : List Bytes) (us : List Use) (u : Use) → IsIn u us → is_among u.name seen ≡ false → IsIn u.name (seen_from seen us)
unfolding seen_from is_among
used_is_seen seen [] u among new = elim among [ ]
used_is_seen seen (v ∷ us) u first_in new =
    kept_if (IsIn u.name) (seen_from seen us) (u.name ∷ seen_from (u.name ∷ seen) us) (is_among u.name seen) (λ old. absurd (let both = new in cc)) (λ is. first_in)
used_is_seen seen (v ∷ us) u (later_in among) new =
    kept_if (IsIn u.name) (seen_from seen us) (v.name ∷ seen_from (v.name ∷ seen) us) (is_among v.name seen) (λ old. used_is_seen seen us u among new)
    (λ is. seen_if u.name v.name (seen_from (v.name ∷ seen) us) (bytes_eq u.name v.name) refl
    (λ apart. used_is_seen (v.name ∷ seen) us u among (no_either (bytes_eq u.name v.name) (is_among u.name seen) apart new)))

-- each name of a unit of sums, by its uses
alone_name : (u : Use) (us : List Use) → AreAlone us → IsIn u us → IsName u.name
alone_name u [] alone among = elim among [ ]
alone_name u (v ∷ us) (one_use _ _ manner name alone) first_in = name
alone_name u (v ∷ us) (one_use _ _ manner name alone) (later_in among) = alone_name u us alone among

-- a variable of type INTEGER and no array
pub record IsInteger (a : Attribute) : Type 0 where
  pub class_is : a.class ≡ class.Stored
  pub basic_is : a.basic ≡ Integer
  pub no_dimensions : a.dimensions ≡ []

each_integer : (file : ℕ) (ss : List Stmt) → AreSimple ss → (us : List Use) → AreAlone us → (cs : List Constant) (es : List Expansion) (x : Bytes) → IsName x →
    IsInteger (attribute_of (main_program file ss) us cs es x)
each_integer file ss simple us alone cs es x name =
    let is = each_is_variable file ss simple us alone cs es x in
    record { class_is = is.class_is; basic_is = each_is_integer file ss simple us cs es x name; no_dimensions = is.no_dimensions }

pub unit_integer : (options : Options) (file : ℕ) (ss : List Stmt) → AreSimple ss → (u : Use) → IsIn u (uses_of_statements (arrays_of (main_program file ss)) ss) →
    IsInteger ((unit_read options (main_program file ss)).attribute u.name)
unfolding unit_read with_ties program_of all_described names_of first_seen main_program attributes_opened is_among
unit_integer options file ss simple u among =
    let us = uses_of_statements (arrays_of (main_program file ss)) ss in
    let alone = statements_alone (arrays_of (main_program file ss)) ss simple in
    described_name IsInteger (main_program file ss) us _ _ (seen_from [] us) u.name (used_is_seen [] us u among refl)
    (each_integer file ss simple us alone _ _ u.name (alone_name u us alone among))

-- and each other name is none of the unit
pub data IsPlain (a : Attribute) : Type 0 where
  a_variable : IsVariableName a → IsPlain a
  not_of_unit : a ≡ bare class.Unit None → IsPlain a

pub unit_plain : (options : Options) (file : ℕ) (ss : List Stmt) → AreSimple ss → (x : Bytes) → IsPlain ((unit_read options (main_program file ss)).attribute x)
unfolding unit_read with_ties program_of all_described main_program
unit_plain options file ss simple x =
    let us = uses_of_statements (arrays_of (main_program file ss)) ss in
    let alone = statements_alone (arrays_of (main_program file ss)) ss simple in
    each_described IsPlain (main_program file ss) us _ _ _ x (not_of_unit refl) (λ y. a_variable (each_is_variable file ss simple us alone _ _ y))
