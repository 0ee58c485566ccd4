-- What the tables tell of a name is what the definitions give it.
use Rattle.std.proofs.Common.{◌≡◌, Bool, true, false, ◌||◌, not, ◌&&◌, List, [], ◌∷◌, ◌++◌, map, Option, Some, None, option_map, if◌then◌else◌, bytes_eq, refl, ap, sym, subst, ◌∙◌, true≢false, append-nil, append_assoc}
use Rattle.std.proofs.lemmas.Slice.Eq.{bytes_eq-Decides}
use Rattle.name_table.proofs.Texts.{bytes_eq_flip}
use Rattle.std.proofs.lemmas.List.{map-append}
use Rattle.f_tree.specs.declared.names.Class.{Class}
use Rattle.f_tree.specs.declared.names.Class.TheVariants as class
use Rattle.f_tree.specs.declared.statements.ConstantDefinition.{ConstantDefinition}
use Rattle.f_tree.specs.declared.statements.Dimension.{Dimension as WrittenDimension}
use Rattle.f_tree.specs.declared.statements.UpperBound.{UpperBound}
use Rattle.f_tree.specs.declared.statements.UpperBound.TheVariants as upper
use Rattle.f_tree.specs.declared.units.Unit.{Unit as WrittenUnit}
use Rattle.f_tree.specs.Values.{Bytes, Datum}
use Rattle.f_tree.specs.Terms.{Function}
use Rattle.f_tree.specs.Facts.{Attribute}
use Rattle.f_tree.specs.Uses.{Use, is_among, uses_of_statements}
use Rattle.f_tree.specs.WellTyped.{has_size}
use Rattle.f_tree.specs.Reading.{function_named}
use Rattle.f_tree.specs.Attributes as written
use Rattle.f_tree.specs.Attributes.{Constant, Expansion, Described, constant_among, bare, dimension_read, upper_read, attribute_in, described, attribute_of, with_expansions, without_expansion, with_dimensions, with_class, all_described, names_of, arrays_of, constants_of, class_of}
use Rattle.name_facts.specs.declared.fact.NameFact.{NameFact}
use Rattle.name_facts.specs.declared.fact.ConstantValue.{ConstantValue}
use Rattle.name_facts.specs.GivenFacts.{IsNameFact, datum_of}
use Rattle.constant_values.specs.declared.constants.Constants.{Constants}
use Rattle.constant_values.specs.Folded.{value_given, function_given, IsKnownAs}
use Rattle.constant_values.specs.KnownConstants.{entry_in, entry_among, first_entry, AreConstants, function_if, known_by}
use Rattle.constant_values.proofs.ConstantLaws.{constant-value-in}
use Rattle.decl_table.specs.UnitFacts.{is_intrinsic, is_open, all_closed, DefinesConstants}

-- NAMES AMONG OTHERS
same-name : (x y : Bytes) → bytes_eq x y ≡ true → x ≡ y
same-name x y h = (bytes_eq-Decides x y).0 h

attribute-by : (b c : Bool) (x y : Bytes) (f : Bytes → Attribute) (rest : Attribute) → bytes_eq y x ≡ b → rest ≡ (if c then f x else bare class.Unit None) →
    (if b then f y else rest) ≡ (if b || c then f x else bare class.Unit None)
attribute-by true c x y f rest e h = ap f (same-name y x e)
attribute-by false c x y f rest e h = h

-- of a list of names each has its attribute, and others have none
pub attribute-among : (u : WrittenUnit) (uses : List Use) (cs : List Constant) (es : List Expansion) (xs : List Bytes) (x : Bytes) →
    attribute_in (described u uses cs es xs) x ≡ (if is_among x xs then attribute_of u uses cs es x else bare class.Unit None)
unfolding attribute_in described is_among
attribute-among u uses cs es [] x = refl
attribute-among u uses cs es (y ∷ ys) x =
    attribute-by (bytes_eq y x) (is_among x ys) x y (attribute_of u uses cs es) (attribute_in (described u uses cs es ys) x) refl (attribute-among u uses cs es ys x)
    ∙ ap (λ b. if b || is_among x ys then attribute_of u uses cs es x else bare class.Unit None) (bytes_eq_flip y x)

-- the expansion of a statement function is not told
pub own-named : (u : WrittenUnit) (uses : List Use) (cs : List Constant) (es : List Expansion) (x : Bytes) (f : NameFact) →
    IsNameFact (without_expansion u uses cs x) f → IsNameFact (attribute_of u uses cs es x) f
unfolding attribute_of with_expansions
own-named u uses cs es x f is = record {
  class = is.class;
  basic = is.basic;
  width = is.width;
  rank = is.rank;
  sized = is.sized;
  bounds = is.bounds;
  constant = is.constant;
}

-- SIZES
open-read : (names : Bytes → Attribute) (d : WrittenDimension) (r : Bool) → (elim (dimension_read names d).upper [ None ↦ false | Some t ↦ r ]) ≡ (not (is_open d) && r)
unfolding dimension_read upper_read is_open
open-read names d r = by d.upper
  where
    by : (bound : UpperBound) → (elim (upper_read names bound) [ None ↦ false | Some t ↦ r ]) ≡ (not (elim bound [ upper.Star ↦ true | upper.Value e ↦ false ]) && r)
    by (upper.Value e) = refl
    by upper.Star = refl

pub size-read : (names : Bytes → Attribute) (ds : List WrittenDimension) → all_closed ds ≡ has_size (map (dimension_read names) ds)
unfolding all_closed has_size
size-read names [] = refl
size-read names (d ∷ ds) = ap (λ r. not (is_open d) && r) (size-read names ds) ∙ sym (open-read names d (has_size (map (dimension_read names) ds)))

-- A CONSTANT MORE

entry-by : (b e : Bool) (here more : Option Datum) (entry after : Option (Option Datum)) → after ≡ (if e then first_entry entry more else entry)
    → (if b then Some here else after) ≡ (if e then first_entry (if b then Some here else entry) more else (if b then Some here else entry))
unfolding first_entry
entry-by true true here more entry after is = refl
entry-by true false here more entry after is = refl
entry-by false true here more entry after is = is
entry-by false false here more entry after is = is

-- the first of the definitions of a name counts
pub entry-more : (x : Bytes) (cs : List Constant) (c : Constant) → entry_among x (cs ++ c ∷ []) ≡ (if bytes_eq c.name x then first_entry (entry_among x cs) c.value else entry_among x cs)
unfolding entry_among first_entry
entry-more x [] c = refl
entry-more x (d ∷ cs) c = entry-by (bytes_eq d.name x) (bytes_eq c.name x) d.value c.value (entry_among x cs) (entry_among x (cs ++ c ∷ [])) (entry-more x cs c)

mapped-if : (b : Bool) (o : Option (Option ConstantValue)) (v : Option ConstantValue) →
    option_map (option_map datum_of) (if b then first_entry o v else o) ≡ (if b then first_entry (option_map (option_map datum_of) o) (option_map datum_of v) else option_map (option_map datum_of) o)
unfolding first_entry
mapped-if true None v = refl
mapped-if true (Some w) v = refl
mapped-if false o v = refl

-- a table with a definition more
pub constants-more : (cs : List Constant) (old new : Constants) (x : Bytes) (v : Option ConstantValue) → AreConstants cs old →
    ((y : Bytes) → entry_in new y ≡ (if bytes_eq x y then first_entry (entry_in old y) v else entry_in old y)) →
    AreConstants (cs ++ record { name = x; value = option_map datum_of v } ∷ []) new
constants-more cs old new x v are found = record {
  entries = λ y.
      ap (option_map (option_map datum_of)) (found y) ∙ mapped-if (bytes_eq x y) (entry_in old y) v
      ∙ ap (λ o. if bytes_eq x y then first_entry o (option_map datum_of v) else o) (are.entries y)
      ∙ sym (entry-more y cs (record { name = x; value = option_map datum_of v }));
}

pub constants-both : (u : WrittenUnit) (cs : List Constant) (ds es : List ConstantDefinition) → written.constants_from u cs (ds ++ es) ≡ written.constants_from u (written.constants_from u cs ds) es
unfolding Rattle.f_tree.specs.Attributes.constants_from
constants-both u cs [] es = refl
constants-both u cs (d ∷ ds) es =
    constants-both u (cs ++ record { name = d.name; value = written.fitted_to (written.width_by cs (written.typed_name u d.name)) (written.constant_value cs d.value) } ∷ []) ds es

pub defines-both : (u : WrittenUnit) (a b c : Constants) (ds es : List ConstantDefinition) → DefinesConstants u a b ds → DefinesConstants u b c es → DefinesConstants u a c (ds ++ es)
defines-both u a b c ds es one other = record {
  defined = λ cs are. subst (λ all. AreConstants all c) (sym (constants-both u cs ds es)) (other.defined (written.constants_from u cs ds) (one.defined cs are));
}

pub defines-nothing : (u : WrittenUnit) (a : Constants) → DefinesConstants u a a []
unfolding Rattle.f_tree.specs.Attributes.constants_from
defines-nothing u a = record { defined = λ cs are. are }

-- a name that no PARAMETER statement defines has no value
abbrev names-of : List Constant → List Bytes
names-of cs = map (λ (c : Constant). c.name) cs

constant-not : (x : Bytes) (cs : List Constant) → is_among x (names-of cs) ≡ false → constant_among x cs ≡ None
unfolding is_among constant_among
constant-not x [] h = refl
constant-not x (c ∷ cs) h =
    ap (λ b. if b then c.value else constant_among x cs) (bytes_eq_flip c.name x ∙ or-left (bytes_eq x c.name) (is_among x (names-of cs)) h)
    ∙ constant-not x cs (or-right (bytes_eq x c.name) (is_among x (names-of cs)) h)
  where
    or-left : (a b : Bool) → (a || b) ≡ false → a ≡ false
    or-left true b h = h
    or-left false b h = refl

    or-right : (a b : Bool) → (a || b) ≡ false → b ≡ false
    or-right true b h = absurd (true≢false h)
    or-right false b h = h

abbrev definition-names : List ConstantDefinition → List Bytes
definition-names ds = map (λ (d : ConstantDefinition). d.name) ds

names-from : (u : WrittenUnit) (cs : List Constant) (ds : List ConstantDefinition) → names-of (written.constants_from u cs ds) ≡ names-of cs ++ definition-names ds
unfolding Rattle.f_tree.specs.Attributes.constants_from
names-from u cs [] = sym (append-nil (names-of cs))
names-from u cs (d ∷ ds) =
    names-from u (cs ++ record { name = d.name; value = written.fitted_to (written.width_by cs (written.typed_name u d.name)) (written.constant_value cs d.value) } ∷ []) ds
    ∙ ap (λ xs. xs ++ definition-names ds) (map-append (λ (c : Constant). c.name) cs (record { name = d.name; value = written.fitted_to (written.width_by cs (written.typed_name u d.name)) (written.constant_value cs d.value) } ∷ []))
    ∙ append_assoc (names-of cs) (d.name ∷ []) (definition-names ds)

-- THE NAMES IN DIMENSIONS
class-constant : (own : Class) (g : written.Signs) → g.is_constant ≡ true → written.class_by own g ≡ class.Constant
unfolding Rattle.f_tree.specs.Attributes.class_by
class-constant own g h = ap (λ (b : Bool). written.class_by own (record g { is_constant = b })) h

given-constant : (c : Class) (o : Option Datum) → c ≡ class.Constant → o ≡ (elim c [ class.Constant ↦ o | _ ↦ None ])
given-constant c o h = sym (ap (λ d. elim d [ class.Constant ↦ o | _ ↦ None ]) h)

given-none : (c : Class) (o : Option Datum) → o ≡ None → o ≡ (elim c [ class.Constant ↦ o | _ ↦ None ])
given-none class.Constant o h = refl
given-none _ o h = h

function-by : (c : Class) (f : Option Function) → (if is_intrinsic c then f else None) ≡ (elim c [ class.Intrinsic ↦ f | _ ↦ None ])
unfolding is_intrinsic
function-by class.Intrinsic f = refl
function-by _ f = refl

-- the constants of a unit are its names of class Constant
value-known : (u : WrittenUnit) (x : Bytes) (b : Bool) → is_among x (map (λ (d : ConstantDefinition). d.name) (written.from_all written.constants_in u.statements)) ≡ b →
    constant_among x (constants_of u) ≡ value_given (with_class u (uses_of_statements (arrays_of u) u.statements) (constants_of u) x)
unfolding value_given with_class class_of Rattle.f_tree.specs.Attributes.signs_of constants_of
value-known u x true h =
    given-constant (class_of u (uses_of_statements (arrays_of u) u.statements) x) (constant_among x (constants_of u))
    (class-constant (written.own_class u) (written.signs_of u (uses_of_statements (arrays_of u) u.statements) x) h)
value-known u x false h =
    given-none (class_of u (uses_of_statements (arrays_of u) u.statements) x) (constant_among x (constants_of u))
    (constant-not x (constants_of u) (ap (is_among x) (names-from u [] (written.from_all written.constants_in u.statements)) ∙ h))

pub known-names : (u : WrittenUnit) (table : Constants) (functions : List Bytes) → AreConstants (constants_of u) table →
    ((x : Bytes) → is_among x functions ≡ is_intrinsic (class_of u (uses_of_statements (arrays_of u) u.statements) x)) →
    (x : Bytes) → IsKnownAs x (with_class u (uses_of_statements (arrays_of u) u.statements) (constants_of u) x) (known_by table functions)
unfolding known_by function_if function_given with_class
known-names u table functions are has x = record {
  value =
      constant-value-in (constants_of u) table are x
      ∙ value-known u x (is_among x (map (λ (d : ConstantDefinition). d.name) (written.from_all written.constants_in u.statements))) refl;
  function =
      ap (λ b. if b then function_named x else None) (has x)
      ∙ function-by (class_of u (uses_of_statements (arrays_of u) u.statements) x) (function_named x);
  expansion = refl;
}
