-- What is said of a name tells what is asked of it.
use Rattle.std.proofs.Common.{◌≡◌, ℕ, ◌*◌, Bool, true, false, not, ◌&&◌, ◌||◌, List, [], ◌∷◌, map, length, Option, Some, None, is_some, nat_eq, nat_lt, refl, sym, ap, ◌∙◌, arith}
use Rattle.std.specs.List.{list_all}
use Rattle.std.proofs.lemmas.List.{length-map}
use Rattle.f_tree.specs.declared.names.Class.{Class}
use Rattle.f_tree.specs.declared.names.Class.TheVariants as class
use Rattle.f_tree.specs.CNames.{is_name}
use Rattle.f_tree.specs.Values.{Bytes}
use Rattle.f_tree.specs.Facts.{Bounds, Attribute}
use Rattle.f_tree.specs.Attributes.{Described}
use Rattle.f_tree.specs.Valuing.{elements_of, extent_of}
use Rattle.f_tree.specs.Lines.{size_by, size_of, is_stored}
use Rattle.c_emit.specs.Numbers.{is_numeric}
use Rattle.c_emit.specs.c_tree.Tokens.{begins_with, is_letter}
use Rattle.name_facts.specs.declared.fact.Bound.{Bound}
use Rattle.name_facts.specs.declared.fact.NameFact.{NameFact}
use Rattle.name_facts.specs.GivenFacts.{IsNameFact, bounds_of, no_fact}
use Rattle.plain_forms.specs.PlainUnits as plain
use Rattle.plain_forms.specs.PlainUnits.{bound_fits, only_last_is_assumed, is_of_call, has_four_units}
use Rattle.plain_forms.specs.SpellableNames.{has_element}
use Rattle.name_facts.specs.Dimensions.{is_closed, elements_in}
use Rattle.name_facts.proofs.ElementLaws.{closed_elements, extent_elements}
use Rattle.plain_names.specs.Elements.{only_last_is_open, has_length, fits}
use Rattle.plain_names.specs.ToldNames.{is_stored_class, is_number, has_plain_bounds, has_constant_bounds, is_plain_variable, is_plain}
use Rattle.plain_names.specs.ToldNames as told_names
use Rattle.plain_names.proofs.ElementLaws.{element-known, last-known}

pub number-told : (a : Attribute) (fact : NameFact) → IsNameFact a fact → is_number fact ≡ plain.is_number a
unfolding is_number Rattle.plain_forms.specs.PlainUnits.is_number
number-told a fact told = ap (λ b. is_numeric b && has_four_units fact.width) told.basic ∙ ap (λ w. is_numeric a.basic && has_four_units w) told.width

all-fit : (bs : List Bound) → list_all fits bs ≡ list_all bound_fits (map bounds_of bs)
unfolding fits
all-fit [] = refl
all-fit (b ∷ bs) = ap (λ t. bound_fits (bounds_of b) && t) (all-fit bs)

pub bounds-told : (a : Attribute) (fact : NameFact) → IsNameFact a fact → has_plain_bounds fact ≡ plain.has_plain_bounds a
unfolding has_plain_bounds Rattle.plain_forms.specs.PlainUnits.has_plain_bounds
bounds-told a fact told =
    ap (λ t. nat_eq (length fact.bounds) fact.rank && (t && only_last_is_open fact.bounds)) (all-fit fact.bounds)
    ∙ ap (λ t. nat_eq (length fact.bounds) fact.rank && (list_all bound_fits (map bounds_of fact.bounds) && t)) (last-known fact.bounds)
    ∙ ap (λ n. nat_eq n fact.rank && (list_all bound_fits (map bounds_of fact.bounds) && only_last_is_assumed (map bounds_of fact.bounds))) (sym (length-map fact.bounds bounds_of))
    ∙ ap (λ bs. nat_eq (length bs) fact.rank && (list_all bound_fits bs && only_last_is_assumed bs)) told.bounds
    ∙ ap (λ n. nat_eq (length a.bounds) n && (list_all bound_fits a.bounds && only_last_is_assumed a.bounds)) told.rank

pub constant-told : (a : Attribute) (fact : NameFact) → IsNameFact a fact → has_constant_bounds fact ≡ plain.has_constant_bounds a
unfolding has_constant_bounds Rattle.plain_forms.specs.PlainUnits.has_constant_bounds
constant-told a fact told =
    ap (λ t. t && list_all is_closed fact.bounds) (bounds-told a fact told)
    ∙ ap (λ t. plain.has_plain_bounds a && t) (closed_elements fact.bounds ∙ ap (λ (bs : List Bounds). is_some (elements_of bs)) told.bounds)

pub stored-told : (a : Attribute) (fact : NameFact) → IsNameFact a fact → is_stored_class fact.class ≡ is_stored a
unfolding is_stored_class is_stored
stored-told a fact told = ap is_stored_class told.class ∙ by a.class
  where
    by : (c : Class) → is_stored_class c ≡ (elim c [ class.Stored ↦ true | _ ↦ false ])
    by class.Stored = refl
    by _ = refl

four-units : (w : Option ℕ) → has_four_units w ≡ true → w ≡ Some 4
unfolding has_four_units
four-units None h = absurd (cc)
four-units (Some n) h = ap Some (grind arith)

number-units : (a : Attribute) (t : Bool) → t && has_four_units a.width ≡ true → a.width ≡ Some 4
number-units a true h = four-units a.width h
number-units a false h = absurd (cc)

units-of : (a : Attribute) → plain.is_number a ≡ true → a.width ≡ Some 4
unfolding Rattle.plain_forms.specs.PlainUnits.is_number
units-of a h = number-units a (is_numeric a.basic) h

size-known : (a : Attribute) (fact : NameFact) → IsNameFact a fact → a.width ≡ Some 4 → elements_in fact.bounds * 4 ≡ size_of a
unfolding size_of size_by
size-known a fact told four =
    sym (ap (size_by a) four ∙ ap (λ bs. extent_of (elements_of bs) 4) (sym told.bounds) ∙ extent_elements fact.bounds 4)

if-true : (t x y : Bool) → (t ≡ true → x ≡ y) → (t && x) ≡ (t && y)
if-true true x y h = h refl
if-true false x y h = refl

pub variable-told : (x : Bytes) (a : Attribute) (fact : NameFact) → IsNameFact a fact → is_plain_variable x fact ≡ plain.is_plain_variable (record { name = x; attribute = a })
unfolding is_plain_variable Rattle.plain_forms.specs.PlainUnits.is_plain_variable
variable-told x a fact told =
    ap (λ t. is_name x && (t && nat_lt (elements_in fact.bounds * 4) 67108865)) (number-told a fact told)
    ∙ ap (λ t. is_name x && t)
    (if-true (plain.is_number a) (nat_lt (elements_in fact.bounds * 4) 67108865) (nat_lt (size_of a) 67108865)
    (λ number. ap (λ n. nat_lt n 67108865) (size-known a fact told (units-of a number))))

-- a name is plain by what is said of it
pub plain-told : (x : Bytes) (a : Attribute) (fact : NameFact) → IsNameFact a fact → is_plain x fact ≡ plain.is_plain_name (record { name = x; attribute = a })
unfolding is_plain Rattle.plain_forms.specs.PlainUnits.is_plain_name
plain-told x a fact told =
    ap (λ c. not (is_of_call c) && (has_constant_bounds fact && (not (is_stored_class fact.class) || is_plain_variable x fact))) told.class
    ∙ ap (λ t. not (is_of_call a.class) && (t && (not (is_stored_class fact.class) || is_plain_variable x fact))) (constant-told a fact told)
    ∙ ap (λ t. not (is_of_call a.class) && (plain.has_constant_bounds a && (not t || is_plain_variable x fact))) (stored-told a fact told)
    ∙ ap (λ t. not (is_of_call a.class) && (plain.has_constant_bounds a && (not (is_stored a) || t))) (variable-told x a fact told)

-- a name is not stored, or begins with a letter, and an element is known to be there
unfoldable pub is_spelled : Described → Bool
is_spelled d = not (is_stored d.attribute) || (begins_with is_letter d.name && has_element (elements_of d.attribute.bounds))

pub spelled-told : (x : Bytes) (a : Attribute) (fact : NameFact) → IsNameFact a fact → told_names.is_spelled x fact ≡ is_spelled (record { name = x; attribute = a })
unfolding is_spelled Rattle.plain_names.specs.ToldNames.is_spelled
spelled-told x a fact told =
    ap (λ t. not t || (begins_with is_letter x && list_all has_length fact.bounds)) (stored-told a fact told)
    ∙ ap (λ t. not (is_stored a) || (begins_with is_letter x && t)) (element-known fact.bounds)
    ∙ ap (λ bs. not (is_stored a) || (begins_with is_letter x && has_element (elements_of bs))) told.bounds

-- ## A name that the table does not have

pub unknown_is_plain : (x : Bytes) → is_plain x no_fact ≡ true
unfolding no_fact is_plain is_of_call has_plain_bounds has_constant_bounds only_last_is_open is_stored_class
unknown_is_plain x = refl

pub unknown_is_spelled : (x : Bytes) → told_names.is_spelled x no_fact ≡ true
unfolding no_fact Rattle.plain_names.specs.ToldNames.is_spelled is_stored_class
unknown_is_spelled x = refl
