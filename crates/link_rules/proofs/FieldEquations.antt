-- Which names the fields of a list mention.
use Rattle.std.proofs.Common.{◌≡◌, refl, ℤ, ℕ, Bool, true, false, ◌||◌, List, [], ◌∷◌}
use Rattle.c_tree.specs.declared.declaration.CField.{CField}
use Rattle.c_tree.specs.declared.declaration.CField.TheVariants as given
use Rattle.c_tree.specs.Linking.{any_of}
use Rattle.c_tree.specs.Declarations.{field_names}
use Rattle.first_names.specs.declared.FirstNames.{FirstNames}
use Rattle.expression_linker.specs.Mentions.{has}
use Rattle.link_rules.specs.Mentioned.{in_field, in_fields}

or_none : (a : Bool) → (a || false) ≡ a
or_none true = refl
or_none false = refl

pub in-Name : (names : FirstNames (Unit {0})) (name : List ℕ) → in_field names (given.Name name) ≡ has names name
unfolding in_field
in-Name names name = or_none (has names name)

pub in-Number : (names : FirstNames (Unit {0})) (number : ℤ) → in_field names (given.Number number) ≡ false
unfolding in_field
in-Number names number = refl

pub in-Str : (names : FirstNames (Unit {0})) (bytes : List ℕ) → in_field names (given.Str bytes) ≡ false
unfolding in_field
in-Str names bytes = refl

pub ruleset field_equations = (in-Name, in-Number, in-Str)

pub in-none : (names : FirstNames (Unit {0})) → in_fields names [] ≡ false
unfolding in_fields
in-none names = refl

some_field : (a b : Bool) → (a || b) ≡ ((a || false) || b)
some_field true b = refl
some_field false b = refl

pub in-more : (names : FirstNames (Unit {0})) (one : CField) (later : List CField) → in_fields names (one ∷ later) ≡ (in_field names one || in_fields names later)
unfolding in_fields in_field
in-more names (given.Name name) later = some_field (has names name) (any_of (has names) (field_names later))
in-more names (given.Number number) later = refl
in-more names (given.Str bytes) later = refl

pub ruleset fields_equations = (in-none, in-more)
