-- What each form of a statement says of the types of names, and the type of a name.
use Rattle.std.specs.Prelude.{◌≡◌, List, [], ◌∷◌, ◌++◌, map, Option, Some, None, option_map}
use Rattle.std.specs.Borrow.{Bor}
use Rattle.std.proofs.Common.{refl, sym, ap, ◌∙◌}
use Rattle.f_tree.specs.declared.statements.Body.{Body, IfOne', more_of-Body}
use Rattle.f_tree.specs.declared.statements.Body as whole
use Rattle.f_tree.specs.declared.statements.Body.TheVariants as body
use Rattle.f_tree.specs.declared.statements.ArrayDeclarator.{ArrayDeclarator}
use Rattle.f_tree.specs.declared.statements.CommonGroup.{CommonGroup}
use Rattle.f_tree.specs.declared.statements.Declarator.{Declarator}
use Rattle.f_tree.specs.declared.statements.ImplicitGroup.{ImplicitGroup}
use Rattle.f_tree.specs.declared.statements.LengthSpec.{LengthSpec}
use Rattle.f_tree.specs.declared.statements.Stmt.{Stmt}
use Rattle.f_tree.specs.declared.statements.TypeSpec.{TypeSpec}
use Rattle.f_tree.specs.declared.units.Unit.{Unit as WrittenUnit}
use Rattle.f_tree.specs.Folds.{layer_of}
use Rattle.f_tree.specs.Values.{Bytes}
use Rattle.f_tree.specs.Attributes.{TypedName, from_all, typed_in, shaped_in, implicit_in, type_among, typed_by, typed_or_implied, first_of_two, heading_type, implied, typed_name}
use Rattle.declared_types.specs.declared.types.DeclaredType.{DeclaredType}
use Rattle.declared_types.specs.declared.types.Types.{Types}
use Rattle.name_table.specs.Named.{value_of}
use Rattle.declared_types.specs.TypeTables.{typed_of, type_at, type_in, plain_type, no_type, type_else, implied_type, undeclared_type, AreTypes}

pub typed-Declare : (spec : TypeSpec) (items : List Declarator) → map (λ (i : Declarator). record { spec = spec; item = i }) items ≡ typed_in (body.Declare spec items)
unfolding typed_in layer_of
typed-Declare spec items = refl

pub typed_other : (b : Body) → ((spec : TypeSpec) (items : List Declarator) → b ≡ body.Declare spec items → ⊥) → [] ≡ typed_in b
unfolding typed_in layer_of
typed_other (whole.Declare spec items) h = absurd (h spec items refl)
typed_other (IfOne' e s (more_of-Body b r)) h = refl
typed_other _ h = refl

pub implicit-Implicit : (groups : List ImplicitGroup) → groups ≡ implicit_in (body.Implicit groups)
unfolding implicit_in layer_of
implicit-Implicit groups = refl

pub implicit_other : (b : Body) → ((groups : List ImplicitGroup) → b ≡ body.Implicit groups → ⊥) → [] ≡ implicit_in b
unfolding implicit_in layer_of
implicit_other (whole.Implicit groups) h = absurd (h groups refl)
implicit_other (IfOne' e s (more_of-Body b r)) h = refl
implicit_other _ h = refl

pub from_step : {A : Type 0} (f : Body → List A) (s : Stmt) (ss : List Stmt) → from_all f (s ∷ ss) ≡ f s.body ++ from_all f ss
unfolding from_all
from_step f s ss = refl

pub from_none : {A : Type 0} (f : Body → List A) → from_all f [] ≡ []
unfolding from_all
from_none f = refl

pub shaped_other : (b : Body) → ((spec : TypeSpec) (ds : List Declarator) → b ≡ body.Declare spec ds → ⊥) → ((ds : List ArrayDeclarator) → b ≡ body.Dimension ds → ⊥)
    → ((gs : List CommonGroup) → b ≡ body.Common gs → ⊥) → [] ≡ shaped_in b
unfolding shaped_in layer_of
shaped_other (whole.Declare spec ds) h i j = absurd (h spec ds refl)
shaped_other (whole.Dimension ds) h i j = absurd (i ds refl)
shaped_other (whole.Common gs) h i j = absurd (j gs refl)
shaped_other (IfOne' e s (more_of-Body b r)) h i j = refl
shaped_other _ h i j = refl

-- the type of a name
length_by : (spec : TypeSpec) (o : Option LengthSpec) (l : LengthSpec) → o ≡ Some l → record { basic = spec.basic; length = Some l } ≡ typed_by spec o
unfolding typed_by
length_by spec o l is = ap (typed_by spec) (sym is)

pub item_length : (spec : TypeSpec) (o : Option LengthSpec) (l : Bor LengthSpec) → o ≡ Some l.now → typed_of (record { basic = spec.basic; length = Some l }) ≡ typed_by spec o
unfolding typed_of
item_length spec o l is = length_by spec o l.now is

pub item_plain : (spec : TypeSpec) (o : Option LengthSpec) (d : DeclaredType) → o ≡ None → typed_of d ≡ plain_type spec → typed_of d ≡ typed_by spec o
unfolding plain_type
item_plain spec o d is typed = typed ∙ ap (typed_by spec) (sym is)

from_heading : (h : Option TypeSpec) (i : Option TypeSpec) → typed_or_implied None (first_of_two h i) ≡ type_else (type_else no_type (option_map plain_type i)) (option_map plain_type h)
unfolding typed_or_implied first_of_two type_else no_type plain_type
from_heading (Some spec) i = refl
from_heading None (Some spec) = refl
from_heading None None = refl

named_by : (u : WrittenUnit) (x : Bytes) (t : Option TypedName) (i : Option TypeSpec)
    → typed_or_implied t (first_of_two (heading_type u x t) i) ≡ type_else (type_else (type_else no_type (option_map plain_type i)) (option_map plain_type (heading_type u x None))) (option_map type_in t)
unfolding typed_or_implied type_else type_in
named_by u x (Some t) i = refl
named_by u x None i = from_heading (heading_type u x None) i

pub name_type : (u : WrittenUnit) (x : Bytes) → typed_name u x ≡ type_else (undeclared_type u x) (option_map type_in (type_among x (from_all typed_in u.statements)))
unfolding typed_name undeclared_type implied_type
name_type u x = named_by u x (type_among x (from_all typed_in u.statements)) (implied x (from_all implicit_in u.statements))

type_found : (u : WrittenUnit) (types : Types) (x : Bytes) (o : Option DeclaredType) → AreTypes u types → o ≡ value_of types.declared x → typed_name u x ≡ type_else (undeclared_type u x) (option_map typed_of o)
unfolding type_at
type_found u types x o known is = name_type u x ∙ ap (type_else (undeclared_type u x)) (sym (ap (option_map typed_of) is ∙ known.declared x))

pub type_there : (u : WrittenUnit) (types : Types) (x : Bytes) (o : Option DeclaredType) (d : DeclaredType) → AreTypes u types → o ≡ value_of types.declared x → o ≡ Some d → typed_of d ≡ typed_name u x
unfolding type_else
type_there u types x o d known is there = sym (type_found u types x o known is ∙ ap (λ p. type_else (undeclared_type u x) (option_map typed_of p)) there)

pub type_missing : (u : WrittenUnit) (types : Types) (x : Bytes) (o : Option DeclaredType) (d : DeclaredType) → AreTypes u types → o ≡ value_of types.declared x → o ≡ None
    → typed_of d ≡ undeclared_type u x → typed_of d ≡ typed_name u x
unfolding type_else
type_missing u types x o d known is none typed = typed ∙ sym (type_found u types x o known is ∙ ap (λ p. type_else (undeclared_type u x) (option_map typed_of p)) none)
