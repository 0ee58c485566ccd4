-- What statements do with the constants before them.
use Rattle.std.specs.Prelude.{◌≡◌, ℕ, Bool, false, List, [], ◌∷◌}
use Rattle.std.proofs.Common.{refl, ap, ◌∙◌}
use Rattle.f_tree.specs.Values.{Bytes}
use Rattle.f_tree.specs.declared.statements.Body.{Body}
use Rattle.f_tree.specs.declared.statements.Body.TheVariants as body
use Rattle.f_tree.specs.declared.statements.Body as whole
use Rattle.f_tree.specs.declared.statements.Body.{IfOne', more_of-Body}
use Rattle.f_tree.specs.Folds.{folds_opened, layer_of}
use Rattle.f_tree.specs.declared.statements.ImplicitGroup.{ImplicitGroup}
use Rattle.f_tree.specs.declared.statements.TypeSpec.{TypeSpec}
use Rattle.f_tree.specs.declared.statements.Declarator.{Declarator}
use Rattle.f_tree.specs.declared.statements.ConstantDefinition.{ConstantDefinition}
use Rattle.std.specs.Prelude.{map, ◌||◌}
use Rattle.std.specs.List.{list_any}
use Rattle.f_tree.specs.Uses.{is_among}
use Rattle.f_tree.specs.Attributes.{constants_in}
use Rattle.statement_order.specs.BeforeSteps.{letter_typed, constant_names, types_by}

any_map : {A B : Type 0} (q : B → Bool) (f : A → B) (xs : List A) → list_any q (map f xs) ≡ list_any (λ x. q (f x)) xs
any_map q f [] = refl
any_map q f (x ∷ xs) = ap (λ b. q (f x) || b) (any_map q f xs)

pub types-Declare : (constants : List Bytes) (letters : List ℕ) (spec : TypeSpec) (items : List Declarator) → types_by constants letters (body.Declare spec items) ≡ list_any (λ (d : Declarator). is_among d.name constants) items
unfolding types_by folds_opened
types-Declare constants letters spec items = refl

pub types-Implicit : (constants : List Bytes) (letters : List ℕ) (groups : List ImplicitGroup) → types_by constants letters (body.Implicit groups) ≡ list_any (letter_typed groups) letters
unfolding types_by folds_opened
types-Implicit constants letters groups = refl

pub types-other : (constants : List Bytes) (letters : List ℕ) (b : Body) → ((spec : TypeSpec) (items : List Declarator) → b ≡ body.Declare spec items → ⊥) → ((groups : List ImplicitGroup) → b ≡ body.Implicit groups → ⊥) → false ≡ types_by constants letters b
unfolding types_by layer_of
types-other constants letters (whole.Declare spec items) h0 h1 = absurd (h0 spec items refl)
types-other constants letters (whole.Implicit groups) h0 h1 = absurd (h1 groups refl)
types-other constants letters (IfOne' e s (more_of-Body b r)) h0 h1 = refl
types-other constants letters _ h0 h1 = refl

pub ruleset types_forms = (types-Declare, types-Implicit, types-other)

pub names-Parameter : (items : List ConstantDefinition) → constant_names (body.Parameter items) ≡ map (λ (d : ConstantDefinition). d.name) items
unfolding constant_names constants_in folds_opened
names-Parameter items = refl

pub names-other : (b : Body) → ((items : List ConstantDefinition) → b ≡ body.Parameter items → ⊥) → [] ≡ constant_names b
unfolding constant_names constants_in layer_of
names-other (whole.Parameter items) h0 = absurd (h0 items refl)
names-other (IfOne' e s (more_of-Body b r)) h0 = refl
names-other _ h0 = refl

pub defines-Parameter : (used : List Bytes) (items : List ConstantDefinition)
    → list_any (λ (x : Bytes). is_among x used) (constant_names (body.Parameter items)) ≡ list_any (λ (d : ConstantDefinition). is_among d.name used) items
defines-Parameter used items =
    ap (list_any (λ (x : Bytes). is_among x used)) (names-Parameter items) ∙ any_map (λ (x : Bytes). is_among x used) (λ (d : ConstantDefinition). d.name) items

pub defines-other : (used : List Bytes) (b : Body) → ((items : List ConstantDefinition) → b ≡ body.Parameter items → ⊥) → false ≡ list_any (λ (x : Bytes). is_among x used) (constant_names b)
defines-other used b other = ap (list_any (λ (x : Bytes). is_among x used)) (names-other b other)

pub ruleset defines_forms = (defines-Parameter, defines-other)
