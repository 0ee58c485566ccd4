-- The names that each form of a statement states something of.
use Rattle.std.specs.Prelude.{◌≡◌, ℕ, List, [], ◌∷◌, ◌++◌, map, Option, Some, None}
use Rattle.std.proofs.Common.{refl, ap}
use Rattle.std.proofs.lemmas.List.{append-nil}
use Rattle.f_tree.specs.declared.expressions.Expr.{Expr}
use Rattle.f_tree.specs.declared.statements.Body.{Body, IfOne', more_of-Body}
use Rattle.f_tree.specs.declared.statements.Body as whole
use Rattle.f_tree.specs.declared.statements.Body.TheVariants as body
use Rattle.f_tree.specs.declared.statements.ConstantDefinition.{ConstantDefinition}
use Rattle.f_tree.specs.declared.statements.Declarator.{Declarator}
use Rattle.f_tree.specs.declared.statements.DummyArgument.{DummyArgument}
use Rattle.f_tree.specs.declared.statements.DummyArgument.TheVariants as dummy
use Rattle.f_tree.specs.declared.statements.TypeSpec.{TypeSpec}
use Rattle.f_tree.specs.Folds.{layer_of}
use Rattle.f_tree.specs.Values.{Bytes}
use Rattle.f_tree.specs.Uses.{heading_of}
use Rattle.f_tree.specs.Attributes.{TypedName, typed_in, constants_in, external_in, intrinsic_in, named_dummies, entry_names_in, entry_dummies_in, assigned_with_list_in, option_list}
use Rattle.name_classes.specs.StatedNames.{constant_names, typed_names, dummy_name}

pub constants-Parameter : (items : List ConstantDefinition) → constant_names (body.Parameter items) ≡ map (λ (d : ConstantDefinition). d.name) items
unfolding constant_names constants_in layer_of
constants-Parameter items = refl

pub constants-other : (b : Body) → ((items : List ConstantDefinition) → b ≡ body.Parameter items → ⊥) → constant_names b ≡ []
unfolding constant_names constants_in layer_of
constants-other (whole.Parameter items) h = absurd (h items refl)
constants-other (IfOne' e s (more_of-Body b r)) h = refl
constants-other _ h = refl

typed_items : (spec : TypeSpec) (items : List Declarator) → map (λ (t : TypedName). t.item.name) (map (λ i. record { spec = spec; item = i }) items) ≡ map (λ (d : Declarator). d.name) items
typed_items spec [] = refl
typed_items spec (d ∷ items) = ap (λ xs. d.name ∷ xs) (typed_items spec items)

pub typed-Declare : (spec : TypeSpec) (items : List Declarator) → typed_names (body.Declare spec items) ≡ map (λ (d : Declarator). d.name) items
unfolding typed_names typed_in layer_of
typed-Declare spec items = typed_items spec items

pub typed-other : (b : Body) → ((spec : TypeSpec) (items : List Declarator) → b ≡ body.Declare spec items → ⊥) → typed_names b ≡ []
unfolding typed_names typed_in layer_of
typed-other (whole.Declare spec items) h = absurd (h spec items refl)
typed-other (IfOne' e s (more_of-Body b r)) h = refl
typed-other _ h = refl

pub external-External : (xs : List Bytes) → external_in (body.External xs) ≡ xs
unfolding external_in layer_of
external-External xs = refl

pub external-other : (b : Body) → ((xs : List Bytes) → b ≡ body.External xs → ⊥) → external_in b ≡ []
unfolding external_in layer_of
external-other (whole.External xs) h = absurd (h xs refl)
external-other (IfOne' e s (more_of-Body b r)) h = refl
external-other _ h = refl

pub intrinsic-Intrinsic : (xs : List Bytes) → intrinsic_in (body.Intrinsic xs) ≡ xs
unfolding intrinsic_in layer_of
intrinsic-Intrinsic xs = refl

pub intrinsic-other : (b : Body) → ((xs : List Bytes) → b ≡ body.Intrinsic xs → ⊥) → intrinsic_in b ≡ []
unfolding intrinsic_in layer_of
intrinsic-other (whole.Intrinsic xs) h = absurd (h xs refl)
intrinsic-other (IfOne' e s (more_of-Body b r)) h = refl
intrinsic-other _ h = refl

pub entry-Entry : (x : Bytes) (dummies : List DummyArgument) → entry_names_in (body.Entry x dummies) ≡ x ∷ []
unfolding entry_names_in layer_of
entry-Entry x dummies = refl

pub entry-other : (b : Body) → ((x : Bytes) (dummies : List DummyArgument) → b ≡ body.Entry x dummies → ⊥) → entry_names_in b ≡ []
unfolding entry_names_in layer_of
entry-other (whole.Entry x dummies) h = absurd (h x dummies refl)
entry-other (IfOne' e s (more_of-Body b r)) h = refl
entry-other _ h = refl

pub dummies-Entry : (x : Bytes) (dummies : List DummyArgument) → entry_dummies_in (body.Entry x dummies) ≡ named_dummies dummies
unfolding entry_dummies_in layer_of
dummies-Entry x dummies = refl

pub dummies-other : (b : Body) → ((x : Bytes) (dummies : List DummyArgument) → b ≡ body.Entry x dummies → ⊥) → entry_dummies_in b ≡ []
unfolding entry_dummies_in layer_of
dummies-other (whole.Entry x dummies) h = absurd (h x dummies refl)
dummies-other (IfOne' e s (more_of-Body b r)) h = refl
dummies-other _ h = refl

pub assigned-Assign : (target e : Expr) → assigned_with_list_in (body.Assign target e) ≡ option_list (heading_of target).applied
unfolding assigned_with_list_in layer_of
assigned-Assign target e = refl

pub assigned-other : (b : Body) → ((target e : Expr) → b ≡ body.Assign target e → ⊥) → assigned_with_list_in b ≡ []
unfolding assigned_with_list_in layer_of
assigned-other (whole.Assign target e) h = absurd (h target e refl)
assigned-other (IfOne' e s (more_of-Body b r)) h = refl
assigned-other _ h = refl

pub dummy-Named : (x : Bytes) → dummy_name (dummy.Named x) ≡ x ∷ []
unfolding dummy_name
dummy-Named x = refl

pub dummy-Alternate : dummy_name dummy.AlternateReturn ≡ []
unfolding dummy_name
dummy-Alternate = refl

pub dummies_step : (d : DummyArgument) (ds : List DummyArgument) → named_dummies (d ∷ ds) ≡ dummy_name d ++ named_dummies ds
unfolding named_dummies dummy_name
dummies_step (dummy.Named x) ds = refl
dummies_step dummy.AlternateReturn ds = refl

pub dummies_none : named_dummies [] ≡ []
unfolding named_dummies
dummies_none = refl

pub option-Some : (o : Option Bytes) (x : Bytes) → o ≡ Some x → option_list o ≡ x ∷ []
unfolding option_list
option-Some o x is = ap option_list is

pub option-None : (o : Option Bytes) → o ≡ None → option_list o ≡ []
unfolding option_list
option-None o is = ap option_list is
