-- The names that each form of a statement notes.
use Rattle.std.specs.Prelude.{◌≡◌, ℕ, Bool, true, false, List, [], ◌∷◌, ◌++◌, map, Option, if◌then◌else◌}
use Rattle.std.proofs.Common.{◌⊎◌, inl, inr, refl, sym, ap, ◌∙◌}
use Rattle.std.proofs.lemmas.List.{map-append}
use Rattle.f_tree.specs.declared.expressions.Expr.{Expr}
use Rattle.f_tree.specs.declared.statements.Body.{Body, IfOne', more_of-Body}
use Rattle.f_tree.specs.declared.statements.Body as whole
use Rattle.f_tree.specs.declared.statements.Body.TheVariants as body
use Rattle.f_tree.specs.declared.statements.ArrayDeclarator.{ArrayDeclarator}
use Rattle.f_tree.specs.declared.statements.CommonGroup.{CommonGroup}
use Rattle.f_tree.specs.declared.statements.ConstantDefinition.{ConstantDefinition}
use Rattle.f_tree.specs.declared.statements.Declarator.{Declarator}
use Rattle.f_tree.specs.declared.statements.TypeSpec.{TypeSpec}
use Rattle.f_tree.specs.Folds.{layer_of}
use Rattle.f_tree.specs.Values.{Bytes}
use Rattle.f_tree.specs.Uses.{Use}
use Rattle.f_tree.specs.Attributes.{Shaped, shaped_in, shape_of_array, members_of, constants_in, external_in, called}
use Rattle.name_uses.specs.declared.uses.Use.{Use as Seen}
use Rattle.name_uses.specs.declared.uses.Manner.{Manner}
use Rattle.name_uses.specs.declared.uses.Manner.TheVariants as manner
use Rattle.name_uses.specs.UsesSeen.{manner_in, use_of, used_in}
use Rattle.name_places.specs.FirstPlaces.{use_names, called_names, declared_in, fixed_in}

-- names that are called
chosen : (b : Bool) (x : Bytes) (xs : List Bytes) → (if b then x ∷ xs else xs) ≡ (if b then x ∷ [] else []) ++ xs
chosen true x xs = refl
chosen false x xs = refl

pub called_step : (u : Use) (us : List Use) → called_names (u ∷ us) ≡ called_names (u ∷ []) ++ called_names us
unfolding called_names
called_step u us = chosen (called u.manner) u.name (called_names us)

pub called_none : called_names [] ≡ []
unfolding called_names
called_none = refl

pub called_by : (u : Use) (b : Bool) → called u.manner ≡ b → called_names (u ∷ []) ≡ (if b then u.name ∷ [] else [])
unfolding called_names
called_by u b is = ap (λ c. if c then u.name ∷ [] else []) is

-- names of common blocks
pub groups_step : (g : CommonGroup) (gs : List CommonGroup) → map (λ (d : ArrayDeclarator). d.name) (members_of (g ∷ gs)) ≡ map (λ (d : ArrayDeclarator). d.name) g.items ++ map (λ (d : ArrayDeclarator). d.name) (members_of gs)
unfolding members_of
groups_step g gs = map-append (λ (d : ArrayDeclarator). d.name) g.items (members_of gs)

pub groups_none : map (λ (d : ArrayDeclarator). d.name) (members_of []) ≡ []
unfolding members_of
groups_none = refl

-- STATEMENTS
declared_items : (items : List Declarator) → map (λ (d : Declarator). d.name) items ≡ map (λ (s : Shaped). s.name) (map (λ (d : Declarator). record { name = d.name; dimensions = d.dimensions }) items)
declared_items [] = refl
declared_items (d ∷ items) = ap (λ xs. d.name ∷ xs) (declared_items items)

declared_members : (items : List ArrayDeclarator) → map (λ (d : ArrayDeclarator). d.name) items ≡ map (λ (s : Shaped). s.name) (map shape_of_array items)
unfolding shape_of_array
declared_members [] = refl
declared_members (d ∷ items) = ap (λ xs. d.name ∷ xs) (declared_members items)

pub declared-Declare : (spec : TypeSpec) (items : List Declarator) → map (λ (d : Declarator). d.name) items ≡ declared_in (body.Declare spec items)
unfolding declared_in shaped_in layer_of
declared-Declare spec items = declared_items items

pub declared-Dimension : (items : List ArrayDeclarator) → map (λ (d : ArrayDeclarator). d.name) items ≡ declared_in (body.Dimension items)
unfolding declared_in shaped_in layer_of
declared-Dimension items = declared_members items

pub declared-Common : (groups : List CommonGroup) → map (λ (d : ArrayDeclarator). d.name) (members_of groups) ≡ declared_in (body.Common groups)
unfolding declared_in shaped_in layer_of
declared-Common groups = declared_members (members_of groups)

pub declared_other : (b : Body) → ((spec : TypeSpec) (ds : List Declarator) → b ≡ body.Declare spec ds → ⊥) → ((ds : List ArrayDeclarator) → b ≡ body.Dimension ds → ⊥)
    → ((gs : List CommonGroup) → b ≡ body.Common gs → ⊥) → [] ≡ declared_in b
unfolding declared_in shaped_in layer_of
declared_other (whole.Declare spec ds) h i j = absurd (h spec ds refl)
declared_other (whole.Dimension ds) h i j = absurd (i ds refl)
declared_other (whole.Common gs) h i j = absurd (j gs refl)
declared_other (IfOne' e s (more_of-Body b r)) h i j = refl
declared_other _ h i j = refl

pub fixed-Parameter : (items : List ConstantDefinition) → map (λ (d : ConstantDefinition). d.name) items ≡ fixed_in (body.Parameter items)
unfolding fixed_in constants_in layer_of
fixed-Parameter items = refl

pub fixed_other : (b : Body) → ((items : List ConstantDefinition) → b ≡ body.Parameter items → ⊥) → [] ≡ fixed_in b
unfolding fixed_in constants_in layer_of
fixed_other (whole.Parameter items) h = absurd (h items refl)
fixed_other (IfOne' e s (more_of-Body b r)) h = refl
fixed_other _ h = refl

pub external-External : (xs : List Bytes) → xs ≡ external_in (body.External xs)
unfolding external_in layer_of
external-External xs = refl

pub external_other : (b : Body) → ((xs : List Bytes) → b ≡ body.External xs → ⊥) → [] ≡ external_in b
unfolding external_in layer_of
external_other (whole.External xs) h = absurd (h xs refl)
external_other (IfOne' e s (more_of-Body b r)) h = refl
external_other _ h = refl

-- uses as the code keeps them
pub uses_step : (u : Seen) (us : List Seen) → use_names (used_in (u ∷ us)) ≡ u.name.now ∷ [] ++ use_names (used_in us)
unfolding use_names use_of
uses_step u us = refl

pub uses_none : use_names (used_in []) ≡ []
unfolding use_names
uses_none = refl

pub calls_step : (u : Seen) (us : List Seen) → called_names (used_in (u ∷ us)) ≡ called_names (use_of u ∷ []) ++ called_names (used_in us)
calls_step u us = called_step (use_of u) (used_in us)

pub call-Called : (u : Seen) → u.manner ≡ manner.Called → u.name.now ∷ [] ≡ called_names (use_of u ∷ [])
unfolding use_of manner_in called
call-Called u is = sym (called_by (use_of u) true (ap (λ m. called (manner_in m)) is))

call_other : (u : Seen) (m : Manner) → u.manner ≡ m → called (manner_in m) ≡ false → [] ≡ called_names (use_of u ∷ [])
unfolding use_of
call_other u m is none = sym (called_by (use_of u) false (ap (λ k. called (manner_in k)) is ∙ none))

alone_is : called (manner_in manner.Alone) ≡ false
unfolding called manner_in
alone_is = refl

listed_is : called (manner_in manner.WithList) ≡ false
unfolding called manner_in
listed_is = refl

declared_is : called (manner_in manner.Declared) ≡ false
unfolding called manner_in
declared_is = refl

pub call_neither : (u : Seen) → u.manner ≡ manner.Alone ⊎ (u.manner ≡ manner.WithList ⊎ u.manner ≡ manner.Declared) → [] ≡ called_names (use_of u ∷ [])
call_neither u (inl is) = call_other u manner.Alone is alone_is
call_neither u (inr (inl is)) = call_other u manner.WithList is listed_is
call_neither u (inr (inr is)) = call_other u manner.Declared is declared_is
