-- Which forms of items and statements are translated.
use Rattle.std.proofs.Common.{◌≡◌, true, false, List, refl}
use Rattle.f_tree.specs.Values.{Bytes}
use Rattle.f_tree.specs.declared.expressions.Expr.{Expr}
use Rattle.f_tree.specs.declared.statements.AuxiliaryKind.{AuxiliaryKind}
use Rattle.f_tree.specs.declared.statements.Body as whole
use Rattle.f_tree.specs.declared.statements.Body.{Body, IfOne', more_of-Body, end_of-Body}
use Rattle.f_tree.specs.declared.statements.Body.TheVariants as body
use Rattle.f_tree.specs.declared.statements.CommonGroup.{CommonGroup}
use Rattle.f_tree.specs.declared.statements.Control.{Control}
use Rattle.f_tree.specs.declared.statements.DataGroup.{DataGroup}
use Rattle.f_tree.specs.declared.statements.Declarator.{Declarator}
use Rattle.f_tree.specs.declared.statements.Direction.{Direction}
use Rattle.f_tree.specs.declared.statements.DummyArgument.{DummyArgument}
use Rattle.f_tree.specs.declared.statements.EquivalenceGroup.{EquivalenceGroup}
use Rattle.f_tree.specs.declared.statements.ListItem.{ListItem}
use Rattle.f_tree.specs.declared.statements.ListItem.TheVariants as listed
use Rattle.f_tree.specs.declared.statements.LoopControl.{LoopControl}
use Rattle.f_tree.specs.declared.statements.TypeSpec.{TypeSpec}
use Rattle.f_tree.specs.Folds.{fold_item, folds_opened}
use Rattle.translated_forms.specs.TranslatedForms.{is_number, layer_single, is_listed, layer_form}
use Rattle.translated_files.specs.TranslatedFiles.{layer_unit_form, is_translated_form}

pub single-Item : (e : Expr) → fold_item layer_single (listed.Item e) ≡ true
unfolding folds_opened layer_single
single-Item e = refl

pub single-Loop : (items : List ListItem) (control : LoopControl) → fold_item layer_single (listed.Loop items control) ≡ false
unfolding folds_opened layer_single
single-Loop items control = refl

pub ruleset item_forms = (single-Item, single-Loop)

pub form-Declare : (spec : TypeSpec) (items : List Declarator) → is_translated_form (body.Declare spec items) ≡ is_number spec.basic
unfolding folds_opened is_translated_form layer_unit_form layer_form
form-Declare spec items = refl

pub form-Common : (groups : List CommonGroup) → is_translated_form (body.Common groups) ≡ false
unfolding folds_opened is_translated_form layer_unit_form layer_form
form-Common groups = refl

pub form-Equivalence : (groups : List EquivalenceGroup) → is_translated_form (body.Equivalence groups) ≡ false
unfolding folds_opened is_translated_form layer_unit_form layer_form
form-Equivalence groups = refl

pub form-Init : (groups : List DataGroup) → is_translated_form (body.Init groups) ≡ false
unfolding folds_opened is_translated_form layer_unit_form layer_form
form-Init groups = refl

pub form-Entry : (x : Bytes) (dummies : List DummyArgument) → is_translated_form (body.Entry x dummies) ≡ false
unfolding folds_opened is_translated_form layer_unit_form layer_form
form-Entry x dummies = refl

pub form-IfOne : (e : Expr) (b : Body) → is_translated_form (body.IfOne e b) ≡ is_translated_form b
unfolding folds_opened is_translated_form layer_unit_form layer_form
form-IfOne e b = refl

pub form-Transfer : (way : Direction) (controls : List Control) (items : List ListItem) → is_translated_form (body.Transfer way controls items) ≡ is_listed way controls items
unfolding folds_opened is_translated_form layer_unit_form layer_form
form-Transfer way controls items = refl

pub form-Auxiliary : (which : AuxiliaryKind) (controls : List Control) → is_translated_form (body.Auxiliary which controls) ≡ false
unfolding folds_opened is_translated_form layer_unit_form layer_form
form-Auxiliary which controls = refl

pub form-Include : (name : Bytes) → is_translated_form (body.Include name) ≡ false
unfolding folds_opened is_translated_form layer_unit_form layer_form
form-Include name = refl

pub ruleset body_forms = (form-Declare, form-Common, form-Equivalence, form-Init, form-Entry, form-IfOne, form-Transfer, form-Auxiliary, form-Include)

-- each other form is translated
pub form-other : (b : Body)
    → ((spec : TypeSpec) (items : List Declarator) → b ≡ body.Declare spec items → ⊥)
    → ((groups : List CommonGroup) → b ≡ body.Common groups → ⊥)
    → ((groups : List EquivalenceGroup) → b ≡ body.Equivalence groups → ⊥)
    → ((groups : List DataGroup) → b ≡ body.Init groups → ⊥)
    → ((x : Bytes) (dummies : List DummyArgument) → b ≡ body.Entry x dummies → ⊥)
    → ((which : AuxiliaryKind) (controls : List Control) → b ≡ body.Auxiliary which controls → ⊥)
    → ((name : Bytes) → b ≡ body.Include name → ⊥)
    → ((e : Expr) (inner : Body) → b ≡ body.IfOne e inner → ⊥)
    → ((way : Direction) (controls : List Control) (items : List ListItem) → b ≡ body.Transfer way controls items → ⊥)
    → true ≡ is_translated_form b
unfolding is_translated_form layer_unit_form layer_form folds_opened
form-other (whole.Declare spec items) h0 h1 h2 h3 h4 h5 h6 h7 h8 = absurd (h0 spec items refl)
form-other (whole.Common groups) h0 h1 h2 h3 h4 h5 h6 h7 h8 = absurd (h1 groups refl)
form-other (whole.Equivalence groups) h0 h1 h2 h3 h4 h5 h6 h7 h8 = absurd (h2 groups refl)
form-other (whole.Init groups) h0 h1 h2 h3 h4 h5 h6 h7 h8 = absurd (h3 groups refl)
form-other (whole.Entry x dummies) h0 h1 h2 h3 h4 h5 h6 h7 h8 = absurd (h4 x dummies refl)
form-other (whole.Auxiliary which controls) h0 h1 h2 h3 h4 h5 h6 h7 h8 = absurd (h5 which controls refl)
form-other (whole.Include name) h0 h1 h2 h3 h4 h5 h6 h7 h8 = absurd (h6 name refl)
form-other (IfOne' e s (more_of-Body b end_of-Body)) h0 h1 h2 h3 h4 h5 h6 h7 h8 = absurd (h7 e b refl)
form-other (whole.Transfer way controls items) h0 h1 h2 h3 h4 h5 h6 h7 h8 = absurd (h8 way controls items refl)
form-other _ h0 h1 h2 h3 h4 h5 h6 h7 h8 = refl
