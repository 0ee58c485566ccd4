-- Forms of statements in their places.
use Rattle.std.specs.Prelude.{◌≡◌, true, false, List, Option}
use Rattle.std.proofs.Common.{refl}
use Rattle.f_tree.specs.Values.{Bytes}
use Rattle.f_tree.specs.declared.expressions.Expr.{Expr}
use Rattle.f_tree.specs.declared.statements.Body.{Body}
use Rattle.f_tree.specs.declared.statements.Body.TheVariants as body
use Rattle.f_tree.specs.declared.statements.Body as whole
use Rattle.f_tree.specs.declared.statements.Body.{IfOne', more_of-Body}
use Rattle.f_tree.specs.Folds.{folds_opened, layer_of}
use Rattle.f_tree.specs.declared.statements.DummyArgument.{DummyArgument}
use Rattle.f_tree.specs.declared.statements.ImplicitGroup.{ImplicitGroup}
use Rattle.f_tree.specs.declared.statements.TypeSpec.{TypeSpec}
use Rattle.f_tree.specs.declared.statements.Declarator.{Declarator}
use Rattle.f_tree.specs.declared.statements.ArrayDeclarator.{ArrayDeclarator}
use Rattle.f_tree.specs.declared.statements.CommonGroup.{CommonGroup}
use Rattle.f_tree.specs.declared.statements.EquivalenceGroup.{EquivalenceGroup}
use Rattle.f_tree.specs.declared.statements.ConstantDefinition.{ConstantDefinition}
use Rattle.f_tree.specs.declared.statements.SavedItem.{SavedItem}
use Rattle.f_tree.specs.declared.statements.DataGroup.{DataGroup}
use Rattle.f_tree.specs.declared.statements.Body.{end_of-Body}
use Rattle.declaration_rows.specs.OrderRows.{is_implicit_none, is_implicit, layer_returns, returns, stands_in_block_data}

pub implicit_none-ImplicitNone : is_implicit_none body.ImplicitNone ≡ true
unfolding is_implicit_none folds_opened
implicit_none-ImplicitNone = refl

pub implicit_none-other : (b : Body) → (b ≡ body.ImplicitNone → ⊥) → false ≡ is_implicit_none b
unfolding is_implicit_none layer_of
implicit_none-other whole.ImplicitNone h0 = absurd (h0 refl)
implicit_none-other (IfOne' e s (more_of-Body b r)) h0 = refl
implicit_none-other _ h0 = refl

pub ruleset implicit_none_other = (implicit_none-ImplicitNone, implicit_none-other)

pub implicit-ImplicitNone : is_implicit body.ImplicitNone ≡ true
unfolding is_implicit folds_opened
implicit-ImplicitNone = refl

pub implicit-Implicit : (groups : List ImplicitGroup) → is_implicit (body.Implicit groups) ≡ true
unfolding is_implicit folds_opened
implicit-Implicit groups = refl

pub implicit-other : (b : Body) → (b ≡ body.ImplicitNone → ⊥) → ((groups : List ImplicitGroup) → b ≡ body.Implicit groups → ⊥) → false ≡ is_implicit b
unfolding is_implicit layer_of
implicit-other whole.ImplicitNone h0 h1 = absurd (h0 refl)
implicit-other (whole.Implicit groups) h0 h1 = absurd (h1 groups refl)
implicit-other (IfOne' e s (more_of-Body b r)) h0 h1 = refl
implicit-other _ h0 h1 = refl

pub ruleset implicit_other = (implicit-ImplicitNone, implicit-Implicit, implicit-other)

pub returns-Return : (e : Option Expr) → returns (body.Return e) ≡ true
unfolding returns layer_returns folds_opened
returns-Return e = refl

pub returns-IfOne : (e : Expr) (b : Body) → returns (body.IfOne e b) ≡ returns b
unfolding returns layer_returns folds_opened
returns-IfOne e b = refl

pub returns-other : (b : Body) → ((e : Option Expr) → b ≡ body.Return e → ⊥) → ((e : Expr) (inner : Body) → b ≡ body.IfOne e inner → ⊥) → false ≡ returns b
unfolding returns layer_returns folds_opened
returns-other (whole.Return e) h0 h1 = absurd (h0 e refl)
returns-other (IfOne' e s (more_of-Body b end_of-Body)) h0 h1 = absurd (h1 e b refl)
returns-other _ h0 h1 = refl

pub ruleset returns_forms = (returns-Return, returns-IfOne, returns-other)

pub block_data-Declare : (spec : TypeSpec) (items : List Declarator) → stands_in_block_data (body.Declare spec items) ≡ true
unfolding stands_in_block_data folds_opened
block_data-Declare spec items = refl

pub block_data-Dimension : (items : List ArrayDeclarator) → stands_in_block_data (body.Dimension items) ≡ true
unfolding stands_in_block_data folds_opened
block_data-Dimension items = refl

pub block_data-Common : (groups : List CommonGroup) → stands_in_block_data (body.Common groups) ≡ true
unfolding stands_in_block_data folds_opened
block_data-Common groups = refl

pub block_data-Equivalence : (groups : List EquivalenceGroup) → stands_in_block_data (body.Equivalence groups) ≡ true
unfolding stands_in_block_data folds_opened
block_data-Equivalence groups = refl

pub block_data-Implicit : (groups : List ImplicitGroup) → stands_in_block_data (body.Implicit groups) ≡ true
unfolding stands_in_block_data folds_opened
block_data-Implicit groups = refl

pub block_data-ImplicitNone : stands_in_block_data body.ImplicitNone ≡ true
unfolding stands_in_block_data folds_opened
block_data-ImplicitNone = refl

pub block_data-Parameter : (items : List ConstantDefinition) → stands_in_block_data (body.Parameter items) ≡ true
unfolding stands_in_block_data folds_opened
block_data-Parameter items = refl

pub block_data-Save : (items : List SavedItem) → stands_in_block_data (body.Save items) ≡ true
unfolding stands_in_block_data folds_opened
block_data-Save items = refl

pub block_data-Init : (groups : List DataGroup) → stands_in_block_data (body.Init groups) ≡ true
unfolding stands_in_block_data folds_opened
block_data-Init groups = refl

pub block_data-Entry : (name : Bytes) (dummies : List DummyArgument) → stands_in_block_data (body.Entry name dummies) ≡ true
unfolding stands_in_block_data folds_opened
block_data-Entry name dummies = refl

pub block_data-Include : (name : Bytes) → stands_in_block_data (body.Include name) ≡ true
unfolding stands_in_block_data folds_opened
block_data-Include name = refl

pub block_data-End : stands_in_block_data body.End ≡ true
unfolding stands_in_block_data folds_opened
block_data-End = refl

pub block_data-other : (b : Body) → ((spec : TypeSpec) (items : List Declarator) → b ≡ body.Declare spec items → ⊥) → ((items : List ArrayDeclarator) → b ≡ body.Dimension items → ⊥) → ((groups : List CommonGroup) → b ≡ body.Common groups → ⊥) → ((groups : List EquivalenceGroup) → b ≡ body.Equivalence groups → ⊥) → ((groups : List ImplicitGroup) → b ≡ body.Implicit groups → ⊥) → (b ≡ body.ImplicitNone → ⊥) → ((items : List ConstantDefinition) → b ≡ body.Parameter items → ⊥) → ((items : List SavedItem) → b ≡ body.Save items → ⊥) → ((groups : List DataGroup) → b ≡ body.Init groups → ⊥) → ((name : Bytes) (dummies : List DummyArgument) → b ≡ body.Entry name dummies → ⊥) → ((name : Bytes) → b ≡ body.Include name → ⊥) → (b ≡ body.End → ⊥) → false ≡ stands_in_block_data b
unfolding stands_in_block_data layer_of
block_data-other (whole.Declare spec items) h0 h1 h2 h3 h4 h5 h6 h7 h8 h9 h10 h11 = absurd (h0 spec items refl)
block_data-other (whole.Dimension items) h0 h1 h2 h3 h4 h5 h6 h7 h8 h9 h10 h11 = absurd (h1 items refl)
block_data-other (whole.Common groups) h0 h1 h2 h3 h4 h5 h6 h7 h8 h9 h10 h11 = absurd (h2 groups refl)
block_data-other (whole.Equivalence groups) h0 h1 h2 h3 h4 h5 h6 h7 h8 h9 h10 h11 = absurd (h3 groups refl)
block_data-other (whole.Implicit groups) h0 h1 h2 h3 h4 h5 h6 h7 h8 h9 h10 h11 = absurd (h4 groups refl)
block_data-other whole.ImplicitNone h0 h1 h2 h3 h4 h5 h6 h7 h8 h9 h10 h11 = absurd (h5 refl)
block_data-other (whole.Parameter items) h0 h1 h2 h3 h4 h5 h6 h7 h8 h9 h10 h11 = absurd (h6 items refl)
block_data-other (whole.Save items) h0 h1 h2 h3 h4 h5 h6 h7 h8 h9 h10 h11 = absurd (h7 items refl)
block_data-other (whole.Init groups) h0 h1 h2 h3 h4 h5 h6 h7 h8 h9 h10 h11 = absurd (h8 groups refl)
block_data-other (whole.Entry name dummies) h0 h1 h2 h3 h4 h5 h6 h7 h8 h9 h10 h11 = absurd (h9 name dummies refl)
block_data-other (whole.Include name) h0 h1 h2 h3 h4 h5 h6 h7 h8 h9 h10 h11 = absurd (h10 name refl)
block_data-other whole.End h0 h1 h2 h3 h4 h5 h6 h7 h8 h9 h10 h11 = absurd (h11 refl)
block_data-other (IfOne' e s (more_of-Body b r)) h0 h1 h2 h3 h4 h5 h6 h7 h8 h9 h10 h11 = refl
block_data-other _ h0 h1 h2 h3 h4 h5 h6 h7 h8 h9 h10 h11 = refl

pub ruleset block_data_other = (block_data-Declare, block_data-Dimension, block_data-Common, block_data-Equivalence, block_data-Implicit, block_data-ImplicitNone, block_data-Parameter, block_data-Save, block_data-Init, block_data-Entry, block_data-Include, block_data-End, block_data-other)
