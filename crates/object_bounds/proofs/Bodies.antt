-- The strings of the statements of a unit's function are the texts of its STOP statements.
use Rattle.std.specs.Prelude.{◌≡◌, ℕ, zero, suc, ◌≤◌, Bool, true, false, ℤ, List, [], ◌∷◌, ◌++◌, length, drop, Option, Some, None, option_and_then, if◌then◌else◌}
use Rattle.std.proofs.Common.{refl, ap, subst, arith}
use Rattle.step_bounds.specs.translated_files.l_core.Steps.{Step}
use Rattle.step_bounds.specs.translated_files.c_tree.declared.expression.CExpr.{CExpr}
use Rattle.step_bounds.specs.translated_files.c_tree.declared.expression.CExpr.TheVariants as expr
use Rattle.step_bounds.specs.translated_files.c_tree.FlatForm.{Body, with_return, ends, body_of_all, whole_body}
use Rattle.step_bounds.specs.translated_files.c_tree.declared.statement.CStmt.{CStmt}
use Rattle.step_bounds.specs.translated_files.main_translation.Outlined.{returns_last, if_returned}
use Rattle.step_bounds.specs.translated_files.named_units.item_emission.NamedEmission.{Knowledge, Kinds, value_expr, item_step}
use Rattle.step_bounds.specs.translated_files.named_units.named_items.declared.item.Item.{Item}
use Rattle.step_bounds.specs.translated_files.named_units.named_items.declared.item.Item.TheVariants as item
use Rattle.step_bounds.specs.translated_files.named_units.named_items.Items.{assign_by}
use Rattle.step_bounds.specs.translated_files.named_units.named_items.Layouts.{Layout}
use Rattle.step_bounds.specs.translated_files.named_units.named_items.Structured.{structured}
use Rattle.step_bounds.specs.translated_files.named_units.named_mains.NamedMains.{item_ahead, items_from, statements_of}
use Rattle.step_bounds.specs.translated_files.named_units.unit_item_laws.AgreeingUnits.{bound_step}
use Rattle.step_bounds.specs.translated_files.unit_file.UnitFile.{KeptBound, bound_name}
use Rattle.step_bounds.specs.translated_files.unit_translation.UnitContents.{LoweredUnit, bounds_kept, whole_text}
use Rattle.step_bounds.specs.translated_files.unit_translation.UnitFlow.{kind_before, are_in_place}
use Rattle.step_bounds.specs.translated_files.named_units.NamedUnits.{known_for, layout_for, bound_items_from, items_behind, named_items_of, named_body_of}
use Rattle.built_strings.specs.BuiltStrings.{texts_bytes, expression_bytes, item_bytes, items_bytes, EachStructureHasItsStrings}
use Rattle.emitted_strings.specs.EmittedStrings.{EachItemHasTheStringOfItsStep}
use Rattle.emitted_strings.proofs.PlainExpressions.{Plain, Bare, name_plain, value_bare}
use Rattle.lowered_objects.specs.FewObjects.{strings_bytes}

record AreAhead (x : Option Item) (xs : Option (List Item)) (items : List Item) : Type 0 where
  first : Item
  later : List Item
  first_is : x ≡ Some first
  later_are : xs ≡ Some later
  all : first ∷ later ≡ items

ahead_of : (x : Option Item) (xs : Option (List Item)) (items : List Item) → item_ahead x xs ≡ Some items → AreAhead x xs items
unfolding item_ahead
ahead_of (Some first) (Some later) items h = record { first = first; later = later; first_is = refl; later_are = refl; all = (let same : first ∷ later ≡ items = cc in same) }
ahead_of (Some first) None items h = absurd (cc)
ahead_of None xs items h = absurd (cc)

items_within : EachItemHasTheStringOfItsStep → (known : Knowledge) (kinds : ℕ → Kinds) (n : ℕ) (steps : List Step) (items : List Item) → items_from known kinds n steps ≡ Some items → items_bytes items ≤ strings_bytes steps
unfolding items_from items_bytes strings_bytes
items_within each known kinds n [] items h = subst (λ (xs : List Item). items_bytes xs ≤ 0) (let same : [] ≡ items = cc in same) (omega arith)
items_within each known kinds n (st ∷ later) items h =
    let a = ahead_of (item_step known (kinds n) n st) (items_from known kinds (suc n) later) items h in
    let one = each known (kinds n) n st a.first a.first_is in
    let more = items_within each known kinds (suc n) later a.later a.later_are in
    subst (λ (xs : List Item). items_bytes xs ≤ strings_bytes (st ∷ later)) a.all (omega (arith, one, more))

-- an item by which a bound is kept has none
no_bytes : (e : CExpr) → Plain e → expression_bytes e ≡ 0
unfolding expression_bytes texts_bytes
no_bytes e h = ap texts_bytes h

assigned_bytes : (a : CExpr) (y : Option CExpr) (i : Item) → Plain a → Bare y → assign_by (Some a) y ≡ Some i → item_bytes i ≤ 0
unfolding assign_by item_bytes
assigned_bytes a None i h g is = absurd (cc)
assigned_bytes a (Some b) i h g is =
    let one = no_bytes a h in
    let other = no_bytes b g in
    subst (λ (x : Item). item_bytes x ≤ 0) (let same : item.Assign a b ≡ i = cc in same) (omega (arith, one, other))

bound_bytes : (known : Knowledge) (one : KeptBound) (item : Item) → bound_step known one ≡ Some item → item_bytes item ≤ 0
unfolding bound_step
bound_bytes known one item is = assigned_bytes (expr.Name (bound_name one)) (value_expr known one.value) item (name_plain (bound_name one)) (value_bare known one.value) is

bounds_within : (known : Knowledge) (bounds : List KeptBound) (found : Option (List Item)) (most : ℕ) → ((later : List Item) → found ≡ Some later → items_bytes later ≤ most) → (items : List Item) → bound_items_from known bounds found ≡ Some items
    → items_bytes items ≤ most
unfolding bound_items_from items_bytes
bounds_within known [] found most few items h = few items h
bounds_within known (one ∷ bounds) found most few items h =
    let a = ahead_of (bound_step known one) (bound_items_from known bounds found) items h in
    let own = bound_bytes known one a.first a.first_is in
    let more = bounds_within known bounds found most few a.later a.later_are in
    subst (λ (xs : List Item). items_bytes xs ≤ most) a.all (omega (arith, own, more))

-- the steps behind others have no more than with these
behind_within : (first : ℕ) (steps : List Step) → strings_bytes (drop first steps) ≤ strings_bytes steps
unfolding strings_bytes
behind_within zero steps = omega arith
behind_within (suc first) [] = omega arith
behind_within (suc first) (st ∷ steps) = let more = behind_within first steps in omega (arith, more)

whole_items_within : EachItemHasTheStringOfItsStep → (known : Knowledge) (kinds : ℕ → Kinds) (bounds : List KeptBound) (steps : List Step) (items : List Item) → items_behind known kinds bounds steps ≡ Some items → items_bytes items ≤ strings_bytes steps
unfolding items_behind
whole_items_within each known kinds bounds steps items h =
    bounds_within known bounds (items_from known kinds (length bounds) (drop (length bounds) steps)) (strings_bytes steps)
    (λ later from. (let own = items_within each known kinds (length bounds) (drop (length bounds) steps) later from in let less = behind_within (length bounds) steps in omega (arith, own, less))) items h

record HasBody (constants : List ℤ) (all : List LoweredUnit) (u : LoweredUnit) (body : List CStmt) : Type 0 where
  items : List Item
  emitted : named_items_of constants all u ≡ Some items
  statements : structured (layout_for (whole_text u)) (length items) 0 items ≡ Some body

returned_by : (ss body : List CStmt) → if_returned ss ≡ Some body → ss ≡ body
unfolding if_returned
returned_by ss body h = by (returns_last ss) h
  where
    by : (b : Bool) → (if b then Some ss else None) ≡ Some body → ss ≡ body
    by true g = cc
    by false g = absurd (cc)

statements_by : (body : List CStmt) (found : Option (List CStmt)) → option_and_then if_returned found ≡ Some body → found ≡ Some body
statements_by body (Some ss) h = ap Some (returned_by ss body h)
statements_by body None h = absurd (cc)

structured_by : (layout : Layout) (items : List Item) (body : List CStmt) → statements_of layout items ≡ Some body → structured layout (length items) 0 items ≡ Some body
unfolding statements_of
structured_by layout items body h = statements_by body (structured layout (length items) 0 items) h

items_by : (constants : List ℤ) (all : List LoweredUnit) (u : LoweredUnit) (body : List CStmt) (found : Option (List Item)) → named_items_of constants all u ≡ found → option_and_then (statements_of (layout_for (whole_text u))) found ≡ Some body
    → HasBody constants all u body
items_by constants all u body (Some items) is h = record { items = items; emitted = is; statements = structured_by (layout_for (whole_text u)) items body h }
items_by constants all u body None is h = absurd (cc)

has_body : (constants : List ℤ) (all : List LoweredUnit) (u : LoweredUnit) (body : List CStmt) → named_body_of constants all u ≡ Some body → HasBody constants all u body
unfolding named_body_of
has_body constants all u body h = by (are_in_place (whole_text u) 0 (whole_text u).steps) h
  where
    by : (b : Bool) → (if b then option_and_then (statements_of (layout_for (whole_text u))) (named_items_of constants all u) else None) ≡ Some body → HasBody constants all u body
    by true g = items_by constants all u body (named_items_of constants all u) refl g
    by false g = absurd (cc)

-- a return behind the statements has none
none_behind : (texts : List (List ℕ)) → texts_bytes (texts ++ []) ≤ texts_bytes texts
unfolding texts_bytes
none_behind [] = omega arith
none_behind (text ∷ later) = let more = none_behind later in omega (arith, more)

returning : (b : Bool) (x : Body) → texts_bytes (with_return b x).items.strings ≤ texts_bytes x.items.strings
returning true x = omega arith
returning false x = none_behind x.items.strings

whole_within : (ss : List CStmt) → texts_bytes (whole_body ss).items.strings ≤ texts_bytes (body_of_all ss).items.strings
whole_within ss = returning (ends ss) (body_of_all ss)

pub body_within : EachStructureHasItsStrings → EachItemHasTheStringOfItsStep → (constants : List ℤ) (all : List LoweredUnit) (u : LoweredUnit) (body : List CStmt) → named_body_of constants all u ≡ Some body
    → texts_bytes (whole_body body).items.strings ≤ strings_bytes (whole_text u).steps
body_within built each constants all u body h =
    let made = has_body constants all u body h in
    let own = built (layout_for (whole_text u)) (length made.items) 0 made.items body made.statements in
    let emitted = whole_items_within each (known_for constants all u) (kind_before (whole_text u)) (bounds_kept u.unit) (whole_text u).steps made.items made.emitted in
    let whole = whole_within body in
    omega (arith, own, emitted, whole)
