-- The variables and arrays of places, form by form and list by list.
use Rattle.std.specs.Prelude.{◌≡◌, ℕ, ℤ, Bool, List, [], ◌∷◌, ◌++◌, map, Option, Some, None}
use Rattle.std.proofs.Common.{refl, sym, ap, ◌∙◌}
use Rattle.std.proofs.lemmas.List.{append-nil, map-append}
use Rattle.f_tree.specs.Values.{Bytes}
use Rattle.f_tree.specs.declared.expressions.BinaryOp.{BinaryOp}
use Rattle.f_tree.specs.declared.expressions.Expr.{Expr}
use Rattle.f_tree.specs.declared.expressions.Expr as tree
use Rattle.f_tree.specs.declared.statements.ListItem.{ListItem}
use Rattle.f_tree.specs.declared.statements.ListItem.TheVariants as item
use Rattle.f_tree.specs.declared.statements.ListItem.TheBlock as items
use Rattle.f_tree.specs.declared.statements.LoopControl.{LoopControl}
use Rattle.f_tree.specs.declared.statements.DataGroup.{DataGroup}
use Rattle.f_tree.specs.declared.statements.EquivalenceGroup.{EquivalenceGroup}
use Rattle.f_tree.specs.Folds.{fold_item, fold_items, folds_opened}
use Rattle.declaration_rows.specs.GivenRows as rows
use Rattle.declaration_rows.specs.GivenRows.{Given, Gift, given, layer_owners, owners, owners_of, joined_owners, layer_item_owners, owners_in, data_owners, tied_owners}

pub owners-Name : (x : Bytes) → owners (tree.Name x) ≡ x ∷ []
unfolding folds_opened owners layer_owners
owners-Name x = refl

pub owners-Apply : (x : Bytes) (es : List Expr) → owners (tree.Apply x es) ≡ x ∷ []
unfolding folds_opened owners layer_owners
owners-Apply x es = refl

pub owners-Part : (e : Expr) (from to : Option Expr) → owners (tree.Part e from to) ≡ owners e
unfolding folds_opened owners layer_owners
owners-Part e None None = refl
owners-Part e None (Some b) = refl
owners-Part e (Some a) None = refl
owners-Part e (Some a) (Some b) = refl

pub owners-Int : (z : ℤ) → owners (tree.Int z) ≡ []
unfolding folds_opened owners layer_owners
owners-Int z = refl

pub owners-Logical : (b : Bool) → owners (tree.Logical b) ≡ []
unfolding folds_opened owners layer_owners
owners-Logical b = refl

pub owners-Text : (cs : Bytes) → owners (tree.Text cs) ≡ []
unfolding folds_opened owners layer_owners
owners-Text cs = refl

pub owners-AltReturn : (label : ℕ) → owners (tree.AltReturn label) ≡ []
unfolding folds_opened owners layer_owners
owners-AltReturn label = refl

pub owners-Bound : (k : ℕ) → owners (tree.Bound k) ≡ []
unfolding folds_opened owners layer_owners
owners-Bound k = refl

pub owners-Minus : (e : Expr) → owners (tree.Minus e) ≡ []
unfolding folds_opened owners layer_owners
owners-Minus e = refl

pub owners-Plus : (e : Expr) → owners (tree.Plus e) ≡ []
unfolding folds_opened owners layer_owners
owners-Plus e = refl

pub owners-Not : (e : Expr) → owners (tree.Not e) ≡ []
unfolding folds_opened owners layer_owners
owners-Not e = refl

pub owners-Paren : (e : Expr) → owners (tree.Paren e) ≡ []
unfolding folds_opened owners layer_owners
owners-Paren e = refl

pub owners-Binary : (op : BinaryOp) (a b : Expr) → owners (tree.Binary op a b) ≡ []
unfolding folds_opened owners layer_owners
owners-Binary op a b = refl

pub owners-Bind : (es : List Expr) (e : Expr) → owners (tree.Bind es e) ≡ []
unfolding folds_opened owners layer_owners
owners-Bind es e = refl

pub ruleset owner_forms = (owners-Name, owners-Apply, owners-Part, owners-Int, owners-Logical, owners-Text, owners-AltReturn, owners-Bound, owners-Minus, owners-Plus, owners-Not, owners-Paren, owners-Binary, owners-Bind)

row-owners : (is : List ListItem) → joined_owners (fold_items layer_item_owners (items.hidden-the_row-ListItem-0 is)) ≡ owners_in is
unfolding folds_opened joined_owners owners_in Rattle.f_tree.specs.declared.statements.ListItem.TheBlock.hidden-the_row-ListItem-0
row-owners [] = refl
row-owners (i ∷ is) = ap (λ xs. fold_item layer_item_owners i ++ xs) (row-owners is)

pub item-Item : (e : Expr) → owners_in (item.Item e ∷ []) ≡ owners e
unfolding folds_opened owners_in layer_item_owners
item-Item e = append-nil (owners e)

pub item-Loop : (is : List ListItem) (control : LoopControl) → owners_in (item.Loop is control ∷ []) ≡ owners_in is
unfolding folds_opened owners_in layer_item_owners Rattle.f_tree.specs.declared.statements.ListItem.TheBlock.hidden-the_row-ListItem-0
item-Loop is control = append-nil (joined_owners (fold_items layer_item_owners (items.hidden-the_row-ListItem-0 is))) ∙ row-owners is

-- list by list, with what is given
pub owners_step : (g : Gift) (e : Expr) (es : List Expr) → map (given g) (owners_of (e ∷ es)) ≡ map (given g) (owners e) ++ map (given g) (owners_of es)
unfolding owners_of
owners_step g e es = map-append (given g) (owners e) (owners_of es)

pub owners_end : (g : Gift) → map (given g) (owners_of []) ≡ []
unfolding owners_of
owners_end g = refl

pub items_step : (i : ListItem) (is : List ListItem) → map (given rows.DataOf) (owners_in (i ∷ is)) ≡ map (given rows.DataOf) (owners_in (i ∷ [])) ++ map (given rows.DataOf) (owners_in is)
unfolding owners_in
items_step i is =
    map-append (given rows.DataOf) (fold_item layer_item_owners i) (owners_in is)
    ∙ ap (λ xs. map (given rows.DataOf) xs ++ map (given rows.DataOf) (owners_in is)) (sym (append-nil (fold_item layer_item_owners i)))

pub items_end : map (given rows.DataOf) (owners_in []) ≡ []
unfolding owners_in
items_end = refl

pub ties_step : (g : EquivalenceGroup) (gs : List EquivalenceGroup) → map (given rows.EquivalencedOf) (tied_owners (g ∷ gs)) ≡ map (given rows.EquivalencedOf) (owners_of g.places) ++ map (given rows.EquivalencedOf) (tied_owners gs)
unfolding tied_owners
ties_step g gs = map-append (given rows.EquivalencedOf) (owners_of g.places) (tied_owners gs)

pub ties_end : map (given rows.EquivalencedOf) (tied_owners []) ≡ []
unfolding tied_owners
ties_end = refl

pub data_step : (g : DataGroup) (gs : List DataGroup) → map (given rows.DataOf) (data_owners (g ∷ gs)) ≡ map (given rows.DataOf) (owners_in g.places) ++ map (given rows.DataOf) (data_owners gs)
unfolding data_owners
data_step g gs = map-append (given rows.DataOf) (owners_in g.places) (data_owners gs)

pub data_end : map (given rows.DataOf) (data_owners []) ≡ []
unfolding data_owners
data_end = refl
