-- The labels of each form of an expression.
use Rattle.std.specs.Prelude.{ℤ, Bool, true, false, Option, Some, None, option_map, if◌then◌else◌}
use Rattle.std.specs.Global.{Vec}
use Rattle.std.proofs.Common.{◌≡◌, ℕ, List, [], ◌∷◌, ◌++◌, map, refl, sym, ap, ◌∙◌}
use Rattle.std.proofs.lemmas.List.{append-nil}
use Rattle.f_tree.specs.declared.expressions.Expr as tree
use Rattle.f_tree.specs.declared.expressions.BinaryOp.{BinaryOp}
use Rattle.f_tree.specs.declared.expressions.Expr.{Expr}
use Rattle.f_tree.specs.declared.expressions.Expr.TheBlock as block
use Rattle.f_tree.specs.Folds.{fold_exprs, folds_opened}
use Rattle.f_tree.specs.Values.{Bytes}
use Rattle.loop_entries.specs.PassedLabels.{Told, name_labels, applied_labels, joined, layer_labels, labels_of}

row_labels : (told : Told) (es : List Expr) → fold_exprs (layer_labels told) (block.hidden-the_row-Expr-0 es) ≡ map (labels_of told) es
unfolding folds_opened labels_of Rattle.f_tree.specs.declared.expressions.Expr.TheBlock.hidden-the_row-Expr-0
row_labels told [] = refl
row_labels told (e ∷ es) = ap (λ ls. labels_of told e ∷ ls) (row_labels told es)

pub labels-Name : (told : Told) (x : Bytes) → labels_of told (tree.Name x) ≡ name_labels told x
unfolding folds_opened labels_of layer_labels
labels-Name told x = refl

pub labels-Apply : (told : Told) (x : Bytes) (es : List Expr) → labels_of told (tree.Apply x es) ≡ applied_labels told x (map (labels_of told) es)
unfolding folds_opened labels_of layer_labels Rattle.f_tree.specs.declared.expressions.Expr.TheBlock.hidden-the_row-Expr-0
labels-Apply told x es = ap (applied_labels told x) (row_labels told es)

pub labels-Plus : (told : Told) (e : Expr) → labels_of told (tree.Plus e) ≡ labels_of told e
unfolding folds_opened labels_of layer_labels
labels-Plus told e = refl

pub labels-Paren : (told : Told) (e : Expr) → labels_of told (tree.Paren e) ≡ labels_of told e
unfolding folds_opened labels_of layer_labels
labels-Paren told e = refl

pub labels-AltReturn : (told : Told) (label : ℕ) → labels_of told (tree.AltReturn label) ≡ label ∷ []
unfolding folds_opened labels_of layer_labels
labels-AltReturn told label = refl

pub labels-Bind : (told : Told) (es : List Expr) (e : Expr) → labels_of told (tree.Bind es e) ≡ joined (map (labels_of told) es) ++ labels_of told e
unfolding folds_opened labels_of layer_labels Rattle.f_tree.specs.declared.expressions.Expr.TheBlock.hidden-the_row-Expr-0
labels-Bind told es e = ap (λ ls. joined ls ++ labels_of told e) (row_labels told es)

-- a form that is no label adds none
pub nothing_added : (xs ys : List ℕ) → ys ≡ [] → xs ≡ xs ++ ys
nothing_added xs ys is = sym (append-nil xs) ∙ ap (λ zs. xs ++ zs) (sym is)

int_none : (told : Told) (z : ℤ) → labels_of told (tree.Int z) ≡ []
unfolding folds_opened labels_of layer_labels
int_none told z = refl

pub none-Int : (told : Told) (labels : List ℕ) (e : Expr) (z : ℤ) → e ≡ tree.Int z → labels ≡ labels ++ labels_of told e
none-Int told labels e z is = nothing_added labels (labels_of told e) (ap (labels_of told) is ∙ int_none told z)

logical_none : (told : Told) (b : Bool) → labels_of told (tree.Logical b) ≡ []
unfolding folds_opened labels_of layer_labels
logical_none told b = refl

pub none-Logical : (told : Told) (labels : List ℕ) (e : Expr) (b : Bool) → e ≡ tree.Logical b → labels ≡ labels ++ labels_of told e
none-Logical told labels e b is = nothing_added labels (labels_of told e) (ap (labels_of told) is ∙ logical_none told b)

text_none : (told : Told) (cs : Bytes) → labels_of told (tree.Text cs) ≡ []
unfolding folds_opened labels_of layer_labels
text_none told cs = refl

pub none-Text : (told : Told) (labels : List ℕ) (e : Expr) (cs : Bytes) → e ≡ tree.Text cs → labels ≡ labels ++ labels_of told e
none-Text told labels e cs is = nothing_added labels (labels_of told e) (ap (labels_of told) is ∙ text_none told cs)

part_none : (told : Told) (a : Expr) (from to : Option Expr) → labels_of told (tree.Part a from to) ≡ []
unfolding folds_opened labels_of layer_labels
part_none told a None None = refl
part_none told a None (Some d) = refl
part_none told a (Some c) None = refl
part_none told a (Some c) (Some d) = refl

pub none-Part : (told : Told) (labels : List ℕ) (e : Expr) (a : Expr) (from to : Option Expr) → e ≡ tree.Part a from to → labels ≡ labels ++ labels_of told e
none-Part told labels e a from to is = nothing_added labels (labels_of told e) (ap (labels_of told) is ∙ part_none told a from to)

minus_none : (told : Told) (a : Expr) → labels_of told (tree.Minus a) ≡ []
unfolding folds_opened labels_of layer_labels
minus_none told a = refl

pub none-Minus : (told : Told) (labels : List ℕ) (e : Expr) (a : Expr) → e ≡ tree.Minus a → labels ≡ labels ++ labels_of told e
none-Minus told labels e a is = nothing_added labels (labels_of told e) (ap (labels_of told) is ∙ minus_none told a)

not_none : (told : Told) (a : Expr) → labels_of told (tree.Not a) ≡ []
unfolding folds_opened labels_of layer_labels
not_none told a = refl

pub none-Not : (told : Told) (labels : List ℕ) (e : Expr) (a : Expr) → e ≡ tree.Not a → labels ≡ labels ++ labels_of told e
none-Not told labels e a is = nothing_added labels (labels_of told e) (ap (labels_of told) is ∙ not_none told a)

binary_none : (told : Told) (o : BinaryOp) (a b : Expr) → labels_of told (tree.Binary o a b) ≡ []
unfolding folds_opened labels_of layer_labels
binary_none told o a b = refl

pub none-Binary : (told : Told) (labels : List ℕ) (e : Expr) (o : BinaryOp) (a b : Expr) → e ≡ tree.Binary o a b → labels ≡ labels ++ labels_of told e
none-Binary told labels e o a b is = nothing_added labels (labels_of told e) (ap (labels_of told) is ∙ binary_none told o a b)

bound_none : (told : Told) (k : ℕ) → labels_of told (tree.Bound k) ≡ []
unfolding folds_opened labels_of layer_labels
bound_none told k = refl

pub none-Bound : (told : Told) (labels : List ℕ) (e : Expr) (k : ℕ) → e ≡ tree.Bound k → labels ≡ labels ++ labels_of told e
none-Bound told labels e k is = nothing_added labels (labels_of told e) (ap (labels_of told) is ∙ bound_none told k)

pub ruleset label_forms = (labels-Name, labels-Apply, labels-Plus, labels-Paren, labels-AltReturn, labels-Bind, none-Int, none-Logical, none-Text, none-Part, none-Minus, none-Not, none-Binary, none-Bound)

-- expressions one after the other
pub joined_step : (told : Told) (e : Expr) (es : List Expr) → joined (map (labels_of told) (e ∷ es)) ≡ labels_of told e ++ joined (map (labels_of told) es)
unfolding joined
joined_step told e es = refl

pub joined_none : (told : Told) → joined (map (labels_of told) []) ≡ []
unfolding joined
joined_none told = refl

-- a table with one function more
abbrev pub items_of : Vec ℕ → List ℕ
items_of labels = labels.items

pub labels_put : (b : Bool) (labels : Vec ℕ) (old new : Option (Vec ℕ)) → new ≡ (if b then Some labels else old)
    → option_map items_of new ≡ (if b then Some labels.items else option_map items_of old)
labels_put true labels old new put = ap (option_map items_of) put
labels_put false labels old new put = ap (option_map items_of) put
