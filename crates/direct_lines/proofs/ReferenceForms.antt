-- Whether each form of an expression has a reference.
use Rattle.std.proofs.Common.{◌≡◌, ℕ, ℤ, Bool, true, false, ◌&&◌, ◌||◌, List, [], ◌∷◌, map, length, Option, Some, None, option_map, refl, ap, ◌∙◌}
use Rattle.std.proofs.lemmas.List.{length-map}
use Rattle.f_tree.specs.Values.{Bytes}
use Rattle.f_tree.specs.declared.expressions.BinaryOp.{BinaryOp}
use Rattle.f_tree.specs.declared.expressions.Expr.{Expr}
use Rattle.f_tree.specs.declared.expressions.Expr as tree
use Rattle.f_tree.specs.declared.expressions.Expr.TheBlock as block
use Rattle.f_tree.specs.Folds.{fold_exprs, folds_opened}
use Rattle.lowered_tree.specs.declared.pures.Function.{Function}
use Rattle.lowered_tree.specs.declared.pures.Function.TheVariants as function
use Rattle.lowered_tree.specs.Shapes.{function_of}
use Rattle.direct_lines.specs.References.{Known, any, if_written, is_text_length, is_reference, has_arguments, layer_refers, has_reference, applied_refers}

pub text-length : is_text_length (Some (function_of function.TextLength)) ≡ true
unfolding is_text_length
text-length = refl

pub other-length : (f : Function) → (f ≡ function.TextLength → ⊥) → is_text_length (Some (function_of f)) ≡ false
unfolding is_text_length
other-length function.TextLength other = absurd (other refl)
other-length _ other = refl

pub no-length : is_text_length None ≡ false
unfolding is_text_length
no-length = refl

row-refers : (known : Known) (es : List Expr) → fold_exprs (layer_refers known) (block.hidden-the_row-Expr-0 es) ≡ map (has_reference known) es
unfolding folds_opened has_reference Rattle.f_tree.specs.declared.expressions.Expr.TheBlock.hidden-the_row-Expr-0
row-refers known [] = refl
row-refers known (e ∷ es) = ap (λ bs. has_reference known e ∷ bs) (row-refers known es)

pub refers-Int : (known : Known) (z : ℤ) → has_reference known (tree.Int z) ≡ false
unfolding folds_opened has_reference layer_refers
refers-Int known z = refl

pub refers-Logical : (known : Known) (b : Bool) → has_reference known (tree.Logical b) ≡ false
unfolding folds_opened has_reference layer_refers
refers-Logical known b = refl

pub refers-Text : (known : Known) (cs : Bytes) → has_reference known (tree.Text cs) ≡ false
unfolding folds_opened has_reference layer_refers
refers-Text known cs = refl

pub refers-AltReturn : (known : Known) (label : ℕ) → has_reference known (tree.AltReturn label) ≡ false
unfolding folds_opened has_reference layer_refers
refers-AltReturn known label = refl

pub refers-Bound : (known : Known) (k : ℕ) → has_reference known (tree.Bound k) ≡ false
unfolding folds_opened has_reference layer_refers
refers-Bound known k = refl

pub refers-Name : (known : Known) (x : Bytes) → has_reference known (tree.Name x) ≡ known.stands x
unfolding folds_opened has_reference layer_refers
refers-Name known x = refl

pub refers-Apply : (known : Known) (x : Bytes) (es : List Expr) → has_reference known (tree.Apply x es) ≡ applied_refers known x es
unfolding folds_opened has_reference layer_refers applied_refers Rattle.f_tree.specs.declared.expressions.Expr.TheBlock.hidden-the_row-Expr-0
refers-Apply known x es =
    ap (λ bs. is_reference x (known.class x) || (has_arguments x (known.class x) (length bs) && any bs)) (row-refers known es)
    ∙ ap (λ n. is_reference x (known.class x) || (has_arguments x (known.class x) n && any (map (has_reference known) es))) (length-map es (has_reference known))

pub refers-Part : (known : Known) (e : Expr) (from to : Option Expr) →
    has_reference known (tree.Part e from to) ≡ has_reference known e || (if_written (option_map (has_reference known) from) || if_written (option_map (has_reference known) to))
unfolding folds_opened has_reference layer_refers
refers-Part known e None None = refl
refers-Part known e None (Some b) = refl
refers-Part known e (Some a) None = refl
refers-Part known e (Some a) (Some b) = refl

pub refers-Minus : (known : Known) (e : Expr) → has_reference known (tree.Minus e) ≡ has_reference known e
unfolding folds_opened has_reference layer_refers
refers-Minus known e = refl

pub refers-Plus : (known : Known) (e : Expr) → has_reference known (tree.Plus e) ≡ has_reference known e
unfolding folds_opened has_reference layer_refers
refers-Plus known e = refl

pub refers-Not : (known : Known) (e : Expr) → has_reference known (tree.Not e) ≡ has_reference known e
unfolding folds_opened has_reference layer_refers
refers-Not known e = refl

pub refers-Paren : (known : Known) (e : Expr) → has_reference known (tree.Paren e) ≡ has_reference known e
unfolding folds_opened has_reference layer_refers
refers-Paren known e = refl

pub refers-Binary : (known : Known) (op : BinaryOp) (a b : Expr) → has_reference known (tree.Binary op a b) ≡ has_reference known a || has_reference known b
unfolding folds_opened has_reference layer_refers
refers-Binary known op a b = refl

pub refers-Bind : (known : Known) (es : List Expr) (e : Expr) → has_reference known (tree.Bind es e) ≡ true
unfolding folds_opened has_reference layer_refers Rattle.f_tree.specs.declared.expressions.Expr.TheBlock.hidden-the_row-Expr-0
refers-Bind known es e = refl

pub ruleset reference_forms = (refers-Int, refers-Logical, refers-Text, refers-AltReturn, refers-Bound, refers-Name, refers-Apply, refers-Part, refers-Minus, refers-Plus, refers-Not, refers-Paren, refers-Binary, refers-Bind)
