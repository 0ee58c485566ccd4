-- What an expression says of lengths has the expression itself as its tree.
use Rattle.std.specs.Prelude.{◌≡◌, ℕ, Bool, true, false, ◌||◌, ◌&&◌, List, [], ◌∷◌, map, Option, Some, None, if◌then◌else◌}
use Rattle.std.proofs.Common.{refl, ap, ◌∙◌, subst}
use Rattle.f_tree.specs.declared.names.Class.{Class}
use Rattle.f_tree.specs.declared.names.Class.TheVariants as class
use Rattle.f_tree.specs.declared.expressions.BinaryOp.{BinaryOp}
use Rattle.f_tree.specs.declared.expressions.Expr.{Expr}
use Rattle.f_tree.specs.declared.expressions.Expr as tree
use Rattle.f_tree.specs.declared.expressions.Expr.TheOpen as expr
use Rattle.f_tree.specs.declared.expressions.Expr.TheBlock as block
use Rattle.f_tree.specs.declared.expressions.Expr.TheFolds.{ind-Expr}
use Rattle.f_tree.specs.Facts.{Attribute}
use Rattle.f_tree.specs.Folds.{fold_exprs, folds_opened}
use Rattle.f_tree.specs.Lines.{Naming}
use Rattle.f_tree.specs.Attributes.{Constant}
use Rattle.declaration_rows.specs.LengthRows.{Lengths, with_tree, over, trees, option_tree, named, name_lengths, applied_lengths, part_lengths, is_joining, is_relation, star_before_reference, joined_lengths, binary_lengths, paren_lengths, layer_lengths, lengths_of}

-- each step keeps the tree
name_tree : (a : Attribute) (l : Lengths) (k : Class) → (name_lengths (record a { class = k }) l).tree ≡ l.tree
unfolding name_lengths named
name_tree a l class.Constant = refl
name_tree a l _ = refl

applied_tree : (a : Attribute) (ls : List Lengths) (l : Lengths) (k : Class) → (applied_lengths (record a { class = k }) ls l).tree ≡ l.tree
unfolding applied_lengths named
applied_tree a ls l class.Intrinsic = refl
applied_tree a ls l class.Procedure = refl
applied_tree a ls l class.DummyProcedure = refl
applied_tree a ls l class.Result = refl
applied_tree a ls l class.StatementFunction = refl
applied_tree a ls l _ = refl

part_tree : (o : Option ℕ) (base l : Lengths) → (part_lengths o base l).tree ≡ l.tree
unfolding part_lengths
part_tree None base l = refl
part_tree (Some n) base l = refl

binary_tree : (c : Bool) (o : BinaryOp) (a b l : Lengths) →
    (if c then joined_lengths a b l else record l { misused = l.misused || (is_relation o && star_before_reference (a ∷ b ∷ [])) }).tree ≡ l.tree
unfolding joined_lengths
binary_tree true o a b l = refl
binary_tree false o a b l = refl

module _ (names : Naming) (cs : List Constant) where
  abbrev tree_of : Expr → Expr
  tree_of e = (lengths_of names cs e).tree

  abbrev IsKept : Expr → Type 0
  IsKept e = tree_of e ≡ e

  abbrev Kept : Type 0
  Kept = (e : Expr) × IsKept e

  row_trees : (es : List Expr) → trees (fold_exprs (layer_lengths names cs) (block.hidden-the_row-Expr-0 es)) ≡ map tree_of es
  unfolding folds_opened lengths_of trees Rattle.f_tree.specs.declared.expressions.Expr.TheBlock.hidden-the_row-Expr-0
  row_trees [] = refl
  row_trees (e ∷ es) = ap (λ (ts : List Expr). tree_of e ∷ ts) (row_trees es)

  all_kept : (fs : List Kept) → map tree_of (map (λ (f : Kept). f.0) fs) ≡ map (λ (f : Kept). f.0) fs
  all_kept [] = refl
  all_kept (f ∷ fs) = λ i. f.1 i ∷ all_kept fs i

  list_kept : (fs : List Kept) → trees (fold_exprs (layer_lengths names cs) (block.hidden-the_row-Expr-0 (map (λ (f : Kept). f.0) fs))) ≡ map (λ (f : Kept). f.0) fs
  list_kept fs = row_trees (map (λ (f : Kept). f.0) fs) ∙ all_kept fs

  kept_in : (y : expr.Expr-F Kept) → IsKept (tree.roll-Expr (tree.map-Expr Kept Expr (λ f. f.0) y))
  unfolding folds_opened lengths_of layer_lengths with_tree over option_tree paren_lengths binary_lengths Rattle.f_tree.specs.declared.expressions.Expr.TheBlock.hidden-the_row-Expr-0 tree.roll-Expr denote.Hole.Carrier.roll
  kept_in (expr.Int z) = refl
  kept_in (expr.Logical b) = refl
  kept_in (expr.Text t) = refl
  kept_in (expr.Name x) = name_tree (names x) (with_tree (tree.Name x)) (names x).class
  kept_in (expr.Apply x fs) = applied_tree (names x) _ _ (names x).class ∙ ap (tree.Apply x) (list_kept fs)
  kept_in (expr.Part f None None) = part_tree _ _ _ ∙ (λ i. tree.Part (f.1 i) None None)
  kept_in (expr.Part f None (Some g)) = part_tree _ _ _ ∙ (λ i. tree.Part (f.1 i) None (Some (g.1 i)))
  kept_in (expr.Part f (Some h) None) = part_tree _ _ _ ∙ (λ i. tree.Part (f.1 i) (Some (h.1 i)) None)
  kept_in (expr.Part f (Some h) (Some g)) = part_tree _ _ _ ∙ (λ i. tree.Part (f.1 i) (Some (h.1 i)) (Some (g.1 i)))
  kept_in (expr.Minus f) = ap tree.Minus f.1
  kept_in (expr.Plus f) = ap tree.Plus f.1
  kept_in (expr.Not f) = ap tree.Not f.1
  kept_in (expr.Paren f) = ap tree.Paren f.1
  kept_in (expr.Binary o f g) = binary_tree (is_joining o) o _ _ _ ∙ (λ i. tree.Binary o (f.1 i) (g.1 i))
  kept_in (expr.AltReturn label) = refl
  kept_in (expr.Bind fs f) = λ i. tree.Bind (list_kept fs i) (f.1 i)
  kept_in (expr.Bound k) = refl

  pub kept : (e : Expr) → IsKept e
  kept = ind-Expr IsKept (λ x y is. subst (λ (z : expr.Expr-F Expr). IsKept (tree.roll-Expr z)) is (kept_in y))
