-- The labels that the arguments of a CALL pass are those that are written among its operands.
use Rattle.std.specs.List.{list_all, flat_map}
use Rattle.std.specs.Prelude.{◌≡◌, ℕ, true, List, [], ◌∷◌, ◌++◌, Option, Some, None}
use Rattle.std.proofs.Common.{refl}
use Rattle.std.proofs.lemmas.Bool.{and_parts}
use Rattle.loop_marks.specs.l_core.f_tree.declared.names.Class.{Class}
use Rattle.loop_marks.specs.l_core.f_tree.declared.names.Class.TheVariants as class
use Rattle.loop_marks.specs.l_core.f_tree.declared.expressions.BinaryOp.{BinaryOp}
use Rattle.loop_marks.specs.l_core.f_tree.declared.expressions.BinaryOp.TheVariants as op
use Rattle.loop_marks.specs.l_core.f_tree.declared.expressions.Expr.{Expr, Int, Logical, Text, Name, Apply', Part', Minus', Plus', Not', Paren', Binary', AltReturn, Bind', Bound, more_of-Expr}
use Rattle.loop_marks.specs.l_core.f_tree.Folds.{fold_expr, fold_exprs}
use Rattle.loop_marks.specs.l_core.f_tree.Values.{Bytes, Datum, IsInt, IsLog, IsText, IsSpot, IsProc, IsLabel, Nothing}
use Rattle.loop_marks.specs.l_core.f_tree.Facts.{Attribute}
use Rattle.loop_marks.specs.l_core.f_tree.Terms.{Function, terms}
use Rattle.loop_marks.specs.l_core.f_tree.Reading.{Read, read, valued_only, placed, function_named, function_read, intrinsic_read, joined_read, name_read, applied_read, binary_read, layer_read}
use Rattle.loop_marks.specs.l_core.f_tree.Lines.{Naming, place_of, arguments_of}
use Rattle.loop_marks.specs.lowering.Statements.{label_written, labels_written}
use Rattle.statement_lowering.specs.expression_lowering.TableNames.{name_lowers, applied_lowers, all_lower}
use Rattle.translated_files.specs.translated_forms.LoweredForms.{layer_lowers, value_lowers}
use Rattle.kept_loops.specs.SourceLoops.{constant_label, layer_argument}

-- the labels that are written in what is read, as a value and as an argument
record Reads (r : Read) (labels : List ℕ) : Type 0 where
  value : label_written r.value ≡ labels
  actual : label_written r.actual ≡ labels

-- ## Names

name_passes : (x : Bytes) (a : Attribute) (c : Class) (d : Option Datum) → name_lowers c ≡ true → Reads (name_read x (record a { class = c; constant = d })) (constant_label c d)
unfolding label_written name_read valued_only placed constant_label name_lowers
name_passes x a class.Constant None h = record { value = refl; actual = refl }
name_passes x a class.Constant (Some (IsInt z)) h = record { value = refl; actual = refl }
name_passes x a class.Constant (Some (IsLog b)) h = record { value = refl; actual = refl }
name_passes x a class.Constant (Some (IsText cs)) h = record { value = refl; actual = refl }
name_passes x a class.Constant (Some (IsSpot p)) h = record { value = refl; actual = refl }
name_passes x a class.Constant (Some (IsProc y)) h = record { value = refl; actual = refl }
name_passes x a class.Constant (Some (IsLabel l)) h = record { value = refl; actual = refl }
name_passes x a class.Constant (Some Nothing) h = record { value = refl; actual = refl }
name_passes x a class.StatementFunction d h = absurd (cc)
name_passes x a class.Stored d h = record { value = refl; actual = refl }
name_passes x a class.Dummy d h = record { value = refl; actual = refl }
name_passes x a class.Result d h = record { value = refl; actual = refl }
name_passes x a class.Procedure d h = record { value = refl; actual = refl }
name_passes x a class.DummyProcedure d h = record { value = refl; actual = refl }
name_passes x a class.Intrinsic d h = record { value = refl; actual = refl }
name_passes x a class.Unit d h = record { value = refl; actual = refl }

-- ## Names with lists

intrinsic_passes : (x : Bytes) (a : Attribute) (rs : List Read) (f : Option Function) → Reads (intrinsic_read x a rs f) []
unfolding label_written intrinsic_read function_read valued_only
intrinsic_passes x a rs None = record { value = refl; actual = refl }
intrinsic_passes x a rs (Some f) = record { value = refl; actual = refl }

applied_passes : (x : Bytes) (a : Attribute) (rs : List Read) (c : Class) → applied_lowers x c ≡ true → Reads (applied_read x (record a { class = c }) rs) []
unfolding label_written applied_read applied_lowers function_read valued_only placed
applied_passes x a rs class.Intrinsic h = intrinsic_passes x (record a { class = class.Intrinsic }) rs (function_named x)
applied_passes x a rs class.StatementFunction h = absurd (cc)
applied_passes x a rs class.Constant h = record { value = refl; actual = refl }
applied_passes x a rs class.Stored h = record { value = refl; actual = refl }
applied_passes x a rs class.Dummy h = record { value = refl; actual = refl }
applied_passes x a rs class.Result h = record { value = refl; actual = refl }
applied_passes x a rs class.Procedure h = record { value = refl; actual = refl }
applied_passes x a rs class.DummyProcedure h = record { value = refl; actual = refl }
applied_passes x a rs class.Unit h = record { value = refl; actual = refl }

-- ## Operators

binary_passes : (o : BinaryOp) (r s : Read) → Reads (binary_read o r s) []
unfolding label_written binary_read valued_only joined_read
binary_passes op.Power r s = record { value = refl; actual = refl }
binary_passes op.Times r s = record { value = refl; actual = refl }
binary_passes op.Divide r s = record { value = refl; actual = refl }
binary_passes op.Plus r s = record { value = refl; actual = refl }
binary_passes op.Minus r s = record { value = refl; actual = refl }
binary_passes op.Concatenate r s = record { value = refl; actual = refl }
binary_passes op.Less r s = record { value = refl; actual = refl }
binary_passes op.LessOrEqual r s = record { value = refl; actual = refl }
binary_passes op.Equal r s = record { value = refl; actual = refl }
binary_passes op.NotEqual r s = record { value = refl; actual = refl }
binary_passes op.Greater r s = record { value = refl; actual = refl }
binary_passes op.GreaterOrEqual r s = record { value = refl; actual = refl }
binary_passes op.And r s = record { value = refl; actual = refl }
binary_passes op.Or r s = record { value = refl; actual = refl }
binary_passes op.Equivalent r s = record { value = refl; actual = refl }
binary_passes op.NotEquivalent r s = record { value = refl; actual = refl }

-- ## Expressions

tree_passes : (names : Naming) (e : Expr) → fold_expr (layer_lowers names) e ≡ true → Reads (fold_expr (layer_read names) e) (fold_expr (layer_argument names) e)
unfolding label_written fold_expr layer_read layer_argument layer_lowers valued_only placed
tree_passes names (Int z) h = record { value = refl; actual = refl }
tree_passes names (Logical b) h = record { value = refl; actual = refl }
tree_passes names (Text cs) h = record { value = refl; actual = refl }
tree_passes names (Name x) h = name_passes x (names x) (names x).class (names x).constant h
tree_passes names (Apply' x s row) h =
    applied_passes x (names x) (fold_exprs (layer_read names) row) (names x).class (and_parts (applied_lowers x (names x).class) (all_lower (fold_exprs (layer_lowers names) row)) h).0
tree_passes names (Part' s (more_of-Expr e r) from to) h = absurd (cc)
tree_passes names (Minus' s (more_of-Expr e r)) h = record { value = refl; actual = refl }
tree_passes names (Plus' s (more_of-Expr e r)) h = let is = tree_passes names e h in record { value = is.value; actual = is.value }
tree_passes names (Not' s (more_of-Expr e r)) h = record { value = refl; actual = refl }
tree_passes names (Paren' s (more_of-Expr e r)) h = let is = tree_passes names e h in record { value = is.value; actual = is.value }
tree_passes names (Binary' o s (more_of-Expr a r) t (more_of-Expr b q)) h = binary_passes o (fold_expr (layer_read names) a) (fold_expr (layer_read names) b)
tree_passes names (AltReturn l) h = record { value = refl; actual = refl }
tree_passes names (Bind' s row t (more_of-Expr e q)) h = absurd (cc)
tree_passes names (Bound k) h = absurd (cc)

argument_passes : (names : Naming) (e : Expr) → value_lowers names e ≡ true → label_written (place_of names e) ≡ fold_expr (layer_argument names) e
unfolding value_lowers place_of read
argument_passes names e h = (tree_passes names e h).actual

-- ## All arguments

pub arguments_pass : (names : Naming) (es : List Expr) → list_all (value_lowers names) es ≡ true → labels_written (terms (arguments_of names es)) ≡ flat_map (fold_expr (layer_argument names)) es
unfolding labels_written terms arguments_of
arguments_pass names [] h = refl
arguments_pass names (e ∷ es) h =
    let parts = and_parts (value_lowers names e) (list_all (value_lowers names) es) h in
    (λ i. argument_passes names e parts.0 i ++ arguments_pass names es parts.1 i)
