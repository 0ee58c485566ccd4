-- What each form of a value stands for.
use Rattle.std.specs.Prelude.{◌≡◌, ℕ, List, [], ◌∷◌}
use Rattle.std.proofs.Common.{refl, ap}
use Rattle.f_tree.specs.Values.{Bytes}
use Rattle.l_core.specs.Pures as core
use Rattle.lowered_tree.specs.declared.pures.Literal.{Literal}
use Rattle.lowered_tree.specs.declared.pures.Prefix.{Prefix}
use Rattle.lowered_tree.specs.declared.pures.Operator.{Operator}
use Rattle.lowered_tree.specs.declared.pures.Function.{Function}
use Rattle.lowered_tree.specs.declared.pures.Pure.{Pure}
use Rattle.lowered_tree.specs.declared.pures.Pure as tree
use Rattle.lowered_tree.specs.declared.pures.Pure.TheBlock as block
use Rattle.lowered_tree.specs.Shapes.{datum_of, prefix_of, operator_of, function_of, pure_of, row_of, pures_of, shapes_opened}

row-pures : (ps : List Pure) → row_of (block.hidden-the_row-Pure-1 ps) ≡ pures_of ps
unfolding shapes_opened Rattle.lowered_tree.specs.declared.pures.Pure.TheBlock.hidden-the_row-Pure-1
row-pures [] = refl
row-pures (p ∷ ps) = ap (core.AndPure (pure_of p)) (row-pures ps)

pub pure-Constant : (d : Literal) → pure_of (tree.Constant d) ≡ core.Constant (datum_of d)
unfolding shapes_opened
pure-Constant d = refl

pub pure-Temporary : (k : ℕ) → pure_of (tree.Temporary k) ≡ core.Temporary k
unfolding shapes_opened
pure-Temporary k = refl

pub pure-Load : (p : Pure) → pure_of (tree.Load p) ≡ core.Load (pure_of p)
unfolding shapes_opened
pure-Load p = refl

pub pure-Name : (x : Bytes) → pure_of (tree.Name x) ≡ core.Name x
unfolding shapes_opened
pure-Name x = refl

pub pure-AllOf : (x : Bytes) → pure_of (tree.AllOf x) ≡ core.AllOf x
unfolding shapes_opened
pure-AllOf x = refl

pub pure-ElementOf : (x : Bytes) (ps : List Pure) → pure_of (tree.ElementOf x ps) ≡ core.ElementOf x (pures_of ps)
unfolding shapes_opened Rattle.lowered_tree.specs.declared.pures.Pure.TheBlock.hidden-the_row-Pure-1
pure-ElementOf x ps = ap (core.ElementOf x) (row-pures ps)

pub pure-FirstOf : (p : Pure) → pure_of (tree.FirstOf p) ≡ core.FirstOf (pure_of p)
unfolding shapes_opened
pure-FirstOf p = refl

pub pure-Substring : (x : Bytes) (p a b : Pure) → pure_of (tree.Substring x p a b) ≡ core.Substring x (pure_of p) (pure_of a) (pure_of b)
unfolding shapes_opened
pure-Substring x p a b = refl

pub pure-Concatenated : (ps : List Pure) → pure_of (tree.Concatenated ps) ≡ core.Concatenated (pures_of ps)
unfolding shapes_opened Rattle.lowered_tree.specs.declared.pures.Pure.TheBlock.hidden-the_row-Pure-1
pure-Concatenated ps = ap core.Concatenated (row-pures ps)

pub pure-Prefixed : (op : Prefix) (p : Pure) → pure_of (tree.Prefixed op p) ≡ core.Prefixed (prefix_of op) (pure_of p)
unfolding shapes_opened
pure-Prefixed op p = refl

pub pure-Operated : (op : Operator) (p q : Pure) → pure_of (tree.Operated op p q) ≡ core.Operated (operator_of op) (pure_of p) (pure_of q)
unfolding shapes_opened
pure-Operated op p q = refl

pub pure-Applied : (f : Function) (ps : List Pure) → pure_of (tree.Applied f ps) ≡ core.Applied (function_of f) (pures_of ps)
unfolding shapes_opened Rattle.lowered_tree.specs.declared.pures.Pure.TheBlock.hidden-the_row-Pure-1
pure-Applied f ps = ap (core.Applied (function_of f)) (row-pures ps)

pub pure-Chosen : (p a b : Pure) → pure_of (tree.Chosen p a b) ≡ core.Chosen (pure_of p) (pure_of a) (pure_of b)
unfolding shapes_opened
pure-Chosen p a b = refl

pub pures-none : pures_of [] ≡ core.NoPure
unfolding pures_of
pures-none = refl

pub pures-more : (p : Pure) (ps : List Pure) → pures_of (p ∷ ps) ≡ core.AndPure (pure_of p) (pures_of ps)
unfolding pures_of
pures-more p ps = refl

pub ruleset pure_forms = (pure-Constant, pure-Temporary, pure-Load, pure-Name, pure-AllOf, pure-ElementOf, pure-FirstOf, pure-Substring, pure-Concatenated, pure-Prefixed, pure-Operated, pure-Applied, pure-Chosen, pures-none, pures-more)
