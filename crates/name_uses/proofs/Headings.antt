-- The heading of each form of an expression.
use Rattle.std.specs.Prelude.{◌≡◌, ℕ, ℤ, Bool, List, [], ◌∷◌, ◌++◌, map, Option, Some, None}
use Rattle.std.proofs.Common.{refl, sym, ap, ◌∙◌}
use Rattle.std.proofs.lemmas.List.{append-nil}
use Rattle.f_tree.specs.Values.{Bytes}
use Rattle.f_tree.specs.declared.expressions.BinaryOp.{BinaryOp}
use Rattle.f_tree.specs.declared.expressions.Expr.{Expr}
use Rattle.f_tree.specs.declared.expressions.Expr as tree
use Rattle.f_tree.specs.declared.expressions.Expr.TheBlock as block
use Rattle.f_tree.specs.Folds.{fold_exprs, folds_opened}
use Rattle.f_tree.specs.Uses.{Heading, layer_heading, heading_of, alone_in, no_heading}

abbrev pub nothing : Heading
nothing = record { alone = None; applied = None; arguments = [] }

row-headings : (es : List Expr) → fold_exprs layer_heading (block.hidden-the_row-Expr-0 es) ≡ map heading_of es
unfolding folds_opened heading_of Rattle.f_tree.specs.declared.expressions.Expr.TheBlock.hidden-the_row-Expr-0
row-headings [] = refl
row-headings (e ∷ es) = ap (λ hs. heading_of e ∷ hs) (row-headings es)

pub heading-Name : (x : Bytes) → heading_of (tree.Name x) ≡ record { alone = Some x; applied = None; arguments = [] }
unfolding folds_opened heading_of layer_heading no_heading
heading-Name x = refl

pub heading-Apply : (x : Bytes) (es : List Expr) → heading_of (tree.Apply x es) ≡ record { alone = None; applied = Some x; arguments = alone_in (map heading_of es) }
unfolding folds_opened heading_of layer_heading no_heading Rattle.f_tree.specs.declared.expressions.Expr.TheBlock.hidden-the_row-Expr-0
heading-Apply x es = ap (λ hs. record { alone = None; applied = Some x; arguments = alone_in hs }) (row-headings es)

pub heading-Part : (e : Expr) (from to : Option Expr) → heading_of (tree.Part e from to) ≡ nothing
unfolding folds_opened heading_of layer_heading no_heading
heading-Part e None None = refl
heading-Part e None (Some b) = refl
heading-Part e (Some a) None = refl
heading-Part e (Some a) (Some b) = refl

pub heading-Int : (z : ℤ) → heading_of (tree.Int z) ≡ nothing
unfolding folds_opened heading_of layer_heading no_heading
heading-Int z = refl

pub heading-Logical : (b : Bool) → heading_of (tree.Logical b) ≡ nothing
unfolding folds_opened heading_of layer_heading no_heading
heading-Logical b = refl

pub heading-Text : (cs : Bytes) → heading_of (tree.Text cs) ≡ nothing
unfolding folds_opened heading_of layer_heading no_heading
heading-Text cs = refl

pub heading-AltReturn : (label : ℕ) → heading_of (tree.AltReturn label) ≡ nothing
unfolding folds_opened heading_of layer_heading no_heading
heading-AltReturn label = refl

pub heading-Bound : (k : ℕ) → heading_of (tree.Bound k) ≡ nothing
unfolding folds_opened heading_of layer_heading no_heading
heading-Bound k = refl

pub heading-Minus : (e : Expr) → heading_of (tree.Minus e) ≡ nothing
unfolding folds_opened heading_of layer_heading no_heading
heading-Minus e = refl

pub heading-Plus : (e : Expr) → heading_of (tree.Plus e) ≡ nothing
unfolding folds_opened heading_of layer_heading no_heading
heading-Plus e = refl

pub heading-Not : (e : Expr) → heading_of (tree.Not e) ≡ nothing
unfolding folds_opened heading_of layer_heading no_heading
heading-Not e = refl

pub heading-Paren : (e : Expr) → heading_of (tree.Paren e) ≡ nothing
unfolding folds_opened heading_of layer_heading no_heading
heading-Paren e = refl

pub heading-Binary : (op : BinaryOp) (a b : Expr) → heading_of (tree.Binary op a b) ≡ nothing
unfolding folds_opened heading_of layer_heading no_heading
heading-Binary op a b = refl

pub heading-Bind : (es : List Expr) (e : Expr) → heading_of (tree.Bind es e) ≡ nothing
unfolding folds_opened heading_of layer_heading no_heading
heading-Bind es e = refl

pub ruleset heading_forms = (heading-Name, heading-Apply, heading-Part, heading-Int, heading-Logical, heading-Text, heading-AltReturn, heading-Bound, heading-Minus, heading-Plus, heading-Not, heading-Paren, heading-Binary, heading-Bind)

-- a name more among those that stand alone
alone_in_some : (h : Heading) (x : Bytes) → h.alone ≡ Some x → alone_in (h ∷ []) ≡ x ∷ []
unfolding alone_in
alone_in_some h x is = ap (λ (o : Option Bytes). elim o [ None ↦ [] | Some y ↦ y ∷ [] ]) is

alone_in_none : (h : Heading) → h.alone ≡ None → alone_in (h ∷ []) ≡ []
unfolding alone_in
alone_in_none h is = ap (λ (o : Option Bytes). elim o [ None ↦ [] | Some y ↦ y ∷ [] ]) is

pub alone_some : (names : List Bytes) (h : Heading) (x : Bytes) → h.alone ≡ Some x → names ++ x ∷ [] ≡ names ++ alone_in (h ∷ [])
alone_some names h x is = ap (λ xs. names ++ xs) (sym (alone_in_some h x is))

pub alone_none : (names : List Bytes) (h : Heading) → h.alone ≡ None → names ≡ names ++ alone_in (h ∷ [])
alone_none names h is = sym (append-nil names) ∙ ap (λ xs. names ++ xs) (sym (alone_in_none h is))

pub ruleset alone_forms = (alone_some, alone_none)

alone_by : (o : Option Bytes) (more : List Bytes) → (elim o [ None ↦ more | Some x ↦ x ∷ more ]) ≡ (elim o [ None ↦ [] | Some x ↦ x ∷ [] ]) ++ more
alone_by None more = refl
alone_by (Some x) more = refl

pub alone_step : (e : Expr) (es : List Expr) → alone_in (map heading_of (e ∷ es)) ≡ alone_in (heading_of e ∷ []) ++ alone_in (map heading_of es)
unfolding alone_in
alone_step e es = alone_by (heading_of e).alone (alone_in (map heading_of es))

pub alone_end : alone_in [] ≡ []
unfolding alone_in
alone_end = refl
