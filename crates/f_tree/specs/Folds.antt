-- Recursion over the trees, one layer at a time. It computes on trees that are written out.
use Rattle.std.specs.Prelude.{List, [], ◌∷◌, Option, Some, None}
use Rattle.f_tree.specs.declared.expressions.Expr.{Expr, Int, Logical, Text, Name, Apply', Part', Minus', Plus', Not', Paren', Binary', AltReturn, Bind', Bound, Row_of-Expr, end_of-Expr, more_of-Expr, None', Some', Held-Expr-Part-1}
use Rattle.f_tree.specs.declared.expressions.Expr.TheOpen as expr
use Rattle.f_tree.specs.declared.expressions.Expr.TheBlock.{hidden-the_row-Expr-1}
use Rattle.f_tree.specs.declared.statements.Body.TheBlock.{hidden-the_row-Body-0}
use Rattle.f_tree.specs.declared.statements.ListItem.TheBlock.{hidden-the_row-ListItem-0}
use denote.Hole.Carrier.{hidden}
use Rattle.f_tree.specs.declared.statements.ListItem.{ListItem, Item, Loop', Row_of-ListItem, end_of-ListItem, more_of-ListItem}
use Rattle.f_tree.specs.declared.statements.ListItem.TheOpen as item
use Rattle.f_tree.specs.declared.statements.Body as whole
use Rattle.f_tree.specs.declared.statements.Body.{Body, Row_of-Body, end_of-Body, more_of-Body, IfOne'}
use Rattle.f_tree.specs.declared.statements.Body.TheOpen as body

module _ {A : Type 0} (layer : expr.Expr-F A → A) where
  unfoldable mutual
    -- the value of an expression by those of its parts
    pub fold_expr : Expr → A
    fold_expr (Int z) = layer (expr.Int z)
    fold_expr (Logical b) = layer (expr.Logical b)
    fold_expr (Text cs) = layer (expr.Text cs)
    fold_expr (Name x) = layer (expr.Name x)
    fold_expr (Apply' x s row) = layer (expr.Apply x (fold_exprs row))
    fold_expr (Part' s (more_of-Expr e r) from to) = layer (expr.Part (fold_expr e) (fold_held from) (fold_held to))
    fold_expr (Minus' s (more_of-Expr e r)) = layer (expr.Minus (fold_expr e))
    fold_expr (Plus' s (more_of-Expr e r)) = layer (expr.Plus (fold_expr e))
    fold_expr (Not' s (more_of-Expr e r)) = layer (expr.Not (fold_expr e))
    fold_expr (Paren' s (more_of-Expr e r)) = layer (expr.Paren (fold_expr e))
    fold_expr (Binary' op s (more_of-Expr a r) t (more_of-Expr b q)) = layer (expr.Binary op (fold_expr a) (fold_expr b))
    fold_expr (AltReturn l) = layer (expr.AltReturn l)
    fold_expr (Bind' s row t (more_of-Expr e q)) = layer (expr.Bind (fold_exprs row) (fold_expr e))
    fold_expr (Bound k) = layer (expr.Bound k)

    pub fold_exprs : {m : _} → Row_of-Expr m → List A
    fold_exprs end_of-Expr = []
    fold_exprs (more_of-Expr e row) = fold_expr e ∷ fold_exprs row

    pub fold_held : Held-Expr-Part-1 → Option A
    fold_held None' = None
    fold_held (Some' p (more_of-Expr e r)) = Some (fold_expr e)

module _ {A : Type 0} (layer : item.ListItem-F A → A) where
  unfoldable mutual
    -- the value of an item by those of its items
    pub fold_item : ListItem → A
    fold_item (Item e) = layer (item.Item e)
    fold_item (Loop' s row control) = layer (item.Loop (fold_items row) control)

    pub fold_items : {m : _} → Row_of-ListItem m → List A
    fold_items end_of-ListItem = []
    fold_items (more_of-ListItem i row) = fold_item i ∷ fold_items row

module _ {A : Type 0} (layer : body.Body-F A → A) where
  -- the value of a statement by that of the statement of a logical IF
  unfoldable pub fold_body : Body → A
  fold_body (whole.Header kind name dummies) = layer (body.Header kind name dummies)
  fold_body (whole.Declare type items) = layer (body.Declare type items)
  fold_body (whole.Dimension items) = layer (body.Dimension items)
  fold_body (whole.Common groups) = layer (body.Common groups)
  fold_body (whole.Equivalence groups) = layer (body.Equivalence groups)
  fold_body (whole.Implicit groups) = layer (body.Implicit groups)
  fold_body whole.ImplicitNone = layer body.ImplicitNone
  fold_body (whole.Parameter items) = layer (body.Parameter items)
  fold_body (whole.External xs) = layer (body.External xs)
  fold_body (whole.Intrinsic xs) = layer (body.Intrinsic xs)
  fold_body (whole.Save items) = layer (body.Save items)
  fold_body (whole.Init groups) = layer (body.Init groups)
  fold_body (whole.Format text) = layer (body.Format text)
  fold_body (whole.Entry name dummies) = layer (body.Entry name dummies)
  fold_body (whole.Assign target e) = layer (body.Assign target e)
  fold_body (whole.AssignLabel label x) = layer (body.AssignLabel label x)
  fold_body (whole.Goto label) = layer (body.Goto label)
  fold_body (whole.GotoList labels e) = layer (body.GotoList labels e)
  fold_body (whole.GotoName x labels) = layer (body.GotoName x labels)
  fold_body (whole.IfSign e below at above) = layer (body.IfSign e below at above)
  fold_body (IfOne' e s (more_of-Body b r)) = layer (body.IfOne e (fold_body b))
  fold_body (whole.IfThen e) = layer (body.IfThen e)
  fold_body (whole.ElseIf e) = layer (body.ElseIf e)
  fold_body whole.Else = layer body.Else
  fold_body whole.EndIf = layer body.EndIf
  fold_body (whole.Do label control) = layer (body.Do label control)
  fold_body (whole.DoWhile label e) = layer (body.DoWhile label e)
  fold_body whole.EndDo = layer body.EndDo
  fold_body whole.Continue = layer body.Continue
  fold_body (whole.Call x es) = layer (body.Call x es)
  fold_body (whole.Return e) = layer (body.Return e)
  fold_body (whole.Stop text) = layer (body.Stop text)
  fold_body (whole.Transfer way controls items) = layer (body.Transfer way controls items)
  fold_body (whole.Auxiliary which controls) = layer (body.Auxiliary which controls)
  fold_body (whole.Include name) = layer (body.Include name)
  fold_body whole.End = layer body.End

-- a statement with the statement of a logical IF in it
unfoldable pub layer_of : Body → body.Body-F Body
layer_of (whole.Header kind name dummies) = body.Header kind name dummies
layer_of (whole.Declare type items) = body.Declare type items
layer_of (whole.Dimension items) = body.Dimension items
layer_of (whole.Common groups) = body.Common groups
layer_of (whole.Equivalence groups) = body.Equivalence groups
layer_of (whole.Implicit groups) = body.Implicit groups
layer_of whole.ImplicitNone = body.ImplicitNone
layer_of (whole.Parameter items) = body.Parameter items
layer_of (whole.External xs) = body.External xs
layer_of (whole.Intrinsic xs) = body.Intrinsic xs
layer_of (whole.Save items) = body.Save items
layer_of (whole.Init groups) = body.Init groups
layer_of (whole.Format text) = body.Format text
layer_of (whole.Entry name dummies) = body.Entry name dummies
layer_of (whole.Assign target e) = body.Assign target e
layer_of (whole.AssignLabel label x) = body.AssignLabel label x
layer_of (whole.Goto label) = body.Goto label
layer_of (whole.GotoList labels e) = body.GotoList labels e
layer_of (whole.GotoName x labels) = body.GotoName x labels
layer_of (whole.IfSign e below at above) = body.IfSign e below at above
layer_of (IfOne' e s (more_of-Body b r)) = (body.IfOne e b)
layer_of (whole.IfThen e) = body.IfThen e
layer_of (whole.ElseIf e) = body.ElseIf e
layer_of whole.Else = body.Else
layer_of whole.EndIf = body.EndIf
layer_of (whole.Do label control) = body.Do label control
layer_of (whole.DoWhile label e) = body.DoWhile label e
layer_of whole.EndDo = body.EndDo
layer_of whole.Continue = body.Continue
layer_of (whole.Call x es) = body.Call x es
layer_of (whole.Return e) = body.Return e
layer_of (whole.Stop text) = body.Stop text
layer_of (whole.Transfer way controls items) = body.Transfer way controls items
layer_of (whole.Auxiliary which controls) = body.Auxiliary which controls
layer_of (whole.Include name) = body.Include name
layer_of whole.End = body.End

-- the last two open what a written tree keeps hidden
unfoldable pub folds_opened : Unit {0}
unfolding fold_expr fold_exprs fold_held fold_item fold_items fold_body layer_of hidden-the_row-Expr-1 hidden-the_row-Body-0 hidden-the_row-ListItem-0 hidden
folds_opened = tt
