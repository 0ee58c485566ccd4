-- The names of a program unit in the order in which they are first seen, and how each is used.
-- ANSI X3.9-1978, section 18 (scopes and classes of symbolic names).
use Rattle.std.specs.Prelude.{Bool, false, not, ◌||◌, List, [], ◌∷◌, ◌++◌, bytes_eq, Option, Some, None, if◌then◌else◌}
use Rattle.f_tree.specs.declared.expressions.Expr.{Expr}
use Rattle.f_tree.specs.declared.expressions.Expr.TheOpen as expr
use Rattle.f_tree.specs.declared.statements.Body.{Body}
use Rattle.f_tree.specs.declared.statements.Body.TheOpen as body
use Rattle.f_tree.specs.declared.statements.ListItem.{ListItem}
use Rattle.f_tree.specs.declared.statements.ListItem.TheOpen as item
use Rattle.f_tree.specs.declared.statements.LoopControl.{LoopControl}
use Rattle.f_tree.specs.declared.statements.LengthSpec.{LengthSpec}
use Rattle.f_tree.specs.declared.statements.LengthSpec.TheVariants as length'
use Rattle.f_tree.specs.declared.statements.UpperBound.{UpperBound}
use Rattle.f_tree.specs.declared.statements.UpperBound.TheVariants as upper
use Rattle.f_tree.specs.declared.statements.Dimension.{Dimension}
use Rattle.f_tree.specs.declared.statements.TypeSpec.{TypeSpec}
use Rattle.f_tree.specs.declared.statements.Declarator.{Declarator}
use Rattle.f_tree.specs.declared.statements.ArrayDeclarator.{ArrayDeclarator}
use Rattle.f_tree.specs.declared.statements.SavedItem.{SavedItem}
use Rattle.f_tree.specs.declared.statements.SavedItem.TheVariants as saved
use Rattle.f_tree.specs.declared.statements.DataValue.{DataValue}
use Rattle.f_tree.specs.declared.statements.DummyArgument.{DummyArgument}
use Rattle.f_tree.specs.declared.statements.DummyArgument.TheVariants as dummy
use Rattle.f_tree.specs.declared.statements.ControlValue.{ControlValue}
use Rattle.f_tree.specs.declared.statements.ControlValue.TheVariants as control
use Rattle.f_tree.specs.declared.statements.Stmt.{Stmt}
use Rattle.f_tree.specs.Folds.{fold_expr, fold_item, fold_body}
use Rattle.f_tree.specs.Values.{Bytes}

pub data Manner : Type 0 where
  Alone : Manner
  -- with a list in parentheses, in an expression
  WithList : Manner
  -- in a CALL
  Called : Manner
  -- declared, and not used
  Declared : Manner

pub record Use : Type 0 where
  pub name : Bytes
  pub manner : Manner

unfoldable pub used : Bytes → Manner → List Use
used x manner = record { name = x; manner = manner } ∷ []

unfoldable pub all_of : {A : Type 0} → (A → List Use) → List A → List Use
all_of f [] = []
all_of f (a ∷ as') = f a ++ all_of f as'

unfoldable pub if_any : {A : Type 0} → (A → List Use) → Option A → List Use
if_any f None = []
if_any f (Some a) = f a

unfoldable pub joined_uses : List (List Use) → List Use
joined_uses [] = []
joined_uses (us ∷ more) = us ++ joined_uses more

unfoldable pub optional_uses : Option (List Use) → List Use
optional_uses None = []
optional_uses (Some us) = us

unfoldable pub is_among : Bytes → List Bytes → Bool
is_among x [] = false
is_among x (y ∷ ys) = bytes_eq x y || is_among x ys

unfoldable pub without : List Bytes → List Use → List Use
without xs [] = []
without xs (u ∷ us) = if is_among u.name xs then without xs us else u ∷ without xs us

unfoldable pub layer_uses : expr.Expr-F (List Use) → List Use
layer_uses (expr.Int z) = []
layer_uses (expr.Logical b) = []
layer_uses (expr.Text cs) = []
layer_uses (expr.Name x) = used x Alone
layer_uses (expr.Apply x us) = used x WithList ++ joined_uses us
layer_uses (expr.Part us from to) = us ++ optional_uses from ++ optional_uses to
layer_uses (expr.Minus us) = us
layer_uses (expr.Plus us) = us
layer_uses (expr.Not us) = us
layer_uses (expr.Paren us) = us
layer_uses (expr.Binary op a b) = a ++ b
layer_uses (expr.AltReturn label) = []
layer_uses (expr.Bind us u) = joined_uses us ++ u
layer_uses (expr.Bound k) = []

unfoldable pub uses_of : Expr → List Use
uses_of e = fold_expr layer_uses e

unfoldable pub uses_of_upper : UpperBound → List Use
uses_of_upper (upper.Value e) = uses_of e
uses_of_upper upper.Star = []

unfoldable pub uses_of_dimension : Dimension → List Use
uses_of_dimension d = if_any uses_of d.lower ++ uses_of_upper d.upper

unfoldable pub uses_of_length : LengthSpec → List Use
uses_of_length (length'.Value e) = uses_of e
uses_of_length length'.Star = []

unfoldable pub uses_of_declarator : Declarator → List Use
uses_of_declarator d = used d.name Declared ++ all_of uses_of_dimension d.dimensions ++ if_any uses_of_length d.length

unfoldable pub uses_of_array : ArrayDeclarator → List Use
uses_of_array d = used d.name Declared ++ all_of uses_of_dimension d.dimensions

unfoldable pub uses_of_type : TypeSpec → List Use
uses_of_type t = if_any uses_of_length t.length

unfoldable pub uses_of_control : LoopControl → List Use
uses_of_control c = used c.variable Alone ++ uses_of c.first ++ uses_of c.limit ++ if_any uses_of c.step

unfoldable pub layer_uses_of_item : item.ListItem-F (List Use) → List Use
layer_uses_of_item (item.Item e) = uses_of e
layer_uses_of_item (item.Loop items control) = joined_uses items ++ uses_of_control control

unfoldable pub uses_of_item : ListItem → List Use
uses_of_item i = fold_item layer_uses_of_item i

-- the variable of an implied DO in DATA is a name of its list alone (9.3)
unfoldable pub layer_uses_of_place : item.ListItem-F (List Use) → List Use
layer_uses_of_place (item.Item e) = uses_of e
layer_uses_of_place (item.Loop items control) =
    without (control.variable ∷ []) (joined_uses items ++ uses_of control.first ++ uses_of control.limit ++ if_any uses_of control.step)

unfoldable pub uses_of_place : ListItem → List Use
uses_of_place i = fold_item layer_uses_of_place i

unfoldable pub uses_of_saved : SavedItem → List Use
uses_of_saved (saved.Named x) = used x Declared
uses_of_saved (saved.Block x) = []

unfoldable pub uses_of_dummy : DummyArgument → List Use
uses_of_dummy (dummy.Named x) = used x Declared
uses_of_dummy dummy.AlternateReturn = []

unfoldable pub uses_of_value : ControlValue → List Use
uses_of_value control.Star = []
uses_of_value (control.Label label) = []
uses_of_value (control.Value e) = uses_of e

unfoldable pub uses_of_data : DataValue → List Use
uses_of_data d = if_any uses_of d.count ++ uses_of d.value

-- the name that stands alone, or with a list whose names stand alone
pub record Heading : Type 0 where
  pub alone : Option Bytes
  pub applied : Option Bytes
  pub arguments : List Bytes

unfoldable pub no_heading : Heading
no_heading = record { alone = None; applied = None; arguments = [] }

unfoldable pub alone_in : List Heading → List Bytes
alone_in [] = []
alone_in (h ∷ hs) = elim h.alone [ None ↦ alone_in hs | Some x ↦ x ∷ alone_in hs ]

unfoldable pub layer_heading : expr.Expr-F Heading → Heading
layer_heading (expr.Name x) = record no_heading { alone = Some x }
layer_heading (expr.Apply x hs) = record no_heading { applied = Some x; arguments = alone_in hs }
layer_heading _ = no_heading

unfoldable pub heading_of : Expr → Heading
heading_of e = fold_expr layer_heading e

-- an assignment to a name with a list, whose name is no array, defines a statement function (15.4)
unfoldable pub defines_function : List Bytes → Heading → Bool
defines_function arrays h = elim h.applied [ None ↦ false | Some x ↦ not (is_among x arrays) ]

-- the dummy arguments of a statement function are names of that statement alone
unfoldable pub uses_of_assignment : List Bytes → Heading → Expr → Expr → List Use
uses_of_assignment arrays h target e =
    if defines_function arrays h then without h.arguments (uses_of target ++ uses_of e) else uses_of target ++ uses_of e

-- a statement, the statement of a logical IF being read; the names of the unit's arrays are given
unfoldable pub layer_uses_of_body : List Bytes → body.Body-F (List Use) → List Use
layer_uses_of_body arrays (body.Header kind name dummies) = []
layer_uses_of_body arrays (body.Declare type items) = uses_of_type type ++ all_of uses_of_declarator items
layer_uses_of_body arrays (body.Dimension items) = all_of uses_of_array items
layer_uses_of_body arrays (body.Common groups) = all_of (λ g. all_of uses_of_array g.items) groups
layer_uses_of_body arrays (body.Equivalence groups) = all_of (λ g. all_of uses_of g.places) groups
layer_uses_of_body arrays (body.Implicit groups) = []
layer_uses_of_body arrays body.ImplicitNone = []
layer_uses_of_body arrays (body.Parameter items) = all_of (λ d. used d.name Declared ++ uses_of d.value) items
layer_uses_of_body arrays (body.External xs) = all_of (λ x. used x Declared) xs
layer_uses_of_body arrays (body.Intrinsic xs) = all_of (λ x. used x Declared) xs
layer_uses_of_body arrays (body.Save items) = all_of uses_of_saved items
layer_uses_of_body arrays (body.Init groups) = all_of (λ g. all_of uses_of_place g.places ++ all_of uses_of_data g.values) groups
layer_uses_of_body arrays (body.Format text) = []
layer_uses_of_body arrays (body.Entry name dummies) = used name Declared ++ all_of uses_of_dummy dummies
layer_uses_of_body arrays (body.Assign target e) = uses_of_assignment arrays (heading_of target) target e
layer_uses_of_body arrays (body.AssignLabel label x) = used x Alone
layer_uses_of_body arrays (body.Goto label) = []
layer_uses_of_body arrays (body.GotoList labels e) = uses_of e
layer_uses_of_body arrays (body.GotoName x labels) = used x Alone
layer_uses_of_body arrays (body.IfSign e below at above) = uses_of e
layer_uses_of_body arrays (body.IfOne e us) = uses_of e ++ us
layer_uses_of_body arrays (body.IfThen e) = uses_of e
layer_uses_of_body arrays (body.ElseIf e) = uses_of e
layer_uses_of_body arrays body.Else = []
layer_uses_of_body arrays body.EndIf = []
layer_uses_of_body arrays (body.Do label control) = uses_of_control control
layer_uses_of_body arrays (body.DoWhile label e) = uses_of e
layer_uses_of_body arrays body.EndDo = []
layer_uses_of_body arrays body.Continue = []
layer_uses_of_body arrays (body.Call x es) = used x Called ++ all_of uses_of es
layer_uses_of_body arrays (body.Return e) = if_any uses_of e
layer_uses_of_body arrays (body.Stop text) = []
layer_uses_of_body arrays (body.Transfer direction controls items) = all_of (λ c. uses_of_value c.value) controls ++ all_of uses_of_item items
layer_uses_of_body arrays (body.Auxiliary kind controls) = all_of (λ c. uses_of_value c.value) controls
layer_uses_of_body arrays (body.Include name) = []
layer_uses_of_body arrays body.End = []

unfoldable pub uses_of_body : List Bytes → Body → List Use
uses_of_body arrays b = fold_body (layer_uses_of_body arrays) b

unfoldable pub uses_of_statements : List Bytes → List Stmt → List Use
uses_of_statements arrays stmts = all_of (λ s. uses_of_body arrays s.body) stmts

unfoldable pub seen_from : List Bytes → List Use → List Bytes
seen_from seen [] = []
seen_from seen (u ∷ us) = if is_among u.name seen then seen_from seen us else u.name ∷ seen_from (u.name ∷ seen) us

-- the names in first-seen order
unfoldable pub first_seen : List Use → List Bytes
first_seen us = seen_from [] us

unfoldable pub uses_opened : Unit {0}
unfolding no_heading alone_in layer_heading heading_of defines_function without uses_of_assignment used all_of if_any joined_uses optional_uses layer_uses uses_of uses_of_upper uses_of_dimension uses_of_length uses_of_declarator uses_of_array uses_of_type uses_of_control layer_uses_of_item uses_of_item layer_uses_of_place uses_of_place uses_of_saved uses_of_dummy uses_of_value uses_of_data layer_uses_of_body uses_of_body uses_of_statements is_among seen_from first_seen
uses_opened = tt
