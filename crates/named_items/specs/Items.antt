-- Flat items by their names: the C expressions of the linked ones. None where one has no expression, and for items that have no statement. C89, 3.6.
use Rattle.std.specs.Prelude.{ℕ, true, false, List, [], ◌∷◌, map, Option, Some, None, option_map}
use Rattle.c_tree.specs.declared.expression.CExpr.{CExpr}
use Rattle.c_tree.specs.Access.{ToFunction}
use Rattle.c_tree.specs.Terms.{Variable}
use Rattle.c_tree.specs.Flat.{Flat, Assign, Branch, Select, Jump, Invoke, Return, Nothing, Ignored, Kept, Direct, Through, CaseAt}
use Rattle.c_structure.specs.Expressions.{Names, expr_for, exprs_for}
use Rattle.named_items.specs.declared.item.Callee.{Callee}
use Rattle.named_items.specs.declared.item.Case.{Case}
use Rattle.named_items.specs.declared.item.Item.{Item}
use Rattle.named_items.specs.declared.item.Item.TheVariants as item

-- an assignment, where the place and the value have expressions
unfoldable pub assign_by : Option CExpr → Option CExpr → Option Item
assign_by (Some a) (Some b) = Some (item.Assign a b)
assign_by _ _ = None

-- a function that is called by its name, and one that is called through a parameter
abbrev pub by_name : List ℕ → Callee
by_name name = record { through = false; name = name }

abbrev pub through : List ℕ → Callee
through name = record { through = true; name = name }

-- a call whose value is not used, where the arguments have expressions
unfoldable pub call_by : Callee → Option (List CExpr) → Option Item
call_by callee arguments = option_map (item.Call callee) arguments

-- a call whose value is stored, where the place and the arguments have expressions
unfoldable pub set_call_by : Option CExpr → Callee → Option (List CExpr) → Option Item
set_call_by (Some target) callee (Some es) = Some (item.SetCall target callee es)
set_call_by _ callee _ = None

-- a case of a flat item
abbrev pub case_of : CaseAt → Case
case_of case = record { number = case.number; position = case.position }

-- the item of a flat one
unfoldable pub item_for : Names → Flat → Option Item
item_for names (Assign t u) = assign_by (expr_for names t) (expr_for names u)
item_for names (Branch test on off) = option_map (λ e. item.Branch e on off) (expr_for names test)
item_for names (Select value cases otherwise) = option_map (λ e. item.Select e (map case_of cases) otherwise) (expr_for names value)
item_for names (Jump position) = Some (item.Jump position)
item_for names (Invoke Ignored (Direct k) arguments) = call_by (by_name (names.routine k)) (exprs_for names arguments)
item_for names (Invoke Ignored (Through (Variable k ToFunction)) arguments) = call_by (through (names.object k)) (exprs_for names arguments)
item_for names (Invoke (Kept t) (Direct k) arguments) = set_call_by (expr_for names t) (by_name (names.routine k)) (exprs_for names arguments)
item_for names (Invoke (Kept t) (Through (Variable k ToFunction)) arguments) = set_call_by (expr_for names t) (through (names.object k)) (exprs_for names arguments)
item_for names (Return None) = Some (item.Return None)
item_for names (Return (Some t)) = option_map (λ e. item.Return (Some e)) (expr_for names t)
item_for names Nothing = Some item.Nothing
item_for names other = None

-- an item before others
unfoldable pub before_items : Option Item → Option (List Item) → Option (List Item)
before_items (Some i) (Some is) = Some (i ∷ is)
before_items _ _ = None

-- the items of flat ones
unfoldable pub items_for : Names → List Flat → Option (List Item)
items_for names [] = Some []
items_for names (flat ∷ later) = before_items (item_for names flat) (items_for names later)

unfoldable pub items_opened : Unit {0}
unfolding assign_by call_by set_call_by item_for before_items items_for
items_opened = tt
