-- What each form of an expression becomes: the parts are those that code holds.
use Rattle.std.proofs.Common.{◌≡◌, refl, ap, sym, ◌∙◌, ℕ, ℤ, List, length}
use Rattle.c_tree.specs.declared.types.CastType.{CastType}
use Rattle.c_tree.specs.declared.expression.UnaryOp.{UnaryOp}
use Rattle.c_tree.specs.declared.expression.BinaryOp.{BinaryOp}
use Rattle.c_tree.specs.declared.expression.Extreme.{Extreme}
use Rattle.c_tree.specs.declared.expression.CExpr.{CExpr}
use Rattle.c_tree.specs.declared.expression.CExpr.TheVariants as expr
use Rattle.c_tree.specs.Opened.{trees_opened}
use Rattle.c_tree.specs.Access.{ToChar}
use Rattle.c_tree.specs.Terms as term
use Rattle.c_tree.specs.Terms.{Term}
use Rattle.c_tree.specs.Drafts.{Scope, bare, drafted, joined, joined_three}
use Rattle.c_tree.specs.LinkedExpressions.{linked, string, name_of}

linked-Unary : (op : UnaryOp) (a : CExpr) → linked (expr.Unary op a) ≡ drafted (term.Prefixed op) (linked a)
unfolding trees_opened
linked-Unary op a = refl

linked-Cast : (of : CastType) (a : CExpr) → linked (expr.Cast of a) ≡ drafted (term.Cast of) (linked a)
unfolding trees_opened
linked-Cast of a = refl

linked-Binary : (op : BinaryOp) (a b : CExpr) → linked (expr.Binary op a b) ≡ joined (term.Between op) (linked a) (linked b)
unfolding trees_opened
linked-Binary op a b = refl

linked-Choose : (test a b : CExpr) → linked (expr.Choose test a b) ≡ joined_three (λ t x y. term.Choice t x y) (linked test) (linked a) (linked b)
unfolding trees_opened
linked-Choose test a b = refl

linked-Index : (a b : CExpr) → linked (expr.Index a b) ≡ joined term.Element (linked a) (linked b)
unfolding trees_opened
linked-Index a b = refl

linked-Field : (a : CExpr) (name : List ℕ) → linked (expr.Field a name) ≡ drafted (λ list. term.Field list name) (linked a)
unfolding trees_opened
linked-Field a name = refl

linked-MaxMin : (which : Extreme) (a b : CExpr) → linked (expr.MaxMin which a b) ≡ joined (term.Most which) (linked a) (linked b)
unfolding trees_opened
linked-MaxMin which a b = refl

linked-Abs : (a : CExpr) → linked (expr.Abs a) ≡ drafted term.Magnitude (linked a)
unfolding trees_opened
linked-Abs a = refl

-- ## An expression of a form, whose parts are these

pub at-Number : (number : ℤ) (e : CExpr) → e ≡ expr.Number number → linked e ≡ bare (term.Constant number)
at-Number number e is = ap linked is

pub at-Str : (bytes : List ℕ) (e : CExpr) → e ≡ expr.Str bytes → linked e ≡ string bytes
at-Str bytes e is = ap linked is

pub at-Name : (name : List ℕ) (e : CExpr) → e ≡ expr.Name name → linked e ≡ name_of name
at-Name name e is = ap linked is

pub at-Size : (e : CExpr) → e ≡ expr.SizeInt → linked e ≡ bare term.Size
at-Size e is = ap linked is

pub at-Unary : (op : UnaryOp) (a e x : CExpr) → e ≡ expr.Unary op a → x ≡ a → linked e ≡ drafted (term.Prefixed op) (linked x)
at-Unary op a e x is same = ap linked is ∙ linked-Unary op a ∙ ap (λ z. drafted (term.Prefixed op) (linked z)) (sym same)

pub at-Cast : (of : CastType) (a e x : CExpr) → e ≡ expr.Cast of a → x ≡ a → linked e ≡ drafted (term.Cast of) (linked x)
at-Cast of a e x is same = ap linked is ∙ linked-Cast of a ∙ ap (λ z. drafted (term.Cast of) (linked z)) (sym same)

pub at-Binary : (op : BinaryOp) (a b e x y : CExpr) → e ≡ expr.Binary op a b → x ≡ a → y ≡ b → linked e ≡ joined (term.Between op) (linked x) (linked y)
at-Binary op a b e x y is one two = ap linked is ∙ linked-Binary op a b ∙ (λ i. joined (term.Between op) (linked (sym one i)) (linked (sym two i)))

pub at-Choose : (t a b e x y z : CExpr) → e ≡ expr.Choose t a b → x ≡ t → y ≡ a → z ≡ b → linked e ≡ joined_three (λ t x y. term.Choice t x y) (linked x) (linked y) (linked z)
at-Choose t a b e x y z is one two three =
    ap linked is ∙ linked-Choose t a b ∙ (λ i. joined_three (λ t x y. term.Choice t x y) (linked (sym one i)) (linked (sym two i)) (linked (sym three i)))

pub at-Index : (a b e x y : CExpr) → e ≡ expr.Index a b → x ≡ a → y ≡ b → linked e ≡ joined term.Element (linked x) (linked y)
at-Index a b e x y is one two = ap linked is ∙ linked-Index a b ∙ (λ i. joined term.Element (linked (sym one i)) (linked (sym two i)))

pub at-Field : (a : CExpr) (name : List ℕ) (e x : CExpr) → e ≡ expr.Field a name → x ≡ a → linked e ≡ drafted (λ list. term.Field list name) (linked x)
at-Field a name e x is same = ap linked is ∙ linked-Field a name ∙ ap (λ z. drafted (λ list. term.Field list name) (linked z)) (sym same)

pub at-MaxMin : (which : Extreme) (a b e x y : CExpr) → e ≡ expr.MaxMin which a b → x ≡ a → y ≡ b → linked e ≡ joined (term.Most which) (linked x) (linked y)
at-MaxMin which a b e x y is one two = ap linked is ∙ linked-MaxMin which a b ∙ (λ i. joined (term.Most which) (linked (sym one i)) (linked (sym two i)))

pub at-Abs : (a e x : CExpr) → e ≡ expr.Abs a → x ≡ a → linked e ≡ drafted term.Magnitude (linked x)
at-Abs a e x is same = ap linked is ∙ linked-Abs a ∙ ap (λ z. drafted term.Magnitude (linked z)) (sym same)

-- ## For code whose one part stands alone

pub drawn-Number : (n : ℤ) (scope : Scope) (m : ℕ) → (linked (expr.Number n)).drawn scope m ≡ term.Constant n
drawn-Number n scope m = refl

pub drawn-Str : (bytes : List ℕ) (scope : Scope) (m : ℕ) → (linked (expr.Str bytes)).drawn scope m ≡ term.Array m ToChar
drawn-Str bytes scope m = refl

pub drawn-Name : (name : List ℕ) (scope : Scope) (m : ℕ) → (linked (expr.Name name)).drawn scope m ≡ scope name
drawn-Name name scope m = refl

pub drawn-Size : (scope : Scope) (m : ℕ) → (linked expr.SizeInt).drawn scope m ≡ term.Size
drawn-Size scope m = refl

pub drawn-Field : (a : CExpr) (name : List ℕ) (scope : Scope) (m : ℕ) → (linked (expr.Field a name)).drawn scope m ≡ term.Field ((linked a).drawn scope m) name
unfolding trees_opened
drawn-Field a name scope m = refl

pub drawn-Abs : (a : CExpr) (scope : Scope) (m : ℕ) → (linked (expr.Abs a)).drawn scope m ≡ term.Magnitude ((linked a).drawn scope m)
unfolding trees_opened
drawn-Abs a scope m = refl

pub count-Number : (n : ℤ) → length (linked (expr.Number n)).strings ≡ 0
count-Number n = refl

pub count-Str : (bytes : List ℕ) → length (linked (expr.Str bytes)).strings ≡ 1
count-Str bytes = refl

pub count-Name : (name : List ℕ) → length (linked (expr.Name name)).strings ≡ 0
count-Name name = refl

pub count-Size : length (linked expr.SizeInt).strings ≡ 0
count-Size = refl

pub count-Field : (a : CExpr) (name : List ℕ) → length (linked (expr.Field a name)).strings ≡ length (linked a).strings
unfolding trees_opened
count-Field a name = refl

pub count-Abs : (a : CExpr) → length (linked (expr.Abs a)).strings ≡ length (linked a).strings
unfolding trees_opened
count-Abs a = refl

pub ruleset draft_forms = (drawn-Number, drawn-Str, drawn-Name, drawn-Size, drawn-Field, drawn-Abs, count-Number, count-Str, count-Name, count-Size, count-Field, count-Abs)
