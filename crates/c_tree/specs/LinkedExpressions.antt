-- Expressions and calls, linked (C89, 3.3).
use Rattle.std.specs.Prelude.{ℕ, Bool, true, false, List, [], ◌∷◌}
use Rattle.c_tree.specs.declared.expression.CExpr.{CExpr, Number, Str, Name, Unary', Cast', Binary', Choose', Index', Field', SizeInt, MaxMin', Abs', end_of-CExpr, more_of-CExpr}
use Rattle.c_tree.specs.declared.expression.CCall.{CCall}
use Rattle.c_tree.specs.Access.{ToChar}
use Rattle.c_tree.specs.Terms.{Term, Constant, Array, Routine, Prefixed, Cast, Between, Choice, Element, Field, Size, Most, Magnitude}
use Rattle.c_tree.specs.Flat.{Callee, Direct, Through, Nowhere}
use Rattle.c_tree.specs.Drafts.{Draft, bare, drafted, joined, joined_three}

-- a string is the start of its object, which is a `char` array
abbrev pub string : List ℕ → Draft Term
string bytes = record { strings = bytes ∷ []; names = []; drawn = λ scope first. Array first ToChar }

abbrev pub name_of : List ℕ → Draft Term
name_of name = record { strings = []; names = name ∷ []; drawn = λ scope first. scope name }

abbrev pub linked : CExpr → Draft Term
linked (Number number) = bare (Constant number)
linked (Str bytes) = string bytes
linked (Name name) = name_of name
linked (Unary' operator shape (more_of-CExpr operand end_of-CExpr)) = drafted (Prefixed operator) (linked operand)
linked (Cast' type shape (more_of-CExpr operand end_of-CExpr)) = drafted (Cast type) (linked operand)
linked (Binary' operator shape (more_of-CExpr left end_of-CExpr) shape' (more_of-CExpr right end_of-CExpr)) =
    joined (Between operator) (linked left) (linked right)
linked (Choose' shape (more_of-CExpr test end_of-CExpr) shape' (more_of-CExpr first end_of-CExpr) shape'' (more_of-CExpr second end_of-CExpr)) =
    joined_three (λ test first second. Choice test first second) (linked test) (linked first) (linked second)
linked (Index' shape (more_of-CExpr array end_of-CExpr) shape' (more_of-CExpr index end_of-CExpr)) =
    joined Element (linked array) (linked index)
linked (Field' shape (more_of-CExpr operand end_of-CExpr) name) = drafted (λ list. Field list name) (linked operand)
linked SizeInt = bare Size
linked (MaxMin' which shape (more_of-CExpr left end_of-CExpr) shape' (more_of-CExpr right end_of-CExpr)) =
    joined (Most which) (linked left) (linked right)
linked (Abs' shape (more_of-CExpr operand end_of-CExpr)) = drafted Magnitude (linked operand)

-- the arguments of a call, from the left
abbrev pub linked_all : List CExpr → Draft (List Term)
linked_all [] = bare []
linked_all (first ∷ later) = joined (λ term terms. term ∷ terms) (linked first) (linked_all later)

-- a name that is called directly is a function's
abbrev pub direct : Term → Callee
direct (Routine number) = Direct number
direct other = Nowhere

abbrev pub called : Bool → Term → Callee
called true term = Through term
called false term = direct term

-- a call's function and its arguments
pub record Calling : Type 0 where
  pub callee : Callee
  pub arguments : List Term

abbrev pub linked_call : CCall → Draft Calling
linked_call call =
    joined (λ term terms. record { callee = called call.through term; arguments = terms }) (name_of call.name) (linked_all call.arguments)
