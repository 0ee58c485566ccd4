-- What linking gives of a part of a text: the data of what the part becomes, or the fact that a name in it stands for nothing.
use Rattle.std.specs.Prelude.{◌≡◌, ◌||◌, Bool, true, false, List, [], ◌∷◌, Result, Ok, Err}
use Rattle.c_tree.specs.Terms.{Term, Constant, Variable, Array, Routine, Unknown, Prefixed, Cast, Between, Choice, Element, Field, Size, Most, Magnitude}
use Rattle.c_tree.specs.Flat.{Callee, Direct, Through, Nowhere}
use Rattle.c_tree.specs.LinkedExpressions.{Calling}
use Rattle.linked_terms.specs.LinkedTerms.{terms_of}
use Rattle.linked_terms.specs.LinkedItems.{callee_of}
use Rattle.expression_linker.specs.declared.failure.LinkFail.{LinkFail}
use Rattle.expression_linker.specs.declared.failure.LinkFail.TheVariants as fail
use Rattle.expression_linker.specs.declared.calls.LinkedCalling.{LinkedCalling}

-- whether a name in a term stands for nothing
abbrev pub is_unknown : Term → Bool
is_unknown (Constant number) = false
is_unknown (Variable object access) = false
is_unknown (Array object access) = false
is_unknown (Routine number) = false
is_unknown Unknown = true
is_unknown (Prefixed operator operand) = is_unknown operand
is_unknown (Cast type operand) = is_unknown operand
is_unknown (Between operator left right) = is_unknown left || is_unknown right
is_unknown (Choice test first second) = is_unknown test || (is_unknown first || is_unknown second)
is_unknown (Element array index) = is_unknown array || is_unknown index
is_unknown (Field list name) = is_unknown list
is_unknown Size = false
is_unknown (Most which left right) = is_unknown left || is_unknown right
is_unknown (Magnitude operand) = is_unknown operand

-- whether one of some terms has such a name
abbrev pub some_unknown : List Term → Bool
some_unknown [] = false
some_unknown (first ∷ later) = is_unknown first || some_unknown later

-- a call of no function
abbrev pub is_nowhere : Callee → Bool
is_nowhere (Direct number) = false
is_nowhere (Through term) = is_unknown term
is_nowhere Nowhere = true

abbrev pub lacks_name : Calling → Bool
lacks_name calling = is_nowhere calling.callee || some_unknown calling.arguments

abbrev pub calling_of : LinkedCalling → Calling
calling_of calling = record { callee = callee_of calling.callee; arguments = terms_of calling.arguments }

-- the data stand for the part, or the part lacks a name; want of memory says nothing
abbrev pub Links : {A B : Type 0} → (A → B) → (B → Bool) → Result A LinkFail → B → Type 0
Links stands_for lacks (Ok made) part = stands_for made ≡ part
Links stands_for lacks (Err fail.Unknown) part = lacks part ≡ true
Links stands_for lacks (Err fail.Memory) part = Unit {0}
