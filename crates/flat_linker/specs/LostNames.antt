-- Items that link nothing: a name in them stands for nothing, or the label that they go to is not there (C89, 3.1.2 and 3.6.6.1).
use Rattle.std.specs.Prelude.{Bool, true, false, ◌||◌, List, [], ◌∷◌, Option, Some, None}
use Rattle.c_tree.specs.Terms.{Term}
use Rattle.c_tree.specs.Flat.{Flat, Assign, Branch, Select, Jump, Invoke, Return, ReturnAnswer, Nothing, Lost, Use, Ignored, Kept, Returned}
use Rattle.expression_linker.specs.LinkedParts.{is_unknown, some_unknown, is_nowhere}

abbrev pub lacks_target : Use → Bool
lacks_target Ignored = false
lacks_target (Kept target) = is_unknown target
lacks_target Returned = false

abbrev pub lacks_value : Option Term → Bool
lacks_value None = false
lacks_value (Some value) = is_unknown value

abbrev pub is_lost : Flat → Bool
is_lost (Assign target value) = is_unknown target || is_unknown value
is_lost (Branch test on off) = is_unknown test
is_lost (Select value cases otherwise) = is_unknown value
is_lost (Jump position) = false
is_lost (Invoke how callee arguments) = lacks_target how || (is_nowhere callee || some_unknown arguments)
is_lost (Return value) = lacks_value value
is_lost ReturnAnswer = false
is_lost Nothing = false
is_lost Lost = true

-- whether one of some items does
abbrev pub some_lost : List Flat → Bool
some_lost [] = false
some_lost (first ∷ later) = is_lost first || some_lost later
