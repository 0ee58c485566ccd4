-- The call of the library that a step makes (C89, 3.3.2.2; CSTR 149, appendix on the run time library).
use Rattle.std.specs.Prelude.{◌≡◌, Some}
use Rattle.c_tree.specs.Linking as linking
use Rattle.c_tree.specs.World.{World}
use Rattle.c_tree.specs.Library.{library}
use Rattle.c_tree.specs.Steps.{Wants, View, Happening, given_that, replied, step}
use Rattle.item_deeds.specs.Calls.{LibraryCall, next_call}

-- what happens is what a caller does, by what it wants, with the reply of this call in this world; where the call breaks, it breaks as the call does
pub record IsByCall (happens : Happening) (view : View) (world : World) (call : LibraryCall) : Type 0 where
  pub wants : Wants
  pub is : happens ≡ given_that (library call.builtin world call.arguments) (replied view wants)

-- the call that the next step of a function is said to make is the one by which it does what it does
abbrev pub EachNextCallIsMade : Type 0
EachNextCallIsMade = (function : linking.Function) → (view : View) → (world : World) → (call : LibraryCall) → next_call function view world ≡ Some call → IsByCall (step function view world) view world call
