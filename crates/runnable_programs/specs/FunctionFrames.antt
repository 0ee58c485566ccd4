-- Frames of functions among the objects of a program (C89, 3.1.2.4 and 3.7.1).
use Rattle.std.specs.Prelude.{◌≡◌, ℕ, ◌+◌, ◌≤◌, List, length, map, take, drop, Some, slice_get}
use Rattle.c_tree.specs.Objects.{Object}
use Rattle.c_tree.specs.Declarations.{parameter_object}
use Rattle.c_tree.specs.Linking.{Function}
use Rattle.item_deeds.specs.Forms.{forms}

-- the frame of a function stands among objects, as a call makes it; its parameters come first
pub record FrameIn (objects : List Object) (function : Function) : Type 0 where
  pub within : function.frame + length function.fresh ≤ length objects
  pub stands : take (length function.fresh) (drop function.frame objects) ≡ function.fresh
  pub unset : forms function.fresh ≡ function.fresh
  pub parameters : take (length function.parameters) function.fresh ≡ map parameter_object function.parameters

-- so do the frames of functions
abbrev pub FramesIn : List Object → List Function → Type 0
FramesIn objects functions = (number : ℕ) → (function : Function) → slice_get functions number ≡ Some function → FrameIn objects function
