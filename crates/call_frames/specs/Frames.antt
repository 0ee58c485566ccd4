-- The frame of a function among the objects of a run (C89, 3.1.2.4 and 3.7.1).
use Rattle.std.specs.Prelude.{◌≡◌, ◌+◌, ◌<◌, ◌≤◌, ◌^◌, List, length, map, take, drop}
use Rattle.c_tree.specs.Objects.{Object}
use Rattle.c_tree.specs.Declarations.{parameter_object}
use Rattle.run_bytes.specs.Accesses.{object_at_first}
use Rattle.linked_programs.specs.declared.functions.LinkedFunction.{LinkedFunction}
use Rattle.item_deeds.specs.Forms.{forms}

-- the objects of a frame as a call makes them
abbrev pub fresh_objects : LinkedFunction → List Object
fresh_objects function = map object_at_first function.fresh

-- a function's frame stands among the objects, each of which has the form that a call gives it; those of the parameters come first
pub record HasFrame (function : LinkedFunction) (objects : List Object) : Type 0 where
  pub within : function.frame + length function.fresh ≤ length objects
  pub few : function.frame + length function.fresh < 2 ^ 64
  pub formed : forms (take (length function.fresh) (drop function.frame objects)) ≡ fresh_objects function
  pub parameters : take (length function.parameters) (fresh_objects function) ≡ map parameter_object function.parameters
