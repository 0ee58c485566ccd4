-- The forms of objects: how many bytes or values each has, and of what type the values are (C89, 3.1.2.5).
use Rattle.std.specs.Prelude.{◌≡◌, List, map}
use Rattle.c_tree.specs.Objects.{Object}
use Rattle.run_bytes.specs.Layout.{unset_object}

-- the objects as if nothing of them were set
abbrev pub forms : List Object → List Object
forms objects = map unset_object objects

-- the objects have the same numbers of bytes or values, of the same types
pub record SameForms (old new : List Object) : Type 0 where
  pub same : forms new ≡ forms old
