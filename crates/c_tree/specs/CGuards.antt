-- Rules on a tree that its text keeps (C89, 3.5.7 and 3.6.1): images that are no longer than their arrays, and labels
-- that stand once where they are named.
use Rattle.std.specs.Prelude.{ℕ, nat_le, Bool, true, false, ◌&&◌, List, [], ◌∷◌, length, Option, Some, None}
use Rattle.std.specs.List.{list_all}
use Rattle.c_tree.specs.declared.declaration.CLocal.{CLocal}
use Rattle.c_tree.specs.declared.declaration.CLocal.TheVariants as local
use Rattle.c_tree.specs.declared.file.CObject.{CObject}
use Rattle.c_tree.specs.declared.file.CObject.TheVariants as object
use Rattle.c_tree.specs.declared.file.CFunction.{CFunction}
use Rattle.c_tree.specs.declared.file.CFile.{CFile}
use Rattle.c_tree.specs.Access.{fields_of}
use Rattle.c_tree.specs.CLabels.{labels_meet}

-- an image, if there is one, is no longer than its array
abbrev pub image_fits : {A : Type 0} → ℕ → Option (List A) → Bool
image_fits n None = true
image_fits n (Some image) = nat_le (length image) n

-- an image in braces has at least one value
abbrev pub has_value : {A : Type 0} → Option (List A) → Bool
has_value None = true
has_value (Some []) = false
has_value (Some (first ∷ later)) = true

abbrev pub object_fits : CObject → Bool
object_fits (object.Integers name n image) = image_fits n image && has_value image
object_fits (object.Chars name n image) = image_fits n image

-- a `char` array without a number has a string, and a list block at least one field and no more than its list
abbrev pub local_fits : CLocal → Bool
local_fits (local.StaticNumbers of name n image) = image_fits n image && has_value image
local_fits (local.StaticChars name (Some n) image) = image_fits n image
local_fits (local.StaticChars name None None) = false
local_fits (local.StaticList of name []) = false
local_fits (local.StaticList of name (first ∷ later)) = nat_le (length (first ∷ later)) (length (fields_of of))
local_fits other = true

abbrev pub function_fits : CFunction → Bool
function_fits function = list_all local_fits function.locals && labels_meet function.body

abbrev pub file_fits : CFile → Bool
file_fits file = list_all object_fits file.objects && list_all function_fits file.functions
