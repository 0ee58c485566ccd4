-- The external objects that data stand for (C89, 3.7.2).
use Rattle.std.specs.Prelude.{◌≡◌, ℕ, List, map, max, option_map}
use Rattle.c_tree.specs.Declarations.{number_bytes}
use Rattle.c_tree.specs.Linking.{External, external_number, or_else}
use Rattle.first_names.specs.FirstNames.{first_of}
use Rattle.first_names.specs.declared.FirstNames.{FirstNames}
use Rattle.external_linker.specs.declared.starts.StartBytes.{StartBytes}
use Rattle.external_linker.specs.declared.starts.StartBytes.TheVariants.{Numbers, Text}
use Rattle.external_linker.specs.declared.starts.ExternalObject.{ExternalObject}

-- the bytes that an object starts with
abbrev pub image_of : StartBytes → List ℕ
image_of (Numbers values) = number_bytes values.now
image_of (Text bytes) = bytes.now

abbrev pub external_of : ExternalObject → External
external_of object = record { name = object.name.now; size = object.size; image = option_map image_of object.image }

abbrev pub externals_of : List ExternalObject → List External
externals_of objects = map external_of objects

-- an object that is declared again
abbrev pub merged : External → External → External
merged known new = record known { size = max known.size new.size; image = or_else known.image new.image }

-- a table gives each object its number
abbrev pub AreNumbered : FirstNames ℕ → List External → Type 0
AreNumbered numbers objects = (q : List ℕ) → first_of numbers q ≡ external_number objects q
