-- The uses of names as the code keeps them.
use Rattle.std.specs.Prelude.{◌≡◌, List, [], ◌∷◌, ◌++◌, map, if◌then◌else◌}
use Rattle.f_tree.specs.Values.{Bytes}
use Rattle.f_tree.specs.Uses as written
use Rattle.f_tree.specs.Uses.{is_among}
use Rattle.f_tree.specs.declared.statements.Declarator.{Declarator}
use Rattle.f_tree.specs.Attributes.{Shaped}
use Rattle.name_table.specs.declared.name_set.NameSet.{NameSet}
use Rattle.name_table.specs.Named.{names_in, IsNameSet}
use Rattle.name_uses.specs.declared.uses.Use.{Use}
use Rattle.name_uses.specs.declared.uses.Manner.{Manner}
use Rattle.name_uses.specs.declared.uses.Manner.TheVariants as manner

unfoldable pub manner_in : Manner → written.Manner
manner_in manner.Alone = written.Alone
manner_in manner.WithList = written.WithList
manner_in manner.Called = written.Called
manner_in manner.Declared = written.Declared

unfoldable pub use_of : Use → written.Use
use_of u = record { name = u.name.now; manner = manner_in u.manner }

abbrev pub used_in : List Use → List written.Use
used_in us = map use_of us

-- a use unless its name is hidden
unfoldable pub unless_hidden : List Bytes → written.Use → List written.Use
unless_hidden hidden u = if is_among u.name hidden then [] else u ∷ []

-- names are put behind those of a set
pub record Adds (before after : NameSet) (names : List Bytes) : Type 0 where
  pub put : names_in after ≡ names_in before ++ names
  pub is_set : IsNameSet after

unfoldable pub shape_of : Declarator → Shaped
shape_of d = record { name = d.name; dimensions = d.dimensions }
