-- The equations of a unit as links between its names. ANSI X3.9-1978, sections 8.2, 8.3 and 17.1.
use Rattle.std.specs.Prelude.{List, [], ◌∷◌}
use Rattle.offset_classes.specs.f_tree.Values.{Bytes}
use Rattle.declaration_rows.specs.PlacingRows.{Equation}
use Rattle.offset_classes.specs.Standing.{Link}

abbrev pub link_by : Equation → Link Bytes
link_by e = record { one = e.one; other = e.other; by = e.by }

unfoldable pub links_by : List Equation → List (Link Bytes)
links_by [] = []
links_by (e ∷ es) = link_by e ∷ links_by es
