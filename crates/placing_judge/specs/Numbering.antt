-- Equations between names, and names, by the numbers of a table. ANSI X3.9-1978, section 17.1.
use Rattle.std.specs.Prelude.{◌≡◌, ℕ, ◌<◌, List, map}
use Rattle.f_tree.specs.Values.{Bytes}
use Rattle.declaration_rows.specs.PlacingRows as placing
use Rattle.offset_classes.specs.declared.nodes.Equation.{Equation}
use Rattle.offset_classes.specs.Standing.{link_of, links_of, AreBelow}
use Rattle.placing_orders.specs.Numbered.{named}
use Rattle.placed_numbers.specs.Owned.{AreWithin}
use Rattle.unit_equations.specs.declared.numbers.Numbers.{Numbers}
use Rattle.unit_equations.specs.NumbersTold.{count_of, name_at}

-- what an equation between numbers says of their names
abbrev pub said_by : Numbers → Equation → placing.Equation
said_by t e = named (name_at t) (link_of e)

pub record IsSaid (t : Numbers) (e : Equation) (x : placing.Equation) : Type 0 where
  pub one_in : e.one < count_of t
  pub other_in : e.other < count_of t
  pub is : said_by t e ≡ x

pub record AreSaid (t : Numbers) (es : List Equation) (xs : List placing.Equation) : Type 0 where
  pub below : AreBelow (count_of t) (links_of es)
  pub are : map (said_by t) es ≡ xs

pub record AreNamed (t : Numbers) (fs : List ℕ) (xs : List Bytes) : Type 0 where
  pub within : AreWithin (count_of t) fs
  pub are : map (name_at t) fs ≡ xs
