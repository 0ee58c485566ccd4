-- The numbers of the cases of a `switch` (C89, 3.6.4.2).
use Rattle.std.specs.Prelude.{Bool, true, ◌&&◌, ℤ, pos, ◌+ℤ◌, List, [], ◌∷◌}
use Rattle.std.specs.Ordering.{int_eq}
use Rattle.c_tree.specs.declared.statement.CCase.{CCase}

-- whether they grow by one from a first
abbrev pub numbered_from : ℤ → List CCase → Bool
numbered_from number [] = true
numbered_from number (case ∷ later) = int_eq case.number number && numbered_from (number +ℤ pos 1) later
