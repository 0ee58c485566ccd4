-- Two runs of a worked pair, side by side.
use Rattle.std.specs.Prelude.{ℕ, List}
use Rattle.faithful.specs.f_tree.Facts.{ProgramUnit}
use Rattle.faithful.specs.f_tree.Meaning.{RunState, units_of, ftn}
use Rattle.faithful.specs.f_tree.Runs.{no_options}
use Rattle.faithful.specs.c_tree.Meaning.{meaning}
use Rattle.faithful.specs.SameState.{Same}
use Rattle.faithful.specs.Signatures.{EachHasSignatures}
use Rattle.faithful_rows.specs.Pairs.{Pair}

abbrev pub units_in_pair : Pair → List ProgramUnit
units_in_pair pair = units_of no_options pair.files

abbrev pub source_after : Pair → ℕ → RunState
source_after pair n = ftn pair.setting (units_in_pair pair) pair.units n

-- after n statement steps and m flat steps the two runs are in one state
abbrev pub AreAlike : Pair → ℕ → ℕ → Type 0
AreAlike pair n m = Same (units_in_pair pair) pair.setting pair.texts (source_after pair n) (meaning pair.texts pair.units m)

-- the texts have exactly the functions and the external objects of the files
abbrev pub AreNamed : Pair → Type 0
AreNamed pair = EachHasSignatures no_options pair.files.files pair.texts
