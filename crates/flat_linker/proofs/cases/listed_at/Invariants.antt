use Rattle.std.proofs.Common.{◌≡◌, ◌++◌, map, drop}
use Rattle.c_tree.specs.FlatForm.{cases_from}
use Rattle.linked_terms.specs.LinkedItems.{case_of}
use Rattle.flat_linker.proofs.cases.listed_at.Given as goal

abbrev pub invariant-loop-case : goal.invariant-loop-case
invariant-loop-case l = cases_from l.initial.position l.cases ≡ map case_of l.made ++ cases_from l.position (drop l.case-index l.cases)
