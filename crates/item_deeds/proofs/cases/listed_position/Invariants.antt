use Rattle.std.proofs.Common.{◌≡◌, map, drop}
use Rattle.c_tree.specs.Steps as steps
use Rattle.linked_terms.specs.LinkedItems.{case_of}
use Rattle.item_deeds.proofs.cases.listed_position.Given as goal

abbrev pub invariant-loop-case : goal.invariant-loop-case
invariant-loop-case l = steps.case_position l.number (map case_of l.cases) l.otherwise ≡ steps.case_position l.number (map case_of (drop l.case-index l.cases)) l.otherwise
