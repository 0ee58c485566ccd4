use Rattle.std.proofs.Common.{◌≡◌, ◌++◌, map, drop}
use Rattle.lowered_text.specs.Texts.{marked_of}
use Rattle.main_translation.specs.Outlined.{whiles_in}
use Rattle.unit_contents.proofs.firsts.whiles_in.Given as goal

-- those so far, and those of the marks that are left
abbrev pub invariant-loop-marked : goal.invariant-loop-marked
invariant-loop-marked l = l.places.items ++ whiles_in (map marked_of (drop l.marked-index l.marks)) ≡ whiles_in (map marked_of l.marks)
