use Rattle.std.proofs.Common.{lit≤, refl}
use Rattle.offset_classes.specs.Standing.{reach, links_of}
use Rattle.offset_classes.proofs.Checked.{below_checked}
use Rattle.judge_tests.proofs.equations.numbers_stand_in_classes.Goals as goal

pub solve-requires-clause-below : goal.solve-requires-clause-below
solve-requires-clause-below g c = below_checked 4 _ refl

pub solve-requires-clause-near : goal.solve-requires-clause-near
unfolding reach links_of
solve-requires-clause-near g c = lit≤ tt

pub solve-requires-2-clause-below : goal.solve-requires-2-clause-below
solve-requires-2-clause-below g c = below_checked 3 _ refl

pub solve-requires-2-clause-near : goal.solve-requires-2-clause-near
unfolding reach links_of
solve-requires-2-clause-near g c = lit≤ tt
