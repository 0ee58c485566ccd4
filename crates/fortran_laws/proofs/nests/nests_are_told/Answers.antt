use Rattle.fortran_laws.proofs.NestLaws.{none_at_first, known_behind, open_is_within, within_is_open, range_of_loop, one_nest, innermost_first}
use Rattle.fortran_laws.proofs.nests.nests_are_told.Goals as goal

pub returns : goal.returns
returns c = record {
  first = none_at_first;
  behind = known_behind;
  within = open_is_within;
  open_there = within_is_open;
  of_a_loop = range_of_loop;
  one_nest = one_nest;
  innermost = innermost_first;
}
