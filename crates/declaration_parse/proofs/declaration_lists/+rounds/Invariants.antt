-- Each call takes less fuel.
use Rattle.declaration_parse.proofs.declaration_lists.+rounds.Given as goal

abbrev pub decreases-rounds : goal.decreases-rounds
decreases-rounds g l = l.fuel
