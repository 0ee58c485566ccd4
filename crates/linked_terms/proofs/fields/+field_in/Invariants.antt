use Rattle.std.proofs.Common.{length}
use Rattle.linked_terms.proofs.fields.+field_in.Given as goal

abbrev pub decreases-field_in : goal.decreases-field_in
decreases-field_in l = length l.fields.now
