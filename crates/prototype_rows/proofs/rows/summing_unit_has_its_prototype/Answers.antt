use Rattle.std.proofs.Common.{refl}
use Rattle.prototypes.specs.f_tree.Meaning.{everything}
use Rattle.prototypes.specs.f_tree.Runs.{runs_opened}
use Rattle.prototypes.specs.c_text.Opened.{printed_opened}
use Rattle.prototypes.specs.faithful.Opened.{faithful_opened}
use Rattle.prototypes.specs.FilePrototypes.{prototype_of, prototypes_by, unit_prototypes, file_prototypes}
use Rattle.prototypes.specs.PrototypeText.{prototype_line}
use Rattle.prototype_rows.specs.SummingSource.{summing_opened}
use Rattle.prototype_rows.proofs.rows.summing_unit_has_its_prototype.Goals as goal

pub returns-clause-prototypes : goal.returns-clause-prototypes
unfolding everything runs_opened faithful_opened prototype_of prototypes_by unit_prototypes file_prototypes summing_opened
returns-clause-prototypes c = refl

pub returns-clause-text : goal.returns-clause-text
unfolding printed_opened prototype_line summing_opened
returns-clause-text c = refl
