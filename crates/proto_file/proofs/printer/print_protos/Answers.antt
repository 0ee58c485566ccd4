-- The lines spell the prototypes, where a line may say each.
use Rattle.proto_file.proofs.PartSteps.{spelled_alone}
use Rattle.proto_file.proofs.printer.print_protos.Goals as goal

pub returns-clause-spelled : goal.returns-clause-spelled
returns-clause-spelled c = λ told. spelled_alone c.in_ok-text.text.items c.args.protos.now c.in_ok-text.ensures told
