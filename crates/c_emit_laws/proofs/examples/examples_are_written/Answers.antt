use Rattle.c_emit_laws.proofs.ExampleLaws.{sum_written, element_written, relation_written, call_written}
use Rattle.c_emit_laws.proofs.examples.examples_are_written.Goals as goal

pub returns : goal.returns
returns c = record { sum = sum_written; element = element_written; relation = relation_written; call = call_written }
