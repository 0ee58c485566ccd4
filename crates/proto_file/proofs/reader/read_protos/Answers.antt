-- What the lines are read as is what the text is.
use Rattle.proto_file.proofs.ReadSteps.{file_read, file_alone, file_refused, file_whole}
use Rattle.proto_file.proofs.reader.read_protos.Goals as goal

pub returns : goal.returns
returns c = record {
  read = file_read c.args.bytes.now c.read_lines.result c.read_lines.ensures.read;
  alone = file_alone c.args.bytes.now c.read_lines.result c.read_lines.ensures.read;
  refused = file_refused c.args.bytes.now c.read_lines.result c.read_lines.ensures.refused;
  whole = file_whole c.args.bytes.now c.read_lines.result c.read_lines.ensures.refused;
}
