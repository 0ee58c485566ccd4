use Rattle.edit_rules.specs.Writer.{value_of}
use Rattle.edit_rules.proofs.ListedSteps.{puts-listed}
use Rattle.edit_rules.proofs.list_writer.ListWriter.put.Goals as goal

pub returns-clause-listed : goal.returns-clause-listed
returns-clause-listed c =
    puts-listed c.args.self.now c.args.line.now (value_of c.args.item) c.put_item.result c.put_item.new.self c.put_item.new.line c.put_item.ensures.puts c.put_item.ensures.blank
