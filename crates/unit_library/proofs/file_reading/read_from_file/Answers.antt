use Rattle.unit_library.proofs.ArgumentLaws.{four-given}
use Rattle.unit_library.proofs.FileInputLaws.{items-read}
use Rattle.unit_library.proofs.file_reading.read_from_file.Goals as goal

pub returns : goal.returns
returns c =
    items-read _ _ c.args.input c.do_lio-passage.new.input c.args.run.now c.do_lio-passage.new.run c.do_lio-passage.result _ c.behind_items.result c.passed.result
    (four-given c.args.values.now c.argument-kind.result c.argument-count.result c.argument-first.result c.argument-size.result c.argument-kind.ensures c.argument-count.ensures
    c.argument-first.ensures c.argument-size.ensures) c.requires.held c.behind_items.ensures c.passed.ensures c.do_lio-passage.ensures
