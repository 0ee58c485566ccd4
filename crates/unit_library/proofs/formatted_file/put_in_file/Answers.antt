use Rattle.std.proofs.Common.{refl}
use Rattle.unit_library.proofs.ArgumentLaws.{three-given}
use Rattle.unit_library.proofs.FileLaws.{items-put}
use Rattle.unit_library.proofs.formatted_file.put_in_file.Goals as goal

pub returns : goal.returns
returns c =
    items-put _ _ c.args.held _ c.args.run.now c.do_fio-passage.new.run c.do_fio-passage.result _ c.behind_items.result c.passed.result
    (three-given c.args.values.now c.argument-count.result c.argument-first.result c.argument-size.result c.argument-count.ensures c.argument-first.ensures c.argument-size.ensures) c.requires
    c.behind_items.ensures c.passed.ensures refl c.do_fio-passage.ensures
