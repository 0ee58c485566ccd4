use Rattle.std.proofs.Common.{arith}
use Rattle.first_names.specs.FirstNames.{first_of}
use Rattle.c_linker.proofs.FileLaws.{files-on, files-lost, files-end}
use Rattle.c_linker.proofs.files.link_by_names.Goals as goal

pub returns-in_err-link_file : goal.returns-in_err-link_file
returns-in_err-link_file c = λ own.
    files-lost (first_of c.args.numbers.now) (first_of c.args.places.now) own _ c.from_residual.result _ c.loop-file.file-index c.args.files.now c.file-item.result c.args.functions.now c.loop-file.functions c.link_file.new.functions
    c.link_file.new.functions c.args.objects.now c.loop-file.objects c.link_file.new.objects c.link_file.new.objects c.loop-file-test.true c.file-item.is (c.loop-file.invariant own) c.from_residual.ensures.1 (c.in_err-link_file.ensures own)

pub loop-file-preserved : goal.loop-file-preserved
loop-file-preserved c = λ own.
    files-on (first_of c.args.numbers.now) (first_of c.args.places.now) own _ c.loop-file.file-index c.args.files.now c.file-item.result c.args.functions.now c.loop-file.functions c.link_file.new.functions c.args.objects.now c.loop-file.objects
    c.link_file.new.objects c.loop-file-test.true c.file-item.is (c.loop-file.invariant own) (c.in_ok-link_file.ensures own)

pub returns : goal.returns
returns c = λ own.
    files-end (first_of c.args.numbers.now) (first_of c.args.places.now) own _ c.loop-file.file-index c.args.files.now c.args.functions.now c.loop-file.functions c.args.objects.now c.loop-file.objects (omega arith) (c.loop-file.invariant own)
