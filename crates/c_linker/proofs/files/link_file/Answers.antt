use Rattle.c_tree.specs.Terms.{Unknown}
use Rattle.first_names.specs.FirstNames.{first_of}
use Rattle.expression_linker.specs.NamesInScope.{term_or}
use Rattle.c_linker.proofs.FileLaws.{file-linked}
use Rattle.c_linker.proofs.files.link_file.Goals as goal

pub returns : goal.returns
returns c = λ own.
    file-linked (first_of c.args.numbers.now) (first_of c.args.places.now) own c.link_functions.result c.args.file.now (λ q. term_or (first_of c.link_names.new.names q) Unknown) c.as_slice.result.now c.args.functions.now
    c.link_functions.new.functions c.args.objects.now c.link_names.new.objects c.link_functions.new.objects c.as_slice.ensures c.in_ok-link_names.ensures.names c.in_ok-link_names.ensures.objects (c.link_functions.ensures own)
