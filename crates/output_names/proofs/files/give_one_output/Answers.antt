use Rattle.std.proofs.Common.{ap, ◌∙◌}
use Rattle.std.specs.Prelude.{bytes_eq, codes}
use Rattle.output_names.specs.OutputNames.{stem_of}
use Rattle.output_names.proofs.PlaceLemmas.{same_behind}
use Rattle.output_names.proofs.files.give_one_output.Goals as goal

pub returns : goal.returns
returns c =
    c.eq.ensures ∙ (ap (λ stem. bytes_eq stem c.stem_of-2.result.now) c.stem_of.ensures
    ∙ (ap (λ stem. bytes_eq (stem_of c.args.one.now) stem) c.stem_of-2.ensures ∙ same_behind (stem_of c.args.one.now) (stem_of c.args.other.now) (codes ".c")))
