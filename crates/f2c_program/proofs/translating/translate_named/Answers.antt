use Rattle.std.proofs.Common.{sym, subst}
use Rattle.std.specs.List.{All}
use Rattle.f2c_outside.specs.Shelf.{IsFile}
use Rattle.translate_command.specs.declared.job.Job.{Job}
use Rattle.f2c_program.proofs.PlaceLemmas.{forms_are_files, olds_are_files}
use Rattle.f2c_program.proofs.translating.translate_named.Goals as goal

pub translate_onto-requires-clause-files : goal.translate_onto-requires-clause-files
translate_onto-requires-clause-files g c =
    subst (λ (j : Job). All IsFile j.forms) (sym c.in-Ok.ensures) (forms_are_files c.args.words.now c.args.asked.now)

pub translate_onto-requires-clause-olds : goal.translate_onto-requires-clause-olds
translate_onto-requires-clause-olds g c =
    subst (λ (j : Job). All IsFile j.olds) (sym c.in-Ok.ensures) (olds_are_files c.args.words.now c.args.asked.now)
