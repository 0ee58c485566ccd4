use Rattle.std.proofs.Common.{ap, ◌∙◌}
use Rattle.std.specs.Prelude.{position, unwrap_or, bytes_eq}
use Rattle.c_tree.specs.Linking.{main_name}
use Rattle.program_runner.proofs.runs.main_number.Goals as goal

pub returns-in-Some : goal.returns-in-Some
returns-in-Some c = ap (λ found. unwrap_or found 0) (c.in-Some.ensures ∙ ap (λ functions. position (λ function. bytes_eq main_name function.name) functions) c.as_slice.ensures)

pub returns-in-None : goal.returns-in-None
returns-in-None c = ap (λ found. unwrap_or found 0) (c.in-None.ensures ∙ ap (λ functions. position (λ function. bytes_eq main_name function.name) functions) c.as_slice.ensures)
