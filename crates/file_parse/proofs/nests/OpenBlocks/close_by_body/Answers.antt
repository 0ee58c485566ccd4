use Rattle.std.proofs.Common.{sym, subst, ap, ◌∙◌}
use Rattle.fortran_grammar.specs.SyntaxRows.{closed_by_body}
use Rattle.file_parse.specs.OpenBlocks.{Counts}
use Rattle.file_parse.proofs.NestLemmas.{by_end_do}
use Rattle.file_parse.proofs.nests.OpenBlocks.close_by_body.Goals as goal

pub returns-in-EndDo : goal.returns-in-EndDo
returns-in-EndDo c =
    λ blocks counts.
    subst (λ bs. Counts bs c.close_by_end_do.new.self) (sym (ap (λ b. closed_by_body b c.args.label blocks) c.in-EndDo.is ∙ by_end_do c.args.label blocks))
    (c.close_by_end_do.ensures blocks counts)
