use Rattle.std.proofs.Common.{sym, subst, ◌∙◌}
use Rattle.file_parse.specs.OpenBlocks.{Counts}
use Rattle.file_parse.proofs.NestLemmas.{do_closes, do_ended}
use Rattle.file_parse.proofs.nests.OpenBlocks.close_by_end_do.Goals as goal

pub returns-then-not-ends_loop : goal.returns-then-not-ends_loop
returns-then-not-ends_loop c =
    λ blocks counts.
    subst (λ bs. Counts bs c.close_unlabelled.new.self) (sym (do_closes c.args.label blocks (sym (c.ends_loop.ensures blocks counts) ∙ c.if-not-ends_loop.true)))
    (c.close_unlabelled.ensures blocks counts)

pub returns-else-not-ends_loop : goal.returns-else-not-ends_loop
returns-else-not-ends_loop c =
    λ blocks counts.
    subst (λ bs. Counts bs c.args.self.now) (sym (do_ended c.args.label blocks (sym (c.ends_loop.ensures blocks counts) ∙ c.if-not-ends_loop.false))) counts
