use Rattle.std.proofs.Common.{false, nat_lt, length, sym, ap, ◌∙◌, if◌then◌else◌}
use Rattle.file_parse.proofs.NestLemmas.{passes}
use Rattle.file_parse.proofs.nests.OpenBlocks.pass.Goals as goal

pub returns-then-opens : goal.returns-then-opens
returns-then-opens c =
    passes c.args.statement.now c.in_ok-opens.opens c.args.self.now c.close_by_body.new.self c.close_by_label.new.self c.open_by_body.new.self
    c.close_by_body.ensures c.close_by_label.ensures c.in_ok-opens.ensures c.are_too_many.result
    (λ blocks counts. c.are_too_many.ensures blocks counts ∙ sym (ap (λ b. if b then nat_lt 64 (length blocks) else false) c.if-opens.true))

pub returns-else-opens : goal.returns-else-opens
returns-else-opens c =
    passes c.args.statement.now c.in_ok-opens.opens c.args.self.now c.close_by_body.new.self c.close_by_label.new.self c.open_by_body.new.self
    c.close_by_body.ensures c.close_by_label.ensures c.in_ok-opens.ensures c.in_ok-opens.opens
    (λ blocks counts. c.if-opens.false ∙ sym (ap (λ b. if b then nat_lt 64 (length blocks) else false) c.if-opens.false))
