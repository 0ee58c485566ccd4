use Rattle.std.proofs.lemmas.Result.{IfOk-weaker}
use Rattle.loop_entries.proofs.NestLemmas.{nested_both, nested_not}
use Rattle.loop_entries.proofs.nested.are_nested.Goals as goal

pub returns-then-not-each_ends : goal.returns-then-not-each_ends
returns-then-not-each_ends c = λ p names reads ends. nested_not p c.each_ends.result (c.each_ends.ensures p names reads ends) c.if-not-each_ends.true

pub returns : goal.returns
returns c =
    IfOk-weaker c.are_contained.result _ _
    (λ contained told p names reads ends. nested_both p c.each_ends.result contained (c.each_ends.ensures p names reads ends) c.if-not-each_ends.false (told p names reads ends)) c.are_contained.ensures
