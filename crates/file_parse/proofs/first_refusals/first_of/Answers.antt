use Rattle.std.proofs.Common.{subst}
use Rattle.file_parse.specs.FirstRefusals.{IsFirstAmong}
use Rattle.file_parse.proofs.FirstRefusalLemmas.{first_is, second_is}
use Rattle.file_parse.proofs.first_refusals.first_of.Goals as goal

pub returns-then-is_not_after : goal.returns-then-is_not_after
returns-then-is_not_after c =
    λ rows more one other.
    first_is c.in-Some.found c.in-Some-other.next rows more (c.is_not_after.ensures.is c.if-is_not_after.true)
    (subst (λ o. IsFirstAmong rows o) c.in-Some.is one) (subst (λ o. IsFirstAmong more o) c.in-Some-other.is other)

pub returns-else-is_not_after : goal.returns-else-is_not_after
returns-else-is_not_after c =
    λ rows more one other.
    second_is c.in-Some.found c.in-Some-other.next rows more (c.is_not_after.ensures.is_not c.if-is_not_after.false)
    (subst (λ o. IsFirstAmong rows o) c.in-Some.is one) (subst (λ o. IsFirstAmong more o) c.in-Some-other.is other)
