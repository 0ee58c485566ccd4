use Rattle.std.proofs.Common.{ap, ◌∙◌}
use Rattle.name_table.specs.Named.{texts}
use Rattle.definition_judge.specs.KnownFunctions.{seen_among}
use Rattle.definition_judge.proofs.GivenLaws.{are_given}
use Rattle.definition_judge.proofs.FunctionLemmas.{none_defined}
use Rattle.definition_judge.proofs.given.given_names.Goals as goal

pub returns-clause-given : goal.returns-clause-given
returns-clause-given c =
    are_given c.args.unit.now c.args.facts.now _ c.requires.facts
    (λ x. c.in_ok-seen.ensures x ∙ ap (λ xs. seen_among c.args.facts.now xs x) (ap texts c.as_slice.ensures.value ∙ c.in_ok-listed.ensures))

pub returns-clause-functions : goal.returns-clause-functions
returns-clause-functions c = λ x. none_defined _ x c.new.ensures.empty
