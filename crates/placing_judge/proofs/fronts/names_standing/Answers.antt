use Rattle.placing_judge.proofs.FrontLaws.{below, within, tells}
use Rattle.placing_judge.proofs.NumberingLaws.{said_kept}
use Rattle.placing_judge.proofs.fronts.names_standing.Goals as goal

pub judge_numbers-requires-clause-below : goal.judge_numbers-requires-clause-below
judge_numbers-requires-clause-below c =
    below c.number_names.new.numbers c.in_ok-firsts.ensures.numbers c.count.result c.count.ensures _ _ _ c.as_slice.ensures.value
    (said_kept _ _ c.in_ok-firsts.ensures.keeps _ _ c.in_ok-numbered.ensures.said) _ _ _ c.as_slice-2.ensures.value c.in_ok-firsts.ensures.said

pub judge_numbers-requires-clause-within : goal.judge_numbers-requires-clause-within
judge_numbers-requires-clause-within c =
    within c.number_names.new.numbers c.in_ok-firsts.ensures.numbers c.count.result c.count.ensures _ _ _ c.as_slice.ensures.value
    (said_kept _ _ c.in_ok-firsts.ensures.keeps _ _ c.in_ok-numbered.ensures.said) _ _ _ c.as_slice-2.ensures.value c.in_ok-firsts.ensures.said

pub returns : goal.returns
returns c =
    tells c.number_names.new.numbers c.in_ok-firsts.ensures.numbers c.count.result c.count.ensures _ _ _ c.as_slice.ensures.value
    (said_kept _ _ c.in_ok-firsts.ensures.keeps _ _ c.in_ok-numbered.ensures.said) _ _ _ c.as_slice-2.ensures.value c.in_ok-firsts.ensures.said
    c.judge_numbers.result c.judge_numbers.ensures
