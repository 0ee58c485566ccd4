use Rattle.offset_classes.proofs.Tying.{told_true}
use Rattle.offset_classes.specs.Standing.{links_of}
use Rattle.placed_numbers.proofs.Told.{rooted, within_places, solved_classes, first_contradiction, say, say_contradicted}
use Rattle.placed_numbers.proofs.judging.judge_numbers.Goals as goal

pub solve-requires-clause-near : goal.solve-requires-clause-near
solve-requires-clause-near c = told_true _ c.is_near.result c.if-not-is_near.false c.is_near.ensures

pub standing_of-requires-clause-rooted : goal.standing_of-requires-clause-rooted
standing_of-requires-clause-rooted c =
    rooted c.args.count (links_of c.args.equations.now) c.in-Solved.places.items (solved_classes _ _ _ c.in-Solved.places c.in-Solved.is c.in_ok-places.ensures)

pub standing_of-requires-clause-within : goal.standing_of-requires-clause-within
standing_of-requires-clause-within c =
    within_places c.args.count (links_of c.args.equations.now) c.in-Solved.places.items c.args.firsts.now
    (solved_classes _ _ _ c.in-Solved.places c.in-Solved.is c.in_ok-places.ensures) c.requires.within

pub returns-in-Solved : goal.returns-in-Solved
returns-in-Solved c =
    say c.args.count (links_of c.args.equations.now) c.args.firsts.now c.in-Solved.places.items c.standing_of.result
    (solved_classes _ _ _ c.in-Solved.places c.in-Solved.is c.in_ok-places.ensures) c.standing_of.ensures

pub returns-in-Contradicts : goal.returns-in-Contradicts
returns-in-Contradicts c =
    say_contradicted c.args.count (links_of c.args.equations.now) c.args.firsts.now c.in-Contradicts.field-0
    (first_contradiction _ _ _ c.in-Contradicts.field-0 c.in-Contradicts.is c.in_ok-places.ensures)
