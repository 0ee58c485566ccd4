use Rattle.offset_classes.proofs.Tying.{told_true, told_false}
use Rattle.placed_numbers.proofs.Owning.{owned_within}
use Rattle.placed_numbers.proofs.Clearing.{clear_by, not_clear}
use Rattle.placed_numbers.proofs.clear.are_clear_among.Goals as goal

pub returns-then-not-own_all : goal.returns-then-not-own_all
returns-then-not-own_all c = not_clear c.args.places.now c.args.firsts.now (told_false _ c.own_all.result c.if-not-own_all.true c.own_all.ensures.joined)

pub are_behind-requires-clause-each : goal.are_behind-requires-clause-each
are_behind-requires-clause-each c =
    let are = told_true _ c.own_all.result c.if-not-own_all.false c.own_all.ensures.owned in are.same_length

pub are_behind-requires-clause-owned : goal.are_behind-requires-clause-owned
are_behind-requires-clause-owned c =
    owned_within c.args.places.now c.args.firsts.now c.own_all.new.owners c.requires.within (told_true _ c.own_all.result c.if-not-own_all.false c.own_all.ensures.owned)

pub returns : goal.returns
returns c =
    clear_by c.args.places.now c.args.firsts.now c.own_all.new.owners (told_true _ c.own_all.result c.if-not-own_all.false c.own_all.ensures.owned)
    c.are_behind.result c.are_behind.ensures.behind c.are_behind.ensures.before
