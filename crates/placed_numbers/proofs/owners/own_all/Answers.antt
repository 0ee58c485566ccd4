use Rattle.std.proofs.Common.{◌<◌, get_or, length, arith, refl, sym, subst}
use Rattle.offset_classes.proofs.Tying.{told_true, told_false}
use Rattle.placed_numbers.specs.Owned.{root_at, IsPut, HasOther, AreOwners}
use Rattle.placed_numbers.proofs.Lists.{in_at, taken_all}
use Rattle.placed_numbers.proofs.Owning.{owning_none, owning_more, owning_two}
use Rattle.placed_numbers.proofs.owners.own_all.Goals as goal

pub loop-first-init : goal.loop-first-init
loop-first-init c = owning_none c.args.places.now c.args.firsts.now c.args.owners.now c.requires.none

pub root_of-requires : goal.root_of-requires
root_of-requires c =
    c.requires.within.each (get_or c.args.firsts.now c.loop-first.first-index 0)
    (in_at c.args.firsts.now c.loop-first.first-index (get_or c.args.firsts.now c.loop-first.first-index 0) 0 c.loop-first-test.true refl)

pub own-requires : goal.own-requires
own-requires c =
    let f = get_or c.args.firsts.now c.loop-first.first-index 0 in
    let within : f < length c.args.places.now = c.requires.within.each f (in_at c.args.firsts.now c.loop-first.first-index f 0 c.loop-first-test.true refl) in
    subst (λ r. r < length c.loop-first.owners) (sym c.root_of.ensures)
    (subst (λ n. root_at c.args.places.now f < n) (sym c.loop-first.invariant.same_length) (c.requires.rooted.each f within))

pub loop-first-preserved : goal.loop-first-preserved
loop-first-preserved c =
    owning_more c.args.places.now c.args.firsts.now c.loop-first.owners c.own.new.owners c.loop-first.first-index (get_or c.args.firsts.now c.loop-first.first-index 0) 0
    c.loop-first-test.true refl c.loop-first.invariant
    (subst (λ r. IsPut c.loop-first.owners c.own.new.owners r (get_or c.args.firsts.now c.loop-first.first-index 0)) c.root_of.ensures
    (told_true _ c.own.result c.if-not-own.false c.own.ensures.put))

pub returns-then-not-own-clause-joined : goal.returns-then-not-own-clause-joined
returns-then-not-own-clause-joined c =
    owning_two c.args.places.now c.args.firsts.now c.loop-first.owners c.loop-first.first-index (get_or c.args.firsts.now c.loop-first.first-index 0) 0
    c.loop-first-test.true refl c.loop-first.invariant
    (subst (λ r. HasOther c.loop-first.owners r (get_or c.args.firsts.now c.loop-first.first-index 0)) c.root_of.ensures
    (told_false _ c.own.result c.if-not-own.true c.own.ensures.other))

pub returns-clause-owned : goal.returns-clause-owned
returns-clause-owned c =
    subst (λ gs. AreOwners c.args.places.now gs c.loop-first.owners) (taken_all c.args.firsts.now c.loop-first.first-index (omega arith)) c.loop-first.invariant
