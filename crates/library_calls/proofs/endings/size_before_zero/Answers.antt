use Rattle.std.proofs.Common.{Some, ap, sym, ◌∙◌, arith}
use Rattle.library_calls.proofs.NameLemmas.{search-starts, search-goes_on, search-finds, search-fails, search-ends}
use Rattle.library_calls.proofs.endings.size_before_zero.Goals as goal

pub loop-place-init : goal.loop-place-init
loop-place-init c cells is = search-starts cells c.args.offset

pub loop-place-preserved : goal.loop-place-preserved
loop-place-preserved c cells is =
    search-goes_on cells c.args.offset c.loop-place.place (c.loop-place.invariant cells is) (ap Some (sym c.if-zero.false) ∙ c.in-Some.ensures cells is)

pub returns-then-zero : goal.returns-then-zero
returns-then-zero c cells is end =
    search-finds cells c.args.offset c.loop-place.place (c.loop-place.invariant cells is) (ap Some (sym c.if-zero.true) ∙ c.in-Some.ensures cells is)

pub returns-in-None : goal.returns-in-None
returns-in-None c cells is end = search-fails cells c.args.offset c.loop-place.place (c.loop-place.invariant cells is) (c.in-None.ensures cells is)

pub returns : goal.returns
returns c cells is end = search-ends cells c.args.offset c.loop-place.place (c.loop-place.invariant cells is) (omega arith)
