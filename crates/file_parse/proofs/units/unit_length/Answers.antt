use Rattle.std.proofs.Common.{sym, ap, ◌∙◌, arith}
use Rattle.fortran_text.specs.CharactersOfText.{is_end}
use Rattle.file_parse.proofs.UnitLemmas.{ends_at, goes_on_at, none_at}
use Rattle.file_parse.proofs.units.unit_length.Goals as goal

pub returns-then-is_end-clause-value : goal.returns-then-is_end-clause-value
returns-then-is_end-clause-value c =
    let one = ends_at c.args.sources.now c.loop-place.place c.index-sources-place.result c.loop-place-test.true c.index-sources-place.is
    (sym (c.is_end.ensures ∙ ap is_end c.as_slice.ensures) ∙ c.if-is_end.true) in
    omega (arith, c.loop-place.invariant)

pub loop-place-preserved : goal.loop-place-preserved
loop-place-preserved c =
    let more = goes_on_at c.args.sources.now c.loop-place.place c.index-sources-place.result c.loop-place-test.true c.index-sources-place.is
    (sym (c.is_end.ensures ∙ ap is_end c.as_slice.ensures) ∙ c.if-is_end.false) in
    omega (arith, c.loop-place.invariant)

pub returns-clause-value : goal.returns-clause-value
returns-clause-value c =
    let none = none_at c.args.sources.now c.loop-place.place (omega arith) in
    omega (arith, c.loop-place.invariant)
