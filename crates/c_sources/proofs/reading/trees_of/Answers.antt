use Rattle.std.proofs.Common.{◌≡◌, sym, subst, rules, ◌∙◌, arith, Err}
use Rattle.std.specs.Prelude.{IfErr}
use Rattle.c_sources.specs.CFiles.{AreNotSpelled}
use Rattle.source_files.proofs.ListLemmas.{any_default}
use Rattle.c_sources.proofs.TreeLemmas.{file_at, at_begin, behind_one, at_end, refused_at}
use Rattle.c_sources.proofs.reading.trees_of.Goals as goal

pub loop-number-init : goal.loop-number-init
loop-number-init c = at_begin c.args.texts.now c.new-files.result c.new-files.ensures

pub tree_at-requires : goal.tree_at-requires
tree_at-requires c =
    let within = c.loop-number-test.true in
    let counts = c.requires.counts in
    file_at c.args.places.now c.loop-number.number c.index-places-number.result c.requires.files (omega (arith, within, counts))
    (c.index-places-number.is ∙ any_default c.args.places.now c.loop-number.number _ c.index-places-number.result (omega (arith, within, counts)))

pub returns-in_err-file-clause-err : goal.returns-in_err-file-clause-err
returns-in_err-file-clause-err c =
    let within = c.loop-number-test.true in
    let counts = c.requires.counts in
    subst (λ result. IfErr result (AreNotSpelled c.args.places.now c.args.texts.now))
    (sym (let e : c.from_residual.result ≡ Err c.in_err-file.field-0.0 = search rules in e))
    (refused_at c.args.places.now c.args.texts.now c.loop-number.number c.index-places-number.result c.as_slice.result.now c.loop-number.files c.in_err-file.field-0.0
    c.loop-number-test.true c.requires.counts
    (c.index-places-number.is ∙ any_default c.args.places.now c.loop-number.number _ c.index-places-number.result (omega (arith, within, counts)))
    (c.as_slice.ensures ∙ (c.index-texts-number.is ∙ any_default c.args.texts.now c.loop-number.number _ c.as_slice.result.now c.loop-number-test.true)) c.loop-number.invariant
    c.in_err-file.ensures.err)

pub loop-number-preserved : goal.loop-number-preserved
loop-number-preserved c =
    behind_one c.args.texts.now c.loop-number.number c.as_slice.result.now c.in_ok-file.file c.loop-number.files c.push.new.self c.loop-number-test.true
    (c.as_slice.ensures ∙ (c.index-texts-number.is ∙ any_default c.args.texts.now c.loop-number.number _ c.as_slice.result.now c.loop-number-test.true)) c.loop-number.invariant
    c.in_ok-file.ensures.ok c.in_ok-push.ensures.ok

pub returns-clause-ok : goal.returns-clause-ok
returns-clause-ok c = at_end c.args.texts.now c.loop-number.number c.loop-number.files c.loop-number-test.false c.loop-number.invariant
