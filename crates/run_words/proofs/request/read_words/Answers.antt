use Rattle.std.proofs.Common.{sym, ap, ◌∙◌, arith}
use Rattle.std.specs.Option.{option_copied}
use Rattle.run_words.proofs.WordLemmas.{goes_on, stops, ends}
use Rattle.run_words.proofs.request.read_words.Goals as goal

pub returns-then-not-goes_on : goal.returns-then-not-goes_on
returns-then-not-goes_on c =
    let read = stops c.args.words.now c.loop-passed.passed c.in-Some.word.now c.loop-passed.request _ _ (sym c.get.ensures ∙ ap option_copied c.in-Some.is)
    (sym c.goes_on.ensures ∙ c.if-not-goes_on.true) c.loop-passed.invariant.0 c.loop-passed.invariant.1 in
    record { request = read.0; other = read.1 }

pub loop-passed-preserved : goal.loop-passed-preserved
loop-passed-preserved c =
    goes_on c.args.words.now c.loop-passed.passed c.in-Some.word.now c.loop-passed.request c.in_ok-request.request _ _
    (sym c.get.ensures ∙ ap option_copied c.in-Some.is) (sym c.goes_on.ensures ∙ c.if-not-goes_on.false) c.in_ok-request.ensures c.loop-passed.invariant.0 c.loop-passed.invariant.1

pub returns : goal.returns
returns c =
    let read = ends c.args.words.now c.loop-passed.passed c.loop-passed.request _ _ (let count = c.len.ensures in let past = c.loop-passed-test.false in omega (arith, count, past))
    c.loop-passed.invariant.0 c.loop-passed.invariant.1 in
    record { request = read.0; other = read.1 }
