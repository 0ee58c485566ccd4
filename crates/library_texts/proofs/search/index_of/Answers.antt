use Rattle.std.proofs.Common.{◌≡◌, ◌+◌, pos, ap, sym, ◌∙◌, arith}
use Rattle.library_texts.proofs.SearchLemmas.{found-at, found-nowhere}
use Rattle.library_texts.proofs.search.index_of.Goals as goal

pub returns-in-Some-clause-place : goal.returns-in-Some-clause-place
returns-in-Some-clause-place c =
    sym (found-at c.args.text.now c.args.wanted.now 1 c.in-Some.place (c.in-Some.ensures).0.before (c.in-Some.ensures).1
    ∙ ap pos (let same : 1 + c.in-Some.place ≡ c.in-Some.place + 1 = omega arith in same))

pub returns-in-None-clause-place : goal.returns-in-None-clause-place
returns-in-None-clause-place c = sym (found-nowhere c.args.text.now c.args.wanted.now 1 c.in-None.ensures)
