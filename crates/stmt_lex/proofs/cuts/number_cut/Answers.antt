use Rattle.std.proofs.Common.{arith}
use Rattle.stmt_lex.proofs.CutLemmas.{large_number, small_number}
use Rattle.stmt_lex.proofs.cuts.number_cut.Goals as goal

pub returns-then-value-ge-PAST_GREATEST-clause-value : goal.returns-then-value-ge-PAST_GREATEST-clause-value
returns-then-value-ge-PAST_GREATEST-clause-value c =
    large_number c.args.first c.args.rest.now _ _ c.from.result c.requires c.digits_len-len.ensures.value c.from.ensures (omega arith)
    c.digits_capped-value.ensures.value c.if-value-ge-PAST_GREATEST.true

pub returns-clause-value : goal.returns-clause-value
returns-clause-value c =
    small_number c.args.first c.args.rest.now _ _ c.from.result c.requires c.digits_len-len.ensures.value c.from.ensures (omega arith)
    c.digits_capped-value.ensures.value c.if-value-ge-PAST_GREATEST.false
