use Rattle.std.proofs.Common.{◌-◌, sym, ◌∙◌, length, take, drop}
use Rattle.std.proofs.lemmas.List.{take_rest}
use Rattle.c_lexer.proofs.PartLemmas.{include_here, include_elsewhere}
use Rattle.c_lexer.proofs.spans.include_len.Goals as goal

pub returns-then-ends_line-clause-value : goal.returns-then-ends_line-clause-value
returns-then-ends_line-clause-value c =
    let text = c.args.text.now in
    let behind = take (length text - 16) (drop 16 text) in
    let blanks = c.blanks_len-blanks.result in
    include_here text behind (take (length behind - blanks) (drop blanks behind)) blanks (sym c.if-not-starts_with.false ∙ c.starts_with.ensures.value)
    (take_rest text 16) c.blanks_len-blanks.ensures.value (take_rest behind blanks) (sym c.ends_line.ensures ∙ c.if-ends_line.true)

pub returns-else-ends_line-clause-value : goal.returns-else-ends_line-clause-value
returns-else-ends_line-clause-value c =
    let text = c.args.text.now in
    let behind = take (length text - 16) (drop 16 text) in
    let blanks = c.blanks_len-blanks.result in
    include_elsewhere text behind (take (length behind - blanks) (drop blanks behind)) blanks (sym c.if-not-starts_with.false ∙ c.starts_with.ensures.value)
    (take_rest text 16) c.blanks_len-blanks.ensures.value (take_rest behind blanks) (sym c.ends_line.ensures ∙ c.if-ends_line.false)
