use Rattle.std.proofs.Common.{◌+◌, ◌-◌, length, take, drop, ◌∙◌, arith, inr}
use Rattle.std.proofs.lemmas.List.{take_rest}
use Rattle.stmt_lex.proofs.ReaderLemmas.{tokens_begin, token_at, token_within, tokens_short, tokens_end, pieces-is}
use Rattle.stmt_lex.proofs.reader.tokens_of.Goals as goal

pub loop-init : goal.loop-init
loop-init c = record { start = tokens_begin c.args.kind c.args.text.now c.new-found.result c.new-found.ensures; within = omega arith }

pub returns-in_default : goal.returns-in_default
returns-in_default c =
    let text = c.args.text.now in
    let slice = take (length text - c.loop.at) (drop c.loop.at text) in
    tokens_short _ text slice c.loop.at (length text - c.loop.counter) c.loop.mode c.loop.found (take_rest text c.loop.at) c.loop.invariant.start
    c.in_default.len_below
    ∙ pieces-is c.args.kind text

pub loop-preserved : goal.loop-preserved
loop-preserved c =
    let text = c.args.text.now in
    let slice = take (length text - c.loop.at) (drop c.loop.at text) in
    record {
      start = token_at _ text slice _ _ (length text - c.loop.counter) (length text - (c.loop.counter + 1)) c.loop.mode c.loop.at c.in_ok-step.step
          c.loop.found c.in_ok-found.found (take_rest text c.loop.at) c.in-len1-up.len_at_least (take_rest slice 1) c.in_ok-step.ensures
          c.loop.invariant.start (omega arith) (omega arith) c.in_ok-found.ensures (omega arith);
      within = token_within text slice _ c.loop.at c.in_ok-step.step.len (take_rest text c.loop.at) c.in-len1-up.len_at_least (take_rest slice 1)
          c.in_ok-step.ensures.within c.loop.invariant.within;
    }

pub returns : goal.returns
returns c =
    let text = c.args.text.now in
    tokens_end _ text (length text - c.loop.counter) c.loop.mode (drop c.loop.at text) c.loop.found c.loop.invariant.start (inr (omega arith))
    ∙ pieces-is c.args.kind text
