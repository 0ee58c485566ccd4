use Rattle.std.proofs.Common.{ℕ, List, ◌+◌, ◌-◌, ◌<◌, length, take, drop, ap, arith, inl, inr}
use Rattle.fortran_text.specs.declared.characters.Character.{Character}
use Rattle.std.proofs.lemmas.List.{take_rest}
use Rattle.stmt_lex.proofs.ReaderLemmas.{token_within}
use Rattle.stmt_lex.proofs.PlaceLemmas.{extents_begin, extent_at, extents_end}
use Rattle.stmt_lex.proofs.places.extents.Goals as goal

pub loop-init : goal.loop-init
loop-init c = record { start = extents_begin c.args.kind c.args.text.now c.new-found.result c.new-found.ensures; within = omega arith }

pub returns-in_default : goal.returns-in_default
returns-in_default c =
    let text = c.args.text.now in
    extents_end c.args.kind text (length text - c.loop.counter) c.loop.mode c.loop.at (drop c.loop.at text) c.loop.found c.loop.invariant.start
    (inl (short text c.loop.at c.in_default.len_below))
  where
    short : (text : List Character) (at : ℕ) → length (take (length text - at) (drop at text)) < 1 → length (drop at text) < 1
    short text at h = let same = ap length (take_rest text at) in omega (arith, same, h)

pub loop-preserved : goal.loop-preserved
loop-preserved c =
    let text = c.args.text.now in
    let slice = take (length text - c.loop.at) (drop c.loop.at text) in
    record {
      start = extent_at _ text slice _ _ (length text - c.loop.counter) (length text - (c.loop.counter + 1)) c.loop.mode c.loop.at c.in_ok-step.step
          c.loop.found c.in_ok-found.found (take_rest text c.loop.at) c.in-len1-up.len_at_least (take_rest slice 1) c.in_ok-step.ensures
          c.loop.invariant.start (omega arith) (omega arith) c.in_ok-found.ensures;
      within = token_within text slice _ c.loop.at c.in_ok-step.step.len (take_rest text c.loop.at) c.in-len1-up.len_at_least (take_rest slice 1)
          c.in_ok-step.ensures.within c.loop.invariant.within;
    }

pub returns : goal.returns
returns c =
    let text = c.args.text.now in
    extents_end c.args.kind text (length text - c.loop.counter) c.loop.mode c.loop.at (drop c.loop.at text) c.loop.found c.loop.invariant.start (inr (omega arith))
