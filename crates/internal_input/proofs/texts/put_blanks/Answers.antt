use Rattle.std.proofs.Common.{◌≡◌, ◌-◌, ℕ, ◌++◌, take, replicate, refl, ap, ◌∙◌, sym, arith}
use Rattle.internal_input.proofs.TextLaws.{blanks-start, blanks-more}
use Rattle.internal_input.proofs.texts.put_blanks.Goals as goal

pub loop-filled-init : goal.loop-filled-init
loop-filled-init c = (omega arith, c.requires.within, blanks-start c.args.buffer.now c.args.done)

pub loop-filled-preserved : goal.loop-filled-preserved
loop-filled-preserved c = (
  omega (arith, c.loop-filled.invariant.0),
  omega (arith, c.min-count.ensures, c.loop-filled.invariant.1, c.loop-filled-test.true),
  blanks-more c.args.buffer.now c.loop-filled.buffer c.put_behind.new.buffer _ c.args.done c.loop-filled.filled c.args.size c.min-count.result refl c.min-count.ensures
      c.loop-filled.invariant.0 c.put_behind.ensures c.loop-filled.invariant.2,
)

pub returns : goal.returns
returns c =
    let all : c.loop-filled.filled ≡ c.args.size = omega (arith, c.loop-filled-test.false, c.loop-filled.invariant.1) in
    ap (λ (n : ℕ). take n c.loop-filled.buffer) (sym all) ∙ c.loop-filled.invariant.2
    ∙ ap (λ (n : ℕ). take c.args.done c.args.buffer.now ++ replicate (n - c.args.done) 32) all
