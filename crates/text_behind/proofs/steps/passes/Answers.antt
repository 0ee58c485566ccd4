use Rattle.std.proofs.Common.{◌+◌, refl}
use Rattle.text_behind.proofs.BehindLemmas.{passes-none, passes-more}
use Rattle.text_behind.proofs.steps.passes.Goals as goal

pub loop-at-init : goal.loop-at-init
loop-at-init c = passes-none c.new-steps.result.items c.new-steps.ensures.items

pub loop-at-preserved : goal.loop-at-preserved
loop-at-preserved c =
    passes-more c.loop-at.steps.items c.push.new.self.items c.loop-at._at (c.loop-at._at + 1) c.in_ok-push.ensures.items c.loop-at.invariant refl
