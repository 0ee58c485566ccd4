use Rattle.std.proofs.Common.{sym, ap, ◌∙◌, arith}
use Rattle.std.proofs.lemmas.List.{nil_from_length}
use Rattle.cards.specs.Passes.{ends_with}
use Rattle.cards.proofs.LineLemmas.{ends_with-nil, ends_with-last}
use Rattle.cards.proofs.lines.ends_with.Goals as goal

pub returns-in-empty : goal.returns-in-empty
returns-in-empty c = sym (ap (ends_with c.args.byte) (nil_from_length c.args.text.now (omega arith)) ∙ ends_with-nil c.args.byte)

pub returns-in-len1-up : goal.returns-in-len1-up
returns-in-len1-up c = sym (ends_with-last c.args.byte c.args.text.now (omega arith))
