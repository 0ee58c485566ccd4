use Rattle.std.proofs.Common.{sym, ap, ◌∙◌, nat_eq, get_or, arith}
use Rattle.std.specs.List.{list_any}
use Rattle.statement_order.proofs.UseSets.{letters_had, letters_none, letters_more}
use Rattle.statement_order.proofs.before.note_letter.Goals as goal

pub returns-then-has_letter : goal.returns-then-has_letter
returns-then-has_letter c = λ p. letters_had p c.args.letters.now.items c.args.name.now (omega arith)
    (ap (list_any (λ d. nat_eq (get_or c.args.name.now 0 0) d)) (sym c.as_slice.ensures.value) ∙ sym c.has_letter.ensures ∙ c.if-has_letter.true)

pub returns-in-empty : goal.returns-in-empty
returns-in-empty c = λ p. letters_none p c.args.letters.now.items c.args.name.now (omega arith)

pub returns-in_ok-push-in-len1-up : goal.returns-in_ok-push-in-len1-up
returns-in_ok-push-in-len1-up c = λ p. letters_more p c.args.letters.now.items c.push.new.self.items c.args.name.now (omega arith) c.in_ok-push-in-len1-up.ensures.items
