use Rattle.std.proofs.Common.{sym, ◌∙◌}
use Rattle.name_uses.specs.UsesSeen.{use_of}
use Rattle.statement_order.proofs.UseSets.{uses_not, uses_had, uses_added}
use Rattle.statement_order.proofs.before.note_use.Goals as goal

pub returns-then-not-is_use : goal.returns-then-not-is_use
unfolding use_of
returns-then-not-is_use c = uses_not c.args.used.now (use_of c.args.one) c.requires (sym c.is_use.ensures ∙ c.if-not-is_use.true)

pub returns-then-has : goal.returns-then-has
unfolding use_of
returns-then-has c = uses_had c.args.used.now (use_of c.args.one) c.requires (sym c.has.ensures ∙ c.if-has.true)

pub returns : goal.returns
unfolding use_of
returns c = uses_added c.add.result c.args.used.now c.add.new.self (use_of c.args.one) (sym c.is_use.ensures ∙ c.if-not-is_use.false) c.add.ensures.names c.add.ensures.is_set
