use Rattle.edit_rules.proofs.WriterSteps.{placed_whole, full_record, full_piece}
use Rattle.std.proofs.Common.{refl}
use Rattle.edit_rules.proofs.list_writer.ListWriter.put_text.Goals as goal

pub returns-then-left-self-clause-puts : goal.returns-then-left-self-clause-puts
returns-then-left-self-clause-puts c =
    placed_whole c.args.self.now _ c.args.line.now c.args.text.now c.place.new.line _ c.requires.within c.requires.columns c.if-left-self.true refl refl c.place.ensures

pub returns-then-used-gt1-clause-puts : goal.returns-then-used-gt1-clause-puts
returns-then-used-gt1-clause-puts c =
    full_record c.args.self.now _ c.args.line.now c.args.text.now c.requires.within c.requires.columns c.requires.blank c.if-left-self.false c.if-used-gt1.true refl refl

pub returns-clause-puts : goal.returns-clause-puts
returns-clause-puts c =
    full_piece c.args.self.now _ c.args.line.now c.args.text.now c.place-2.new.line _ c.requires.within c.requires.columns c.requires.blank c.if-left-self.false c.if-used-gt1.false refl refl c.place-2.ensures
