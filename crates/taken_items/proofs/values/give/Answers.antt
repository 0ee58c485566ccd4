use Rattle.item_deeds.proofs.FormLaws.{stores-forms}
use Rattle.taken_items.proofs.ValueLaws.{sized-number, sized-truth, stored-there, text-given}
use Rattle.taken_items.proofs.values.give.Goals as goal

pub returns-in-Int-clause-there : goal.returns-in-Int-clause-there
returns-in-Int-clause-there c =
    stored-there c.args.pointer c.args.size _ c.args.run.now c.store.new.self c.store.result (sized-number c.args.size c.args.taken c.in-Int.number c.in-Int.is c.requires) c.store.ensures

pub returns-in-Int-clause-forms : goal.returns-in-Int-clause-forms
returns-in-Int-clause-forms c = stores-forms _ _ c.args.run.now c.store.new.self c.store.result c.store.ensures

pub returns-in-Logical-clause-there : goal.returns-in-Logical-clause-there
returns-in-Logical-clause-there c =
    stored-there c.args.pointer c.args.size _ c.args.run.now c.store-in-Logical.new.self c.store-in-Logical.result
    (sized-truth c.args.size c.args.taken c.in-Logical.truth c.in-Logical.is c.requires) c.store-in-Logical.ensures

pub returns-in-Logical-clause-forms : goal.returns-in-Logical-clause-forms
returns-in-Logical-clause-forms c = stores-forms _ _ c.args.run.now c.store-in-Logical.new.self c.store-in-Logical.result c.store-in-Logical.ensures

pub returns-in-Text-clause-gives : goal.returns-in-Text-clause-gives
returns-in-Text-clause-gives c =
    text-given c.args.record.now c.args.taken c.args.pointer c.args.size c.in-Text.from c.in-Text.to c.in-Text.blanks c.characters.result.now c.args.run.now c.put_padded.new.run
    c.put_padded.result c.in-Text.is c.characters.ensures c.requires c.put_padded.ensures.puts
