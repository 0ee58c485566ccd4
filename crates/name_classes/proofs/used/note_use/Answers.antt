use Rattle.f_tree.specs.Attributes.{with_list, called}
use Rattle.name_uses.specs.declared.uses.Manner.TheVariants as manner
use Rattle.name_uses.proofs.ArrayLemmas.{adds_none, adds_one}
use Rattle.name_classes.proofs.UsedForms.{used_so, used_otherwise, used_neither, on_any, listed-WithList, listed-Called, listed-Alone, listed-Declared, called-WithList, called-Called, called-Alone, called-Declared}
use Rattle.name_classes.proofs.used.note_use.Goals as goal

pub returns-in-WithList-clause-with_list : goal.returns-in-WithList-clause-with_list
returns-in-WithList-clause-with_list c =
    adds_one c.add.result _ _ _ _ (used_so with_list c.args.one _ c.in-WithList.is listed-WithList) c.add.ensures.names c.add.ensures.is_set

pub returns-in-WithList-clause-called : goal.returns-in-WithList-clause-called
returns-in-WithList-clause-called c =
    on_any c.add.result _ (adds_none c.args.called.now _ c.requires.called (used_otherwise called c.args.one _ c.in-WithList.is called-WithList))

pub returns-in-Called-clause-with_list : goal.returns-in-Called-clause-with_list
returns-in-Called-clause-with_list c =
    on_any c.add-in-Called.result _ (adds_none c.args.with_list.now _ c.requires.with_list (used_otherwise with_list c.args.one _ c.in-Called.is listed-Called))

pub returns-in-Called-clause-called : goal.returns-in-Called-clause-called
returns-in-Called-clause-called c =
    adds_one c.add-in-Called.result _ _ _ _ (used_so called c.args.one _ c.in-Called.is called-Called) c.add-in-Called.ensures.names c.add-in-Called.ensures.is_set

pub returns-in-Alone-clause-with_list : goal.returns-in-Alone-clause-with_list
returns-in-Alone-clause-with_list c =
    adds_none c.args.with_list.now _ c.requires.with_list (used_neither with_list c.args.one manner.Alone manner.Declared c.in-Alone.is listed-Alone listed-Declared)

pub returns-in-Alone-clause-called : goal.returns-in-Alone-clause-called
returns-in-Alone-clause-called c =
    adds_none c.args.called.now _ c.requires.called (used_neither called c.args.one manner.Alone manner.Declared c.in-Alone.is called-Alone called-Declared)
