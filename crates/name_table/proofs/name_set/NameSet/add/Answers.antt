use Rattle.std.proofs.Common.{sym, ap, ◌∙◌}
use Rattle.f_tree.specs.Uses.{is_among}
use Rattle.name_table.specs.Named.{value_of, names_in, texts}
use Rattle.name_table.proofs.SetLemmas.{set_more, texts_more}
use Rattle.name_table.proofs.name_set.NameSet.add.Goals as goal

pub returns-clause-is_set : goal.returns-clause-is_set
returns-clause-is_set c = record {
  has = λ x.
      set_more x c.args.name.now (names_in c.args.self.now) (value_of c.args.self.now.table x) (value_of c.put.new.self x) (c.requires.has x) (c.in_ok-put.ensures x)
      ∙ ap (is_among x) (sym (ap texts c.in_ok-push.ensures.items ∙ texts_more c.args.self.now.names.items c.args.name));
}
