-- The label stands behind those that were there, and the table tells so.
use Rattle.std.proofs.Common.{◌≡◌, Some, sym, ap, ◌∙◌, subst, is_some}
use Rattle.std.proofs.lemmas.Map.Text.{hash_map_updates_str}
use Rattle.c_statement_reader.specs.LabelCounts.{texts, times, again, found_at}
use Rattle.c_statement_reader.specs.LabelLists.{labels_in}
use Rattle.c_statement_reader.proofs.LabelTimes.{texts-more, told-more}
use Rattle.c_statement_reader.proofs.label_list.LabelList.add.Goals as goal

pub invariant_of-self-in-Ok : goal.invariant_of-self-in-Ok
invariant_of-self-in-Ok c =
    let s = c.args.self.now in
    let there = c.contains_key-again.ensures ∙ ap is_some (s.told c.args.label.now) in
    let are = ap texts c.in_ok-push.ensures.items ∙ texts-more s.labels.items c.args.label in
    record {
      told = λ q.
          subst (λ z. found_at q c.insert.new.self.entries ≡ again (times q z)) (sym are)
          (told-more q c.args.label.now (texts s.labels.items) (found_at q s.table.entries) (found_at q c.insert.new.self.entries) c.contains_key-again.result (s.told q) there
          (hash_map_updates_str c.args.label.now s.table c.insert.new.self (Some c.contains_key-again.result) c.in-Ok.ensures.updates q));
    }

pub returns-in-Ok : goal.returns-in-Ok
unfolding labels_in
returns-in-Ok c = ap texts c.in_ok-push.ensures.items ∙ texts-more c.args.self.now.labels.items c.args.label
