use Rattle.std.proofs.Common.{bytes_eq, sym, ap, ◌∙◌}
use Rattle.std.specs.List.{list_any}
use Rattle.unit_contents.proofs.ProcedureLaws.{name_put, name_kept}
use Rattle.unit_contents.proofs.procedures.add_name.Goals as goal

pub returns-in_ok-push : goal.returns-in_ok-push
returns-in_ok-push c =
    name_put c.args.names.now.items c.push.new.self.items c.args.name.now _ (sym (c.is_listed.ensures ∙ ap (list_any (bytes_eq c.args.name.now)) c.as_slice.ensures.value) ∙ c.if-not-is_listed.true)
    c.in_ok-from_slice.ensures c.in_ok-push.ensures.items

pub returns-else-not-is_listed : goal.returns-else-not-is_listed
returns-else-not-is_listed c =
    name_kept c.args.names.now.items c.args.name.now (sym (c.is_listed.ensures ∙ ap (list_any (bytes_eq c.args.name.now)) c.as_slice.ensures.value) ∙ c.if-not-is_listed.false)
