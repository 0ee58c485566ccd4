use Rattle.std.proofs.Common.{map, sym, ap, ◌∙◌}
use Rattle.f_tree.specs.Attributes.{intrinsic_in}
use Rattle.name_uses.proofs.ArrayLemmas.{adds_none, adds_same}
use Rattle.name_classes.proofs.StatementForms.{intrinsic-Intrinsic, intrinsic-other}
use Rattle.name_classes.proofs.statements.add_intrinsics_in.Goals as goal

pub returns-in-Intrinsic : goal.returns-in-Intrinsic
returns-in-Intrinsic c = adds_same c.add_texts.result _ _ _ _ (c.as_slice.ensures ∙ sym (intrinsic-Intrinsic c.in-Intrinsic.items) ∙ ap intrinsic_in (sym c.in-Intrinsic.is)) c.add_texts.ensures

pub returns-in_default : goal.returns-in_default
returns-in_default c = adds_none c.args.names.now _ c.requires (intrinsic-other c.args.body.now c.in_default.not-Intrinsic)
