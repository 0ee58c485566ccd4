use Rattle.std.proofs.Common.{Some, option_map, sym, ap, ◌∙◌}
use Rattle.lowered_tree.specs.Shapes.{function_of}
use Rattle.direct_lines.specs.References.{is_text_length}
use Rattle.direct_lines.proofs.ReferenceForms.{text-length, other-length, no-length}
use Rattle.direct_lines.proofs.references.is_text_length.Goals as goal

pub returns-in-TextLength : goal.returns-in-TextLength
returns-in-TextLength c =
    sym (ap is_text_length (sym c.function_named.ensures ∙ ap (option_map function_of) c.in-Some.is ∙ ap (λ f. Some (function_of f)) c.in-TextLength.is) ∙ text-length)

pub returns-in_default : goal.returns-in_default
returns-in_default c =
    sym (ap is_text_length (sym c.function_named.ensures ∙ ap (option_map function_of) c.in-Some.is) ∙ other-length c.in-Some.function c.in_default.not-TextLength)

pub returns-in-None : goal.returns-in-None
returns-in-None c = sym (ap is_text_length (sym c.function_named.ensures ∙ ap (option_map function_of) c.in-None.is) ∙ no-length)
