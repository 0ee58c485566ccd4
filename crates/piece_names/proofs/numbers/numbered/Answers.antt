use Rattle.std.proofs.Common.{sym, ap, subst, ◌∙◌, Err}
use Rattle.f2c_outside.specs.Texts.{IsName}
use Rattle.f2c_outside.specs.declared.texts.NameFail.{NameFail}
use Rattle.piece_names.proofs.NumberLemmas.{numbered_name}
use Rattle.piece_names.proofs.numbers.numbered.Goals as goal

pub unreachable-requires : goal.unreachable-requires
unreachable-requires c =
    c.new.ensures.bad.0 (c.in-Err-BadName.is ∙ ap (λ (e : NameFail). Err e) c.in-Err-BadName.field-0-is)
    (subst IsName (sym (c.deref.ensures.value ∙ c.in_ok-bytes.ensures)) (numbered_name c.args.prefix.now c.args.number c.requires.short))
