-- What holds of statements of other forms.
use Rattle.std.proofs.Common.{◌≡◌, false, refl}
use Rattle.f_tree.specs.Folds.{layer_of}
use Rattle.f_tree.specs.Facts.{Plain}
use Rattle.f_tree.specs.Lines.{mark_of}
use Rattle.f_tree.specs.declared.expressions.Expr.{Expr}
use Rattle.f_tree.specs.declared.statements.Body.{Body, IfThen, ElseIf, Else, EndIf, End, IfOne', more_of-Body}
use Rattle.f_tree.specs.declared.statements.Body.TheVariants as body
use Rattle.declaration_rows.specs.UnitRows.{is_end}

pub mark_other : (b : Body) → ((e : Expr) → b ≡ body.IfThen e → ⊥) → ((e : Expr) → b ≡ body.ElseIf e → ⊥) → (b ≡ body.Else → ⊥) → (b ≡ body.EndIf → ⊥) → Plain ≡ mark_of b
unfolding mark_of layer_of
mark_other (IfThen e) one two three four = absurd (one e refl)
mark_other (ElseIf e) one two three four = absurd (two e refl)
mark_other Else one two three four = absurd (three refl)
mark_other EndIf one two three four = absurd (four refl)
mark_other (IfOne' e s (more_of-Body b r)) one two three four = refl
mark_other _ one two three four = refl

pub end_other : (b : Body) → (b ≡ body.End → ⊥) → false ≡ is_end b
unfolding is_end layer_of
end_other End other = absurd (other refl)
end_other (IfOne' e s (more_of-Body b r)) other = refl
end_other _ other = refl
