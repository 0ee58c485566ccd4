-- Where a walk gives no edit.
use Rattle.std.proofs.Common.{◌≡◌, ◌↔◌, ℕ, Option, None, Some, List, [], ◌∷◌, refl, sym, ap, ◌∙◌}
use Rattle.edit_meaning.specs.Formats as formats
use Rattle.edit_meaning.specs.Formats.{Item, Act, Stop, Served, closing}
use Rattle.edit_rules.specs.PartPlaces.{edit_in}
use Rattle.edit_meaning.specs.Transfers.{for_next}
use Rattle.edit_rules.specs.Walks.{GivenItem, GivenNone}
use Rattle.edit_rules.specs.declared.edits.Edit.{Edit}
use Rattle.edit_rules.specs.declared.edits.Edit.TheVariants as edit
use Rattle.edit_rules.specs.declared.format_walk.FormatWalk.{FormatWalk}

-- a walk that gives an edit gives neither of the other answers
gives : (text : List ℕ) (given other : Edit) (e : formats.Edit) → edit_in text given ≡ Some e → edit_in text other ≡ None → given ≡ other → ⊥
gives text given other e some none same = let x : Some e ≡ None = sym some ∙ ap (edit_in text) same ∙ none in absurd (cc x)

some_left : (e : formats.Edit) (edits : List formats.Edit) → e ∷ edits ≡ [] → ⊥
some_left e edits h = absurd (cc h)

pub done_where : (text : List ℕ) (again rest : List formats.Edit) (walk : FormatWalk) (given : Edit) (o : Option formats.Edit) → edit_in text given ≡ o
    → GivenNone text again rest walk given o → (given ≡ edit.Done) ↔ (closing rest ≡ [])
done_where text again rest walk given None e g = ((λ h. g.2), (λ h. g.0))
done_where text again rest walk given (Some (Item d)) e g = absurd g
done_where text again rest walk given (Some Stop) e g = absurd g
done_where text again rest walk given (Some (Act c)) e g =
    ((λ h. absurd (gives text given edit.Done (Act c) e refl h)), (λ h. absurd (some_left (Act c) (closing g.0) (sym g.2 ∙ h))))

pub none_never : (text : List ℕ) (again rest : List formats.Edit) (walk : FormatWalk) (given : Edit) (o : Option formats.Edit) → edit_in text given ≡ o
    → GivenNone text again rest walk given o → given ≡ edit.NoDescriptor → ⊥
none_never text again rest walk given None e g h = let x : edit.NoDescriptor ≡ edit.Done = sym h ∙ g.0 in absurd (cc x)
none_never text again rest walk given (Some (Item d)) e g h = g
none_never text again rest walk given (Some Stop) e g h = g
none_never text again rest walk given (Some (Act c)) e g h = gives text given edit.NoDescriptor (Act c) e refl h

pub none_where : (text : List ℕ) (again rest : List formats.Edit) (walk : FormatWalk) (given : Edit) (o : Option formats.Edit) → edit_in text given ≡ o
    → GivenItem text again rest walk given o → (given ≡ edit.NoDescriptor) ↔ ((for_next again rest).edits ≡ [])
none_where text again rest walk given None e g = ((λ h. g.2), (λ h. g.0))
none_where text again rest walk given (Some (Item d)) e g = (
  (λ h. absurd (gives text given edit.NoDescriptor (Item d) e refl h)),
  (λ h. absurd (some_left (Item d) [] (sym (ap (λ (t : Served). t.edits) g.2) ∙ h))),
)
none_where text again rest walk given (Some Stop) e g = absurd g
none_where text again rest walk given (Some (Act c)) e g = (
  (λ h. absurd (gives text given edit.NoDescriptor (Act c) e refl h)),
  (λ h. absurd (some_left (Act c) (for_next again g.0).edits (sym (ap (λ (t : Served). t.edits) g.2) ∙ h))),
)

pub none_unserved : (text : List ℕ) (again rest : List formats.Edit) (walk : FormatWalk) (given : Edit) (o : Option formats.Edit) → edit_in text given ≡ o
    → GivenItem text again rest walk given o → given ≡ edit.NoDescriptor → (for_next again rest).unserved ≡ 1
none_unserved text again rest walk given None e g h = g.3
none_unserved text again rest walk given (Some (Item d)) e g h = absurd (gives text given edit.NoDescriptor (Item d) e refl h)
none_unserved text again rest walk given (Some Stop) e g h = absurd g
none_unserved text again rest walk given (Some (Act c)) e g h = absurd (gives text given edit.NoDescriptor (Act c) e refl h)

pub done_never : (text : List ℕ) (again rest : List formats.Edit) (walk : FormatWalk) (given : Edit) (o : Option formats.Edit) → edit_in text given ≡ o
    → GivenItem text again rest walk given o → given ≡ edit.Done → ⊥
done_never text again rest walk given None e g h = let x : edit.Done ≡ edit.NoDescriptor = sym h ∙ g.0 in absurd (cc x)
done_never text again rest walk given (Some (Item d)) e g h = gives text given edit.Done (Item d) e refl h
done_never text again rest walk given (Some Stop) e g h = g
done_never text again rest walk given (Some (Act c)) e g h = gives text given edit.Done (Act c) e refl h
