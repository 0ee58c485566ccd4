-- The names that stand in the first statement of a unit or of an entry.
use Rattle.std.specs.Prelude.{◌≡◌, Bool, true, false, ◌||◌, ◌++◌}
use Rattle.std.proofs.Common.{refl, sym, ◌∙◌}
use Rattle.f_tree.specs.declared.units.Unit.{Unit as WrittenUnit}
use Rattle.f_tree.specs.Values.{Bytes}
use Rattle.f_tree.specs.Uses.{is_among}
use Rattle.f_tree.specs.Attributes.{own_names, all_dummies}
use Rattle.name_table.specs.Named.{names_in}
use Rattle.name_table.proofs.SetLemmas.{among_both}
use Rattle.name_classes.specs.declared.signs.Signs.{Signs}
use Rattle.name_classes.specs.KnownSigns.{AreSigns}
use Rattle.name_classes.proofs.SignLemmas.{own_listed, dummy_listed}

there : (a b : Bool) → a ≡ true → true ≡ (a || b)
there true b is = refl
there false b is = absurd (cc)

other : (a b c : Bool) → a ≡ false → c ≡ b → c ≡ (a || b)
other false b c is same = same
other true b c is same = absurd (cc)

pub own_there : (u : WrittenUnit) (signs : Signs) (x : Bytes) (b : Bool) → AreSigns u signs → b ≡ is_among x (names_in signs.entries.own_names) → b ≡ true
    → true ≡ is_among x (own_names u ++ all_dummies u)
own_there u signs x b known is so =
    there (is_among x (own_names u)) (is_among x (all_dummies u)) (sym (own_listed u signs x known) ∙ sym is ∙ so) ∙ sym (among_both x (own_names u) (all_dummies u))

pub dummy_there : (u : WrittenUnit) (signs : Signs) (x : Bytes) (b c : Bool) → AreSigns u signs → b ≡ is_among x (names_in signs.entries.own_names) → b ≡ false
    → c ≡ is_among x (names_in signs.entries.dummies) → c ≡ is_among x (own_names u ++ all_dummies u)
dummy_there u signs x b c known is so same =
    other (is_among x (own_names u)) (is_among x (all_dummies u)) c (sym (own_listed u signs x known) ∙ sym is ∙ so) (same ∙ dummy_listed u signs x known)
    ∙ sym (among_both x (own_names u) (all_dummies u))
