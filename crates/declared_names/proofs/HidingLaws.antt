-- A name that is given what it stands for hides what is around it.
use Rattle.std.proofs.Common.{◌≡◌, refl, ap, sym, ◌∙◌, Bool, true, false, Option, Some, None, if◌then◌else◌}
use Rattle.c_tree.specs.Terms.{Term}
use Rattle.first_names.specs.FirstNames.{or_later}
use Rattle.expression_linker.specs.declared.things.NamedThing.{NamedThing}
use Rattle.expression_linker.specs.NamesInScope.{named_term, term_or}

hidden_by : (before : Option NamedThing) (test : Bool) (thing : NamedThing) (around : Term) →
    term_or before (if test then named_term thing else around) ≡ term_or (or_later before (if test then Some thing else None)) around
hidden_by (Some x) test thing around = refl
hidden_by None true thing around = refl
hidden_by None false thing around = refl

pub hidden : (before now : Option NamedThing) (test : Bool) (thing : NamedThing) (around : Term) → now ≡ or_later before (if test then Some thing else None) →
    term_or before (if test then named_term thing else around) ≡ term_or now around
hidden before now test thing around is = hidden_by before test thing around ∙ ap (λ z. term_or z around) (sym is)
