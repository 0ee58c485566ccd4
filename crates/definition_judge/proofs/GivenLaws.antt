-- What a table says of the names of a unit is what its expressions see.
use Rattle.std.specs.Prelude.{◌≡◌, Bool, true, false, ◌||◌, List, [], ◌∷◌, bytes_eq, Option, Some, None, if◌then◌else◌}
use Rattle.std.specs.HashMap.{get_by}
use Rattle.std.proofs.Common.{refl, sym, ap, subst, ◌∙◌}
use Rattle.f_tree.specs.declared.names.Class.TheVariants as class
use Rattle.f_tree.specs.declared.units.Unit.{Unit as WrittenUnit}
use Rattle.f_tree.specs.Values.{Bytes}
use Rattle.f_tree.specs.Facts.{Attribute}
use Rattle.f_tree.specs.Uses.{Use, is_among}
use Rattle.f_tree.specs.Attributes.{Constant, Expansion, bare, attribute_of, described, attribute_in, all_described}
use Rattle.declaration_rows.specs.NameRows.{given_names, all_names}
use Rattle.expression_judge.specs.declared.names.Fact.{Fact}
use Rattle.expression_judge.specs.declared.names.Names.{Names}
use Rattle.expression_judge.specs.SeenNames.{no_fact, fact_or, unit_fact, has_place, IsFact}
use Rattle.name_facts.specs.declared.fact.NameFact.{NameFact}
use Rattle.name_facts.specs.declared.table.NameFacts.{NameFacts}
use Rattle.name_facts.specs.GivenFacts.{IsNameFact, AreNameFacts, fact_in as told}
use Rattle.name_table.proofs.Texts.{bytes_eq_flip}
use Rattle.definition_judge.specs.KnownFunctions.{AreGiven, seen_of, seen_among}

-- a name that is not among those that are described
not_left : (a b : Bool) → (a || b) ≡ false → a ≡ false
not_left true b h = absurd (cc)
not_left false b h = refl

not_right : (a b : Bool) → (a || b) ≡ false → b ≡ false
not_right true b h = absurd (cc)
not_right false b h = h

unnamed : (u : WrittenUnit) (uses : List Use) (cs : List Constant) (es : List Expansion) (xs : List Bytes) (x : Bytes) → is_among x xs ≡ false
    → attribute_in (described u uses cs es xs) x ≡ bare class.Unit None
unfolding attribute_in described is_among
unnamed u uses cs es [] x other = refl
unnamed u uses cs es (y ∷ ys) x other =
    ap (λ b. if b then attribute_of u uses cs es y else attribute_in (described u uses cs es ys) x) (bytes_eq_flip y x ∙ not_left (bytes_eq x y) (is_among x ys) other)
    ∙ unnamed u uses cs es ys x (not_right (bytes_eq x y) (is_among x ys) other)

given_none : (u : WrittenUnit) (x : Bytes) → is_among x (all_names u) ≡ false → given_names u x ≡ bare class.Unit None
unfolding given_names all_names all_described
given_none u x other = unnamed u _ _ _ _ x other

-- a name that is told
fact_given : (a : Attribute) (f : NameFact) → IsNameFact a f → IsFact a (seen_of f)
unfolding seen_of
fact_given a f known = record { class = known.class; basic = known.basic; rank = λ h. known.rank; sized = λ h. known.sized }

bare_given : IsFact (bare class.Unit None) no_fact
unfolding bare no_fact has_place
bare_given = record { class = refl; basic = refl; rank = λ h. absurd (cc); sized = λ h. absurd (cc) }

given_by : (a : Attribute) (b : Bool) (f : NameFact) → (b ≡ false → a ≡ bare class.Unit None) → IsNameFact a f → IsFact a (fact_or (if b then Some (seen_of f) else None))
unfolding fact_or
given_by a true f other known = fact_given a f known
given_by a false f other known = subst (λ c. IsFact c no_fact) (sym (other refl)) bare_given

pub are_given : (u : WrittenUnit) (table : NameFacts) (names : Names) → AreNameFacts u table → ((x : Bytes) → get_by (λ k. bytes_eq x k.now) names.facts ≡ seen_among table (all_names u) x) → AreGiven u names
unfolding unit_fact seen_among
are_given u table names known seen = record {
  facts = λ x.
      subst (λ o. IsFact (given_names u x) (fact_or o)) (sym (seen x)) (given_by (given_names u x) (is_among x (all_names u)) (told table x) (given_none u x) (known.facts x));
}

-- the facts of names, as they are put into a table
pub seen_start : (table : NameFacts) (xs : List Bytes) (x : Bytes) (old : Option Fact) → old ≡ None → seen_among table xs x ≡ (if is_among x xs then Some (seen_of (told table x)) else old)
unfolding seen_among
seen_start table xs x old none = ap (λ o. if is_among x xs then Some (seen_of (told table x)) else o) (sym none)
