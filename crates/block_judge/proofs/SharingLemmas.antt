-- Which statements share the result of their function, by what tables tell of their names.
use Rattle.std.proofs.Common.{◌≡◌, ℕ, Bool, true, ◌&&◌, not, List, length, map, Option, Some, slice_get, if◌then◌else◌, refl, ap, ◌∙◌}
use Rattle.std.specs.Prelude.{option_map}
use Rattle.std.proofs.lemmas.List.{length-map}
use Rattle.std.proofs.lemmas.Option.{slice_get-map}
use Rattle.f_tree.specs.Values.{Bytes}
use Rattle.f_tree.specs.Folds.{folds_opened, layer_of}
use Rattle.f_tree.specs.Lines.{is_character}
use Rattle.f_tree.specs.declared.names.Basic.{Basic}
use Rattle.f_tree.specs.declared.statements.Body as whole
use Rattle.f_tree.specs.declared.statements.Body.{Body, IfOne', more_of-Body}
use Rattle.f_tree.specs.declared.statements.Body.TheVariants as body
use Rattle.f_tree.specs.declared.statements.DummyArgument.{DummyArgument}
use Rattle.f_tree.specs.declared.statements.Stmt.{Stmt}
use Rattle.f_tree.specs.declared.units.Unit.{Unit as WrittenUnit}
use Rattle.name_facts.specs.declared.table.NameFacts.{NameFacts}
use Rattle.name_facts.specs.GivenFacts.{fact_in, AreNameFacts}
use Rattle.declaration_rows.specs.NameRows.{given_names}
use Rattle.declaration_rows.specs.BlockRows.{same_length, share_result, shares_result}
use Rattle.block_judge.specs.BlockSteps.{TellsSharing}
use Rattle.block_judge.specs.Sharing.{share_by, shares_at}

-- TWO NAMES
pub share_is : (u : WrittenUnit) (facts : NameFacts) (own entry : Bytes) (one other : Basic) (width wide : Option ℕ) (same : Bool) → AreNameFacts u facts → one ≡ (fact_in facts own).basic
    → other ≡ (fact_in facts entry).basic → width ≡ (fact_in facts own).width → wide ≡ (fact_in facts entry).width → same ≡ same_length width wide
    → share_by one other same ≡ share_result (given_names u own) (given_names u entry)
unfolding share_by share_result
share_is u facts own entry one other width wide same known one_is other_is width_is wide_is same_is =
    let of_own = known.facts own in
    let of_entry = known.facts entry in
    let lengths : same ≡ same_length (given_names u own).width (given_names u entry).width =
    same_is ∙ ap (λ w. same_length w wide) (width_is ∙ of_own.width) ∙ ap (same_length (given_names u own).width) (wide_is ∙ of_entry.width) in
    ap (λ (b : Basic). if is_character b then is_character other && same else not (is_character other)) (one_is ∙ of_own.basic)
    ∙ ap (λ (b : Basic). if is_character (given_names u own).basic then is_character b && same else not (is_character b)) (other_is ∙ of_entry.basic)
    ∙ ap (λ c. if is_character (given_names u own).basic then is_character (given_names u entry).basic && c else not (is_character (given_names u entry).basic)) lengths

-- STATEMENTS
pub shares-Entry : (u : WrittenUnit) (x : Bytes) (dummies : List DummyArgument) → shares_at u (body.Entry x dummies) ≡ shares_result u (given_names u) u.kind u.name x
unfolding shares_at folds_opened
shares-Entry u x dummies = refl

pub shares-other : (u : WrittenUnit) (b : Body) → ((x : Bytes) (dummies : List DummyArgument) → b ≡ body.Entry x dummies → ⊥) → true ≡ shares_at u b
unfolding shares_at layer_of
shares-other u (whole.Entry x dummies) other = absurd (other x dummies refl)
shares-other u (IfOne' e s (more_of-Body b r)) other = refl
shares-other u _ other = refl

abbrev pub sharing_of : WrittenUnit → List Stmt → List Bool
sharing_of u ss = map (λ (s : Stmt). shares_at u s.body) ss

-- each is told where it stands
pub tells_all : (u : WrittenUnit) (shares : List Bool) → shares ≡ sharing_of u u.statements → TellsSharing u shares
tells_all u shares is = record {
  count = ap length is ∙ length-map u.statements (λ (s : Stmt). shares_at u s.body);
  tells = λ place s at x dummies entry.
      ap (λ bs. slice_get bs place) is ∙ slice_get-map (λ (t : Stmt). shares_at u t.body) u.statements place ∙ ap (option_map (λ (t : Stmt). shares_at u t.body)) at
      ∙ ap (λ b. Some (shares_at u b)) entry ∙ ap Some (shares-Entry u x dummies);
}
