-- The units and their functions are linked: each unit is simulated by its function, through its lowered text.
use Rattle.std.specs.Prelude.{◌≡◌, ℕ, nat_lt, List, length, Option, Some, None, slice_get, if◌then◌else◌}
use Rattle.std.proofs.Common.{refl, sym, ap, ◌∙◌, subst}
use Rattle.lowering_laws.specs.simulation.LocalSimulation.{Couple, Local}
use Rattle.lowering_laws.specs.simulation.Law.{couple, Linked}
use Rattle.lowering_laws.specs.simulation.Composition.{composite_kit, composite_pairing, Composable}
use Rattle.lowering_laws.proofs.simulation.Composing.{composite_simulates}
use Rattle.lowering_laws.specs.f_tree.Facts.{ProgramUnit, Facts}
use Rattle.lowering_laws.specs.f_tree.Setting.{Setting}
use Rattle.lowering_laws.specs.f_tree.Meaning as source
use Rattle.lowering_laws.specs.f_tree.Meaning.{facts_at}
use Rattle.lowering_laws.specs.l_core.Steps.{Text}
use Rattle.lowering_laws.specs.l_core.Costs.{rest}
use Rattle.lowering_laws.specs.Layer.{lower_kit, lower_pairing, lower_couple}
use Rattle.procedure_emission.specs.c_tree.declared.file.CFile.{CFile}
use Rattle.procedure_emission.specs.c_tree.Linking as linking
use Rattle.procedure_emission.specs.c_tree.Meaning.{step_factor}
use Rattle.procedure_emission.proofs.c_image_laws.Growing.{extends_through}
use Rattle.procedure_emission.specs.emitted_texts.SecondLayer.{Surroundings, Emission}
use Rattle.procedure_emission.specs.CallLayer.{call_kit, entered_couple}
use Rattle.call_bridge.specs.CallBridge.{Translation, MayRun, linking_of, IsTranslated}

composable : (s : Surroundings) (i : ℕ) (u : Text) (costs : List ℕ) → Composable (call_kit s) (lower_couple i u costs)
composable s i u costs = record { bare = λ n. refl; stays = λ j μ. tt; tells = λ f e told. absurd told }

-- both layers, of a unit and of a function that are given
abbrev joined : (s : Surroundings) → ℕ → Text → (own costs : List ℕ) → Emission → Facts → linking.Function → Couple (composite_kit lower_kit (call_kit s))
joined s i u own costs e unit function = record {
  number = i;
  pairing = composite_pairing (lower_pairing u) (entered_couple s i u own costs e).pairing;
  source = unit;
  target = function;
  weight = λ w. 1;
  most = λ v. rest costs 0;
  spare = 1;
  wrapper = λ n. None;
  inner = e.number;
}

some_is : (a b : ℕ) (x : Option ℕ) → x ≡ Some a → x ≡ Some b → a ≡ b
some_is a b x one other = let both : Some a ≡ Some b = sym one ∙ other in cc

none_some : {A : Type 0} (a : ℕ) → None ≡ Some a → A
none_some a e = absurd (cc)

module _ (g : Setting) (S : List ProgramUnit) (files : List CFile) (t : Translation) (is : IsTranslated g S files t) where
  simulated : (i : ℕ) → MayRun S i → Local (couple (linking_of g S files t) i)
  unfolding source.program
  simulated i known =
      let one = is.units i known in
      let u = t.texts i in
      let e = t.emissions i in
      let both : Local (joined t.surroundings i u (t.own_costs i) (t.costs i) e u.facts e.function) =
      composite_simulates (lower_couple i u (t.costs i)) (entered_couple t.surroundings i u (t.own_costs i) (t.costs i) e) (composable t.surroundings i u (t.costs i)) one.upper one.lower in
      subst (λ f. Local (joined t.surroundings i u (t.own_costs i) (t.costs i) e (facts_at g i (slice_get S i)) f)) (sym one.function)
      (subst (λ c. Local (joined t.surroundings i u (t.own_costs i) (t.costs i) e c e.function)) (one.facts ∙ ap (facts_at g i) (sym one.has)) both)

  own : (i : ℕ) → MayRun S i → (if nat_lt (t.emissions i).number (length (linking.program files).functions) then Some (t.emissions i).number else None) ≡ Some (t.emissions i).number
  own i known = ap (λ b. if b then Some (t.emissions i).number else None) (is.units i known).own

  pub linked : Linked (linking_of g S files t) (step_factor files)
  unfolding source.program
  linked = record {
    known = λ n i found. (n, found);
    simulated = simulated;
    narrow = λ i known. (is.units i known).narrow;
    narrow_wrapped = λ i n k known e. none_some k e;
    some_step = is.some_step;
    finds = λ μ s n a z n' a' i passed found.
        let one = is.units i (n, found) in
        let number : n' ≡ (t.emissions i).number = some_is n' (t.emissions i).number (t.surroundings.numbers passed.1) passed.4.named (ap t.surroundings.numbers (sym passed.3.1) ∙ one.called n found) in
        ap (λ k. if nat_lt k (length (linking.program files).functions) then Some k else None) number ∙ own i (n, found);
    finds_inner = own;
    grows_houses = λ i j μ μ' known grows houses. (tt, extends_through t.surroundings.first μ.1.image μ'.1.image houses.1 grows.1.extends);
    grows_idle = λ i j μ μ' known apart grows idle. (tt, grows.1.others j apart idle.1);
    image_inner = is.no_wrapper;
    image_owner = is.owned;
    wrapper_outer = λ i n k e. none_some k e;
    wrapper_owner = λ i n k e. none_some k e;
    same_plain = refl;
    missing_unclaimed = λ claimed. claimed;
    busy_unclaimed = λ claimed. claimed;
  }
