-- The contents of a text from those of its parts.
use Rattle.std.specs.Prelude.{◌≡◌, ℕ, ◌<◌, List, [], map, fold, length}
use Rattle.std.specs.List.{flat_map}
use Rattle.std.proofs.Common.{ap, sym, ◌∙◌, subst, arith}
use Rattle.std.proofs.lemmas.Bool.{ltb-true}
use Rattle.std.proofs.lemmas.List.{length-map}
use mathlib.Core.Path.{fun_ext}
use Rattle.f_tree.specs.Facts.{Facts}
use Rattle.lowered_tree.specs.l_core.Steps.{Text}
use Rattle.lowered_tree.specs.declared.steps.Step.{Step}
use Rattle.lowered_tree.specs.Shapes.{step_of, steps_of}
use Rattle.lowered_text.specs.declared.text.LoweredText.{LoweredText}
use Rattle.lowered_text.specs.Texts.{IsText}
use Rattle.main_translation.specs.main_file.MainItems.{stops_from}
use Rattle.unit_translation.specs.UnitFlow.{are_in_place}
use Rattle.unit_translation.specs.UnitContents.{temporaries_kept, with_name, procedures_by, procedures_in}
use Rattle.main_translation.specs.Contents.{listings_from}
use Rattle.name_facts.specs.declared.table.NameFacts.{NameFacts}
use Rattle.unit_contents.specs.declared.contents.Contents.{Contents}
use Rattle.unit_contents.specs.ContentsOf.{listing_of, TellsNames, AreCalls, AreContents, AreContentsOf}
use Rattle.unit_contents.specs.Tables.{text_of, AreKinds, AreLaidOut}

-- the data determine a text, but for what its unit is and where its statements begin
same_text : (t : LoweredText) (u : Text) → IsText t u → u ≡ text_of t u.facts u.begins
same_text t u is =
    ap (λ steps. record { facts = u.facts; steps = steps; begins = u.begins; position = u.position; marks = u.marks }) (sym is.steps)
    ∙ ap (λ place. record { facts = u.facts; steps = steps_of t.steps.items; begins = u.begins; position = place; marks = u.marks }) (fun_ext (λ label. sym (is.labels label)))
    ∙ ap (λ marks. record { facts = u.facts; steps = steps_of t.steps.items; begins = u.begins; position = (text_of t u.facts u.begins).position; marks = marks }) (sym is.marks)

-- what is told of the steps alone
pub record AreWalked (steps : List Step) (c : Contents) : Type 0 where
  pub lists : map listing_of c.lists.items ≡ listings_from 0 (steps_of steps)
  pub temporaries : c.temporaries ≡ temporaries_kept (steps_of steps)
  pub strings : c.strings.items ≡ stops_from 0 (steps_of steps)
  pub calls : AreCalls (steps_of steps) c.calls

told_of : (table : NameFacts) (t : LoweredText) (c : Contents) (facts : Facts) (begins : ℕ → ℕ) → TellsNames table facts → AreWalked t.steps.items c
    → c.procedures.items ≡ fold with_name [] (flat_map (procedures_by facts) (steps_of t.steps.items)) → AreKinds table t c.kinds.items
    → c.are_outputs_in_place ≡ are_in_place (text_of t facts begins) 0 (steps_of t.steps.items) → AreLaidOut t c.layout → AreContents (text_of t facts begins) c
unfolding procedures_in
told_of table t c facts begins tells walked procedures kinds on laid = record {
  lists = walked.lists;
  temporaries = walked.temporaries;
  calls = walked.calls;
  procedures = procedures;
  strings = walked.strings;
  kinds = λ n k h.
      let low : n < length (steps_of t.steps.items) = ltb-true n (length (steps_of t.steps.items)) h in
      kinds.told facts begins tells n k (omega (arith, low, kinds.size, length-map t.steps.items step_of));
  outputs = on;
  labels = laid.labels facts begins;
  arms = laid.arms facts begins;
  loops = laid.loops facts begins;
}

pub contents_told : (table : NameFacts) (t : LoweredText) (ss : List Step) (c : Contents) → ss ≡ t.steps.items → AreWalked ss c
    → ((facts : Facts) → TellsNames table facts → c.procedures.items ≡ fold with_name [] (flat_map (procedures_by facts) (steps_of ss))) → AreKinds table t c.kinds.items
    → ((facts : Facts) (begins : ℕ → ℕ) → TellsNames table facts → c.are_outputs_in_place ≡ are_in_place (text_of t facts begins) 0 (steps_of t.steps.items)) → AreLaidOut t c.layout → AreContentsOf table t c
contents_told table t ss c same walked procedures kinds on laid = record {
  meant = λ u is tells.
      subst (λ v. AreContents v c) (sym (same_text t u is))
      (told_of table t c u.facts u.begins tells (subst (λ xs. AreWalked xs c) same walked) (procedures u.facts tells ∙ ap (λ xs. fold with_name [] (flat_map (procedures_by u.facts) (steps_of xs))) same) kinds (on u.facts u.begins tells) laid);
}
