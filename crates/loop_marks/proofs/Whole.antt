-- The text of a lowered unit marks the loops of its DO statements.
use Rattle.std.specs.Prelude.{◌≡◌, List, Option, Some, None, option_map}
use Rattle.std.proofs.Common.{refl, sym, ap, ◌∙◌, subst}
use Rattle.lowering.specs.l_core.f_tree.Facts.{Facts}
use Rattle.lowering.specs.l_core.f_tree.Nests.{each_ends}
use Rattle.lowering.specs.l_core.f_tree.Setting.{IsIn}
use Rattle.lowering.specs.l_core.f_tree.Places.{place_of_label}
use Rattle.lowering.specs.l_core.Steps.{Step, Text}
use Rattle.lowering.specs.Units.{start_of, all_named, lines_code, lines_marks, text_with, lowered_unit}
use Rattle.loop_marks.specs.MarkedLoops.{dos_are_plain, EachTextMarksItsLoops, EachBranchIsNamed}
use Rattle.ways_back.proofs.LoweredTexts.{text_lowered}
use Rattle.loop_marks.proofs.Labels.{lines_within}
use Rattle.loop_marks.proofs.Starts.{loops_are_marked}

-- a text is that of the steps of its unit
pub record IsTextOf (c : Facts) (u : Text) : Type 0 where
  pub facts : c ≡ u.facts
  pub steps : lines_code u.facts.program 0 u.facts.program.lines ≡ Some u.steps
  pub places : u.position ≡ (λ label. option_map (start_of u.facts.program) (place_of_label u.facts.program label))
  pub marks : u.marks ≡ lines_marks u.facts.program 0 u.facts.program.lines

text_by : (c : Facts) (u : Text) (found : Option (List Step)) → lines_code c.program 0 c.program.lines ≡ found → text_with c found ≡ Some u → IsTextOf c u
unfolding text_with
text_by c u None is h = absurd (cc)
text_by c u (Some steps) is h =
    let same : record {
      facts = c;
      steps = steps;
      begins = start_of c.program;
      position = λ label. option_map (start_of c.program) (place_of_label c.program label);
      marks = lines_marks c.program 0 c.program.lines;
    } ≡ u = cc in
    subst (IsTextOf c) same (record { facts = refl; steps = is; places = refl; marks = refl })

pub text_of : (c : Facts) (u : Text) → lowered_unit c ≡ Some u → IsTextOf c u
text_of c u h = text_by c u (lines_code c.program 0 c.program.lines) refl (text_lowered c u h)

pub each_text_marks_its_loops : EachTextMarksItsLoops
each_text_marks_its_loops c u plain ends h =
    let text = text_of c u h in
    loops_are_marked u text.steps text.places text.marks (ap (λ (d : Facts). each_ends d.program 0 d.program.lines) (sym text.facts) ∙ ends) (ap (λ (d : Facts). dos_are_plain d.program.lines) (sym text.facts) ∙ plain)

pub each_branch_is_named : EachBranchIsNamed
each_branch_is_named c u h label among =
    let text = text_of c u h in
    subst (λ (d : Facts). IsIn label (all_named d.program.lines)) (sym text.facts) (lines_within u.facts.program u.steps text.steps label among)
