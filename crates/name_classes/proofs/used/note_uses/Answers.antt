use Rattle.std.proofs.Common.{List, ◌∷◌, [], get_or, refl, arith}
use Rattle.name_uses.proofs.found_rows.Walks.{each_more, each_end}
use Rattle.f_tree.specs.Attributes.{with_list, called}
use Rattle.name_uses.specs.declared.uses.Use.{Use as Seen}
use Rattle.name_uses.specs.UsesSeen.{use_of, used_in}
use Rattle.name_uses.proofs.ItemForms.{no_use}
use Rattle.name_classes.specs.StatedNames.{used_as}
use Rattle.name_classes.proofs.UsedForms.{used_step, used_none}
use Rattle.name_classes.proofs.used.note_uses.Goals as goal

pub loop-one-preserved : goal.loop-one-preserved
loop-one-preserved c = record {
  listed_set = c.in_ok-note_use.ensures.with_list.is_set;
  listed =
      each_more (λ (us : List Seen). used_as with_list (used_in us)) (λ (u : Seen). used_as with_list (use_of u ∷ [])) (used_step with_list) c.args.uses.now c.loop-one.one-index
      (get_or c.args.uses.now c.loop-one.one-index no_use) no_use _ _ _ c.loop-one-test.true refl c.loop-one.invariant.listed c.in_ok-note_use.ensures.with_list.put;
  calls_set = c.in_ok-note_use.ensures.called.is_set;
  calls =
      each_more (λ (us : List Seen). used_as called (used_in us)) (λ (u : Seen). used_as called (use_of u ∷ [])) (used_step called) c.args.uses.now c.loop-one.one-index
      (get_or c.args.uses.now c.loop-one.one-index no_use) no_use _ _ _ c.loop-one-test.true refl c.loop-one.invariant.calls c.in_ok-note_use.ensures.called.put;
}

pub returns-clause-with_list : goal.returns-clause-with_list
returns-clause-with_list c = record {
  put = each_end (λ (us : List Seen). used_as with_list (used_in us)) (λ (u : Seen). used_as with_list (use_of u ∷ [])) (used_none with_list) c.args.uses.now c.loop-one.one-index _ _ (omega arith) c.loop-one.invariant.listed;
  is_set = c.loop-one.invariant.listed_set;
}

pub returns-clause-called : goal.returns-clause-called
returns-clause-called c = record {
  put = each_end (λ (us : List Seen). used_as called (used_in us)) (λ (u : Seen). used_as called (use_of u ∷ [])) (used_none called) c.args.uses.now c.loop-one.one-index _ _ (omega arith) c.loop-one.invariant.calls;
  is_set = c.loop-one.invariant.calls_set;
}
