use Rattle.std.proofs.Common.{◌||◌, ◌∷◌, [], refl, sym, ap, ◌∙◌, get_or, arith}
use Rattle.std.specs.List.{list_any}
use Rattle.std.proofs.lemmas.List.{drop_all}
use Rattle.found_rows.proofs.Walks.{comes_on}
use Rattle.f_tree.specs.Uses.{is_among}
use Rattle.name_table.specs.Named.{names_in}
use Rattle.name_uses.specs.declared.uses.Use.{Use}
use Rattle.name_uses.specs.UsesSeen.{use_of, used_in}
use Rattle.name_uses.proofs.ItemForms.{no_use}
use Rattle.statement_order.specs.BeforeSteps.{uses_as}
use Rattle.statement_order.proofs.UseSets.{or_false, uses_step}
use Rattle.statement_order.proofs.before.note_uses.Goals as goal

pub loop-one-preserved : goal.loop-one-preserved
loop-one-preserved c =
    let u = get_or c.args.uses.now c.loop-one.one-index no_use in
    record {
      is_set = c.in_ok-note_use.ensures.is_set;
      has = λ x.
          comes_on (λ b us. b || list_any (uses_as x) (used_in us)) (λ b (v : Use). b || list_any (uses_as x) (use_of v ∷ [])) (uses_step x) c.args.uses.now c.loop-one.one-index u
          no_use (is_among x (names_in c.loop-one.used)) _ _ c.loop-one-test.true refl (c.loop-one.invariant.has x) (c.in_ok-note_use.ensures.has x);
    }

pub returns : goal.returns
returns c = record {
  has = λ x.
      sym
      (c.loop-one.invariant.has x
      ∙ ap (λ us. is_among x (names_in c.loop-one.used) || list_any (uses_as x) (used_in us)) (drop_all c.loop-one.one-index c.args.uses.now (omega arith))
      ∙ sym (or_false (is_among x (names_in c.loop-one.used))));
  is_set = c.loop-one.invariant.is_set;
}
