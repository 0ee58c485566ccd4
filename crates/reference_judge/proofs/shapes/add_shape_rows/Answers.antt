use Rattle.std.proofs.Common.{◌++◌, ◌∷◌, [], List, bytes_eq, map, refl, sym, ap, ◌∙◌, arith}
use Rattle.found_rows.proofs.Walks.{walk_more, walk_end}
use Rattle.declaration_rows.specs.ReferenceRows as rows
use Rattle.declaration_rows.specs.ReferenceRows.{first_arguments}
use Rattle.reference_judge.specs.declared.references.Reference.{Reference}
use Rattle.reference_judge.specs.ArgumentsSeen.{kind_in}
use Rattle.reference_judge.specs.FirstShapes.{first_or, shape_row, rows_from, no_references}
use Rattle.reference_judge.specs.ReferencesSeen.{located, located_of}
use Rattle.reference_judge.proofs.ShapeLaws.{first_more, first_none, rows_step, rows_end}
use Rattle.reference_judge.proofs.shapes.add_shape_rows.Goals as goal

pub loop-reference-init : goal.loop-reference-init
unfolding no_references
loop-reference-init c = record { before = []; first = λ x. first_none c.new-first.result x (c.new-first.ensures x); rest = refl }

pub loop-reference-preserved : goal.loop-reference-preserved
unfolding located_of
loop-reference-preserved c =
    let inv = c.loop-reference.invariant in
    let r = c.reference-item.result in
    record {
      before = inv.before ++ (located_of r).reference ∷ [];
      first = λ x. c.in_ok-note.ensures x ∙ ap (λ o. first_or o (bytes_eq r.name.now x) (map kind_in r.arguments.items)) (inv.first x) ∙ sym (first_more x inv.before (located_of r).reference);
      rest = walk_more (λ (b : List rows.Reference) (rs : List Reference). rows_from b (located rs)) (λ (b : List rows.Reference) (q : Reference). shape_row (first_arguments q.name.now b) (located_of q))
          (λ (b : List rows.Reference) (q : Reference). b ++ (located_of q).reference ∷ []) (λ b q qs. rows_step b q (located qs)) c.args.references.now c.loop-reference.reference-index r _ inv.before _ _ _ _
          c.loop-reference-test.true c.reference-item.is inv.rest
          (c.in_ok-add_row.ensures ∙ ap (λ o. c.loop-reference.found.items ++ shape_row o (located_of r)) (inv.first r.name.now)) refl;
    }

pub returns : goal.returns
returns c =
    let inv = c.loop-reference.invariant in
    walk_end (λ (b : List rows.Reference) (rs : List Reference). rows_from b (located rs)) (λ (b : List rows.Reference) (q : Reference). shape_row (first_arguments q.name.now b) (located_of q))
    (λ (b : List rows.Reference) (q : Reference). b ++ (located_of q).reference ∷ []) rows_end c.args.references.now c.loop-reference.reference-index inv.before _ _ (omega arith) inv.rest
