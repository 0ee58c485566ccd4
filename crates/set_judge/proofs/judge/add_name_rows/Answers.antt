use Rattle.std.proofs.Common.{[], refl, ap, ◌∙◌, arith, map, get_or}
use Rattle.found_rows.proofs.Walks.{walk_more, walk_end}
use Rattle.f_tree.specs.declared.refusals.Kind.TheVariants.{GlobalNameTwice}
use Rattle.declaration_rows.specs.Judgement.{unless}
use Rattle.declaration_rows.specs.GlobalRows.{refused_at}
use Rattle.std.proofs.Common.{◌++◌, not}
use Rattle.set_judge.specs.GlobalSteps.{standing_of}
use Rattle.set_judge.proofs.JudgeLemmas.{no_name, rows_of_names, rows_of_name, behind_name, names_step, names_none, name_clashes, name_behind}
use Rattle.set_judge.proofs.judge.add_name_rows.Goals as goal

pub loop-name-init : goal.loop-name-init
unfolding standing_of
loop-name-init c = record { before = []; seen = record { standing = λ x. c.new-seen.ensures x }; rows = refl }

pub loop-name-preserved : goal.loop-name-preserved
loop-name-preserved c =
    let g = get_or c.args.names.now c.loop-name.name-index no_name in
    let inv = c.loop-name.invariant in
    let earlier = c.loop-name.found.items in
    record {
      before = behind_name inv.before g;
      seen = name_behind c.loop-name.seen c.put.new.self inv.before g c.get-before.result c.is_block_still.result inv.seen c.get-before.ensures
          c.is_block_still.ensures c.in_ok-put.ensures;
      rows = walk_more rows_of_names rows_of_name behind_name names_step c.args.names.now c.loop-name.name-index g no_name inv.before _ _ _ _ c.loop-name-test.true refl
          inv.rows
          (c.in_ok-add_row.ensures
          ∙ ap (λ b. earlier ++ map (refused_at g.file g.card) (unless (not b) GlobalNameTwice))
          (name_clashes c.loop-name.seen inv.before g c.get-before.result c.clashes-twice.result inv.seen c.get-before.ensures c.clashes-twice.ensures))
          refl;
    }

pub returns : goal.returns
returns c =
    walk_end rows_of_names rows_of_name behind_name names_none c.args.names.now c.loop-name.name-index c.loop-name.invariant.before _ _ (omega arith)
    c.loop-name.invariant.rows
