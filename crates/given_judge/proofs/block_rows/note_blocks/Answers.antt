use Rattle.std.proofs.Common.{List, ◌∷◌, [], get_or, refl, arith}
use Rattle.std.specs.Borrow.{Bor}
use Rattle.f_tree.specs.Values.{Bytes}
use Rattle.name_table.specs.Named.{texts}
use Rattle.name_places.proofs.NoteLemmas.{notes_more, notes_end}
use Rattle.given_judge.proofs.RowForms.{no_text}
use Rattle.given_judge.proofs.block_rows.note_blocks.Goals as goal

pub loop-name-preserved : goal.loop-name-preserved
loop-name-preserved c =
    notes_more (λ (xs : List (Bor Bytes)). texts xs) (λ (x : Bor Bytes). x.now ∷ []) (λ x xs. refl) c.args.at c.args.names.now c.loop-name.name-index
    (get_or c.args.names.now c.loop-name.name-index no_text) no_text _ _ _ c.loop-name-test.true refl c.loop-name.invariant c.in_ok-note_block.ensures

pub returns : goal.returns
returns c =
    notes_end (λ (xs : List (Bor Bytes)). texts xs) (λ (x : Bor Bytes). x.now ∷ []) refl c.args.at c.args.names.now c.loop-name.name-index _ _ (omega arith) c.loop-name.invariant
