use Rattle.std.proofs.Common.{◌≡◌, ◌+◌, ◌∷◌, true, false, length, take, drop, sym, ap, subst, ◌∙◌, arith}
use Rattle.std.specs.List.{list_any}
use Rattle.std.proofs.lemmas.List.{take_rest, length-drop}
use Rattle.fortran_text.specs.Lines.{lines}
use Rattle.split_pieces.specs.Pieces.{is_initial, is_end_card}
use Rattle.fsplit.proofs.PieceLemmas.{piece_begins, begun_on, piece_ended, piece_last, piece_whole}
use Rattle.fsplit.proofs.extents.piece_length.Goals as goal

pub loop-passed-init : goal.loop-passed-init
loop-passed-init c = record { begun = piece_begins c.args.text.now c.requires; within = omega arith }

pub returns-then-has_statement-clause-first : goal.returns-then-has_statement-clause-first
returns-then-has_statement-clause-first c =
    let text = c.args.text.now in
    let p = c.loop-passed.passed in
    let n = c.line_length-length.result in
    piece_ended text p n c.loop-passed.invariant.begun
    (subst (λ r. lines r ≡ take n r ∷ lines (drop n r)) (take_rest text p) c.line_length-length.ensures.first)
    (subst (λ r. is_end_card (take n r) ≡ true) (take_rest text p) (sym c.is_end_card.ensures ∙ c.if-is_end_card.true))
    (subst (λ r. list_any is_initial (lines r) ≡ true) (take_rest text (p + n)) (sym c.has_statement.ensures ∙ c.if-has_statement.true))

pub returns-else-has_statement-clause-first : goal.returns-else-has_statement-clause-first
returns-else-has_statement-clause-first c =
    let text = c.args.text.now in
    let p = c.loop-passed.passed in
    let n = c.line_length-length.result in
    piece_last text p n c.loop-passed.invariant.begun
    (subst (λ r. lines r ≡ take n r ∷ lines (drop n r)) (take_rest text p) c.line_length-length.ensures.first)
    (subst (λ r. is_end_card (take n r) ≡ true) (take_rest text p) (sym c.is_end_card.ensures ∙ c.if-is_end_card.true))
    (subst (λ r. list_any is_initial (lines r) ≡ false) (take_rest text (p + n)) (sym c.has_statement.ensures ∙ c.if-has_statement.false))

pub loop-passed-preserved : goal.loop-passed-preserved
loop-passed-preserved c =
    let text = c.args.text.now in
    let p = c.loop-passed.passed in
    let n = c.line_length-length.result in
    record {
      begun = begun_on text p n c.loop-passed.invariant.begun
          (subst (λ r. lines r ≡ take n r ∷ lines (drop n r)) (take_rest text p) c.line_length-length.ensures.first)
          (subst (λ r. is_end_card (take n r) ≡ false) (take_rest text p) (sym c.is_end_card.ensures ∙ c.if-is_end_card.false));
      within = omega (arith, c.loop-passed.invariant.within, c.line_length-length.ensures.within, ap length (take_rest text p), length-drop p text);
    }

pub returns-clause-first : goal.returns-clause-first
returns-clause-first c = piece_whole c.args.text.now c.loop-passed.passed c.loop-passed.invariant.begun (omega arith)
