use Rattle.std.proofs.Common.{◌++◌, sym, ap, ◌∙◌}
use Rattle.std.proofs.lemmas.List.{append-nil}
use Rattle.found_rows.proofs.Walks.{put_as}
use Rattle.declaration_rows.specs.FormatRows.{format_text_rows}
use Rattle.declaration_rows.specs.NameRows.{stood}
use Rattle.f_tree.specs.Values.{Bytes}
use Rattle.f_tree.specs.declared.statements.Body.{Body}
use Rattle.format_judge.specs.FormatsFound.{words_found, body_found}
use Rattle.format_judge.proofs.FormatForms.{found-Format, found-Transfer, found-IfOne, found_other}
use Rattle.format_judge.proofs.judge.+body.Goals as goal

pub returns-in-Format : goal.returns-in-Format
returns-in-Format t c =
    let s = c.args.statement.now in
    let names = c.args.names.now in
    put_as c.add_text_row.result _ _ (stood s (format_text_rows c.as_slice.result.now)) _
    (ap (λ (x : Bytes). stood s (format_text_rows x)) c.as_slice.ensures ∙ ap (stood s) (sym (found-Format names c.in-Format.text) ∙ ap (body_found names) (sym c.in-Format.is)))
    c.add_text_row.ensures

pub returns-in-Transfer : goal.returns-in-Transfer
returns-in-Transfer t c =
    let s = c.args.statement.now in
    let names = c.args.names.now in
    put_as c.add_words_rows.result _ _ (stood s (words_found names c.as_slice-in-Transfer.result.now)) _
    (ap (λ cs. stood s (words_found names cs)) c.as_slice-in-Transfer.ensures
    ∙ ap (stood s) (sym (found-Transfer names c.in-Transfer.field-0 c.in-Transfer.controls c.in-Transfer.field-2) ∙ ap (body_found names) (sym c.in-Transfer.is)))
    c.add_words_rows.ensures

pub returns-in-IfOne : goal.returns-in-IfOne
returns-in-IfOne t c =
    let s = c.args.statement.now in
    let names = c.args.names.now in
    put_as c.add_body_rows.result _ _ (stood s (body_found names c.get.result.now)) _
    (ap (λ (b : Body). stood s (body_found names b)) c.get.ensures
    ∙ ap (stood s) (sym (found-IfOne names c.in-IfOne.field-0 c.in-IfOne.body) ∙ ap (body_found names) (sym c.in-IfOne.is)))
    c.add_body_rows.ensures

pub returns-in_default : goal.returns-in_default
unfolding stood
returns-in_default t c =
    let start = c.args.found.now.items in
    sym (append-nil start) ∙ ap (λ rs. start ++ rs)
    (ap (stood c.args.statement.now) (sym (found_other c.args.names.now c.args.body.now c.in_default.not-Format c.in_default.not-Transfer c.in_default.not-IfOne)))
