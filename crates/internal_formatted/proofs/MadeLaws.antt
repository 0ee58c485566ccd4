-- One item more of a formatted output on any sheet: what the format makes before its descriptor, and with it.
use Rattle.std.proofs.Common.{◌≡◌, ℕ, suc, ◌+◌, false, Option, None, List, [], ◌∷◌, ◌++◌, length, refl, sym, ap, ◌∙◌, append-nil, arith}
use Rattle.edit_rules.specs.edit_meaning.Formats.{Format, Served, pass, reverted, edits_for}
use Rattle.edit_rules.specs.edit_meaning.Halts.{Halt}
use Rattle.edit_rules.specs.edit_meaning.Listed.{ListedValue}
use Rattle.edit_rules.specs.edit_meaning.Transfers.{Direction, edited, unserved_by, served_over, for_next}
use Rattle.edit_rules.specs.edit_meaning.EditedRecords.{Sheet, Output, output, output_start, made_on, made_ahead}
use Rattle.formatted_output.proofs.ServedLaws.{items_in, edits_items, edited-append, next-served, longer-by}
use Rattle.internal_formatted.specs.Reaching.{over_next, with_next}

-- the output over the edits of one more item
over-more : (page : Sheet) (format : Format) (values more : List ListedValue) (out : Output) → (edits_for format (length values)).unserved ≡ 0 → out.halted ≡ None →
    served_over (output page) (edits_for format (length values)) values (output_start page) ≡ out →
    served_over (output page) (edits_for format (suc (length values))) (values ++ more) (output_start page)
    ≡ with_next page (pass (reverted format)) (edits_for format (length values)).left more out
over-more page format values more out all runs made =
    let d : Direction Output ListedValue = output page in
    let start : Output = output_start page in
    let first : Served = edits_for format (length values) in
    let next : Served = for_next (pass (reverted format)) first.left in
    let here : Output = edited d (d.halted start) first.edits values start in
    let whole : Output = edited d (d.halted start) (first.edits ++ next.edits) (values ++ more) start in
    let items : items_in first.edits + first.unserved ≡ length values = edits_items format (length values) in
    let none : first.unserved ≡ 0 = all in
    let count : items_in first.edits ≡ length values = omega arith in
    let is : here ≡ out = sym (ap (λ (u : ℕ). unserved_by d u (d.halted here) here) all) ∙ made in
    let over : whole ≡ over_next page (pass (reverted format)) first.left more out =
    edited-append d (d.halted start) first.edits next.edits values more start refl count
    ∙ ap (λ (o : Output). edited d o.halted next.edits more o) is
    ∙ ap (λ (halted : Option Halt). edited d halted next.edits more out) runs in
    ap (λ (one : Served). served_over d one (values ++ more) start) (next-served format (length values) all)
    ∙ ap (λ (o : Output). unserved_by d next.unserved o.halted o) over

-- what the format makes before the descriptor of the next item
pub ahead-of : (page : Sheet) (format : Format) (values : List ListedValue) (out : Output) → (edits_for format (length values)).unserved ≡ 0 → out.halted ≡ None →
    made_on page format values false ≡ out → made_ahead page format values ≡ with_next page (pass (reverted format)) (edits_for format (length values)).left [] out
unfolding made_on made_ahead
ahead-of page format values out all runs made =
    ap (λ (items : List ListedValue). served_over (output page) (edits_for format (suc (length values))) items (output_start page)) (sym (append-nil values))
    ∙ over-more page format values [] out all runs made

-- and with it
pub made-with : (page : Sheet) (format : Format) (values : List ListedValue) (value : ListedValue) (out : Output) → (edits_for format (length values)).unserved ≡ 0 → out.halted ≡ None →
    made_on page format values false ≡ out →
    made_on page format (values ++ value ∷ []) false ≡ with_next page (pass (reverted format)) (edits_for format (length values)).left (value ∷ []) out
unfolding made_on
made-with page format values value out all runs made =
    ap (λ (items : ℕ). served_over (output page) (edits_for format items) (values ++ value ∷ []) (output_start page)) (longer-by values value)
    ∙ over-more page format values (value ∷ []) out all runs made
