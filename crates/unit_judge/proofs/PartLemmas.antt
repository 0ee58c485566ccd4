-- The first of the rows of a unit is the earliest of the firsts of its parts.
use Rattle.std.proofs.Common.{◌≡◌, List, [], ◌++◌, Option, refl, sym, ap, ◌∙◌, append_assoc}
use Rattle.f_tree.specs.declared.names.Options.{Options}
use Rattle.f_tree.specs.declared.refusals.Refusal.{Refusal}
use Rattle.f_tree.specs.declared.units.Unit.{Unit as WrittenUnit}
use Rattle.f_tree.specs.Facts.{ProgramUnit}
use Rattle.f_tree.specs.Attributes.{arrays_of}
use Rattle.f_tree.specs.Lines.{unit_read}
use Rattle.name_facts.specs.declaration_rows.NameRows.{given_names, own_attributes, all_names, defined_rows, names_rows}
use Rattle.name_facts.specs.declaration_rows.UnitRows.{labels_rows, nest_rows, end_rows, ends_by_end, ranges_from, crossing_rows, unit_rows_as, unit_rows}
use Rattle.name_facts.specs.declaration_rows.UndeclaredRows.{unit_undeclared_rows}
use Rattle.name_facts.specs.declaration_rows.OrderRows.{unit_order_rows}
use Rattle.name_facts.specs.declaration_rows.BlockRows.{unit_block_rows}
use Rattle.name_facts.specs.declaration_rows.FormatRows.{unit_format_rows}
use Rattle.name_facts.specs.declaration_rows.ReferenceRows.{unit_reference_rows}
use Rattle.name_facts.specs.declaration_rows.LengthRows.{unit_length_rows}
use Rattle.name_facts.specs.declaration_rows.ExpansionRows.{unit_expansion_rows}
use Rattle.name_facts.specs.declaration_rows.GivenRows.{unit_given_rows}
use Rattle.name_facts.specs.declaration_rows.SetRows.{all_unit_rows}
use Rattle.name_facts.specs.declaration_rows.Verdicts.{first_of}
use Rattle.refusal_order.specs.Earliest.{earliest}
use Rattle.refusal_order.proofs.FirstOfBoth.{first_of_both}
use Rattle.unit_judge.specs.UnitParts.{declared_rows, control_rows, executed_rows, placed_rows, used_rows, expanded_rows, further_rows}

-- of two lists, and of three
pub first_two : (rs qs : List Refusal) (a b found : Option Refusal) → a ≡ first_of rs → b ≡ first_of qs → found ≡ earliest a b → found ≡ first_of (rs ++ qs)
first_two rs qs a b found one two is = is ∙ ap (λ o. earliest o b) one ∙ ap (earliest (first_of rs)) two ∙ sym (first_of_both rs qs)

pub first_three : (rs qs ps : List Refusal) (a b c later found : Option Refusal) → a ≡ first_of rs → b ≡ first_of qs → c ≡ first_of ps → later ≡ earliest b c
    → found ≡ earliest a later → found ≡ first_of (rs ++ (qs ++ ps))
first_three rs qs ps a b c later found one two three behind is = first_two rs (qs ++ ps) a later found one (first_two qs ps b c later two three behind) is

pub control_first : (u : WrittenUnit) (p : ProgramUnit) (structure crossing found : Option Refusal)
    → structure ≡ first_of (labels_rows [] u.statements ++ (nest_rows [] u.statements ++ end_rows u (ends_by_end u.statements)))
    → crossing ≡ first_of (crossing_rows (ranges_from p 0 u.statements) 0 u.statements) → found ≡ earliest structure crossing → found ≡ first_of (control_rows u p)
unfolding control_rows
control_first u p structure crossing found one two is =
    let labels : List Refusal = labels_rows [] u.statements in
    let nest : List Refusal = nest_rows [] u.statements in
    let ends : List Refusal = end_rows u (ends_by_end u.statements) in
    let ranges : List Refusal = crossing_rows (ranges_from p 0 u.statements) 0 u.statements in
    first_two (labels ++ (nest ++ ends)) ranges structure crossing found one two is
    ∙ ap first_of (append_assoc labels (nest ++ ends) ranges ∙ ap (λ (rs : List Refusal). labels ++ rs) (append_assoc nest ends ranges))

-- THE WHOLE UNIT
own_of : (options : Options) (u : WrittenUnit) → declared_rows u ++ executed_rows u (unit_read options u) ≡ unit_rows options u
unfolding declared_rows executed_rows control_rows unit_rows unit_rows_as
own_of options u =
    append_assoc (names_rows u (all_names u)) (defined_rows (given_names u) (own_attributes u) (arrays_of u) [] [] u.statements) (executed_rows u (unit_read options u))

pub own_first : (options : Options) (u : WrittenUnit) (declared executed found : Option Refusal) → declared ≡ first_of (declared_rows u)
    → executed ≡ first_of (executed_rows u (unit_read options u)) → found ≡ earliest declared executed → found ≡ first_of (unit_rows options u)
own_first options u declared executed found one two is =
    first_two (declared_rows u) (executed_rows u (unit_read options u)) declared executed found one two is ∙ ap first_of (own_of options u)

three : (rs qs ps behind : List Refusal) → (rs ++ (qs ++ ps)) ++ behind ≡ rs ++ (qs ++ (ps ++ behind))
three rs qs ps behind = append_assoc rs (qs ++ ps) behind ∙ ap (λ (os : List Refusal). rs ++ os) (append_assoc qs ps behind)

further_of : (options : Options) (u : WrittenUnit) → unit_rows options u ++ further_rows options u ≡ all_unit_rows options u
unfolding placed_rows used_rows expanded_rows further_rows all_unit_rows
further_of options u =
    let undeclared : List Refusal = unit_undeclared_rows options u in
    let order : List Refusal = unit_order_rows u in
    let blocks : List Refusal = unit_block_rows u (unit_read options u) in
    let formats : List Refusal = unit_format_rows u in
    let references : List Refusal = unit_reference_rows u in
    let lengths : List Refusal = unit_length_rows u in
    ap (λ (rs : List Refusal). unit_rows options u ++ rs)
    (three undeclared order blocks (used_rows u ++ expanded_rows u)
    ∙ ap (λ (rs : List Refusal). undeclared ++ (order ++ (blocks ++ rs))) (three formats references lengths (expanded_rows u)))

pub unit_first : (options : Options) (u : WrittenUnit) (own further found : Option Refusal) → own ≡ first_of (unit_rows options u)
    → further ≡ first_of (further_rows options u) → found ≡ earliest own further → found ≡ first_of (all_unit_rows options u)
unit_first options u own further found one two is =
    first_two (unit_rows options u) (further_rows options u) own further found one two is ∙ ap first_of (further_of options u)
