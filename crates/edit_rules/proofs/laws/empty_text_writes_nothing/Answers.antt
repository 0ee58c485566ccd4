use Rattle.std.proofs.Common.{◌≡◌, ◌+◌, nat_le, Bool, if◌then◌else◌, Some, [], refl, ap, ◌∙◌, arith}
use Rattle.std.proofs.lemmas.Bool.{le-leb, lt-leb}
use Rattle.edit_meaning.specs.EditedFields.{text_field}
use Rattle.edit_meaning.specs.EditedRecords.{Sheet, Output, with_text}
use Rattle.edit_meaning.specs.Halts.{Number}
use Rattle.edit_rules.proofs.laws.empty_text_writes_nothing.Goals as goal

no_field : text_field [] 0 ≡ []
unfolding text_field
no_field = refl

-- what an empty text leaves, where the position is within the columns and where it is not
abbrev left_by : Output → Bool → Output
left_by out within = if within then out else record out { halted = Some (Number 5) }

empty_put : (sheet : Sheet) (out : Output) → with_text sheet [] out ≡ left_by out (nat_le out.before sheet.columns)
empty_put sheet out =
    let stays : out.before + 0 ≡ out.before = omega arith in
    ap (λ n. if nat_le n sheet.columns then record out { before = n } else record out { halted = Some (Number 5) }) stays

pub returns-clause-within : goal.returns-clause-within
returns-clause-within c sheet out h =
    ap (λ field. with_text sheet field out) no_field ∙ empty_put sheet out ∙ ap (left_by out) (le-leb out.before sheet.columns h)

pub returns-clause-past : goal.returns-clause-past
returns-clause-past c sheet out h =
    ap (λ field. (with_text sheet field out).halted) no_field
    ∙ ap (λ (next : Output). next.halted) (empty_put sheet out) ∙ ap (λ within. (left_by out within).halted) (lt-leb out.before sheet.columns h)
