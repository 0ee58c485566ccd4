-- The declarations of a function, one after the other.
use Rattle.std.proofs.Common.{◌≡◌, ℕ, ◌+◌, ◌<◌, ◌≤◌, List, ◌∷◌, ◌++◌, Option, Some, Result, Ok, Err, OnOk, length, drop, get_or, sym, ap, ◌∙◌, append_assoc}
use Rattle.std.proofs.lemmas.List.{drop_more, drop_all}
use Rattle.c_tree.specs.declared.declaration.CLocal.{CLocal}
use Rattle.c_text.specs.declared.local.Part.{Part}
use Rattle.c_text.specs.Declarations.{part_of, heading_after, local_line, parts_end, locals_after}

-- a declaration that is written leaves the later ones
locals-step : (done all : List ℕ) (before : Option Part) (local : CLocal) (later : List CLocal)
    → done ++ locals_after before (local ∷ later) ≡ all
    → ((done ++ heading_after before (part_of local)) ++ local_line local) ++ locals_after (Some (part_of local)) later ≡ all
unfolding locals_after
locals-step done all before local later whole =
    append_assoc (done ++ heading_after before (part_of local)) (local_line local) (locals_after (Some (part_of local)) later)
    ∙ append_assoc done (heading_after before (part_of local)) (local_line local ++ locals_after (Some (part_of local)) later)
    ∙ whole

-- the same for the declaration at an index, written in two pieces
pub locals-next : (done headed lined all : List ℕ) (before : Option Part) (locals : List CLocal) (i : ℕ) (local : CLocal) (part : Part)
    → i < length locals → local ≡ get_or locals i local → part ≡ part_of local → headed ≡ done ++ heading_after before part
    → lined ≡ headed ++ local_line local → done ++ locals_after before (drop i locals) ≡ all
    → lined ++ locals_after (Some part) (drop (i + 1) locals) ≡ all
locals-next done headed lined all before locals i local part below is of head line whole =
    let rest : List CLocal = drop (i + 1) locals in
    let split : drop i locals ≡ local ∷ rest = drop_more locals i local below ∙ ap (λ x. x ∷ rest) (sym is) in
    let next : done ++ locals_after before (local ∷ rest) ≡ all = sym (ap (λ r. done ++ locals_after before r) split) ∙ whole in
    ap (λ text. text ++ locals_after (Some part) rest) (line ∙ ap (λ text. text ++ local_line local) head)
    ∙ ap (λ q. ((done ++ heading_after before q) ++ local_line local) ++ locals_after (Some q) rest) of
    ∙ locals-step done all before local rest next

-- where none is left, the end of the last part is
pub locals-end : (done all : List ℕ) (before : Option Part) (locals : List CLocal) (i : ℕ) → length locals ≤ i
    → done ++ locals_after before (drop i locals) ≡ all → done ++ parts_end before ≡ all
unfolding locals_after
locals-end done all before locals i past whole = sym (ap (λ r. done ++ locals_after before r) (drop_all i locals past)) ∙ whole

-- what follows from a fact of the one case holds there
pub on-ok : {T E A B : Type 0} (r : Result T E) → OnOk r A → (A → B) → OnOk r B
on-ok (Ok value) fact step = step fact
on-ok (Err reason) fact step = fact
