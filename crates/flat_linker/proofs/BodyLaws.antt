-- A function's statements, with the return behind them.
use Rattle.std.proofs.Common.{◌≡◌, refl, sym, ap, ◌∙◌, subst, ℕ, Bool, true, false, List, [], ◌++◌, length, map, None, Result, Ok, Err}
use Rattle.std.specs.Result.{IsErrAnd}
use Rattle.std.proofs.lemmas.Result.{err_from_is_err_and}
use Rattle.c_tree.specs.declared.statement.CStmt.{CStmt}
use Rattle.c_tree.specs.Flat.{Return}
use Rattle.c_tree.specs.Drafts.{Scope, bare}
use Rattle.c_tree.specs.FlatForm.{Body, Labels, position_of, sequence, one, body_of_all, with_return, whole_body, flat_form, ends}
use Rattle.first_names.specs.FirstNames.{first_of}
use Rattle.first_names.specs.declared.FirstNames.{FirstNames}
use Rattle.linked_terms.specs.declared.items.LinkedItem.{LinkedItem}
use Rattle.linked_terms.specs.LinkedItems.{flat_of}
use Rattle.expression_linker.specs.LinkedParts.{Links}
use Rattle.expression_linker.specs.declared.failure.LinkFail.{LinkFail}
use Rattle.expression_linker.specs.declared.failure.LinkFail.TheVariants as fail
use Rattle.flat_linker.specs.declared.written.Written.{Written}
use Rattle.flat_linker.specs.LostNames.{some_lost}
use Rattle.flat_linker.specs.PutItems.{PutsBody}
use Rattle.flat_linker.proofs.MarkLaws.{later-none, position-append}
use Rattle.flat_linker.proofs.PutLaws.{seq-lost, again-puts}

pub whole-ended : (list : List CStmt) → ends list ≡ true → whole_body list ≡ body_of_all list
whole-ended list is = ap (λ b. with_return b (body_of_all list)) is

pub whole-open : (list : List CStmt) → ends list ≡ false → whole_body list ≡ sequence (body_of_all list) (one (bare (Return None)))
whole-open list is = ap (λ b. with_return b (body_of_all list)) is

return_lost : (scope : Scope) (labels : Labels) (r : Result (Unit {0}) LinkFail) (e : LinkFail) (ended : Bool) (b : Body) (x y z : Written) → IsErrAnd r (λ f. f ≡ e) → PutsBody (Err e) b scope labels x y →
    PutsBody r (with_return ended b) scope labels x z
return_lost scope labels r e true b x y z is h = again-puts r e (b.items.drawn scope x.next labels (length x.items)) (length b.items.strings) b.size x y z is h
return_lost scope labels r e false b x y z is h = seq-lost scope labels r e b (one (bare (Return None))) x y z is h

pub whole-lost : (scope : Scope) (labels : Labels) (r : Result (Unit {0}) LinkFail) (e : LinkFail) (list : List CStmt) (x y z : Written) → IsErrAnd r (λ f. f ≡ e) → PutsBody (Err e) (body_of_all list) scope labels x y →
    PutsBody r (whole_body list) scope labels x z
whole-lost scope labels r e list x y z is h = return_lost scope labels r e (ends list) (body_of_all list) x y z is h

return_labels : (ended : Bool) (b : Body) (q : List ℕ) → position_of ((with_return ended b).labels 0) q ≡ position_of (b.labels 0) q
return_labels true b q = refl
return_labels false b q = position-append (b.labels 0) [] q ∙ sym (later-none (position_of (b.labels 0) q))

-- the labels of the statements are those of the whole
whole_labels : (list : List CStmt) (marks : FirstNames ℕ) → ((q : List ℕ) → first_of marks q ≡ position_of ((body_of_all list).labels 0) q) → first_of marks ≡ position_of ((whole_body list).labels 0)
whole_labels list marks h = λ i q. (h q ∙ sym (return_labels (ends list) (body_of_all list) q)) i

pub whole-drawn : (list : List CStmt) (scope : Scope) (n : ℕ) (marks : FirstNames ℕ) → ((q : List ℕ) → first_of marks q ≡ position_of ((body_of_all list).labels 0) q) →
    (whole_body list).items.drawn scope n (first_of marks) 0 ≡ flat_form (whole_body list) scope n
whole-drawn list scope n marks h = ap (λ labels. (whole_body list).items.drawn scope n labels 0) (whole_labels list marks h)

pub linked-whole : (list : List CStmt) (scope : Scope) (n : ℕ) (marks : FirstNames ℕ) (x z : Written) → ((q : List ℕ) → first_of marks q ≡ position_of ((body_of_all list).labels 0) q) →
    x.items ≡ [] → x.next ≡ n → PutsBody (Ok tt) (whole_body list) scope (first_of marks) x z → map flat_of z.items ≡ flat_form (whole_body list) scope n
linked-whole list scope n marks x z h none next stands =
    stands.items
    ∙ (λ i. map flat_of (none i) ++ (whole_body list).items.drawn scope (next i) (first_of marks) (length (none i)))
    ∙ whole-drawn list scope n marks h

lost_whole : (list : List CStmt) (scope : Scope) (n : ℕ) (marks : FirstNames ℕ) (x z : Written) (e : LinkFail) → ((q : List ℕ) → first_of marks q ≡ position_of ((body_of_all list).labels 0) q) →
    x.items ≡ [] → x.next ≡ n → PutsBody (Err e) (whole_body list) scope (first_of marks) x z → Links (map flat_of) some_lost (Err e) (flat_form (whole_body list) scope n)
lost_whole list scope n marks x z fail.Unknown h none next is =
    ap some_lost (sym ((λ i. (whole_body list).items.drawn scope (next i) (first_of marks) (length (none i))) ∙ whole-drawn list scope n marks h)) ∙ is
lost_whole list scope n marks x z fail.Memory h none next is = tt

pub unlinked-whole : (r : Result (List LinkedItem) LinkFail) (list : List CStmt) (scope : Scope) (n : ℕ) (marks : FirstNames ℕ) (x z : Written) (e : LinkFail) → ((q : List ℕ) → first_of marks q ≡ position_of ((body_of_all list).labels 0) q) →
    x.items ≡ [] → x.next ≡ n → IsErrAnd r (λ f. f ≡ e) → PutsBody (Err e) (whole_body list) scope (first_of marks) x z → Links (map flat_of) some_lost r (flat_form (whole_body list) scope n)
unlinked-whole r list scope n marks x z e h none next is puts =
    let p = err_from_is_err_and r is in
    let same : r ≡ Err e = p.1 ∙ ap Err p.2 in
    subst (λ w. Links (map flat_of) some_lost w (flat_form (whole_body list) scope n)) (sym same) (lost_whole list scope n marks x z e h none next puts)
