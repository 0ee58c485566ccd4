-- Sizes of statements, added up.
use Rattle.std.proofs.Common.{◌≡◌, sym, ap, ◌∙◌, ℕ, ◌+◌, ◌<◌, ◌≤◌, List, length, drop, get_or, Result, Ok, Err, IfOk, arith}
use Rattle.std.proofs.lemmas.List.{at_drop_more, at_drop_all}
use Rattle.c_tree.specs.declared.statement.CStmt.{CStmt}
use Rattle.c_tree.specs.FlatForm.{body, body_of_all}

pub if-as : {E : Type 0} (r : Result ℕ E) (a b : ℕ) → b ≡ a → IfOk r (λ s. s ≡ a) → IfOk r (λ s. s ≡ b)
if-as (Ok s) a b same h = h ∙ sym same
if-as (Err e) a b same h = h

pub two_sum : (f s both : ℕ) → both ≡ f + s → 2 + f + s ≡ 2 + both
two_sum f s both h = omega (arith, h)

pub all-first : (list : List CStmt) → (body_of_all list).size ≡ 0 + (body_of_all list).size
all-first list = omega arith

pub size-more : (list : List CStmt) (i : ℕ) (a : CStmt) (whole n m k : ℕ) → i < length list → a ≡ get_or list i a → whole ≡ n + (body_of_all (drop i list)).size → k ≡ (body a).size → m ≡ n + k →
    whole ≡ m + (body_of_all (drop (i + 1) list)).size
size-more list i a whole n m k inside is all size sum =
    let rest : (body_of_all (drop i list)).size ≡ (body a).size + (body_of_all (drop (i + 1) list)).size =
    at_drop_more (λ z. (body_of_all z).size) list i a inside ∙ ap (λ z. (body z).size + (body_of_all (drop (i + 1) list)).size) (sym is)
    in omega (arith, all, size, sum, rest)

pub size-end : (list : List CStmt) (i : ℕ) (whole n : ℕ) → length list ≤ i → whole ≡ n + (body_of_all (drop i list)).size → n ≡ whole
size-end list i whole n past all =
    let rest : (body_of_all (drop i list)).size ≡ 0 = at_drop_all (λ z. (body_of_all z).size) list i past in omega (arith, all, rest)
