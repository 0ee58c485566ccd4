-- The index of an element, from its last subscript on.
use Rattle.std.specs.declared.alloc.AllocError.{AllocError}
use Rattle.std.proofs.Common.{◌≡◌, ℕ, suc, ◌+◌, pos, List, [], ◌∷◌, ◌++◌, length, Option, Some, Result, Ok, Err, IfOk, refl, ap, sym, ◌∙◌, arith}
use Rattle.f_tree.specs.Values.{Bytes}
use Rattle.c_tree.specs.declared.expression.CExpr.{CExpr}
use Rattle.c_structure.specs.Expressions.{number_expr}
use Rattle.item_emission.specs.declared.known.Dimension.{Dimension}
use Rattle.item_emission.specs.NamedEmission.{distance_expr, stepped_expr, index_expr}

-- the index by subscripts before those that give an index
unfoldable pub index_before : Bytes → (ℕ → Dimension) → ℕ → List CExpr → Option CExpr → Option CExpr
index_before x d k [] index = index
index_before x d k (e ∷ es) index = stepped_expr x k (d k) e (index_before x d (suc k) es index)

pub before-none : (x : Bytes) (d : ℕ → Dimension) (k : ℕ) (index : Option CExpr) → index_before x d k [] index ≡ index
unfolding index_before
before-none x d k index = refl

at-end : (k : ℕ) → k ≡ k + 0
at-end k = omega arith

one-on : (k n : ℕ) → suc k + n ≡ k + suc n
one-on k n = omega arith

pub last-apart : (x : Bytes) (d : ℕ → Dimension) (k : ℕ) (es : List CExpr) (last : CExpr)
    → index_expr x d k (es ++ last ∷ []) ≡ index_before x d k es (distance_expr x (k + length es) (d (k + length es)) last)
unfolding index_expr index_before
last-apart x d k [] last = ap (λ n. distance_expr x n (d n) last) (at-end k)
last-apart x d k (e ∷ []) last =
    ap (stepped_expr x k (d k) e) (ap (λ n. distance_expr x n (d n) last) (let h : suc k ≡ k + 1 = omega arith in h))
last-apart x d k (e ∷ next ∷ es) last =
    ap (stepped_expr x k (d k) e)
    (last-apart x d (suc k) (next ∷ es) last ∙ ap (λ n. index_before x d (suc k) (next ∷ es) (distance_expr x n (d n) last)) (one-on k (length (next ∷ es))))

pub one-before : (x : Bytes) (d : ℕ → Dimension) (k : ℕ) (es : List CExpr) (y : CExpr) (index : Option CExpr)
    → index_before x d k (es ++ y ∷ []) index ≡ index_before x d k es (stepped_expr x (k + length es) (d (k + length es)) y index)
unfolding index_before
one-before x d k [] y index = ap (λ n. stepped_expr x n (d n) y index) (at-end k)
one-before x d k (e ∷ es) y index =
    ap (stepped_expr x k (d k) e)
    (one-before x d (suc k) es y index ∙ ap (λ n. index_before x d (suc k) es (stepped_expr x n (d n) y index)) (one-on k (length es)))

-- the steps of a walk from the last subscript to the first
pub walk-start : (x : Bytes) (d : ℕ → Dimension) (es : List CExpr) (last e : CExpr) (found : Dimension) (n : ℕ) → n ≡ length es → found ≡ d n → distance_expr x n found last ≡ Some e
    → index_expr x d 0 (es ++ last ∷ []) ≡ index_before x d 0 es (Some e)
walk-start x d es last e found n size at far =
    last-apart x d 0 es last
    ∙ ap (index_before x d 0 es)
    (ap (λ m. distance_expr x m (d m) last) (let k : 0 + length es ≡ n = omega (arith, size) in k) ∙ ap (λ y. distance_expr x n y last) (sym at) ∙ far)

pub walk-more : (x : Bytes) (d : ℕ → Dimension) (all rest : List CExpr) (y : CExpr) (index next whole : Option CExpr) (found : Dimension) (n : ℕ) → all ≡ rest ++ y ∷ [] → n ≡ length rest → found ≡ d n
    → next ≡ stepped_expr x n found y index → whole ≡ index_before x d 0 all index → whole ≡ index_before x d 0 rest next
walk-more x d all rest y index next whole found n is size at step so_far =
    so_far ∙ ap (λ es. index_before x d 0 es index) is ∙ one-before x d 0 rest y index
    ∙ ap (index_before x d 0 rest)
    (ap (λ m. stepped_expr x m (d m) y index) (let k : 0 + length rest ≡ n = omega (arith, size) in k) ∙ ap (λ z. stepped_expr x n z y index) (sym at) ∙ sym step)

pub walk-end : (x : Bytes) (d : ℕ → Dimension) (all : List CExpr) (index whole : Option CExpr) → all ≡ [] → whole ≡ index_before x d 0 all index → index ≡ whole
walk-end x d all index whole is so_far = sym (so_far ∙ ap (λ es. index_before x d 0 es index) is ∙ before-none x d 0 index)

pub index-none : (x : Bytes) (d : ℕ → Dimension) (es : List CExpr) (e : Option CExpr) → es ≡ [] → e ≡ number_expr (pos 0) → e ≡ index_expr x d 0 es
unfolding index_expr
index-none x d es e is zero_is = zero_is ∙ sym (ap (index_expr x d 0) is)

pub index-some : (x : Bytes) (d : ℕ → Dimension) (es before : List CExpr) (last : CExpr) (r : Result (Option CExpr) AllocError) → es ≡ before ++ last ∷ []
    → IfOk r (λ e. e ≡ index_expr x d 0 (before ++ last ∷ [])) → IfOk r (λ e. e ≡ index_expr x d 0 es)
index-some x d es before last (Err f) is made = made
index-some x d es before last (Ok e) is made = made ∙ ap (index_expr x d 0) (sym is)
