-- Parts that are put one behind the other.
use Rattle.std.proofs.Common.{◌≡◌, refl, sym, ap, ◌∙◌, subst, ℕ, ◌+◌, Bool, true, false, ◌||◌, List, [], ◌∷◌, ◌++◌, length, length-append, append_assoc, map, Result, Ok, Err, arith}
use Rattle.std.specs.Result.{IsErrAnd}
use Rattle.std.proofs.lemmas.Result.{err_from_is_err_and}
use Rattle.std.proofs.lemmas.List.{append-nil}
use Rattle.c_tree.specs.Flat.{Flat}
use Rattle.c_tree.specs.Drafts.{Scope}
use Rattle.c_tree.specs.FlatForm.{Body, Labels, sequence}
use Rattle.linked_terms.specs.LinkedItems.{flat_of}
use Rattle.expression_linker.specs.declared.failure.LinkFail.{LinkFail}
use Rattle.expression_linker.specs.declared.failure.LinkFail.TheVariants as fail
use Rattle.expression_linker.proofs.PartLaws.{second_or}
use Rattle.flat_linker.specs.declared.written.Written.{Written}
use Rattle.flat_linker.specs.LostNames.{is_lost, some_lost}
use Rattle.flat_linker.specs.PutItems.{Stand, Puts, PutsBody}

along : (a b c : ℕ) → a + (b + c) ≡ (a + b) + c
along a b c = omega arith

pub lost-first : (xs ys : List Flat) → some_lost xs ≡ true → some_lost (xs ++ ys) ≡ true
lost-first [] ys h = absurd (let e : false ≡ true = h in cc)
lost-first (x ∷ xs) ys h = by (is_lost x) (some_lost xs) (some_lost (xs ++ ys)) (lost-first xs ys) h
  where
    by : (a b c : Bool) → (b ≡ true → c ≡ true) → (a || b) ≡ true → (a || c) ≡ true
    by true b c f h = refl
    by false b c f h = f h

pub lost-later : (xs ys : List Flat) → some_lost ys ≡ true → some_lost (xs ++ ys) ≡ true
lost-later [] ys h = h
lost-later (x ∷ xs) ys h = second_or (is_lost x) (some_lost (xs ++ ys)) (lost-later xs ys h)

-- a part and the part behind it
pub puts-more : (r : Result (Unit {0}) LinkFail) (a b : List Flat) (k s k' s' : ℕ) (x y z : Written) → Stand a k s x y → Puts r b k' s' y z → Puts r (a ++ b) (k + k') (s + s') x z
puts-more (Ok done) a b k s k' s' x y z one two = record {
  items = two.items ∙ ap (λ w. w ++ b) one.items ∙ append_assoc (map flat_of x.items) a b;
  next = two.next ∙ ap (λ n. n + k') one.next ∙ sym (along x.next k k');
  count = two.count ∙ ap (λ n. n + s') one.count ∙ sym (along (length x.items) s s');
}
puts-more (Err fail.Unknown) a b k s k' s' x y z one two = lost-later a b two
puts-more (Err fail.Memory) a b k s k' s' x y z one two = tt

-- a part that links nothing, whatever is behind it
pub puts-lost : (e : LinkFail) (a b : List Flat) (k s k' s' : ℕ) (x y z : Written) → Puts (Err e) a k s x y → Puts (Err e) (a ++ b) k' s' x z
puts-lost fail.Unknown a b k s k' s' x y z h = lost-first a b h
puts-lost fail.Memory a b k s k' s' x y z h = tt

pub puts-as : (r : Result (Unit {0}) LinkFail) (a b : List Flat) (k s k' s' : ℕ) (x y : Written) → b ≡ a → k' ≡ k → s' ≡ s → Puts r a k s x y → Puts r b k' s' x y
puts-as r a b k s k' s' x y part strings size h =
    subst (λ z. Puts r b k' z x y) (sym size) (subst (λ z. Puts r b z s x y) (sym strings) (subst (λ z. Puts r z k s x y) (sym part) h))

-- an error that is handed on
pub again-puts : (r : Result (Unit {0}) LinkFail) (e : LinkFail) (a : List Flat) (k s : ℕ) (x y z : Written) → IsErrAnd r (λ f. f ≡ e) → Puts (Err e) a k s x y → Puts r a k s x z
again-puts r e a k s x y z is h =
    let p = err_from_is_err_and r is in
    let same : r ≡ Err e = p.1 ∙ ap Err p.2 in
    subst (λ w. Puts w a k s x z) (sym same) (other e h)
  where
    other : (e : LinkFail) → Puts (Err e) a k s x y → Puts (Err e) a k s x z
    other fail.Unknown h = h
    other fail.Memory h = h

-- ## Statements

-- two bodies with the same items at a place, and as many strings and items
pub record SameAt (scope : Scope) (labels : Labels) (a b : Body) (x : Written) : Type 0 where
  pub drawn : b.items.drawn scope x.next labels (length x.items) ≡ a.items.drawn scope x.next labels (length x.items)
  pub strings : length b.items.strings ≡ length a.items.strings
  pub size : b.size ≡ a.size

module _ (scope : Scope) (labels : Labels) where
  -- what is drawn at a place, where the place is known by what stands before it
  drawn-at : (b : Body) (n m i j : ℕ) → n ≡ m → i ≡ j → b.items.drawn scope n labels i ≡ b.items.drawn scope m labels j
  drawn-at b n m i j one two = λ t. b.items.drawn scope (one t) labels (two t)

  pub body-more : (r : Result (Unit {0}) LinkFail) (a b : Body) (x y z : Written) → PutsBody (Ok tt) a scope labels x y → PutsBody r b scope labels y z → PutsBody r (sequence a b) scope labels x z
  body-more r a b x y z one two =
      puts-as r
      (a.items.drawn scope x.next labels (length x.items) ++ b.items.drawn scope y.next labels (length y.items))
      ((sequence a b).items.drawn scope x.next labels (length x.items))
      (length a.items.strings + length b.items.strings) (a.size + b.size) (length (sequence a b).items.strings) (sequence a b).size x z
      (ap (λ w. a.items.drawn scope x.next labels (length x.items) ++ w) (drawn-at b (x.next + length a.items.strings) y.next (length x.items + a.size) (length y.items) (sym one.next) (sym one.count)))
      (length-append a.items.strings b.items.strings)
      refl
      (puts-more r (a.items.drawn scope x.next labels (length x.items)) (b.items.drawn scope y.next labels (length y.items)) (length a.items.strings) a.size (length b.items.strings) b.size x y z one two)

  pub body-lost : (e : LinkFail) (a b : Body) (x y z : Written) → PutsBody (Err e) a scope labels x y → PutsBody (Err e) (sequence a b) scope labels x z
  body-lost e a b x y z h =
      puts-lost e (a.items.drawn scope x.next labels (length x.items)) (b.items.drawn scope (x.next + length a.items.strings) labels (length x.items + a.size))
      (length a.items.strings) a.size (length (sequence a b).items.strings) (sequence a b).size x y z h

  pub body-as : (r : Result (Unit {0}) LinkFail) (a b : Body) (x y : Written) → b ≡ a → PutsBody r a scope labels x y → PutsBody r b scope labels x y
  body-as r a b x y is h = subst (λ w. PutsBody r w scope labels x y) (sym is) h

  pub body-same : (r : Result (Unit {0}) LinkFail) (a b : Body) (x y : Written) → SameAt scope labels a b x → PutsBody r a scope labels x y → PutsBody r b scope labels x y
  body-same r a b x y same h =
      puts-as r (a.items.drawn scope x.next labels (length x.items)) (b.items.drawn scope x.next labels (length x.items)) (length a.items.strings) a.size (length b.items.strings) b.size x y same.drawn same.strings same.size h

  -- none
  pub body-none : (b : Body) (x : Written) → b.items.drawn scope x.next labels (length x.items) ≡ [] → length b.items.strings ≡ 0 → b.size ≡ 0 → PutsBody (Ok tt) b scope labels x x
  body-none b x drawn strings size = record {
    items = sym (append-nil (map flat_of x.items)) ∙ ap (λ w. map flat_of x.items ++ w) (sym drawn);
    next = none x.next (length b.items.strings) strings;
    count = none (length x.items) b.size size;
  }
    where
      none : (n k : ℕ) → k ≡ 0 → n ≡ n + k
      none n k h = omega (arith, h)

  -- a part that links nothing, whatever is behind it, where its error is handed on
  pub seq-lost : (r : Result (Unit {0}) LinkFail) (e : LinkFail) (a b : Body) (x y z : Written) → IsErrAnd r (λ f. f ≡ e) → PutsBody (Err e) a scope labels x y → PutsBody r (sequence a b) scope labels x z
  seq-lost r e a b x y z is h =
      again-puts r e ((sequence a b).items.drawn scope x.next labels (length x.items)) (length (sequence a b).items.strings) (sequence a b).size x y z is (body-lost e a b x y y h)
