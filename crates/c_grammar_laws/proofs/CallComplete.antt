-- Arguments and calls that are spelled are read.
use Rattle.std.proofs.Common.{◌≡◌, refl, ap, ◌∙◌, subst, ℕ, zero, suc, ◌+◌, ◌≤◌, Bool, true, false, List, [], ◌∷◌, ◌++◌, append_assoc, codes, bytes_eq, if◌then◌else◌, arith}
use Rattle.c_readers.specs.c_tree.declared.expression.UnaryOp.TheVariants as prefix
use Rattle.c_readers.specs.c_tree.declared.expression.CExpr.{CExpr}
use Rattle.c_readers.specs.c_tree.declared.expression.CCall.{CCall}
use Rattle.c_readers.specs.c_tree.Tokens.{Word, Digits, Quoted, Sign, Including, Bad}
use Rattle.c_readers.specs.c_tree.CWords.{is_among, ASign, Separated, last_item, one_item}
use Rattle.c_readers.specs.c_tree.CExpressionText as text
use Rattle.c_readers.specs.c_tree.CExpressionText.{Scope, ReadsExpr, ReadsArguments, ReadsCall}
use Rattle.c_readers.specs.Readers.{Tokens, Reader, found, refused, ◌>>=◌, a_sign, a_name}
use Rattle.c_readers.specs.ListReader.{Closes, Goes, Neither, by_separator, behind_item, separated}
use Rattle.c_readers.specs.ExpressionReader.{expression}
use Rattle.c_readers.specs.CallReader as reader
use Rattle.c_readers.specs.CallReader.{has_some}
use Rattle.c_readers.specs.grammar.Exactness.{Eventually}
use Rattle.c_grammar_laws.specs.ExpressionLaws.{OfNames}
use Rattle.c_grammar_laws.proofs.TokenGood.{equal-self}
use Rattle.c_grammar_laws.proofs.ExpressionComplete.{reads-whole}

-- what holds from some number of nests, and of items, on
pub record Soon (P : ℕ → ℕ → Type 0) : Type 0 where
  pub first : ℕ
  pub holds : (nests count : ℕ) → first ≤ nests → first ≤ count → P nests count

-- ## Items

closes-read : {T : Type 0} (again : Reader (List T)) (closing : List ℕ) (items : List T) (r : Tokens) → behind_item again closing items (Sign closing ∷ r) ≡ found items r
unfolding behind_item
closes-read again closing items r =
    ap (λ z. by_separator again items closing r z) (ap (λ (z : Bool). if z then Closes else (if bytes_eq closing (codes ",") then Goes else Neither)) (equal-self closing))

goes-read : {T : Type 0} (again : Reader (List T)) (closing : List ℕ) (items : List T) (r : Tokens) → bytes_eq (codes ",") closing ≡ false
    → behind_item again closing items (Sign (codes ",") ∷ r) ≡ again r
unfolding behind_item
goes-read again closing items r apart =
    ap (λ z. by_separator again items (codes ",") r z) (ap (λ (z : Bool). if z then Closes else (if bytes_eq (codes ",") (codes ",") then Goes else Neither)) apart)

module _ {T : Type 0} (Item : T → Tokens → Tokens → Type 0) (closing : List ℕ) (apart : bytes_eq (codes ",") closing ≡ false) (read : ℕ → Reader T) where
  -- what may stand behind an item
  abbrev pub end : Bool → List ℕ
  end true = closing
  end false = codes ","

  abbrev ItemsRead : List T → List T → Tokens → Tokens → Type 0
  ItemsRead before all p q = Soon (λ nests count. separated (read nests) closing count before p ≡ found (before ++ all) q)

  step : (nests count : ℕ) (before : List T) (one : T) (p q : Tokens) → read nests p ≡ found one q
      → separated (read nests) closing (suc count) before p ≡ behind_item (separated (read nests) closing count (before ++ (one ∷ []))) closing (before ++ (one ∷ [])) q
  unfolding separated
  step nests count before one p q h = ap (λ z. z >>= (λ x. behind_item (separated (read nests) closing count (before ++ (x ∷ []))) closing (before ++ (x ∷ [])))) h

  last-read : (before : List T) (one : T) (p r : Tokens) → Eventually (λ nests. read nests p ≡ found one (Sign closing ∷ r)) → ItemsRead before (one ∷ []) p r
  last-read before one p r e = record { first = suc e.first; holds = by }
    where
      by : (nests count : ℕ) → suc e.first ≤ nests → suc e.first ≤ count → separated (read nests) closing count before p ≡ found (before ++ (one ∷ [])) r
      by nests zero h g = absurd (let k : suc e.first ≤ 0 = g in omega (arith, k))
      by nests (suc count) h g =
          step nests count before one p (Sign closing ∷ r) (e.holds nests (omega (arith, h)))
          ∙ closes-read (separated (read nests) closing count (before ++ (one ∷ []))) closing (before ++ (one ∷ [])) r

  more-read : (before later : List T) (one : T) (p r s : Tokens) → Eventually (λ nests. read nests p ≡ found one (Sign (codes ",") ∷ r))
      → ItemsRead (before ++ (one ∷ [])) later r s → ItemsRead before (one ∷ later) p s
  more-read before later one p r s e i = record { first = suc (e.first + i.first); holds = by }
    where
      by : (nests count : ℕ) → suc (e.first + i.first) ≤ nests → suc (e.first + i.first) ≤ count
          → separated (read nests) closing count before p ≡ found (before ++ (one ∷ later)) s
      by nests zero h g = absurd (let k : suc (e.first + i.first) ≤ 0 = g in omega (arith, k))
      by nests (suc count) h g =
          step nests count before one p (Sign (codes ",") ∷ r) (e.holds nests (omega (arith, h)))
          ∙ (goes-read (separated (read nests) closing count (before ++ (one ∷ []))) closing (before ++ (one ∷ [])) r apart
          ∙ (i.holds nests count (omega (arith, h)) (omega (arith, g)) ∙ ap (λ z. found z s) (append_assoc before (one ∷ []) later)))

  pub items-read : ((last : Bool) (one : T) (p q : Tokens) → Item one p (Sign (end last) ∷ q) → Eventually (λ nests. read nests p ≡ found one (Sign (end last) ∷ q)))
      → (before all : List T) (p q : Tokens) → Separated Item closing all p q → ItemsRead before all p q
  items-read reads before _ _ _ (last_item {one = one} {p = p} {r = r} item closes) =
      last-read before one p r (reads true one p r (subst (λ z. Item one p z) closes item))
  items-read reads before _ _ _ (one_item {one = one} {later = later} {p = p} {r = r} {s = s} item comma rest) =
      more-read before later one p r s (reads false one p r (subst (λ z. Item one p z) comma item)) (items-read reads (before ++ (one ∷ [])) later r s rest)

-- ## Arguments

abbrev closes_first : Tokens → Bool
closes_first (Sign word ∷ more) = bytes_eq word (codes ")")
closes_first other = false

-- an expression does not begin with a closing parenthesis
pub not-closed : {scope : Scope} {place : ℕ} {e : CExpr} {p q : Tokens} → ReadsExpr scope place e p q → closes_first p ≡ false
not-closed (text.a_number place n h a) = ap closes_first a
not-closed (text.a_string place bytes a) = ap closes_first a
not-closed (text.a_name place name h a) = ap closes_first a
not-closed (text.parenthesised place a e b) = ap closes_first a
not-closed (text.prefixed place prefix.Minus h a e) = ap closes_first a
not-closed (text.prefixed place prefix.Not h a e) = ap closes_first a
not-closed (text.prefixed place prefix.Deref h a e) = ap closes_first a
not-closed (text.prefixed place prefix.Address h a e) = ap closes_first a
not-closed (text.casted place to h a t b e) = ap closes_first a
not-closed (text.between place o h e a f) = not-closed e
not-closed (text.chosen place h e a f b g) = not-closed e
not-closed (text.indexed place h e a i b) = not-closed e
not-closed (text.a_field place name h n e a b) = not-closed e
not-closed (text.size place a b c d) = ap closes_first a
not-closed (text.extreme_of place which a b e c f d) = ap closes_first a
not-closed (text.magnitude place a b e c) = ap closes_first a

items-not-closed : {scope : Scope} {all : List CExpr} {p q : Tokens} → Separated (ReadsExpr scope 0) (codes ")") all p q → closes_first p ≡ false
items-not-closed (last_item item closes) = not-closed item
items-not-closed (one_item item comma rest) = not-closed item

module _ (scope : Scope) where
  some-arguments : (nests count : ℕ) (p : Tokens) → closes_first p ≡ false → reader.arguments scope nests count p ≡ separated (expression scope nests 0) (codes ")") count [] p
  unfolding reader.arguments reader.by_closing
  some-arguments nests count [] h = refl
  some-arguments nests count (Sign word ∷ more) h = ap (λ z. reader.by_closing scope nests count word more z) h
  some-arguments nests count (Word word ∷ more) h = refl
  some-arguments nests count (Digits n ∷ more) h = refl
  some-arguments nests count (Quoted bytes ∷ more) h = refl
  some-arguments nests count (Including ∷ more) h = refl
  some-arguments nests count (Bad ∷ more) h = refl

  argument-read : OfNames scope → (last : Bool) (one : CExpr) (p q : Tokens)
      → ReadsExpr scope 0 one p (Sign (end (ReadsExpr scope 0) (codes ")") refl (λ nests. expression scope nests 0) last) ∷ q)
      → Eventually (λ nests. expression scope nests 0 p ≡ found one (Sign (end (ReadsExpr scope 0) (codes ")") refl (λ nests. expression scope nests 0) last) ∷ q))
  argument-read of true one p q item = reads-whole scope 0 one p (Sign (codes ")") ∷ q) of item (omega arith) (omega arith)
  argument-read of false one p q item = reads-whole scope 0 one p (Sign (codes ",") ∷ q) of item (omega arith) (omega arith)

  abbrev ArgumentsRead : List CExpr → Tokens → Tokens → Type 0
  ArgumentsRead given p q = Soon (λ nests count. reader.arguments scope nests count p ≡ found given q)

  none-read : (p q : Tokens) → ASign (codes ")") p q → ArgumentsRead [] p q
  unfolding reader.arguments reader.by_closing
  none-read p q closes = record { first = 0; holds = λ nests count h g. ap (reader.arguments scope nests count) closes }

  pub arguments-read : OfNames scope → (given : List CExpr) (p q : Tokens) → ReadsArguments scope given p q → ArgumentsRead given p q
  arguments-read of _ _ _ (text.no_argument {p = p} {q = q} closes) = none-read p q closes
  arguments-read of _ _ _ (text.some_arguments {arguments = given} {p = p} {q = q} items) =
      let s = items-read (ReadsExpr scope 0) (codes ")") refl (λ nests. expression scope nests 0) (argument-read of) [] given p q items in
      record { first = s.first; holds = λ nests count h g. some-arguments nests count p (items-not-closed items) ∙ s.holds nests count h g }

  pub reads-arguments : OfNames scope → (given : List CExpr) (p q : Tokens) → ReadsArguments scope given p q
      → Eventually (λ nests. reader.arguments scope nests nests p ≡ found given q)
  reads-arguments of given p q spelled = let s = arguments-read of given p q spelled in record { first = s.first; holds = λ nests h. s.holds nests nests h h }

  -- ## Calls

  abbrev call_of : Bool → List ℕ → List CExpr → CCall
  call_of through name given = record { through = through; name = name; arguments = given }

  called-read : (nests count : ℕ) (through : Bool) (name : List ℕ) (given : List CExpr) (p q : Tokens) → reader.arguments scope nests count p ≡ found given q
      → reader.called scope nests count through name (Sign (codes "(") ∷ p) ≡ found (call_of through name given) q
  unfolding reader.called a_sign
  called-read nests count through name given p q h = ap (λ z. z >>= (λ x. found (call_of through name x))) h

  function-read : (nests count : ℕ) (name : List ℕ) (given : List CExpr) (p q : Tokens) → is_among name scope.functions ≡ true
      → reader.arguments scope nests count p ≡ found given q → reader.call scope nests count (Word name ∷ Sign (codes "(") ∷ p) ≡ found (call_of false name given) q
  unfolding reader.call reader.by_function
  function-read nests count name given p q known h =
      ap (λ z. reader.by_function scope nests count name (Sign (codes "(") ∷ p) z) known ∙ called-read nests count false name given p q h

  has-some : (name : List ℕ) (names : List (List ℕ)) → is_among name names ≡ true → has_some names ≡ true
  has-some name [] h = h
  has-some name (one ∷ names) h = refl

  through-read : (nests count : ℕ) (name : List ℕ) (given : List CExpr) (p q : Tokens) → is_among name scope.pointers ≡ true
      → reader.arguments scope nests count p ≡ found given q
      → reader.through_a_parameter scope nests count (Word name ∷ Sign (codes ")") ∷ Sign (codes "(") ∷ p) ≡ found (call_of true name given) q
  unfolding reader.through_a_parameter a_name a_sign
  through-read nests count name given p q known h =
      ap
      (λ (z : Bool). (if z then found name (Sign (codes ")") ∷ Sign (codes "(") ∷ p) else refused (Word name ∷ Sign (codes ")") ∷ Sign (codes "(") ∷ p))
      >>= (λ x. λ more. a_sign (codes ")") more >>= (λ u. reader.called scope nests count true x)))
      known
      ∙ called-read nests count true name given p q h

  parameter-read : (nests count : ℕ) (name : List ℕ) (given : List CExpr) (p q : Tokens) → is_among name scope.pointers ≡ true
      → reader.arguments scope nests count p ≡ found given q
      → reader.call scope nests count (Sign (codes "(") ∷ Sign (codes "*") ∷ Word name ∷ Sign (codes ")") ∷ Sign (codes "(") ∷ p) ≡ found (call_of true name given) q
  unfolding reader.call reader.by_opening reader.starred a_sign
  parameter-read nests count name given p q known h =
      ap (λ z. reader.by_opening scope nests count (codes "(") (Sign (codes "*") ∷ Word name ∷ Sign (codes ")") ∷ Sign (codes "(") ∷ p) z) (has-some name scope.pointers known)
      ∙ through-read nests count name given p q known h

  pub call-read : OfNames scope → (call : CCall) (p q : Tokens) → ReadsCall scope call p q → Soon (λ nests count. reader.call scope nests count p ≡ found call q)
  call-read of _ _ _ (text.by_name name {arguments = given} {r = r} {s = s} known a b spelled) =
      let e = arguments-read of given r s spelled in
      record {
        first = e.first;
        holds = λ nests count h g.
            ap (reader.call scope nests count) (a ∙ ap (λ z. Word name ∷ z) b) ∙ function-read nests count name given r s known (e.holds nests count h g);
      }
  call-read of _ _ _ (text.through_a_parameter name {arguments = given} {u = u} {v = v} known a b c d e spelled) =
      let s = arguments-read of given u v spelled in
      record {
        first = s.first;
        holds = λ nests count h g.
            ap (reader.call scope nests count)
            (a ∙ ap (λ z. Sign (codes "(") ∷ z) (b ∙ ap (λ z. Sign (codes "*") ∷ z) (c ∙ ap (λ z. Word name ∷ z) (d ∙ ap (λ z. Sign (codes ")") ∷ z) e))))
            ∙ parameter-read nests count name given u v known (s.holds nests count h g);
      }

  pub reads-call : OfNames scope → (call : CCall) (p q : Tokens) → ReadsCall scope call p q → Eventually (λ nests. reader.call scope nests nests p ≡ found call q)
  reads-call of call p q spelled = let s = call-read of call p q spelled in record { first = s.first; holds = λ nests h. s.holds nests nests h h }
