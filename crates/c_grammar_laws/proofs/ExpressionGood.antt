-- What the readers of expressions take is spelled, and where they refuse what stands before can be completed.
use Rattle.std.proofs.Common.{◌≡◌, refl, sym, ap, ◌∙◌, subst, ℕ, zero, suc, ◌+◌, ◌≤◌, nat_le, leb-true, pos, le_refl, Bool, true, false, List, [], ◌∷◌, ◌++◌, codes, drop, if◌then◌else◌, Option, Some, None, arith}
use Rattle.c_readers.specs.c_tree.declared.types.CastType.{CastType}
use Rattle.c_readers.specs.c_tree.declared.expression.UnaryOp.{UnaryOp}
use Rattle.c_readers.specs.c_tree.declared.expression.BinaryOp.{BinaryOp}
use Rattle.c_readers.specs.c_tree.declared.expression.Extreme.{Extreme}
use Rattle.c_readers.specs.c_tree.declared.expression.CExpr.{CExpr}
use Rattle.c_readers.specs.c_tree.declared.expression.CExpr.TheVariants as expr
use Rattle.c_readers.specs.c_tree.Tokens.{Token, Word, Digits, Quoted, Sign, Including, Bad}
use Rattle.c_readers.specs.c_tree.CWords.{is_name, prefix_sign, infix_sign, infix_level, cast_tokens, extreme_word}
use Rattle.c_readers.specs.c_tree.CExpressionText as text
use Rattle.c_readers.specs.c_tree.CExpressionText.{Scope, ReadsExpr}
use Rattle.c_readers.specs.Readers.{Tokens, found, refused, ◌>>=◌, a_name}
use Rattle.c_readers.specs.ExpressionReader as reader
use Rattle.c_readers.specs.ExpressionReader.{Places, Going, Operand, operand_of, Operator, Infix, Subscript, Member, Choice, operator_of, cast_of, SignLead, Opening, Before, sign_lead, WordLead, Sized, Extremal, Absolute, Named, word_lead, expression, expression_behind}
use Rattle.c_readers.specs.grammar.Exactness.{Filled, Judged, Good}
use Rattle.c_grammar_laws.specs.ExpressionLaws.{GoodExpressions}
use Rattle.c_readers.proofs.grammar.Judging.{in_turn, judged-then-by, good-as, refuses, refuses-end, stays, stays-end, takes-one, good-found, behind-token, judged-fewer, judged-also, at-the-token, at-the-end}
use Rattle.c_grammar_laws.proofs.TokenGood.{OneSign, good-sign, OneName, good-name, AllStand, good-stand}
use Rattle.c_grammar_laws.proofs.ExpressionTables.{Within, operator-taken, BeginsCast, cast-taken, sign-taken, IsWord, word-taken, expression-shorter, level-most}

module _ (scope : Scope) where
  -- ## The forms of parts

  -- An operand of a level, at each place that takes the level.
  pub record AnOperand (place : ℕ) (first : Operand) (p q : Tokens) : Type 0 where
    pub close : place ≤ first.level
    pub top : first.level ≤ 9
    pub stands : (at : ℕ) → at ≤ first.level → ReadsExpr scope at first.tree p q

  -- What goes on behind an operand of a level, whatever tokens spell the operand.
  pub record Goes (place level : ℕ) (e x : CExpr) (p q : Tokens) : Type 0 where
    pub from : (front : Tokens) → ((at : ℕ) → at ≤ level → ReadsExpr scope at e front p) → ReadsExpr scope place x front q

  -- the same, behind a sign
  abbrev pub GoesBehind : List ℕ → ℕ → ℕ → CExpr → CExpr → Tokens → Tokens → Type 0
  GoesBehind word place level e x p q = Goes place level e x (Sign word ∷ p) q

  -- an operand, behind its first token
  abbrev pub Led : Token → ℕ → Operand → Tokens → Tokens → Type 0
  Led token place first p q = AnOperand place first (token ∷ p) q

  pub record GoodPlaces (nests : ℕ) (read more : Places) : Type 0 where
    pub at : (place : ℕ) → place ≤ 9 → Good nests (ReadsExpr scope place) (read place) (more place)

  pub record GoodGoing (nests place : ℕ) (again above : Going) : Type 0 where
    pub on : (level : ℕ) (e : CExpr) → place ≤ level → level ≤ 9 → Good nests (Goes place level e) (again level e) (above level e)

  goes-able : (place level : ℕ) (e : CExpr) → place ≤ level → Filled (Goes place level e) []
  goes-able place level e low = record { later = []; tree = e; spelled = λ behind. record { from = λ front stands. stands place low } }

  -- ## What goes on behind an operand

  module _ (nests place level : ℕ) (e : CExpr) (read more : Places) (again above : Going) (places : GoodPlaces nests read more)
      (going : GoodGoing nests place again above) where
    good-between : (o : BinaryOp) (word : List ℕ) → word ≡ infix_sign o → Within place (infix_level o) (infix_level o) level
        → Good nests (GoesBehind word place level e) (reader.between read again e o) (reader.between more above e o)
    unfolding reader.between
    good-between o word is w =
        in_turn {First = ReadsExpr scope (suc (infix_level o))} (places.at (suc (infix_level o)) (let k = level-most o in omega (arith, k)))
        (λ b. good-as
        (λ x p q g front right. record { from = λ left stands. g.from left (λ at h. text.between at o h (stands (infix_level o) w.high) (ap (λ z. Sign z ∷ front) is) right) })
        (going.on (infix_level o) (expr.Binary o e b) w.low (let k = level-most o in omega (arith, k))))

    good-indexed : (word : List ℕ) → word ≡ codes "[" → Within place 8 8 level
        → Good nests (GoesBehind word place level e) (reader.indexed read again e) (reader.indexed more above e)
    unfolding reader.indexed
    good-indexed word is w =
        in_turn {First = ReadsExpr scope 0} (places.at 0 (omega arith))
        (λ i. in_turn {First = OneSign (codes "]")} (good-sign (codes "]"))
        (λ u. good-as
        (λ x p q g closing closes front inner. record {
          from = λ left stands. g.from left (λ at h. text.indexed at h (stands 8 w.high) (ap (λ z. Sign z ∷ front) is) inner closes);
        })
        (going.on 8 (expr.Index e i) w.low (omega arith))))

    good-field : (word : List ℕ) → word ≡ codes "." → Within place 8 8 level
        → Good nests (GoesBehind word place level e) (reader.a_field again e) (reader.a_field above e)
    unfolding reader.a_field
    good-field word is w =
        in_turn {First = OneName is_name} (good-name is_name (codes "x") refl)
        (λ name. good-as
        (λ x p q g front named. record {
          from = λ left stands. g.from left (λ at h. text.a_field at name h named.passed (stands 8 w.high) (ap (λ z. Sign z ∷ front) is) named.is);
        })
        (going.on 8 (expr.Field e name) w.low (omega arith)))

    good-chosen : (word : List ℕ) → word ≡ codes "?" → Within place 0 1 level
        → Good nests (GoesBehind word place level e) (reader.chosen read again e) (reader.chosen more above e)
    unfolding reader.chosen reader.otherwise
    good-chosen word is w =
        in_turn {First = ReadsExpr scope 0} (places.at 0 (omega arith))
        (λ a. in_turn {First = OneSign (codes ":")} (good-sign (codes ":"))
        (λ u. in_turn {First = ReadsExpr scope 0} (places.at 0 (omega arith))
        (λ b. good-as
        (λ x p q g third last colon parts front first. record {
          from = λ left stands. g.from left (λ at h. text.chosen at h (stands 1 w.high) (ap (λ z. Sign z ∷ front) is) first parts last);
        })
        (going.on 0 (expr.Choose e a b) w.low (omega arith)))))

    by-operator : (word : List ℕ) (behind : Tokens) (o : Option Operator) → operator_of place level word ≡ o → place ≤ level
        → Judged (suc nests) (Goes place level e) (reader.onward more above place level e) (Sign word ∷ behind) (reader.by_operator read again e word behind o)
    unfolding reader.onward reader.by_operator
    by-operator word behind None h low =
        stays (suc nests) e (Sign word) behind (λ p. record { from = λ front stands. stands place low }) (λ p. ap (λ z. reader.by_operator more above e word p z) h)
    by-operator word behind (Some (Infix o)) h low =
        let t = operator-taken place level word (Infix o) h in
        behind-token (GoesBehind word place level e) (Goes place level e) (reader.between more above e o) (reader.onward more above place level e) nests (Sign word) behind (λ x p q g. g)
        (λ p. ap (λ z. reader.by_operator more above e word p z) h) (reader.between read again e o behind) ((good-between o word t.is t.takes_it).judged behind)
    by-operator word behind (Some Subscript) h low =
        let t = operator-taken place level word Subscript h in
        behind-token (GoesBehind word place level e) (Goes place level e) (reader.indexed more above e) (reader.onward more above place level e) nests (Sign word) behind (λ x p q g. g)
        (λ p. ap (λ z. reader.by_operator more above e word p z) h) (reader.indexed read again e behind) ((good-indexed word t.is t.takes_it).judged behind)
    by-operator word behind (Some Member) h low =
        let t = operator-taken place level word Member h in
        behind-token (GoesBehind word place level e) (Goes place level e) (reader.a_field above e) (reader.onward more above place level e) nests (Sign word) behind (λ x p q g. g)
        (λ p. ap (λ z. reader.by_operator more above e word p z) h) (reader.a_field again e behind) ((good-field word t.is t.takes_it).judged behind)
    by-operator word behind (Some Choice) h low =
        let t = operator-taken place level word Choice h in
        behind-token (GoesBehind word place level e) (Goes place level e) (reader.chosen more above e) (reader.onward more above place level e) nests (Sign word) behind (λ x p q g. g)
        (λ p. ap (λ z. reader.by_operator more above e word p z) h) (reader.chosen read again e behind) ((good-chosen word t.is t.takes_it).judged behind)

    onward-judged : place ≤ level → (tokens : Tokens) → Judged (suc nests) (Goes place level e) (reader.onward more above place level e) tokens
        (reader.onward read again place level e tokens)
    unfolding reader.onward
    onward-judged low [] = stays-end (suc nests) e (λ p. record { from = λ front stands. stands place low }) refl
    onward-judged low (Sign word ∷ behind) = by-operator word behind (operator_of place level word) refl low
    onward-judged low (token ∷ behind) = stays (suc nests) e token behind (λ p. record { from = λ front stands. stands place low }) (λ p. refl)

    good-onward : place ≤ level → Good (suc nests) (Goes place level e) (reader.onward read again place level e) (reader.onward more above place level e)
    good-onward low = record { able = goes-able place level e low; judged = onward-judged low }

  -- ## An operand

  module _ (nests place : ℕ) (read more : Places) (places : GoodPlaces nests read more) where
    -- what stands alone fits each place
    alone : {e : CExpr} {p q : Tokens} → place ≤ 9 → ((at : ℕ) → ReadsExpr scope at e p q) → AnOperand place (operand_of 9 e) p q
    alone low reads = record { close = low; top = le_refl 9; stands = λ at h. reads at }

    good-prefixed : (o : UnaryOp) (word : List ℕ) → word ≡ prefix_sign o → place ≤ 7
        → Good nests (Led (Sign word) place) (reader.prefixed read o) (reader.prefixed more o)
    unfolding reader.prefixed
    good-prefixed o word is low =
        in_turn {First = ReadsExpr scope 7} (places.at 7 (omega arith))
        (λ e. good-found (operand_of 7 (expr.Unary o e)) (λ p front inner. record {
          close = low;
          top = omega arith;
          stands = λ at h. text.prefixed at o h (ap (λ z. Sign z ∷ front) is) inner;
        }))

    good-parenthesised : place ≤ 9 → Good nests (Led (Sign (codes "(")) place) (reader.parenthesised read) (reader.parenthesised more)
    unfolding reader.parenthesised
    good-parenthesised low =
        in_turn {First = ReadsExpr scope 0} (places.at 0 (omega arith))
        (λ e. in_turn {First = OneSign (codes ")")} (good-sign (codes ")"))
        (λ u. good-found (operand_of 9 e) (λ p closing closes front inner. alone low (λ at. text.parenthesised at refl inner closes))))

    good-casted : (of : CastType) (word : List ℕ) → BeginsCast word of → place ≤ 7
        → Good nests (λ first p q. AnOperand place first (Sign (codes "(") ∷ Word word ∷ p) q) (reader.casted read of) (reader.casted more of)
    unfolding reader.casted reader.cast_operand
    good-casted of word begins low =
        in_turn {First = AllStand (drop 1 (cast_tokens of))} (good-stand (drop 1 (cast_tokens of)) begins.fit)
        (λ u. in_turn {First = OneSign (codes ")")} (good-sign (codes ")"))
        (λ v. in_turn {First = ReadsExpr scope 7} (places.at 7 (omega arith))
        (λ e. good-found (operand_of 7 (expr.Cast of e)) (λ p operand inner closing closes front stand. record {
          close = low;
          top = omega arith;
          stands = λ at h. text.casted at of h refl (ap (λ z. Word word ∷ z) stand ∙ ap (λ z. z ++ closing) (sym begins.tokens)) closes inner;
        }))))

    by-cast : (word : List ℕ) (behind : Tokens) (of : Option CastType) → cast_of place word ≡ of → place ≤ 9
        → Judged nests (Led (Sign (codes "(")) place) (reader.opened more place) (Word word ∷ behind) (reader.by_cast read word behind of)
    unfolding reader.opened reader.by_cast
    by-cast word behind None h low =
        judged-also (Led (Sign (codes "(")) place) nests (Word word ∷ behind)
        (at-the-token (λ p. reader.opened more place p ≡ reader.parenthesised more p) (Word word) (λ p. ap (λ z. reader.by_cast more word p z) h))
        (reader.parenthesised read (Word word ∷ behind)) ((good-parenthesised low).judged (Word word ∷ behind))
    by-cast word behind (Some of) h low =
        let t = cast-taken place word of h in
        judged-fewer (Led (Sign (codes "(")) place) (reader.opened more place) nests (suc nests) (Word word ∷ behind) (omega arith) (reader.casted read of behind)
        (behind-token (λ first p q. AnOperand place first (Sign (codes "(") ∷ Word word ∷ p) q) (Led (Sign (codes "(")) place) (reader.casted more of) (reader.opened more place) nests (Word word) behind (λ x p q g. g)
        (λ p. ap (λ z. reader.by_cast more word p z) h) (reader.casted read of behind) ((good-casted of word t.begins t.low).judged behind))

    opened-judged : place ≤ 9 → (tokens : Tokens) → Judged nests (Led (Sign (codes "(")) place) (reader.opened more place) tokens (reader.opened read place tokens)
    unfolding reader.opened
    opened-judged low [] =
        judged-also (Led (Sign (codes "(")) place) nests [] (at-the-end (λ p. reader.opened more place p ≡ reader.parenthesised more p) refl) (reader.parenthesised read []) ((good-parenthesised low).judged [])
    opened-judged low (Word word ∷ behind) = by-cast word behind (cast_of place word) refl low
    opened-judged low (token ∷ behind) =
        judged-also (Led (Sign (codes "(")) place) nests (token ∷ behind) (at-the-token (λ p. reader.opened more place p ≡ reader.parenthesised more p) token (λ p. refl))
        (reader.parenthesised read (token ∷ behind)) ((good-parenthesised low).judged (token ∷ behind))

    good-sized : place ≤ 9 → Good nests (Led (Word (codes "sizeof")) place) reader.sized reader.sized
    unfolding reader.sized
    good-sized low =
        in_turn {First = AllStand (Sign (codes "(") ∷ Word (codes "integer") ∷ Sign (codes ")") ∷ [])} (good-stand (Sign (codes "(") ∷ Word (codes "integer") ∷ Sign (codes ")") ∷ []) tt)
        (λ u. good-found (operand_of 9 expr.SizeInt) (λ p front stand. alone low (λ at. text.size at (ap (λ z. Word (codes "sizeof") ∷ z) stand) refl refl refl)))

    good-extremal : (which : Extreme) (word : List ℕ) → word ≡ extreme_word which → place ≤ 9
        → Good nests (Led (Word word) place) (reader.extremal read which) (reader.extremal more which)
    unfolding reader.extremal reader.both reader.second
    good-extremal which word is low =
        in_turn {First = OneSign (codes "(")} (good-sign (codes "("))
        (λ u. in_turn {First = ReadsExpr scope 0} (places.at 0 (omega arith))
        (λ a. in_turn {First = OneSign (codes ",")} (good-sign (codes ","))
        (λ v. in_turn {First = ReadsExpr scope 0} (places.at 0 (omega arith))
        (λ b. in_turn {First = OneSign (codes ")")} (good-sign (codes ")"))
        (λ w. good-found (operand_of 9 (expr.MaxMin which a b)) (λ p closing closes second other comma parts first one front opens.
        alone low (λ at. text.extreme_of at which (ap (λ z. Word z ∷ front) is) opens one parts other closes)))))))

    good-absolute : place ≤ 9 → Good nests (Led (Word (codes "abs")) place) (reader.absolute read) (reader.absolute more)
    unfolding reader.absolute reader.one_value
    good-absolute low =
        in_turn {First = OneSign (codes "(")} (good-sign (codes "("))
        (λ u. in_turn {First = ReadsExpr scope 0} (places.at 0 (omega arith))
        (λ e. in_turn {First = OneSign (codes ")")} (good-sign (codes ")"))
        (λ v. good-found (operand_of 9 (expr.Abs e)) (λ p closing closes inner one front opens. alone low (λ at. text.magnitude at refl opens one closes)))))

    operand-able : place ≤ 9 → Filled (AnOperand place) []
    operand-able low = record {
      later = Digits 0 ∷ [];
      tree = operand_of 9 (expr.Number (pos 0));
      spelled = λ behind. alone low (λ at. text.a_number at 0 (omega arith) refl);
    }

    by-sign : (word : List ℕ) (behind : Tokens) (lead : Option SignLead) → sign_lead place word ≡ lead → place ≤ 9
        → Judged (suc nests) (AnOperand place) (reader.operand scope more place) (Sign word ∷ behind) (reader.by_sign read place word behind lead)
    unfolding reader.operand reader.by_sign
    by-sign word behind None h low = refuses (suc nests) (Sign word) behind (operand-able low) (λ p. ap (λ z. reader.by_sign more place word p z) h)
    by-sign word behind (Some Opening) h low =
        let t = sign-taken place word Opening h in
        behind-token (Led (Sign (codes "(")) place) (AnOperand place) (reader.opened more place) (reader.operand scope more place) nests (Sign word) behind
        (λ x p q g. subst (λ z. AnOperand place x (Sign z ∷ p) q) (sym t.is) g)
        (λ p. ap (λ z. reader.by_sign more place word p z) h) (reader.opened read place behind) (opened-judged low behind)
    by-sign word behind (Some (Before o)) h low =
        let t = sign-taken place word (Before o) h in
        behind-token (Led (Sign word) place) (AnOperand place) (reader.prefixed more o) (reader.operand scope more place) nests (Sign word) behind (λ x p q g. g)
        (λ p. ap (λ z. reader.by_sign more place word p z) h) (reader.prefixed read o behind) ((good-prefixed o word t.is t.leads_it).judged behind)

    by-word : (word : List ℕ) (behind : Tokens) (lead : Option WordLead) → word_lead scope word ≡ lead → place ≤ 9
        → Judged (suc nests) (AnOperand place) (reader.operand scope more place) (Word word ∷ behind) (reader.by_word read word behind lead)
    unfolding reader.operand reader.by_word
    by-word word behind None h low = refuses (suc nests) (Word word) behind (operand-able low) (λ p. ap (λ z. reader.by_word more word p z) h)
    by-word word behind (Some Sized) h low =
        let t : IsWord scope word Sized = word-taken scope word Sized h in
        behind-token (Led (Word (codes "sizeof")) place) (AnOperand place) (reader.sized) (reader.operand scope more place) nests (Word word) behind
        (λ x p q g. subst (λ z. AnOperand place x (Word z ∷ p) q) (sym t) g)
        (λ p. ap (λ z. reader.by_word more word p z) h) (reader.sized behind) ((good-sized low).judged behind)
    by-word word behind (Some (Extremal which)) h low =
        let t : IsWord scope word (Extremal which) = word-taken scope word (Extremal which) h in
        behind-token (Led (Word word) place) (AnOperand place) (reader.extremal more which) (reader.operand scope more place) nests (Word word) behind (λ x p q g. g)
        (λ p. ap (λ z. reader.by_word more word p z) h) (reader.extremal read which behind) ((good-extremal which word t low).judged behind)
    by-word word behind (Some Absolute) h low =
        let t : IsWord scope word Absolute = word-taken scope word Absolute h in
        behind-token (Led (Word (codes "abs")) place) (AnOperand place) (reader.absolute more) (reader.operand scope more place) nests (Word word) behind
        (λ x p q g. subst (λ z. AnOperand place x (Word z ∷ p) q) (sym t) g)
        (λ p. ap (λ z. reader.by_word more word p z) h) (reader.absolute read behind) ((good-absolute low).judged behind)
    by-word word behind (Some Named) h low =
        takes-one (suc nests) (operand_of 9 (expr.Name word)) (Word word) behind (λ p. alone low (λ at. text.a_name at word (word-taken scope word Named h) refl))
        (λ p. ap (λ z. reader.by_word more word p z) h)

    by-number : (n : ℕ) (behind : Tokens) (fits : Bool) → nat_le n 2147483647 ≡ fits → place ≤ 9
        → Judged (suc nests) (AnOperand place) (reader.operand scope more place) (Digits n ∷ behind)
        (if fits then found (operand_of 9 (expr.Number (pos n))) behind else refused (Digits n ∷ behind))
    unfolding reader.operand reader.number
    by-number n behind true h low =
        takes-one (suc nests) (operand_of 9 (expr.Number (pos n))) (Digits n) behind (λ p. alone low (λ at. text.a_number at n (leb-true n 2147483647 h) refl))
        (λ p. ap (λ (z : Bool). if z then found (operand_of 9 (expr.Number (pos n))) p else refused (Digits n ∷ p)) h)
    by-number n behind false h low =
        refuses (suc nests) (Digits n) behind (operand-able low)
        (λ p. ap (λ (z : Bool). if z then found (operand_of 9 (expr.Number (pos n))) p else refused (Digits n ∷ p)) h)

    operand-judged : place ≤ 9 → (tokens : Tokens) → Judged (suc nests) (AnOperand place) (reader.operand scope more place) tokens (reader.operand scope read place tokens)
    unfolding reader.operand reader.number
    operand-judged low [] = refuses-end (suc nests) (operand-able low) refl
    operand-judged low (Word word ∷ behind) = by-word word behind (word_lead scope word) refl low
    operand-judged low (Digits n ∷ behind) = by-number n behind (nat_le n 2147483647) refl low
    operand-judged low (Quoted bytes ∷ behind) =
        takes-one (suc nests) (operand_of 9 (expr.Str bytes)) (Quoted bytes) behind (λ p. alone low (λ at. text.a_string at bytes refl)) (λ p. refl)
    operand-judged low (Sign word ∷ behind) = by-sign word behind (sign_lead place word) refl low
    operand-judged low (Including ∷ behind) = refuses (suc nests) Including behind (operand-able low) (λ p. refl)
    operand-judged low (Bad ∷ behind) = refuses (suc nests) Bad behind (operand-able low) (λ p. refl)

  -- ## Whole expressions

  expression-able : (place : ℕ) → Filled (ReadsExpr scope place) []
  expression-able place = record { later = Digits 0 ∷ []; tree = expr.Number (pos 0); spelled = λ behind. text.a_number place 0 (omega arith) refl }

  step-judged : (nests place : ℕ) (read more : Places) (again above : Going) → place ≤ 9 → GoodPlaces nests read more → GoodGoing nests place again above
      → (tokens : Tokens) → Judged (suc nests) (ReadsExpr scope place) (λ ts. reader.operand scope more place ts >>= (λ first. above first.level first.tree)) tokens
      (reader.operand scope read place tokens >>= (λ first. again first.level first.tree))
  step-judged nests place read more again above low places going tokens =
      judged-then-by (AnOperand place) (λ first. Goes place first.level first.tree) (ReadsExpr scope place)
      (λ first x p q r a g. g.from p a.stands)
      (suc nests) nests (reader.operand scope more place) (λ first. again first.level first.tree) (λ first. above first.level first.tree) tokens
      (λ first p q a. going.on first.level first.tree a.close a.top)
      (λ first q a shorter given. let s = expression-shorter (a.stands first.level (le_refl first.level)) in omega (arith, s, given))
      (reader.operand scope read place tokens) (operand-judged nests place read more places low tokens)

  mutual
    unfolding expression expression_behind

    pub good-expression : (nests more place : ℕ) → nests ≤ more → place ≤ 9
        → Good nests (ReadsExpr scope place) (expression scope nests place) (expression scope more place)
    good-expression zero more place least low = record { able = expression-able place; judged = λ tokens. omega arith }
    good-expression (suc nests) zero place least low = absurd (let h : suc nests ≤ 0 = least in omega (arith, h))
    good-expression (suc nests) (suc more) place least low = record {
      able = expression-able place;
      judged = step-judged nests place (expression scope nests) (expression scope more) (expression_behind scope nests place) (expression_behind scope more place) low
          (record { at = λ other fits. good-expression nests more other (omega (arith, least)) fits })
          (record { on = λ level e close fits. good-behind nests more place level e (omega (arith, least)) close fits });
    }

    pub good-behind : (nests more place level : ℕ) (e : CExpr) → nests ≤ more → place ≤ level → level ≤ 9
        → Good nests (Goes place level e) (expression_behind scope nests place level e) (expression_behind scope more place level e)
    good-behind zero more place level e least low top = record { able = goes-able place level e low; judged = λ tokens. omega arith }
    good-behind (suc nests) zero place level e least low top = absurd (let h : suc nests ≤ 0 = least in omega (arith, h))
    good-behind (suc nests) (suc more) place level e least low top =
        good-onward nests place level e (expression scope nests) (expression scope more) (expression_behind scope nests place) (expression_behind scope more place)
        (record { at = λ other fits. good-expression nests more other (omega (arith, least)) fits })
        (record { on = λ other x close fits. good-behind nests more place other x (omega (arith, least)) close fits })
        low

-- The readers of expressions judge all tokens.
pub good_expressions : GoodExpressions
good_expressions scope nests more place least low = good-expression scope nests more place least low
