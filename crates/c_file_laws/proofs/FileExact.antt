-- The reader of files is exact, where the readers of bodies are.
use Rattle.std.proofs.Common.{◌≡◌, refl, sym, ap, ◌∙◌, subst, ℕ, suc, ◌≤◌, [], ◌∷◌, ◌++◌, append-nil, Some, Err, arith}
use Rattle.c_file_readers.specs.c_tree.declared.file.CFile.{CFile}
use Rattle.c_file_readers.specs.c_tree.Tokens.{Including}
use Rattle.c_file_readers.specs.c_tree.CText.{Begins, no_names}
use Rattle.c_file_readers.specs.c_readers.Readers.{Tokens, found}
use Rattle.c_file_readers.specs.grammar.Exactness.{Filled, Judged, Good, Eventually, NoneFrom, Exact}
use Rattle.c_file_readers.proofs.grammar.Judging.{refuses, refuses-end, judged-fewer, behind-token}
use Rattle.c_file_readers.proofs.grammar.GoodExact.{good-exact}
use Rattle.c_statement_laws.specs.StatementLaws.{ScopesInOrder, GoodBodies}
use Rattle.c_file_readers.specs.FileReader.{Objects, no_parts, parts, a_file}
use Rattle.c_file_laws.specs.FileLaws.{NoFileFrom, FileRefused, ExactFiles}
use Rattle.c_file_laws.proofs.FunctionReads.{BodiesRead}
use Rattle.c_file_laws.proofs.PartsTo.{PartsTo, no_part, FileTo, file-from, file-to}
use Rattle.c_file_laws.proofs.PartsBehind.{PartsBehind}
use Rattle.c_file_laws.proofs.PartsGood.{good-parts}
use Rattle.c_file_laws.proofs.PartsReads.{parts-read}
use Rattle.c_file_laws.proofs.FileEnds.{file-end}

file-able : Filled FileTo []
file-able = record { later = Including ∷ []; tree = no_parts; spelled = λ behind. record { behind = behind; including = refl; parts = no_part no_names [] } }

file-joins : (made : CFile) (p q : Tokens) → PartsBehind Objects no_names [] no_parts made p q → FileTo made (Including ∷ p) q
file-joins made p q b = record {
  behind = p;
  including = refl;
  parts = subst (λ z. PartsTo no_names [] z.objects z.constants z.functions p q) (sym b.whole) b.reads;
}

module _ (scopes : ScopesInOrder) (bodies : GoodBodies) where
  file-judged : (nests more : ℕ) → nests ≤ more → (tokens : Tokens) → Judged nests FileTo (a_file more) tokens (a_file nests tokens)
  unfolding a_file
  file-judged nests more least [] = refuses-end nests file-able refl
  file-judged nests more least (Including ∷ tokens) =
      judged-fewer FileTo (a_file more) nests (suc nests) (Including ∷ tokens) (omega arith) (parts nests nests Objects no_names [] no_parts tokens)
      (behind-token (PartsBehind Objects no_names [] no_parts) FileTo (parts more more Objects no_names [] no_parts) (a_file more) nests Including tokens file-joins (λ p. refl)
      (parts nests nests Objects no_names [] no_parts tokens)
      ((good-parts scopes bodies nests nests more nests more Objects no_names [] no_parts scopes.at_first (omega arith) least (omega arith) least).judged tokens))
  file-judged nests more least (token ∷ tokens) = refuses nests token tokens file-able (λ p. refl)

  pub good-file : (nests more : ℕ) → nests ≤ more → Good nests FileTo (a_file nests) (a_file more)
  good-file nests more least = record { able = file-able; judged = file-judged nests more least }

  module _ (whole : BodiesRead) where
    file-read : (made : CFile) (p q : Tokens) → FileTo made p q → q ≡ [] → Eventually (λ nests. a_file nests p ≡ found made q)
    unfolding a_file
    file-read made p q f end =
        let s = parts-read scopes whole f.parts end Objects tt scopes.at_first no_parts in
        record { first = s.first; holds = λ n h. ap (a_file n) f.including ∙ (s.holds n n h h ∙ ap (found made) (sym end)) }

    exact-to : Exact FileTo (λ rest. rest ≡ []) a_file
    exact-to = good-exact FileTo (λ rest. rest ≡ []) a_file good-file file-read refl

    begins-of : (front : Tokens) → Filled FileTo front → Begins front
    begins-of front f = record {
      later = f.later;
      file = f.tree;
      reads = file-from f.tree (front ++ f.later) (subst (λ z. FileTo f.tree (front ++ z) []) (append-nil f.later) (f.spelled []));
    }

    none-of : (front rest : Tokens) → NoneFrom FileTo front rest → NoFileFrom front rest
    none-of front [] none = λ made reads. none made (file-to made front reads)
    none-of front (token ∷ later) none = λ b. none b.file b.later (file-to b.file ((front ++ (token ∷ [])) ++ b.later) b.reads)

    file-refused : (nests : ℕ) (tokens rest : Tokens) → a_file nests tokens ≡ Some (Err rest) → FileRefused tokens rest
    file-refused nests tokens rest h =
        let r = exact-to.refused nests tokens rest h in
        record { front = r.front; whole = r.whole; begins = begins-of r.front r.begins; none = none-of r.front rest r.none }

    pub exact_files : ExactFiles
    exact_files = record {
      found = record {
        all = file-end;
        sound = λ nests tokens made rest h. file-from made tokens (subst (λ z. FileTo made tokens z) (file-end nests tokens made rest h) (exact-to.sound nests tokens made rest h));
      };
      complete = λ made tokens reads. exact-to.complete made tokens [] (file-to made tokens reads) refl;
      refused = file-refused;
      answered = exact-to.answered;
      lasting = exact-to.lasting;
    }
