-- The declarations at the head of a printed function, in their parts under headings, read as the tokens that spell them.
use Rattle.std.specs.Prelude.{◌≡◌, ℕ, Bool, true, false, if◌then◌else◌, List, [], ◌∷◌, ◌++◌, codes, Option, Some, None}
use Rattle.std.specs.List.{list_all}
use Rattle.std.proofs.Common.{refl}
use Rattle.c_laws.specs.c_tree.declared.declaration.CLocal.{CLocal}
use Rattle.c_laws.specs.c_tree.declared.declaration.CLocal.TheVariants as local
use Rattle.c_laws.specs.c_tree.Tokens.{Token, Sign}
use Rattle.c_laws.specs.c_tree.CWords.{is_name}
use Rattle.c_laws.specs.c_tree.CExpressionText.{Scope}
use Rattle.c_laws.specs.c_tree.CDeclarationText.{ReadsLocal, ReadsLocals, no_local, one_local}
use Rattle.c_text.specs.Declarations.{printed_local, part_of, part_heading, is_part, heading_after, local_line, parts_end, locals_after}
use Rattle.c_laws.proofs.TokenSpellings.{and-first, and-second}
use Rattle.c_spelling.specs.Spelled.{local_of_bytes}
use Rattle.c_spelling.proofs.Tokens.{ReadsAs, inside, Piece, Whole, line_feed, four_blanks, comment, semicolon}
use Rattle.c_spelling.proofs.TokensScope.{NamedScope, declared_names}
use Rattle.c_spelling.proofs.DeclaredForms.{local_piece}

-- ## Headings

part_reads : (one : CLocal) {rest : List ℕ} {tokens : List Token} → ReadsAs rest tokens → ReadsAs (part_heading (part_of one) ++ rest) tokens
unfolding part_heading part_of
part_reads (local.Extern of name types) r = four_blanks (comment (codes "/* Builtin functions */") refl refl (line_feed r))
part_reads (local.StaticNumber of name value) r = four_blanks (comment (codes "/* Local variables */") refl refl (line_feed r))
part_reads (local.StaticNumbers of name n values) r = four_blanks (comment (codes "/* Local variables */") refl refl (line_feed r))
part_reads (local.StaticChars name None text) r = four_blanks (comment (codes "/* Fortran I/O blocks */") refl refl (line_feed r))
part_reads (local.StaticChars name (Some n) text) r = four_blanks (comment (codes "/* Local variables */") refl refl (line_feed r))
part_reads (local.StaticList of name fields) r = four_blanks (comment (codes "/* Fortran I/O blocks */") refl refl (line_feed r))
part_reads (local.Number of name) r = four_blanks (comment (codes "/* System generated locals */") refl refl (line_feed r))
part_reads (local.Numbers of name n) r = four_blanks (comment (codes "/* System generated locals */") refl refl (line_feed r))
part_reads (local.Chars name n) r = four_blanks (comment (codes "/* System generated locals */") refl refl (line_feed r))
part_reads (local.Addresses name n) r = four_blanks (comment (codes "/* System generated locals */") refl refl (line_feed r))

changed_reads : (same : Bool) (one : CLocal) (rest : List ℕ) {tokens : List Token} → ReadsAs rest tokens → ReadsAs ((if same then [] else 10 ∷ part_heading (part_of one)) ++ rest) tokens
changed_reads true one rest r = r
changed_reads false one rest r = line_feed (part_reads one r)

heading_reads : (before : Option _) (one : CLocal) (rest : List ℕ) {tokens : List Token} → ReadsAs rest tokens → ReadsAs (heading_after before (part_of one) ++ rest) tokens
unfolding heading_after
heading_reads None one rest r = part_reads one r
heading_reads (Some before) one rest r = changed_reads (is_part before (part_of one)) one rest r

end_reads : (before : Option _) (rest : List ℕ) {tokens : List Token} → ReadsAs rest tokens → ReadsAs (parts_end before ++ rest) tokens
unfolding parts_end
end_reads None rest r = r
end_reads (Some before) rest r = line_feed r

-- ## Declarations

local_whole : {scope : Scope} {one : CLocal} {name : List ℕ} {p q : List Token} → NamedScope scope → is_name name ≡ true → local_of_bytes one ≡ true → ReadsLocal scope one name p q
    → Whole (local_line one) (ReadsLocal scope one name)
unfolding local_line
local_whole {one = one} names named of_bytes reads =
    let piece : Piece (printed_local one) _ = local_piece names named of_bytes reads in
    record {
      tokens = λ more. piece.tokens (Sign (codes ";") ∷ more);
      reads = λ rest more r.
          four_blanks (inside (printed_local one) (codes ";\n") rest (piece.reads 59 (10 ∷ rest) (Sign (codes ";") ∷ more) refl (semicolon (line_feed r))));
      spells = λ more. piece.spells (Sign (codes ";") ∷ more) more refl;
    }

-- the declarations in order, behind one of some part
pub locals_whole : {scope last : Scope} {here : List (List ℕ)} {locals : List CLocal} {p q : List Token} → ReadsLocals scope here locals last p q → NamedScope scope
    → list_all local_of_bytes locals ≡ true → (before : Option _) → Whole (locals_after before locals) (ReadsLocals scope here locals last)
unfolding locals_after
locals_whole (no_local scope here) names of_bytes before = record {
  tokens = λ more. more;
  reads = λ rest more r. end_reads before rest r;
  spells = λ more. no_local scope here;
}
locals_whole (one_local scope last here {one = one} {name = name} {later = later} reads new more) names of_bytes before =
    let line : Whole (local_line one) _ = local_whole names new.named (and-first (local_of_bytes one) (list_all local_of_bytes later) of_bytes) reads in
    let others : Whole (locals_after (Some (part_of one)) later) _ =
    locals_whole more (declared_names one name scope new.named names) (and-second (local_of_bytes one) (list_all local_of_bytes later) of_bytes) (Some (part_of one)) in
    record {
      tokens = λ behind. line.tokens (others.tokens behind);
      reads = λ rest behind r.
          inside (heading_after before (part_of one)) (local_line one ++ locals_after (Some (part_of one)) later) rest
          (heading_reads before one ((local_line one ++ locals_after (Some (part_of one)) later) ++ rest)
          (inside (local_line one) (locals_after (Some (part_of one)) later) rest
          (line.reads (locals_after (Some (part_of one)) later ++ rest) (others.tokens behind) (others.reads rest behind r))));
      spells = λ behind. one_local scope last here (line.spells (others.tokens behind)) new (others.spells behind);
    }
