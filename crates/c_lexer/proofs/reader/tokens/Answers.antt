use Rattle.std.proofs.Common.{◌≡◌, refl}
use Rattle.std.proofs.lemmas.List.{take_rest}
use Rattle.c_lexer.specs.declared.head.Head.TheVariants as head
use Rattle.c_lexer.proofs.ReaderLemmas.{gap_behind, lexeme_behind, reads_end, nothing_left}
use Rattle.c_lexer.proofs.reader.tokens.Goals as goal

pub loop-rest-preserved-in-Gap : goal.loop-rest-preserved-in-Gap
loop-rest-preserved-in-Gap c =
    let gap : c.in_ok-head.field-0.head ≡ head.Gap c.in-Gap.len = cc in
    gap_behind c.args.bytes.now c.loop-rest.found c.loop-rest.line c.line_feeds-line.result c.loop-rest.alone c.still_alone-alone.result c.loop-rest.rest.now _
    c.in-Gap.len c.loop-rest.known c.in_ok-head.field-0.known c.known_behind-known.result c.in_ok-head.field-0 c.loop-rest.invariant c.in_ok-head.ensures gap refl
    (take_rest c.loop-rest.rest.now c.in-Gap.len) c.line_feeds-line.ensures.value c.line_feeds-line.ensures.within c.still_alone-alone.ensures
    c.known_behind-known.ensures.quotes c.known_behind-known.ensures.comments

pub loop-rest-preserved : goal.loop-rest-preserved
loop-rest-preserved c =
    let lexeme : c.in_ok-head.field-0.head ≡ head.Lexeme c.in-Lexeme.token c.in-Lexeme.len = cc in
    lexeme_behind c.args.bytes.now c.loop-rest.found c.push.new.self c.loop-rest.line c.loop-rest.alone c.loop-rest.rest.now _ c.in-Lexeme.token c.in-Lexeme.len
    c.loop-rest.known c.in_ok-head.field-0.known c.known_behind-known-in-Lexeme.result c.in_ok-head.field-0 c.loop-rest.invariant c.in_ok-head.ensures lexeme refl
    (take_rest c.loop-rest.rest.now c.in-Lexeme.len) c.in_ok-push-in-Lexeme.ensures.ok c.known_behind-known-in-Lexeme.ensures.quotes
    c.known_behind-known-in-Lexeme.ensures.comments

pub returns : goal.returns
returns c =
    reads_end c.args.bytes.now c.loop-rest.found c.loop-rest.line c.loop-rest.alone c.loop-rest.known c.loop-rest.rest.now c.loop-rest.invariant
    (nothing_left c.loop-rest.rest.now c.in_default.len_below)
