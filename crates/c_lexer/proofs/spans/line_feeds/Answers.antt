use Rattle.std.proofs.Common.{◌∙◌, ap, subst, ◌≤◌, sym, length}
use Rattle.c_lexer.proofs.LineFeeds.{places_are_feeds}
use Rattle.c_lexer.proofs.spans.line_feeds.Goals as goal

pub returns-clause-value : goal.returns-clause-value
returns-clause-value c = c.count.ensures ∙ ap length c.memchr_iter.ensures.value ∙ places_are_feeds c.args.text.now

pub returns-clause-within : goal.returns-clause-within
returns-clause-within c = subst (λ n. n ≤ length c.args.text.now) (sym c.count.ensures) c.memchr_iter.ensures.len
