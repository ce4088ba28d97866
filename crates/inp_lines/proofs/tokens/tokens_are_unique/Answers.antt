use Rattle.std.proofs.Common.{sym, subst}
use Rattle.inp_lines.specs.Tokens.{AreTokens}
use Rattle.inp_lines.proofs.GrammarLemmas.{tokens_unique, tokens_made}
use Rattle.inp_lines.proofs.tokens.tokens_are_unique.Goals as goal

pub returns : goal.returns
returns c = λ text tokens. ((λ are. tokens_unique tokens text are), (λ same. subst (λ found. AreTokens found text) (sym same) (tokens_made text)))
