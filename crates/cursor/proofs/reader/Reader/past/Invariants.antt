use Rattle.cursor.specs.Tokens.{past_trivia}
use Rattle.std.proofs.Common.{◌≡◌, ◌-◌, ◌/◌, length}
use Rattle.cursor.proofs.reader.Reader.past.Given as goal

-- trivia are the kinds below Ident: the table's flag is not looked up for each token. Where the kind here is trivia there is a token
abbrev pub invariant-loop-at : goal.invariant-loop-at
invariant-loop-at l = past_trivia l.self.tokens.now l.self.at ≡ past_trivia l.self.tokens.now l.at

abbrev pub decreases-loop-at : goal.decreases-loop-at
decreases-loop-at l = length l.self.tokens.now / 3 - l.at
