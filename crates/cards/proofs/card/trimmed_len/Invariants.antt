use Rattle.std.proofs.Common.{◌≡◌, ◌≤◌, take, length}
use Rattle.definitions.specs.Cards.{trimmed}
use Rattle.cards.proofs.card.trimmed_len.Given as goal

-- behind the columns that are left there are blanks alone
abbrev pub invariant-loop-len : goal.invariant-loop-len
invariant-loop-len l = record { within : l.len ≤ length l.line; kept : trimmed (take l.len l.line) ≡ trimmed l.line }

abbrev pub decreases-loop-len : goal.decreases-loop-len
decreases-loop-len l = l.len
