use Rattle.std.proofs.Common.{◌≡◌, List, flat_map, length}
use Rattle.definitions.specs.{Letters.name_fault, Settled.{Settled, defined}}
use Rattle.statement_coder.proofs.NameLaws.{Gathered}
use Rattle.statement_coder.proofs.entry_letters.names_letters.Given as goal

-- the letters of the names so far, and those of the names that are left
abbrev pub invariant-names : goal.invariant-names
invariant-names g l =
    (settled : List Settled) → g.S.FinalSymbols.symbols l.symbols ≡ (λ name. defined name settled) →
    Gathered l.letters (flat_map (name_fault settled) l.rest) (flat_map (name_fault settled) l.fn.names)

abbrev pub decreases-names : goal.decreases-names
decreases-names g l = length l.rest
