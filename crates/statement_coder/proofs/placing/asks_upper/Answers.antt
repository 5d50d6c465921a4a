use Rattle.std.proofs.Common.{◌≡◌, ℕ, List, false, length, codes, refl, sym, arith}
use Rattle.definitions.specs.{Pieces.{pieces_of, subfields_of}, Places.asks_upper}
use Rattle.operations.proofs.SettingLaws.{other_length}
use Rattle.statement_coder.proofs.placing.asks_upper.Goals as goal

-- each name that asks has two letters
no_other : (name : List ℕ) (subfields : ℕ) → (length name ≡ 2 → ⊥) → false ≡ asks_upper name subfields
no_other name subfields differ =
    rw (sym (other_length name (codes "JP") differ), sym (other_length name (codes "RJ") differ), sym (other_length name (codes "PS") differ), sym (other_length name (codes "EQ") differ)) refl

pub returns-in_default : goal.returns-in_default
returns-in_default c = no_other c.args.name.now (length (subfields_of (pieces_of c.args.text.now))) (λ same. let shorter = c.in_default.len_below in omega arith)

pub returns-in_default-7 : goal.returns-in_default-7
returns-in_default-7 c = no_other c.args.name.now (length (subfields_of (pieces_of c.args.text.now))) (λ same. let longer = c.in_default.len_at_least in omega arith)
