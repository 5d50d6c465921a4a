-- What an expression of the code is, in the words of the definitions.
use Rattle.std.specs.{Prelude.{ℕ, ◌≡◌, ◌≤◌, List, [], ◌∷◌, Bool, true, false, length}, List.list_all}
use Rattle.definitions.{specs.Expressions.{Sign, OperatorElement, Expression, grouped, is_allowed, is_plain}, specs.declared.number_base.NumberBase.NumberBase, proofs.TermLaws.{JoinsTerms, links_in}}
use Rattle.expr_forms.specs.{Joins.ElementLists.elements_in, Joins.Links.{IsLawful, links_behind}, Joins.LoneRegisters.{has_terms, terms_left_by}, declared.links.LoneRegisters.LoneRegisters}

-- the expression of a sign, its first link and those that a text spells behind it, with the terms of one register or without them
abbrev pub expression_behind : NumberBase → Sign → OperatorElement → List ℕ → LoneRegisters → Expression
expression_behind base sign first rest registers = record { sign = sign; terms = terms_left_by registers (grouped (first ∷ links_behind base rest)).terms }

-- a text spells links and nothing else, a statement has room for it behind an element, and the link in front begins a term
pub record AreLawful (base : NumberBase) (first : OperatorElement) (rest : List ℕ) : Type 0 where
  pub lawful : IsLawful base rest
  pub short : length rest ≤ 710
  pub begins : JoinsTerms first.operator

-- the elements of an expression from left to right, each with the operator before it
abbrev pub links_of : Expression → List OperatorElement
links_of e = links_in e.terms

-- the first link adds or subtracts
abbrev pub BeginsTerm : List OperatorElement → Type 0
BeginsTerm [] = Unit {0}
BeginsTerm (pair ∷ pairs) = JoinsTerms pair.operator

-- no link has a register or a literal
abbrev pub are_plain : List OperatorElement → Bool
are_plain pairs = list_all (is_allowed false) (elements_in pairs)

-- an expression without registers and literals, of at least one term
pub record IsPlainSum (e : Expression) : Type 0 where
  pub plain : is_plain false e ≡ true
  pub some : has_terms e.terms ≡ true

-- an expression that was read, and is plain where that is known
pub record AreRead (base : NumberBase) (sign : Sign) (first : OperatorElement) (rest : List ℕ) (registers : LoneRegisters) (known_plain : Bool) : Type 0 where
  pub lawful : AreLawful base first rest
  pub plain : known_plain ≡ true → IsPlainSum (expression_behind base sign first rest registers)
