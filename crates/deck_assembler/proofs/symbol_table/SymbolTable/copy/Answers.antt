-- A clone of numbers and forms has the same.
use Rattle.std.proofs.{Common.{◌≡◌, ℕ, ◌∙◌}, lemmas.Map.Entries.entries_from_clone}
use Rattle.definitions.specs.Forms.{Form}
use Rattle.deck_assembler.proofs.symbol_table.SymbolTable.copy.Goals as goal

pub returns : goal.returns
returns c =
    entries_from_clone (λ (x y : ℕ). y ≡ x) (λ (x y : Form). y ≡ x) (λ x y e. e) (λ x y e. e) c.self.inside.forms.entries c.in_ok-forms.forms.entries c.in_ok-forms.ensures.cases ∙ c.self.view_is
