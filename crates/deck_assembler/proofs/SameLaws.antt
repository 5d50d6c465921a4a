-- Where all names mean the same in two decks, no statement is bound otherwise.
use Rattle.std.{proofs.Common.{◌≡◌, ◌∙◌, Bool, true, false, not, List, [], ◌∷◌, Option, Some, None, refl, ap, ap₂, sym}, specs.Prelude.{Result, Ok, Err, ◌&&◌, ◌||◌}, specs.List.list_any, proofs.lemmas.Bool.Decides.{Decides-eqb, Decides-int_eq}}
use Rattle.definitions.specs.{Forms.{Form, Names, Part, Added, Subtracted, element_form}, Lengths.BlockRow, Literals.literal_form, Laws.Rebound.{part_base, same_part, same_form, same_value, coded_elements, is_rebound}, Settled.{Settled, defined}, Settling.View, StatementItems.{Context, final_names}, Statements.Statement, declared.letter.Letter.Letter}
use Rattle.use_blocks.proofs.SameLaws.{same_relocation-Decides}
use Rattle.deck_assembler.specs.{Joins.FirstSymbols.symbol_in, Joins.FormerLines.MeanAsViewed, Joins.Rebindings.AreBindings, Joins.Walks.{IsWhole, context_in, whole_of}, declared.deck_view.DeckView.DeckView, declared.rebinding.Bindings.Bindings}

part-itself : (part : Option Part) → same_part part part ≡ true
part-itself None = refl
part-itself (Some (Added relocation)) = (same_relocation-Decides relocation relocation).1 refl
part-itself (Some (Subtracted relocation)) = (same_relocation-Decides relocation relocation).1 refl

form-itself : (old new : Context) (form : Form) → old.rows ≡ new.rows → same_form old new form form ≡ true
form-itself old new form rows =
    let bases : part_base old.rows form.part ≡ part_base new.rows form.part = ap (λ (r : List BlockRow). part_base r form.part) rows in
    ap₂ (λ (a b : Bool). a && b) ((Decides-int_eq form.number form.number).1 refl)
    (ap₂ (λ (a b : Bool). a && b) (part-itself form.part) ((Decides-eqb (part_base old.rows form.part) (part_base new.rows form.part)).1 bases))

-- where all blocks stand where they stood, a value is itself in both decks
value-itself : (old new : Context) (value : Result Form Letter) → old.rows ≡ new.rows → same_value old new value value ≡ true
value-itself old new (Ok form) rows = form-itself old new form rows
value-itself old new (Err letter) rows = refl

none-of : {A : Type 0} (test : A → Bool) (xs : List A) → ((x : A) → test x ≡ false) → list_any test xs ≡ false
none-of test [] h = refl
none-of test (x ∷ xs) h = ap₂ (λ (a b : Bool). a || b) (h x) (none-of test xs h)

-- two decks with the same symbols, literals and blocks
pub never-bound : (old new : Context) (settled : Settled) → ◌≡◌ {A = View} (λ name. defined name old.settled) (λ name. defined name new.settled) → old.literals ≡ new.literals → old.rows ≡ new.rows → is_rebound old new settled ≡ false
never-bound old new settled symbols literals rows =
    none-of (λ element. not (same_value old new (element_form (final_names old settled) element) (element_form (final_names new settled) element))) (coded_elements settled.read.operation settled.read.operand)
    (λ element.
    ap not (
    ap (λ (n : Names). same_value old new (element_form (final_names old settled) element) (element_form n element)) (sym names)
    ∙ value-itself old new (element_form (final_names old settled) element) rows
    ))
  where
    names : final_names old settled ≡ final_names new settled
    names = (λ i. record { symbol = symbols i; literal = λ literal. literal_form (literals i) literal; location = settled.location; origin = settled.origin })

-- a deck that is viewed, where all names mean what they did in the one before
pub never-rebound : (bindings : Bindings) (view : DeckView) (known others : List Statement) (old : Context) (settled : Settled) → IsWhole (whole_of view known others) → AreBindings bindings old → MeanAsViewed bindings view →
    is_rebound old (context_in (whole_of view known others)) settled ≡ false
never-rebound bindings view known others old settled is are mean =
    never-bound old (context_in (whole_of view known others)) settled (sym are.symbols ∙ ap symbol_in mean.symbols ∙ is.sized.symbols) (sym are.literals ∙ mean.literals) (sym are.rows ∙ mean.rows)
