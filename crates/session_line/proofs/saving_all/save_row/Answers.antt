use Rattle.std.proofs.Common.{ℕ, List, Some, refl, sym, subst}
use Rattle.session_line.specs.{declared.told_decks.DeckOutcome.DeckOutcome, SavingAll.{SavesRow, is_saved, unsaved}, ToldDecks.outcome_of}
use Rattle.session_line.proofs.saving_all.save_row.Goals as goal

-- its file has its cards
pub returns-then-is_saved : goal.returns-then-is_saved
returns-then-is_saved g c = is_saved refl c.if-is_saved.ensures

-- it was to be saved
pub returns : goal.returns
returns g c =
    let P : List ℕ → Type 0 =
    λ (name : List ℕ). SavesRow g.C.Calls.relations.asks g.S.Shelf.relations c.args.row.now c.args.desk.now c.save_deck-answer.new.desk c.args.shelf.now c.save_deck-answer.new.shelf
    (Some (record { name = name; outcome = outcome_of c.save_deck-answer.result.told })) in
    let Q : DeckOutcome → Type 0 =
    λ (outcome : DeckOutcome). SavesRow g.C.Calls.relations.asks g.S.Shelf.relations c.args.row.now c.args.desk.now c.save_deck-answer.new.desk c.args.shelf.now
    c.save_deck-answer.new.shelf (Some (record { name = c.copied.result; outcome = outcome })) in
    subst Q (sym c.outcome_of-outcome.ensures) (subst P (sym c.copied.ensures) (unsaved c.is_saved.new.self c.save_deck-answer.result c.if-is_saved.ensures c.save_deck-answer.ensures.saves))
