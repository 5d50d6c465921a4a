use Rattle.std.proofs.{Common.{ℕ, List, ◌≡◌, true, subst, sym, ◌∙◌}, lemmas.Bool.false≢true}
use Rattle.definitions.specs.DeckInput.{is_deck_name}
use Rattle.journal.proofs.SessionNames.{session-is}
use Rattle.journal.proofs.names.session_name.Goals as goal

pub unreachable-requires : goal.unreachable-requires
unreachable-requires c =
    false≢true (c.in-Err.ensures.accepts.1 (subst (λ (text : List ℕ). is_deck_name text ≡ true) (sym (c.as_bytes.ensures.value ∙ c.format.ensures.text)) (session-is c.args.number)))
