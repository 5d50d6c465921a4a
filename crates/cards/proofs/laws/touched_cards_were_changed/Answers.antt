use Rattle.cards.{specs.Carrying.seen_before, proofs.Touches.{seen-true, touched-true}}
use Rattle.cards.proofs.laws.touched_cards_were_changed.Goals as goal

pub returns : goal.returns
returns c = λ made edits touched told. touched-true edits (seen_before made) made touched (seen-true made) told
