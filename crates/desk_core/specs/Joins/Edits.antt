-- What the desk takes over from the edits of cards. Declares nothing.
pub use Rattle.cards.specs.declared.edits.Edit.{Edit}
pub use Rattle.cards.specs.declared.edits.Edit.TheVariants.{Insert, Replace, Remove}
pub use Rattle.cards.specs.declared.edits.EditFault.{EditFault}
pub use Rattle.cards.specs.declared.edits.EditFault.TheVariants.{NoSuchCard, DeckFull}
pub use Rattle.cards.specs.Edits.{most_cards, is_place, fault_of, edited, edited_by, first_fault}
