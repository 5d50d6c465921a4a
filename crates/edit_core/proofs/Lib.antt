-- The pieces of a record, by the number of their statements.
pub mod PieceLaws
-- What edits leave of its cards.
pub mod EditLaws
-- And of the last of them.
pub mod EndLaws
-- And what is sized for them.
pub mod DueLaws
-- Where two edits leave a deck as it was, and where it agrees behind both.
pub mod JoinLaws
-- What both bind otherwise.
pub mod ReboundJoins
-- What is due for both, and for any number of edits.
pub mod NeutralJoins
pub mod JoinedEdits
pub mod SumLaws
-- Edits of which some are made at once, and others behind them.
pub mod NearLaws
pub mod OrderLaws
