-- Worked histories: decks that are put in the place of others.
use Rattle.std.proofs.Common.{◌≡◌, List, [], ◌∷◌, replicate, codes, refl}
use Rattle.desk_core.{specs.Joins.Language.{Card, Deck}, specs.Joins.Edits.Replace, specs.Desks.{new_desk, decks_of}, specs.Joins.Calls.{FromRecord, FromCards, Changed, Stored, Refused, NoDeck, OldVersion, TooManyDecks, DeckFull, UnknownJob, VersionsSpent}, proofs.Worked.{replies_to, desk_after, M, deck_m, kept, result, job, A, B, C, replace, add, put, drop, claim}, proofs.WorkedChanges.{decks_from, worn}}

-- the deck N
abbrev deck_n : List Card → Deck
deck_n cards = record { name = codes "N"; cards = cards }

-- a deck that is put keeps its place, and one that was not there is added at the end
pub in_place : decks_of (desk_after (add (deck_m A) ∷ add (deck_n A) ∷ put (deck_m B) 1 ∷ put (record { name = codes "Q"; cards = C }) 0 ∷ []) new_desk)
    ≡ deck_m B ∷ deck_n A ∷ record { name = codes "Q"; cards = C } ∷ []
in_place = refl

-- who has not seen the latest version is refused, and who saw a deck that is none any more
pub seen : replies_to (
    put (deck_m A) 1 ∷ put (deck_m A) 0 ∷ put (deck_m B) 0 ∷ put (deck_m B) 1 ∷ put (deck_m C) 1 ∷ put (deck_m (replicate 20001 [])) 1
    ∷ put (deck_m (replicate 20001 [])) 2 ∷ drop M 2 ∷ put (deck_m A) 2 ∷ put (deck_m (replicate 20001 [])) 0 ∷ []) new_desk
    ≡ Refused NoDeck ∷ Changed 1 ∷ Refused (OldVersion 1) ∷ Changed 2 ∷ Refused (OldVersion 2) ∷ Refused (OldVersion 2)
    ∷ Refused DeckFull ∷ Changed 3 ∷ Refused NoDeck ∷ Refused DeckFull ∷ []
seen = refl

-- a full desk takes decks in the place of others alone
pub full_desk : replies_to (put (deck_m []) 0 ∷ put (record { name = 9 ∷ []; cards = A }) 10 ∷ []) (desk_after (decks_from 0 64) new_desk) ≡ Refused TooManyDecks ∷ Changed 65 ∷ []
full_desk = refl

pub spent : replies_to (put (deck_m A) 2 ∷ put (deck_m A) 1 ∷ put (deck_n A) 0 ∷ []) (worn 4611686018427387904 0) ≡ Refused (OldVersion 1) ∷ Refused VersionsSpent ∷ Refused VersionsSpent ∷ []
spent = refl

-- the lease of the deck before ends, and no edit of it goes into a job of the new one
pub late_for_a_deck_that_is_put : replies_to (
    add (deck_m A) ∷ claim ∷ replace 1 (codes "*B") ∷ put (deck_m C) 2 ∷ result 1 1 1 A ∷ claim ∷ result 2 3 3 C ∷ replace 3 (codes "*A") ∷ claim ∷ []) new_desk
    ≡ Changed 1 ∷ job 1 1 1 (FromCards A) [] ∷ Changed 2 ∷ Changed 3 ∷ Refused UnknownJob ∷ job 2 3 3 (FromCards C) [] ∷ Stored ∷ Changed 4
    ∷ job 3 3 4 (FromRecord (kept C)) (Replace 1 (codes "*A") ∷ []) ∷ []
late_for_a_deck_that_is_put = refl
