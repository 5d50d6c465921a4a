-- The line of each command reads back.
use Rattle.std.{proofs.Common.{ℕ, ◌≡◌, ◌≤◌, ◌&&◌, arith, Bool, true, false, List, [], ◌∷◌, ◌++◌, Option, Some, None, Result, Ok, Err, codes, length, refl, ap, ◌∙◌, ne_eqb, if◌then◌else◌}, specs.Prelude.{nat_le, decimal, option_and_then}, proofs.lemmas.Bool.{and_parts, le-leb, leb-true}}
use Rattle.definitions.specs.{Cards.{CardRead, IsCard, card_of}, DeckInput.is_deck_name}
use Rattle.session_commands.{specs.declared.verbs.EditKind.EditKind, specs.declared.commands.Command.Command, specs.declared.views.ErrorsView.TheVariants.{Every, Of}, specs.declared.commands.BatchHead.BatchHead, specs.declared.words.Seen.Seen, specs.declared.words.Seen.TheVariants.Exactly, specs.declared.refusals.Refusal.Refusal, specs.declared.views.CardsView.CardsView, specs.declared.views.CardsView.TheVariants.{All, From, With}, specs.declared.refusals.Refusal.TheVariants.BadName, specs.Sought.is_sought_size, specs.Words.{first_word, behind_word, number_in, first_number, first_seen, greatest_number}, specs.Edits.{needs, only_if, made_of, is_end, card_or_fault, fits_edit, edit_at, edit_in_batch}, specs.Commands.{name_in, only_name, save_over_in, save_in, view_from, view_in, at_in, cards_by, cards_in, sought_of, sought_in, find_in, errors_of, errors_in, named_version, of_version, edit_of, edit_in, head_in, batch_by, put_by, is_batch_size, is_put_size, command_of}, specs.Lines.{name_and_number, name_and_seen, seen_text, line_of_edit, line_in_batch, line_of_head, line_of_command, IsLawfulEdit, IsLawfulSeen, IsLawfulName, IsLawful}, proofs.ReadBack.{IsRest, IsWord, word-name, word-decimal, word-seen, first-word, behind-word, first-number, first-seen}}
use Rattle.session_commands.specs.declared.verbs.EditKind.TheVariants as kind
use Rattle.cards.specs.declared.edits.Edit.{Edit, TheVariants.{Insert, Replace, Remove}}
use Rattle.deck_files.specs.declared.deck_shelf.SaveOver.{SaveOver, TheVariants.{Known, Any}}
use Rattle.session_commands.specs.declared.commands.Command.TheVariants as command

-- a lawful name
name-is : (name : List ℕ) → is_deck_name name ≡ true → name_in name ≡ Ok name
name-is name is = ap (λ (t : Bool). if t then Ok name else Err BadName) is

-- a name alone
pub only-name : (name : List ℕ) → is_deck_name name ≡ true → only_name (32 ∷ (name ++ [])) ≡ Ok name
only-name name is =
    let rest = 32 ∷ (name ++ []) in
    ap (λ (o : Option (List ℕ)). needs o (λ n. only_if (is_end (behind_word rest)) (name_in n))) (first-word name [] (word-name name is) refl)
    ∙ ap (λ (l : List ℕ). only_if (is_end l) (name_in name)) (behind-word name [] (word-name name is) refl)
    ∙ name-is name is

-- a number, and what is made of it and of what stands behind it
pub number-made : {B : Type 0} (made : ℕ → List ℕ → Result B Refusal) (n : ℕ) (rest : List ℕ) → n ≤ greatest_number → IsRest rest →
    needs (first_number (32 ∷ (decimal n ++ rest))) (λ m. made m (behind_word (32 ∷ (decimal n ++ rest)))) ≡ made n rest
number-made {B} made n rest within none =
    let line = 32 ∷ (decimal n ++ rest) in
    ap (λ (o : Option ℕ). needs {A = ℕ} {B = B} o (λ m. made m (behind_word line))) (first-number n rest within none)
    ∙ ap (λ (l : List ℕ). made n l) (behind-word (decimal n) rest (word-decimal n within) none)

-- a name and a number, and what is made of them and of what stands behind them
both-made : {B : Type 0} (made : List ℕ → ℕ → List ℕ → Result B Refusal) (name : List ℕ) (n : ℕ) (rest : List ℕ) → is_deck_name name ≡ true → n ≤ greatest_number → IsRest rest →
    needs (first_word (name_and_number name n rest)) (λ w. needs (first_number (behind_word (name_and_number name n rest))) (λ m. made w m (behind_word (behind_word (name_and_number name n rest))))) ≡ made name n rest
both-made {B} made name n rest is within none =
    let line = name_and_number name n rest in
    let more = 32 ∷ (decimal n ++ rest) in
    ap (λ (o : Option (List ℕ)). needs {A = List ℕ} {B = B} o (λ w. needs (first_number (behind_word line)) (λ m. made w m (behind_word (behind_word line))))) (first-word name more (word-name name is) refl)
    ∙ ap (λ (l : List ℕ). needs {A = ℕ} {B = B} (first_number l) (λ m. made name m (behind_word l))) (behind-word name more (word-name name is) refl)
    ∙ number-made (made name) n rest within none

-- a name and a version, and what is made of them and of what stands behind them
seen-made : {B : Type 0} (made : List ℕ → Seen → List ℕ → Result B Refusal) (name : List ℕ) (seen : Seen) (rest : List ℕ) → is_deck_name name ≡ true → IsLawfulSeen seen → IsRest rest →
    needs (first_word (name_and_seen name seen rest)) (λ w. needs (first_seen (behind_word (name_and_seen name seen rest))) (λ s. made w s (behind_word (behind_word (name_and_seen name seen rest))))) ≡ made name seen rest
seen-made {B} made name seen rest is lawful none =
    let line = name_and_seen name seen rest in
    let more = 32 ∷ (seen_text seen ++ rest) in
    ap (λ (o : Option (List ℕ)). needs {A = List ℕ} {B = B} o (λ w. needs (first_seen (behind_word line)) (λ s. made w s (behind_word (behind_word line))))) (first-word name more (word-name name is) refl)
    ∙ ap (λ (l : List ℕ). needs {A = Seen} {B = B} (first_seen l) (λ s. made name s (behind_word l))) (behind-word name more (word-name name is) refl)
    ∙ ap (λ (o : Option Seen). needs {A = Seen} {B = B} o (λ s. made name s (behind_word more))) (first-seen seen rest lawful none)
    ∙ ap (λ (l : List ℕ). made name seen l) (behind-word (seen_text seen) rest (word-seen seen lawful) none)

-- SAVE
save-back : (name rest : List ℕ) (over : SaveOver) → is_deck_name name ≡ true → IsRest rest → save_over_in rest ≡ Some over →
    save_in (32 ∷ (name ++ rest)) ≡ Ok (command.Save name over)
save-back name rest over is none which =
    let line = 32 ∷ (name ++ rest) in
    ap (λ (o : Option (List ℕ)). needs o (λ n. needs (save_over_in (behind_word line)) (λ v. made_of (λ m. command.Save m v) (name_in n)))) (first-word name rest (word-name name is) none)
    ∙ ap (λ (l : List ℕ). needs (save_over_in l) (λ v. made_of (λ m. command.Save m v) (name_in name))) (behind-word name rest (word-name name is) none)
    ∙ ap (λ (o : Option SaveOver). needs o (λ v. made_of (λ m. command.Save m v) (name_in name))) which
    ∙ ap (λ (r : Result (List ℕ) Refusal). made_of (λ m. command.Save m over) r) (name-is name is)

-- CARDS
cards-back : (name rest : List ℕ) (view : CardsView) → is_deck_name name ≡ true → IsRest rest → view_in rest ≡ Some view →
    cards_in (32 ∷ (name ++ rest)) ≡ Ok (command.Cards name view)
cards-back name rest view is none which =
    let line = 32 ∷ (name ++ rest) in
    ap (λ (o : Option (List ℕ)). needs o (λ n. cards_by n (view_in (behind_word line)) (at_in (behind_word line)))) (first-word name rest (word-name name is) none)
    ∙ ap (λ (l : List ℕ). cards_by name (view_in l) (at_in l)) (behind-word name rest (word-name name is) none)
    ∙ ap (λ (o : Option CardsView). cards_by name o (at_in rest)) which
    ∙ ap (λ (r : Result (List ℕ) Refusal). made_of (λ m. command.Cards m view) r) (name-is name is)

-- a text with a character is not the end of a line
no-end : (c : ℕ) (text : List ℕ) → is_end (c ∷ text) ≡ false
no-end c text = ne_eqb (length (c ∷ text)) 0 (λ e. absurd (omega (arith, e)))

-- the word AT
word-at : IsWord (codes "AT")
word-at = record { unbroken = refl; some = omega arith }

-- and the version behind it
at-read : (version : ℕ) → version ≤ greatest_number → at_in (32 ∷ (codes "AT" ++ (32 ∷ (decimal version ++ [])))) ≡ Some version
at-read version within =
    let last = 32 ∷ (decimal version ++ []) in
    let line = 32 ∷ (codes "AT" ++ last) in
    ap (λ (l : List ℕ). if is_end (behind_word l) then first_number l else None) (behind-word (codes "AT") last word-at refl)
    ∙ ap (λ (l : List ℕ). if is_end l then first_number last else None) (behind-word (decimal version) [] (word-decimal version within) refl)
    ∙ first-number version [] within refl

-- it is no place
at-none : (version : ℕ) → view_in (32 ∷ (codes "AT" ++ (32 ∷ (decimal version ++ [])))) ≡ None
at-none version =
    let last = 32 ∷ (decimal version ++ []) in
    let line = 32 ∷ (codes "AT" ++ last) in
    ap (λ (t : Bool). if t then Some All else option_and_then (λ p. option_and_then (λ n. view_from p n (behind_word (behind_word line))) (first_number (behind_word line))) (first_number line)) (no-end 32 (codes "AT" ++ last))
    ∙ ap (λ (o : Option (List ℕ)). option_and_then (λ p. option_and_then (λ n. view_from p n (behind_word (behind_word line))) (first_number (behind_word line))) (option_and_then number_in o)) (first-word (codes "AT") last word-at refl)

-- CARDS with a version
at-back : (name : List ℕ) (version : ℕ) → is_deck_name name ≡ true → version ≤ greatest_number →
    cards_in (32 ∷ (name ++ (32 ∷ (codes "AT" ++ (32 ∷ (decimal version ++ [])))))) ≡ Ok (command.CardsAt name version)
at-back name version is within =
    let last = 32 ∷ (decimal version ++ []) in
    let rest = 32 ∷ (codes "AT" ++ last) in
    let line = 32 ∷ (name ++ rest) in
    ap (λ (o : Option (List ℕ)). needs o (λ n. cards_by n (view_in (behind_word line)) (at_in (behind_word line)))) (first-word name rest (word-name name is) refl)
    ∙ ap (λ (l : List ℕ). cards_by name (view_in l) (at_in l)) (behind-word name rest (word-name name is) refl)
    ∙ ap (λ (o : Option CardsView). cards_by name o (at_in rest)) (at-none version)
    ∙ ap (λ (o : Option ℕ). cards_by name None o) (at-read version within)
    ∙ ap (λ (r : Result (List ℕ) Refusal). made_of (λ m. command.CardsAt m version) r) (name-is name is)

-- a place and a number of cards
from-back : (place count : ℕ) → 1 ≤ place → place ≤ greatest_number → count ≤ greatest_number → view_in (32 ∷ (decimal place ++ (32 ∷ (decimal count ++ [])))) ≡ Some (From place count)
from-back place count least placed counted =
    let rest = 32 ∷ (decimal count ++ []) in
    let line = 32 ∷ (decimal place ++ rest) in
    ap (λ (t : Bool). if t then Some All else option_and_then (λ p. option_and_then (λ n. view_from p n (behind_word (behind_word line))) (first_number (behind_word line))) (first_number line)) (no-end 32 (decimal place ++ rest))
    ∙ ap (λ (o : Option ℕ). option_and_then (λ p. option_and_then (λ n. view_from p n (behind_word (behind_word line))) (first_number (behind_word line))) o) (first-number place rest placed refl)
    ∙ ap (λ (l : List ℕ). option_and_then (λ n. view_from place n (behind_word l)) (first_number l)) (behind-word (decimal place) rest (word-decimal place placed) refl)
    ∙ ap (λ (o : Option ℕ). option_and_then (λ n. view_from place n (behind_word rest)) o) (first-number count [] counted refl)
    ∙ ap (λ (l : List ℕ). view_from place count l) (behind-word (decimal count) [] (word-decimal count counted) refl)
    ∙ ap (λ (t : Bool). if t && true then Some (From place count) else None) (le-leb 1 place least)

-- FIND
find-back : (name text : List ℕ) → is_deck_name name ≡ true → card_of text ≡ IsCard text → is_sought_size (length text) ≡ true →
    find_in (32 ∷ (name ++ (32 ∷ text))) ≡ Ok (command.Cards name (With text))
find-back name text is card size =
    let line = 32 ∷ (name ++ (32 ∷ text)) in
    ap (λ (o : Option (List ℕ)). needs o (λ n. needs (sought_in (behind_word line)) (λ t. made_of (λ m. command.Cards m (With t)) (name_in n)))) (first-word name (32 ∷ text) (word-name name is) refl)
    ∙ ap (λ (l : List ℕ). needs (sought_in l) (λ t. made_of (λ m. command.Cards m (With t)) (name_in name))) (behind-word name (32 ∷ text) (word-name name is) refl)
    ∙ ap (λ (r : CardRead). needs (sought_of r) (λ t. made_of (λ m. command.Cards m (With t)) (name_in name))) card
    ∙ ap (λ (b : Bool). needs (if b then Some text else None) (λ t. made_of (λ m. command.Cards m (With t)) (name_in name))) size
    ∙ ap (λ (r : Result (List ℕ) Refusal). made_of (λ m. command.Cards m (With text)) r) (name-is name is)

-- ERRORS with a name
errors-back : (name rest : List ℕ) → is_deck_name name ≡ true → IsRest rest → errors_in (32 ∷ (name ++ rest)) ≡ errors_of name rest
errors-back name rest is none =
    let line = 32 ∷ (name ++ rest) in
    ap (λ (t : Bool). if t then Ok (command.Errors Every) else needs (first_word line) (λ n. errors_of n (behind_word line))) (no-end 32 (name ++ rest))
    ∙ ap (λ (o : Option (List ℕ)). needs o (λ n. errors_of n (behind_word line))) (first-word name rest (word-name name is) none)
    ∙ ap (λ (l : List ℕ). errors_of name l) (behind-word name rest (word-name name is) none)

-- IMAGE, LIST and SYMBOLS with a name
part-back : (all : Command) (part : List ℕ → Command) (name : List ℕ) → is_deck_name name ≡ true →
    (if is_end (32 ∷ (name ++ [])) then Ok all else made_of part (only_name (32 ∷ (name ++ [])))) ≡ Ok (part name)
part-back all part name is =
    ap (λ (t : Bool). if t then Ok all else made_of part (only_name (32 ∷ (name ++ [])))) (no-end 32 (name ++ []))
    ∙ ap (λ (r : Result (List ℕ) Refusal). made_of part r) (only-name name is)

-- DROP, CHANGES and UNDO
version-back : (make : List ℕ → ℕ → Command) (name : List ℕ) (version : ℕ) → is_deck_name name ≡ true → version ≤ greatest_number →
    of_version make (named_version (name_and_number name version [])) ≡ Ok (make name version)
version-back make name version is within =
    ap (of_version make) (both-made (λ n v l. only_if (is_end l) (made_of (λ m. (m, v)) (name_in n))) name version [] is within refl)
    ∙ ap (λ (r : Result (List ℕ) Refusal). of_version make (made_of (λ m. (m, version)) r)) (name-is name is)

-- INS, REP and DEL, to the edit
edit-made : (kind : EditKind) (name : List ℕ) (seen : Seen) (place : ℕ) (rest : List ℕ) → is_deck_name name ≡ true → IsLawfulSeen seen → place ≤ greatest_number → IsRest rest →
    edit_in kind (name_and_seen name seen (32 ∷ (decimal place ++ rest))) ≡ only_if (fits_edit kind rest) (edit_of (Ok name) seen (edit_at kind place rest))
edit-made kind name seen place rest is lawful placed none =
    seen-made (λ n s l. needs (first_number l) (λ p. only_if (fits_edit kind (behind_word l)) (edit_of (name_in n) s (edit_at kind p (behind_word l))))) name seen (32 ∷ (decimal place ++ rest)) is lawful refl
    ∙ number-made (λ p l. only_if (fits_edit kind l) (edit_of (name_in name) seen (edit_at kind p l))) place rest placed none
    ∙ ap (λ (r : Result (List ℕ) Refusal). only_if (fits_edit kind rest) (edit_of r seen (edit_at kind place rest))) (name-is name is)

-- an edit
edit-back : (name : List ℕ) (seen : Seen) (edit : Edit) → is_deck_name name ≡ true → IsLawfulSeen seen → IsLawfulEdit edit →
    command_of (line_of_edit name seen edit) ≡ Ok (command.Edit name seen edit)
edit-back name seen (Insert place card) is within lawful =
    edit-made kind.Insert name seen place (32 ∷ card) is within lawful.0 refl
    ∙ ap (λ (r : CardRead). edit_of (Ok name) seen (made_of (Insert place) (card_or_fault r))) lawful.1
edit-back name seen (Replace place card) is within lawful =
    edit-made kind.Replace name seen place (32 ∷ card) is within lawful.0 refl
    ∙ ap (λ (r : CardRead). edit_of (Ok name) seen (made_of (Replace place) (card_or_fault r))) lawful.1
edit-back name seen (Remove place) is within lawful = edit-made kind.Remove name seen place [] is within lawful refl

-- an edit in a batch
pub batch_line-back : (edit : Edit) → IsLawfulEdit edit → edit_in_batch (line_in_batch edit) ≡ Ok edit
batch_line-back (Insert place card) lawful =
    number-made (λ p l. only_if (fits_edit kind.Insert l) (edit_at kind.Insert p l)) place (32 ∷ card) lawful.0 refl
    ∙ ap (λ (r : CardRead). made_of (Insert place) (card_or_fault r)) lawful.1
batch_line-back (Replace place card) lawful =
    number-made (λ p l. only_if (fits_edit kind.Replace l) (edit_at kind.Replace p l)) place (32 ∷ card) lawful.0 refl
    ∙ ap (λ (r : CardRead). made_of (Replace place) (card_or_fault r)) lawful.1
batch_line-back (Remove place) lawful = number-made (λ p l. only_if (fits_edit kind.Remove l) (edit_at kind.Remove p l)) place [] lawful refl

-- the first line of a command with lines behind it
head-made : (name : List ℕ) (seen : Seen) (count : ℕ) → is_deck_name name ≡ true → IsLawfulSeen seen → count ≤ greatest_number →
    head_in (name_and_seen name seen (32 ∷ (decimal count ++ []))) ≡ Ok (record { name = Ok name; seen = seen; count = count })
head-made name seen count is lawful few =
    let head : Result (List ℕ) Refusal → Seen → ℕ → Result BatchHead Refusal = λ r s n. Ok (record { name = r; seen = s; count = n }) in
    seen-made (λ w s l. needs (first_number l) (λ n. only_if (is_end (behind_word l)) (head (name_in w) s n))) name seen (32 ∷ (decimal count ++ [])) is lawful refl
    ∙ number-made (λ n l. only_if (is_end l) (head (name_in name) seen n)) count [] few refl
    ∙ ap (λ (r : Result (List ℕ) Refusal). head r seen count) (name-is name is)

-- BATCH
batch-back : (name : Result (List ℕ) Refusal) (seen : Seen) (count : ℕ) → IsLawfulName name → IsLawfulSeen seen → is_batch_size count ≡ true →
    command_of (line_of_head (codes "BATCH") name seen count) ≡ Ok (command.Batch (record { name = name; seen = seen; count = count }))
batch-back (Ok name) seen count is lawful size =
    let few : count ≤ 100 = leb-true count 100 (and_parts (nat_le 1 count) (nat_le count 100) size).1 in
    ap (λ (r : Result BatchHead Refusal). batch_by r) (head-made name seen count is lawful (omega (arith, few)))
    ∙ ap (λ (t : Bool). only_if t (Ok (command.Batch (record { name = Ok name; seen = seen; count = count })))) size
batch-back (Err refusal) seen count is lawful size = absurd is

-- PUT
put-back : (name : Result (List ℕ) Refusal) (version count : ℕ) → IsLawfulName name → version ≤ greatest_number → is_put_size count ≡ true →
    command_of (line_of_head (codes "PUT") name (Exactly version) count) ≡ Ok (command.Put (record { name = name; version = version; count = count }))
put-back (Ok name) version count is within size =
    let few : count ≤ 20000 = leb-true count 20000 size in
    ap (λ (r : Result BatchHead Refusal). put_by r) (head-made name (Exactly version) count is within (omega (arith, few)))
    ∙ ap (λ (t : Bool). only_if t (Ok (command.Put (record { name = Ok name; version = version; count = count })))) size
put-back (Err refusal) version count is within size = absurd is

-- each command
pub line-back : (command : Command) → IsLawful command → command_of (line_of_command command) ≡ Ok command
line-back (command.Add name) is = ap (λ (r : Result (List ℕ) Refusal). made_of command.Add r) (only-name name is)
line-back (command.Load name) is = ap (λ (r : Result (List ℕ) Refusal). made_of command.Load r) (only-name name is)
line-back (command.LoadAll name) is = ap (λ (r : Result (List ℕ) Refusal). made_of command.LoadAll r) (only-name name is)
line-back (command.Reload name) is = ap (λ (r : Result (List ℕ) Refusal). made_of command.Reload r) (only-name name is)
line-back (command.Drop name version) lawful = version-back command.Drop name version lawful.0 lawful.1
line-back (command.Edit name seen edit) lawful = edit-back name seen edit lawful.0 lawful.1 lawful.2
line-back (command.Cards name All) lawful = cards-back name [] All lawful.0 refl refl
line-back (command.Cards name (From place count)) lawful =
    cards-back name (32 ∷ (decimal place ++ (32 ∷ (decimal count ++ [])))) (From place count) lawful.0 refl (from-back place count lawful.1.0 lawful.1.1 lawful.1.2)
line-back (command.Cards name (With text)) lawful = find-back name text lawful.0 lawful.1.0 lawful.1.1
line-back (command.CardsAt name version) lawful = at-back name version lawful.0 lawful.1
line-back (command.Changes name version) lawful = version-back command.Changes name version lawful.0 lawful.1
line-back (command.Save name Known) is = save-back name [] Known is refl refl
line-back (command.Save name Any) is = save-back name (codes " FORCE") Any is refl refl
line-back command.SaveAll _ = refl
line-back command.Image _ = refl
line-back command.List _ = refl
line-back command.Map _ = refl
line-back (command.ImageOf name) is = part-back command.Image command.ImageOf name is
line-back (command.ListOf name) is = part-back command.List command.ListOf name is
line-back (command.Errors Every) _ = refl
line-back (command.Errors (Of name)) is = errors-back name [] is refl ∙ ap (λ (r : Result (List ℕ) Refusal). made_of (λ n. command.Errors (Of n)) r) (name-is name is)
line-back (command.Words name) is = errors-back name (codes " WORDS") is refl ∙ ap (λ (r : Result (List ℕ) Refusal). made_of command.Words r) (name-is name is)
line-back command.Names _ = refl
line-back (command.Symbols name) is = part-back command.Names command.Symbols name is
line-back command.Status _ = refl
line-back command.FileStatus _ = refl
line-back command.Files _ = refl
line-back (command.Wait version) within = number-made (λ v l. only_if (is_end l) (Ok (command.Wait v))) version [] within refl
line-back (command.Batch head) lawful = batch-back head.name head.seen head.count lawful.0 lawful.1 lawful.2
line-back (command.Put head) lawful = put-back head.name head.version head.count lawful.0 lawful.1 lawful.2
line-back (command.Undo name version) lawful = version-back command.Undo name version lawful.0 lawful.1
line-back (command.Hello name) is = ap (λ (r : Result (List ℕ) Refusal). made_of command.Hello r) (only-name name is)
line-back command.Help _ = refl
line-back command.Bye _ = refl
