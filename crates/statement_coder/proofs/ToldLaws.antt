-- What is listed of fields: behind the old end of a list stand the fields of an operand, and their letters.
use Rattle.std.proofs.{Common.{◌≡◌, ◌∙◌, ℕ, ◌-◌, ◌*◌, ◌/◌, ◌^◌, ◌<◌, ◌≤◌, Bool, true, false, List, [], ◌∷◌, ◌++◌, length, map, flat_map, drop, refl, ap, ap₂, sym, subst, arith, append-nil, if◌then◌else◌}, lemmas.List.{drop-map, drop_at, length-map}, lemmas.List.Concat.flat_map-append}
use Rattle.definitions.{specs.Forms.characters_number, specs.Kinds.word_bits, specs.Letters.in_order, specs.Operands.{Operand, WordsOperand, TextOperand}, specs.StatementItems.{Item, Content, Known, Linked, known}, specs.Words.cut, specs.declared.deck_kind.DeckKind.DeckKind, specs.declared.letter.Letter.Letter, proofs.LiteralLaws.characters_number-below}
use Rattle.definitions.specs.Operands as operands
use Rattle.expr_forms.proofs.CodedLaws.{word_bits-characters}
use Rattle.statement_coder.{specs.Joins.Items.item_as, specs.Joins.CodedItems.{IsKept, AreCoded, AreListed, AreTold}, specs.Joins.FieldLetters.field_letters, specs.Joins.WordItems.{is_several, known_words, words_of, in_words, listed_fields}, specs.declared.coded.{Coded.Coded, CodedItems.CodedItems}, specs.declared.sizing.Sizing.Sizing, proofs.ListLaws.kept-length, proofs.DatumLaws.word_bits-some, proofs.WordItemLaws.in_words-known}
use Rattle.statement_coder.specs.declared.items.Item as code
use Rattle.statement_coder.specs.declared.coded.CodedItems.TheVariants as items

-- the words of a DIS are its field word by word
pub text-words : (kind : DeckKind) (words : ℕ) (cs : List ℕ) → 1 ≤ words → length cs ≡ words * (word_bits kind / 6) →
    known_words (word_bits kind) (cut (word_bits kind) words (characters_number cs)) ≡ in_words (word_bits kind) (known (words * word_bits kind) (characters_number cs)) ++ []
text-words kind words cs some whole =
    let bits : 6 * length cs ≡ words * word_bits kind =
    ap (λ n. 6 * n) whole ∙ (let e : 6 * (words * (word_bits kind / 6)) ≡ words * (6 * (word_bits kind / 6)) = omega arith in e) ∙ ap (λ n. words * n) (sym (word_bits-characters kind)) in
    let fits : characters_number cs < 2 ^ (words * word_bits kind) = let b = characters_number-below cs in rw bits at b in
    sym (append-nil (in_words (word_bits kind) (known (words * word_bits kind) (characters_number cs))) ∙ in_words-known (word_bits kind) words (characters_number cs) (word_bits-some kind) some fits)

-- words of known bits have no letters
letters-known_words : (word : ℕ) (words : List ℕ) → field_letters (known_words word words) ≡ []
letters-known_words word [] = refl
letters-known_words word (n ∷ words) = letters-known_words word words

letters-cond : (b : Bool) (xs ys : List Item) (letters : List Letter) → field_letters xs ≡ letters → field_letters ys ≡ letters → field_letters (if b then xs else ys) ≡ letters
letters-cond true xs ys letters e f = e
letters-cond false xs ys letters e f = f

letters-words_of : (word : ℕ) (field : Item) (letters : List Letter) (content : Content) → field.letters ≡ letters → field_letters (words_of word field letters content) ≡ letters
letters-words_of word field [] (Known bits) e =
    letters-cond (is_several word field.width bits) (known_words word (cut word (field.width / word) bits)) (field ∷ []) []
    (letters-known_words word (cut word (field.width / word) bits)) (append-nil field.letters ∙ e)
letters-words_of word field [] (Linked form) e = append-nil field.letters ∙ e
letters-words_of word field (letter ∷ letters) content e = append-nil field.letters ∙ e

-- fields listed word by word have the letters of the fields
letters-in_words : (word : ℕ) (fields : List Item) → field_letters (flat_map (in_words word) fields) ≡ field_letters fields
letters-in_words word [] = refl
letters-in_words word (field ∷ fields) =
    flat_map-append (λ (bits : Item). bits.letters) (in_words word field) (flat_map (in_words word) fields)
    ∙ ap₂ (λ (xs ys : List Letter). xs ++ ys) (letters-words_of word field field.letters field.content refl) (letters-in_words word fields)

pub letters-listed : (kind : DeckKind) (operand : Operand) (fields : List Item) → field_letters (listed_fields kind operand fields) ≡ field_letters fields
letters-listed kind (WordsOperand data') fields = letters-in_words (word_bits kind) fields
letters-listed kind (TextOperand count characters) fields = letters-in_words (word_bits kind) fields
letters-listed kind operands.Unread fields = refl
letters-listed kind operands.BadOperand fields = refl
letters-listed kind (operands.CentralOperand instruction) fields = refl
letters-listed kind (operands.PeripheralOperand row values) fields = refl
letters-listed kind (operands.BitsOperand bits) fields = refl
letters-listed kind (operands.ValueOperand e) fields = refl
letters-listed kind (operands.NamesOperand names) fields = refl
letters-listed kind (operands.UseName name) fields = refl
letters-listed kind operands.UseBefore fields = refl
letters-listed kind operands.UseRefused fields = refl

-- what is coded of fields that were put behind a list
pub listed-coded : (kind : DeckKind) (operand : Operand) (sizing : Sizing) (coded : Coded) (size : ℕ) (before after : List code.Item) (fields : List Item) →
    coded.items ≡ items.Listed (length after - size) → coded.letters ≡ in_order (field_letters (map item_as (drop size after))) → size ≡ length before → IsKept before after →
    map item_as after ≡ map item_as before ++ listed_fields kind operand fields → AreCoded kind operand sizing coded before after fields
listed-coded kind operand sizing coded size before after fields e flagged s kept pushed = (
  subst (λ (t : CodedItems). AreTold kind operand sizing t before after fields) (sym e) listed,
  flagged ∙ ap (λ (n : ℕ). in_order (field_letters (map item_as (drop n after)))) s ∙ ap (λ (l : List Item). in_order (field_letters l)) listed.told ∙ ap in_order (letters-listed kind operand fields),
)
  where
    listed : AreListed kind operand (length after - size) before after fields
    listed = record {
      kept = kept;
      size = let long = kept-length before after kept in omega arith;
      told = sym (drop-map item_as (length before) after) ∙ ap (drop (length before)) pushed
          ∙ drop_at (map item_as before) (listed_fields kind operand fields) (length before) (length-map before item_as);
    }
