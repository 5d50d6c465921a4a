-- Parts of texts: how long they are together, that each fits in a room, and what of them went out.
use Rattle.std.{proofs.Common.{ℕ, ◌≡◌, ◌+◌, ◌<◌, ◌≤◌, ◌^◌, zero, suc, List, [], ◌∷◌, ◌++◌, length, take, drop, get_or, sym, ap, ap₂, subst, ◌∙◌, arith, length-append, take-append-drop}, specs.Prelude.{Err, IfErr, Ok, Option, Result, Some, Vec, flat_map, map}, specs.List.AllZip, proofs.lemmas.Grind.flat_map-append, proofs.lemmas.List.{at_drop_more, take_more}, proofs.lemmas.Option.slice_get-get_or, proofs.lemmas.Slice.Zip.AllZip-long}
use Rattle.definitions.specs.{Build.build_of, DeckInput.Deck, Layout.{Based, Layout, layout_of}, LinkValues.linking_of, Objects.object_of}
use Rattle.text_ports.{proofs.SendSteps.texts-more, specs.Joins.Sending.Sends, specs.declared.writing.Broken.Broken}
use Rattle.deck_listing.{proofs.BlockSteps.zip-at, specs.Joins.BlockWords.{AreBlockWords, AreWordsOf}, specs.Joins.Sheets.{room_of, text_of}, specs.ListedObjects.lines_in}
use Rattle.parcel_packer.specs.declared.word_spans.WordSpan.{WordSpan}
use Rattle.deck_linker.specs.{Joins.CommonWords.AreCommonWords, Joins.InPieces.{AreDeckWords, AreLinked, DoFit, IsListing, deck_text, end_text}, Publishing.{listings, map_of}, Joins.Sections.deck_section}

module _ {A : Type 0} (text : A → List ℕ) where
  -- more room
  pub fit-weaker : (old new : ℕ) (xs : List A) → old ≤ new → DoFit text old xs → DoFit text new xs
  fit-weaker old new [] grows fit = tt
  fit-weaker old new (x ∷ xs) grows fit = (omega (arith, fit.0, grows), fit-weaker old new xs grows fit.1)

  -- one more at the end
  fit-append : (room : ℕ) (xs : List A) (x : A) → DoFit text room xs → length (text x) ≤ room → DoFit text room (xs ++ x ∷ [])
  fit-append room [] x fit fits = (fits, tt)
  fit-append room (y ∷ ys) x fit fits = (fit.0, fit-append room ys x fit.1 fits)

  -- those so far, and this one
  pub fit-more : (xs : List A) (i : ℕ) (x : A) (old new : ℕ) → i < length xs → x ≡ get_or xs i x → DoFit text old (take i xs) → old ≤ new → length (text x) ≤ new → DoFit text new (take (i + 1) xs)
  fit-more xs i x old new inside is fit grows fits =
      subst (DoFit text new) (sym (take_more xs i x inside ∙ ap (λ (y : A). take i xs ++ y ∷ []) (sym is)))
      (fit-append new (take i xs) x (fit-weaker old new (take i xs) grows fit) fits)

  -- one of those that fit
  pub fit-at : (room : ℕ) (xs : List A) (i : ℕ) (x : A) → i < length xs → x ≡ get_or xs i x → DoFit text room xs → length (text x) ≤ room
  fit-at room [] i x inside is fit = absurd (omega (arith, inside))
  fit-at room (y ∷ ys) zero x inside is fit = subst (λ (z : A). length (text z) ≤ room) (sym is) fit.0
  fit-at room (y ∷ ys) (suc i) x inside is fit = fit-at room ys i x (omega (arith, inside)) is fit.1

  -- how long the texts are that are left: this one, and those behind it
  pub left-split : (xs : List A) (i : ℕ) (x : A) → i < length xs → x ≡ get_or xs i x →
      length (flat_map text (drop i xs)) ≡ length (text x) + length (flat_map text (drop (i + 1) xs))
  left-split xs i x inside is =
      at_drop_more (λ (l : List A). length (flat_map text l)) xs i x inside
      ∙ ap (λ (y : A). length (text y ++ flat_map text (drop (i + 1) xs))) (sym is)
      ∙ length-append (text x) (flat_map text (drop (i + 1) xs))

  -- how many bytes went out with it
  pub sent-more : (xs : List A) (i sent : ℕ) (x : A) → i < length xs → x ≡ get_or xs i x → sent ≡ length (flat_map text (take i xs)) → sent + length (text x) ≡ length (flat_map text (take (i + 1) xs))
  sent-more xs i sent x inside is count =
      ap (λ (n : ℕ). n + length (text x)) count
      ∙ sym (length-append (flat_map text (take i xs)) (text x))
      ∙ ap length (sym (texts-more text xs i x inside is))

  -- the first texts have no more bytes than all
  pub sent-within : (n : ℕ) (xs : List A) → length (flat_map text (take n xs)) ≤ length (flat_map text xs)
  sent-within n xs =
      let whole : flat_map text xs ≡ flat_map text (take n xs) ++ flat_map text (drop n xs) =
      ap (flat_map text) (sym (take-append-drop n xs)) ∙ flat_map-append text (take n xs) (drop n xs) in
      omega (arith, ap length whole, length-append (flat_map text (take n xs)) (flat_map text (drop n xs)))

-- what was sent of a text before a fault is no more than it has
pub sent-few : {T : Type 0} (old new : Option (List ℕ)) (text : List ℕ) (result : Result T Broken) → length text < 2 ^ 63 → Sends old new text result → IfErr result (λ broken. broken.sent < 2 ^ 63)
sent-few old new text (Ok done) few sends = tt
sent-few old new text (Err broken) few sends = omega (arith, few, sends.0)

-- the text of a build is that of its parts
pub parts-whole : (decks : List Deck) (layout : Layout) (mapped : List ℕ) → layout ≡ layout_of (map object_of decks) → mapped ≡ map_of decks →
    (build_of decks).text ≡ (listings decks ++ mapped) ++ (flat_map (deck_section layout) layout.decks ++ end_text layout)
parts-whole decks layout mapped linked maps =
    ap₂ (λ (l : Layout) (m : List ℕ). (listings decks ++ m) ++ (flat_map (deck_section l) l.decks ++ end_text l)) (sym linked) (sym maps)

-- how long it is
pub parts-long : (decks : List Deck) (layout : Layout) (mapped : List ℕ) → layout ≡ layout_of (map object_of decks) → mapped ≡ map_of decks →
    length (build_of decks).text ≡ (length (listings decks) + length mapped) + (length (flat_map (deck_section layout) layout.decks) + length (end_text layout))
parts-long decks layout mapped linked maps =
    let sections = flat_map (deck_section layout) layout.decks in
    ap length (parts-whole decks layout mapped linked maps)
    ∙ length-append (listings decks ++ mapped) (sections ++ end_text layout)
    ∙ ap₂ (λ (a b : ℕ). a + b) (length-append (listings decks) mapped) (length-append sections (end_text layout))

-- a clear sheet to which a text was put
module _ (old start after text : List ℕ) (clear : old ≡ room_of old ∷ []) (same : start ≡ old) (put : after ≡ start ++ text) where
  on-clear : after ≡ room_of old ∷ text
  on-clear = put ∙ ap (λ (l : List ℕ). l ++ text) (same ∙ clear)

  pub clear-fits : length text ≤ room_of old → length (text_of after) ≤ room_of after
  clear-fits fits = subst (λ (s : List ℕ). length (text_of s) ≤ room_of s) (sym on-clear) fits

  pub clear-text : text_of after ≡ text
  clear-text = ap text_of on-clear

  pub clear-again : (new : List ℕ) → new ≡ room_of after ∷ [] → new ≡ old
  clear-again new cleared = cleared ∙ ap (λ (s : List ℕ). room_of s ∷ []) on-clear ∙ sym clear

-- the words of one of some decks
module _ {X Y : Type 0} (layout : Layout) (decks : List Based) (words : List (Vec (Vec WordSpan X) Y)) (all : AllZip (AreDeckWords layout) decks words) where
  pub words-within : (i : ℕ) → i < length decks → i < length words
  words-within i inside = let same = AllZip-long (AreDeckWords layout) decks words all in omega (arith, inside, same)

  pub words-at : (i : ℕ) (based : Based) (blocks : Vec (Vec WordSpan X) Y) (slice : List (Vec WordSpan X)) → i < length decks → based ≡ get_or decks i based → blocks ≡ get_or words i blocks →
      slice ≡ blocks.items → AreBlockWords (linking_of layout based) based.object slice
  words-at i based blocks slice inside is are same =
      subst (AreBlockWords (linking_of layout based) based.object) (sym same)
      (zip-at (AreDeckWords layout) decks words i based blocks all (slice_get-get_or decks i based inside ∙ ap Some (sym is)) (slice_get-get_or words i blocks (words-within i inside) ∙ ap Some (sym are)))

  pub rows-long : (i : ℕ) (based : Based) (blocks : Vec (Vec WordSpan X) Y) (slice : List (Vec WordSpan X)) → i < length decks → based ≡ get_or decks i based → blocks ≡ get_or words i blocks →
      slice ≡ blocks.items → length slice ≡ length based.object.rows
  rows-long i based blocks slice inside is are same =
      AllZip-long (AreWordsOf (linking_of layout based) based.object) based.object.rows slice (words-at i based blocks slice inside is are same)

-- all is there that the texts of decks are made of
pub linked-parts : {X Y Z : Type 0} (decks : List Deck) (layout : Layout) (words : List (Vec (Vec WordSpan X) Y)) (commons : List (Vec WordSpan Z)) (mapped sheet : List ℕ) (errors links all front most : ℕ) →
    layout ≡ layout_of (map object_of decks) → AllZip (AreDeckWords layout) layout.decks words → AreCommonWords layout commons → mapped ≡ map_of decks → errors ≡ (build_of decks).errors → links ≡ (build_of decks).links →
    DoFit deck_text front decks → front ≤ most → DoFit (deck_section layout) most layout.decks → length (end_text layout) ≤ most → sheet ≡ most ∷ [] → all ≡ length (listings decks) →
    all + (length (flat_map (deck_section layout) layout.decks) + (length (end_text layout) + length mapped)) < 2 ^ 63 → AreLinked decks layout words commons mapped sheet errors links
linked-parts decks layout words commons mapped sheet errors links all front most linked words_are commons_are maps errors_are links_are fit grows sections end clear whole few =
    let room : most ≡ room_of sheet = ap room_of (sym clear) in
    let long = parts-long decks layout mapped linked maps in
    record {
      layout_is = linked;
      words_are = words_are;
      commons_are = commons_are;
      map_is = maps;
      listings_fit = subst (λ (n : ℕ). DoFit deck_text n decks) room (fit-weaker deck_text front most decks grows fit);
      sections_fit = subst (λ (n : ℕ). DoFit (deck_section layout) n layout.decks) room sections;
      end_fits = subst (λ (n : ℕ). length (end_text layout) ≤ n) room end;
      clear = clear ∙ ap (λ (n : ℕ). n ∷ []) room;
      few = omega (arith, long, whole, few);
      errors_are = errors_are;
      links_are = links_are;
    }

-- all is there that the listing of decks is made of
pub listing-parts : (decks given : List Deck) (lines room : ℕ) (mapped sheet : List ℕ) → decks ≡ given → lines ≡ lines_in (listings given ++ mapped) → mapped ≡ map_of given → DoFit deck_text room given → sheet ≡ room ∷ [] →
    length (listings given) + length mapped < 2 ^ 63 → IsListing decks lines mapped sheet
listing-parts decks given lines room mapped sheet same told maps fits clear few =
    let whole : room ≡ room_of sheet = sym (ap room_of clear) in
    subst (λ (ds : List Deck). IsListing ds lines mapped sheet) (sym same) (record {
      lines_are = told ∙ ap (λ (m : List ℕ). lines_in (listings given ++ m)) maps;
      map_is = maps;
      fit = subst (λ (n : ℕ). DoFit deck_text n given) whole fits;
      clear = clear ∙ ap (λ (n : ℕ). n ∷ []) whole;
      few = few;
    })
