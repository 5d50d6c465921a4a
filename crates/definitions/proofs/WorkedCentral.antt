-- Worked decks, computed: central decks with their listing, map, image and status.
use Rattle.std.proofs.Common.{◌≡◌, ℕ, List, [], ◌∷◌, refl, codes}
use Rattle.definitions.{specs.Answer.answer_of, proofs.WorkedText.text}

-- one central deck
abbrev bare_deck : List ℕ
bare_deck = text (
    codes "          IDENT  T"
    ∷ codes "          SB1    1"
    ∷ codes "          BX6    X1"
    ∷ codes "          END"
    ∷ [])

pub bare_deck-output : (answer_of bare_deck).output ≡ text (
    codes "DECK T REL"
    ∷ codes "00001           IDENT  T"
    ∷ codes "00002           SB1    1"
    ∷ codes "  000000 0 6110000001"
    ∷ codes "00003           BX6    X1"
    ∷ codes "  000000 2 10611"
    ∷ codes "00004           END"
    ∷ codes "BLOCK 0 00000000 00000001"
    ∷ codes "ERRORS 0"
    ∷ codes "MAP"
    ∷ codes "DECK T REL 000100 00000001"
    ∷ codes "END"
    ∷ codes "DECK T REL 000100"
    ∷ codes "000100 61100000011061146000"
    ∷ codes "END"
    ∷ [])
bare_deck-output = refl

pub bare_deck-status : (answer_of bare_deck).status ≡ 0
bare_deck-status = refl

-- instructions behind jumps, with `+` and `-`
abbrev jumps_ask_for_upper : List ℕ
jumps_ask_for_upper = text (
    codes "          IDENT  T"
    ∷ codes "          EQ     100B"
    ∷ codes "          BX6    X1"
    ∷ codes "+         BX7    X1"
    ∷ codes "          EQ     100B"
    ∷ codes "-         BX1    X2"
    ∷ codes "L         BX6    X1"
    ∷ [])

pub jumps_ask_for_upper-output : (answer_of jumps_ask_for_upper).output ≡ text (
    codes "DECK T REL"
    ∷ codes "00001           IDENT  T"
    ∷ codes "00002           EQ     100B"
    ∷ codes "  000000 0 0400000100"
    ∷ codes "00003           BX6    X1"
    ∷ codes "  000001 0 10611"
    ∷ codes "00004 +         BX7    X1"
    ∷ codes "  000002 0 10711"
    ∷ codes "00005           EQ     100B"
    ∷ codes "  000002 1 0400000100"
    ∷ codes "00006 -         BX1    X2"
    ∷ codes "  000002 3 10122"
    ∷ codes "00007 L         BX6    X1"
    ∷ codes "  000003 0 10611"
    ∷ codes "BLOCK 0 00000000 00000004"
    ∷ codes "ERRORS 0"
    ∷ codes "MAP"
    ∷ codes "DECK T REL 000100 00000004"
    ∷ codes "END"
    ∷ codes "DECK T REL 000100"
    ∷ codes "000100 04000001004600046000"
    ∷ codes "000101 10611460004600046000"
    ∷ codes "000102 10711040000010010122"
    ∷ codes "000103 10611460004600046000"
    ∷ codes "END"
    ∷ [])
jumps_ask_for_upper-output = refl

pub jumps_ask_for_upper-status : (answer_of jumps_ask_for_upper).status ≡ 0
jumps_ask_for_upper-status = refl

-- a listing with letters
abbrev letters : List ℕ
letters = text (
    codes "          IDENT  T"
    ∷ codes "X         EQU    1"
    ∷ codes "X         EQU    2"
    ∷ codes "          SB1    X+Y"
    ∷ codes "          FOO    1"
    ∷ codes "          BX6    B1"
    ∷ codes "          SB1    1/0"
    ∷ codes "A1        BX6    X1"
    ∷ [])

pub letters-output : (answer_of letters).output ≡ text (
    codes "DECK T REL"
    ∷ codes "00001           IDENT  T"
    ∷ codes "00002 X         EQU    1"
    ∷ codes "00003 X         EQU    2"
    ∷ codes "  ERR D"
    ∷ codes "00004           SB1    X+Y"
    ∷ codes "  ERR U"
    ∷ codes "  000000 0 6110000000"
    ∷ codes "00005           FOO    1"
    ∷ codes "  ERR O"
    ∷ codes "00006           BX6    B1"
    ∷ codes "  ERR V"
    ∷ codes "00007           SB1    1/0"
    ∷ codes "  ERR Z"
    ∷ codes "  000000 2 6110000000"
    ∷ codes "00008 A1        BX6    X1"
    ∷ codes "  ERR L"
    ∷ codes "  000001 0 10611"
    ∷ codes "BLOCK 0 00000000 00000002"
    ∷ codes "ERRORS 6"
    ∷ codes "MAP"
    ∷ codes "DECK T REL 000100 00000002"
    ∷ codes "END"
    ∷ codes "DECK T REL 000100"
    ∷ codes "000100 61100000006110000000"
    ∷ codes "000101 10611460004600046000"
    ∷ codes "END"
    ∷ [])
letters-output = refl

pub letters-status : (answer_of letters).status ≡ 1
letters-status = refl

-- the five ways of an item, and negative data
abbrev data_items : List ℕ
data_items = text (
    codes "          IDENT  T"
    ∷ codes "          DATA   5HABCDE,3RABC,-1,10CABCDEFGHIJ"
    ∷ [])

pub data_items-output : (answer_of data_items).output ≡ text (
    codes "DECK T REL"
    ∷ codes "00001           IDENT  T"
    ∷ codes "00002           DATA   5HABCDE,3RABC,-1,10CABCDEFGHIJ"
    ∷ codes "  000000 0 01020304055555555555"
    ∷ codes "  000001 0 00000000000000010203"
    ∷ codes "  000002 0 77777777777777777776"
    ∷ codes "  000003 0 01020304050607101112"
    ∷ codes "  000004 0 00000000000000000000"
    ∷ codes "BLOCK 0 00000000 00000005"
    ∷ codes "ERRORS 0"
    ∷ codes "MAP"
    ∷ codes "DECK T REL 000100 00000005"
    ∷ codes "END"
    ∷ codes "DECK T REL 000100"
    ∷ codes "000100 01020304055555555555"
    ∷ codes "000101 00000000000000010203"
    ∷ codes "000102 77777777777777777776"
    ∷ codes "000103 01020304050607101112"
    ∷ codes "000104 00000000000000000000"
    ∷ codes "END"
    ∷ [])
data_items-output = refl

pub data_items-status : (answer_of data_items).status ≡ 0
data_items-status = refl

-- the stack of blocks
abbrev block_stack : List ℕ
block_stack = text (
    codes "          IDENT  T"
    ∷ codes "          DATA   1"
    ∷ codes "          USE    B"
    ∷ codes "          DATA   2"
    ∷ codes "          USE    C"
    ∷ codes "          DATA   3"
    ∷ codes "          USE    *"
    ∷ codes "          DATA   4"
    ∷ codes "          USE    *"
    ∷ codes "          DATA   5"
    ∷ codes "          USE    *"
    ∷ codes "          DATA   6"
    ∷ [])

pub block_stack-output : (answer_of block_stack).output ≡ text (
    codes "DECK T REL"
    ∷ codes "00001           IDENT  T"
    ∷ codes "00002           DATA   1"
    ∷ codes "  000000 0 00000000000000000001"
    ∷ codes "00003           USE    B"
    ∷ codes "00004           DATA   2"
    ∷ codes "  000000 0 00000000000000000002"
    ∷ codes "00005           USE    C"
    ∷ codes "00006           DATA   3"
    ∷ codes "  000000 0 00000000000000000003"
    ∷ codes "00007           USE    *"
    ∷ codes "00008           DATA   4"
    ∷ codes "  000001 0 00000000000000000004"
    ∷ codes "00009           USE    *"
    ∷ codes "00010           DATA   5"
    ∷ codes "  000001 0 00000000000000000005"
    ∷ codes "00011           USE    *"
    ∷ codes "00012           DATA   6"
    ∷ codes "  000002 0 00000000000000000006"
    ∷ codes "BLOCK 0 00000000 00000003"
    ∷ codes "BLOCK B 00000003 00000002"
    ∷ codes "BLOCK C 00000005 00000001"
    ∷ codes "ERRORS 0"
    ∷ codes "MAP"
    ∷ codes "DECK T REL 000100 00000006"
    ∷ codes "END"
    ∷ codes "DECK T REL 000100"
    ∷ codes "000100 00000000000000000001"
    ∷ codes "000101 00000000000000000005"
    ∷ codes "000102 00000000000000000006"
    ∷ codes "000103 00000000000000000002"
    ∷ codes "000104 00000000000000000004"
    ∷ codes "000105 00000000000000000003"
    ∷ codes "END"
    ∷ [])
block_stack-output = refl

pub block_stack-status : (answer_of block_stack).status ≡ 0
block_stack-status = refl

-- literals stand last
abbrev literals : List ℕ
literals = text (
    codes "          IDENT  T"
    ∷ codes "          SA1    =1"
    ∷ codes "          USE    B"
    ∷ codes "          SA2    =2"
    ∷ codes "          SA3    =1B"
    ∷ [])

pub literals-output : (answer_of literals).output ≡ text (
    codes "DECK T REL"
    ∷ codes "00001           IDENT  T"
    ∷ codes "00002           SA1    =1"
    ∷ codes "  000000 0 5110000002"
    ∷ codes "00003           USE    B"
    ∷ codes "00004           SA2    =2"
    ∷ codes "  000000 0 5120000003"
    ∷ codes "00005           SA3    =1B"
    ∷ codes "  000000 2 5130000002"
    ∷ codes "BLOCK 0 00000000 00000001"
    ∷ codes "BLOCK B 00000001 00000001"
    ∷ codes "BLOCK = 00000002 00000002"
    ∷ codes "ERRORS 0"
    ∷ codes "MAP"
    ∷ codes "DECK T REL 000100 00000004"
    ∷ codes "END"
    ∷ codes "DECK T REL 000100"
    ∷ codes "000100 51100001024600046000"
    ∷ codes "000101 51200001035130000102"
    ∷ codes "000102 00000000000000000001"
    ∷ codes "000103 00000000000000000002"
    ∷ codes "END"
    ∷ [])
literals-output = refl

pub literals-status : (answer_of literals).status ≡ 0
literals-status = refl

-- a later run over a word
abbrev origin_over_a_word : List ℕ
origin_over_a_word = text (
    codes "          IDENT  T"
    ∷ codes "A         DATA   1"
    ∷ codes "          DATA   2"
    ∷ codes "          ORG    A"
    ∷ codes "          DATA   3"
    ∷ [])

pub origin_over_a_word-output : (answer_of origin_over_a_word).output ≡ text (
    codes "DECK T REL"
    ∷ codes "00001           IDENT  T"
    ∷ codes "00002 A         DATA   1"
    ∷ codes "  000000 0 00000000000000000001"
    ∷ codes "00003           DATA   2"
    ∷ codes "  000001 0 00000000000000000002"
    ∷ codes "00004           ORG    A"
    ∷ codes "00005           DATA   3"
    ∷ codes "  000000 0 00000000000000000003"
    ∷ codes "BLOCK 0 00000000 00000002"
    ∷ codes "ERRORS 0"
    ∷ codes "MAP"
    ∷ codes "DECK T REL 000100 00000002"
    ∷ codes "END"
    ∷ codes "DECK T REL 000100"
    ∷ codes "000100 00000000000000000003"
    ∷ codes "000101 00000000000000000002"
    ∷ codes "END"
    ∷ [])
origin_over_a_word-output = refl

pub origin_over_a_word-status : (answer_of origin_over_a_word).status ≡ 0
origin_over_a_word-status = refl
