-- Worked decks, computed: peripheral and absolute decks, and a link.
use Rattle.std.proofs.Common.{◌≡◌, ℕ, List, [], ◌∷◌, refl, codes}
use Rattle.definitions.{specs.Answer.answer_of, proofs.WorkedText.text}

-- a peripheral deck
abbrev peripheral_program : List ℕ
peripheral_program = text (
    codes "          IDENT  T"
    ∷ codes "          PERIPH"
    ∷ codes "          ORG    200B"
    ∷ codes "          LDN    5"
    ∷ codes "          LDC    123456B"
    ∷ codes "          SHN    -6"
    ∷ codes "          UJN    *-1"
    ∷ [])

pub peripheral_program-output : (answer_of peripheral_program).output ≡ text (
    codes "DECK T PERIPH"
    ∷ codes "00001           IDENT  T"
    ∷ codes "00002           PERIPH"
    ∷ codes "00003           ORG    200B"
    ∷ codes "00004           LDN    5"
    ∷ codes "  0200 1405"
    ∷ codes "00005           LDC    123456B"
    ∷ codes "  0201 2012"
    ∷ codes "  0202 3456"
    ∷ codes "00006           SHN    -6"
    ∷ codes "  0203 1071"
    ∷ codes "00007           UJN    *-1"
    ∷ codes "  0204 0376"
    ∷ codes "BLOCK 0 00000000 00000205"
    ∷ codes "ERRORS 0"
    ∷ codes "MAP"
    ∷ codes "DECK T PERIPH 000000 00000205"
    ∷ codes "END"
    ∷ codes "DECK T PERIPH 000000"
    ∷ codes "0200 1405"
    ∷ codes "0201 2012"
    ∷ codes "0202 3456"
    ∷ codes "0203 1071"
    ∷ codes "0204 0376"
    ∷ codes "END"
    ∷ [])
peripheral_program-output = refl

pub peripheral_program-status : (answer_of peripheral_program).status ≡ 0
peripheral_program-status = refl

-- peripheral data
abbrev peripheral_data : List ℕ
peripheral_data = text (
    codes "          IDENT  T"
    ∷ codes "          PERIPH"
    ∷ codes "          LDM    100B,3"
    ∷ codes "          UJN    5"
    ∷ codes "          DIS    2,ABCD"
    ∷ codes "          DATA   -1"
    ∷ codes "          VFD    6/1,12/7"
    ∷ codes "          CON    10000B"
    ∷ [])

pub peripheral_data-output : (answer_of peripheral_data).output ≡ text (
    codes "DECK T PERIPH"
    ∷ codes "00001           IDENT  T"
    ∷ codes "00002           PERIPH"
    ∷ codes "00003           LDM    100B,3"
    ∷ codes "  0000 5003"
    ∷ codes "  0001 0100"
    ∷ codes "00004           UJN    5"
    ∷ codes "  0002 0305"
    ∷ codes "00005           DIS    2,ABCD"
    ∷ codes "  0003 0102"
    ∷ codes "  0004 0304"
    ∷ codes "00006           DATA   -1"
    ∷ codes "  0005 7776"
    ∷ codes "00007           VFD    6/1,12/7"
    ∷ codes "  0006 0100"
    ∷ codes "  0007 0700"
    ∷ codes "00008           CON    10000B"
    ∷ codes "  ERR A"
    ∷ codes "  0010 0000"
    ∷ codes "BLOCK 0 00000000 00000011"
    ∷ codes "ERRORS 1"
    ∷ codes "MAP"
    ∷ codes "DECK T PERIPH 000000 00000011"
    ∷ codes "END"
    ∷ codes "DECK T PERIPH 000000"
    ∷ codes "0000 5003"
    ∷ codes "0001 0100"
    ∷ codes "0002 0305"
    ∷ codes "0003 0102"
    ∷ codes "0004 0304"
    ∷ codes "0005 7776"
    ∷ codes "0006 0100"
    ∷ codes "0007 0700"
    ∷ codes "0010 0000"
    ∷ codes "END"
    ∷ [])
peripheral_data-output = refl

pub peripheral_data-status : (answer_of peripheral_data).status ≡ 1
peripheral_data-status = refl

-- the two counters of an absolute deck
abbrev absolute_counters : List ℕ
absolute_counters = text (
    codes "          IDENT  T"
    ∷ codes "          ABS"
    ∷ codes "          ORG    110B"
    ∷ codes "          LOC    5"
    ∷ codes "L         CON    L,*O"
    ∷ [])

pub absolute_counters-output : (answer_of absolute_counters).output ≡ text (
    codes "DECK T ABS"
    ∷ codes "00001           IDENT  T"
    ∷ codes "00002           ABS"
    ∷ codes "00003           ORG    110B"
    ∷ codes "00004           LOC    5"
    ∷ codes "00005 L         CON    L,*O"
    ∷ codes "  000110 0 00000000000000000005"
    ∷ codes "  000111 0 00000000000000000110"
    ∷ codes "BLOCK 0 00000000 00000112"
    ∷ codes "ERRORS 0"
    ∷ codes "MAP"
    ∷ codes "DECK T ABS 000000 00000112"
    ∷ codes "END"
    ∷ codes "DECK T ABS 000000"
    ∷ codes "000110 00000000000000000005"
    ∷ codes "000111 00000000000000000110"
    ∷ codes "END"
    ∷ [])
absolute_counters-output = refl

pub absolute_counters-status : (answer_of absolute_counters).status ≡ 0
absolute_counters-status = refl

-- a link of three decks
abbrev three_decks : List ℕ
three_decks = text (
    codes "          IDENT  P"
    ∷ codes "          ENTRY  S"
    ∷ codes "          BX6    X1"
    ∷ codes "S         DATA   7"
    ∷ codes "          IDENT  Q"
    ∷ codes "          EXT    S"
    ∷ codes "          SA1    S+2"
    ∷ codes "          IDENT  R"
    ∷ codes "          ENTRY  S"
    ∷ codes "S         DATA   9"
    ∷ codes "          EXT    T"
    ∷ codes "          SA2    T"
    ∷ [])

pub three_decks-output : (answer_of three_decks).output ≡ text (
    codes "DECK P REL"
    ∷ codes "00001           IDENT  P"
    ∷ codes "00002           ENTRY  S"
    ∷ codes "00003           BX6    X1"
    ∷ codes "  000000 0 10611"
    ∷ codes "00004 S         DATA   7"
    ∷ codes "  000001 0 00000000000000000007"
    ∷ codes "BLOCK 0 00000000 00000002"
    ∷ codes "ERRORS 0"
    ∷ codes "DECK Q REL"
    ∷ codes "00001           IDENT  Q"
    ∷ codes "00002           EXT    S"
    ∷ codes "00003           SA1    S+2"
    ∷ codes "  000000 0 5110000002"
    ∷ codes "BLOCK 0 00000000 00000001"
    ∷ codes "ERRORS 0"
    ∷ codes "DECK R REL"
    ∷ codes "00001           IDENT  R"
    ∷ codes "00002           ENTRY  S"
    ∷ codes "00003 S         DATA   9"
    ∷ codes "  000000 0 00000000000000000011"
    ∷ codes "00004           EXT    T"
    ∷ codes "00005           SA2    T"
    ∷ codes "  000001 0 5120000000"
    ∷ codes "BLOCK 0 00000000 00000002"
    ∷ codes "ERRORS 0"
    ∷ codes "MAP"
    ∷ codes "DECK P REL 000100 00000002"
    ∷ codes "DECK Q REL 000102 00000001"
    ∷ codes "DECK R REL 000103 00000002"
    ∷ codes "ENTRY S P 00000000000000000101"
    ∷ codes "LINK D R S"
    ∷ codes "LINK U R T"
    ∷ codes "END"
    ∷ codes "DECK P REL 000100"
    ∷ codes "000100 10611460004600046000"
    ∷ codes "000101 00000000000000000007"
    ∷ codes "DECK Q REL 000102"
    ∷ codes "000102 51100001034600046000"
    ∷ codes "DECK R REL 000103"
    ∷ codes "000103 00000000000000000011"
    ∷ codes "000104 51200000004600046000"
    ∷ codes "END"
    ∷ [])
three_decks-output = refl

pub three_decks-status : (answer_of three_decks).status ≡ 1
three_decks-status = refl
