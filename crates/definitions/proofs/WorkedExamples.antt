-- The decks of the folder `examples`, computed: NAME.deck with its whole output NAME.out.
use Rattle.std.{proofs.Common.{◌≡◌, ℕ, List, [], ◌∷◌, refl, codes}, specs.Prelude.{map, Option, Some, None}}
use Rattle.definitions.{specs.Answer.answer_of, proofs.WorkedText.text, specs.Statements.{Statement, statements_of}, specs.Fields.fields_of, specs.Pieces.{Plus, Equals, IsMark, Plain, pieces_of, subfields_of}, specs.Operations.{Instruction, operation_of}, specs.DeckKinds.kind_of_statements, specs.Matching.central_of, specs.Settled.Settled, specs.Settling.settled_all, specs.Literals.literal_words, specs.Lengths.block_rows, specs.declared.deck_kind.DeckKind.TheVariants.Abs, specs.declared.number_base.NumberBase.TheVariants.Decimal}
use Rattle.definitions.specs.Matching as M

-- the first deck of the README
abbrev first : List ℕ
first = text (
    codes "          IDENT  T"
    ∷ codes "          SB1    1"
    ∷ codes "          BX6    X1"
    ∷ codes "          END"
    ∷ [])

pub first-output : (answer_of first).output ≡ text (
    codes "DECK T REL"
    ∷ codes "00001           IDENT  T"
    ∷ codes "00002           SB1    1"
    ∷ codes "  000000 0 6110000001"
    ∷ codes "00003           BX6    X1"
    ∷ codes "  000000 2 10611"
    ∷ codes "00004           END"
    ∷ codes "BLOCK 0 00000000 00000001"
    ∷ codes "ERRORS 0"
    ∷ codes "MAP"
    ∷ codes "DECK T REL 000100 00000001"
    ∷ codes "END"
    ∷ codes "DECK T REL 000100"
    ∷ codes "000100 61100000011061146000"
    ∷ codes "END"
    ∷ [])
first-output = refl

pub first-status : (answer_of first).status ≡ 0
first-status = refl

-- a peripheral deck
abbrev peripheral : List ℕ
peripheral = text (
    codes "          IDENT  DSP"
    ∷ codes "          PERIPH"
    ∷ codes "*         A DEAD START PROGRAM, AS THE PANEL HAS IT FROM WORD 1 ON."
    ∷ codes "          ORG    1"
    ∷ codes "          DCN    53B"
    ∷ codes "          FNC    120B,13B"
    ∷ codes "          ACN    13B"
    ∷ codes "          IAM    7301B,13B"
    ∷ codes "*         CLEAR 77B WORDS FROM 1000B ON, THEN STAND STILL."
    ∷ codes "IX        EQU    20B"
    ∷ codes "          ORG    100B"
    ∷ codes "CLEAR     LDN    0"
    ∷ codes "          STD    IX"
    ∷ codes "LOOP      LDN    0"
    ∷ codes "          STM    1000B,IX"
    ∷ codes "          AOD    IX"
    ∷ codes "          SBN    77B"
    ∷ codes "          NJN    LOOP"
    ∷ codes "          UJN    *"
    ∷ codes "          END"
    ∷ [])

pub peripheral-output : (answer_of peripheral).output ≡ text (
    codes "DECK DSP PERIPH"
    ∷ codes "00001           IDENT  DSP"
    ∷ codes "00002           PERIPH"
    ∷ codes "00003 *         A DEAD START PROGRAM, AS THE PANEL HAS IT FROM WORD 1 ON."
    ∷ codes "00004           ORG    1"
    ∷ codes "00005           DCN    53B"
    ∷ codes "  0001 7553"
    ∷ codes "00006           FNC    120B,13B"
    ∷ codes "  0002 7713"
    ∷ codes "  0003 0120"
    ∷ codes "00007           ACN    13B"
    ∷ codes "  0004 7413"
    ∷ codes "00008           IAM    7301B,13B"
    ∷ codes "  0005 7113"
    ∷ codes "  0006 7301"
    ∷ codes "00009 *         CLEAR 77B WORDS FROM 1000B ON, THEN STAND STILL."
    ∷ codes "00010 IX        EQU    20B"
    ∷ codes "00011           ORG    100B"
    ∷ codes "00012 CLEAR     LDN    0"
    ∷ codes "  0100 1400"
    ∷ codes "00013           STD    IX"
    ∷ codes "  0101 3420"
    ∷ codes "00014 LOOP      LDN    0"
    ∷ codes "  0102 1400"
    ∷ codes "00015           STM    1000B,IX"
    ∷ codes "  0103 5420"
    ∷ codes "  0104 1000"
    ∷ codes "00016           AOD    IX"
    ∷ codes "  0105 3620"
    ∷ codes "00017           SBN    77B"
    ∷ codes "  0106 1777"
    ∷ codes "00018           NJN    LOOP"
    ∷ codes "  0107 0572"
    ∷ codes "00019           UJN    *"
    ∷ codes "  0110 0300"
    ∷ codes "00020           END"
    ∷ codes "BLOCK 0 00000000 00000111"
    ∷ codes "ERRORS 0"
    ∷ codes "MAP"
    ∷ codes "DECK DSP PERIPH 000000 00000111"
    ∷ codes "END"
    ∷ codes "DECK DSP PERIPH 000000"
    ∷ codes "0001 7553"
    ∷ codes "0002 7713"
    ∷ codes "0003 0120"
    ∷ codes "0004 7413"
    ∷ codes "0005 7113"
    ∷ codes "0006 7301"
    ∷ codes "0100 1400"
    ∷ codes "0101 3420"
    ∷ codes "0102 1400"
    ∷ codes "0103 5420"
    ∷ codes "0104 1000"
    ∷ codes "0105 3620"
    ∷ codes "0106 1777"
    ∷ codes "0107 0572"
    ∷ codes "0110 0300"
    ∷ codes "END"
    ∷ [])
peripheral-output = refl

pub peripheral-status : (answer_of peripheral).status ≡ 0
peripheral-status = refl

-- an absolute deck
abbrev absolute : List ℕ
absolute = text (
    codes "          IDENT  SUM"
    ∷ codes "          ABS"
    ∷ codes "          ENTRY  START"
    ∷ codes "*         TOTAL IS THE SUM OF THE WORDS OF TAB."
    ∷ codes "          ORG    110B"
    ∷ codes "START     SB1    1"
    ∷ codes "          SB2    N"
    ∷ codes "          SB3    B0"
    ∷ codes "          MX6    0"
    ∷ codes "LOOP      SA1    B3+TAB"
    ∷ codes "          SB3    B3+B1"
    ∷ codes "          IX6    X6+X1"
    ∷ codes "          LT     B3,B2,LOOP"
    ∷ codes "          SA6    TOTAL"
    ∷ codes "          PS"
    ∷ codes "TAB       DATA   1,2,3,4"
    ∷ codes "N         EQU    *-TAB"
    ∷ codes "TOTAL     BSS    1"
    ∷ codes "          END"
    ∷ [])

pub absolute-output : (answer_of absolute).output ≡ text (
    codes "DECK SUM ABS"
    ∷ codes "00001           IDENT  SUM"
    ∷ codes "00002           ABS"
    ∷ codes "00003           ENTRY  START"
    ∷ codes "00004 *         TOTAL IS THE SUM OF THE WORDS OF TAB."
    ∷ codes "00005           ORG    110B"
    ∷ codes "00006 START     SB1    1"
    ∷ codes "  000110 0 6110000001"
    ∷ codes "00007           SB2    N"
    ∷ codes "  000110 2 6120000004"
    ∷ codes "00008           SB3    B0"
    ∷ codes "  000111 0 66300"
    ∷ codes "00009           MX6    0"
    ∷ codes "  000111 1 43600"
    ∷ codes "00010 LOOP      SA1    B3+TAB"
    ∷ codes "  000112 0 5113000115"
    ∷ codes "00011           SB3    B3+B1"
    ∷ codes "  000112 2 66331"
    ∷ codes "00012           IX6    X6+X1"
    ∷ codes "  000112 3 36661"
    ∷ codes "00013           LT     B3,B2,LOOP"
    ∷ codes "  000113 0 0732000112"
    ∷ codes "00014           SA6    TOTAL"
    ∷ codes "  000113 2 5160000121"
    ∷ codes "00015           PS"
    ∷ codes "  000114 0 0000000000"
    ∷ codes "00016 TAB       DATA   1,2,3,4"
    ∷ codes "  000115 0 00000000000000000001"
    ∷ codes "  000116 0 00000000000000000002"
    ∷ codes "  000117 0 00000000000000000003"
    ∷ codes "  000120 0 00000000000000000004"
    ∷ codes "00017 N         EQU    *-TAB"
    ∷ codes "00018 TOTAL     BSS    1"
    ∷ codes "00019           END"
    ∷ codes "BLOCK 0 00000000 00000122"
    ∷ codes "ERRORS 0"
    ∷ codes "MAP"
    ∷ codes "DECK SUM ABS 000000 00000122"
    ∷ codes "ENTRY START SUM 00000000000000000110"
    ∷ codes "END"
    ∷ codes "DECK SUM ABS 000000"
    ∷ codes "000110 61100000016120000004"
    ∷ codes "000111 66300436004600046000"
    ∷ codes "000112 51130001156633136661"
    ∷ codes "000113 07320001125160000121"
    ∷ codes "000114 00000000004600046000"
    ∷ codes "000115 00000000000000000001"
    ∷ codes "000116 00000000000000000002"
    ∷ codes "000117 00000000000000000003"
    ∷ codes "000120 00000000000000000004"
    ∷ codes "END"
    ∷ [])
absolute-output = refl

pub absolute-status : (answer_of absolute).status ≡ 0
absolute-status = refl

-- literals, and a block of its own
abbrev literals : List ℕ
literals = text (
    codes "          IDENT  LIT"
    ∷ codes "START     SA1    =7"
    ∷ codes "          SA2    =1"
    ∷ codes "          USE    TEXTS"
    ∷ codes "HELLO     DATA   10HHELLO 6600"
    ∷ codes "          CON    HELLO"
    ∷ codes "          USE    *"
    ∷ codes "          SA3    =1B"
    ∷ codes "          SA4    =5HABCDE"
    ∷ codes "          SB5    HELLO"
    ∷ codes "          EQ     START"
    ∷ codes "          END"
    ∷ [])

pub literals-output : (answer_of literals).output ≡ text (
    codes "DECK LIT REL"
    ∷ codes "00001           IDENT  LIT"
    ∷ codes "00002 START     SA1    =7"
    ∷ codes "  000000 0 5110000005"
    ∷ codes "00003           SA2    =1"
    ∷ codes "  000000 2 5120000006"
    ∷ codes "00004           USE    TEXTS"
    ∷ codes "00005 HELLO     DATA   10HHELLO 6600"
    ∷ codes "  000000 0 10051414175541413333"
    ∷ codes "00006           CON    HELLO"
    ∷ codes "  000001 0 00000000000000000003"
    ∷ codes "00007           USE    *"
    ∷ codes "00008           SA3    =1B"
    ∷ codes "  000001 0 5130000006"
    ∷ codes "00009           SA4    =5HABCDE"
    ∷ codes "  000001 2 5140000007"
    ∷ codes "00010           SB5    HELLO"
    ∷ codes "  000002 0 6150000003"
    ∷ codes "00011           EQ     START"
    ∷ codes "  000002 2 0400000000"
    ∷ codes "00012           END"
    ∷ codes "BLOCK 0 00000000 00000003"
    ∷ codes "BLOCK TEXTS 00000003 00000002"
    ∷ codes "BLOCK = 00000005 00000003"
    ∷ codes "ERRORS 0"
    ∷ codes "MAP"
    ∷ codes "DECK LIT REL 000100 00000010"
    ∷ codes "END"
    ∷ codes "DECK LIT REL 000100"
    ∷ codes "000100 51100001055120000106"
    ∷ codes "000101 51300001065140000107"
    ∷ codes "000102 61500001030400000100"
    ∷ codes "000103 10051414175541413333"
    ∷ codes "000104 00000000000000000103"
    ∷ codes "000105 00000000000000000007"
    ∷ codes "000106 00000000000000000001"
    ∷ codes "000107 01020304055555555555"
    ∷ codes "END"
    ∷ [])
literals-output = refl

pub literals-status : (answer_of literals).status ≡ 0
literals-status = refl

-- three decks linked
abbrev linked : List ℕ
linked = text (
    codes "          IDENT  MAIN"
    ∷ codes "          ENTRY  START"
    ∷ codes "          EXT    DOUBLE,LIMIT"
    ∷ codes "START     SX1    LIMIT"
    ∷ codes "          RJ     DOUBLE"
    ∷ codes "          SA6    RESULT"
    ∷ codes "          PS"
    ∷ codes "RESULT    BSS    1"
    ∷ codes "          END"
    ∷ codes "          IDENT  ARITH"
    ∷ codes "          ENTRY  DOUBLE"
    ∷ codes "*         THE RETURN JUMP IS PUT INTO THE FIRST WORD."
    ∷ codes "DOUBLE    PS"
    ∷ codes "          IX6    X1+X1"
    ∷ codes "          EQ     DOUBLE"
    ∷ codes "          END"
    ∷ codes "          IDENT  CONST"
    ∷ codes "          ABS"
    ∷ codes "          ENTRY  LIMIT"
    ∷ codes "LIMIT     EQU    12"
    ∷ codes "          END"
    ∷ [])

pub linked-output : (answer_of linked).output ≡ text (
    codes "DECK MAIN REL"
    ∷ codes "00001           IDENT  MAIN"
    ∷ codes "00002           ENTRY  START"
    ∷ codes "00003           EXT    DOUBLE,LIMIT"
    ∷ codes "00004 START     SX1    LIMIT"
    ∷ codes "  000000 0 7110000000"
    ∷ codes "00005           RJ     DOUBLE"
    ∷ codes "  000000 2 0100000000"
    ∷ codes "00006           SA6    RESULT"
    ∷ codes "  000001 0 5160000002"
    ∷ codes "00007           PS"
    ∷ codes "  000001 2 0000000000"
    ∷ codes "00008 RESULT    BSS    1"
    ∷ codes "00009           END"
    ∷ codes "BLOCK 0 00000000 00000003"
    ∷ codes "ERRORS 0"
    ∷ codes "DECK ARITH REL"
    ∷ codes "00001           IDENT  ARITH"
    ∷ codes "00002           ENTRY  DOUBLE"
    ∷ codes "00003 *         THE RETURN JUMP IS PUT INTO THE FIRST WORD."
    ∷ codes "00004 DOUBLE    PS"
    ∷ codes "  000000 0 0000000000"
    ∷ codes "00005           IX6    X1+X1"
    ∷ codes "  000001 0 36611"
    ∷ codes "00006           EQ     DOUBLE"
    ∷ codes "  000001 1 0400000000"
    ∷ codes "00007           END"
    ∷ codes "BLOCK 0 00000000 00000002"
    ∷ codes "ERRORS 0"
    ∷ codes "DECK CONST ABS"
    ∷ codes "00001           IDENT  CONST"
    ∷ codes "00002           ABS"
    ∷ codes "00003           ENTRY  LIMIT"
    ∷ codes "00004 LIMIT     EQU    12"
    ∷ codes "00005           END"
    ∷ codes "BLOCK 0 00000000 00000000"
    ∷ codes "ERRORS 0"
    ∷ codes "MAP"
    ∷ codes "DECK MAIN REL 000100 00000003"
    ∷ codes "DECK ARITH REL 000103 00000002"
    ∷ codes "DECK CONST ABS 000000 00000000"
    ∷ codes "ENTRY START MAIN 00000000000000000100"
    ∷ codes "ENTRY DOUBLE ARITH 00000000000000000103"
    ∷ codes "ENTRY LIMIT CONST 00000000000000000014"
    ∷ codes "END"
    ∷ codes "DECK MAIN REL 000100"
    ∷ codes "000100 71100000140100000103"
    ∷ codes "000101 51600001020000000000"
    ∷ codes "DECK ARITH REL 000103"
    ∷ codes "000103 00000000004600046000"
    ∷ codes "000104 36611040000010346000"
    ∷ codes "DECK CONST ABS 000000"
    ∷ codes "END"
    ∷ [])
linked-output = refl

pub linked-status : (answer_of linked).status ≡ 0
linked-status = refl

-- two decks that share a common block
abbrev common : List ℕ
common = text (
    codes "          IDENT  P"
    ∷ codes "          USE    /TAB/"
    ∷ codes "X         DATA   1"
    ∷ codes "          BSS    1"
    ∷ codes "          USE    0"
    ∷ codes "          SA1    X+1"
    ∷ codes "          END"
    ∷ codes "          IDENT  Q"
    ∷ codes "          USE    /TAB/"
    ∷ codes "          BSS    1"
    ∷ codes "Y         DATA   2,3"
    ∷ codes "          USE    *"
    ∷ codes "          SA2    Y+1"
    ∷ codes "          END"
    ∷ [])

pub common-output : (answer_of common).output ≡ text (
    codes "DECK P REL"
    ∷ codes "00001           IDENT  P"
    ∷ codes "00002           USE    /TAB/"
    ∷ codes "00003 X         DATA   1"
    ∷ codes "  000000 0 00000000000000000001"
    ∷ codes "00004           BSS    1"
    ∷ codes "00005           USE    0"
    ∷ codes "00006           SA1    X+1"
    ∷ codes "  000000 0 5110000001"
    ∷ codes "00007           END"
    ∷ codes "BLOCK 0 00000000 00000001"
    ∷ codes "BLOCK /TAB/ 00000000 00000002"
    ∷ codes "ERRORS 0"
    ∷ codes "DECK Q REL"
    ∷ codes "00001           IDENT  Q"
    ∷ codes "00002           USE    /TAB/"
    ∷ codes "00003           BSS    1"
    ∷ codes "00004 Y         DATA   2,3"
    ∷ codes "  000001 0 00000000000000000002"
    ∷ codes "  000002 0 00000000000000000003"
    ∷ codes "00005           USE    *"
    ∷ codes "00006           SA2    Y+1"
    ∷ codes "  000000 0 5120000002"
    ∷ codes "00007           END"
    ∷ codes "BLOCK 0 00000000 00000001"
    ∷ codes "BLOCK /TAB/ 00000000 00000003"
    ∷ codes "ERRORS 0"
    ∷ codes "MAP"
    ∷ codes "DECK P REL 000100 00000001"
    ∷ codes "DECK Q REL 000101 00000001"
    ∷ codes "COMMON /TAB/ 000102 00000003"
    ∷ codes "END"
    ∷ codes "DECK P REL 000100"
    ∷ codes "000100 51100001034600046000"
    ∷ codes "DECK Q REL 000101"
    ∷ codes "000101 51200001044600046000"
    ∷ codes "COMMON /TAB/ 000102"
    ∷ codes "000102 00000000000000000001"
    ∷ codes "000103 00000000000000000002"
    ∷ codes "000104 00000000000000000003"
    ∷ codes "END"
    ∷ [])
common-output = refl

pub common-status : (answer_of common).status ≡ 0
common-status = refl

-- each letter once
abbrev letters : List ℕ
letters = text (
    codes "          IDENT  BAD"
    ∷ codes "*         EACH LETTER ONCE."
    ∷ codes ",         A COMMA CARD BEHIND A COMMENT"
    ∷ codes "X         EQU    1"
    ∷ codes "X         EQU    2                  X IS DEFINED BEFORE"
    ∷ codes "          SB1    X+Y                Y IS DEFINED NOWHERE"
    ∷ codes "          SB1    1S18               MORE THAN 18 BITS"
    ∷ codes "          FOO    1                  NO OPERATION IS CALLED FOO"
    ∷ codes "          BX6    B1                 BX WANTS X REGISTERS"
    ∷ codes "          SB1    1/0                DIVISION BY ZERO"
    ∷ codes "A1        BX6    X1                 A REGISTER IS NO SYMBOL"
    ∷ codes "LAB       DATA   1"
    ∷ codes "          MX0    LAB                A COUNT WANTS A NUMBER"
    ∷ codes "          END"
    ∷ [])

pub letters-output : (answer_of letters).output ≡ text (
    codes "DECK BAD REL"
    ∷ codes "00001           IDENT  BAD"
    ∷ codes "00002 *         EACH LETTER ONCE."
    ∷ codes "00003 ,         A COMMA CARD BEHIND A COMMENT"
    ∷ codes "  ERR C"
    ∷ codes "00004 X         EQU    1"
    ∷ codes "00005 X         EQU    2                  X IS DEFINED BEFORE"
    ∷ codes "  ERR D"
    ∷ codes "00006           SB1    X+Y                Y IS DEFINED NOWHERE"
    ∷ codes "  ERR U"
    ∷ codes "  000000 0 6110000000"
    ∷ codes "00007           SB1    1S18               MORE THAN 18 BITS"
    ∷ codes "  ERR A"
    ∷ codes "  000000 2 6110000000"
    ∷ codes "00008           FOO    1                  NO OPERATION IS CALLED FOO"
    ∷ codes "  ERR O"
    ∷ codes "00009           BX6    B1                 BX WANTS X REGISTERS"
    ∷ codes "  ERR V"
    ∷ codes "00010           SB1    1/0                DIVISION BY ZERO"
    ∷ codes "  ERR Z"
    ∷ codes "  000001 0 6110000000"
    ∷ codes "00011 A1        BX6    X1                 A REGISTER IS NO SYMBOL"
    ∷ codes "  ERR L"
    ∷ codes "  000001 2 10611"
    ∷ codes "00012 LAB       DATA   1"
    ∷ codes "  000002 0 00000000000000000001"
    ∷ codes "00013           MX0    LAB                A COUNT WANTS A NUMBER"
    ∷ codes "  ERR R"
    ∷ codes "  000003 0 43000"
    ∷ codes "00014           END"
    ∷ codes "BLOCK 0 00000000 00000004"
    ∷ codes "ERRORS 9"
    ∷ codes "MAP"
    ∷ codes "DECK BAD REL 000100 00000004"
    ∷ codes "END"
    ∷ codes "DECK BAD REL 000100"
    ∷ codes "000100 61100000006110000000"
    ∷ codes "000101 61100000001061146000"
    ∷ codes "000102 00000000000000000001"
    ∷ codes "000103 43000460004600046000"
    ∷ codes "END"
    ∷ [])
letters-output = refl

pub letters-status : (answer_of letters).status ≡ 1
letters-status = refl

-- the deck of the trace in docs/ARCHITECTURE.md
abbrev trace : List ℕ
trace = text (
    codes "          IDENT  T"
    ∷ codes "          ABS"
    ∷ codes "X         DATA   7"
    ∷ codes "          SA1    X+=5"
    ∷ codes "          END"
    ∷ [])

pub trace-output : (answer_of trace).output ≡ text (
    codes "DECK T ABS"
    ∷ codes "00001           IDENT  T"
    ∷ codes "00002           ABS"
    ∷ codes "00003 X         DATA   7"
    ∷ codes "  000000 0 00000000000000000007"
    ∷ codes "00004           SA1    X+=5"
    ∷ codes "  000001 0 5110000002"
    ∷ codes "00005           END"
    ∷ codes "BLOCK 0 00000000 00000002"
    ∷ codes "BLOCK = 00000002 00000001"
    ∷ codes "ERRORS 0"
    ∷ codes "MAP"
    ∷ codes "DECK T ABS 000000 00000003"
    ∷ codes "END"
    ∷ codes "DECK T ABS 000000"
    ∷ codes "000000 00000000000000000007"
    ∷ codes "000001 51100000024600046000"
    ∷ codes "000002 00000000000000000005"
    ∷ codes "END"
    ∷ [])
trace-output = refl

pub trace-status : (answer_of trace).status ≡ 0
trace-status = refl

-- the steps of the trace in docs/ARCHITECTURE.md, for the card with SA1
abbrev traced_card : List ℕ
traced_card = codes "          SA1    X+=5"

-- the statements of the deck, newest first
abbrev traced_statements : List Statement
traced_statements = statements_of (codes "          END" ∷ traced_card ∷ codes "X         DATA   7" ∷ codes "          ABS" ∷ codes "          IDENT  T" ∷ [])

-- the same, settled
abbrev traced_settled : List Settled
traced_settled = settled_all Abs traced_statements

pub trace-fields : fields_of (traced_card ∷ []) ≡ record { location = []; operation = codes "SA1"; variable = codes "X+=5" }
trace-fields = refl

pub trace-kind : kind_of_statements traced_statements ≡ Abs
trace-kind = refl

pub trace-operation : operation_of Abs (codes "SA1") ≡ Instruction
trace-operation = refl

pub trace-pieces : pieces_of (codes "X+=5") ≡ Plain (codes "X") ∷ IsMark Plus ∷ IsMark Equals ∷ Plain (codes "5") ∷ []
trace-pieces = refl

-- the digits in front of K, and how many they are
abbrev digits_found : Option M.Instruction → ℕ × ℕ
digits_found None = (0, 0)
digits_found (Some instruction) = (instruction.digits, instruction.count)

pub trace-instruction : digits_found (central_of Decimal (codes "SA1") (subfields_of (pieces_of (codes "X+=5")))) ≡ (0o5110, 4)
trace-instruction = refl

pub trace-places : map (λ (settled : Settled). settled.place) traced_settled ≡ 6 ∷ 4 ∷ 0 ∷ 0 ∷ 0 ∷ []
trace-places = refl

pub trace-ends : map (λ (settled : Settled). settled.end) traced_settled ≡ 6 ∷ 6 ∷ 4 ∷ 0 ∷ 0 ∷ []
trace-ends = refl

pub trace-literals : literal_words traced_settled ≡ 5 ∷ []
trace-literals = refl

pub trace-rows : block_rows Abs traced_settled ≡ record { name = codes "0"; base = 0; words = 2 } ∷ record { name = codes "="; base = 2; words = 1 } ∷ []
trace-rows = refl
