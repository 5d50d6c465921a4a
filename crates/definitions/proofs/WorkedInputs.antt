-- Worked inputs, computed: bytes that are no decks.
use Rattle.std.proofs.Common.{◌≡◌, ℕ, List, [], ◌∷◌, ◌++◌, refl, codes}
use Rattle.definitions.{specs.Answer.answer_of, proofs.WorkedText.{text, line_feed}}

-- told: BadName 1
abbrev input_001 : List ℕ
input_001 = codes "          IDENTX T0" ++ (line_feed ++ (codes "ZERO =           8*2" ++ (line_feed ++ (codes "  ENTRY          IDX,IDX" ++ (line_feed ++ (codes "  SX6            B5+B0" ++ (line_feed ++ (codes "X(1 EQU          234O" ++ (line_feed ++ (codes "  ENTRY          FWA61,IDX,IDX" ++ (line_feed ++ (codes "  DATA           23C1H6YBG11D9MQNR3JTEF1HZN" ++ (line_feed ++ (codes "  ENTRY          FWA61,FWA61" ++ ((13 ∷ []) ++ ((13 ∷ []) ++ (line_feed ++ (codes "  VFD            12/,3/,1/,18/IDX+1BS1,26/003B+ZERO" ++ (line_feed ++ (codes "FWA61 DATA       24L6863E28633SWVYZ1SWZ8OF3M" ++ (line_feed ++ (codes "  SA1            X1+B6" ++ (line_feed ++ (codes "          END" ++ (13 ∷ [])))))))))))))))))))))))))

pub input_001-message : (answer_of input_001).message ≡ text (
    codes "compass: BadName 1"
    ∷ [])
input_001-message = refl

pub input_001-status : (answer_of input_001).status ≡ 3
input_001-status = refl

-- told: BadLine 1 TooWide
abbrev input_002 : List ℕ
input_002 = codes "*         IDENT  T0                                                             X" ++ (line_feed ++ (codes "          LT    B5,3D+J5BTP" ++ (line_feed ++ (codes "          VFD   6/11B,24/-8740907,18/11B*16333B+1,6/1HP,6/-6B*5-4" ++ (line_feed ++ (codes "          NO    X1" ++ (line_feed ++ (codes "          VFD   18/140853,42/111561BS1" ++ (line_feed ++ (codes "          ENTRY J5BTP" ++ (line_feed ++ codes "          JP    B3+=2CVW")))))))))))

pub input_002-message : (answer_of input_002).message ≡ text (
    codes "compass: BadLine 1 TooWide"
    ∷ [])
input_002-message = refl

pub input_002-status : (answer_of input_002).status ≡ 3
input_002-status = refl

-- told: BadName 1
abbrev input_003 : List ℕ
input_003 = text (
    codes "          IDENT"
    ∷ codes "          SX2   X2"
    ∷ codes "K032      LX4   -4*15"
    ∷ codes "          EXT   C,T\\>"
    ∷ codes "          BX5   X6"
    ∷ codes "          BX5   X4*X4"
    ∷ codes "          ZR    B1,=3174"
    ∷ codes "          DATA  5CFILE.,-1152921504606846975"
    ∷ codes "          END"
    ∷ codes " X IDENT T1"
    ∷ codes "  CX1            X3"
    ∷ codes "  JP             306B"
    ∷ codes "T BSSZ           10B          0123456789 0123456789                     T1 00010"
    ∷ codes "  SX6            -B5+A3"
    ∷ codes "  JP             B1                                                     T1 00020"
    ∷ codes "   BSSZ         15O/6         UNIT ABORTED. OF DOG DOG"
    ∷ codes "          END"
    ∷ codes "                            IDENT *"
    ∷ codes "          AX1    X7,B2"
    ∷ codes "HEAD4     =      3S2"
    ∷ codes "          SB1    -B5"
    ∷ codes "-         SB2    -B3+A7"
    ∷ codes "          SA7    A0"
    ∷ codes "          IR     X0,T227+3"
    ∷ codes "-         ZX3    B7,X3"
    ∷ codes "          LT     B6,B2,=1S6+30B"
    ∷ codes "T257      EQ     T227"
    ∷ codes "          PS     X1"
    ∷ codes "          END"
    ∷ [])

pub input_003-message : (answer_of input_003).message ≡ text (
    codes "compass: BadName 1"
    ∷ [])
input_003-message = refl

pub input_003-status : (answer_of input_003).status ≡ 3
input_003-status = refl

-- an input without a fault
abbrev input_004 : List ℕ
input_004 = []

pub input_004-output : (answer_of input_004).output ≡ text (
    codes "MAP"
    ∷ codes "END"
    ∷ codes "END"
    ∷ [])
input_004-output = refl

pub input_004-status : (answer_of input_004).status ≡ 0
input_004-status = refl

-- an input without a fault
abbrev input_005 : List ℕ
input_005 = codes "          IDENT  T0" ++ (line_feed ++ (codes "YGJYKONL EQU     323104B" ++ (line_feed ++ (codes "         CON                  LAZY *OFF*" ++ (line_feed ++ (codes "+                RX6    X3/X0" ++ (line_feed ++ (codes "         BX1     X0+X4" ++ (line_feed ++ (codes "PLX      EQU     2D" ++ (line_feed ++ (codes "*    LAZY LAZY COMPLETE TAPES BROWN FIELD" ++ (line_feed ++ (codes "-        RX3     X50/X1       QUICK COMPLETE ALL - DOG" ++ (line_feed ++ (codes "         EXT     T1,XINB0O    DOG" ++ (line_feed ++ (codes "          END" ++ (line_feed ++ (codes "          IDENT  T1" ++ (line_feed ++ (codes "           SA6  =1            / BROWN" ++ (line_feed ++ (codes "UFH        =    -60B" ++ (line_feed ++ (codes "CNT35      VFD  18/3LGB<,18/Z1+30,6/UFH+121B,16/2HDO,2/" ++ (line_feed ++ (codes "           VFD  24/2ABG,10/613O,3/7,1/,60/55814525611862337-33,3B/,19/17" ++ (line_feed ++ (codes ",4423B" ++ (line_feed ++ (line_feed ++ (codes "+          BX3  ***UNDEF" ++ (line_feed ++ (codes "           JP   B1+346" ++ (line_feed ++ (codes "          IDENT  T2" ++ (line_feed ++ (codes "          LOC    237S1*1OS01+1" ++ (line_feed ++ (codes "          ORG    *O+8" ++ (line_feed ++ (codes "          AX5    X7" ++ (line_feed ++ (codes "          END" ++ ((13 ∷ []) ++ line_feed))))))))))))))))))))))))))))))))))))))))))))))

pub input_005-output : (answer_of input_005).output ≡ text (
    codes "DECK T0 REL"
    ∷ codes "00001           IDENT  T0"
    ∷ codes "00002 YGJYKONL EQU     323104B"
    ∷ codes "00003          CON                  LAZY *OFF*"
    ∷ codes "  000000 0 00000000000000000000"
    ∷ codes "00004 +                RX6    X3/X0"
    ∷ codes "  000001 0 45630"
    ∷ codes "00005          BX1     X0+X4"
    ∷ codes "  000001 1 12104"
    ∷ codes "00006 PLX      EQU     2D"
    ∷ codes "00007 *    LAZY LAZY COMPLETE TAPES BROWN FIELD"
    ∷ codes "00008 -        RX3     X50/X1       QUICK COMPLETE ALL - DOG"
    ∷ codes "  ERR V"
    ∷ codes "00009          EXT     T1,XINB0O    DOG"
    ∷ codes "00010           END"
    ∷ codes "BLOCK 0 00000000 00000002"
    ∷ codes "ERRORS 1"
    ∷ codes "DECK T1 REL"
    ∷ codes "00001           IDENT  T1"
    ∷ codes "00002            SA6  =1            / BROWN"
    ∷ codes "  000000 0 5160000005"
    ∷ codes "00003 UFH        =    -60B"
    ∷ codes "00004 CNT35      VFD  18/3LGB<,18/Z1+30,6/UFH+121B,16/2HDO,2/"
    ∷ codes "  ERR U"
    ∷ codes "  000001 0 07027200000041041700"
    ∷ codes "00005            VFD  24/2ABG,10/613O,3/7,1/,60/55814525611862337-33,3B/,19/17"
    ∷ codes "00006 ,4423B"
    ∷ codes "  000002 0 55550207305740614454"
    ∷ codes "  000003 0 03730633511000174423"
    ∷ codes "00007 "
    ∷ codes "00008 +          BX3  ***UNDEF"
    ∷ codes "  ERR V"
    ∷ codes "00009            JP   B1+346"
    ∷ codes "  000004 0 0210000532"
    ∷ codes "BLOCK 0 00000000 00000005"
    ∷ codes "BLOCK = 00000005 00000001"
    ∷ codes "ERRORS 2"
    ∷ codes "DECK T2 REL"
    ∷ codes "00001           IDENT  T2"
    ∷ codes "00002           LOC    237S1*1OS01+1"
    ∷ codes "00003           ORG    *O+8"
    ∷ codes "00004           AX5    X7"
    ∷ codes "  000010 0 23507"
    ∷ codes "00005           END"
    ∷ codes "BLOCK 0 00000000 00000011"
    ∷ codes "ERRORS 0"
    ∷ codes "MAP"
    ∷ codes "DECK T0 REL 000100 00000002"
    ∷ codes "DECK T1 REL 000102 00000006"
    ∷ codes "DECK T2 REL 000110 00000011"
    ∷ codes "LINK U T0 T1"
    ∷ codes "LINK U T0 XINB0O"
    ∷ codes "END"
    ∷ codes "DECK T0 REL 000100"
    ∷ codes "000100 00000000000000000000"
    ∷ codes "000101 45630121044600046000"
    ∷ codes "DECK T1 REL 000102"
    ∷ codes "000102 51600001074600046000"
    ∷ codes "000103 07027200000041041700"
    ∷ codes "000104 55550207305740614454"
    ∷ codes "000105 03730633511000174423"
    ∷ codes "000106 02100005324600046000"
    ∷ codes "000107 00000000000000000001"
    ∷ codes "DECK T2 REL 000110"
    ∷ codes "000120 23507460004600046000"
    ∷ codes "END"
    ∷ [])
input_005-output = refl

pub input_005-status : (answer_of input_005).status ≡ 1
input_005-status = refl

-- told: BadName 1
abbrev input_006 : List ℕ
input_006 = text (
    codes "*         IDENT  T0"
    ∷ codes "          EQ     *            UNLOADED;"
    ∷ codes "B7FQZAT   EQU    0010B*269+6B"
    ∷ codes "          FX1    X4/X1"
    ∷ codes "          USE           LITS"
    ∷ codes "          DATA   4R2DPZ,-97,8R1UV0MBQW,81,7R3KHZLDM,1CA,-0053B,-6476389D"
    ∷ codes "          USE    BUFFERS"
    ∷ codes "          END"
    ∷ [])

pub input_006-message : (answer_of input_006).message ≡ text (
    codes "compass: BadName 1"
    ∷ [])
input_006-message = refl

pub input_006-status : (answer_of input_006).status ≡ 3
input_006-status = refl

-- told: BadLine 17 BadCharacter 9
abbrev input_007 : List ℕ
input_007 = codes "          IDENT  T0" ++ (line_feed ++ (codes "           USE     0" ++ (line_feed ++ (codes "PPR        EQU     41B/5" ++ (line_feed ++ (codes "           DATA    -2440" ++ (line_feed ++ (codes "           JP      PPR" ++ (line_feed ++ (codes "           LOC     PPR+1" ++ (line_feed ++ (codes "MSG27      =       16454046B" ++ (line_feed ++ (codes "           USE     A          ERROR, END ERROR, JOB" ++ (line_feed ++ (codes "FIRST48    CON     3823709-MSG27,*+1O" ++ (line_feed ++ (codes "           BX5     -X0" ++ (line_feed ++ (codes "          IDENT  T1" ++ (line_feed ++ (codes "          NO" ++ (line_feed ++ (codes "DONE      CON    =047531346605416651750B,=89339501000223357S3-2,TOP24" ++ (line_feed ++ (codes "          END" ++ (line_feed ++ (codes "          IDENT  ABCDEFG,FWA,X" ++ (line_feed ++ (codes "          LE     B4,V1Z" ++ (line_feed ++ (codes "        " ++ ((13 ∷ []) ++ (codes "  LOC    173D         POINT TAPES" ++ (line_feed ++ (codes "          ORG    *OT+11O      OVER UNLOADED; FILE. 0123456789 END" ++ (line_feed ++ (codes "          JP     =-6790" ++ (line_feed ++ (codes "          ORG    *O" ++ (line_feed ++ (codes "          DATA   070B,+141370703,1LG    QUICK" ++ (line_feed ++ (codes "          EXT    EOR9" ++ (line_feed ++ (codes "V1Z       VFD    30/857185,12/2LSJ,18/1CW+55512" ++ (line_feed ++ (codes "          END" ++ line_feed))))))))))))))))))))))))))))))))))))))))))))))))

pub input_007-message : (answer_of input_007).message ≡ text (
    codes "compass: BadLine 17 BadCharacter 9"
    ∷ [])
input_007-message = refl

pub input_007-status : (answer_of input_007).status ≡ 3
input_007-status = refl

-- told: NameTaken
abbrev input_008 : List ℕ
input_008 = codes "          IDENT  T0" ++ (line_feed ++ (codes "         SB5     79" ++ (line_feed ++ (codes "         ENTRY   QUE" ++ (line_feed ++ (codes "         SA2     A7-B3" ++ (line_feed ++ (codes "          IDENT  T0" ++ (line_feed ++ (codes "         USE     DATA" ++ (line_feed ++ (codes "BOPT     BSS     0B*9+3" ++ (line_feed ++ (codes "         RX6     X2-X3" ++ (line_feed ++ (codes "         ENTRY   H19" ++ (line_feed ++ (codes "         bss     1*5b                                                   t0 00010" ++ (line_feed ++ (codes "* C" ++ (line_feed ++ (codes "         BSSZ    0B*11B+2" ++ ((13 ∷ []) ++ (line_feed ++ (codes "          END" ++ line_feed)))))))))))))))))))))))))

pub input_008-message : (answer_of input_008).message ≡ text (
    codes "compass: NameTaken"
    ∷ [])
input_008-message = refl

pub input_008-status : (answer_of input_008).status ≡ 3
input_008-status = refl

-- told: BadLine 13 BadCharacter 13
abbrev input_009 : List ℕ
input_009 = codes "          IDENT  T0,FWA,X" ++ (line_feed ++ (codes "           DATA  -77777777777777777777O,3624364772277525035B,9CJGHP37DB8T0 00010" ++ (line_feed ++ (codes ",,-99,1A2                                                               T0 00011" ++ (line_feed ++ (codes "         ZR    B7,*                                                     T0 00021" ++ (line_feed ++ (codes "           SPACE FOO BAR                                                T0 00031" ++ (line_feed ++ (codes "           ENTRY DSP,DSP,GM\\KJ4F                                        T0 00041" ++ (line_feed ++ (codes "          IDENT  T1" ++ (line_feed ++ (codes "          DX0    X2*X0" ++ (line_feed ++ (codes "          JP     B3+005B*11B+10B" ++ (line_feed ++ (codes "          EXT    M2JA4Q" ++ (line_feed ++ (codes "          LE     B6,EXIT13+1B   THE LENGTH $" ++ (line_feed ++ (codes "          END" ++ (line_feed ++ (codes "          ID" ++ ((9 ∷ []) ++ (codes "ENT  T2" ++ (line_feed ++ (codes "LWA      JP      60+B5" ++ (line_feed ++ (codes "         SX4     A3+B3" ++ (line_feed ++ (codes "BOT16    DATA    9ASZHN\\LI:.,1152921504606846975,1RO" ++ (line_feed ++ (codes "         BASE    D" ++ (line_feed ++ codes "          END")))))))))))))))))))))))))))))))))))

pub input_009-message : (answer_of input_009).message ≡ text (
    codes "compass: BadLine 13 BadCharacter 13"
    ∷ [])
input_009-message = refl

pub input_009-status : (answer_of input_009).status ≡ 3
input_009-status = refl

-- told: BadName 1
abbrev input_010 : List ℕ
input_010 = codes "          IDENTX T0" ++ (line_feed ++ (codes "Z3H.F<R   BSS    3                                                      T0 00001" ++ (line_feed ++ (codes "          SX5    B1-B0                                                  T0 00002" ++ (line_feed ++ (codes "P1        EQU    *            0123456789" ++ (line_feed ++ (codes "          END" ++ (line_feed ++ (codes "  " ++ ((13 ∷ []) ++ (codes "        IDENT" ++ (line_feed ++ (codes "           CON  =9AP69VQBUDG" ++ (line_feed ++ (codes "A87QB1     SB5  X1" ++ (line_feed ++ (codes "           ZRX  0" ++ (line_feed ++ (codes "           ENTRY E,E" ++ (line_feed ++ (codes "           SX2  X3+B7" ++ (line_feed ++ (codes "," ++ (line_feed ++ (codes "           LIST X,G" ++ (line_feed ++ (codes "QUE     =           10O*32                                              T1 00010" ++ (line_feed ++ (codes "           SB6  B1" ++ (line_feed ++ (codes "      " ++ ((13 ∷ []) ++ (codes "     SX2  B0+=0-1OS1" ++ (line_feed ++ (codes "          END" ++ line_feed))))))))))))))))))))))))))))))))))))

pub input_010-message : (answer_of input_010).message ≡ text (
    codes "compass: BadName 1"
    ∷ [])
input_010-message = refl

pub input_010-status : (answer_of input_010).status ≡ 3
input_010-status = refl

-- told: BadLine 60 BadCharacter 18
abbrev input_011 : List ℕ
input_011 = text (
    codes "          IDENT  K0"
    ∷ codes "          SB1    1"
    ∷ codes "          IDENT  K1"
    ∷ codes "          SB1    1"
    ∷ codes "          IDENT  K2"
    ∷ codes "          IDENT  K3"
    ∷ codes "          IDENT  K4"
    ∷ codes "          IDENT  K5"
    ∷ codes "          SB1    1"
    ∷ codes "          IDENT  K6"
    ∷ codes "          SB1    1"
    ∷ codes "          IDENT  K7"
    ∷ codes "          IDENT  K8"
    ∷ codes "          SB1    1"
    ∷ codes "          IDENT  K9"
    ∷ codes "          SB1    1"
    ∷ codes "          IDENT  K10"
    ∷ codes "          SB1    1"
    ∷ codes "          IDENT  K11"
    ∷ codes "          SB1    1"
    ∷ codes "          IDENT  K12"
    ∷ codes "          SB1    1"
    ∷ codes "          IDENT  K13"
    ∷ codes "          SB1    1"
    ∷ codes "          IDENT  K14"
    ∷ codes "          IDENT  K15"
    ∷ codes "          IDENT  K16"
    ∷ codes "          IDENT  K17"
    ∷ codes "          SB1    1"
    ∷ codes "          IDENT  K18"
    ∷ codes "          IDENT  K19"
    ∷ codes "          IDENT  K20"
    ∷ codes "          IDENT  K21"
    ∷ codes "          IDENT  K22"
    ∷ codes "          SB1    1"
    ∷ codes "          IDENT  K23"
    ∷ codes "          IDENT  K24"
    ∷ codes "          SB1    1"
    ∷ codes "          IDENT  K25"
    ∷ codes "          IDENT  K26"
    ∷ codes "          SB1    1"
    ∷ codes "          IDENT  K27"
    ∷ codes "          IDENT  K28"
    ∷ codes "          IDENT  K29"
    ∷ codes "          IDENT  K30"
    ∷ codes "          SB1    1"
    ∷ codes "          IDENT  K31"
    ∷ codes "          IDENT  K32"
    ∷ codes "          SB1    1"
    ∷ codes "          IDENT  K33"
    ∷ codes "          IDENT  K34"
    ∷ codes "          SB1    1"
    ∷ codes "          IDENT  K35"
    ∷ codes "          IDENT  K36"
    ∷ codes "          SB1    1"
    ∷ codes "          IDENT  K37"
    ∷ codes "          SB1    1"
    ∷ codes "          IDENT  K38"
    ∷ codes "          IDENT  K39"
    ∷ codes "          IDENT  lower"
    ∷ codes "          IDENT  K40"
    ∷ codes "          SB1    1"
    ∷ codes "          IDENT  K41"
    ∷ codes "          SB1    1"
    ∷ codes "          IDENT  K42"
    ∷ codes "          IDENT  K43"
    ∷ codes "          IDENT  K44"
    ∷ codes "          SB1    1"
    ∷ codes "          IDENT  K45"
    ∷ codes "          SB1    1"
    ∷ codes "          IDENT  K46"
    ∷ codes "          SB1    1"
    ∷ codes "          IDENT  K47"
    ∷ codes "          IDENT  K48"
    ∷ codes "          IDENT  K49"
    ∷ codes "          SB1    1"
    ∷ codes "          IDENT  K50"
    ∷ codes "          SB1    1"
    ∷ codes "          IDENT  K51"
    ∷ codes "          IDENT  K52"
    ∷ codes "          SB1    1"
    ∷ codes "          IDENT  K53"
    ∷ codes "          SB1    1"
    ∷ codes "          IDENT  K54"
    ∷ codes "          IDENT  K55"
    ∷ codes "          SB1    1"
    ∷ codes "          IDENT  K56"
    ∷ codes "          SB1    1"
    ∷ codes "          IDENT  K57"
    ∷ codes "          SB1    1"
    ∷ codes "          IDENT  K58"
    ∷ codes "          IDENT  K59"
    ∷ codes "          SB1    1"
    ∷ codes "          IDENT  K60"
    ∷ codes "          IDENT  K61"
    ∷ codes "          IDENT  K62"
    ∷ codes "          IDENT  K63"
    ∷ [])

pub input_011-message : (answer_of input_011).message ≡ text (
    codes "compass: BadLine 60 BadCharacter 18"
    ∷ [])
input_011-message = refl

pub input_011-status : (answer_of input_011).status ≡ 3
input_011-status = refl

-- told: BadName 1
abbrev input_012 : List ℕ
input_012 = codes "          IDENT,X T0" ++ (line_feed ++ (codes "                   CON" ++ (line_feed ++ (codes "        SB1      X7+B6" ++ (line_feed ++ (codes "        BX3      X7" ++ (line_feed ++ (codes "        EXT      CNT" ++ (line_feed ++ (codes "        ORG      263" ++ (line_feed ++ (codes "        BSS      1CH-7" ++ (line_feed ++ (codes "        DATA     9CLNZ386B03" ++ (line_feed ++ (codes "        USE" ++ (line_feed ++ (codes " CVD22       BSSZ      *-*O" ++ (line_feed ++ (codes "        PS       5HAB CD+A1" ++ (line_feed ++ (codes "          END" ++ (line_feed ++ (codes "* C" ++ (line_feed ++ (line_feed ++ (codes "          IDENT             T1" ++ (line_feed ++ (codes "          END" ++ (13 ∷ []))))))))))))))))))))))))))))))

pub input_012-message : (answer_of input_012).message ≡ text (
    codes "compass: BadName 1"
    ∷ [])
input_012-message = refl

pub input_012-status : (answer_of input_012).status ≡ 3
input_012-status = refl

-- an input without a fault
abbrev input_013 : List ℕ
input_013 = text (
    codes "          IDENT  ABCDEFG,FWA,X"
    ∷ codes "          END"
    ∷ codes "          IDENT  T1"
    ∷ codes "          USE    DATA"
    ∷ codes "MN4ADZPR  CON    =7C1FTJ7TH                                             T1 00001"
    ∷ codes "          BSSZ                                                          T1 00002"
    ∷ codes "          IX1    X6*X4                                                  T1 00012"
    ∷ codes "          SX7    A1+MN4ADZPR"
    ∷ codes "          PL     X5,=7C1FTJ7TH"
    ∷ codes "          END"
    ∷ codes "          IDENT  T2"
    ∷ codes "  AX1  11B*6+5B"
    ∷ codes "             ENTRY  NEXT"
    ∷ codes "MWXNUMJM BSSZ    0*9+3D"
    ∷ codes "                 MX1  30"
    ∷ codes "          END"
    ∷ [])

pub input_013-output : (answer_of input_013).output ≡ text (
    codes "DECK ABCDEFG REL"
    ∷ codes "00001           IDENT  ABCDEFG,FWA,X"
    ∷ codes "00002           END"
    ∷ codes "BLOCK 0 00000000 00000000"
    ∷ codes "ERRORS 0"
    ∷ codes "DECK T1 REL"
    ∷ codes "00001           IDENT  T1"
    ∷ codes "00002           USE    DATA"
    ∷ codes "00003 MN4ADZPR  CON    =7C1FTJ7TH                                             T1 00001"
    ∷ codes "  000000 0 00000000000000000003"
    ∷ codes "00004           BSSZ                                                          T1 00002"
    ∷ codes "  ERR V"
    ∷ codes "00005           IX1    X6*X4                                                  T1 00012"
    ∷ codes "  000001 0 42164"
    ∷ codes "00006           SX7    A1+MN4ADZPR"
    ∷ codes "  000001 1 7071000000"
    ∷ codes "00007           PL     X5,=7C1FTJ7TH"
    ∷ codes "  000002 0 0325000003"
    ∷ codes "00008           END"
    ∷ codes "BLOCK 0 00000000 00000000"
    ∷ codes "BLOCK DATA 00000000 00000003"
    ∷ codes "BLOCK = 00000003 00000001"
    ∷ codes "ERRORS 1"
    ∷ codes "DECK T2 REL"
    ∷ codes "00001           IDENT  T2"
    ∷ codes "00002   AX1  11B*6+5B"
    ∷ codes "  000000 0 21173"
    ∷ codes "00003              ENTRY  NEXT"
    ∷ codes "  ERR U"
    ∷ codes "00004 MWXNUMJM BSSZ    0*9+3D"
    ∷ codes "00005                  MX1  30"
    ∷ codes "  000004 0 43136"
    ∷ codes "00006           END"
    ∷ codes "BLOCK 0 00000000 00000005"
    ∷ codes "ERRORS 1"
    ∷ codes "MAP"
    ∷ codes "DECK ABCDEFG REL 000100 00000000"
    ∷ codes "DECK T1 REL 000100 00000004"
    ∷ codes "DECK T2 REL 000104 00000005"
    ∷ codes "END"
    ∷ codes "DECK ABCDEFG REL 000100"
    ∷ codes "DECK T1 REL 000100"
    ∷ codes "000100 00000000000000000103"
    ∷ codes "000101 42164707100010046000"
    ∷ codes "000102 03250001034600046000"
    ∷ codes "000103 34062412422410000000"
    ∷ codes "DECK T2 REL 000104"
    ∷ codes "000104 21173460004600046000"
    ∷ codes "000105 00000000000000000000"
    ∷ codes "000106 00000000000000000000"
    ∷ codes "000107 00000000000000000000"
    ∷ codes "000110 43136460004600046000"
    ∷ codes "END"
    ∷ [])
input_013-output = refl

pub input_013-status : (answer_of input_013).status ≡ 1
input_013-status = refl

-- an input without a fault
abbrev input_014 : List ℕ
input_014 = codes "          IDENT  T0" ++ ((13 ∷ []) ++ (line_feed ++ (codes "            DATA    6C5IMXYW" ++ ((13 ∷ []) ++ (line_feed ++ (codes "        USE        0" ++ ((13 ∷ []) ++ (line_feed ++ (codes "          END" ++ ((13 ∷ []) ++ line_feed))))))))))

pub input_014-output : (answer_of input_014).output ≡ text (
    codes "DECK T0 REL"
    ∷ codes "00001           IDENT  T0"
    ∷ codes "00002             DATA    6C5IMXYW"
    ∷ codes "  000000 0 40111530312700000000"
    ∷ codes "00003         USE        0"
    ∷ codes "00004           END"
    ∷ codes "BLOCK 0 00000000 00000001"
    ∷ codes "ERRORS 0"
    ∷ codes "MAP"
    ∷ codes "DECK T0 REL 000100 00000001"
    ∷ codes "END"
    ∷ codes "DECK T0 REL 000100"
    ∷ codes "000100 40111530312700000000"
    ∷ codes "END"
    ∷ [])
input_014-output = refl

pub input_014-status : (answer_of input_014).status ≡ 0
input_014-status = refl

-- told: BadName 1
abbrev input_016 : List ℕ
input_016 = text (
    codes "          IDENT                         T0"
    ∷ codes "          ps"
    ∷ codes "          LOC 9*63+2"
    ∷ codes "          SA4 =8ASK07ZTVU+1"
    ∷ codes "+         LX4 14B*5B+3"
    ∷ codes "          NO X1"
    ∷ codes "          EQ CARD27+3"
    ∷ codes "          ENTRY S"
    ∷ [])

pub input_016-message : (answer_of input_016).message ≡ text (
    codes "compass: BadName 1"
    ∷ [])
input_016-message = refl

pub input_016-status : (answer_of input_016).status ≡ 3
input_016-status = refl

-- told: BadName 1
abbrev input_017 : List ℕ
input_017 = text (
    codes "          IDENT              T0"
    ∷ codes " A*     EXT            C<4Q#9,HQ,POS    JOB"
    ∷ codes "XXXXXXXXXXXXXXXXXXXXXXXXXXXXXXXXXXXXXXXXXXXXXXXXXXXXXXXXXXXXXXXXXXXXXXXXXXXXXXXXXXXXXXXXXXXXXXXXXXXXXXXXXXXXXXXXXXXXXXXXXXXXXXXXXXXXXXXXXXXXXXXXXXXXXXXXXXXXXXXXXXXXXXXXXXXXXXXXXXXXXXXXXXXXXXXXXXXXXXXXXXXXXXXXXXXXXXXXXXXXXXXXXXXXXXXXXXXXXXXXXXXXXXXXXXXXXXXXXXXXXXXXXXXXXXXXXXXXXXXXXXXXXXXXXXXXXXXXXXXX"
    ∷ [])

pub input_017-message : (answer_of input_017).message ≡ text (
    codes "compass: BadName 1"
    ∷ [])
input_017-message = refl

pub input_017-status : (answer_of input_017).status ≡ 3
input_017-status = refl

-- told: BadName 1
abbrev input_018 : List ℕ
input_018 = codes "* C" ++ (line_feed ++ (codes "          IDENTX T0" ++ (line_feed ++ (codes "ZERO     JP        B7                                                                                                                                " ++ ((255 ∷ []) ++ (codes "                                                                                                            " ++ (line_feed ++ (codes "*          ERROR, TAPES" ++ (line_feed ++ (codes "TAIL29   CON       2R*0,37S1,,3R(1)" ++ (line_feed ++ codes "          END")))))))))))

pub input_018-message : (answer_of input_018).message ≡ text (
    codes "compass: BadName 1"
    ∷ [])
input_018-message = refl

pub input_018-status : (answer_of input_018).status ≡ 3
input_018-status = refl

-- told: BadLine 5 BadCharacter 5
abbrev input_019 : List ℕ
input_019 = text (
    codes "          IDENT  T0"
    ∷ codes "          EXT   IDX"
    ∷ codes "+         LT    B5,B057D"
    ∷ codes "          END"
    ∷ codes "    {      IDENT  T1"
    ∷ codes "          END"
    ∷ [])

pub input_019-message : (answer_of input_019).message ≡ text (
    codes "compass: BadLine 5 BadCharacter 5"
    ∷ [])
input_019-message = refl

pub input_019-status : (answer_of input_019).status ≡ 3
input_019-status = refl

-- told: BadLine 1 BadCharacter 20
abbrev input_020 : List ℕ
input_020 = codes "          IDENT  T0" ++ ((13 ∷ []) ++ ((13 ∷ []) ++ (line_feed ++ (codes "/C/       ORG      *O" ++ (line_feed ++ (codes "          USE      BUFFERS" ++ (line_feed ++ (codes "          SX0      +B2+B7" ++ (line_feed ++ (codes "POS74     DATA     42,29AQUICK UNLOADED; = *OFF* OVER" ++ (line_feed ++ (codes "SU1WV     OR       X4,=1S6" ++ (line_feed ++ (codes "          ENTRY    POS74,SU1WV,SU1WV" ++ (line_feed ++ (codes "+         AX1      X0" ++ (line_feed ++ (codes "BOT44     DIS  " ++ ((13 ∷ []) ++ (codes "    1B,THE  QUICK" ++ (line_feed ++ (codes "          CX4      X3" ++ (line_feed ++ (codes "          IDENT  T1" ++ (line_feed ++ (codes "          END" ++ (line_feed ++ (codes "          IDENT  A/B" ++ (line_feed ++ (codes "ROOT             BSSZ    0O   ALL BROWN 0123456789 EXCEEDED LAZY" ++ (line_feed ++ (codes "A1 CON             -72,16D+=1BS3,-66" ++ (line_feed ++ (codes "- JP               B2         LENGTH" ++ (line_feed ++ (codes "W<598?7 EQU        6B*0O+3B    LAZY POINT UNIT IDLE" ++ (line_feed ++ (codes "QUE          EQU       ROOT" ++ (line_feed ++ (codes "          END" ++ line_feed))))))))))))))))))))))))))))))))))))))))

pub input_020-message : (answer_of input_020).message ≡ text (
    codes "compass: BadLine 1 BadCharacter 20"
    ∷ [])
input_020-message = refl

pub input_020-status : (answer_of input_020).status ≡ 3
input_020-status = refl

-- an input without a fault
abbrev input_021 : List ℕ
input_021 = text (
    codes "          IDENT  T0"
    ∷ codes "IDX       DIS    2,BROWNCOMPLETERETRYJU"
    ∷ codes "          DATA   +13,1S18*61,140B"
    ∷ codes "          DATA   37B,1LF"
    ∷ codes "+         MX0    -11B*6-6B"
    ∷ codes "          BX2    X3"
    ∷ codes "          RJ     IDX+2+262143"
    ∷ codes "W91       EQU    12B/9"
    ∷ codes "          END"
    ∷ [])

pub input_021-output : (answer_of input_021).output ≡ text (
    codes "DECK T0 REL"
    ∷ codes "00001           IDENT  T0"
    ∷ codes "00002 IDX       DIS    2,BROWNCOMPLETERETRYJU"
    ∷ codes "  000000 0 02221727160317152014"
    ∷ codes "  000001 0 05240522052422311225"
    ∷ codes "00003           DATA   +13,1S18*61,140B"
    ∷ codes "  ERR V"
    ∷ codes "00004           DATA   37B,1LF"
    ∷ codes "  000002 0 00000000000000000037"
    ∷ codes "  000003 0 06000000000000000000"
    ∷ codes "00005 +         MX0    -11B*6-6B"
    ∷ codes "  000004 0 43000"
    ∷ codes "00006           BX2    X3"
    ∷ codes "  000004 1 10233"
    ∷ codes "00007           RJ     IDX+2+262143"
    ∷ codes "  000004 2 0100000000"
    ∷ codes "00008 W91       EQU    12B/9"
    ∷ codes "00009           END"
    ∷ codes "BLOCK 0 00000000 00000005"
    ∷ codes "ERRORS 1"
    ∷ codes "MAP"
    ∷ codes "DECK T0 REL 000100 00000005"
    ∷ codes "LINK A T0 00000104"
    ∷ codes "END"
    ∷ codes "DECK T0 REL 000100"
    ∷ codes "000100 02221727160317152014"
    ∷ codes "000101 05240522052422311225"
    ∷ codes "000102 00000000000000000037"
    ∷ codes "000103 06000000000000000000"
    ∷ codes "000104 43000102330100000000"
    ∷ codes "END"
    ∷ [])
input_021-output = refl

pub input_021-status : (answer_of input_021).status ≡ 1
input_021-status = refl

-- told: LastLineCut
abbrev input_023 : List ℕ
input_023 = codes "          IDENT  T0" ++ ((13 ∷ []) ++ (line_feed ++ codes "          END"))

pub input_023-message : (answer_of input_023).message ≡ text (
    codes "compass: LastLineCut"
    ∷ [])
input_023-message = refl

pub input_023-status : (answer_of input_023).status ≡ 3
input_023-status = refl

-- an input without a fault
abbrev input_024 : List ℕ
input_024 = text (
    codes "          IDENT  T0"
    ∷ codes "J         FX3    X2/X5"
    ∷ codes "GET       BSS    2B"
    ∷ codes "          LOC    10B*0        OF 0123456789"
    ∷ codes "          END"
    ∷ [])

pub input_024-output : (answer_of input_024).output ≡ text (
    codes "DECK T0 REL"
    ∷ codes "00001           IDENT  T0"
    ∷ codes "00002 J         FX3    X2/X5"
    ∷ codes "  000000 0 44325"
    ∷ codes "00003 GET       BSS    2B"
    ∷ codes "00004           LOC    10B*0        OF 0123456789"
    ∷ codes "00005           END"
    ∷ codes "BLOCK 0 00000000 00000003"
    ∷ codes "ERRORS 0"
    ∷ codes "MAP"
    ∷ codes "DECK T0 REL 000100 00000003"
    ∷ codes "END"
    ∷ codes "DECK T0 REL 000100"
    ∷ codes "000100 44325460004600046000"
    ∷ codes "END"
    ∷ [])
input_024-output = refl

pub input_024-status : (answer_of input_024).status ≡ 0
input_024-status = refl

-- an input without a fault
abbrev input_025 : List ℕ
input_025 = codes "          IDENT  T0" ++ (line_feed ++ (codes "      USE              0" ++ (line_feed ++ (codes " M78W EQU               1D" ++ (line_feed ++ (codes "PACK97    BSS *-*O" ++ (line_feed ++ (codes "Z3DORQ    PL X2,=-12B" ++ ((13 ∷ []) ++ (line_feed ++ (codes "          END" ++ line_feed)))))))))))

pub input_025-output : (answer_of input_025).output ≡ text (
    codes "DECK T0 REL"
    ∷ codes "00001           IDENT  T0"
    ∷ codes "00002       USE              0"
    ∷ codes "00003  M78W EQU               1D"
    ∷ codes "00004 PACK97    BSS *-*O"
    ∷ codes "00005 Z3DORQ    PL X2,=-12B"
    ∷ codes "  000000 0 0322000001"
    ∷ codes "00006           END"
    ∷ codes "BLOCK 0 00000000 00000001"
    ∷ codes "BLOCK = 00000001 00000001"
    ∷ codes "ERRORS 0"
    ∷ codes "MAP"
    ∷ codes "DECK T0 REL 000100 00000002"
    ∷ codes "END"
    ∷ codes "DECK T0 REL 000100"
    ∷ codes "000100 03220001014600046000"
    ∷ codes "000101 77777777777777777765"
    ∷ codes "END"
    ∷ [])
input_025-output = refl

pub input_025-status : (answer_of input_025).status ≡ 0
input_025-status = refl

-- a line of 257 bytes
abbrev len_257 : List ℕ
len_257 = text (
    codes "          IDENT  T"
    ∷ codes "*                                                                                                                                                                                                                                                                "
    ∷ [])

pub len_257-message : (answer_of len_257).message ≡ text (
    codes "compass: BadLine 2 TooWide"
    ∷ [])
len_257-message = refl

pub len_257-status : (answer_of len_257).status ≡ 3
len_257-status = refl

-- a line that is too long and cut
abbrev len_257_cut : List ℕ
len_257_cut = codes "          IDENT  T" ++ (line_feed ++ codes "*                                                                                                                                                                                                                                                                ")

pub len_257_cut-message : (answer_of len_257_cut).message ≡ text (
    codes "compass: BadLine 2 TooWide"
    ∷ [])
len_257_cut-message = refl

pub len_257_cut-status : (answer_of len_257_cut).status ≡ 3
len_257_cut-status = refl

-- a carriage return among 256 bytes
abbrev cr_256 : List ℕ
cr_256 = codes "          IDENT  T" ++ (line_feed ++ (codes "*                                                                                                                                                                                                                                                               " ++ ((13 ∷ []) ++ line_feed)))

pub cr_256-message : (answer_of cr_256).message ≡ text (
    codes "compass: BadLine 2 TooWide"
    ∷ [])
cr_256-message = refl

pub cr_256-status : (answer_of cr_256).status ≡ 3
cr_256-status = refl

-- a name that is taken goes before too many decks
abbrev decks_65_taken : List ℕ
decks_65_taken = text (
    codes "          IDENT  K0"
    ∷ codes "          IDENT  K1"
    ∷ codes "          IDENT  K2"
    ∷ codes "          IDENT  K3"
    ∷ codes "          IDENT  K4"
    ∷ codes "          IDENT  K5"
    ∷ codes "          IDENT  K6"
    ∷ codes "          IDENT  K7"
    ∷ codes "          IDENT  K8"
    ∷ codes "          IDENT  K9"
    ∷ codes "          IDENT  K10"
    ∷ codes "          IDENT  K11"
    ∷ codes "          IDENT  K12"
    ∷ codes "          IDENT  K13"
    ∷ codes "          IDENT  K14"
    ∷ codes "          IDENT  K15"
    ∷ codes "          IDENT  K16"
    ∷ codes "          IDENT  K17"
    ∷ codes "          IDENT  K18"
    ∷ codes "          IDENT  K19"
    ∷ codes "          IDENT  K20"
    ∷ codes "          IDENT  K21"
    ∷ codes "          IDENT  K22"
    ∷ codes "          IDENT  K23"
    ∷ codes "          IDENT  K24"
    ∷ codes "          IDENT  K25"
    ∷ codes "          IDENT  K26"
    ∷ codes "          IDENT  K27"
    ∷ codes "          IDENT  K28"
    ∷ codes "          IDENT  K29"
    ∷ codes "          IDENT  K30"
    ∷ codes "          IDENT  K31"
    ∷ codes "          IDENT  K32"
    ∷ codes "          IDENT  K33"
    ∷ codes "          IDENT  K34"
    ∷ codes "          IDENT  K35"
    ∷ codes "          IDENT  K36"
    ∷ codes "          IDENT  K37"
    ∷ codes "          IDENT  K38"
    ∷ codes "          IDENT  K39"
    ∷ codes "          IDENT  K40"
    ∷ codes "          IDENT  K41"
    ∷ codes "          IDENT  K42"
    ∷ codes "          IDENT  K43"
    ∷ codes "          IDENT  K44"
    ∷ codes "          IDENT  K45"
    ∷ codes "          IDENT  K46"
    ∷ codes "          IDENT  K47"
    ∷ codes "          IDENT  K48"
    ∷ codes "          IDENT  K49"
    ∷ codes "          IDENT  K50"
    ∷ codes "          IDENT  K51"
    ∷ codes "          IDENT  K52"
    ∷ codes "          IDENT  K53"
    ∷ codes "          IDENT  K54"
    ∷ codes "          IDENT  K55"
    ∷ codes "          IDENT  K56"
    ∷ codes "          IDENT  K57"
    ∷ codes "          IDENT  K58"
    ∷ codes "          IDENT  K59"
    ∷ codes "          IDENT  K60"
    ∷ codes "          IDENT  K61"
    ∷ codes "          IDENT  K62"
    ∷ codes "          IDENT  K63"
    ∷ codes "          IDENT  K5"
    ∷ [])

pub decks_65_taken-message : (answer_of decks_65_taken).message ≡ text (
    codes "compass: NameTaken"
    ∷ [])
decks_65_taken-message = refl

pub decks_65_taken-status : (answer_of decks_65_taken).status ≡ 3
decks_65_taken-status = refl
