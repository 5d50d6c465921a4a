-- Worked decks, computed: expressions, counts, jumps, packed fields, and a fault.
use Rattle.std.proofs.Common.{◌≡◌, ℕ, List, [], ◌∷◌, refl, codes}
use Rattle.definitions.{specs.Answer.answer_of, proofs.WorkedText.text}

-- expressions
abbrev expressions : List ℕ
expressions = text (
    codes "          IDENT  T"
    ∷ codes "          CON    7/2*2,-7/2,2+3*4,1RA+1,*O"
    ∷ [])

pub expressions-output : (answer_of expressions).output ≡ text (
    codes "DECK T REL"
    ∷ codes "00001           IDENT  T"
    ∷ codes "00002           CON    7/2*2,-7/2,2+3*4,1RA+1,*O"
    ∷ codes "  000000 0 00000000000000000006"
    ∷ codes "  000001 0 77777777777777777774"
    ∷ codes "  000002 0 00000000000000000016"
    ∷ codes "  000003 0 00000000000000000002"
    ∷ codes "  000004 0 00000000000000000000"
    ∷ codes "BLOCK 0 00000000 00000005"
    ∷ codes "ERRORS 0"
    ∷ codes "MAP"
    ∷ codes "DECK T REL 000100 00000005"
    ∷ codes "END"
    ∷ codes "DECK T REL 000100"
    ∷ codes "000100 00000000000000000006"
    ∷ codes "000101 77777777777777777774"
    ∷ codes "000102 00000000000000000016"
    ∷ codes "000103 00000000000000000002"
    ∷ codes "000104 00000000000000000100"
    ∷ codes "END"
    ∷ [])
expressions-output = refl

pub expressions-status : (answer_of expressions).status ≡ 0
expressions-status = refl

-- counts of shifts
abbrev shift_counts : List ℕ
shift_counts = text (
    codes "          IDENT  T"
    ∷ codes "          MX0    -12"
    ∷ codes "          LX6    -6"
    ∷ codes "          AX1    -60"
    ∷ codes "          MX0    -61"
    ∷ [])

pub shift_counts-output : (answer_of shift_counts).output ≡ text (
    codes "DECK T REL"
    ∷ codes "00001           IDENT  T"
    ∷ codes "00002           MX0    -12"
    ∷ codes "  000000 0 43060"
    ∷ codes "00003           LX6    -6"
    ∷ codes "  000000 1 20666"
    ∷ codes "00004           AX1    -60"
    ∷ codes "  000000 2 21100"
    ∷ codes "00005           MX0    -61"
    ∷ codes "  ERR A"
    ∷ codes "  000000 3 43000"
    ∷ codes "BLOCK 0 00000000 00000001"
    ∷ codes "ERRORS 1"
    ∷ codes "MAP"
    ∷ codes "DECK T REL 000100 00000001"
    ∷ codes "END"
    ∷ codes "DECK T REL 000100"
    ∷ codes "000100 43060206662110043000"
    ∷ codes "END"
    ∷ [])
shift_counts-output = refl

pub shift_counts-status : (answer_of shift_counts).status ≡ 1
shift_counts-status = refl

-- jumps with their operands
abbrev branches : List ℕ
branches = text (
    codes "          IDENT  T"
    ∷ codes "          RJ     100B"
    ∷ codes "          JP     B2+5"
    ∷ codes "          GT     B1,B2,100B"
    ∷ codes "          LE     B1,B2,100B"
    ∷ codes "          ZR     X3,100B"
    ∷ codes "          MI     B4,100B"
    ∷ codes "          PS"
    ∷ codes "          BX6    X1"
    ∷ [])

pub branches-output : (answer_of branches).output ≡ text (
    codes "DECK T REL"
    ∷ codes "00001           IDENT  T"
    ∷ codes "00002           RJ     100B"
    ∷ codes "  000000 0 0100000100"
    ∷ codes "00003           JP     B2+5"
    ∷ codes "  000001 0 0220000005"
    ∷ codes "00004           GT     B1,B2,100B"
    ∷ codes "  000002 0 0721000100"
    ∷ codes "00005           LE     B1,B2,100B"
    ∷ codes "  000002 2 0621000100"
    ∷ codes "00006           ZR     X3,100B"
    ∷ codes "  000003 0 0303000100"
    ∷ codes "00007           MI     B4,100B"
    ∷ codes "  000003 2 0740000100"
    ∷ codes "00008           PS"
    ∷ codes "  000004 0 0000000000"
    ∷ codes "00009           BX6    X1"
    ∷ codes "  000005 0 10611"
    ∷ codes "BLOCK 0 00000000 00000006"
    ∷ codes "ERRORS 0"
    ∷ codes "MAP"
    ∷ codes "DECK T REL 000100 00000006"
    ∷ codes "END"
    ∷ codes "DECK T REL 000100"
    ∷ codes "000100 01000001004600046000"
    ∷ codes "000101 02200000054600046000"
    ∷ codes "000102 07210001000621000100"
    ∷ codes "000103 03030001000740000100"
    ∷ codes "000104 00000000004600046000"
    ∷ codes "000105 10611460004600046000"
    ∷ codes "END"
    ∷ [])
branches-output = refl

pub branches-status : (answer_of branches).status ≡ 0
branches-status = refl

-- fields of a VFD
abbrev variable_fields : List ℕ
variable_fields = text (
    codes "          IDENT  T"
    ∷ codes "          VFD    12/1,24/-1,30/7"
    ∷ [])

pub variable_fields-output : (answer_of variable_fields).output ≡ text (
    codes "DECK T REL"
    ∷ codes "00001           IDENT  T"
    ∷ codes "00002           VFD    12/1,24/-1,30/7"
    ∷ codes "  000000 0 00017777777600000000"
    ∷ codes "  000001 0 07000000000000000000"
    ∷ codes "BLOCK 0 00000000 00000002"
    ∷ codes "ERRORS 0"
    ∷ codes "MAP"
    ∷ codes "DECK T REL 000100 00000002"
    ∷ codes "END"
    ∷ codes "DECK T REL 000100"
    ∷ codes "000100 00017777777600000000"
    ∷ codes "000101 07000000000000000000"
    ∷ codes "END"
    ∷ [])
variable_fields-output = refl

pub variable_fields-status : (answer_of variable_fields).status ≡ 0
variable_fields-status = refl

-- a fault of the input
abbrev two_decks_of_one_name : List ℕ
two_decks_of_one_name = text (
    codes "          IDENT  T"
    ∷ codes "          IDENT  T"
    ∷ [])

pub two_decks_of_one_name-output : (answer_of two_decks_of_one_name).output ≡ []
two_decks_of_one_name-output = refl

pub two_decks_of_one_name-message : (answer_of two_decks_of_one_name).message ≡ text (
    codes "compass: NameTaken"
    ∷ [])
two_decks_of_one_name-message = refl

pub two_decks_of_one_name-status : (answer_of two_decks_of_one_name).status ≡ 3
two_decks_of_one_name-status = refl
