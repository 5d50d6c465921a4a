-- The versions that a folder has seen (ours).
use Rattle.std.specs.{Prelude.{ℕ, ◌≡◌, ◌≢◌, ◌+◌, ◌-◌, ◌^◌, ◌<◌, ◌==◌, ◌⊎◌, [], ◌++◌, Bool, true, false, ◌&&◌, List, Option, Some, None, Result, Ok, Err, codes, decimal, drop, if◌then◌else◌, length, max, min, nat_le, option_map, take}, List.list_all, declared.io.ErrorKind.ErrorKind}
use Rattle.std.specs.declared.io.ErrorKind.TheVariants.{NotFound, OutOfMemory as NoMemory}
use Rattle.definitions.specs.{Characters.{is_digit, same_text}, Fields.unbroken_front, Numerals.{digits_of, number_of}}
use Rattle.journal.specs.{declared.marks.Mark.Mark, Marks.is_same_mark}
use Rattle.session_commands.specs.{Sought.{begins_with, has_text}, Words.from_blank}
use Rattle.desk_service.specs.declared.{faults.ServeFault.ServeFault, faults.ServeFault.TheVariants.{BadVersions, OutOfMemory}, settings.Journaling.Journaling, settings.Journaling.TheVariants.{Off, InRoot, At}, versions.Seen.Seen}

-- ---- which versions come next

-- whether a journal holds what is noted, by the mark of its first bytes, as many as are noted, or all, where it has fewer; where nothing is noted it does
abbrev pub holds_noted : Option Mark → Mark → Bool
holds_noted None front = true
holds_noted (Some noted) front = is_same_mark noted front

-- whether a journal is the latest of its folder: the versions that were given out last are in a journal of its name, and it holds what is noted
abbrev pub is_latest : Bool → Option Mark → Mark → Bool
is_latest named noted front = named && holds_noted noted front

-- behind which version a service goes on: its journal's last one, where that journal is the latest of the folder; and else none that was given out there, since all of those are below the bound
abbrev pub begun_behind : ℕ → ℕ → Bool → ℕ
begun_behind last bound true = last
begun_behind last bound false = max last bound

-- the bound of the versions that a service gives out which goes on behind one
abbrev pub next_bound : ℕ → ℕ
next_bound begun = min (begun + 1000000000000) (2 ^ 64 - 1)

-- whether a bound is far enough for a service that goes on behind a version: half of the versions that it may give out are left
abbrev pub is_far : ℕ → ℕ → Bool
is_far bound begun = nat_le (min (begun + 500000000000) (2 ^ 64 - 1)) bound

-- whether a journal keeps anything, and by which name a folder tells of it
abbrev pub is_journal : Journaling → Bool
is_journal Off = false
is_journal InRoot = true
is_journal (At path) = true

abbrev pub journal_name : Journaling → List ℕ
journal_name Off = codes "none"
journal_name InRoot = codes "beskloun.journal"
journal_name (At path) = path.now

-- whether a folder tells that the versions that were told last are in this journal, and how much of it is kept, where it tells that
abbrev pub is_of : Seen → Journaling → Bool
is_of seen journal = is_journal journal && same_text seen.owner (journal_name journal)

abbrev pub noted_of : Seen → Journaling → Option Mark
noted_of seen journal = if is_of seen journal then seen.noted else None

-- ---- the text of a folder, as it is written

-- the line of a service that goes on behind a version, with the name of its journal, where all versions that were given out are below a bound: no bound is taken back
abbrev pub versions_line : ℕ → List ℕ → ℕ → List ℕ
versions_line bound name begun = decimal (max bound (next_bound begun)) ++ (codes " " ++ (name ++ codes "\n"))

-- a mark has a length of 64 bits, and a check sum of 32
abbrev pub IsMark : Mark → Type 0
IsMark mark = (mark.length < 2 ^ 64) × (mark.sum < 2 ^ 32)

-- the line of a note, behind that line: how many bytes of the journal are kept, and their check sum
abbrev pub mark_line : Mark → List ℕ
mark_line mark = codes "MARK " ++ (digits_of 10 20 mark.length ++ (codes " " ++ (digits_of 10 10 mark.sum ++ codes "\n")))

-- ---- and as it is read

-- the number that decimal digits make, leading zeros among them, if it is at most this one
abbrev pub number_in : ℕ → List ℕ → Option ℕ
number_in most text = if nat_le 1 (length text) && list_all is_digit text && nat_le (number_of 10 text) most then Some (number_of 10 text) else None

-- whether the parts of a line beside its two numbers are those of a note
abbrev pub is_note : List ℕ → List ℕ → List ℕ → Bool
is_note word blank end = same_text word (codes "MARK ") && same_text blank (codes " ") && same_text end (codes "\n")

-- the mark of these two numbers, in a note
abbrev pub mark_by : Bool → Option ℕ → Option ℕ → Option Mark
mark_by true (Some bytes) (Some sum) = Some (record { length = bytes; sum = sum })
mark_by note bytes sum = None

-- what the line of a note tells: 20 digits of a length, and 10 of a check sum
abbrev pub mark_in : List ℕ → Option Mark
mark_in line =
    let length_on = drop 5 line in
    let blank_on = drop 20 length_on in
    let sum_on = drop 1 blank_on in
    if length line == 37 then mark_by (is_note (take 5 line) (take 1 blank_on) (drop 10 sum_on)) (number_in (2 ^ 64 - 1) (take 20 length_on)) (number_in (2 ^ 32 - 1) (take 10 sum_on)) else None

-- what a folder has seen that tells this: a bound, a journal, what is noted of that, and at which byte
abbrev pub seen_of : ℕ → List ℕ → Option Mark → ℕ → Seen
seen_of bound owner noted begin = record { bound = bound; owner = owner; noted = noted; begin = begin; is_kept = true }

-- what a line of so many bytes tells, by its parts: the digits of a bound, the blank and the name of a journal behind them, and its end
abbrev pub seen_by : List ℕ → List ℕ → List ℕ → ℕ → Option Mark → Option Seen
seen_by digits name end size noted =
    if nat_le 1 (length name) && same_text end (codes "\n") then option_map (λ bound. seen_of bound (drop 1 name) noted size) (number_in (2 ^ 64 - 1) digits) else None

-- what the line of a folder tells, with what is noted behind it: digits, a blank, the name of a journal, and a line feed
abbrev pub line_of : List ℕ → Option Mark → Option Seen
line_of line noted =
    let told = take (length line - 1) line in
    seen_by (unbroken_front told) (from_blank told) (drop (length line - 1) line) (length line) noted

-- the same of a line with a note behind it, which has to tell a mark
abbrev pub noted_line_of : List ℕ → Option Mark → Option Seen
noted_line_of line None = None
noted_line_of line (Some mark) = line_of line (Some mark)

-- whether a text ends with a note: its last 37 bytes begin with MARK, behind a line feed
abbrev pub has_note : List ℕ → Bool
has_note text = begins_with (codes "\nMARK ") (drop (length text - 38) text)

-- what the text of a folder tells: a line with a note behind it, or one line alone; none where it is neither
abbrev pub versions_in : List ℕ → Option Seen
versions_in text =
    let line = length text - 37 in
    if has_note text then noted_line_of (take line text) (mark_in (drop line text))
    else if has_text (codes "\n") (take (length text - 1) text) then None else line_of text None

-- a folder that has seen nothing
abbrev pub nothing_seen : Seen
nothing_seen = seen_of 0 [] None 0

-- what is known of a folder by its text: what that tells; a fault where it tells nothing; or no memory was left
abbrev pub TellsVersions : List ℕ → Result Seen ServeFault → Type 0
TellsVersions text (Ok seen) = versions_in text ≡ Some seen
TellsVersions text (Err fault) = (fault ≡ OutOfMemory) ⊎ ((fault ≡ BadVersions) × (versions_in text ≡ None))

-- and by the fault of the system for which that could not be read: where it is not there, nothing was seen; and else it is a fault
abbrev pub TellsFault : ErrorKind → Result Seen ServeFault → Type 0
TellsFault kind (Ok seen) = (kind ≡ NotFound) × (seen ≡ nothing_seen)
TellsFault kind (Err fault) = ((kind ≡ NoMemory) × (fault ≡ OutOfMemory)) ⊎ ((kind ≢ NotFound) × (kind ≢ NoMemory) × (fault ≡ BadVersions))
