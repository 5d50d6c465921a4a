-- The journal of the text of records, whole or cut.
use Rattle.std.{proofs.Common.{ℕ, ◌≡◌, ◌+◌, ◌<◌, List, [], ◌∷◌, ◌++◌, None, Some, length, take, refl, sym, ap, ◌∙◌, arith, length-append, append_assoc, append-nil}, specs.Prelude.All, proofs.lemmas.List.Elements.{All-head, All-tail}}
use Rattle.text_ports.{specs.Lines.line_feed, proofs.LineLaws.pieces_of}
use Rattle.journal.{specs.declared.records.Record.Record, specs.declared.places.Place.Place, specs.declared.places.Ending.TheVariants.{Whole, Cut}, specs.declared.steps.Step.Step, specs.Places.{capped, at_start, advanced, behind_record}, specs.Records.{ended, text_of_lines, first_line, lines_of_record, sum_line, text_of_record, text_of_records}, specs.Journals.{Journal, ends, in_front, cut_at, journal_from, journal_of}, specs.Lawful.IsLawful, specs.Replaying.fronted, proofs.JournalSteps.{stepped, journal-line, journal-nothing}, proofs.LineChains.{chain-journal, chain-cut, advanced-twice, length-ended}, proofs.LineSizes.sum-line, proofs.RecordChains.{open_whole, record-chain, record-ends, sum-told}}

-- the place behind a record
abbrev behind : Record → Place → Place
behind r place = behind_record (advanced (length (text_of_record r)) place)

-- the text of a record in front of more
record-front : (r : Record) (place : Place) (rest : List ℕ) → IsLawful r → journal_from None place (text_of_record r ++ rest) ≡ in_front r (journal_from None (behind r place) rest)
record-front r place rest lawful =
    let text = text_of_lines (lines_of_record r) in
    let last = sum_line (open_whole r).sum in
    let is = sum-line (open_whole r).sum (sum-told text) in
    let size : length text + (length last + 1) ≡ length (text_of_record r) =
    ap (λ (n : ℕ). length text + n) (sym (length-ended last)) ∙ sym (length-append text (ended last)) in
    ap (journal_from None place) (append_assoc text (ended last) rest)
    ∙ chain-journal None (first_line r) _ (open_whole r) place (ended last ++ rest) (record-chain r lawful)
    ∙ ap (journal_from (Some (open_whole r)) (advanced (length text) place)) (append_assoc last (line_feed ∷ []) rest)
    ∙ journal-line (Some (open_whole r)) (advanced (length text) place) last rest is.unbroken is.short
    ∙ ap (λ (s : Step). stepped s (advanced (length text) place) (length last + 1) (pieces_of rest)) (record-ends r)
    ∙ ap (λ (p : Place). in_front r (journal_from None (behind_record p) rest)) (advanced-twice (length text) (length last + 1) place)
    ∙ ap (λ (n : ℕ). in_front r (journal_from None (behind_record (advanced n place)) rest)) size

-- a part of the text of a record
record-cut : (r : Record) (place : Place) (count : ℕ) → IsLawful r → 0 < count → count < length (text_of_record r) → journal_from None place (take count (text_of_record r)) ≡ ends (cut_at place)
record-cut r place count lawful some fewer =
    chain-cut None (lines_of_record r) (open_whole r) (sum_line (open_whole r).sum) place count (record-chain r lawful)
    (sum-line (open_whole r).sum (sum-told (text_of_lines (lines_of_record r)))) some fewer

-- the place behind records
abbrev behind_all : List Record → Place → Place
behind_all [] place = place
behind_all (r ∷ records) place = behind_all records (behind r place)

records-front : (records : List Record) (place : Place) (rest : List ℕ) → All IsLawful records →
    journal_from None place (text_of_records records ++ rest) ≡ fronted records (journal_from None (behind_all records place) rest)
records-front [] place rest lawful = refl
records-front (r ∷ records) place rest lawful =
    ap (journal_from None place) (append_assoc (text_of_record r) (text_of_records records) rest)
    ∙ record-front r place (text_of_records records ++ rest) (All-head IsLawful r records lawful)
    ∙ ap (in_front r) (records-front records (behind r place) rest (All-tail IsLawful r records lawful))

-- at which byte the next record begins
begin-behind : (records : List Record) (place : Place) (before : ℕ) → place.begin ≡ capped before → place.bytes ≡ capped before →
    (behind_all records place).begin ≡ capped (before + length (text_of_records records))
begin-behind [] place before begun read = begun ∙ ap capped (let e : before ≡ before + 0 = omega arith in e)
begin-behind (r ∷ records) place before begun read =
    let size = length (text_of_record r) in
    let next : capped (place.bytes + size) ≡ capped (before + size) = omega (arith, read) in
    let all : (before + size) + length (text_of_records records) ≡ before + length (text_of_record r ++ text_of_records records) = omega (arith, length-append (text_of_record r) (text_of_records records)) in
    begin-behind records (behind r place) (before + size) next next ∙ ap capped all

-- whole records
pub records-back : (records : List Record) → All IsLawful records → journal_of (text_of_records records) ≡ record { records = records; ending = Whole }
records-back records lawful =
    ap journal_of (sym (append-nil (text_of_records records)))
    ∙ records-front records at_start [] lawful
    ∙ ap (λ (j : Journal). fronted records j) (journal-nothing (behind_all records at_start))
    ∙ ap (λ (rs : List Record). record { records = rs; ending = Whole }) (append-nil records)

-- whole records, and a part of one
pub records-cut : (records : List Record) (last : Record) (kept : ℕ) → All IsLawful records → IsLawful last → 0 < kept → kept < length (text_of_record last) →
    journal_of (text_of_records records ++ take kept (text_of_record last)) ≡ record { records = records; ending = Cut (capped (length (text_of_records records))) }
records-cut records last kept lawful is some fewer =
    records-front records at_start (take kept (text_of_record last)) lawful
    ∙ ap (λ (j : Journal). fronted records j) (record-cut last (behind_all records at_start) kept is some fewer)
    ∙ ap (λ (rs : List Record). record { records = rs; ending = Cut (behind_all records at_start).begin }) (append-nil records)
    ∙ ap (λ (n : ℕ). record { records = records; ending = Cut n }) (begin-behind records at_start 0 refl refl ∙ ap capped (let e : 0 + length (text_of_records records) ≡ length (text_of_records records) = omega arith in e))
