-- The rows of known files, line by line: what is left to be read, with what is known so far, is what all lines show.
use Rattle.std.proofs.Common.{ℕ, ◌≡◌, List, [], ◌∷◌, ◌++◌, Option, Some, None, refl, sym, ap, ◌∙◌, arith, append-nil}
use Rattle.definitions.specs.InputLines.{InputLine, lines_of}
use Rattle.text_ports.{specs.Lines.ReadsLine, proofs.LineLaws.{lines_of-taken, lines_of-cut, lines_of-long}}
use Rattle.text_ports.specs.declared.lines.LineIs.TheVariants as is
use Rattle.deck_files.specs.{declared.known_rows.Known.Known, declared.known_texts.KnownRow.KnownRow, Files.{Named, with_named}, KnownFiles.known_up_to, KnownTexts.{row_in, rows_behind, with_row}}

-- behind a line that is no row nothing is known
pub rows-none : (last : ℕ) (lines : List InputLine) → rows_behind last None lines ≡ None
rows-none last [] = refl
rows-none last (line ∷ lines) = refl

-- a line
pub rows-line : (last : ℕ) (files : Named (Option Known)) (rest next line : List ℕ) → ReadsLine (Some rest) (Some next) is.Line line →
    rows_behind last (Some files) (lines_of rest) ≡ rows_behind last (with_row last (row_in line) files) (lines_of next)
rows-line last files rest next line read =
    ap (λ (bytes : List ℕ). rows_behind last (Some files) (lines_of bytes)) read.1 ∙ ap (rows_behind last (Some files)) (lines_of-taken read.0 line next read.2)

-- a line that is no row
pub rows-no_row : (last : ℕ) (files : Named (Option Known)) (rest next line text : List ℕ) (whole : Option (Named (Option Known))) → ReadsLine (Some rest) (Some next) is.Line line → text ≡ line → None ≡ row_in text →
    rows_behind last (Some files) (lines_of rest) ≡ whole → None ≡ whole
rows-no_row last files rest next line text whole read same none so_far =
    sym (rows-none last (lines_of next))
    ∙ ap (λ (row : Option KnownRow). rows_behind last (with_row last row files) (lines_of next)) (none ∙ ap row_in same)
    ∙ sym (rows-line last files rest next line read)
    ∙ so_far

-- a row
pub rows-row : (last : ℕ) (files after : Named (Option Known)) (rest next line text : List ℕ) (row : KnownRow) (whole : Option (Named (Option Known))) → ReadsLine (Some rest) (Some next) is.Line line → text ≡ line →
    Some row ≡ row_in text → after ≡ with_named row.name (Some (known_up_to last row.known)) files → rows_behind last (Some files) (lines_of rest) ≡ whole → rows_behind last (Some after) (lines_of next) ≡ whole
rows-row last files after rest next line text row whole read same some added so_far =
    ap (λ (known : Named (Option Known)). rows_behind last (Some known) (lines_of next)) added
    ∙ ap (λ (row : Option KnownRow). rows_behind last (with_row last row files) (lines_of next)) (some ∙ ap row_in same)
    ∙ sym (rows-line last files rest next line read)
    ∙ so_far

-- a line that may be cut
pub rows-cut : (last : ℕ) (files : Named (Option Known)) (rest next line : List ℕ) → ReadsLine (Some rest) (Some next) is.Cut line → rows_behind last (Some files) (lines_of rest) ≡ None
rows-cut last files rest next line read =
    let whole : rest ≡ read.0 = read.1 ∙ ap (λ (behind : List ℕ). read.0 ++ behind) read.3 ∙ append-nil read.0 in
    ap (λ (bytes : List ℕ). rows_behind last (Some files) (lines_of bytes)) whole
    ∙ ap (rows_behind last (Some files)) (lines_of-cut read.0 read.2.2 read.2.0 read.2.1)

-- a line that is too long
pub rows-long : (last : ℕ) (files : Named (Option Known)) (rest next line : List ℕ) → ReadsLine (Some rest) (Some next) is.TooLong line → rows_behind last (Some files) (lines_of rest) ≡ None
rows-long last files rest next line read =
    let long = lines_of-long read.0 next read.2.1 (omega (arith, read.2.0)) in
    ap (λ (bytes : List ℕ). rows_behind last (Some files) (lines_of bytes)) read.1 ∙ ap (rows_behind last (Some files)) long.1
