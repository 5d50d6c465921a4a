-- The packed words of an image: each row of words that stand side by side in bytes of its own, in their order
-- (ours).
use Rattle.std.specs.Prelude.{ℕ, List, flat_map}
use Rattle.word_packing.specs.Packing.{packed}
use Rattle.images.specs.{Processors.hexadecimal_digits, declared.word_rows.WordRow.WordRow, declared.image.Section.Section, declared.image.Image.Image}

-- the bytes of a row
abbrev pub row_bytes : WordRow → List ℕ
row_bytes row = packed (hexadecimal_digits row.processor) row.words.items

-- the bytes of a section
abbrev pub section_bytes : Section → List ℕ
section_bytes section = flat_map row_bytes section.rows.items

-- the bytes of an image
abbrev pub image_bytes : Image → List ℕ
image_bytes image = flat_map section_bytes image.sections.items
