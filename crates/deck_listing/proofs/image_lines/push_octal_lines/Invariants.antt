use Rattle.std.proofs.Common.{◌≡◌, ◌+◌, ◌-◌, ◌++◌, codes, length}
use Rattle.definitions.specs.{Listing.line, Numerals.octal_of}
use Rattle.deck_listing.specs.Joins.ImageWordLines.{octal_lines}
use Rattle.deck_listing.proofs.image_lines.push_octal_lines.Given as goal

abbrev pub invariant-loop-index : goal.invariant-loop-index
invariant-loop-index l = record {
  end : l.end ≡ codes " " ++ line (octal_of l.value_digits l.value);
  len : length l.end ≡ l.value_digits + 2;
  text : l.text ++ octal_lines l.address_digits l.value_digits (l.address + l.index) (l.count - l.index) l.value
      ≡ l.fn.text ++ octal_lines l.address_digits l.value_digits l.address l.count l.value;
}
